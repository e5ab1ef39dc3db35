-- `special_answer` meets its contract: each return is one case of `Cases`, at the tests that led there. Assumes nothing.
use mathlib.Core.Path.{refl, ◌∙◌}
use mathlib.Core.Logic.{inl, inr, ⊎_elim}
use Prim.Native.Nat.{◌≤◌, ◌<◌}
use native.Mathlib.Omega.{arith}
use Rattle.float_format.specs.Format.{infinity, unsigned}
use Rattle.float_format.specs.Width.{format}
use Rattle.float_format.proofs.Integral.{default_nan_lt}
use Rattle.remainder.proofs.Cases.{answered, nan_first, nan_second, no_remainder_lem, infinite_divisor, special_last}
use Rattle.remainder.proofs.field_sizes.special_answer.Goals.{Else-a-infinity, Else-b-infinity}
use Rattle.remainder.proofs.field_sizes.special_answer.Goals as goal

-- past the first test x is no NaN, and past the second neither is y
no-nan-x : (c : Else-a-infinity) → unsigned (format c.args.fraction c.args.exponent) c.args.x ≤ infinity (format c.args.fraction c.args.exponent)
no-nan-x c = omega (arith, c.if-a-infinity.false, c.rest-a.ensures, c.infinity_of-infinity.ensures)

no-nan-y : (c : Else-b-infinity) → unsigned (format c.args.fraction c.args.exponent) c.args.y ≤ infinity (format c.args.fraction c.args.exponent)
no-nan-y c = omega (arith, c.if-b-infinity.false, c.rest-b.ensures, c.infinity_of-infinity.ensures)

pub returns-then-a-infinity : goal.returns-then-a-infinity
returns-then-a-infinity c =
    let f = format c.args.fraction c.args.exponent in
    rw (c.of.ensures.0, c.of.ensures.1)
    (answered f c.args.x c.args.y _
    (nan_first f c.args.x c.args.y (omega (arith, c.if-a-infinity.true, c.rest-a.ensures, c.infinity_of-infinity.ensures)))
    c.quiet.ensures.0
    c.quiet.ensures.1)

pub returns-then-b-infinity : goal.returns-then-b-infinity
returns-then-b-infinity c =
    let f = format c.args.fraction c.args.exponent in
    rw (c.of-then-b-infinity.ensures.0, c.of-then-b-infinity.ensures.1)
    (answered f c.args.x c.args.y _
    (nan_second f c.args.x c.args.y (no-nan-x (goal.at.returns-then-b-infinity c).Else-a-infinity) (omega (arith, c.if-b-infinity.true, c.rest-b.ensures, c.infinity_of-infinity.ensures)))
    c.quiet-then-b-infinity.ensures.0
    c.quiet-then-b-infinity.ensures.1)

pub returns-then-a-infinity-2 : goal.returns-then-a-infinity-2
returns-then-a-infinity-2 c =
    let f = format c.args.fraction c.args.exponent in
    answered f c.args.x c.args.y _
    (no_remainder_lem f c.args.x c.args.y (no-nan-x (goal.at.returns-then-a-infinity-2 c).Else-a-infinity) (no-nan-y (goal.at.returns-then-a-infinity-2 c).Else-b-infinity)
    (⊎_elim (λ h. inl (omega (arith, h, c.rest-a.ensures, c.infinity_of-infinity.ensures))) (λ h. inr (omega (arith, h.1, c.rest-b.ensures))) c.then-a-infinity-2.either))
    c.requires.4
    (omega (arith, c.requires.4, default_nan_lt f c.requires.0.valid))

pub returns : goal.returns
returns c =
    let f = format c.args.fraction c.args.exponent in
    let hy : unsigned f c.args.y ≤ infinity f = no-nan-y (goal.at.returns c).Else-b-infinity in
    let hx : unsigned f c.args.x < infinity f = omega (arith, no-nan-x (goal.at.returns c).Else-a-infinity, c.rest-a.ensures, c.infinity_of-infinity.ensures) in
    rw (c.of-2.ensures.0, c.of-2.ensures.1)
    (answered f c.args.x c.args.y _
    (infinite_divisor f c.args.x c.args.y hx
    (special_last f c.args.x c.args.y c.requires.3 hx hy (λ e. c.if-b-eq0.false (c.rest-b.ensures ∙ e))))
    refl
    c.requires.1)
