-- `packed` meets its contract. Assumes nothing.
use mathlib.Core.Path.{◌≡◌, ap, ◌∙◌}
use Prim.Native.Nat.{ℕ, ◌+◌, ◌-◌, ◌*◌, ◌^◌}
use native.Mathlib.Omega.{arith}
use Rattle.float_format.specs.Rounding.{parts, capped}
use Rattle.float_format.specs.declared.Direction.TheVariants.{HalfEven}
use mathlib.Core.Bool.{false}
use Rattle.integer_arithmetic.proofs.Packing.{Packing, kept, low_kept, kept_most, low_finite, normal_answer, subnormal_answer}
use Rattle.integer_arithmetic.proofs.Words.{wide_fits}
use Rattle.integer_arithmetic.proofs.packed.Goals.{After-leading_shift-k, After-power, After-shifted-2, Start}
use Rattle.integer_arithmetic.proofs.packed.Goals as goal

abbrev place : (g : _) (c : After-leading_shift-k g) → ℕ
place g c = c.args.t + (61 - g.P.Pattern.format.fraction) - c.leading_shift-k.result

on : (g : _) (c : After-leading_shift-k g) → Packing g.P.Pattern.format c.args.w c.args.t c.args.b c.leading_shift-k.result (place g c)
on g c =
    let k = c.leading_shift-k in
    record {
      fits = (wide_fits g.P.Pattern.format g.met.P.Pattern.fits g.met.P.Wide.wide);
      few = k.ensures.0;
      low = k.ensures.1;
      high = omega (arith, k.ensures.2);
      at = omega (arith, k.ensures.0, c.requires);
    }

-- the leading one in its place
up : (g : _) (c : After-power g) → c.args.w * c.power.result ≡ c.args.w * 2 ^ c.leading_shift-k.result
up g c = ap (λ (p : ℕ). c.args.w * p) c.power.ensures

-- the digits that a normal answer keeps
kept-is : (g : _) (c : After-shifted-2 g) → c.shifted-2.result
    ≡ kept g.P.Pattern.format c.args.w c.args.t c.args.b c.leading_shift-k.result (place g (goal.at.After-shifted-2 g c).After-leading_shift-k) (on g (goal.at.After-shifted-2 g c).After-leading_shift-k)
kept-is g c =
    rw (c.shifted-2.ensures.0, c.fraction_bits-drop.ensures) (ap (λ (m : ℕ). parts HalfEven false m (2 ^ (61 - g.P.Pattern.format.fraction))) (up g (goal.at.After-shifted-2 g c).After-power))

pub overflow_mul-m : goal.overflow_mul-m
overflow_mul-m g c = omega (arith, up g (goal.at.overflow_mul-m g c).After-power, (on g (goal.at.overflow_mul-m g c).After-leading_shift-k).high)

pub shifted-requires : goal.shifted-requires
shifted-requires g c = (omega arith, omega (arith, up g (goal.at.shifted-requires g c).After-power, (on g (goal.at.shifted-requires g c).After-leading_shift-k).high), omega (arith, (on g (goal.at.shifted-requires g c).After-leading_shift-k).fits.short))

pub returns-then-place-b : goal.returns-then-place-b
returns-then-place-b g c =
    let k = c in
    let s = (goal.at.returns-then-place-b g c).Start in
    let a = s.args in
    let j = k.leading_shift-k.result in
    let e : c.shifted.result ≡ low_kept g.P.Pattern.format a.w a.t a.b j (place g (goal.at.returns-then-place-b g c).After-leading_shift-k) (on g (goal.at.returns-then-place-b g c).After-leading_shift-k) = rw (c.shifted.ensures.0, c.fraction_bits-drop.ensures) (ap (λ (m : ℕ). parts HalfEven false m (2 ^ (61 - g.P.Pattern.format.fraction + (a.b - place g (goal.at.returns-then-place-b g c).After-leading_shift-k)))) (up g (goal.at.returns-then-place-b g c).After-power)) in
    rw e
    (λ t n u z. subnormal_answer g.P.Pattern.format a.w a.t a.b j (place g (goal.at.returns-then-place-b g c).After-leading_shift-k) (on g (goal.at.returns-then-place-b g c).After-leading_shift-k) t n u z (rw c.fraction_bits-drop.ensures at c.if-place-b.true), omega (arith, low_finite g.P.Pattern.format a.w a.t a.b j (place g (goal.at.returns-then-place-b g c).After-leading_shift-k) (on g (goal.at.returns-then-place-b g c).After-leading_shift-k) (rw c.fraction_bits-drop.ensures at c.if-place-b.true)))

pub shifted-requires-2 : goal.shifted-requires-2
shifted-requires-2 g c = (omega arith, omega (arith, up g (goal.at.shifted-requires-2 g c).After-power, (on g (goal.at.shifted-requires-2 g c).After-leading_shift-k).high), omega (arith, (on g (goal.at.shifted-requires-2 g c).After-leading_shift-k).fits.short))

pub cut-requires : goal.cut-requires
cut-requires g c =
    let k = c in
    let s = (goal.at.cut-requires g c).Start in
    let a = s.args in
    (rw (kept-is g (goal.at.cut-requires g c).After-shifted-2) (kept_most g.P.Pattern.format a.w a.t a.b k.leading_shift-k.result (place g (goal.at.cut-requires g c).After-leading_shift-k) (on g (goal.at.cut-requires g c).After-leading_shift-k)))

pub returns : goal.returns
returns g c =
    let k = c in
    let s = (goal.at.returns g c).Start in
    let a = s.args in
    let j = k.leading_shift-k.result in
    let e = (rw c.fraction_bits-drop.ensures at c.cut.ensures.0) ∙ ap (λ (m : ℕ). capped g.P.Pattern.format ((place g (goal.at.returns g c).After-leading_shift-k - a.b) * 2 ^ g.P.Pattern.format.fraction + m)) (kept-is g (goal.at.returns g c).After-shifted-2) in
    (λ t n u z. rw e (normal_answer g.P.Pattern.format a.w a.t a.b j (place g (goal.at.returns g c).After-leading_shift-k) (on g (goal.at.returns g c).After-leading_shift-k) t n u z (omega (arith, c.if-place-b.false, c.fraction_bits-drop.ensures))), c.cut.ensures.1)
