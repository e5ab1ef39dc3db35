-- `pattern_of` meets its contract. Assumes nothing.
use mathlib.Core.Path.{◌≡◌, sym, ap, ◌∙◌}
use mathlib.Core.Bool.{true, false}
use Prim.Native.Nat.{ℕ, ◌*◌, ◌^◌, ◌<◌}
use native.Mathlib.Omega.{arith}
use lib.IntN.{nat_abs}
use Rattle.twos_complement.proofs.Signs.{ge_test}
use Rattle.float_format.specs.Number.{encode}
use Rattle.values.proofs.Wholes.{largest, pattern_up, pattern_down}
use Rattle.values.proofs.step.pattern_of.Goals.{Joined-a-lt9007199254740992, else-a-lt9007199254740992, then-a-lt9007199254740992}
use Rattle.values.proofs.step.pattern_of.Goals as goal

-- the pattern without its sign
rest : (c : Joined-a-lt9007199254740992) → (c.if-a-lt9007199254740992.rest ≡ encode 52 (nat_abs c.args.z * 2 ^ 1074)) × (c.if-a-lt9007199254740992.rest < 2 ^ 63)
rest c =
    let a : c.args.a ≡ nat_abs c.args.z = c.requires.0 in
    elim c.if-a-lt9007199254740992.branch [
      | then-a-lt9007199254740992 w ↦ (w.rest-is ∙ w.encoded-rest.ensures.0 ∙ ap (λ (n : ℕ). encode 52 (n * 2 ^ 1074)) a, omega (arith, w.rest-is, w.encoded-rest.ensures.1))
      | else-a-lt9007199254740992 w ↦ let e : 2 ^ 53 ≡ nat_abs c.args.z = omega (arith, a, c.requires.1, w.if-a-lt9007199254740992.false) in
          (w.rest-is ∙ sym largest ∙ ap (λ (n : ℕ). encode 52 (n * 2 ^ 1074)) e, omega (arith, w.rest-is))
    ]

pub returns-then-z-ge0 : goal.returns-then-z-ge0
returns-then-z-ge0 c = pattern_up c.args.z c.if-a-lt9007199254740992.rest (ge_test c.args.z true c.ranges.z c.if-z-ge0.true) (rest (goal.at.returns-then-z-ge0 c).Joined-a-lt9007199254740992).0

pub overflow_add-result : goal.overflow_add-result
overflow_add-result c = omega (arith, (rest (goal.at.overflow_add-result c).Joined-a-lt9007199254740992).1)

pub returns : goal.returns
returns c = rw c.sign_bit.ensures (pattern_down c.args.z c.if-a-lt9007199254740992.rest (ge_test c.args.z false c.ranges.z c.if-z-ge0.false) (rest (goal.at.returns c).Joined-a-lt9007199254740992).0)
