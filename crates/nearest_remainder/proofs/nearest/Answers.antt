-- `nearest` meets its contract: what is left, the sign and the quotient follow from one test. Assumes nothing.
use mathlib.Core.Path.{◌≡◌, sym, ap, ◌∙◌}
use mathlib.Core.Bool.{Bool, true, false, cond}
use Prim.Native.Nat.{ℕ, ◌+◌, ◌-◌, ◌*◌, ◌%◌, ◌^◌, ◌≤◌, ◌<◌}
use native.Mathlib.Omega.{arith}
use lib.Dec.{ltb}
use lib.Ieee.{unlike}
use lib.Pow.{pow_mono}
use Rattle.float_format.specs.Format.{sign_bit, negative, unsigned}
use Rattle.float_format.specs.Number.{encode, units_of}
use Rattle.float_format.specs.Rounding.{with_sign}
use Rattle.float_format.proofs.Order.{magnitude_zero}
use Rattle.float_format.proofs.Sizes.{sizes, zero_le}
use Rattle.float_format.proofs.Units.{magnitude_mono}
use Rattle.remainder.proofs.Cases.{left_refuses}
use Rattle.remainder.proofs.Laws.{Operands}
use Rattle.nearest_remainder.proofs.Cases.{divided, quotient}
use Rattle.nearest_remainder.proofs.Halves.{rest_lt, quotient_is, word_is}
use Rattle.nearest_remainder.proofs.nearest.Goals.{After-chosen-left, After-encoded, After-goes_on-on, Start}
use Rattle.nearest_remainder.proofs.nearest.Goals as goal

operands : (g : _) (s : Start g) → Operands g.P.Pattern.format s.args.x s.args.y
operands g s = let o = s.requires.0 in record { finite_x = o.finite_x; finite_y = o.finite_y; nonzero = o.nonzero }

some : (g : _) (s : Start g) → 0 < units_of g.P.Pattern.format s.args.y
some g s = omega (arith, magnitude_zero g.P.Pattern.format.fraction, magnitude_mono g.P.Pattern.format.fraction s.requires.0.nonzero)

less : (g : _) (s : Start g) → s.args.p.rest < s.args.p.divisor
less g s = let p = s.args.p in rest_lt g.P.Pattern.format (unsigned g.P.Pattern.format s.args.x) (unsigned g.P.Pattern.format s.args.y) p.quotient p.rest p.divisor p.scale s.requires.1 (some g s)

-- the test
on-is : (g : _) (c : After-goes_on-on g) → c.goes_on-on.result ≡ ltb c.args.p.divisor (2 * c.args.p.rest + c.args.p.quotient % 2)
on-is g c = c.goes_on-on.ensures

left_is : (g : _) (c : After-chosen-left g) → c.chosen-left.result ≡ cond (ltb c.args.p.divisor (2 * c.args.p.rest + c.args.p.quotient % 2)) (c.args.p.divisor - c.args.p.rest) c.args.p.rest
left_is g c =
    let p = c.args.p in
    c.chosen-left.ensures ∙ ap (λ (t : Bool). cond t (p.divisor - p.rest) p.rest) (on-is g (goal.at.After-chosen-left g c).After-goes_on-on)

sum_lt : (g : _) (c : After-encoded g) → c.chosen-sign.result + c.encoded.result < 2 * sign_bit g.P.Pattern.format
sum_lt g c =
    let s = c in
    let z = c.signed_zero-zero in
    let b = c.sign_bit in
    omega (arith, c.encoded.ensures.1, small c.goes_on-on.result c.chosen-sign.ensures b.ensures (rw z.ensures (zero_le g.P.Pattern.format s.args.x s.requires.0.pattern)))
  where
    small : {r b z S : ℕ} (t : Bool) → r ≡ cond t (b - z) z → b ≡ S → z ≤ S → r ≤ S
    small true e h l = omega arith
    small false e h l = omega arith

pub goes_on-on-requires : goal.goes_on-on-requires
goes_on-on-requires g c = omega (arith, less g (goal.at.goes_on-on-requires g c).Start, c.requires.1.few, pow_mono {i = g.P.Pattern.format.fraction} {j = 52} c.requires.0.most)

pub overflow_sub-p : goal.overflow_sub-p
overflow_sub-p g c = omega (arith, less g (goal.at.overflow_sub-p g c).Start)

pub overflow_sub-sign_bit : goal.overflow_sub-sign_bit
overflow_sub-sign_bit g c =
    let s = c in
    rw (c.signed_zero-zero.ensures, c.sign_bit.ensures) (zero_le g.P.Pattern.format s.args.x s.requires.0.pattern)

pub overflow_add-result : goal.overflow_add-result
overflow_add-result g c =
    let s = c in
    omega (arith, sum_lt g (goal.at.overflow_add-result g c).After-encoded, (sizes g.P.Pattern.format g.met.P.Pattern.fits).sign_le)

pub returns : goal.returns
returns g c =
    let s = c in
    let f = g.P.Pattern.format in
    let a = s.args in
    let p = a.p in
    let e = c.encoded in
    let sign = c.chosen-sign in
    let z = c.signed_zero-zero in
    let b = c.sign_bit in
    record {
      word =
          word_is f (unsigned f a.x) (unsigned f a.y) p.quotient p.rest p.divisor p.scale s.requires.1 (some g (goal.at.returns g c).Start) a.x sign.result e.result s.requires.0.pattern
          (sign.ensures ∙ rw (on-is g (goal.at.returns g c).After-goes_on-on, z.ensures, b.ensures))
          (e.ensures.0 ∙ ap (λ (n : ℕ). encode g.P.Pattern.format.fraction (n * 2 ^ p.scale)) (left_is g (goal.at.returns g c).After-chosen-left))
          ∙ sym (divided f a.x a.y (operands g (goal.at.returns g c).Start));
      pattern = sum_lt g (goal.at.returns g c).After-encoded;
      quotient =
          ap (with_sign (unlike (negative f a.x) (negative f a.y)))
          (ap (λ (n : ℕ). (p.quotient + n) % 8) (c.chosen.ensures ∙ ap (λ (t : Bool). cond t 1 0) (on-is g (goal.at.returns g c).After-goes_on-on))
          ∙ quotient_is f (unsigned f a.x) (unsigned f a.y) p.quotient p.rest p.divisor p.scale s.requires.1 (some g (goal.at.returns g c).Start))
          ∙ sym (quotient f a.x a.y (operands g (goal.at.returns g c).Start));
      small = omega arith;
      refusal = left_refuses f a.x a.y s.requires.0;
    }
