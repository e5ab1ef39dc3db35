-- `round_finite` meets its contract: what is cut, by the arm that gave it. Assumes nothing.
use mathlib.Core.Path.{ap, ◌∙◌}
use Prim.Native.Nat.{ℕ, ◌-◌}
use native.Mathlib.Omega.{arith}
use lib.Bits.{bit_and}
use lib.Pow.{pow_pos, pow_mono}
use Rattle.std.proofs.lemmas.Nat.{and_mask}
use Rattle.float_format.proofs.Sizes.{Sizes, sizes}
use Rattle.float_format.specs.declared.Direction.TheVariants.{HalfAway}
use Rattle.rounding.proofs.Directions.{answered}
use Rattle.rounding.proofs.Masks.{sum_fits, low_is, high_is}
use Rattle.rounding.proofs.round_finite.Goals.{Start, else-e-bias_of, then-e-bias_of}
use Rattle.rounding.proofs.round_finite.Goals as goal

small : (g : _) (s : Start g) → Sizes g.P.Pattern.format
small g s = sizes g.P.Pattern.format s.requires.word

pub overflow_add-sum : goal.overflow_add-sum
overflow_add-sum g c = omega (arith, c.fraction_mask-mask.ensures.most, pow_mono {i = g.P.Pattern.format.fraction} {j = 62} (omega (arith, (small g (goal.at.overflow_add-sum g c).Start).fraction_lt)))

pub overflow_add-sum-2 : goal.overflow_add-sum-2
overflow_add-sum-2 g c = omega (arith, sum_fits g.P.Pattern.format c.args.x c.args.e c.fraction_mask-mask.result 64 c.requires c.fraction_mask-mask.ensures c.requires.word.narrow)

pub overflow_sub-low : goal.overflow_sub-low
overflow_sub-low g c = omega (arith, c.unit.ensures, pow_pos g.P.Pattern.format.fraction)

pub overflow_add-e : goal.overflow_add-e
overflow_add-e g c = omega (arith, c.requires.finite, (small g (goal.at.overflow_add-e g c).Start).top_lt)

pub returns : goal.returns
returns g c =
    let s = c in
    let m = c.fraction_mask-mask in
    answered g.P.Pattern.format HalfAway s.args.x _ s.requires.word s.requires.pattern
    (elim c.if-e-bias_of.branch [ then-e-bias_of w ↦ rw w.below-is (low_is g.P.Pattern.format s.args.x s.args.e m.result 64 s.requires m.ensures s.requires.word.narrow _ (ap (λ (n : ℕ). n - 1) c.sign_bit-all.ensures) (rw c.bias_of.ensures at w.if-e-bias_of.true)) | else-e-bias_of w ↦ rw w.below-is (high_is g.P.Pattern.format s.args.x s.args.e m.result 64 s.requires m.ensures s.requires.word.narrow _ (ap (λ (n : ℕ). bit_and m.result (n - 1)) c.unit.ensures ∙ and_mask m.result g.P.Pattern.format.fraction) (rw c.bias_of.ensures at w.if-e-bias_of.false)) ])
