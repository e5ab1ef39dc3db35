-- `fraction_mask` meets its contract. Assumes nothing.
use native.Mathlib.Omega.{arith}
use lib.Pow.{pow_pos, pow_mono}
use Rattle.float_format.proofs.Sizes.{Sizes, sizes}
use Rattle.rounding.proofs.Masks.{mask_shifted, mask_none}
use Rattle.rounding.proofs.fraction_mask.Goals.{Start}
use Rattle.rounding.proofs.fraction_mask.Goals as goal

small : (g : _) (s : Start g) → Sizes g.P.Pattern.format
small g s = sizes g.P.Pattern.format g.met.P.Pattern.fits

pub overflow_mul-ones : goal.overflow_mul-ones
overflow_mul-ones g c = omega (arith, c.unit.ensures, (small g (goal.at.overflow_mul-ones g c).Start).fraction_lt, pow_mono {i = g.P.Pattern.format.fraction} {j = 62} (omega (arith, (small g (goal.at.overflow_mul-ones g c).Start).fraction_lt)))

pub overflow_sub-ones : goal.overflow_sub-ones
overflow_sub-ones g c = omega (arith, c.unit.ensures, pow_pos g.P.Pattern.format.fraction)

pub overflow_add-bias : goal.overflow_add-bias
overflow_add-bias g c = omega (arith, c.bias_of-bias.ensures, c.fraction_bits.ensures, (small g (goal.at.overflow_add-bias g c).Start).bias_lt, (small g (goal.at.overflow_add-bias g c).Start).fraction_lt)

pub overflow_add-result : goal.overflow_add-result
overflow_add-result g c = omega (arith, c.requires, (small g (goal.at.overflow_add-result g c).Start).top_lt)

pub returns-then-e-bias : goal.returns-then-e-bias
returns-then-e-bias g c =
    let s = c in
    let e = c.bias_of-bias.ensures in
    let b = c.fraction_bits.ensures in
    rw c.unit.ensures (mask_shifted g.P.Pattern.format s.args.e _ (omega (arith, e, b, c.if-e-bias.true)) (λ l. omega (arith, e, b, c.if-e-bias.true, (small g (goal.at.returns-then-e-bias g c).Start).fraction_lt)))

pub returns-else-e-bias : goal.returns-else-e-bias
returns-else-e-bias g c = mask_none g.P.Pattern.format c.args.e (omega (arith, c.bias_of-bias.ensures, c.fraction_bits.ensures, c.if-e-bias.false))
