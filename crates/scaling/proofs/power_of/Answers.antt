-- `power_of` meets its contract. Assumes nothing.
use Rattle.std.proofs.Common.{ℕ, ◌+◌, ◌-◌, ◌^◌, ◌<◌, ◌∙◌, arith, w64}
use mir.ValLaws.{to_z-of_z}
use Rattle.float_format.proofs.Sizes.{sizes}
use Rattle.scaling.proofs.Exponents.{difference_fits, difference_is}
use Rattle.scaling.proofs.power_of.Goals.{After-fraction_bits}
use Rattle.scaling.proofs.power_of.Goals as goal

-- the exponent of the smallest normal number's last digit
abbrev taken : (g : _) (c : After-fraction_bits g) → ℕ
taken g c = c.bias_of.result + c.fraction_bits.result - 1

-- both counts are far below 2^63
taken-lt : (g : _) (c : After-fraction_bits g) → taken g c < 2 ^ 63
taken-lt g c =
    let z = sizes g.P.Pattern.format g.met.P.Pattern.fits in
    omega (arith, z.bias_lt, z.fraction_lt, c.bias_of.ensures, c.fraction_bits.ensures)

pub overflow_cast-result-2 : goal.overflow_cast-result-2
overflow_cast-result-2 g c = record { sfits = taken-lt g (goal.at.overflow_cast-result-2 g c).After-fraction_bits }

pub overflow_sub-result-2 : goal.overflow_sub-result-2
overflow_sub-result-2 g c =
    let s = (goal.at.overflow_sub-result-2 g c).After-fraction_bits in
    rw (difference_is c.args.digits (taken g s) c.requires (taken-lt g s)) (difference_fits c.args.digits (taken g s) c.requires (taken-lt g s))

pub returns : goal.returns
returns g c =
    let s = (goal.at.returns g c).After-fraction_bits in
    rw (← c.fraction_bits.ensures, ← c.bias_of.ensures) (to_z-of_z w64 _ (overflow_sub-result-2 g c) ∙ difference_is c.args.digits (taken g s) c.requires (taken-lt g s))
