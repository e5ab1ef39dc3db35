-- `whole_below` meets its contract: twice the magnitude is 0 or the significand cut, by the arm that kept it. Assumes nothing.
use mathlib.Core.Path.{refl, ap, ◌∙◌}
use Prim.Native.Nat.{ℕ, ◌+◌, ◌-◌, ◌/◌, ◌%◌, ◌^◌}
use native.Mathlib.Omega.{arith}
use native.Mathlib.Nat.{mod-lt, zero-div}
use lib.Pow.{pow_pos, pow_mono}
use Rattle.float_format.proofs.Sizes.{sizes}
use Rattle.rounding.proofs.Count.{Twice, half_of, half_lt, twice_low, twice_high}
use Rattle.rounding.proofs.whole_below.Goals.{Joined-e-bias, Start, else-e-bias, then-e-bias}
use Rattle.rounding.proofs.whole_below.Goals as goal

-- where the arms meet
twice : (g : _) (c : Joined-e-bias g)
    → Twice g.P.Pattern.format c.args.x (c.if-e-bias.kept / 2 ^ ((c.bias_of-bias.result + 62 - c.args.e) % 64))
twice g c =
    elim c.if-e-bias.branch [
      | then-e-bias w ↦ twice_low g.P.Pattern.format c.args.x c.args.e c.requires.0 _
          (ap (λ (n : ℕ). n / 2 ^ ((c.bias_of-bias.result + 62 - c.args.e) % 64)) w.kept-is ∙ zero-div _) (rw c.bias_of-bias.ensures at w.if-e-bias.true)
      | else-e-bias w ↦ twice_high g.P.Pattern.format c.args.x c.args.e c.requires.0
          _ _ (ap (λ (n : ℕ). n + c.args.x % n) c.unit-hidden.ensures) (rw c.bias_of-bias.ensures at w.if-e-bias.false) c.requires.1
          (rw (w.kept-is, c.bias_of-bias.ensures, c.fraction_bits.ensures) refl)
    ]

pub nonzero_rem-significand : goal.nonzero_rem-significand
nonzero_rem-significand g c = omega (arith, c.unit-hidden.ensures, pow_pos g.P.Pattern.format.fraction)

pub overflow_add-significand : goal.overflow_add-significand
overflow_add-significand g c =
    rw c.unit-hidden.ensures
    (omega (arith, mod-lt c.args.x (pow_pos g.P.Pattern.format.fraction), pow_mono {i = g.P.Pattern.format.fraction} {j = 62} (omega (arith, (sizes g.P.Pattern.format c.requires.0.word).fraction_lt))))

pub overflow_add-e : goal.overflow_add-e
overflow_add-e g c = omega (arith, c.requires.1, (sizes g.P.Pattern.format c.requires.0.word).bias_lt)

pub overflow_add-twice : goal.overflow_add-twice
overflow_add-twice g c = omega (arith, c.bias_of-bias.ensures, (sizes g.P.Pattern.format c.requires.0.word).bias_lt)

pub overflow_sub-twice : goal.overflow_sub-twice
overflow_sub-twice g c = omega (arith, c.bias_of-bias.ensures, c.requires.1)

pub overflow_add-result : goal.overflow_add-result
overflow_add-result g c = omega (arith, (twice g (goal.at.overflow_add-result g c).Joined-e-bias).most)

pub returns : goal.returns
returns g c = (
  half_of g.P.Pattern.format c.args.x _ (twice g (goal.at.returns g c).Joined-e-bias),
  half_lt g.P.Pattern.format c.args.x _ (twice g (goal.at.returns g c).Joined-e-bias),
)
