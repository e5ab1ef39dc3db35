-- `integer_large` meets its contract: each return is one law of `Count`, at the tests that led there. Assumes nothing.
use mathlib.Core.Path.{◌≡◌, sym, ◌∙◌}
use Prim.Native.Nat.{ℕ, ◌+◌, ◌*◌, ◌^◌, ◌≤◌}
use native.Mathlib.Omega.{arith}
use lib.Pow.{pow_pos}
use lib.IntN.{ℤ}
use Rattle.float_format.specs.Format.{Format, sign_bit, top_field}
use Rattle.float_format.specs.Number.{bias}
use Rattle.float_format.specs.Rounding.{lround_refusal, lround_value}
use Rattle.float_format.proofs.Sizes.{sizes, field_le}
use Rattle.rounding.proofs.Count.{Answers, nan_answer, infinite_answer, limit_answer, other_answer, limit_lt}
use Rattle.rounding.proofs.integer_large.Goals.{After-unit-2, After-sign_bit, Start}
use Rattle.rounding.proofs.integer_large.Goals as goal

pair : {f : Format} {x n : ℕ} {z : ℤ} → Answers f x n z → (n ≡ lround_refusal f x) × (z ≡ lround_value f x)
pair a = (a.refusal, a.value)

top : (g : _) (c : Start g) → c.args.e ≤ top_field g.P.Pattern.format
top g c = rw c.requires.1 (field_le g.P.Pattern.format c.args.x)

-- the pattern of 2^63, and of -2^63
limit : (g : _) (c : After-unit-2 g) → c.one.result + 63 * c.unit-2.result ≡ bias g.P.Pattern.format * 2 ^ g.P.Pattern.format.fraction + 63 * 2 ^ g.P.Pattern.format.fraction
limit g c = rw (c.one.ensures, c.unit-2.ensures)

edge : (g : _) (c : After-sign_bit g)
    → c.sign_bit.result + (c.one.result + 63 * c.unit-2.result)
    ≡ sign_bit g.P.Pattern.format + (bias g.P.Pattern.format * 2 ^ g.P.Pattern.format.fraction + 63 * 2 ^ g.P.Pattern.format.fraction)
edge g c = rw (c.sign_bit.ensures, limit g (goal.at.After-sign_bit g c).After-unit-2)

pub nonzero_rem-x : goal.nonzero_rem-x
nonzero_rem-x g c = omega (arith, c.unit.ensures, pow_pos g.P.Pattern.format.fraction)

pub returns-then-x-unit-eq0 : goal.returns-then-x-unit-eq0
returns-then-x-unit-eq0 g c = pair (infinite_answer g.P.Pattern.format c.args.x c.args.e g.met.P.Pattern.fits c.requires.0 c.requires.1 (c.if-e-top_field.true ∙ c.top_field.ensures) (rw c.unit.ensures at c.if-x-unit-eq0.true))

pub returns-then-e-top_field : goal.returns-then-e-top_field
returns-then-e-top_field g c = pair (nan_answer g.P.Pattern.format c.args.x c.args.e g.met.P.Pattern.fits c.requires.0 c.requires.1 (c.if-e-top_field.true ∙ c.top_field.ensures) (rw c.unit.ensures at c.if-x-unit-eq0.false))

pub overflow_mul-limit : goal.overflow_mul-limit
overflow_mul-limit g c = omega (arith, limit g (goal.at.overflow_mul-limit g c).After-unit-2, limit_lt g.P.Pattern.format g.met.P.Pattern.fits g.met.P.Wide.wide)

pub overflow_add-limit : goal.overflow_add-limit
overflow_add-limit g c = omega (arith, limit g (goal.at.overflow_add-limit g c).After-unit-2, limit_lt g.P.Pattern.format g.met.P.Pattern.fits g.met.P.Wide.wide)

pub overflow_add-sign_bit : goal.overflow_add-sign_bit
overflow_add-sign_bit g c = omega (arith, limit g (goal.at.overflow_add-sign_bit g c).After-unit-2, c.sign_bit.ensures, (sizes g.P.Pattern.format g.met.P.Pattern.fits).sign_le, limit_lt g.P.Pattern.format g.met.P.Pattern.fits g.met.P.Wide.wide)

pub returns-then-x-sign_bit : goal.returns-then-x-sign_bit
returns-then-x-sign_bit g c = pair (limit_answer g.P.Pattern.format c.args.x c.args.e g.met.P.Pattern.fits c.requires.0 c.requires.1 (λ e. c.if-e-top_field.false (e ∙ sym c.top_field.ensures)) (top g (goal.at.returns-then-x-sign_bit g c).Start) c.requires.2 _ (edge g (goal.at.returns-then-x-sign_bit g c).After-sign_bit) c.if-x-sign_bit.true)

pub returns : goal.returns
returns g c = pair (other_answer g.P.Pattern.format c.args.x c.args.e g.met.P.Pattern.fits c.requires.0 c.requires.1 (λ e. c.if-e-top_field.false (e ∙ sym c.top_field.ensures)) (top g (goal.at.returns g c).Start) c.requires.2 _ (edge g (goal.at.returns g c).After-sign_bit) c.if-x-sign_bit.false)
