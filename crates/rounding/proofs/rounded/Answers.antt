-- `rounded` meets its contract: what is not finite is the same in every direction, and of the other two answers the one is picked that is
-- right on its side of one. Assumes nothing.
use mathlib.Core.Path.{◌≡◌, sym, ◌∙◌}
use native.Mathlib.Omega.{arith}
use Rattle.float_format.specs.Format.{top_field, exponent_field}
use Rattle.float_format.specs.Width.{Finite}
use Rattle.rounding.proofs.Directions.{answered, not_finite_is}
use Rattle.rounding.proofs.rounded.Goals.{Else-e-top_field, Start, Then-e-top_field}
use Rattle.rounding.proofs.rounded.Goals as goal

-- the field is the largest
top : (g : _) (c : Then-e-top_field g) → exponent_field g.P.Pattern.format c.args.x ≡ top_field g.P.Pattern.format
top g c = sym c.field-e.ensures.0 ∙ c.if-e-top_field.true ∙ c.top_field.ensures

-- past the test, it is not
finite : (g : _) (c : Else-e-top_field g) → Finite g.P.Pattern.format c.args.x c.field-e.result
finite g c =
    record {
      word = g.met.P.Pattern.fits;
      pattern = c.requires;
      field = c.field-e.ensures.0;
      finite = omega (arith, c.field-e.ensures.1, c.top_field.ensures, c.if-e-top_field.false);
    }

pub not_finite-requires : goal.not_finite-requires
not_finite-requires g c = (c.requires, top g (goal.at.not_finite-requires g c).Then-e-top_field)

pub returns-then-e-top_field : goal.returns-then-e-top_field
returns-then-e-top_field g c =
    let s = c in
    (not_finite_is g.P.Pattern.format g.R.Rounding.direction s.args.x _ (top g (goal.at.returns-then-e-top_field g c).Then-e-top_field) c.not_finite.ensures.0, c.not_finite.ensures.1)

pub from_one-whole-requires : goal.from_one-whole-requires
from_one-whole-requires g c = finite g (goal.at.from_one-whole-requires g c).Else-e-top_field

pub below_one-small-requires : goal.below_one-small-requires
below_one-small-requires g c = finite g (goal.at.below_one-small-requires g c).Else-e-top_field

pub returns-then-e-bias_of : goal.returns-then-e-bias_of
returns-then-e-bias_of g c = answered g.P.Pattern.format g.R.Rounding.direction c.args.x _ g.met.P.Pattern.fits c.requires (c.below_one-small.ensures (rw c.bias_of.ensures at c.if-e-bias_of.true))

pub returns-else-e-bias_of : goal.returns-else-e-bias_of
returns-else-e-bias_of g c = answered g.P.Pattern.format g.R.Rounding.direction c.args.x _ g.met.P.Pattern.fits c.requires (c.from_one-whole.ensures (rw c.bias_of.ensures at c.if-e-bias_of.false))
