-- `one_part` meets its contract: each return is one law of `Fraction`, at the tests that led there. Assumes nothing.
use mathlib.Core.Path.{◌≡◌, ◌∙◌}
use Prim.Native.Nat.{ℕ, ◌<◌}
use native.Mathlib.Omega.{arith}
use lib.Pow.{pow_pos}
use Rattle.float_format.specs.Format.{Format, top_field}
use Rattle.float_format.specs.Number.{bias}
use Rattle.float_format.specs.Width.{Finite}
use Rattle.float_format.proofs.Sizes.{sizes, field_le}
use Rattle.splitting.specs.Splitting.{modf_whole, modf_fraction}
use Rattle.splitting.proofs.Fraction.{Answers, of_nan, of_infinity, below_one, no_fraction}
use Rattle.splitting.proofs.one_part.Goals.{Start, then-e-top_field+else-x-unit-ne0, else-e-top_field}
use Rattle.splitting.proofs.one_part.Goals as goal

pair : {f : Format} {x w p : ℕ} → Answers f x w p → (w ≡ modf_whole f x) × (p ≡ modf_fraction f x)
pair a = (a.whole, a.fraction)

-- a field that is not the largest
finite : (g : _) (c : Start g) → c.args.e < top_field g.P.Pattern.format → Finite g.P.Pattern.format c.args.x c.args.e
finite g c l = record { word = g.met.P.Pattern.fits; pattern = c.requires.0; field = c.requires.1; finite = l }

pub returns-then-e-bias_of : goal.returns-then-e-bias_of
returns-then-e-bias_of g c =
    let s = c in
    let l : s.args.e < bias g.P.Pattern.format = rw c.bias_of.ensures at c.if-e-bias_of.true in
    pair (below_one g.P.Pattern.format s.args.x s.args.e (finite g (goal.at.returns-then-e-bias_of g c).Start (omega (arith, (sizes g.P.Pattern.format g.met.P.Pattern.fits).room.near))) c.signed_zero.result c.signed_zero.ensures l)

pub nonzero_rem-x : goal.nonzero_rem-x
nonzero_rem-x g c = omega (arith, c.unit.ensures, pow_pos g.P.Pattern.format.fraction)

pub returns-then-x-unit-ne0 : goal.returns-then-x-unit-ne0
returns-then-x-unit-ne0 g c =
    let s = c in
    pair (of_nan g.P.Pattern.format s.args.x s.args.e s.requires.0 s.requires.1 (c.if-e-top_field.true ∙ c.top_field.ensures) c.quiet-nan.result c.quiet-nan.ensures.0 (rw c.unit.ensures at c.if-x-unit-ne0.true))

pub returns : goal.returns
returns g c =
    let s = c in
    let z = c.signed_zero-zero in
    pair (elim c.if-e-top_field.branch [
      | then-e-top_field+else-x-unit-ne0 w ↦ of_infinity g.P.Pattern.format s.args.x s.args.e s.requires.0 s.requires.1 (w.if-e-top_field.true ∙ c.top_field.ensures) z.result z.ensures (rw w.unit.ensures at w.if-x-unit-ne0.false)
      | else-e-top_field w ↦
          let l : s.args.e < top_field g.P.Pattern.format = omega (arith, s.requires.1, field_le g.P.Pattern.format s.args.x, c.top_field.ensures, w.if-e-top_field.false) in
          no_fraction g.P.Pattern.format s.args.x s.args.e (finite g (goal.at.returns g c).Start l) z.result z.ensures (s.requires.2 (rw c.bias_of.ensures at c.if-e-bias_of.false))
    ])
