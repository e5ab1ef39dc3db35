-- `modf` meets its contract: a part of a number is no NaN, so its pattern is read as a float and back. Assumes nothing.
use mathlib.Core.Path.{◌≡◌, sym, ap, ◌∙◌}
use mathlib.Core.Bool.{false}
use lib.Ieee.{to_bits, of_bits}
use Rattle.float_format.specs.Format.{is_nan}
use Rattle.splitting.specs.Splitting.{modf_whole, modf_fraction}
use Rattle.splitting.proofs.Carried.{nan_same, Part, whole_part_lem, fraction_part}
use Rattle.splitting.proofs.modf.Goals.{Else-is_nan}
use Rattle.splitting.proofs.modf.Goals as goal

-- past the test x is no NaN
no_nan : (g : _) (c : Else-is_nan g) → is_nan g.P.Pattern.format (g.P.Pattern.bits c.args.x) ≡ false
no_nan g c = sym c.is_nan.ensures ∙ c.if-is_nan.false

whole : (g : _) (c : Else-is_nan g) → Part g.P.FloatPattern.ieee (modf_whole g.P.Pattern.format (g.P.Pattern.bits c.args.x)) (g.P.Pattern.bits c.modf_patterns-patterns.result.whole)
whole g c =
    let e = c.modf_patterns-patterns.ensures in
    whole_part_lem g.P.FloatPattern.ieee g.P.Pattern.format g.met.P.FloatPattern.same_format _ g.met.P.Pattern.fits.valid e.2 (no_nan g c) _ e.0

fraction : (g : _) (c : Else-is_nan g) → Part g.P.FloatPattern.ieee (modf_fraction g.P.Pattern.format (g.P.Pattern.bits c.args.x)) (g.P.Pattern.bits c.modf_patterns-patterns.result.fraction)
fraction g c =
    let e = c.modf_patterns-patterns.ensures in
    fraction_part g.P.FloatPattern.ieee g.P.Pattern.format g.met.P.FloatPattern.same_format _ g.met.P.Pattern.fits.valid e.2 (no_nan g c) _ e.1

pub returns-then-is_nan : goal.returns-then-is_nan
returns-then-is_nan g c =
    let n = sym c.is_nan.ensures ∙ c.if-is_nan.true in
    let e = c.modf_patterns-patterns.ensures in
    (e.0, e.0 ∙ nan_same g.P.Pattern.format _ n, sym n, tt, e.2)

pub to_float-requires : goal.to_float-requires
to_float-requires g c = (whole g (goal.at.to_float-requires g c).Else-is_nan).number

pub to_float-requires-2 : goal.to_float-requires-2
to_float-requires-2 g c = (fraction g (goal.at.to_float-requires-2 g c).Else-is_nan).number

pub returns : goal.returns
returns g c =
    let i = g.P.FloatPattern.ieee in
    let e = c.modf_patterns-patterns.ensures in
    let w = c.to_float.ensures in
    let q = c.to_float-2.ensures in (
      ap (to_bits i) w ∙ (whole g (goal.at.returns g c).Else-is_nan).back,
      ap (to_bits i) q ∙ (fraction g (goal.at.returns g c).Else-is_nan).back,
      sym (no_nan g (goal.at.returns g c).Else-is_nan),
      (w ∙ ap (of_bits i) e.0, q ∙ ap (of_bits i) e.1),
      e.2,
    )
