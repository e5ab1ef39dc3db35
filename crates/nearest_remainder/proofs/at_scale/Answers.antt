-- `at_scale` meets its contract: both are split into a scale and a significand. Assumes nothing.
use Prim.Native.Nat.{◌≤◌}
use native.Mathlib.Omega.{arith}
use Rattle.float_format.proofs.Sizes.{sizes}
use Rattle.remainder.proofs.Split.{Split, split, scale_mono, scale_lt}
use Rattle.nearest_remainder.proofs.Divisions.{scaled_divided}
use Rattle.nearest_remainder.proofs.at_scale.Goals.{After-scale, After-significand, Start}
use Rattle.nearest_remainder.proofs.at_scale.Goals as goal

ordered : (g : _) (c : After-scale g) → c.scale-j.result ≤ c.scale.result
ordered g c =
    let s = c in
    rw (c.scale.ensures, c.scale-j.ensures) (scale_mono g.P.Pattern.format.fraction s.requires.1)

split-a : (g : _) (c : After-significand g) → Split g.P.Pattern.format.fraction c.args.a c.scale.result c.significand.result
split-a g c =
    let a = c.args in
    split g.P.Pattern.format.fraction a.a _ _ c.scale.ensures c.significand.ensures

split-b : (g : _) (c : After-significand g) → Split g.P.Pattern.format.fraction c.args.b c.scale-j.result c.significand-w.result
split-b g c =
    let a = c.args in
    split g.P.Pattern.format.fraction a.b _ _ c.scale-j.ensures c.significand-w.ensures

pub cut_division-cut-requires : goal.cut_division-cut-requires
cut_division-cut-requires g c =
    let s = c in
    let o = s.requires.0 in
    ((split-a g (goal.at.cut_division-cut-requires g c).After-significand).few, omega (arith, c.scale.ensures, scale_lt g.P.Pattern.format s.args.a o.finite_a, (sizes g.P.Pattern.format g.met.P.Pattern.fits).top_lt), (split-b g (goal.at.cut_division-cut-requires g c).After-significand).some o.nonzero, (split-b g (goal.at.cut_division-cut-requires g c).After-significand).few)

pub returns : goal.returns
returns g c =
    let s = c in
    let d = c.cut_division-cut in
    scaled_divided g.P.Pattern.format s.args.a s.args.b s.requires.0 _ _ _ _ d.result.quotient d.result.rest (ordered g (goal.at.returns g c).After-scale) (split-a g (goal.at.returns g c).After-significand) (split-b g (goal.at.returns g c).After-significand) c.scale-j.ensures d.ensures.0 d.ensures.1
