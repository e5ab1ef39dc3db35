-- `remainder_at_scale` meets its contract: both operands are split into a scale and a significand. Assumes nothing.
use mathlib.Core.Path.{ap, ◌∙◌}
use Prim.Native.Nat.{ℕ, ◌-◌, ◌*◌, ◌^◌, ◌≤◌}
use native.Mathlib.Omega.{arith}
use Rattle.float_format.specs.Format.{unsigned}
use Rattle.float_format.proofs.Sizes.{sizes}
use Rattle.remainder.specs.Shape.{scale_of}
use Rattle.remainder.proofs.Split.{Split, split, scale_mono, scale_lt, left_scaled}
use Rattle.remainder.proofs.remainder_at_scale.Goals.{After-scale-2, After-significand-2, Start}
use Rattle.remainder.proofs.remainder_at_scale.Goals as goal

split-x : (g : _) (c : After-significand-2 g) → Split g.P.Pattern.format.fraction (unsigned g.P.Pattern.format c.args.x) c.scale.result c.significand.result
split-x g c =
    let a = c.args in
    let e = c.rest-a.ensures in
    split g.P.Pattern.format.fraction _ _ _ (c.scale.ensures ∙ ap (scale_of g.P.Pattern.format.fraction) e) (c.significand.ensures ∙ ap (λ (n : ℕ). n - scale_of g.P.Pattern.format.fraction n * 2 ^ g.P.Pattern.format.fraction) e)

split-y : (g : _) (c : After-significand-2 g) → Split g.P.Pattern.format.fraction (unsigned g.P.Pattern.format c.args.y) c.scale-2.result c.significand-2.result
split-y g c =
    let a = c.args in
    let e = c.rest-b.ensures in
    split g.P.Pattern.format.fraction _ _ _ (c.scale-2.ensures ∙ ap (scale_of g.P.Pattern.format.fraction) e) (c.significand-2.ensures ∙ ap (λ (n : ℕ). n - scale_of g.P.Pattern.format.fraction n * 2 ^ g.P.Pattern.format.fraction) e)

ordered : (g : _) (c : After-scale-2 g) → c.scale-2.result ≤ c.scale.result
ordered g c =
    let s = c in
    rw (c.scale-2.ensures, c.scale.ensures, c.rest-b.ensures, c.rest-a.ensures)
    (scale_mono g.P.Pattern.format.fraction s.requires.1)

pub remainder_by-requires : goal.remainder_by-requires
remainder_by-requires g c =
    let s = c in
    let o = s.requires.0 in (
      (split-x g (goal.at.remainder_by-requires g c).After-significand-2).few,
      omega (arith, c.scale.ensures, ap (scale_of g.P.Pattern.format.fraction) c.rest-a.ensures, scale_lt g.P.Pattern.format (unsigned g.P.Pattern.format s.args.x) o.finite_x, (sizes g.P.Pattern.format o.word).top_lt),
      (split-y g (goal.at.remainder_by-requires g c).After-significand-2).some o.nonzero,
      (split-y g (goal.at.remainder_by-requires g c).After-significand-2).few,
    )

pub returns : goal.returns
returns g c =
    let s = c in
    left_scaled g.P.Pattern.format s.args.x s.args.y _ _ _ _ c.remainder_by.result (split-x g (goal.at.returns g c).After-significand-2) (split-y g (goal.at.returns g c).After-significand-2) s.requires.0.nonzero (ordered g (goal.at.returns g c).After-scale-2) (c.scale-2.ensures ∙ ap (scale_of g.P.Pattern.format.fraction) c.rest-b.ensures) c.remainder_by.ensures
