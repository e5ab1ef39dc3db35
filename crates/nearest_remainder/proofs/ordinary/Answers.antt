-- `ordinary` meets its contract. Assumes nothing.
use mathlib.Core.Path.{◌≡◌, sym, ap, ◌∙◌}
use Prim.Native.Nat.{◌*◌, ◌<◌}
use native.Mathlib.Omega.{arith}
use Rattle.float_format.specs.Format.{unsigned}
use Rattle.float_format.specs.Number.{units_of}
use Rattle.remainder.specs.Shape.{scale_of}
use Rattle.remainder.proofs.Cases.{left_refuses}
use Rattle.remainder.proofs.Laws.{Operands}
use Rattle.nearest_remainder.proofs.Divisions.{far_smaller}
use Rattle.nearest_remainder.proofs.Laws.{remainder_smaller, remquo_smaller}
use Rattle.nearest_remainder.proofs.ordinary.Goals.{After-scale, After-scale-2, Start}
use Rattle.nearest_remainder.proofs.ordinary.Goals as goal

scale-x : (g : _) (c : After-scale g) → c.scale.result ≡ scale_of g.P.Pattern.format.fraction (unsigned g.P.Pattern.format c.args.x)
scale-x g c = c.scale.ensures ∙ ap (scale_of g.P.Pattern.format.fraction) c.rest-a.ensures

scale-y : (g : _) (c : After-scale-2 g) → c.scale-2.result ≡ scale_of g.P.Pattern.format.fraction (unsigned g.P.Pattern.format c.args.y)
scale-y g c = c.scale-2.ensures ∙ ap (scale_of g.P.Pattern.format.fraction) c.rest-b.ensures

pub returns-then-scale : goal.returns-then-scale
returns-then-scale g c =
    let s = c in
    let a = s.args in
    let o : Operands g.P.Pattern.format a.x a.y = record { finite_x = s.requires.finite_x; finite_y = s.requires.finite_y; nonzero = s.requires.nonzero } in
    let l : units_of g.P.Pattern.format a.x * 2 < units_of g.P.Pattern.format a.y = far_smaller g.P.Pattern.format.fraction (unsigned g.P.Pattern.format a.x) (unsigned g.P.Pattern.format a.y) (rw (← scale-x g (goal.at.returns-then-scale g c).After-scale, ← scale-y g (goal.at.returns-then-scale g c).After-scale-2) c.if-scale.true) in
    record {
      word = sym (remainder_smaller g.P.Pattern.format a.x a.y o l s.requires.pattern);
      pattern = s.requires.pattern;
      quotient = sym (remquo_smaller g.P.Pattern.format a.x a.y o l);
      small = omega arith;
      refusal = left_refuses g.P.Pattern.format a.x a.y s.requires;
    }
