-- `close_division` meets its contract. Assumes nothing.
use mathlib.Core.Path.{◌≡◌, refl, ap, ◌∙◌}
use Prim.Native.Nat.{ℕ, ◌+◌, ◌-◌, ◌%◌, ◌^◌}
use native.Mathlib.Omega.{arith}
use Rattle.float_format.specs.Format.{unsigned, exponent_field}
use Rattle.remainder.proofs.Split.{Split}
use Rattle.nearest_remainder.specs.Shape.{Magnitudes}
use Rattle.nearest_remainder.proofs.Divisions.{normal_split, scaled_divided, close_finite_x, close_finite_y, close_nonzero}
use Rattle.nearest_remainder.proofs.close_division.Goals.{Start}
use Rattle.nearest_remainder.proofs.close_division.Goals as goal

magnitudes : (g : _) (s : Start g) → Magnitudes g.P.Pattern.format (unsigned g.P.Pattern.format s.args.x) (unsigned g.P.Pattern.format s.args.y)
magnitudes g s =
    let c = s.requires in
    record { most = g.met.P.Wide.wide.spare; finite_a = close_finite_x g.P.Pattern.format s.args.x s.args.y c; finite_b = close_finite_y g.P.Pattern.format s.args.x s.args.y c; nonzero = close_nonzero g.P.Pattern.format s.args.x s.args.y c }

split-x : (g : _) (s : Start g) → Split g.P.Pattern.format.fraction (unsigned g.P.Pattern.format s.args.x) (exponent_field g.P.Pattern.format s.args.x - 1) (s.args.x % 2 ^ g.P.Pattern.format.fraction + 2 ^ g.P.Pattern.format.fraction)
split-x g s = normal_split g.P.Pattern.format s.args.x (omega (arith, s.requires.normal, s.requires.from))

split-y : (g : _) (s : Start g) → Split g.P.Pattern.format.fraction (unsigned g.P.Pattern.format s.args.y) (exponent_field g.P.Pattern.format s.args.y - 1) (s.args.y % 2 ^ g.P.Pattern.format.fraction + 2 ^ g.P.Pattern.format.fraction)
split-y g s = normal_split g.P.Pattern.format s.args.y s.requires.normal

pub returns : goal.returns
returns g c =
    let s = c in
    let i = exponent_field g.P.Pattern.format s.args.x in
    let j = exponent_field g.P.Pattern.format s.args.y in
    let ej : c.field-j.result ≡ j = c.field-j.ensures.0 in
    let ei : c.field.result ≡ i = c.field.ensures.0 in
    let n : c.field.result - c.field-j.result ≡ i - 1 - (j - 1) = omega (arith, s.requires.normal, s.requires.from) in
    let d = c.short_division-cut in
    let m = c.normal_significand.ensures in
    let w = c.normal_significand-w.ensures in
    rw (ej, w)
    (scaled_divided g.P.Pattern.format (unsigned g.P.Pattern.format s.args.x) (unsigned g.P.Pattern.format s.args.y) (magnitudes g (goal.at.returns g c).Start) (i - 1) (j - 1) _ _ d.result.quotient d.result.rest (omega (arith, s.requires.from)) (split-x g (goal.at.returns g c).Start) (split-y g (goal.at.returns g c).Start) refl
    (ap (λ (k : ℕ). k % 8) (d.ensures.0 ∙ rw (m, w, n)))
    (d.ensures.1 ∙ rw (m, w, n)))
