-- `short_division` meets its contract. Assumes nothing.
use mathlib.Core.Path.{ap}
use Prim.Native.Nat.{ℕ, ◌/◌, ◌%◌}
use Rattle.nearest_remainder.proofs.Divisions.{moved_whole}
use Rattle.nearest_remainder.proofs.short_division.Goals as goal

pub returns : goal.returns
returns g c =
    let a = c.args in
    let e = moved_whole g.P.Pattern.format.fraction a.m a.n g.met.P.Wide.wide.spare c.requires.0 c.requires.1 in
    (ap (λ (k : ℕ). k / a.w) e, ap (λ (k : ℕ). k % a.w) e)
