-- `far` meets its contract: a turn of the loop takes eleven of the places that are left, and the last one the others. Assumes nothing.
use mathlib.Core.Path.{ap, ◌∙◌}
use Prim.Native.Nat.{ℕ, ◌+◌, ◌-◌, ◌*◌, ◌%◌, ◌^◌}
use native.Mathlib.Omega.{arith}
use Rattle.remainder.proofs.Turn.{turn_on, turned_lt}
use Rattle.remainder.proofs.far.Goals.{After-loop, After-top_of-inverse}
use Rattle.remainder.proofs.far.Goals as goal

pub loop-preserved : goal.loop-preserved
loop-preserved g c =
    let a = c.args in
    let w = c.loop in
    let left : ℕ = a.n - 11 * w.counter in (
      turned_lt w.r 11 c.turned_by-r.result c.requires c.turned_by-r.ensures,
      rw c.turned_by-r.ensures
          (ap (λ (k : ℕ). w.r * 2 ^ 11 % a.d * 2 ^ k % a.d) {x = a.n - 11 * (w.counter + 1)} {y = left - 11} (omega arith)
          ∙ turn_on w.r 11 left a.d (omega (arith, c.loop-test.true))
          ∙ w.invariant.1),
    )
