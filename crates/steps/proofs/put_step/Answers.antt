-- `put_step` meets its contract: the three words are stored where `put_at` says, and `put_more` says what steps they then make. Assumes
-- nothing.
use native.Mathlib.Omega.{arith}
use lib.ListN.{length-set}
use Rattle.recipe.proofs.Packed.{put_more}
use Rattle.steps.proofs.put_step.Goals as goal

pub bounds-steps-at-2 : goal.bounds-steps-at-2
bounds-steps-at-2 c = simp length-set (omega arith)

pub returns : goal.returns
returns c =
    let a = c.args in
    (rw c.head_of.ensures, rw c.head_of.ensures (put_more a.steps.now a.i a.t (omega arith) (omega arith) (omega arith) (omega arith)))
