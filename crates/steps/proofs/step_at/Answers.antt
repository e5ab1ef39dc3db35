-- `step_at` meets its contract. Assumes nothing.
use Rattle.recipe.specs.Packed.{step_at}
use borrow.Author.Rules.{rules}
use Rattle.steps.proofs.step_at.Goals as goal

pub returns : goal.returns
unfolding step_at
returns c = search rules
