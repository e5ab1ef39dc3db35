-- `declares_input` meets its contract: what is asked of the row. Assumes nothing.
use mathlib.Core.Path.{ap, ◌∙◌}
use Rattle.recipe.specs.Table.{is_input}
use Rattle.steps.proofs.table.declares_input.Goals as goal

pub returns : goal.returns
returns c = c.is_input.ensures ∙ ap is_input c.row_of.ensures
