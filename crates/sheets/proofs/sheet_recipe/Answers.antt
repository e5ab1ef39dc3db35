-- `sheet_recipe` meets its contract: it answers what `sheet_on_words` comes to, of which `SheetCalls` says the rest. Assumes nothing.
use mathlib.Core.Path.{◌∙◌}
use Rattle.sheets.proofs.SheetCalls.{with_steps}
use Rattle.sheets.proofs.sheet_recipe.Goals as goal

pub returns : goal.returns
returns c =
    let a = c.args in
    let f = c.sheet_on_words.ensures in
    let p = with_steps a.bytes.now c.answer.result c.sheet_on_words.new.bytes a.steps.now (c.answer.ensures ∙ f.0, f.1) in
    record { value = p.0; of_steps = p.1 }
