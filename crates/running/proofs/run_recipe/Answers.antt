-- `run_recipe` meets its contract: it answers what `run_on_words` comes to, of which `Promises` says the rest. Assumes nothing.
use mathlib.Core.Path.{◌∙◌}
use Rattle.running.proofs.Promises.{with_steps}
use Rattle.running.proofs.run_recipe.Goals as goal

pub returns : goal.returns
returns c =
    let a = c.args in
    let f = c.run_on_words.ensures in
    let p = with_steps a.frame.now a.words.now c.answer.result c.run_on_words.new.words a.steps.now (c.answer.ensures ∙ f.0, f.1) in
    record { value = (c.answer.ensures ∙ f.0, f.1); of_steps = p }
