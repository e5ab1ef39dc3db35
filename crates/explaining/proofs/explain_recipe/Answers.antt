-- `explain_recipe` meets its contract: it answers what `explain_on_words` comes to, of which `Calls` says the rest. Assumes nothing.
use mathlib.Core.Path.{◌∙◌}
use Rattle.explaining.proofs.Calls.{with_steps}
use Rattle.explaining.proofs.explain_recipe.Goals as goal

pub returns : goal.returns
returns c =
    let p = with_steps c.answer.result c.args.steps.now (c.answer.ensures ∙ c.explain_on_words.ensures) in
    record { value = p.0; of_steps = p.1 }
