-- `explain_on_words` meets its contract: words that are not those of steps are refused, else `explain_steps` does the rest. Assumes nothing.
use mathlib.Core.Path.{sym, ap, ◌∙◌}
use Rattle.semantics.specs.Explain.{answer_of}
use Rattle.explaining.proofs.Calls.{explain_bad, explain_reached}
use Rattle.explaining.proofs.explain_on_words.Goals as goal

pub returns-in_default : goal.returns-in_default
returns-in_default c = ap answer_of (sym (explain_bad c.args.steps.now c.in_default.ensures))

pub returns : goal.returns
returns c =
    let w = c.in-Some.recipe.words.now in
    let e = c.in-Some.ensures.0 in
    rw (← e) (ap answer_of (c.explain_steps.ensures ∙ sym (explain_reached w (rw e c.in-Some.ensures.1))))
