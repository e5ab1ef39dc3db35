-- `run` meets its contract: it answers what `run_on_text` comes to, of which `Promises` says the rest. Assumes nothing.
use mathlib.Core.Path.{◌∙◌}
use Rattle.running.proofs.Promises.{with_text_promise}
use Rattle.running.proofs.run.Goals as goal

pub returns : goal.returns
returns c =
    let a = c.args in
    let f = c.run_on_text.ensures in
    let p = with_text_promise a.frame.now a.words.now c.answer.result c.run_on_text.new.words a.text.now (c.answer.ensures ∙ f.0, f.1) in
    record { value = (c.answer.ensures ∙ f.0, f.1); keeps = p }
