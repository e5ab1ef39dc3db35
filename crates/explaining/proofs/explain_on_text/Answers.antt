-- `explain_on_text` meets its contract: a text that is refused is so by the reader, and of any other the explanation is that of the words read. Assumes
-- nothing.
use mathlib.Core.Path.{refl, sym, ap, ◌∙◌}
use Prim.Native.Nat.{◌*◌}
use native.Mathlib.Omega.{arith}
use lib.Seq.{length-take-le}
use Rattle.std.proofs.lemmas.Result.{err_from_is_err_and}
use Rattle.semantics.specs.Explain.{answer_of}
use Rattle.reader.proofs.Laws.{read_count}
use Rattle.explaining.proofs.Calls.{text_refused, text_explained}
use Rattle.explaining.proofs.explain_on_text.Goals as goal

pub returns-in_err-n : goal.returns-in_err-n
returns-in_err-n c =
    let p = err_from_is_err_and c.from_residual.result c.from_residual.ensures.1 in
    rw (p.1, p.2, text_refused c.args.text.now c.read.new.steps c.in_err-n.field-0.0 c.in_err-n.ensures.1) refl

pub overflow_mul-size : goal.overflow_mul-size
overflow_mul-size c = omega (arith, (read_count c.args.text.now c.read.new.steps c.in_ok-n.n c.in_ok-n.ensures.1).1)

pub slice_bounds-steps-end : goal.slice_bounds-steps-end
slice_bounds-steps-end c = omega (arith, (read_count c.args.text.now c.read.new.steps c.in_ok-n.n c.in_ok-n.ensures.1).1, c.in_ok-n.ensures.0)

pub slice_bounds-explain_on_words-end : goal.slice_bounds-explain_on_words-end
slice_bounds-explain_on_words-end c =
    let w = c.read.new.steps in
    sym (length-take-le (3 * c.in_ok-n.n) w (omega (arith, (read_count c.args.text.now w c.in_ok-n.n c.in_ok-n.ensures.1).1, c.in_ok-n.ensures.0)))

pub returns : goal.returns
returns c = c.explain_on_words.ensures ∙ ap answer_of (text_explained c.args.text.now c.read.new.steps c.in_ok-n.n c.in_ok-n.ensures.1 c.in_ok-n.ensures.0)
