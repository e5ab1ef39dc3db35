-- `lines_on_text` meets its contract: a text that is refused is so by the reader, and of any other the words read answer the lines. Assumes nothing.
use mathlib.Core.Path.{◌≡◌, refl, sym}
use Prim.Native.Nat.{◌*◌}
use native.Mathlib.Omega.{arith}
use lib.ListN.{length}
use lib.Seq.{length-take-le}
use borrow.Author.Rules.{rules}
use Rattle.std.proofs.lemmas.Result.{err_from_is_err_and}
use Rattle.reader.proofs.Laws.{read_count}
use Rattle.programs.specs.Batch.{batch_of}
use Rattle.batch.proofs.Calls.{text_refused, text_short, text_lines, lines_answered}
use Rattle.batch.proofs.lines_on_text.Goals as goal

pub returns-in_err-n : goal.returns-in_err-n
returns-in_err-n c =
    let a = c.args in
    let p = err_from_is_err_and c.from_residual.result c.from_residual.ensures.1 in
    let e = text_refused a.text.now a.lines.now (length a.out.now) c.read.new.steps c.in_err-n.field-0.0 c.in_err-n.ensures.1 in
    rw (p.1, p.2, e) (refl, refl)

pub returns-then-out-lt-LINE : goal.returns-then-out-lt-LINE
returns-then-out-lt-LINE c =
    let a = c.args in
    rw (text_short a.text.now a.lines.now (length a.out.now) c.read.new.steps c.in_ok-n.n c.in_ok-n.ensures.1 c.if-out-lt-LINE.true) (refl, refl)

pub overflow_mul-size : goal.overflow_mul-size
overflow_mul-size c = omega (arith, (read_count c.args.text.now c.read.new.steps c.in_ok-n.n c.in_ok-n.ensures.1).1)

pub slice_bounds-steps-end : goal.slice_bounds-steps-end
slice_bounds-steps-end c = omega (arith, (read_count c.args.text.now c.read.new.steps c.in_ok-n.n c.in_ok-n.ensures.1).1, c.in_ok-n.ensures.0)

pub slice_bounds-answer_lines-end : goal.slice_bounds-answer_lines-end
slice_bounds-answer_lines-end c =
    let w = c.read.new.steps in
    sym (length-take-le (3 * c.in_ok-n.n) w (omega (arith, (read_count c.args.text.now w c.in_ok-n.n c.in_ok-n.ensures.1).1, c.in_ok-n.ensures.0)))

pub returns : goal.returns
returns c =
    let a = c.args in
    let q = c.answer_lines in
    let out = q.new.out in
    let m : length out ≡ length a.out.now = search rules in
    lines_answered (batch_of a.text.now a.lines.now (length a.out.now)) q.result.at q.result.put a.out.now out
    (text_lines a.text.now a.lines.now (length a.out.now) c.read.new.steps c.in_ok-n.n c.in_ok-n.ensures.1 c.in_ok-n.ensures.0 q.result out q.ensures.1 m)
    (omega (arith, m, q.ensures.0)) q.ensures.2
