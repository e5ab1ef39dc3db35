-- `answer_line` meets its contract: `answer_written` says what its stores make. Assumes nothing.
use mathlib.Core.Path.{◌≡◌, ◌∙◌, sym, ap}
use Prim.Native.Nat.{ℕ}
use native.Mathlib.Omega.{arith}
use lib.ListN.{length, take}
use lib.Seq.{length-take-le}
use Rattle.hexadecimal.specs.Hex.{digits}
use Rattle.hexadecimal.proofs.Digits.{length_digits}
use Rattle.programs.proofs.Answers.{answer_refused}
use Rattle.output.proofs.Written.{second_part, answer_written, answer_rest}
use Rattle.output.proofs.answer.answer_line.Goals as goal

pub returns-then-a-ne0 : goal.returns-then-a-ne0
returns-then-a-ne0 c = (c.refusal_line.ensures.0, c.refusal_line.ensures.1 ∙ sym (answer_refused c.args.a c.if-a-ne0.true), c.refusal_line.ensures.2)

pub returns : goal.returns
returns c =
    let s = c.args in
    let line = s.out.now in
    let a = c.write in
    let b = c.write-2 in
    let e1 : length (take 2 line) ≡ 2 = length-take-le 2 line (omega arith) in
    let n1 : length a.new.out ≡ 2 = ap length a.ensures ∙ length_digits _ _ ∙ e1 in
    let e2 = second_part line a.new.out c.requires n1 16 (omega arith) in
    let n2 : length b.new.out ≡ 16 = ap length b.ensures ∙ length_digits _ _ ∙ e2 in (
      omega arith,
      answer_written s.a line a.new.out b.new.out c.requires c.if-a-ne0.false
          (a.ensures ∙ ap (λ (k : ℕ). digits k s.a.kind) e1)
          (b.ensures ∙ ap (λ (k : ℕ). digits k s.a.word) e2),
      answer_rest line a.new.out b.new.out c.requires n1 n2,
    )
