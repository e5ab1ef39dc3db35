-- `fields_line` meets its contract: `fields_written` says what its stores make. Assumes nothing.
use mathlib.Core.Path.{◌≡◌, ◌∙◌, ap}
use Prim.Native.Nat.{ℕ}
use native.Mathlib.Omega.{arith}
use lib.ListN.{length, take}
use lib.Seq.{length-take-le}
use Rattle.hexadecimal.specs.Hex.{digits}
use Rattle.hexadecimal.proofs.Digits.{length_digits}
use Rattle.output.proofs.Written.{second_part, third_part, fields_written, fields_rest}
use Rattle.output.proofs.answer.fields_line.Goals as goal

pub returns : goal.returns
returns c =
    let s = c.args in
    let line = s.out.now in
    let a = c.write in
    let b = c.write-2 in
    let d = c.write-3 in
    let e1 : length (take 2 line) ≡ 2 = length-take-le 2 line (omega arith) in
    let n1 : length a.new.out ≡ 2 = ap length a.ensures ∙ length_digits _ _ ∙ e1 in
    let e2 = second_part line a.new.out c.requires n1 2 (omega arith) in
    let n2 : length b.new.out ≡ 2 = ap length b.ensures ∙ length_digits _ _ ∙ e2 in
    let e3 = third_part line a.new.out c.requires n1 b.new.out n2 in
    let n3 : length d.new.out ≡ 2 = ap length d.ensures ∙ length_digits _ _ ∙ e3 in (
      omega arith,
      fields_written s.x s.y s.z line a.new.out b.new.out d.new.out c.requires
          (a.ensures ∙ ap (λ (k : ℕ). digits k s.x) e1)
          (b.ensures ∙ ap (λ (k : ℕ). digits k s.y) e2)
          (d.ensures ∙ ap (λ (k : ℕ). digits k s.z) e3),
      fields_rest line a.new.out b.new.out d.new.out c.requires n1 n2 n3,
    )
