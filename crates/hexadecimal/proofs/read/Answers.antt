-- `read` meets its contract. The invariant: `value`, of the digits so far, and those that are left make the whole field; it is below
-- 16 ^ i after i digits, so that one digit more fits. Assumes nothing.
use mathlib.Core.Path.{◌≡◌, ◌∙◌, sym}
use Prim.Native.Nat.{◌-◌}
use native.Mathlib.Omega.{arith}
use lib.ListN.{length, get_or}
use Rattle.hexadecimal.specs.Hex.{digit_of}
use Rattle.hexadecimal.proofs.Digits.{field_bad, field_good, field_done, digits_more, room}
use Rattle.hexadecimal.proofs.Laws.{word_field_lem, word_field_long}
use Rattle.hexadecimal.proofs.read.Goals as goal

pub returns-then-s-gt16 : goal.returns-then-s-gt16
returns-then-s-gt16 c = sym (word_field_long c.args.s.now c.if-s-gt16.true)

pub loop-b-init : goal.loop-b-init
loop-b-init c =
    let s = c.args.s.now in
    let e : length s - 0 ≡ length s = omega arith in
    (omega arith, rw e (word_field_lem s (omega arith)))

pub returns-then-d-gt15 : goal.returns-then-d-gt15
returns-then-d-gt15 c =
    let l = c.loop-b in
    sym (l.invariant.1 ∙ field_bad _ _ l.b-index l.value (omega arith) (rw (← c.digit-d.ensures) (omega arith)))

pub overflow_mul-value : goal.overflow_mul-value
overflow_mul-value c =
    let l = c.loop-b in
    omega (arith, room l.b-index l.value (omega arith) l.invariant.0)

pub overflow_add-value : goal.overflow_add-value
overflow_add-value c =
    let l = c.loop-b in
    omega (arith, room l.b-index l.value (omega arith) l.invariant.0)

pub loop-b-preserved : goal.loop-b-preserved
loop-b-preserved c =
    let s = c.args.s.now in
    let l = c.loop-b in
    let d : c.digit-d.result ≡ digit_of (get_or s l.b-index 0) = c.digit-d.ensures in (
      digits_more l.b-index l.value c.digit-d.result l.invariant.0 (omega arith),
      l.invariant.1 ∙ rw d (field_good s _ l.b-index l.value (omega arith) (rw (← d) (omega arith))),
    )

pub returns : goal.returns
returns c = let l = c.loop-b in sym (l.invariant.1 ∙ field_done _ _ l.b-index l.value (omega arith))
