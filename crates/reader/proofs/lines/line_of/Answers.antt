-- `line_of` meets its contract: what each field says, once it is read, is put into the line's definition. Assumes nothing.
use mathlib.Core.Path.{◌≡◌, refl}
use mathlib.Core.List.{List}
use Prim.Native.Nat.{ℕ, ◌≤◌}
use native.Mathlib.Omega.{arith}
use lib.ListN.{length, take, drop}
use borrow.Author.Tests.{eq-eqb, ne_eqb}
use Rattle.std.specs.Prelude.{Option}
use Rattle.hexadecimal.specs.Hex.{field_of, word_field}
use Rattle.hexadecimal.proofs.Laws.{field_below, word_part}
use Rattle.recipe.specs.Text.{line_at, from_fields}
use Rattle.reader.proofs.lines.line_of.Goals as goal

-- ---- each field, as it was read from its own bytes

opcode-is : (s : List ℕ) → 39 ≤ length s → {f : Option ℕ} → f ≡ word_field (take 2 (drop 0 s)) → field_of s 0 2 0 ≡ f
opcode-is s h e = word_part s 0 2 (omega arith) (omega arith) (omega arith) e refl

a-is : (s : List ℕ) → 39 ≤ length s → {f : Option ℕ} → f ≡ word_field (take 2 (drop 2 s)) → field_of s 2 2 0 ≡ f
a-is s h e = word_part s 2 4 (omega arith) (omega arith) (omega arith) e refl

b-is : (s : List ℕ) → 39 ≤ length s → {f : Option ℕ} → f ≡ word_field (take 2 (drop 4 s)) → field_of s 4 2 0 ≡ f
b-is s h e = word_part s 4 6 (omega arith) (omega arith) (omega arith) e refl

p-is : (s : List ℕ) → 39 ≤ length s → {f : Option ℕ} → f ≡ word_field (take 16 (drop 6 s)) → field_of s 6 16 0 ≡ f
p-is s h e = word_part s 6 22 (omega arith) (omega arith) (omega arith) e refl

q-is : (s : List ℕ) → 39 ≤ length s → {f : Option ℕ} → f ≡ word_field (take 16 (drop 22 s)) → field_of s 22 16 0 ≡ f
q-is s h e = word_part s 22 38 (omega arith) (omega arith) (omega arith) e refl

-- ---- the needs

pub returns-in_err-opcode : goal.returns-in_err-opcode
unfolding line_at from_fields
returns-in_err-opcode c = rw c.from_residual.ensures (simp (opcode-is _ c.requires c.in_err-opcode.ensures))

pub returns-in_err-a : goal.returns-in_err-a
unfolding line_at from_fields
returns-in_err-a c = rw c.from_residual-in_err-a.ensures (simp (opcode-is _ c.requires c.in_ok-opcode.ensures, a-is _ c.requires c.in_err-a.ensures))

pub returns-in_err-b : goal.returns-in_err-b
unfolding line_at from_fields
returns-in_err-b c = rw c.from_residual-in_err-b.ensures (simp (opcode-is _ c.requires c.in_ok-opcode.ensures, a-is _ c.requires c.in_ok-a.ensures, b-is _ c.requires c.in_err-b.ensures))

pub returns-in_err-p : goal.returns-in_err-p
unfolding line_at from_fields
returns-in_err-p c = rw c.from_residual-in_err-p.ensures (simp (opcode-is _ c.requires c.in_ok-opcode.ensures, a-is _ c.requires c.in_ok-a.ensures, b-is _ c.requires c.in_ok-b.ensures, p-is _ c.requires c.in_err-p.ensures))

pub returns-in_err-q : goal.returns-in_err-q
unfolding line_at from_fields
returns-in_err-q c = rw c.from_residual-in_err-q.ensures (simp (opcode-is _ c.requires c.in_ok-opcode.ensures, a-is _ c.requires c.in_ok-a.ensures, b-is _ c.requires c.in_ok-b.ensures, p-is _ c.requires c.in_ok-p.ensures, q-is _ c.requires c.in_err-q.ensures))

pub returns-then-s-ne10 : goal.returns-then-s-ne10
unfolding line_at from_fields
returns-then-s-ne10 c = simp (opcode-is _ c.requires c.in_ok-opcode.ensures, a-is _ c.requires c.in_ok-a.ensures, b-is _ c.requires c.in_ok-b.ensures, p-is _ c.requires c.in_ok-p.ensures, q-is _ c.requires c.in_ok-q.ensures, ne_eqb _ _ c.if-s-ne10.true)

pub overflow_cast-result : goal.overflow_cast-result
overflow_cast-result c = omega (arith, field_below _ _ 2 _ (opcode-is _ c.requires c.in_ok-opcode.ensures))

pub overflow_cast-result-2 : goal.overflow_cast-result-2
overflow_cast-result-2 c = omega (arith, field_below _ _ 2 _ (a-is _ c.requires c.in_ok-a.ensures))

pub overflow_cast-result-3 : goal.overflow_cast-result-3
overflow_cast-result-3 c = omega (arith, field_below _ _ 2 _ (b-is _ c.requires c.in_ok-b.ensures))

pub returns : goal.returns
unfolding line_at from_fields
returns c = simp (opcode-is _ c.requires c.in_ok-opcode.ensures, a-is _ c.requires c.in_ok-a.ensures, b-is _ c.requires c.in_ok-b.ensures, p-is _ c.requires c.in_ok-p.ensures, q-is _ c.requires c.in_ok-q.ensures, eq-eqb _ _ c.if-s-ne10.false)
