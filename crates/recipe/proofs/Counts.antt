-- How many lines a text of a good length has, and how many inputs there are with one step more. Assumes nothing.
use mathlib.Core.Path.{◌≡◌, refl}
use mathlib.Core.Bool.{Bool, true, false, not, ◌||◌, cond}
use mathlib.Core.List.{List, [], ◌∷◌, ◌++◌}
use Prim.Native.Nat.{ℕ, zero, suc, ◌+◌, ◌%◌, ◌≤◌}
use native.Mathlib.Omega.{arith}
use lib.Dec.{ltb, eqb}
use borrow.Author.Tests.{ltb-false, eqb-true, eqb-false}
use Rattle.recipe.specs.declared.Step.{Step}
use Rattle.recipe.specs.Table.{row_of, is_input}
use Rattle.recipe.specs.Text.{Form, line_length, longest, inputs_in, bad_length}

pub never : {A : Type 0} → ◌≡◌ {A = ℕ} 0 1 → A
never e = absurd (omega arith)

pub or_false : (x y : Bool) → (x || y) ≡ false → (x ≡ false) × (y ≡ false)
or_false true y e = never (cc)
or_false false y e = (refl, e)

pub not_false : (m n : ℕ) (x : Bool) → eqb m n ≡ x → not x ≡ false → m ≡ n
not_false m n true e h = eqb-true m n e
not_false m n false e h = never (cc)

pub positive : (m : ℕ) → (m ≡ 0 → ⊥) → 1 ≤ m
positive zero h = absurd (h refl)
positive (suc m) h = omega arith

pub whole_lines : (f : Form) (m : ℕ) → bad_length f m ≡ false → (m ≡ 0 → ⊥) × (m % line_length f ≡ 0) × (m ≤ longest f)
whole_lines f m e =
    let a = or_false (eqb m 0 || not (eqb (m % line_length f) 0)) (ltb (longest f) m) e in
    let b = or_false (eqb m 0) (not (eqb (m % line_length f) 0)) a.0 in
    (eqb-false m 0 b.0, not_false (m % line_length f) 0 (eqb (m % line_length f) 0) refl b.1, ltb-false (longest f) m a.1)

pub inputs_more : (l : List Step) (t : Step) → inputs_in (l ++ (t ∷ [])) ≡ inputs_in l + cond (is_input (row_of t.opcode)) 1 0
unfolding inputs_in
inputs_more [] t = omega arith
inputs_more (x ∷ l) t = omega (arith, inputs_more l t)
