-- The checks of a step by what is kept of the steps before it. They differ from `step_refusal` in check 15 alone, and there each row asks the same
-- kinds. What is kept stays so with a step more: only the step's own place changes, and no step stands past it. Assumes nothing.
use mathlib.Core.Path.{◌≡◌, refl, ap, ◌∙◌, sym}
use mathlib.Core.Bool.{Bool, true, false, cond}
use mathlib.Core.List.{List, [], ◌∷◌, ◌++◌}
use mathlib.Core.Logic.{◌⊎◌, inl, inr, ⊎_elim}
use Prim.Native.Nat.{ℕ, zero, suc, ◌+◌, ◌≤◌, ◌<◌}
use native.Mathlib.Omega.{arith}
use lib.Dec.{eqb}
use lib.ListN.{length, get_or, set, length-append, length-set, get_or-eq_default}
use lib.Seq.{get_or_at, get_or-set_same, get_or-set_other}
use borrow.Author.Tests.{eqb-true, eqb-false}
use Rattle.float_format.proofs.Units.{lt_or_ge}
use Rattle.recipe.specs.declared.Kind.{Kind}
use Rattle.recipe.specs.declared.Kind.TheVariants.{Double}
use Rattle.recipe.specs.declared.Row.{Row}
use Rattle.recipe.specs.declared.Row.TheVariants.{Unknown, Input, Constant, Unary, Binary}
use Rattle.recipe.specs.declared.Step.{Step}
use Rattle.recipe.specs.Table.{row_of, is_input}
use Rattle.recipe.specs.Text.{most_steps, first, second, no_step, kind_of, kind_at, wrong_kind, inputs_in, step_refusal}
use Rattle.recipe.proofs.Counts.{inputs_more}
use Rattle.reader.specs.Checks.{wrong_kinds, refusal_by, Known}

-- ---- the checks by the operands' kinds

same_kinds : (l : List Step) (t : Step) (row : Row) → wrong_kinds row (kind_at l (first t)) (kind_at l (second t)) ≡ wrong_kind row l t
same_kinds l t Unknown = refl
same_kinds l t (Input k) = refl
same_kinds l t (Constant k) = refl
same_kinds l t (Unary a k) = refl
same_kinds l t (Binary a b k) = refl

by_kinds : (l : List Step) (t : Step) → refusal_by (row_of t.opcode) t (length l) (inputs_in l) (kind_at l (first t)) (kind_at l (second t)) ≡ step_refusal l t
unfolding refusal_by step_refusal
by_kinds l t = rw (same_kinds l t (row_of t.opcode))

-- ---- what is kept of the steps before

-- a double's kind stands everywhere at the start
pub known_none : (kinds : List Kind) → length kinds ≡ most_steps → ((k : ℕ) → k < most_steps → get_or kinds k Double ≡ Double) → Known [] 0 0 kinds
unfolding inputs_in row_of
known_none kinds e h = record { counted = refl; room = omega arith; sized = e; inputs_so_far = refl; kinds_so_far = h }

-- a step more changes what stands at its own place alone
elsewhere : (l : List Step) (t d : Step) (k : ℕ) → (k ≡ length l → ⊥) → get_or (l ++ (t ∷ [])) k d ≡ get_or l k d
elsewhere [] t d zero h = absurd (h refl)
elsewhere [] t d (suc k) h = refl
elsewhere (x ∷ l) t d zero h = refl
elsewhere (x ∷ l) t d (suc k) h = elsewhere l t d k (λ e. h (ap suc e))

there_or_not : (k n : ℕ) (b : Bool) → eqb k n ≡ b → (k ≡ n) ⊎ (k ≡ n → ⊥)
there_or_not k n true e = inl (eqb-true k n e)
there_or_not k n false e = inr (eqb-false k n e)

module _ (l : List Step) (n inputs : ℕ) (kinds : List Kind) (g : Known l n inputs kinds) where
  pub known_more : (t : Step) → n < most_steps → (c : ℕ) (x : Kind) → c ≡ cond (is_input (row_of t.opcode)) 1 0 → x ≡ kind_of t
      → Known (l ++ (t ∷ [])) (n + 1) (inputs + c) (set kinds n x)
  known_more t h c x ec ex =
      record {
        counted = length-append l (t ∷ []) ∙ omega (arith, g.counted);
        room = omega arith;
        sized = simp length-set g.sized;
        inputs_so_far = rw (inputs_more l t, ec, g.inputs_so_far);
        kinds_so_far = λ k m.
            ⊎_elim
            (λ (e : k ≡ n). rw (e, get_or-set_same kinds n x Double (omega (arith, g.sized)), get_or_at l t [] no_step n g.counted) ex)
            (λ (e : k ≡ n → ⊥). rw (get_or-set_other kinds n k x Double e, elsewhere l t no_step k (λ q. e (q ∙ g.counted))) (g.kinds_so_far k m))
            (there_or_not k n (eqb k n) refl);
      }

  -- the checks by these kinds
  pub by_known : (t : Step) (a b : Kind) → a ≡ kind_at l (first t) → b ≡ kind_at l (second t) → refusal_by (row_of t.opcode) t n inputs a b ≡ step_refusal l t
  by_known t a b ea eb = rw (ea, eb, g.inputs_so_far, ← g.counted) (by_kinds l t)

  -- an operand's kind, and a double's where it is no step
  past : (k : ℕ) → most_steps ≤ k → get_or kinds k Double ≡ kind_at l k
  unfolding row_of
  past k h = get_or-eq_default kinds Double {n = k} (omega (arith, g.sized)) ∙ ap kind_of (sym (get_or-eq_default l no_step {n = k} (omega (arith, g.counted, g.room))))

  pub kind_kept : (k : ℕ) → get_or kinds k Double ≡ kind_at l k
  kind_kept k = ⊎_elim (g.kinds_so_far k) (past k) (lt_or_ge k most_steps)
