-- Where a recipe's sheet passes, a run of it on any frame completes with each value in its step's range, or is turned down before its
-- first step, for its room (40) or for its frame (30 to 32): no step refuses. Assumes nothing.
use mathlib.Core.Path.{◌≡◌, refl}
use mathlib.Core.Bool.{Bool, true, false, cond}
use mathlib.Core.List.{List, [], ◌∷◌, ◌++◌}
use mathlib.Core.Logic.{◌⊎◌, inl, inr}
use Prim.Native.Nat.{ℕ, zero, suc, ◌+◌, ◌*◌, ◌≤◌}
use native.Mathlib.Omega.{arith}
use lib.Dec.{ltb, eqb}
use lib.ListN.{length, get_or}
use Rattle.hexadecimal.specs.Hex.{field_of}
use Rattle.std.specs.Prelude.{Option, Some, None}
use Rattle.recipe.specs.declared.Step.{Step}
use Rattle.recipe.specs.Table.{row_of, is_input}
use Rattle.recipe.specs.Text.{most_steps, inputs_in}
use Rattle.recipe.specs.Answer.{Formed}
use Rattle.semantics.specs.Range.{Range}
use Rattle.semantics.specs.Frame.{Frame, words, outside, on_field, words_from, on_words, read_frame}
use Rattle.semantics.specs.Frame as frame
use Rattle.semantics.specs.Run.{Run, run_from, on_frame, call_on, run_steps}
use Rattle.semantics.specs.Run as run
use Rattle.semantics.specs.Sheet.{passed, sheet_from}
use Rattle.semantics.proofs.Sound.Kept.{never}
use Rattle.semantics.proofs.Sound.Recipes.{Completes, words_complete}

-- ---- a frame's refusals

field_number : (x : Option ℕ) (more : ℕ → Frame) (n p : ℕ) → ((w : ℕ) → more w ≡ frame.refused n p → n ≡ 31) → on_field x more ≡ frame.refused n p → n ≡ 31
unfolding on_field
field_number (Some w) more n p h e = h w e
field_number None more n p h e = cc

words-number : (s : List ℕ) (m k : ℕ) (l : List ℕ) (n p : ℕ) → words_from s m k l ≡ frame.refused n p → n ≡ 31
unfolding words_from
words-number s zero k l n p e = never (cc)
words-number s (suc m) k l n p e =
    field_number (field_of s (k * 16) 16 0) (λ w. words_from s m (suc k) (l ++ (w ∷ []))) n p (λ w h. words-number s m (suc k) (l ++ (w ∷ [])) n p h) e

ranged-number : (ls : List Step) (k j : ℕ) (ws : List ℕ) (n p : ℕ) → frame.ranged ls k j ws ≡ frame.refused n p → n ≡ 32
unfolding frame.ranged
ranged-number [] k j ws n p e = never (cc)
ranged-number (t ∷ ls) k j ws n p e =
    pick (outside (row_of t.opcode) t (get_or ws j 0)) (λ h. ranged-number ls (suc k) (cond (is_input (row_of t.opcode)) 1 0 + j) ws n p h) e
  where
    pick : (b : Bool) → (frame.ranged ls (suc k) (cond (is_input (row_of t.opcode)) 1 0 + j) ws ≡ frame.refused n p → n ≡ 32)
        → elim b [ true ↦ frame.refused 32 k | false ↦ frame.ranged ls (suc k) (cond (is_input (row_of t.opcode)) 1 0 + j) ws ] ≡ frame.refused n p → n ≡ 32
    pick true more h = cc
    pick false more h = more h

frame_number : (ls : List Step) (s : List ℕ) (n p : ℕ) → read_frame ls s ≡ frame.refused n p → (30 ≤ n) × (n ≤ 32)
unfolding read_frame on_words
frame_number ls s n p e = pick (eqb (length s) (16 * inputs_in ls)) (words_from s (inputs_in ls) 0 []) refl e
  where
    pick : (b : Bool) (x : Frame) → words_from s (inputs_in ls) 0 [] ≡ x
        → cond b (on_words x (λ us. frame.ranged ls 0 0 us)) (frame.refused 30 0) ≡ frame.refused n p → (30 ≤ n) × (n ≤ 32)
    pick true (words us) g h = omega (arith, ranged-number ls 0 0 us n p h)
    pick true (frame.refused number place) g h =
        let q : number ≡ n = cc in
        omega (arith, words-number s (inputs_in ls) 0 [] number place g)
    pick false x g h =
        let q : ◌≡◌ {A = ℕ} 30 n = cc in
        omega arith

-- ---- any run of a recipe whose sheet passes

-- completed with each value in its range, or turned down before the first step
pub data Answered (rs : List Range) (n : ℕ) (o : Run) : Type 0 where
  in_ranges : Completes o n rs → Answered rs n o
  turned_down : (number place : ℕ) → o ≡ run.refused number place → (number ≡ 40) ⊎ ((30 ≤ number) × (number ≤ 32)) → Answered rs n o

module _ (s : List ℕ) (room : ℕ) (ls : List Step) (rs : List Range) (e : Formed most_steps ls) (g : sheet_from ls 0 [] ≡ passed rs) where
  by_frame : (x : Frame) → read_frame ls s ≡ x → Answered rs (length ls) (on_frame x (λ ws. run_from ls 0 0 ws []))
  unfolding on_frame
  by_frame (words ws) f = in_ranges (words_complete s ls ws rs e g f)
  by_frame (frame.refused number place) f = turned_down number place refl (inr (frame_number ls s number place f))

  by_room : (b : Bool) → Answered rs (length ls) (cond b (run.refused 40 0) (on_frame (read_frame ls s) (λ ws. run_from ls 0 0 ws [])))
  by_room true = turned_down 40 0 refl (inl refl)
  by_room false = by_frame (read_frame ls s) refl

  -- The sheet passed, so a run on any frame completes with each value in its step's range, or is refused 40, 30, 31 or 32.
  pub run_sound : Answered rs (length ls) (run_steps ls s room)
  unfolding run_steps call_on
  run_sound = by_room (ltb room (length ls))
