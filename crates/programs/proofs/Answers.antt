-- The lines of output, as a user would state them: what is read back from each place of a line, that a refused recipe has no other line, that a
-- frame line is answered by the run call, and that each has its answer whatever the others came to. A recipe takes at most 16 inputs of 16
-- digits, so a line over 256 bytes is one that the run call refuses too. Assumes nothing.
use mathlib.Core.Path.{◌≡◌, refl, ap, ◌∙◌, sym}
use mathlib.Core.List.{List, [], ◌∷◌, ◌++◌, append_assoc, append-nil}
use mathlib.Core.Logic.{⊎_elim}
use Prim.Native.Nat.{ℕ, ◌^◌, ◌≤◌, ◌<◌}
use native.Mathlib.Omega.{arith}
use lib.ListN.{length, length-append}
use borrow.Author.Tests.{lt-ltb, le-ltb, eq-eqb, ne_eqb}
use Rattle.hexadecimal.specs.Hex.{field_of, digits}
use Rattle.std.specs.Prelude.{Some}
use Rattle.hexadecimal.proofs.Digits.{length_digits}
use Rattle.hexadecimal.proofs.Laws.{read_written}
use Rattle.recipe.specs.declared.Step.{Step}
use Rattle.recipe.specs.Text.{Text, short, most_steps, steps, read_text}
use Rattle.recipe.specs.Text as text
use Rattle.recipe.specs.Answer.{Formed}
use Rattle.recipe.proofs.Laws.{read_formed, formed_inputs}
use Rattle.semantics.specs.declared.RunAnswer.{RunAnswer}
use Rattle.semantics.specs.Run.{Run, refused, run_steps, run_of, answer_of}
use Rattle.semantics.proofs.Lists.{lt_or_ge}
use Rattle.semantics.proofs.Calls.{run_length, run_read}
use Rattle.programs.specs.Output.{refusal_line, answer_line, frame_line, answers, on_recipe}

-- ---- a refusal line

module _ (number place : ℕ) where
  pub refusal-length : length (refusal_line number place) ≡ 7
  unfolding refusal_line
  refusal-length = simp (length-append, length_digits)

  -- Its digits are read back: ff ..
  pub refusal-mark : field_of (refusal_line number place) 0 2 0 ≡ Some 0xff
  unfolding refusal_line
  refusal-mark = read_written 2 0xff [] _ (omega arith)

  -- .. then the number ..
  pub refusal-number : number < 256 → field_of (refusal_line number place) 2 2 0 ≡ Some number
  unfolding refusal_line
  refusal-number h =
      ap (λ (at : ℕ). field_of (refusal_line number place) at 2 0) (sym (length_digits 2 0xff)) ∙ read_written 2 number (digits 2 0xff) _ h

  -- .. and then the place.
  pub refusal-place : place < 256 → field_of (refusal_line number place) 4 2 0 ≡ Some place
  unfolding refusal_line
  refusal-place h =
      let p : List ℕ = digits 2 0xff ++ digits 2 number in
      let e : length p ≡ 4 = simp (length-append, length_digits) in
      ap (λ (at : ℕ). field_of (refusal_line number place) at 2 0) (sym e)
      ∙ ap (λ (s : List ℕ). field_of s (length p) 2 0) (sym (append_assoc (digits 2 0xff) (digits 2 number) _))
      ∙ read_written 2 place p _ h

-- ---- a recipe that was read

module _ (x : Text) (more : List Step → List ℕ) where
  -- A refused recipe gives one line, whatever would follow.
  pub refused-recipe : (number place : ℕ) → x ≡ text.refused number place → on_recipe x more ≡ refusal_line number place
  unfolding on_recipe
  refused-recipe number place e = rw e

  -- Any other gives none of its own.
  pub passed-recipe : (l : List Step) → x ≡ steps l → on_recipe x more ≡ more l
  unfolding on_recipe
  passed-recipe l e = rw e

-- ---- the answer to a frame

module _ (r : RunAnswer) (z : r.refusal ≡ 0) where
  -- Its digits are read back: the kind, then the word.
  pub answer-kind : r.kind < 256 → field_of (answer_line r) 0 2 0 ≡ Some r.kind
  unfolding answer_line
  answer-kind h = rw (eq-eqb r.refusal 0 z) (read_written 2 r.kind [] _ h)

  pub answer_word : r.word < 2 ^ 64 → field_of (answer_line r) 2 16 0 ≡ Some r.word
  unfolding answer_line
  answer_word h =
      rw (eq-eqb r.refusal 0 z)
      (ap (λ (at : ℕ). field_of (digits 2 r.kind ++ (digits 16 r.word ++ (10 ∷ []))) at 16 0) (sym (length_digits 2 r.kind))
      ∙ read_written 16 r.word (digits 2 r.kind) _ h)

pub answer_refused : (r : RunAnswer) → (r.refusal ≡ 0 → ⊥) → answer_line r ≡ refusal_line r.refusal r.place
unfolding answer_line
answer_refused r h = rw (ne_eqb r.refusal 0 h)

module _ (l : List Step) (s : List ℕ) where
  pub frame-long : 256 < length s → frame_line l s ≡ refusal_line 30 0
  unfolding frame_line
  frame-long h = rw (lt-ltb 256 (length s) h)

  pub frame-short : length s ≤ 256 → frame_line l s ≡ answer_line (answer_of (run_steps l s most_steps))
  unfolding frame_line
  frame-short h = rw (le-ltb 256 (length s) h)

  -- The run itself refuses a line over 256 bytes for its length.
  pub long-is-30 : Formed most_steps l → 256 < length s → run_steps l s most_steps ≡ refused 30 0
  long-is-30 f h = let i = formed_inputs most_steps l f in run_length l s most_steps f.few (λ q. omega arith)

  -- So a frame line is answered by the run call on the recipe's text, however long it is.
  pub frame-is-run : (t : List ℕ) → read_text short t ≡ steps l → frame_line l s ≡ answer_line (answer_of (run_of t s most_steps))
  unfolding answer_line
  frame-is-run t e =
      let r : run_of t s most_steps ≡ run_steps l s most_steps = run_read t s most_steps l e in
      ⊎_elim
      (λ (h : 256 < length s).
      frame-long h ∙ sym (ap (λ (x : Run). answer_line (answer_of x)) (r ∙ long-is-30 (read_formed short t l e) h)))
      (λ (h : length s ≤ 256). frame-short h ∙ sym (ap (λ (x : Run). answer_line (answer_of x)) r))
      (lt_or_ge 256 (length s))

-- ---- one answer per frame

-- Each frame line has its answer, whatever the others came to: lines after others are answered as they would be alone.
pub answers_join : (l : List Step) (xs ys : List (List ℕ)) → answers l (xs ++ ys) ≡ answers l xs ++ answers l ys
unfolding answers
answers_join l [] ys = refl
answers_join l (s ∷ xs) ys = ap (λ (x : List ℕ). frame_line l s ++ x) (answers_join l xs ys) ∙ sym (append_assoc (frame_line l s) (answers l xs) (answers l ys))

pub answers_none : (l : List Step) → answers l [] ≡ []
unfolding answers
answers_none l = refl

pub answers_one : (l : List Step) (s : List ℕ) → answers l (s ∷ []) ≡ frame_line l s
unfolding answers
answers_one l s = append-nil (frame_line l s)
