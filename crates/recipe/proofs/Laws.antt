-- What a user of the reader would state, over every form of text, and what the answer's fields tell. Assumes nothing.
use mathlib.Core.Path.{◌≡◌, refl}
use mathlib.Core.List.{List}
use mathlib.Core.Logic.{◌⊎◌, ⊎_elim}
use Prim.Native.Nat.{ℕ, ◌*◌, ◌/◌, ◌≤◌, ◌<◌}
use native.Mathlib.Omega.{arith}
use lib.ListN.{length, take, drop}
use lib.Seq.{take-length}
use Rattle.recipe.specs.declared.Step.{Step}
use Rattle.recipe.specs.declared.Reading.{Reading}
use Rattle.recipe.specs.Text.{Form, line_length, most_steps, short, steps, refused, inputs_in, step_refusal, bad_length, read_text}
use Rattle.recipe.specs.Packed.{steps_in}
use Rattle.recipe.specs.Answer.{Says, Leaves, Formed, Holds, Checked}
use Rattle.recipe.proofs.Formed.{checked, numbered, formed_by, refused_by, inputs_so_far, says_which}
use Rattle.recipe.proofs.Packed.{steps_length, holds_first, put_steps_length, put_steps_rest}

-- ---- one step

-- A step that is refused for nothing passes each check.
pub step_checked : (l : List Step) (t : Step) → step_refusal l t ≡ 0 → Checked l t
step_checked l t e = checked l t e

-- A step's refusal is 0, or 12 to 17.
pub step-number : (l : List Step) (t : Step) → (step_refusal l t ≤ 17) × (0 < step_refusal l t → 12 ≤ step_refusal l t)
step-number l t = numbered l t

-- ---- the text

module _ (f : Form) (s : List ℕ) where
  -- A text that is read to the steps l: there are 1 to f's most, and none is refused for anything after those before it.
  pub read_formed : (l : List Step) → read_text f s ≡ steps l → Formed f.most l
  unfolding read_text
  read_formed l e = formed_by f s l (bad_length f (length s)) refl e

  -- A refusal is number 10 at place 0, or one of 11 to 17 at the place of a line of the text.
  pub read_refused : (n p : ℕ) → read_text f s ≡ refused n p → ((n ≡ 10) × (p ≡ 0)) ⊎ ((11 ≤ n) × (n ≤ 17) × (p < length s / line_length f))
  unfolding read_text
  read_refused n p e = refused_by f s n p (bad_length f (length s)) refl e

-- A recipe that was read has at most 16 inputs.
pub formed_inputs : (most : ℕ) (l : List Step) → Formed most l → inputs_in l ≤ 16
formed_inputs most l g = rw take-length at (inputs_so_far most l g (length l) (omega arith))

-- ---- the answer

-- No refusal has the number 0.
pub refusal_positive : (f : Form) (s : List ℕ) (n p : ℕ) → read_text f s ≡ refused n p → 0 < n
refusal_positive f s n p e = ⊎_elim (λ w. omega (arith, w.0)) (λ w. omega (arith, w.0)) (read_refused f s n p e)

module _ (s : List ℕ) (r : Reading) (w : List ℕ) (g : Says (read_text short s) r w) where
  -- An answer with refusal 0 has the text's steps ..
  pub answer_steps : r.refusal ≡ 0 → read_text short s ≡ steps (steps_in w r.count)
  answer_steps e = (says_which (read_text short s) r w (refusal_positive short s) g).0 e

  -- .. and they are formed, so that the words up to the last of them hold them.
  pub answer_formed : r.refusal ≡ 0 → Formed most_steps (steps_in w r.count)
  answer_formed e = read_formed short s (steps_in w r.count) (answer_steps e)

  pub answer_count : r.refusal ≡ 0 → (1 ≤ r.count) × (r.count ≤ most_steps)
  answer_count e = let f = answer_formed e in let n = steps_length w r.count in (omega (arith, f.some), omega (arith, f.few))

  pub answer_holds : r.refusal ≡ 0 → 3 * r.count ≤ length w → Holds (steps_in w r.count) (take (3 * r.count) w)
  answer_holds e h = holds_first w r.count h (answer_formed e)

  -- Any other answer has the text's refusal.
  pub answer_refused : (r.refusal ≡ 0 → ⊥) → read_text short s ≡ refused r.refusal r.place.0
  answer_refused e = (says_which (read_text short s) r w (refusal_positive short s) g).1 e

-- ---- the words

module _ (l : List Step) (v w : List ℕ) (e : Leaves (steps l) v w) where
  -- Reading a text that passes changes no word past its steps, and keeps their number.
  pub rest_unwritten : (k : ℕ) → 3 * length l ≤ k → drop k w ≡ drop k v
  rest_unwritten k h = rw e (put_steps_rest v l (length l) k h)

  pub words_kept : length w ≡ length v
  words_kept = rw e (put_steps_length v l (length l))
