-- What a user of the run call would state. Assumes nothing.
use mathlib.Core.Path.{◌≡◌, refl, ap, ◌∙◌}
use mathlib.Core.List.{List, map}
use Prim.Native.Nat.{ℕ, ◌<◌}
use native.Mathlib.Omega.{arith}
use lib.ListN.{length, drop, get_or, length-append, length-map, length-drop, get_or-append, get_or-map}
use Rattle.semantics.specs.Value.{Datum, word_of}
use Rattle.semantics.specs.Run.{Run, completed, refused, no_value, run_of, answer_of, words_of}
use Rattle.semantics.proofs.Numbers.{RunNumbered, completes, stops, run_numbered}
use Rattle.semantics.proofs.Worked.{Completed, by_run}

module _ (t s : List ℕ) (room : ℕ) where
  -- A run that completes: the text and the frame are refused for nothing, there is room for a word a step, and each step's value is what its
  -- rule gives of the values of the steps before it and of its own 16 digits of the frame.
  pub run_completed : (l : List Datum) → run_of t s room ≡ completed l → Completed t s room l
  run_completed l e = by_run t s room l e

-- A run that a number says is completed, and its values.
pub record Finished (r : Run) : Type 0 where
  pub values : List Datum
  pub is : r ≡ completed values

finished : {r : Run} → RunNumbered r → (answer_of r).refusal ≡ 0 → Finished r
finished (completes l) e = record { values = l; is = refl }
finished (stops number place a b) e = absurd (omega arith)

-- An answer with refusal 0 is that of a completed run.
pub answer_completed : (t s : List ℕ) (room : ℕ) → (answer_of (run_of t s room)).refusal ≡ 0 → Finished (run_of t s room)
answer_completed t s room e = finished (run_numbered t s room) e

module _ (t s lent : List ℕ) where
  -- A run that is refused changes no word.
  pub refused_unwritten : (number k : ℕ) → run_of t s (length lent) ≡ refused number k → words_of (run_of t s (length lent)) lent ≡ lent
  refused_unwritten number k e = ap (λ (r : Run). words_of r lent) e

  kept : (r : Run) → run_of t s (length lent) ≡ r → length (words_of r lent) ≡ length lent
  kept (completed l) e =
      let g = by_run t s (length lent) l e in
      let a = g.fits in
      let b = g.worked.count in
      simp (length-append, length-map, length-drop) (omega arith)
  kept (refused number k) e = refl

  -- There are as many words after as before.
  pub words_length : length (words_of (run_of t s (length lent)) lent) ≡ length lent
  words_length = kept (run_of t s (length lent)) refl

  -- The word of step k of a completed run is its value's.
  pub completed_word : (l : List Datum) → run_of t s (length lent) ≡ completed l → (k : ℕ) → k < length l
      → get_or (words_of (run_of t s (length lent)) lent) k 0 ≡ word_of (get_or l k no_value)
  completed_word l e k h =
      ap (λ (r : Run). get_or (words_of r lent) k 0) e
      ∙ get_or-append (map word_of l) (drop (length l) lent) 0 k (simp length-map h)
      ∙ get_or-map word_of l k no_value
