-- Demand 3, in the terms that document 01 fixes ("The terms of demand 3"): what a passed sheet promises of every frame. Definitions only;
-- assumes nothing. `sheet_sound` proves the promise, and `text_sound` that of a text.
use Rattle.std.specs.Prelude.{◌≡◌, true, false, List, [], ◌++◌, map, ℕ, ◌≤◌, ◌<◌, length, get_or, drop}
use Rattle.std.specs.Int.Signed.{le_z}
use Rattle.float_format.specs.Format.{binary64, is_nan}
use Rattle.float_format.specs.Number.{AtMost, is_integral}
use Rattle.recipe.specs.declared.Step.{Step}
use Rattle.recipe.specs.Table.{kind_number}
use Rattle.recipe.specs.Text.{steps, short, most_steps, read_text}
use Rattle.recipe.specs.Text as text
use Rattle.recipe.specs.Answer.{Formed}
use Rattle.semantics.specs.declared.RunAnswer.{RunAnswer}
use Rattle.semantics.specs.Value.{Datum, double, whole, kind_of, word_of}
use Rattle.semantics.specs.Range.{Range, doubles, wholes}
use Rattle.semantics.specs.Range as range
use Rattle.semantics.specs.Mark.{no_mark, marks_of}
use Rattle.semantics.specs.Frame.{words, read_frame}
use Rattle.semantics.specs.Run.{completed, no_value, run_steps, run_of, last_of, answer_of, words_of}
use Rattle.semantics.specs.Sheet.{passed, no_range, sheet_from}

-- ---- a value and a range

-- it isn't a NaN and is, as a number, neither below low nor above high; and it has the range's kind
unfoldable pub Lies : Range → Datum → Type 0
Lies (doubles low high) (double x) = (is_nan binary64 x ≡ false) × AtMost binary64 low x × AtMost binary64 x high
Lies (doubles low high) (whole z) = ⊥
Lies (wholes low high) (double x) = ⊥
Lies (wholes low high) (whole z) = (le_z low z ≡ true) × (le_z z high ≡ true)

-- a range of numbers: its ends are no NaNs
unfoldable pub Proper : Range → Type 0
Proper (doubles low high) = (is_nan binary64 low ≡ false) × (is_nan binary64 high ≡ false)
Proper (wholes low high) = Unit {0}

-- what a step's mark says of its value: a double is finite and has no fraction
unfoldable pub Integral : Datum → Type 0
Integral (double x) = is_integral binary64 x ≡ true
Integral (whole z) = Unit {0}

-- ---- the promise

-- What it is given of the steps l: their sheet, which shows the ranges rs, a frame of the words ws, and room for as many words as steps. No
-- other hypothesis.
pub record Given (l : List Step) (s : List ℕ) (room : ℕ) (rs : List Range) (ws : List ℕ) : Type 0 where
  -- none of refusals 20 to 22, as stated for the sheet, holds of any step
  pub passes : sheet_from l 0 [] ≡ passed rs
  -- none of refusals 30, 31 and 32 holds of the frame
  pub admits : read_frame l s ≡ words ws
  -- the run call is lent enough
  pub fits : length l ≤ room

-- What it gives, of the answer r and the words after it.
pub record Promised (l : List Step) (s lent : List ℕ) (rs : List Range) (r : RunAnswer) (after : List ℕ) : Type 0 where
  -- every step's value
  pub values : List Datum
  pub count : length values ≡ length l
  -- the run completes with these values, and no refusal
  pub completes : run_steps l s (length lent) ≡ completed values
  -- each has the kind that the sheet shows, which is its step's, and lies in the range that the sheet shows
  pub shown : map range.kind_of rs ≡ map text.kind_of l
  pub kinds : (k : ℕ) → k < length l → kind_of (get_or values k no_value) ≡ range.kind_of (get_or rs k no_range)
  pub lie : (k : ℕ) → k < length l → Lies (get_or rs k no_range) (get_or values k no_value)
  -- and is a whole number where the sheet marks it so
  pub integral : (k : ℕ) → k < length l → get_or (marks_of l rs) k no_mark ≡ true → Integral (get_or values k no_value)
  -- the words written are these values in step order, the rest is as lent, and the last is returned
  pub written : after ≡ map word_of values ++ drop (length l) lent
  pub returned : r ≡ record { refusal = 0; place = 0; kind = kind_number (kind_of (last_of values)); word = word_of (last_of values) }

-- The promise about the steps l, kept by an answer r on the frame s, with the lent words before and after.
abbrev pub Keeps : List Step → List ℕ → List ℕ → RunAnswer → List ℕ → Type 0
Keeps l s lent r after = (rs : List Range) (ws : List ℕ) → Given l s (length lent) rs ws → Promised l s lent rs r after

-- Demand 3, about any steps that are formed, any frame and any lent memory ..
abbrev pub Promise : Type 0
Promise =
    (l : List Step) → Formed most_steps l → (s lent : List ℕ)
    → Keeps l s lent (answer_of (run_steps l s (length lent))) (words_of (run_steps l s (length lent)) lent)

-- .. and so about any text: none of refusals 10 to 17 holds of it.
abbrev pub TextPromise : Type 0
TextPromise =
    (t : List ℕ) (l : List Step) → read_text short t ≡ steps l → (s lent : List ℕ)
    → Keeps l s lent (answer_of (run_of t s (length lent))) (words_of (run_of t s (length lent)) lent)
