-- The sheet call: the ranges and marks that it shows, what it answers and what it writes (document 01, "Turning text down" and "Sheet and run
-- on paper"; document 02, W-203). Definitions only; assumes nothing.
use Rattle.std.specs.Prelude.{Bool, cond, List, [], ◌∷◌, ◌++◌, ℕ, suc, ◌*◌, ltb, length, get_or, drop}
use Rattle.hexadecimal.specs.Hex.{digits}
use Rattle.recipe.specs.declared.Step.{Step}
use Rattle.recipe.specs.Table.{kind_number}
use Rattle.recipe.specs.Text.{Text, steps, short, most_steps, read_text}
use Rattle.recipe.specs.Text as text
use Rattle.semantics.specs.declared.SheetAnswer.{SheetAnswer}
use Rattle.semantics.specs.Range.{Range, kind_of, low_word, high_word}
use Rattle.semantics.specs.Mark.{no_mark, marks_of}
use Rattle.semantics.specs.Sheet.{Sheet, passed, sheet_from}
use Rattle.semantics.specs.Sheet as sheet

-- every step's range and mark, or a refusal's number and place
pub data Shown : Type 0 where
  shown : List Range → List Bool → Shown
  refused : ℕ → ℕ → Shown

-- the ranges of the steps l, and beside them the marks
unfoldable pub marked : List Step → Sheet → Shown
marked l (passed rs) = shown rs (marks_of l rs)
marked l (sheet.refused number k) = refused number k

-- ---- the call on steps: 40, then 20 to 22

-- the bytes of a line
abbrev pub sheet_line : ℕ
sheet_line = 39

-- the bytes of the longest sheet: 4,992
abbrev pub longest_sheet : ℕ
longest_sheet = most_steps * sheet_line

-- the sheet of the steps l, with room for so many bytes
unfoldable pub sheet_steps : List Step → ℕ → Shown
sheet_steps l room = cond (ltb room (sheet_line * length l)) (refused 40 0) (marked l (sheet_from l 0 []))

-- ---- the call on a text: 10 to 17 before all others

unfoldable pub on_text : Text → ℕ → Shown
on_text (steps l) room = sheet_steps l room
on_text (text.refused number place) room = refused number place

-- the sheet of the recipe t, with room for so many bytes
unfoldable pub sheet_of : List ℕ → ℕ → Shown
sheet_of t room = on_text (read_text short t) room

-- ---- what is answered: how many steps it shows

abbrev pub answer_of : Shown → SheetAnswer
answer_of (shown rs ms) = record { refusal = 0; place = 0; steps = length rs }
answer_of (refused number k) = record { refusal = number; place = k; steps = 0 }

-- ---- its lines: step 2 digits, kind 2, mark 2, low 16, high 16, a line feed

-- 01 marked, 00 not
abbrev pub mark_number : Bool → ℕ
mark_number m = cond m 1 0

abbrev pub line_of : ℕ → Bool → Range → List ℕ
line_of k m r =
    digits 2 k ++ (digits 2 (kind_number (kind_of r)) ++ (digits 2 (mark_number m) ++ (digits 16 (low_word r) ++ (digits 16 (high_word r) ++ (10 ∷ [])))))

-- from step k on, of all marks ms
unfoldable pub lines_from : ℕ → List Range → List Bool → List ℕ
lines_from k [] ms = []
lines_from k (r ∷ rs) ms = line_of k (get_or ms k no_mark) r ++ lines_from (suc k) rs ms

-- a refusal changes no byte; a passed sheet writes its lines, and leaves the rest
abbrev pub bytes_of : Shown → List ℕ → List ℕ
bytes_of (shown rs ms) lent = lines_from 0 rs ms ++ drop (sheet_line * length rs) lent
bytes_of (refused number k) lent = lent
