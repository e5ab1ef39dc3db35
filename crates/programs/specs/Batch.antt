-- The call on many frame lines: which of them it answers, and what it answers and writes. The answers are the run program's. Definitions only;
-- assumes nothing.
use Rattle.std.specs.Prelude.{true, false, cond, List, [], ◌∷◌, ◌++◌, ℕ, suc, ◌+◌, ◌-◌, ltb, eqb, length, drop}
use Rattle.recipe.specs.declared.Step.{Step}
use Rattle.recipe.specs.Text.{Text, steps, short, read_text}
use Rattle.recipe.specs.Text as text
use Rattle.programs.specs.declared.LinesAnswer.{LinesAnswer}
use Rattle.programs.specs.Output.{frame_line, answers}

-- ---- the lines that are answered

-- the lines of the bytes s that have their line feed, after these bytes of the first of them
unfoldable pub ended_after : List ℕ → List ℕ → List (List ℕ)
ended_after line [] = []
ended_after line (b ∷ s) = elim (eqb b 10) [ true ↦ line ∷ ended_after [] s | false ↦ ended_after (line ++ (b ∷ [])) s ]

-- the bytes of the longest answer, its line feed counted
abbrev pub answer_line_bytes : ℕ
answer_line_bytes = 19

-- those of the lines that are answered with so much room: one after another, while there is room for the longest answer
unfoldable pub answered_in : List Step → ℕ → List (List ℕ) → List (List ℕ)
answered_in l room [] = []
answered_in l room (x ∷ xs) = elim (ltb room answer_line_bytes) [ true ↦ [] | false ↦ x ∷ answered_in l (room - length (frame_line l x)) xs ]

-- the bytes of some lines, line feeds counted
unfoldable pub line_bytes : List (List ℕ) → ℕ
line_bytes [] = 0
line_bytes (x ∷ xs) = suc (length x) + line_bytes xs

-- ---- the call on steps: 40, then as many lines as there is room for

-- how many bytes are read, and the bytes written; or a refusal's number and place
pub data Batch : Type 0 where
  answered : ℕ → List ℕ → Batch
  refused : ℕ → ℕ → Batch

abbrev pub answers_to : List Step → List (List ℕ) → Batch
answers_to l lines = answered (line_bytes lines) (answers l lines)

-- the steps l on the frame lines s, with room for so many bytes
unfoldable pub batch_steps : List Step → List ℕ → ℕ → Batch
batch_steps l s room = cond (ltb room answer_line_bytes) (refused 40 0) (answers_to l (answered_in l room (ended_after [] s)))

-- ---- the call on a text: 10 to 17 before all others

unfoldable pub on_text : Text → List ℕ → ℕ → Batch
on_text (steps l) s room = batch_steps l s room
on_text (text.refused number place) s room = refused number place

-- the recipe t on the frame lines s, with room for so many bytes
unfoldable pub batch_of : List ℕ → List ℕ → ℕ → Batch
batch_of t s room = on_text (read_text short t) s room

-- ---- what is answered, and the lent bytes before and after

abbrev pub answer_of : Batch → LinesAnswer
answer_of (answered read written) = record { refusal = 0; place = 0; read = read; written = length written }
answer_of (refused number place) = record { refusal = number; place = place; read = 0; written = 0 }

-- a refusal changes no byte; else the answers are written, and the rest is left
abbrev pub bytes_of : Batch → List ℕ → List ℕ
bytes_of (answered read written) lent = written ++ drop (length written) lent
bytes_of (refused number place) lent = lent
