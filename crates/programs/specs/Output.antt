-- What the run program writes, as a function of all that it reads (document 01, "Sheet and run on paper"). Input and output are lists of
-- bytes; a line feed is 10. Definitions only; assumes nothing.
use Rattle.std.specs.Prelude.{true, false, ◌&&◌, cond, List, [], ◌∷◌, ◌++◌, ℕ, suc, ◌-◌, ltb, leb, eqb, length, get_or}
use Rattle.hexadecimal.specs.Hex.{digits}
use Rattle.recipe.specs.declared.Step.{Step}
use Rattle.recipe.specs.Text.{Text, short, most_steps, longest, steps, refused, read_text}
use Rattle.semantics.specs.declared.RunAnswer.{RunAnswer}
use Rattle.semantics.specs.Run.{run_steps, answer_of}

-- ---- lines of output

-- a refusal line: ff, number and place, two digits each
unfoldable pub refusal_line : ℕ → ℕ → List ℕ
refusal_line number place = digits 2 0xff ++ (digits 2 number ++ (digits 2 place ++ (10 ∷ [])))

-- the answer to a frame: kind 2 digits, word 16; or a refusal line
unfoldable pub answer_line : RunAnswer → List ℕ
answer_line a =
    cond (eqb a.refusal 0) (digits 2 a.kind ++ (digits 16 a.word ++ (10 ∷ []))) (refusal_line a.refusal a.place)

-- the answer to the frame line s, its line feed not counted, of the steps l; a word is lent for each of the most steps, so that a run never
-- lacks room
unfoldable pub frame_line : List Step → List ℕ → List ℕ
frame_line l s = cond (ltb 256 (length s)) (refusal_line 30 0) (answer_line (answer_of (run_steps l s most_steps)))

-- ---- one frame per line

-- a last line that lacks its line feed; no bytes after a line feed are no frame
unfoldable pub last_line : List ℕ → List (List ℕ)
last_line [] = []
last_line (b ∷ line) = (b ∷ line) ∷ []

-- the frame lines of the bytes s, after these bytes of the first of them
unfoldable pub lines_after : List ℕ → List ℕ → List (List ℕ)
lines_after line [] = last_line line
lines_after line (b ∷ s) = elim (eqb b 10) [ true ↦ line ∷ lines_after [] s | false ↦ lines_after (line ++ (b ∷ [])) s ]

-- one line per frame; a refused frame doesn't stop the next
unfoldable pub answers : List Step → List (List ℕ) → List ℕ
answers l [] = []
answers l (s ∷ ss) = frame_line l s ++ answers l ss

-- ---- the recipe, up to an empty line

-- how the input parts
pub data Input : Type 0 where
  -- the recipe's text, all before the empty line, and the bytes after that
  parted : List ℕ → List ℕ → Input
  -- no empty line: all of it is recipe
  whole : List ℕ → Input
  -- no empty line in the bytes in which it is looked for, and the input goes on
  endless : Input

-- the bytes in which an empty line is looked for, 4,993: those of the longest recipe, and the line feed after it
abbrev pub looked_at : ℕ
looked_at = suc (longest short)

-- the last byte of a text; a text that starts counts as after a line feed
abbrev pub last_byte : List ℕ → ℕ
last_byte t = get_or t (length t - 1) 10

-- The input of the bytes s, after the bytes t without an empty line. An empty line is a line feed that is the first byte or that follows a
-- line feed.
unfoldable pub part_after : List ℕ → List ℕ → Input
part_after t [] = whole t
part_after t (b ∷ s) =
    elim (leb looked_at (length t)) [ true ↦ endless | false ↦ elim (eqb b 10 && eqb (last_byte t) 10) [ true ↦ parted t s | false ↦ part_after (t ++ (b ∷ [])) s ] ]

-- ---- the whole

-- a refused recipe gives one line and stops
unfoldable pub on_recipe : Text → (List Step → List ℕ) → List ℕ
on_recipe (steps l) more = more l
on_recipe (refused number place) more = refusal_line number place

unfoldable pub output_of : Input → List ℕ
output_of (parted t s) = on_recipe (read_text short t) (λ l. answers l (lines_after [] s))
output_of (whole t) = on_recipe (read_text short t) (λ l. [])
output_of endless = refusal_line 10 0

unfoldable pub run_output : List ℕ → List ℕ
run_output s = output_of (part_after [] s)
