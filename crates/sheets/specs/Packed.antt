-- The sheet call on words that a recipe's steps stand in, whatever words they are. Definitions only; assumes nothing.
use Rattle.std.specs.Prelude.{cond, List, [], ℕ, ◌*◌, ltb, length}
use Rattle.recipe.specs.Packed.{bad_words, steps_of}
use Rattle.recipe.specs.declared.Step.{Step}
use Rattle.semantics.specs.Shown.{Shown, refused, marked, sheet_line}
use Rattle.ranges.specs.Carried.{carried_from}

-- the ranges of steps as floats hold them, and the marks
abbrev pub carried_sheet : List Step → Shown
carried_sheet l = marked l (carried_from l 0 [])

-- Of words that no text was read to: 10 at place 0 where they are not those of steps. All others have the sheet of their steps as floats hold
-- its ranges; that of formed steps is `sheet_steps` (`holds_sheet`).
unfoldable pub sheet_words : List ℕ → ℕ → Shown
sheet_words w room =
    cond (bad_words (length w)) (refused 10 0)
    (cond (ltb room (sheet_line * length (steps_of w))) (refused 40 0) (carried_sheet (steps_of w)))
