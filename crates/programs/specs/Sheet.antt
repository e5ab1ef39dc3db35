-- What the sheet program writes, as a function of all that it reads (document 01, "Sheet and run on paper"). Definitions only; assumes
-- nothing.
use Rattle.std.specs.Prelude.{cond, List, [], ℕ, eqb}
use Rattle.semantics.specs.declared.SheetAnswer.{SheetAnswer}
use Rattle.semantics.specs.Shown.{longest_sheet, sheet_of, answer_of, bytes_of}
use Rattle.programs.specs.Output.{refusal_line}

-- the sheet's lines, or a refusal line
unfoldable pub on_sheet : SheetAnswer → List ℕ → List ℕ
on_sheet a lines = cond (eqb a.refusal 0) lines (refusal_line a.refusal a.place)

-- the recipe t; the bytes of the longest sheet are lent, so that a sheet never lacks room
unfoldable pub sheet_output : List ℕ → List ℕ
sheet_output t = on_sheet (answer_of (sheet_of t longest_sheet)) (bytes_of (sheet_of t longest_sheet) [])
