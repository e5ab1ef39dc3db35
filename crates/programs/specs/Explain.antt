-- What the explain program writes, as a function of all that it reads (document 02, W-205). Definitions only; assumes nothing.
use Rattle.std.specs.Prelude.{List, [], ◌∷◌, ◌++◌, ℕ}
use Rattle.hexadecimal.specs.Hex.{digits}
use Rattle.semantics.specs.Explain.{Explained, passed, explained, refused, explain_of}
use Rattle.programs.specs.Output.{refusal_line}

-- three fields of two digits each
unfoldable pub fields_line : ℕ → ℕ → ℕ → List ℕ
fields_line x y z = digits 2 x ++ (digits 2 y ++ (digits 2 z ++ (10 ∷ [])))

-- 00
unfoldable pub passed_line : List ℕ
passed_line = digits 2 0 ++ (10 ∷ [])

-- one line: 00; or step, operand's step and code; or the refusal line of a recipe refused earlier
unfoldable pub line_of : Explained → List ℕ
line_of passed = passed_line
line_of (explained k o c) = fields_line k o c
line_of (refused number place) = refusal_line number place

unfoldable pub explain_output : List ℕ → List ℕ
explain_output t = line_of (explain_of t)
