-- The lines of input and of output. Definitions only; assumes nothing.
use Rattle.std.specs.Prelude.{ℕ, zero, suc, ◌*◌, Bool, ◌&&◌, cond, List, [], ◌∷◌, ◌++◌, eqb, get_or, take, drop, Option, Some, None}
use Rattle.hexadecimal.specs.Hex.{digits}
use Rattle.vectors.specs.declared.case.Case.{Case}
use Rattle.vectors.specs.declared.answer.Answer.{Answer}
use Rattle.hexadecimal.specs.Hex.{field_of}
use Rattle.vectors.specs.Answer.{answer_of, unknown_answer}

-- ---- input: function, width, x, y, as nn ww xxxxxxxxxxxxxxxx yyyyyyyyyyyyyyyy

-- three spaces, and a line feed at the end
unfoldable pub separated_by : List ℕ → Bool
separated_by s = eqb (get_or s 2 0) 32 && (eqb (get_or s 5 0) 32 && (eqb (get_or s 22 0) 32 && eqb (get_or s 39 0) 10))

-- every field has to be well formed
unfoldable pub from_fields : Option ℕ → Option ℕ → Option ℕ → Option ℕ → Option Case
from_fields (Some function) (Some width) (Some x) (Some y) = Some (record { function = function; width = width; x = x; y = y })
from_fields (Some function) (Some width) (Some x) None = None
from_fields (Some function) (Some width) None y = None
from_fields (Some function) None x y = None
from_fields None width x y = None

-- a line of 40 bytes
unfoldable pub case_of : List ℕ → Option Case
case_of s = cond (separated_by s) (from_fields (field_of s 0 2 0) (field_of s 3 2 0) (field_of s 6 16 0) (field_of s 23 16 0)) None

-- ---- output: refusal, first word, second word, as rr aaaaaaaaaaaaaaaa bbbbbbbbbbbbbbbb

unfoldable pub line_of : Answer → List ℕ
line_of a = digits 2 a.refusal ++ (32 ∷ (digits 16 a.first ++ (32 ∷ (digits 16 a.second ++ (10 ∷ [])))))

-- ---- a line of input, and the first n of them

unfoldable pub response_to : Option Case → List ℕ
response_to (Some c) = line_of (answer_of c)
response_to None = line_of unknown_answer

abbrev pub response_of : List ℕ → List ℕ
response_of s = response_to (case_of s)

unfoldable pub responses : List ℕ → ℕ → List ℕ
responses s zero = []
responses s (suc n) = responses s n ++ response_of (take 40 (drop (n * 40) s))
