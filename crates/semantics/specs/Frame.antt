-- A frame read for a recipe's inputs: refusals 30 and 31, and 32 by input (document 01, "Turning text down"). Definitions only; assumes
-- nothing.
use Rattle.std.specs.Prelude.{Bool, true, false, ◌||◌, cond, List, [], ◌∷◌, ◌++◌, ℕ, zero, suc, ◌+◌, ◌*◌, eqb, length, get_or, Option, Some, None}
use Rattle.float_format.specs.Format.{binary64, is_nan}
use Rattle.hexadecimal.specs.Hex.{field_of}
use Rattle.recipe.specs.declared.Kind.TheVariants.{Double, Whole}
use Rattle.recipe.specs.declared.Row.{Row}
use Rattle.recipe.specs.declared.Row.TheVariants.{Unknown, Input, Constant, Unary, Binary}
use Rattle.recipe.specs.declared.Step.{Step}
use Rattle.recipe.specs.Table.{row_of, is_input}
use Rattle.recipe.specs.Text.{double_above, whole_above, inputs_in}

-- the inputs' words in step order, or a refusal's number and place
pub data Frame : Type 0 where
  words : List ℕ → Frame
  refused : ℕ → ℕ → Frame

-- ---- the digits: 16 an input

unfoldable pub on_field : Option ℕ → (ℕ → Frame) → Frame
on_field (Some w) more = more w
on_field None more = refused 31 0

-- n more words, from word k, after the words l
unfoldable pub words_from : List ℕ → ℕ → ℕ → List ℕ → Frame
words_from s zero k l = words l
words_from s (suc n) k l = on_field (field_of s (k * 16) 16 0) (λ w. words_from s n (suc k) (l ++ (w ∷ [])))

-- ---- the ranges

-- whether w is not a value that the input t declares: NaN, or outside P to Q
abbrev pub outside : Row → Step → ℕ → Bool
outside Unknown t w = false
outside (Input Double) t w = is_nan binary64 w || double_above t.p w || double_above w t.q
outside (Input Whole) t w = whole_above t.p w || whole_above w t.q
outside (Constant k) t w = false
outside (Unary a k) t w = false
outside (Binary a b k) t w = false

-- the first input outside its range, of the steps from step k on, j inputs being before them; ws are the frame's words
unfoldable pub ranged : List Step → ℕ → ℕ → List ℕ → Frame
ranged [] k j ws = words ws
ranged (t ∷ l) k j ws =
    elim (outside (row_of t.opcode) t (get_or ws j 0)) [ true ↦ refused 32 k | false ↦ ranged l (suc k) (cond (is_input (row_of t.opcode)) 1 0 + j) ws ]

-- ---- the frame

unfoldable pub on_words : Frame → (List ℕ → Frame) → Frame
on_words (words ws) more = more ws
on_words (refused number place) more = refused number place

-- the frame s for the steps l
unfoldable pub read_frame : List Step → List ℕ → Frame
read_frame l s =
    cond (eqb (length s) (16 * inputs_in l)) (on_words (words_from s (inputs_in l) 0 []) (λ ws. ranged l 0 0 ws)) (refused 30 0)
