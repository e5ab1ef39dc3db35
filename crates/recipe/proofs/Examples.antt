-- Document 01's own recipe and a text for each refusal, read by the definition: one claim about the whole list, which antt computes.
-- Assumes nothing.
use mathlib.Core.Path.{◌≡◌, refl}
use mathlib.Core.List.{List, [], ◌∷◌, ◌++◌, map}
use Prim.Native.Nat.{ℕ}
use Prim.Native.Char.{code}
use Prim.Native.String.{String, [] as empty, ◌∷◌ as ◌before◌}
use lib.ListN.{replicate}
use Rattle.float_format.specs.Format.{is_nan}
use Rattle.float_format.specs.Number.{above, under, magnitude}
use Rattle.hexadecimal.specs.Hex.{field_of, digit_of}
use Rattle.recipe.specs.Table.{row_of}
use Rattle.recipe.specs.Text.{Text, short, step, steps, refused, read_text, read_from, on_next, next_of, judged, step_refusal, inputs_in, line_at, from_fields}

-- ---- texts

unfoldable pub bytes : String → List ℕ
bytes empty = []
bytes (c before s) = code c ∷ bytes s

-- each line ended by a line feed
unfoldable pub lines : List String → List ℕ
lines [] = []
lines (l ∷ ls) = bytes l ++ (10 ∷ lines ls)

pub record Case : Type 0 where
  pub text : List ℕ
  pub stated : Text

infix 5 ◌gives◌
abbrev pub ◌gives◌ : List ℕ → Text → Case
a gives b = record { text = a; stated = b }

pub examples : List Case
examples =
    -- document 01's recipe: floor of an input, then lround
    (lines ("010000c004000000000000401d000000000000" ∷ "10000000000000000000000000000000000000" ∷ "18010000000000000000000000000000000000" ∷ []) gives steps (step 0x01 0 0 0xc004_0000_0000_0000 0x401d_0000_0000_0000 ∷ step 0x10 0 0 0 0 ∷ step 0x18 1 0 0 0 ∷ []))
    -- 10: no byte; a last line without its line feed
    ∷ (lines [] gives refused 10 0)
    ∷ (bytes "010000c004000000000000401d000000000000" gives refused 10 0)
    -- 11: an upper-case digit; a space for a line feed
    ∷ (lines ("010000C004000000000000401d000000000000" ∷ []) gives refused 11 0)
    ∷ ((bytes "010000c004000000000000401d000000000000 ") gives refused 11 0)
    -- 12: there is no opcode 19, nor 25, nor 3f, nor 43, nor 00
    ∷ (lines ("010000c004000000000000401d000000000000" ∷ "19000000000000000000000000000000000000" ∷ []) gives refused 12 1)
    ∷ (lines ("010000c004000000000000401d000000000000" ∷ "25000000000000000000000000000000000000" ∷ []) gives refused 12 1)
    ∷ (lines ("010000c004000000000000401d000000000000" ∷ "3f000000000000000000000000000000000000" ∷ []) gives refused 12 1)
    ∷ (lines ("010000c004000000000000401d000000000000" ∷ "43000000000000000000000000000000000000" ∷ []) gives refused 12 1)
    ∷ (lines ("00000000000000000000000000000000000000" ∷ []) gives refused 12 0)
    -- 13: floor with a Q; before 14, with an operand ahead
    ∷ (lines ("010000c004000000000000401d000000000000" ∷ "10000000000000000000000000000000000001" ∷ []) gives refused 13 1)
    ∷ (lines ("10050000000000000000000000000000000001" ∷ []) gives refused 13 0)
    -- 14: a step that names itself
    ∷ (lines ("010000c004000000000000401d000000000000" ∷ "10010000000000000000000000000000000000" ∷ []) gives refused 14 1)
    -- 15: lround of lround's whole; ldexp by a double; remainder by a whole; the sum of a double and a whole, the product of a whole and a double
    ∷ (lines ("010000c004000000000000401d000000000000" ∷ "18000000000000000000000000000000000000" ∷ "18010000000000000000000000000000000000" ∷ []) gives refused 15 2)
    ∷ (lines ("010000c004000000000000401d000000000000" ∷ "23000000000000000000000000000000000000" ∷ []) gives refused 15 1)
    ∷ (lines ("010000c004000000000000401d000000000000" ∷ "18000000000000000000000000000000000000" ∷ "24000100000000000000000000000000000000" ∷ []) gives refused 15 2)
    ∷ (lines ("010000c004000000000000401d000000000000" ∷ "18000000000000000000000000000000000000" ∷ "40000100000000000000000000000000000000" ∷ []) gives refused 15 2)
    ∷ (lines ("010000c004000000000000401d000000000000" ∷ "18000000000000000000000000000000000000" ∷ "42010000000000000000000000000000000000" ∷ []) gives refused 15 2)
    -- 16: P above Q, of doubles and of wholes; a NaN
    ∷ (lines ("010000401d000000000000c004000000000000" ∷ []) gives refused 16 0)
    ∷ (lines ("0200000000000000000000ffffffffffffffff" ∷ []) gives refused 16 0)
    ∷ (lines ("0300007ff80000000000000000000000000000" ∷ []) gives refused 16 0)
    -- 17: a seventeenth input
    ∷ (lines (replicate 17 "010000c004000000000000401d000000000000") gives refused 17 16)
    -- remainder by a constant, 1, passes
    ∷ (lines ("010000c004000000000000401d000000000000" ∷ "0300003ff00000000000000000000000000000" ∷ "24000100000000000000000000000000000000" ∷ []) gives steps (step 0x01 0 0 0xc004_0000_0000_0000 0x401d_0000_0000_0000 ∷ step 0x03 0 0 0x3ff0_0000_0000_0000 0 ∷ step 0x24 0 1 0 0 ∷ []))
    -- an input less 1, and the product of both, as lround takes it, pass
    ∷ (lines ("010000c004000000000000401d000000000000" ∷ "0300003ff00000000000000000000000000000" ∷ "41000100000000000000000000000000000000" ∷ "42000200000000000000000000000000000000" ∷ "18030000000000000000000000000000000000" ∷ []) gives steps (step 0x01 0 0 0xc004_0000_0000_0000 0x401d_0000_0000_0000 ∷ step 0x03 0 0 0x3ff0_0000_0000_0000 0 ∷ step 0x41 0 1 0 0 ∷ step 0x42 0 2 0 0 ∷ step 0x18 3 0 0 0 ∷ []))
    -- wholes from -1 to 0 pass
    ∷ (lines ("020000ffffffffffffffff0000000000000000" ∷ []) gives steps (step 0x02 0 0 0xffff_ffff_ffff_ffff 0 ∷ []))
    ∷ []

pub read_examples : map (λ (c : Case). read_text short c.text) examples ≡ map (λ (c : Case). c.stated) examples
unfolding examples lines bytes read_text read_from on_next next_of judged step_refusal inputs_in line_at from_fields row_of field_of digit_of is_nan above under magnitude
read_examples = refl
