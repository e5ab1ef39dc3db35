-- Lower-case hexadecimal digits, read and written. Definitions only; assumes nothing.
use Rattle.std.specs.Prelude.{ℕ, zero, suc, ◌+◌, ◌-◌, ◌*◌, ◌/◌, ◌%◌, true, false, cond, List, [], ◌∷◌, ◌++◌, length, get_or, ltb, leb, Option, Some, None}

-- ---- read

-- the value of a digit, and 16 of any other byte
unfoldable pub digit_of : ℕ → ℕ
digit_of b = cond (ltb b 48) 16 (cond (leb b 57) (b - 48) (cond (ltb b 97) 16 (cond (leb b 102) (b - 97 + 10) 16)))

-- the n digits of s from at, after digits of the value a
unfoldable pub field_of : List ℕ → ℕ → ℕ → ℕ → Option ℕ
field_of s at zero a = Some a
field_of s at (suc n) a =
    elim (ltb 15 (digit_of (get_or s at 0))) [ true ↦ None | false ↦ field_of s (suc at) n (a * 16 + digit_of (get_or s at 0)) ]

-- all of s as one field, whose value is a word: more than 16 digits have none
unfoldable pub word_field : List ℕ → Option ℕ
word_field s = cond (ltb 16 (length s)) None (field_of s 0 (length s) 0)

-- ---- written

-- the digit of the value d: `0` to `9`, then `a` to `f`
abbrev pub glyph_of : ℕ → ℕ
glyph_of d = cond (ltb d 10) (48 + d) (87 + d)

-- the last k digits of n, the most significant first
unfoldable pub digits : ℕ → ℕ → List ℕ
digits zero n = []
digits (suc k) n = digits k (n / 16) ++ (glyph_of (n % 16) ∷ [])
