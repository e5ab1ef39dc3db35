-- What an answer of modf stands for: the patterns of both parts, and whether it is the case for NaN, which no part ever is. Over the format
-- g of the floats, with the value of a float and the number of a pattern. Definitions only; assumes nothing.
use Rattle.std.specs.Prelude.{◌≡◌, Bool, true, false, ℕ, ⊤, Result, Ok, Err}
use Rattle.std.specs.Float.{Float}
use Rattle.std.specs.Float.Ieee as Ieee
use Rattle.std.specs.Float.Ieee.{to_bits, of_bits}
use Rattle.splitting.specs.declared.Parts.{Parts}
use Rattle.splitting.specs.declared.Nan.{Nan}

abbrev pub whole_of : {F P : Type 0} → Ieee.Format → (F → Float) → (P → ℕ) → Result (Parts F) (Nan P) → ℕ
whole_of g value bits (Ok p) = to_bits g (value p.whole)
whole_of g value bits (Err n) = bits n.pattern

abbrev pub fraction_of : {F P : Type 0} → Ieee.Format → (F → Float) → (P → ℕ) → Result (Parts F) (Nan P) → ℕ
fraction_of g value bits (Ok p) = to_bits g (value p.fraction)
fraction_of g value bits (Err n) = bits n.pattern

abbrev pub is_nan_of : {F P : Type 0} → Result (Parts F) (Nan P) → Bool
is_nan_of (Ok p) = false
is_nan_of (Err n) = true

-- the floats of an answer are those that the patterns w and q are read as
abbrev pub Holds : {F P : Type 0} → Ieee.Format → (F → Float) → Result (Parts F) (Nan P) → ℕ → ℕ → Type 0
Holds g value (Ok p) w q = (value p.whole ≡ of_bits g w) × (value p.fraction ≡ of_bits g q)
Holds g value (Err n) w q = ⊤
