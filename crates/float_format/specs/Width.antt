-- What the functions over an open width cite: the format of given field sizes, that a pattern of it fits a word of 64 bits, and what is
-- known of a finite pattern by its exponent field. Definitions only; assumes nothing.
use Rattle.std.specs.Prelude.{◌≡◌, ℕ, ◌+◌, ◌*◌, ◌<◌, ◌≤◌}
use Rattle.float_format.specs.Format.{Format, Valid, sign_bit, top_field, exponent_field}
use Rattle.float_format.specs.Number.{bias}

abbrev pub format : ℕ → ℕ → Format
format F E = record { fraction = F; exponent = E }

pub record InWord (f : Format) : Type 0 where
  pub valid : Valid f
  pub narrow : f.exponent + f.fraction < 64

-- a finite pattern x with the exponent field e
pub record Finite (f : Format) (x e : ℕ) : Type 0 where
  pub word : InWord f
  pub pattern : x < 2 * sign_bit f
  pub field : e ≡ exponent_field f x
  pub finite : e < top_field f

-- What the functions that a half does not have ask of a format besides: the significand's first twenty digits, and its room in a word with eight
-- digits more; fewer fraction digits than the bias; numbers past a word's; and exponents whose sums a word holds.
pub record Wide (f : Format) : Type 0 where
  pub twenty_digits : 19 ≤ f.fraction
  pub spare : f.fraction ≤ 52
  pub below_bias : f.fraction < bias f
  pub past_words : bias f + 63 < top_field f
  pub few : f.exponent ≤ 32
