-- What the pieces of a rounding cite: what is asked of an answer by the exponent field e. Definitions only;
-- assumes nothing.
use Rattle.std.specs.Prelude.{◌≡◌, cond, ℕ, ◌+◌, ◌-◌, ◌*◌, ◌%◌, ◌^◌, ◌≤◌, ◌<◌, ltb}
use Rattle.float_format.specs.Format.{Format}
use Rattle.float_format.specs.Number.{bias}
use Rattle.float_format.specs.Rounding.{integral}
use Rattle.float_format.specs.declared.Direction.{Direction}

-- an answer that is right where the magnitude is 1 or more, and one that is right below
abbrev pub FromOne : Format → Direction → ℕ → ℕ → ℕ → Type 0
FromOne f d x e r = bias f ≤ e → r ≡ integral f d x

abbrev pub BelowOne : Format → Direction → ℕ → ℕ → ℕ → Type 0
BelowOne f d x e r = e < bias f → r ≡ integral f d x

-- How many bits of a pattern with the exponent field e stand for a fraction; far below one it is cut to some shift that a word has, and
-- not used.
abbrev pub fraction_shift : Format → ℕ → ℕ
fraction_shift f e = cond (ltb e (bias f + f.fraction)) ((bias f + f.fraction - e) % 64) 0

-- what is known of the ones that stand below one in a pattern with the exponent field e: from one half on, all is
pub record Mask (f : Format) (e mask : ℕ) : Type 0 where
  pub most : mask < 2 * 2 ^ f.fraction
  pub from_half : bias f ≤ e + 1 → mask ≡ 2 ^ (bias f + f.fraction - e) - 1
