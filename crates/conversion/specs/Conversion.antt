-- A pattern of one format taken to another, and the table of half subnormals (document 02, W-201). Definitions only; assumes nothing.
use Rattle.std.specs.Prelude.{not, ◌&&◌, cond, ℕ, ◌+◌, ◌*◌, ◌/◌, ◌^◌}
use Rattle.float_format.specs.Format.{Format, infinity, negative, signed, fraction_field, is_nan, is_infinite, quieted}
use Rattle.float_format.specs.Number.{encode, one, units_of}
use Rattle.float_format.specs.Rounding.{rounded}

-- a NaN of the format f in the format g: its sign and the top bits of its fraction, quieted; further bits are zero
abbrev pub converted_nan : Format → Format → ℕ → ℕ
converted_nan f g x = quieted g (signed g (negative f x) (infinity g + fraction_field f x * 2 ^ g.fraction / 2 ^ f.fraction))

-- x of the format f in the format g: a number of u units is u * one g / one f units there, rounded once, halves to even
unfoldable pub converted : Format → Format → ℕ → ℕ
converted f g x =
    cond (is_nan f x) (converted_nan f g x)
    (cond (is_infinite f x) (signed g (negative f x) (infinity g)) (rounded g (negative f x) (units_of f x * one g) (one f)))

-- refusal 3: x finite, the result infinite; 0 where there is none
unfoldable pub converted_refusal : Format → Format → ℕ → ℕ
converted_refusal f g x = cond (not (is_nan f x) && not (is_infinite f x) && is_infinite g (converted f g x)) 3 0

-- the table's rule: entry k is the f32 pattern of k * 2^-24, which is k * 2^125 of f32's units
abbrev pub table_rule : ℕ → ℕ
table_rule k = encode 23 (k * 2 ^ 125)
