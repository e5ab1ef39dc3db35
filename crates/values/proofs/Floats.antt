-- A pattern that is not a NaN, carried as a float of the language: it is one that is not a NaN, and has the same bits. Assumes nothing.
use mathlib.Core.Path.{◌≡◌, sym, ap, ◌∙◌}
use mathlib.Core.Bool.{Bool, true, false, not}
use mathlib.Core.Logic.{◌⊎◌, ⊎_elim}
use Prim.Native.Nat.{ℕ, ◌^◌, ◌<◌}
use native.Mathlib.Omega.{arith}
use lib.Dec.{T}
use lib.Ieee as Ieee
use lib.Ieee.Bits.{nan_bits_is, nan_bits_above, to_bits-of_bits, of_bits-to_bits}
use Rattle.float_format.specs.Format.{binary64, is_nan}
use Rattle.float_format.proofs.Patterns.{nan_is}
use Rattle.semantics.specs.Value.{double}
use Rattle.values.specs.Carried.{real}

nan_same : (x : ℕ) → Ieee.nan_bits Ieee.binary64 x ≡ is_nan binary64 x
nan_same x = nan_bits_above Ieee.binary64 x ∙ sym (nan_is binary64 x)

module _ (x : ℕ) (n : is_nan binary64 x ≡ false) where
  pub carried : T (not (Ieee.nan_bits Ieee.binary64 x))
  carried = rw (nan_same x, n) tt

  pub float_number : Ieee.is_nan (Ieee.of_bits Ieee.binary64 x) ≡ false
  float_number = sym (nan_bits_is Ieee.binary64 x) ∙ nan_same x ∙ n

  pub same_bits : x < 2 ^ 64 → Ieee.to_bits Ieee.binary64 (Ieee.of_bits Ieee.binary64 x) ≡ x
  same_bits h = to_bits-of_bits Ieee.binary64 x (omega arith) (rw float_number tt)

-- a float that the language holds, of the pattern y
module _ (v : Ieee.Float) (y : ℕ) (h : Ieee.fits Ieee.binary64 v ≡ true) (e : Ieee.to_bits Ieee.binary64 v ≡ y) (n : is_nan binary64 y ≡ false) where
  pub held_number : Ieee.is_nan v ≡ false
  held_number = rw (sym (of_bits-to_bits Ieee.binary64 v (rw h tt)), e) (float_number y n)

  pub held_is : double (Ieee.to_bits Ieee.binary64 v) ≡ real y
  held_is = rw (e, n)

-- what `Number::of_pattern` carries: the pattern y, picked by the test t
pub record Picked (x y : ℕ) : Type 0 where
  pub number : is_nan binary64 y ≡ false
  pub fits : y < 2 ^ 64
  pub is : double y ≡ real x

pub picked : (x y : ℕ) (t : Bool) → x < 2 ^ 64 → t ≡ is_nan binary64 x → ((t ≡ true) × (y ≡ 0)) ⊎ ((t ≡ false) × (y ≡ x)) → Picked x y
picked x y t h e w = ⊎_elim (λ p. nan (sym e ∙ p.0) p.1) (λ p. number (sym e ∙ p.0) p.1) w
  where
    zero_number : is_nan binary64 0 ≡ false
    zero_number = nan_is binary64 0

    nan : is_nan binary64 x ≡ true → y ≡ 0 → Picked x y
    nan n z =
        record {
          number = ap (is_nan binary64) z ∙ zero_number;
          fits = omega arith;
          is = rw (n, z);
        }

    number : is_nan binary64 x ≡ false → y ≡ x → Picked x y
    number n z =
        record {
          number = ap (is_nan binary64) z ∙ n;
          fits = omega arith;
          is = rw (n, z);
        }
