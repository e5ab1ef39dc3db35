-- lround accepts a finite number exactly where round(x) is a signed number of 64 bits, and then gives it; NaN and the infinities it
-- refuses. Over every format. Assumes nothing.
use mathlib.Core.Path.{◌≡◌, refl}
use mathlib.Core.Bool.{Bool, true, false, cond}
use mathlib.Core.Logic.{◌↔◌}
use Prim.Native.Nat.{ℕ, ◌^◌, ◌≤◌, ◌<◌}
use native.Mathlib.Omega.{arith}
use lib.IntN.{pos}
use borrow.Author.Tests.{ltb-true, ltb-false, leb-true, leb-false}
use Rattle.float_format.specs.Format.{Format, negative, is_nan, is_infinite}
use Rattle.float_format.specs.Rounding.{whole_part, with_sign, fits64, lround_refusal, lround_value}
use Rattle.float_format.specs.declared.Direction.TheVariants.{HalfAway}

-- -2^63 to 2^63 - 1
abbrev pub InRange : Bool → ℕ → Type 0
InRange true n = n ≤ 2 ^ 63
InRange false n = n < 2 ^ 63

module _ (f : Format) (x : ℕ) where
  pub lround_nan : is_nan f x ≡ true → (lround_refusal f x ≡ 1) × (lround_value f x ≡ pos 0)
  unfolding lround_refusal lround_value
  lround_nan n = (simp n, simp n)

  module _ (n : is_nan f x ≡ false) where
    pub lround_infinite : is_infinite f x ≡ true → (lround_refusal f x ≡ 3) × (lround_value f x ≡ pos 0)
    unfolding lround_refusal lround_value
    lround_infinite i = (simp (n, i), simp (n, i))

    module _ (i : is_infinite f x ≡ false) where
      by_fit : (t : Bool) → fits64 (negative f x) (whole_part f HalfAway x) ≡ t → lround_refusal f x ≡ cond t 0 3
      unfolding lround_refusal
      by_fit true e = simp (n, i, e)
      by_fit false e = simp (n, i, e)

      fit_in : (s : Bool) (m : ℕ) → fits64 s m ≡ true → InRange s m
      fit_in true m e = leb-true m (2 ^ 63) e
      fit_in false m e = ltb-true m (2 ^ 63) e

      fit_out : (s : Bool) (m : ℕ) → fits64 s m ≡ false → InRange s m → ⊥
      fit_out true m e h = omega (arith, leb-false m (2 ^ 63) e)
      fit_out false m e h = omega (arith, ltb-false m (2 ^ 63) e)

      pub lround_accepts : lround_refusal f x ≡ 0 ↔ InRange (negative f x) (whole_part f HalfAway x)
      lround_accepts = pick (fits64 (negative f x) (whole_part f HalfAway x)) refl
        where
          pick : (t : Bool) → fits64 (negative f x) (whole_part f HalfAway x) ≡ t → lround_refusal f x ≡ 0 ↔ InRange (negative f x) (whole_part f HalfAway x)
          pick true e = (λ _. fit_in (negative f x) (whole_part f HalfAway x) e, λ _. by_fit true e)
          pick false e = (λ h. absurd (omega (arith, by_fit false e)), λ h. absurd (fit_out (negative f x) (whole_part f HalfAway x) e h))

      pub lround_is : lround_refusal f x ≡ 0 → lround_value f x ≡ with_sign (negative f x) (whole_part f HalfAway x)
      unfolding lround_value
      lround_is e = simp e
