-- The quotient's sign: two patterns have two signs where the zeros of their signs differ. Assumes nothing.
use mathlib.Core.Path.{◌≡◌, refl, ◌∙◌}
use mathlib.Core.Bool.{Bool, true, false, not}
use Prim.Native.Nat.{ℕ, ◌+◌, ◌-◌, ◌*◌, ◌%◌, ◌<◌}
use native.Mathlib.Omega.{arith}
use lib.Dec.{eqb}
use lib.Ieee.{unlike}
use lib.IntN.{pos}
use lib.Pow.{pow_pos}
use borrow.Author.Tests.{eq-eqb, ne_eqb}
use Rattle.float_format.specs.Format.{Format, sign_bit, negative, signed}
use Rattle.float_format.specs.Rounding.{with_sign}
use Rattle.float_format.proofs.Sizes.{zero_is}

pub zeros_unlike : (f : Format) (x y v w : ℕ) → x < 2 * sign_bit f → y < 2 * sign_bit f → v ≡ x - x % sign_bit f → w ≡ y - y % sign_bit f
    → not (eqb v w) ≡ unlike (negative f x) (negative f y)
zeros_unlike f x y v w hx hy ev ew = pick (negative f x) (negative f y) (ev ∙ zero_is f x hx) (ew ∙ zero_is f y hy)
  where
    pick : (s t : Bool) → v ≡ signed f s 0 → w ≡ signed f t 0 → not (eqb v w) ≡ unlike s t
    pick true true e g = simp (eq-eqb v w (omega arith))
    pick true false e g = simp (ne_eqb v w (omega (arith, pow_pos (f.exponent + f.fraction))))
    pick false true e g = simp (ne_eqb v w (omega (arith, pow_pos (f.exponent + f.fraction))))
    pick false false e g = simp (eq-eqb v w (omega arith))

-- 0 has no sign
pub no_sign : (s : Bool) → with_sign s 0 ≡ pos 0
no_sign true = refl
no_sign false = refl
