-- A pattern's number grows with its sign and its rest: two patterns that keep their signs, whose rests keep their order and whose zeros
-- stay zeros, keep the order of their numbers, also where they are patterns of another format then. Over every two formats. Assumes nothing.
use mathlib.Core.Path.{◌≡◌, refl, sym, ◌∙◌}
use mathlib.Core.Bool.{Bool, true, false, cond}
use Prim.Native.Nat.{ℕ, ◌+◌, ◌-◌, ◌≤◌, ◌<◌}
use native.Mathlib.Omega.{arith}
use Rattle.float_format.specs.Format.{Format, sign_bit, negative, unsigned}
use Rattle.float_format.specs.Number.{AtMost}
use Rattle.float_format.proofs.Patterns.{below_sign}
use Rattle.float_format.proofs.Order.{rank_at, rank_order}

-- x', of the format g, comes of x
pub record Keeps (f g : Format) (x x' : ℕ) : Type 0 where
  pub sign : negative g x' ≡ negative f x
  pub zero : unsigned f x ≡ 0 → unsigned g x' ≡ 0

module _ (f g : Format) (x y x' y' : ℕ) (kx : Keeps f g x x') (ky : Keeps f g y y') where
  -- by the rests, where the signs are the same
  pub keeps_at_most : (unsigned f x ≤ unsigned f y → negative f x ≡ negative f y → unsigned g x' ≤ unsigned g y')
      → (unsigned f y ≤ unsigned f x → negative f x ≡ negative f y → unsigned g y' ≤ unsigned g x')
      → AtMost f x y → AtMost g x' y'
  keeps_at_most up down h =
      (rank_order g x' y').0
      (rw (rank_at g x' _ kx.sign, rank_at g y' _ ky.sign)
      (by_signs (negative f x) (negative f y) refl refl (rw (rank_at f x _ refl, rank_at f y _ refl) at ((rank_order f x y).1 h))))
    where
      bx : unsigned f x < sign_bit f
      bx = below_sign f x

      by : unsigned f y < sign_bit f
      by = below_sign f y

      by_signs : (s t : Bool) → negative f x ≡ s → negative f y ≡ t
          → cond s (sign_bit f - unsigned f x) (sign_bit f + unsigned f x) ≤ cond t (sign_bit f - unsigned f y) (sign_bit f + unsigned f y)
          → cond s (sign_bit g - unsigned g x') (sign_bit g + unsigned g x') ≤ cond t (sign_bit g - unsigned g y') (sign_bit g + unsigned g y')
      by_signs true true e e' l = omega (arith, down (omega (arith, bx)) (e ∙ sym e'))
      by_signs true false e e' l = omega arith
      by_signs false true e e' l = omega (arith, kx.zero (omega (arith, by)), ky.zero (omega (arith, by)))
      by_signs false false e e' l = omega (arith, up (omega arith) (e ∙ sym e'))
