-- Through a wider format and back: nothing is refused on the way there; a number comes back with its own bits, infinities and both zeros
-- included, and a NaN quieted; and rounding to a whole number there and back is rounding here, for every pattern. Over any two formats of
-- which one is wider. Assumes nothing.
use mathlib.Core.Path.{◌≡◌, sym, ap, ◌∙◌}
use mathlib.Core.Bool.{Bool}
use mathlib.Core.Logic.{⊎_elim}
use Prim.Native.Nat.{ℕ, ◌*◌, ◌≤◌, ◌<◌}
use native.Mathlib.Nat.{eq-or-lt_of_le}
use native.Mathlib.Omega.{arith}
use Rattle.float_format.specs.Format.{Format, Valid, sign_bit, infinity, negative, unsigned, signed}
use Rattle.float_format.specs.Rounding.{integral}
use Rattle.float_format.specs.declared.Direction.{Direction}
use Rattle.float_format.proofs.Units.{lt_or_ge}
use Rattle.float_format.proofs.Patterns.{unsigned_signed, signed_parts}
use Rattle.float_format.proofs.Order.{infinity-below_sign}
use Rattle.float_format.proofs.Integral.{integral_infinite}
use Rattle.conversion.specs.Conversion.{converted, converted_refusal}
use Rattle.conversion.proofs.Conversion.{converted_infinite, Wider, widened, returns, rounds_through}
use Rattle.conversion.proofs.Once.{nan_not_refused, infinity_not_refused, finite_not_refused, converted_sign}
use Rattle.conversion.proofs.Nans.{nan_rounds_through}

module _ (f g : Format) (k d : ℕ) (v : Valid f) (w : Valid g) (z : Wider f g k d) (x : ℕ) where
  -- nothing is refused
  pub widened_not_refused : converted_refusal f g x ≡ 0
  widened_not_refused =
      ⊎_elim (λ l. nan_not_refused f g x l)
      (λ n. ⊎_elim (λ e. infinity_not_refused f g x e) (λ l. finite_not_refused f g x w l (widened f g k d x z w l).finite) (eq-or-lt_of_le n))
      (lt_or_ge (infinity f) (unsigned f x))

  module _ (p : x < 2 * sign_bit f) where
    there : unsigned f x ≡ infinity f → unsigned g (converted f g x) ≡ infinity g
    there e = ap (unsigned g) (converted_infinite f g x e) ∙ unsigned_signed g (infinity g) (infinity-below_sign g) (negative f x)

    back : unsigned f x ≡ infinity f → converted g f (converted f g x) ≡ x
    back e =
        converted_infinite g f (converted f g x) (there e)
        ∙ ap (λ (s : Bool). signed f s (infinity f)) (converted_sign f g w x (omega arith))
        ∙ ap (signed f (negative f x)) (sym e)
        ∙ sym (signed_parts f x p)

    -- what is no NaN comes back with its own bits
    pub widened_back : unsigned f x ≤ infinity f → converted g f (converted f g x) ≡ x
    widened_back n = ⊎_elim back (λ l. returns f g x (converted f g x) v w p l (widened f g k d x z w l)) (eq-or-lt_of_le n)

    -- rounding there and back is rounding here, for every pattern
    pub rounds_there : (t : Direction) → converted g f (integral g t (converted f g x)) ≡ integral f t x
    rounds_there t = ⊎_elim (λ l. nan_rounds_through f g k v w z.digits x l p t) (λ n. ⊎_elim infinite finite (eq-or-lt_of_le n)) (lt_or_ge (infinity f) (unsigned f x))
      where
        infinite : unsigned f x ≡ infinity f → converted g f (integral g t (converted f g x)) ≡ integral f t x
        infinite e = ap (converted g f) (integral_infinite g t (converted f g x) (there e)) ∙ back e ∙ sym (integral_infinite f t x e)

        finite : unsigned f x < infinity f → converted g f (integral g t (converted f g x)) ≡ integral f t x
        finite l = rounds_through f g x (converted f g x) v w p l (widened f g k d x z w l) t
