-- "lround: round(x) as a signed 64-bit number", said of the two answers alone, however they are worked out: where lround refuses nothing, its
-- number and round's pattern stand for one number; and of a finite x it refuses exactly what lies outside -2^63 to 2^63 - 1 once it is
-- rounded. Over every valid format. Assumes nothing.
use mathlib.Core.Path.{◌≡◌, refl, sym, ap, ◌∙◌}
use mathlib.Core.Bool.{Bool, true, false, not, cond}
use mathlib.Core.Logic.{⊎_elim, ◌↔◌}
use Prim.Native.Nat.{ℕ, zero, suc, ◌*◌, ◌^◌, ◌≤◌, ◌<◌}
use native.Mathlib.Nat.{eq-or-lt_of_le, mul-le-mul_right, mul-lt-mul_of_pos_right}
use native.Mathlib.Omega.{arith}
use lib.IntN.{ℤ, nat_abs}
use lib.Signed.{non_neg}
use borrow.Author.Tests.{ltb-false, eqb-false, le-ltb, ne_eqb}
use Rattle.float_format.specs.Format.{Format, Valid, infinity, negative, unsigned, is_nan, is_infinite}
use Rattle.float_format.specs.Number.{one, above, under, units_of}
use Rattle.float_format.specs.Rounding.{whole_part, integral, with_sign, lround_refusal, lround_value}
use Rattle.float_format.specs.declared.Direction.TheVariants.{HalfAway}
use Rattle.float_format.proofs.Units.{lt_or_ge}
use Rattle.float_format.proofs.Patterns.{nan_is, infinite_is}
use Rattle.float_format.proofs.Order.{above_at, under_at}
use Rattle.float_format.proofs.Laws.{one_pos, Result, result}
use Rattle.float_format.proofs.Lround.{InRange, lround_nan, lround_infinite, lround_accepts, lround_is}

-- The whole number z and the finite pattern y stand for one number: as many units, and the same sign unless that is zero.
pub record SameNumber (f : Format) (z : ℤ) (y : ℕ) : Type 0 where
  pub finite : unsigned f y < infinity f
  pub units : units_of f y ≡ nat_abs z * one f
  pub sign : 0 < nat_abs z → negative f y ≡ not (non_neg z)

-- ---- what is accepted is finite

module _ (f : Format) (x : ℕ) (e : lround_refusal f x ≡ 0) where
  number : is_nan f x ≡ false
  number = pick (is_nan f x) refl
    where
      pick : (t : Bool) → is_nan f x ≡ t → is_nan f x ≡ false
      pick true n = absurd (omega (arith, e, (lround_nan f x n).0))
      pick false n = n

  bounded : is_infinite f x ≡ false
  bounded = pick (is_infinite f x) refl
    where
      pick : (t : Bool) → is_infinite f x ≡ t → is_infinite f x ≡ false
      pick true i = absurd (omega (arith, e, (lround_infinite f x number i).0))
      pick false i = i

  pub accepted_finite : unsigned f x < infinity f
  accepted_finite =
      ⊎_elim (λ q. absurd (eqb-false (unsigned f x) (infinity f) (sym (infinite_is f x) ∙ bounded) q)) (λ l. l)
      (eq-or-lt_of_le (ltb-false (infinity f) (unsigned f x) (sym (nan_is f x) ∙ number)))

-- ---- what is answered

-- n, with its sign s
signed_units : (s : Bool) (n : ℕ) → nat_abs (with_sign s n) ≡ n
signed_units true zero = refl
signed_units true (suc n) = refl
signed_units false n = refl

signed_side : (s : Bool) (n : ℕ) → 0 < nat_abs (with_sign s n) → s ≡ not (non_neg (with_sign s n))
signed_side true zero h = absurd (omega arith)
signed_side true (suc n) h = refl
signed_side false n h = refl

pub lround_is_round : (f : Format) (x : ℕ) → Valid f → lround_refusal f x ≡ 0 → SameNumber f (lround_value f x) (integral f HalfAway x)
lround_is_round f x v e = rw (lround_is f x (number f x e) (bounded f x e) e) (go (result f HalfAway x v (accepted_finite f x e)))
  where
    go : Result f HalfAway x → SameNumber f (with_sign (negative f x) (whole_part f HalfAway x)) (integral f HalfAway x)
    go r =
        record {
          finite = r.finite;
          units = r.units ∙ ap (λ (n : ℕ). n * one f) (sym (signed_units (negative f x) (whole_part f HalfAway x)));
          sign = λ h. r.sign ∙ signed_side (negative f x) (whole_part f HalfAway x) h;
        }

-- ---- what is refused

-- y's number lies in -2^63 to 2^63 - 1, y being whole: it is above - under
abbrev pub Within63 : Format → ℕ → Type 0
Within63 f y = (above f y < 2 ^ 63 * one f) × (under f y ≤ 2 ^ 63 * one f)

-- n of u, by the sign
in_ones : (s : Bool) (n u : ℕ) → 0 < u → InRange s n ↔ (cond s 0 (n * u) < 2 ^ 63 * u) × (cond s (n * u) 0 ≤ 2 ^ 63 * u)
in_ones true n u p = (
  λ h. (omega arith, mul-le-mul_right u h),
  λ h. ⊎_elim (λ l. absurd (omega (arith, h.1, mul-lt-mul_of_pos_right l p))) (λ g. g) (lt_or_ge (2 ^ 63) n),
)
in_ones false n u p = (
  λ h. (mul-lt-mul_of_pos_right h p, omega arith),
  λ h. ⊎_elim (λ l. l) (λ g. absurd (omega (arith, h.0, mul-le-mul_right u g))) (lt_or_ge n (2 ^ 63)),
)

pub lround_refuses_beyond : (f : Format) (x : ℕ) → Valid f → unsigned f x < infinity f → lround_refusal f x ≡ 0 ↔ Within63 f (integral f HalfAway x)
lround_refuses_beyond f x v h = go (result f HalfAway x v h)
  where
    accepts : lround_refusal f x ≡ 0 ↔ InRange (negative f x) (whole_part f HalfAway x)
    accepts =
        lround_accepts f x (nan_is f x ∙ le-ltb (infinity f) (unsigned f x) (omega arith)) (infinite_is f x ∙ ne_eqb (unsigned f x) (infinity f) (omega arith))

    ones : InRange (negative f x) (whole_part f HalfAway x)
        ↔ (cond (negative f x) 0 (whole_part f HalfAway x * one f) < 2 ^ 63 * one f) × (cond (negative f x) (whole_part f HalfAway x * one f) 0 ≤ 2 ^ 63 * one f)
    ones = in_ones (negative f x) (whole_part f HalfAway x) (one f) (one_pos f)

    go : Result f HalfAway x → lround_refusal f x ≡ 0 ↔ Within63 f (integral f HalfAway x)
    go r =
        let a : above f (integral f HalfAway x) ≡ cond (negative f x) 0 (whole_part f HalfAway x * one f) =
        above_at f (integral f HalfAway x) (negative f x) r.sign ∙ ap (λ (n : ℕ). cond (negative f x) 0 n) r.units in
        let b : under f (integral f HalfAway x) ≡ cond (negative f x) (whole_part f HalfAway x * one f) 0 =
        under_at f (integral f HalfAway x) (negative f x) r.sign ∙ ap (λ (n : ℕ). cond (negative f x) n 0) r.units in
        (λ e. rw (a, b) (ones.0 (accepts.0 e)), λ w. accepts.1 (ones.1 (rw (a, b) at w)))
