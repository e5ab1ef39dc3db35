-- A whole pattern, rounded: by its class, and for a finite one by the rest of the pattern in the three ranges of `Whole`. Over every
-- valid format. Assumes nothing.
use mathlib.Core.Path.{◌≡◌, refl, sym, ap, ◌∙◌}
use mathlib.Core.Bool.{Bool, true, false, cond}
use mathlib.Core.Logic.{⊎_elim}
use Prim.Native.Nat.{ℕ, suc, ◌+◌, ◌-◌, ◌*◌, ◌/◌, ◌%◌, ◌^◌, ◌≤◌, ◌<◌}
use native.Mathlib.Nat.{mul-le-mul_right, lt_of_le_of_lt, le_refl}
use native.Mathlib.Omega.{arith}
use lib.Bits.{or_lt}
use lib.Pow.{pow_pos, pow_mono, pow-add, pow-lt, suc_ones}
use borrow.Author.Tests.{eq-eqb, ne_eqb, lt-ltb, le-ltb}
use Rattle.float_format.specs.Format.{Format, Valid, sign_bit, top_field, infinity, default_nan, negative, unsigned, signed, quieted}
use Rattle.float_format.specs.Number.{bias}
use Rattle.float_format.specs.Rounding.{goes_away, whole_part, integral}
use Rattle.float_format.specs.declared.Direction.{Direction}
use Rattle.float_format.proofs.Units.{lt_or_ge, three_way}
use Rattle.float_format.proofs.Patterns.{nan_is, infinite_is, signed_lt}
use Rattle.float_format.proofs.Whole.{Rounded, small, middle, large, Shift, shift}

-- ---- what a valid format leaves room for, b being its bias

pub record Room (f : Format) (b : ℕ) : Type 0 where
  pub two : 2 ≤ b
  pub odd : b % 2 ≡ 1
  -- from (b + F) * 2 ^ F on every number is whole: that is below infinity
  pub near : b + f.fraction < top_field f
  pub whole : (b + f.fraction) * 2 ^ f.fraction + 2 ^ f.fraction ≤ infinity f
  pub one_whole : b * 2 ^ f.fraction ≤ (b + f.fraction) * 2 ^ f.fraction
  pub half_one : (b - 1) * 2 ^ f.fraction + 2 ^ f.fraction ≡ b * 2 ^ f.fraction
  pub top : infinity f + 2 ^ f.fraction ≡ sign_bit f

pub room : (f : Format) (b : ℕ) → Valid f → b ≡ bias f → Room f b
room f b v e =
    let F : ℕ = f.fraction in
    let E : ℕ = f.exponent in
    let h3 : 3 ≤ E = v.some_exponent in
    let hf : F < 2 ^ (E - 1) = v.near in
    let four : 2 ^ 2 ≤ 2 ^ (E - 1) = pow_mono {i = 2} {j = E - 1} (omega arith) in
    let b1 : suc b ≡ 2 ^ (E - 1) = omega arith in
    let twice : 2 ^ E ≡ 2 ^ suc (E - 1) = ap (λ (n : ℕ). 2 ^ n) (omega arith) in
    let even : 2 ^ (E - 1) ≡ 2 ^ suc (E - 2) = ap (λ (n : ℕ). 2 ^ n) (omega arith) in
    let near : b + F < 2 ^ E - 1 = omega arith in
    record {
      two = omega arith;
      odd = omega arith;
      near = near;
      whole = omega (arith, mul-le-mul_right (2 ^ F) near);
      one_whole = mul-le-mul_right (2 ^ F) (omega arith);
      half_one = sym (ap (λ (n : ℕ). n * 2 ^ F) (omega (arith, b1)) ∙ suc_times (b - 1) (2 ^ F));
      top = sym (pow-add 2 E F ∙ sym (ap (λ (n : ℕ). n * 2 ^ F) (suc_ones E)) ∙ suc_times (2 ^ E - 1) (2 ^ F));
    }
  where
    suc_times : (n p : ℕ) → suc n * p ≡ n * p + p
    suc_times n p = omega arith

-- ---- by class

module _ (f : Format) (d : Direction) (x : ℕ) where
  pub integral_nan : infinity f < unsigned f x → integral f d x ≡ quieted f x
  unfolding integral
  integral_nan l = simp (nan_is f x, lt-ltb (infinity f) (unsigned f x) l)

  pub integral_infinite : unsigned f x ≡ infinity f → integral f d x ≡ x
  unfolding integral
  integral_infinite e =
      simp (nan_is f x, le-ltb (infinity f) (unsigned f x) (omega arith), infinite_is f x, eq-eqb (unsigned f x) (infinity f) e)

  -- a finite pattern keeps its sign, and the rest of it is rounded
  pub integral_finite : (r : ℕ) → unsigned f x < infinity f → Rounded d (negative f x) f.fraction (bias f) (unsigned f x) r
      → integral f d x ≡ signed f (negative f x) r
  unfolding integral whole_part
  integral_finite r l h =
      simp (nan_is f x, le-ltb (infinity f) (unsigned f x) (omega arith), infinite_is f x, ne_eqb (unsigned f x) (infinity f) (omega arith), h.is)

-- ---- every finite pattern has its rounded one, which is finite

pub record Answer (f : Format) (d : Direction) (s : Bool) (a : ℕ) : Type 0 where
  pub pattern : ℕ
  pub rounds : Rounded d s f.fraction (bias f) a pattern
  pub finite : pattern < infinity f

pub answer : (f : Format) (d : Direction) (s : Bool) (a : ℕ) → Valid f → a < infinity f → Answer f d s a
answer f d s a v h =
    ⊎_elim (λ l. below l (room f (bias f) v refl))
    (λ g. ⊎_elim (λ m. between (bias f + f.fraction - a / 2 ^ f.fraction) refl g m (room f (bias f) v refl)) (λ m. above m (room f (bias f) v refl)) (lt_or_ge a ((bias f + f.fraction) * 2 ^ f.fraction)))
    (lt_or_ge a (bias f * 2 ^ f.fraction))
  where
    cond_le : (t : Bool) (x n : ℕ) → x ≤ n → cond t x 0 ≤ n
    cond_le true x n p = p
    cond_le false x n p = omega arith

    below : a < bias f * 2 ^ f.fraction → Room f (bias f) → Answer f d s a
    below l rm =
        record {
          pattern = cond (goes_away d s 0 a ((bias f - 1) * 2 ^ f.fraction * 2)) (bias f * 2 ^ f.fraction) 0;
          rounds = small d s f.fraction (bias f) a rm.two l;
          finite = lt_of_le_of_lt (cond_le (goes_away d s 0 a ((bias f - 1) * 2 ^ f.fraction * 2)) (bias f * 2 ^ f.fraction) (bias f * 2 ^ f.fraction) (le_refl (bias f * 2 ^ f.fraction))) (omega (arith, rm.whole, rm.one_whole, pow_pos f.fraction));
        }

    between : (k : ℕ) → k ≡ bias f + f.fraction - a / 2 ^ f.fraction → bias f * 2 ^ f.fraction ≤ a → a < (bias f + f.fraction) * 2 ^ f.fraction
        → Room f (bias f) → Answer f d s a
    between k e g m rm =
        let sh : Shift f.fraction (bias f) a k = shift f.fraction (bias f) a k e g m in
        record {
          pattern = a - a % 2 ^ k + cond (goes_away d s (a / 2 ^ k) (a % 2 ^ k) (2 ^ k)) (2 ^ k) 0;
          rounds = middle d s f.fraction (bias f) a k rm.two rm.odd e g m;
          finite = omega (arith, sh.unit, rm.whole, cond_le (goes_away d s (a / 2 ^ k) (a % 2 ^ k) (2 ^ k)) (2 ^ k) (2 ^ k) (le_refl (2 ^ k)));
        }

    above : (bias f + f.fraction) * 2 ^ f.fraction ≤ a → Room f (bias f) → Answer f d s a
    above m rm = record { pattern = a; rounds = large d s f.fraction (bias f) a (omega (arith, rm.two)) m; finite = h }

-- ---- the answer is a pattern of the format

pub quieted_lt : (f : Format) (x : ℕ) → Valid f → x < 2 * sign_bit f → quieted f x < 2 * sign_bit f
unfolding quieted
quieted_lt f x v p =
    let twice : 2 ^ (f.exponent + f.fraction + 1) ≡ 2 * sign_bit f = pow-add 2 (f.exponent + f.fraction) 1 ∙ omega arith in
    rw twice at
    (or_lt (f.exponent + f.fraction + 1) x (2 ^ (f.fraction - 1)) (rw (← twice) at p) (pow-lt (omega (arith, v.some_fraction))))

pub integral_lt : (f : Format) (d : Direction) (x : ℕ) → Valid f → x < 2 * sign_bit f → integral f d x < 2 * sign_bit f
integral_lt f d x v p =
    three_way (unsigned f x) (infinity f) (λ l. of_finite (answer f d (negative f x) (unsigned f x) v l) l) (λ e. rw (integral_infinite f d x e) p) (λ l. rw (integral_nan f d x l) of_nan)
  where
    of_finite : Answer f d (negative f x) (unsigned f x) → unsigned f x < infinity f → integral f d x < 2 * sign_bit f
    of_finite r l =
        let below : r.pattern < sign_bit f = omega (arith, r.finite, (room f (bias f) v refl).top) in
        rw (integral_finite f d x r.pattern l r.rounds) (signed_lt f r.pattern below (negative f x))

    of_nan : quieted f x < 2 * sign_bit f
    of_nan = quieted_lt f x v p

-- ---- the default NaN is a pattern

pub default_nan_lt : (f : Format) → Valid f → default_nan f < sign_bit f
default_nan_lt f v =
    omega (arith, (room f (bias f) v refl).top, pow-lt {i = f.fraction - 1} {j = f.fraction} (omega (arith, v.some_fraction)))
