-- What frexp and ldexp do, as a user would state it. frexp: the fraction lies from one half to below one with x's sign, fraction and
-- power of two make x, and ldexp undoes it to the bit. ldexp: the answer is the number of the width nearest to x times 2 ^ n, halves to
-- even; it overflows exactly from halfway past the largest finite number on; it keeps the sign and the order, in x and in n. Over
-- every valid format. Assumes nothing.
use Rattle.std.proofs.Common.{◌≡◌, ℕ, suc, ◌+◌, ◌-◌, ◌*◌, ◌%◌, ◌^◌, ◌<◌, ◌≤◌, Bool, true, false, ◌⊎◌, ◌↔◌, ℤ, pos, ◌-ℤ◌, ◌≤ℤ◌, sym, refl, ap, ◌∙◌, ⊎_elim, mul-le-mul_right, mul_assoc, mul_comm, eq-or-lt_of_le, mul-le-mul_left, mul-lt-mul_of_pos_right, arith, pow_pos}
use lib.Ieee.{up, down}
use Rattle.float_format.specs.Rounding.{nearest, capped, rounded}
use Rattle.float_format.specs.Format.{Format, Valid, sign_bit, infinity, negative, unsigned, signed, quieted}
use Rattle.float_format.specs.Number.{magnitude, bias, one, above, under, AtMost, units_of, distance}
use Rattle.float_format.specs.declared.Direction.TheVariants.{HalfEven}
use Rattle.float_format.proofs.Units.{lt_or_ge, magnitude_at, magnitude_mono_le}
use Rattle.float_format.proofs.Patterns.{negative-signed, unsigned_signed, signed_parts, propagated_nan, propagated-number}
use Rattle.float_format.proofs.Integral.{Room, room}
use Rattle.float_format.proofs.Order.{magnitude_zero, infinity-below_sign, above_at, under_at}
use Rattle.scaling.specs.Scaling.{frexp_fraction, frexp_exponent, scaled, ldexp, ldexp_refusal}
use Rattle.scaling.specs.Position.{Significand}
use Rattle.float_format.proofs.Powers.{swap, powers, suc_times, product_pos, cancel_right}
use Rattle.scaling.proofs.Exponents.{down_pos, powers_order, difference_power}
use Rattle.float_format.proofs.Monotone.{Keeps, keeps_at_most}
use Rattle.float_format.proofs.Nearby.{NearestPattern, nearest_scale, rounds_nearest, keeps_order}
use Rattle.float_format.proofs.Rounded.{capped_in, capped_out, capped-most, capped_mono, rounded_rest, rounded_sign, largest, rounded_beyond, rounded_from_halfway, times_cond, rounded-nearest, rounded_even, rounded_no_nearer, rounded_halves}
use Rattle.float_format.proofs.Rounded as round
use Rattle.scaling.proofs.Classes.{frexp_not_finite, frexp_zero, ldexp_not_finite, ldexp_is, ldexp_in, ldexp_out}
use Rattle.scaling.proofs.Significands.{Found, found}
use Rattle.scaling.proofs.Fractions.{fraction_is, whole_units, exponent_is}
use Rattle.scaling.proofs.Places.{zero_answer, scaled-nearest, scaled_exact}

-- ---- frexp: zeros and infinities unchanged, NaN quieted, exponent 0

module _ (f : Format) (x : ℕ) where
  pub frexp_of_nan : infinity f < unsigned f x → (frexp_fraction f x ≡ quieted f x) × (frexp_exponent f x ≡ pos 0)
  frexp_of_nan l =
      let r : (quieted f x ≡ frexp_fraction f x) × (pos 0 ≡ frexp_exponent f x) = frexp_not_finite f x (quieted f x) (omega arith) (sym (propagated_nan f x l)) in
      (sym r.0, sym r.1)

  pub frexp_of_infinity : unsigned f x ≡ infinity f → (frexp_fraction f x ≡ x) × (frexp_exponent f x ≡ pos 0)
  frexp_of_infinity e =
      let r : (x ≡ frexp_fraction f x) × (pos 0 ≡ frexp_exponent f x) = frexp_not_finite f x x (omega arith) (sym (propagated-number f x (omega arith))) in
      (sym r.0, sym r.1)

  pub frexp_of_zero : Valid f → unsigned f x ≡ 0 → (frexp_fraction f x ≡ x) × (frexp_exponent f x ≡ pos 0)
  frexp_of_zero v e = (sym (frexp_zero f x v e).0, sym (frexp_zero f x v e).1)

-- ---- frexp of any other number

-- the fraction: x's sign, and m * 2 ^ (bias - 2) units
record Fraction (f : Format) (x : ℕ) : Type 0 where
  m : ℕ
  from : 2 ^ f.fraction ≤ m
  below : m < 2 * 2 ^ f.fraction
  sign : negative f (frexp_fraction f x) ≡ negative f x
  finite : unsigned f (frexp_fraction f x) < infinity f
  units : units_of f (frexp_fraction f x) ≡ m * 2 ^ (bias f - 2)
  back : units_of f (frexp_fraction f x) * up (frexp_exponent f x) ≡ units_of f x * down (frexp_exponent f x)

fraction : (f : Format) (x : ℕ) → Valid f → 0 < unsigned f x → unsigned f x < infinity f → Fraction f x
fraction f x v some h = go (found f x v some h) (room f (bias f) v refl)
  where
    -- b units times 2 ^ c are a units times 2 ^ d, so b is a times 2 ^ (d - c)
    product : (a b d c : ℕ) → b * 2 ^ c ≡ a * 2 ^ d → a * up (pos d -ℤ pos c) ≡ b * down (pos d -ℤ pos c)
    product a b d c e =
        let z : ℤ = pos d -ℤ pos c in
        cancel_right (2 ^ c) (pow_pos c)
        (mul_assoc a (up z) (2 ^ c) ∙ ap (λ (y : ℕ). a * y) (difference_power d c) ∙ sym (mul_assoc a (2 ^ d) (down z)) ∙ ap (λ (y : ℕ). y * down z) (sym e) ∙ swap b (2 ^ c) (down z))

    go : Found f x → Room f (bias f) → Fraction f x
    go t rm =
        let P : ℕ = 2 ^ f.fraction in
        let s : Bool = negative f x in
        let g : Significand f x t.m t.fore t.back = t.is in
        let r : ℕ = (bias f - 2) * P + t.m in
        let e : frexp_fraction f x ≡ signed f s r = fraction_is f x t.m v t.fore t.back g in
        let next : (bias f - 1) * P ≡ (bias f - 2) * P + P = ap (λ (y : ℕ). y * P) (omega (arith, rm.two)) ∙ suc_times (bias f - 2) P in
        let low : r < infinity f = omega (arith, g.below, rm.half_one, rm.one_whole, rm.whole) in
        let l : r < sign_bit f = omega (arith, infinity-below_sign f) in
        let u : unsigned f (frexp_fraction f x) ≡ r = ap (unsigned f) e ∙ unsigned_signed f r l s in
        let n : units_of f (frexp_fraction f x) ≡ t.m * 2 ^ (bias f - 2) = ap (magnitude f.fraction) u ∙ magnitude_at f.fraction (bias f - 2) t.m g.from (omega (arith, g.below)) in
        record {
          m = t.m;
          from = g.from;
          below = g.below;
          sign = ap (negative f) e ∙ negative-signed f r l s;
          finite = omega arith;
          units = n;
          back = rw (n, exponent_is f x t.m v t.fore t.back g) (product (t.m * 2 ^ (bias f - 2)) (units_of f x) _ (bias f + f.fraction - 1) (whole_units f x t.m v t.fore t.back g rm));
        }

module _ (f : Format) (x : ℕ) (v : Valid f) (some : 0 < unsigned f x) (h : unsigned f x < infinity f) where
  -- at least one half and below one
  pub frexp_range : (one f ≤ 2 * units_of f (frexp_fraction f x)) × (units_of f (frexp_fraction f x) < one f)
  frexp_range = go (fraction f x v some h) (room f (bias f) v refl)
    where
      go : Fraction f x → Room f (bias f) → (one f ≤ 2 * units_of f (frexp_fraction f x)) × (units_of f (frexp_fraction f x) < one f)
      go t rm =
          let P : ℕ = 2 ^ (bias f - 2) in
          let e : 2 * 2 ^ f.fraction * P ≡ one f = ap (λ (y : ℕ). y * P) (omega arith) ∙ powers (suc f.fraction) (bias f - 2) (bias f + f.fraction - 1) (omega (arith, rm.two)) in
          omega (arith, t.units, mul-le-mul_right P t.from, mul-lt-mul_of_pos_right t.below (pow_pos (bias f - 2)), mul_assoc 2 (2 ^ f.fraction) P)

  pub frexp_sign : negative f (frexp_fraction f x) ≡ negative f x
  frexp_sign = (fraction f x v some h).sign

  -- fraction times 2 ^ exponent is x
  pub frexp_product : units_of f (frexp_fraction f x) * up (frexp_exponent f x) ≡ units_of f x * down (frexp_exponent f x)
  frexp_product = (fraction f x v some h).back

-- ---- ldexp by class

module _ (f : Format) (x : ℕ) (n : ℤ) where
  pub ldexp_of_nan : infinity f < unsigned f x → (ldexp f x n ≡ quieted f x) × (ldexp_refusal f x n ≡ 0)
  ldexp_of_nan l =
      let r : (quieted f x ≡ ldexp f x n) × (0 ≡ ldexp_refusal f x n) = ldexp_not_finite f x (quieted f x) (omega arith) (sym (propagated_nan f x l)) n in
      (sym r.0, sym r.1)

  pub ldexp_of_infinity : unsigned f x ≡ infinity f → (ldexp f x n ≡ x) × (ldexp_refusal f x n ≡ 0)
  ldexp_of_infinity e =
      let r : (x ≡ ldexp f x n) × (0 ≡ ldexp_refusal f x n) = ldexp_not_finite f x x (omega arith) (sym (propagated-number f x (omega arith))) n in
      (sym r.0, sym r.1)

  pub ldexp_of_zero : Valid f → x < 2 * sign_bit f → unsigned f x ≡ 0 → (ldexp f x n ≡ x) × (ldexp_refusal f x n ≡ 0)
  ldexp_of_zero v p e = (sym (zero_answer f x n v p e).0, sym (zero_answer f x n v p e).1)

-- ---- ldexp of a finite number: x's sign, and the rest of the pattern, up to infinity's

module _ (f : Format) (x : ℕ) (n : ℤ) (h : unsigned f x < infinity f) where
  sign_at : negative f (ldexp f x n) ≡ negative f x
  sign_at = ap (negative f) (ldexp_is f x n h) ∙ rounded_sign f (negative f x) (units_of f x * up n) (down n)

  rest_at : unsigned f (ldexp f x n) ≡ capped f (scaled f x n)
  unfolding scaled
  rest_at = ap (unsigned f) (ldexp_is f x n h) ∙ rounded_rest f (negative f x) (units_of f x * up n) (down n)

  -- refusal 3 exactly where the rounding passes the largest finite number, and there the answer is an infinity
  refusal_range : ldexp_refusal f x n ≡ 3 ↔ infinity f ≤ scaled f x n
  refusal_range = (λ e. ⊎_elim (λ l. absurd (inside e l)) (λ g. g) (lt_or_ge (scaled f x n) (infinity f)), λ g. (ldexp_out f x n h g).1)
    where
      inside : ldexp_refusal f x n ≡ 3 → scaled f x n < infinity f → ⊥
      inside e l = omega (arith, (ldexp_in f x n h l).1)

  pub refused_is_infinite : ldexp_refusal f x n ≡ 3 ↔ unsigned f (ldexp f x n) ≡ infinity f
  refused_is_infinite = (
    λ e. rest_at ∙ capped_out f (refusal_range.0 e),
    λ e. ⊎_elim (λ l. absurd (inside e l)) (λ g. refusal_range.1 g) (lt_or_ge (scaled f x n) (infinity f)),
  )
    where
      inside : unsigned f (ldexp f x n) ≡ infinity f → scaled f x n < infinity f → ⊥
      inside e l = omega (arith, rest_at, capped_in f l)

  -- an answer that is finite is the rounded number
  in_range : unsigned f (ldexp f x n) < infinity f → scaled f x n < infinity f
  in_range l = ⊎_elim (λ k. k) (λ g. absurd (outside g)) (lt_or_ge (scaled f x n) (infinity f))
    where
      outside : infinity f ≤ scaled f x n → ⊥
      outside g = omega (arith, rest_at, capped_out f g)

-- the sign is kept, by a zero result too
pub ldexp_sign : (f : Format) (x : ℕ) (n : ℤ) → unsigned f x ≤ infinity f → negative f (ldexp f x n) ≡ negative f x
ldexp_sign f x n h =
    ⊎_elim (λ e. ap (negative f) (ldexp_of_infinity f x n e).0) (λ l. sign_at f x n l) (eq-or-lt_of_le h)

-- ---- what a number of the format gives

-- where a finite number has the value, that is the answer
pub ldexp_exact : (f : Format) (x y : ℕ) (n : ℤ) → Valid f → y < 2 * sign_bit f → unsigned f x < infinity f → unsigned f y < infinity f
    → negative f x ≡ negative f y → units_of f x * up n ≡ units_of f y * down n → (ldexp f x n ≡ y) × (ldexp_refusal f x n ≡ 0)
ldexp_exact f x y n v p h l s e =
    let r : scaled f x n ≡ unsigned f y = scaled_exact f x n (unsigned f y) v e in
    let a : (ldexp f x n ≡ signed f (negative f x) (scaled f x n)) × (ldexp_refusal f x n ≡ 0) = ldexp_in f x n h (omega arith) in
    (a.0 ∙ ap (λ (t : Bool). signed f t (scaled f x n)) s ∙ ap (signed f (negative f y)) r ∙ sym (signed_parts f y p), a.1)

-- by 0 nothing changes
pub ldexp_by_zero : (f : Format) (x : ℕ) → Valid f → x < 2 * sign_bit f → unsigned f x ≤ infinity f → ldexp f x (pos 0) ≡ x
ldexp_by_zero f x v p h =
    ⊎_elim (λ e. (ldexp_of_infinity f x (pos 0) e).0) (λ l. (ldexp_exact f x x (pos 0) v p l l refl refl).0) (eq-or-lt_of_le h)

-- x comes back from the fraction y and the exponent n, to the bit, and nothing is refused
abbrev pub Undone : Format → ℕ → ℕ → ℤ → Type 0
Undone f x y n = (ldexp f y n ≡ x) × (ldexp_refusal f y n ≡ 0)

-- ldexp undoes frexp
pub ldexp_frexp : (f : Format) (x : ℕ) → Valid f → x < 2 * sign_bit f → unsigned f x < infinity f → Undone f x (frexp_fraction f x) (frexp_exponent f x)
ldexp_frexp f x v p h = ⊎_elim (λ some. other (fraction f x v some h)) (λ none. zero (omega arith)) (lt_or_ge 0 (unsigned f x))
  where
    zero : unsigned f x ≡ 0 → Undone f x (frexp_fraction f x) (frexp_exponent f x)
    zero e = rw (frexp_of_zero f x v e).0 (ldexp_of_zero f x (frexp_exponent f x) v p e)

    other : Fraction f x → Undone f x (frexp_fraction f x) (frexp_exponent f x)
    other t = ldexp_exact f (frexp_fraction f x) x (frexp_exponent f x) v p t.finite h t.sign t.back

-- ---- the nearest number of the format

-- how far z lies from x times 2 ^ n, both sides times down n and with their signs
abbrev pub gap : Format → ℕ → ℤ → ℕ → ℕ
gap f x n z = distance (above f x * up n + under f z * down n) (above f z * down n + under f x * up n)

gap_is : (f : Format) (x : ℕ) (n : ℤ) (z : ℕ) → gap f x n z ≡ round.gap f (negative f x) (units_of f x * up n) (down n) z
gap_is f x n z =
    rw (above_at f x (negative f x) refl, under_at f x (negative f x) refl, (times_cond (negative f x) (units_of f x) (up n)).0, (times_cond (negative f x) (units_of f x) (up n)).1) refl

module _ (f : Format) (x : ℕ) (n : ℤ) (v : Valid f) (h : unsigned f x < infinity f) (l : unsigned f (ldexp f x n) < infinity f) where
  finite : unsigned f (rounded f (negative f x) (units_of f x * up n) (down n)) < infinity f
  finite = rw (ldexp_is f x n h) at l

  module _ (z : ℕ) where
    -- by magnitudes: no number of the format is nearer to x times 2 ^ n, both sides times down n
    pub ldexp-nearest : distance (units_of f x * up n) (units_of f (ldexp f x n) * down n) ≤ distance (units_of f x * up n) (units_of f z * down n)
    ldexp-nearest = rw (ldexp_is f x n h) (rounded-nearest f v (negative f x) (units_of f x * up n) (down n) (down_pos n) finite z)

    -- where another is as near, the answer's pattern is even
    pub ldexp_even : distance (units_of f x * up n) (units_of f z * down n) ≡ distance (units_of f x * up n) (units_of f (ldexp f x n) * down n)
        → unsigned f z ≡ unsigned f (ldexp f x n) ⊎ ldexp f x n % 2 ≡ 0
    ldexp_even = rw (ldexp_is f x n h) (rounded_even f v (negative f x) (units_of f x * up n) (down n) (down_pos n) finite z)

    -- with their signs: no number of the format is nearer to x times 2 ^ n than the answer
    pub ldexp_no_nearer : gap f x n (ldexp f x n) ≤ gap f x n z
    ldexp_no_nearer =
        rw (gap_is f x n (ldexp f x n), gap_is f x n z, ldexp_is f x n h) (rounded_no_nearer f v (negative f x) (units_of f x * up n) (down n) (down_pos n) finite z)

    -- halves to even: where z is as near, it is the answer but for a zero's sign, or the answer's pattern is even
    pub ldexp_halves : gap f x n z ≡ gap f x n (ldexp f x n) → unsigned f z ≡ unsigned f (ldexp f x n) ⊎ ldexp f x n % 2 ≡ 0
    ldexp_halves =
        rw (gap_is f x n (ldexp f x n), gap_is f x n z, ldexp_is f x n h) (rounded_halves f v (negative f x) (units_of f x * up n) (down n) (down_pos n) finite z)

-- ---- overflow

both : {A B C : Type 0} → A ↔ B → B ↔ C → A ↔ C
both p q = (λ a. q.0 (p.0 a), λ c. p.1 (q.1 c))

module _ (f : Format) (x : ℕ) (n : ℤ) (v : Valid f) (h : unsigned f x < infinity f) where
  overflows : ldexp_refusal f x n ≡ 3 ↔ unsigned f (rounded f (negative f x) (units_of f x * up n) (down n)) ≡ infinity f
  overflows = rw (ldexp_is f x n h) at (refused_is_infinite f x n h)

  -- exactly where x times 2 ^ n, rounded with no upper end, is beyond the largest finite number
  pub overflow_beyond_largest : ldexp_refusal f x n ≡ 3
      ↔ largest f < nearest f.fraction HalfEven (negative f x) (units_of f x * up n) (down n)
  overflow_beyond_largest = both overflows (rounded_beyond f v (negative f x) (units_of f x * up n) (down n) (down_pos n))

  -- and that is from halfway on between the largest finite number and the power of two that follows it
  pub overflow_from_halfway : ldexp_refusal f x n ≡ 3
      ↔ largest f * down n + magnitude f.fraction (infinity f) * down n ≤ units_of f x * up n * 2
  overflow_from_halfway = both overflows (rounded_from_halfway f v (negative f x) (units_of f x * up n) (down n) (down_pos n))

-- ---- the order is kept

module _ (f : Format) (v : Valid f) where
  keeps : (x : ℕ) (n : ℤ) → unsigned f x ≤ infinity f → Keeps f f x (ldexp f x n)
  keeps x n h = record { sign = ldexp_sign f x n h; zero = zero }
    where
      zero : unsigned f x ≡ 0 → unsigned f (ldexp f x n) ≡ 0
      zero e =
          let big : 0 < infinity f = omega (arith, (room f (bias f) v refl).whole, pow_pos f.fraction) in
          let none : units_of f x ≡ 0 = ap (magnitude f.fraction) e ∙ magnitude_zero f.fraction in
          let r : scaled f x n ≡ 0 = scaled_exact f x n 0 v (ap (λ (y : ℕ). y * up n) none ∙ omega arith ∙ sym (ap (λ (y : ℕ). y * down n) (magnitude_zero f.fraction))) in
          rest_at f x n (omega arith) ∙ ap (capped f) r ∙ capped_in f big

  -- what is no NaN gives none
  pub ldexp_not_nan : (x : ℕ) (n : ℤ) → unsigned f x ≤ infinity f → unsigned f (ldexp f x n) ≤ infinity f
  ldexp_not_nan x n h =
      ⊎_elim (λ e. omega (arith, ap (unsigned f) (ldexp_of_infinity f x n e).0)) (λ l. omega (arith, rest_at f x n l, capped-most f (scaled f x n))) (eq-or-lt_of_le h)

  rest_grows : (x y : ℕ) (n : ℤ) → unsigned f y ≤ infinity f → unsigned f x ≤ unsigned f y → unsigned f (ldexp f x n) ≤ unsigned f (ldexp f y n)
  rest_grows x y n h l = ⊎_elim infinite finite (eq-or-lt_of_le h)
    where
      infinite : unsigned f y ≡ infinity f → unsigned f (ldexp f x n) ≤ unsigned f (ldexp f y n)
      infinite e = omega (arith, ap (unsigned f) (ldexp_of_infinity f y n e).0, ldexp_not_nan x n (omega arith))

      finite : unsigned f y < infinity f → unsigned f (ldexp f x n) ≤ unsigned f (ldexp f y n)
      finite k =
          let s : scaled f x n ≤ scaled f y n =
          keeps_order f.fraction (units_of f x * up n) (units_of f y * up n) (down n) (scaled f x n) (scaled f y n) (down_pos n) (scaled-nearest f x n v) (scaled-nearest f y n v) (mul-le-mul_right (up n) (magnitude_mono_le f.fraction l)) in
          omega (arith, rest_at f x n (omega arith), rest_at f y n k, capped_mono f s)

  -- in x
  pub ldexp_monotone : (x y : ℕ) (n : ℤ) → unsigned f x ≤ infinity f → unsigned f y ≤ infinity f
      → AtMost f x y → AtMost f (ldexp f x n) (ldexp f y n)
  ldexp_monotone x y n hx hy =
      keeps_at_most f f x y (ldexp f x n) (ldexp f y n) (keeps x n hx) (keeps y n hy) (λ l e. rest_grows x y n hy l) (λ l e. rest_grows y x n hx l)

  module _ (x : ℕ) (n m : ℤ) (le : n ≤ℤ m) (h : unsigned f x ≤ infinity f) where
    -- over one denominator
    scaled_grows : scaled f x n ≤ scaled f x m
    unfolding scaled
    scaled_grows =
        keeps_order f.fraction (units_of f x * up n * down m) (units_of f x * up m * down n) (down n * down m) (scaled f x n) (scaled f x m) (product_pos (down_pos n) (down_pos m)) (over n m)
        (rw (mul_comm (down m) (down n)) at (over m n))
        (rw (mul_assoc (units_of f x) (up n) (down m), mul_assoc (units_of f x) (up m) (down n)) (mul-le-mul_left (units_of f x) (powers_order n m le)))
      where
        over : (a b : ℤ) → NearestPattern f.fraction (units_of f x * up a * down b) (down a * down b) (scaled f x a)
        over a b =
            rw (nearest_scale f.fraction HalfEven (negative f x) (units_of f x * up a) (down a) (down b) (down_pos a) (down_pos b)) at
            (rounds_nearest f.fraction (negative f x) (units_of f x * up a * down b) (down a * down b) v.some_fraction (product_pos (down_pos a) (down_pos b)))

    magnitude_grows : units_of f (ldexp f x n) ≤ units_of f (ldexp f x m)
    magnitude_grows = magnitude_mono_le f.fraction (⊎_elim infinite finite (eq-or-lt_of_le h))
      where
        infinite : unsigned f x ≡ infinity f → unsigned f (ldexp f x n) ≤ unsigned f (ldexp f x m)
        infinite e = omega (arith, ap (unsigned f) (ldexp_of_infinity f x n e).0, ap (unsigned f) (ldexp_of_infinity f x m e).0)

        finite : unsigned f x < infinity f → unsigned f (ldexp f x n) ≤ unsigned f (ldexp f x m)
        finite k = omega (arith, rest_at f x n k, rest_at f x m k, capped_mono f scaled_grows)

    -- in n: a number with a plus sign grows, one with a minus sign shrinks
    pub ldexp_grows : negative f x ≡ false → AtMost f (ldexp f x n) (ldexp f x m)
    ldexp_grows e =
        let a : negative f (ldexp f x n) ≡ false = ldexp_sign f x n h ∙ e in
        let b : negative f (ldexp f x m) ≡ false = ldexp_sign f x m h ∙ e in
        omega (arith, magnitude_grows, above_at f (ldexp f x n) false a, under_at f (ldexp f x n) false a, above_at f (ldexp f x m) false b, under_at f (ldexp f x m) false b)

    pub ldexp_shrinks : negative f x ≡ true → AtMost f (ldexp f x m) (ldexp f x n)
    ldexp_shrinks e =
        let a : negative f (ldexp f x n) ≡ true = ldexp_sign f x n h ∙ e in
        let b : negative f (ldexp f x m) ≡ true = ldexp_sign f x m h ∙ e in
        omega (arith, magnitude_grows, above_at f (ldexp f x n) true a, under_at f (ldexp f x n) true a, above_at f (ldexp f x m) true b, under_at f (ldexp f x m) true b)
