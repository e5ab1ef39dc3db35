-- A fraction of units rounded once to a pattern of the format, as a user would state it: the sign is kept; a number that the format holds is
-- its own answer; of all numbers of the format the answer is nearest, halves to even; it is infinite exactly from halfway past the largest
-- finite number on; and the order is kept, signs and overflow included. ldexp, export and every later rounding are instances. Over every
-- valid format. Assumes nothing.
use mathlib.Core.Path.{◌≡◌, refl, sym, ap, ◌∙◌}
use mathlib.Core.Bool.{Bool, true, false, not, cond}
use mathlib.Core.Logic.{◌⊎◌, inl, inr, ⊎_elim, ◌↔◌}
use Prim.Native.Nat.{ℕ, suc, ◌+◌, ◌-◌, ◌*◌, ◌%◌, ◌^◌, ◌≤◌, ◌<◌}
use native.Mathlib.Nat.{mod-eq_of_lt, mul_assoc, pow-suc}
use native.Mathlib.Omega.{arith}
use lib.Pow.{pow_pos}
use borrow.Author.Tests.{lt-ltb, le-ltb}
use Rattle.float_format.specs.Format.{Format, Valid, sign_bit, top_field, infinity, negative, unsigned, signed}
use Rattle.float_format.specs.Number.{magnitude, encode, bias, above, under, AtMost, units_of, distance}
use Rattle.float_format.specs.Rounding.{nearest, capped, rounded}
use Rattle.float_format.specs.declared.Direction.TheVariants.{HalfEven}
use Rattle.float_format.proofs.Units.{lt_or_ge, magnitude_mono, magnitude_mono_le}
use Rattle.float_format.proofs.Order.{infinity-below_sign, above_at, under_at, above-signed, under-signed, magnitude_zero}
use Rattle.float_format.proofs.Powers.{cancel_right}
use Rattle.float_format.proofs.Integral.{room}
use Rattle.float_format.proofs.Patterns.{unsigned_signed, negative-signed, signed_lt}
use Rattle.float_format.proofs.Nearby.{magnitude-same, NearestPattern, rounds_nearest, nearest_units, keeps_order, reaches, exact, nearest_scale}

-- ---- the cap

pub capped_in : (f : Format) {a : ℕ} → a < infinity f → capped f a ≡ a
capped_in f {a} h = ap (λ (t : Bool). cond t a (infinity f)) (lt-ltb a (infinity f) h)

pub capped_out : (f : Format) {a : ℕ} → infinity f ≤ a → capped f a ≡ infinity f
capped_out f {a} h = ap (λ (t : Bool). cond t a (infinity f)) (le-ltb a (infinity f) h)

pub capped-most : (f : Format) (a : ℕ) → capped f a ≤ infinity f
capped-most f a = ⊎_elim (λ l. omega (arith, capped_in f l)) (λ g. omega (arith, capped_out f g)) (lt_or_ge a (infinity f))

pub capped_mono : (f : Format) {a b : ℕ} → a ≤ b → capped f a ≤ capped f b
capped_mono f {a} {b} h =
    ⊎_elim (λ l. omega (arith, capped_in f l, capped_in f {a = a} (omega arith))) (λ g. omega (arith, capped_out f g, capped-most f a)) (lt_or_ge b (infinity f))

-- ---- the answer without its sign

abbrev pub rest_of : Format → Bool → ℕ → ℕ → ℕ
rest_of f s n u = capped f (encode f.fraction (nearest f.fraction HalfEven s n u))

module _ (f : Format) (v : Valid f) (u : ℕ) (hu : 0 < u) where
  near : (s : Bool) (n : ℕ) → NearestPattern f.fraction n u (encode f.fraction (nearest f.fraction HalfEven s n u))
  near s n = rounds_nearest f.fraction s n u v.some_fraction hu

  pub rest_mono : (s t : Bool) {n m : ℕ} → n ≤ m → rest_of f s n u ≤ rest_of f t m u
  rest_mono s t {n} {m} h = capped_mono f (keeps_order f.fraction n m u _ _ hu (near s n) (near t m) h)

  pub rest_zero : (s : Bool) (n : ℕ) → n ≡ 0 → rest_of f s n u ≡ 0
  rest_zero s n e =
      let z : encode f.fraction (nearest f.fraction HalfEven s n u) ≡ 0 =
      exact f.fraction n u _ 0 hu (near s n) (e ∙ sym (ap (λ (k : ℕ). k * u) (magnitude_zero f.fraction) ∙ omega arith)) in
      ap (capped f) z ∙ ⊎_elim (λ l. capped_in f l) (λ g. omega (arith, capped_out f {a = 0} g)) (lt_or_ge 0 (infinity f))

pub rest_lt : (f : Format) (s : Bool) (n u : ℕ) → rest_of f s n u < sign_bit f
rest_lt f s n u = omega (arith, capped-most f (encode f.fraction (nearest f.fraction HalfEven s n u)), infinity-below_sign f)

-- ---- with its sign

module _ (f : Format) (s : Bool) (n u : ℕ) where
  pub rounded-above : above f (rounded f s n u) ≡ cond s 0 (magnitude f.fraction (rest_of f s n u))
  unfolding rounded
  rounded-above = above-signed f s (rest_of f s n u) (rest_lt f s n u)

  pub rounded-under : under f (rounded f s n u) ≡ cond s (magnitude f.fraction (rest_of f s n u)) 0
  unfolding rounded
  rounded-under = under-signed f s (rest_of f s n u) (rest_lt f s n u)

  -- never a NaN
  pub rounded_rest : unsigned f (rounded f s n u) ≡ rest_of f s n u
  unfolding rounded
  rounded_rest = unsigned_signed f (rest_of f s n u) (rest_lt f s n u) s

  pub rounded-number : unsigned f (rounded f s n u) ≤ infinity f
  rounded-number = omega (arith, rounded_rest, capped-most f (encode f.fraction (nearest f.fraction HalfEven s n u)))

  pub rounded_lt : rounded f s n u < 2 * sign_bit f
  unfolding rounded
  rounded_lt = signed_lt f (rest_of f s n u) (rest_lt f s n u) s

  pub rounded_is : rounded f s n u ≡ signed f s (unsigned f (rounded f s n u))
  unfolding rounded
  rounded_is = ap (signed f s) (sym (unsigned_signed f (rest_of f s n u) (rest_lt f s n u) s))

  pub rounded_sign : negative f (rounded f s n u) ≡ s
  unfolding rounded
  rounded_sign = negative-signed f (rest_of f s n u) (rest_lt f s n u) s

-- ---- what it comes to: raw is the pattern before its end

-- the largest finite number, in units
abbrev pub largest : Format → ℕ
largest f = magnitude f.fraction (infinity f - 1)

module _ (f : Format) (v : Valid f) (s : Bool) (n u : ℕ) (hu : 0 < u) where
  abbrev raw : ℕ
  raw = encode f.fraction (nearest f.fraction HalfEven s n u)

  -- a number that the format holds is its own answer
  pub rounded_exact : (a : ℕ) → a < infinity f → n ≡ magnitude f.fraction a * u → rounded f s n u ≡ signed f s a
  unfolding rounded
  rounded_exact a l e =
      ap (λ (k : ℕ). signed f s (capped f k)) (exact f.fraction n u raw a hu (near f v u hu s n) e) ∙ ap (signed f s) (capped_in f l)

  pub rounded_zero : n ≡ 0 → unsigned f (rounded f s n u) ≡ 0
  rounded_zero e = rounded_rest f s n u ∙ rest_zero f v u hu s n e

  pub rounded_infinite : unsigned f (rounded f s n u) ≡ infinity f ↔ infinity f ≤ raw
  rounded_infinite = (
    λ e. ⊎_elim (λ l. absurd (inside e l)) (λ g. g) (lt_or_ge raw (infinity f)),
    λ g. rounded_rest f s n u ∙ capped_out f g,
  )
    where
      inside : unsigned f (rounded f s n u) ≡ infinity f → raw < infinity f → ⊥
      inside e l = omega (arith, rounded_rest f s n u, capped_in f l)

  before : suc (infinity f - 1) ≡ infinity f
  before = omega (arith, (room f (bias f) v refl).whole, pow_pos f.fraction)

  -- exactly where n / u, rounded with no upper end, is beyond the largest finite number
  pub rounded_beyond : unsigned f (rounded f s n u) ≡ infinity f ↔ largest f < nearest f.fraction HalfEven s n u
  rounded_beyond = (
    λ e. rw (sym units) (magnitude_mono f.fraction (omega (arith, before, rounded_infinite.0 e))),
    λ l. rounded_infinite.1 (⊎_elim (λ k. absurd (inside l k)) (λ g. g) (lt_or_ge raw (infinity f))),
  )
    where
      units : magnitude f.fraction raw ≡ nearest f.fraction HalfEven s n u
      units = nearest_units f.fraction s n u hu

      inside : largest f < nearest f.fraction HalfEven s n u → raw < infinity f → ⊥
      inside l k = omega (arith, units, magnitude_mono_le f.fraction {a = raw} {b = infinity f - 1} (omega (arith, before)))

  infinity_odd : (infinity f - 1) % 2 ≡ 1
  infinity_odd =
      let t : 2 ^ f.fraction ≡ 2 ^ (f.fraction - 1) * 2 = ap (λ (y : ℕ). 2 ^ y) (omega (arith, v.some_fraction)) ∙ pow-suc 2 (f.fraction - 1) in
      let d : infinity f ≡ top_field f * 2 ^ (f.fraction - 1) * 2 = ap (λ (y : ℕ). top_field f * y) t ∙ sym (mul_assoc (top_field f) (2 ^ (f.fraction - 1)) 2) in
      omega (arith, before)

  -- and that is from halfway on between the largest finite number and the power of two that follows it
  pub rounded_from_halfway : unsigned f (rounded f s n u) ≡ infinity f ↔ largest f * u + magnitude f.fraction (infinity f) * u ≤ n * 2
  rounded_from_halfway = (
    λ e. omega (arith, follows, halfway.0 (omega (arith, before, rounded_infinite.0 e))),
    λ l. rounded_infinite.1 (omega (arith, before, halfway.1 (omega (arith, follows)))),
  )
    where
      follows : magnitude f.fraction (suc (infinity f - 1)) * u ≡ magnitude f.fraction (infinity f) * u
      follows = ap (λ (y : ℕ). magnitude f.fraction y * u) before

      halfway : suc (infinity f - 1) ≤ raw ↔ largest f * u + magnitude f.fraction (suc (infinity f - 1)) * u ≤ n * 2
      halfway = reaches f.fraction n u raw (infinity f - 1) hu (near f v u hu s n) infinity_odd

-- ---- a finite answer is nearest of all

-- how far z's number lies from n / u with the sign s, both times u
abbrev pub gap : Format → Bool → ℕ → ℕ → ℕ → ℕ
gap f s n u z = distance (cond s 0 n + under f z * u) (above f z * u + cond s n 0)

module _ (U Z : ℕ) where
  like_signs : (s : Bool) → distance (cond s 0 U + cond s Z 0) (cond s 0 Z + cond s U 0) ≡ distance U Z
  like_signs true = omega arith
  like_signs false = omega arith

  unlike_signs : (s : Bool) → distance (cond s 0 U + cond (not s) Z 0) (cond (not s) 0 Z + cond s U 0) ≡ U + Z
  unlike_signs true = omega arith
  unlike_signs false = omega arith

pub times_cond : (s : Bool) (a t : ℕ) → (cond s 0 a * t ≡ cond s 0 (a * t)) × (cond s a 0 * t ≡ cond s (a * t) 0)
times_cond true a t = (omega arith, refl)
times_cond false a t = (refl, omega arith)

gap_at : (f : Format) (s : Bool) (n u z : ℕ) (t : Bool) → negative f z ≡ t
    → gap f s n u z ≡ distance (cond s 0 n + cond t (units_of f z * u) 0) (cond t 0 (units_of f z * u) + cond s n 0)
gap_at f s n u z t e = rw (above_at f z t e, under_at f z t e, (times_cond t (units_of f z) u).0, (times_cond t (units_of f z) u).1) refl

same_or_not : (s t : Bool) → t ≡ s ⊎ t ≡ not s
same_or_not true true = inl refl
same_or_not true false = inr refl
same_or_not false true = inr refl
same_or_not false false = inl refl

module _ (f : Format) (v : Valid f) (s : Bool) (n u : ℕ) (hu : 0 < u) (l : unsigned f (rounded f s n u) < infinity f) where
  abbrev r : ℕ
  r = rounded f s n u

  pub rounded-within : unsigned f (rounded f s n u) ≡ raw f v s n u hu
  rounded-within =
      rounded_rest f s n u
      ∙ capped_in f (⊎_elim (λ k. k) (λ g. omega (arith, (rounded_infinite f v s n u hu).1 g)) (lt_or_ge (raw f v s n u hu) (infinity f)))

  -- by magnitudes: no number of the format is nearer to n / u, both sides times u
  pub rounded-nearest : (z : ℕ) → distance n (units_of f r * u) ≤ distance n (units_of f z * u)
  rounded-nearest z = rw rounded-within ((near f v u hu s n).nearest (unsigned f z))

  -- where another is as near, the answer's pattern is even
  pub rounded_even : (z : ℕ) → distance n (units_of f z * u) ≡ distance n (units_of f r * u) → unsigned f z ≡ unsigned f r ⊎ r % 2 ≡ 0
  rounded_even z e =
      ⊎_elim (λ k. inl (k ∙ sym rounded-within)) (λ k. inr (ap (λ (y : ℕ). y % 2) (rounded_is f s n u) ∙ even s (rw rounded-within k)))
      ((near f v u hu s n).even (unsigned f z) (e ∙ ap (λ (y : ℕ). distance n (magnitude f.fraction y * u)) rounded-within))
    where
      even : (t : Bool) → unsigned f r % 2 ≡ 0 → signed f t (unsigned f r) % 2 ≡ 0
      even true k =
          let w : sign_bit f ≡ 2 ^ suc (f.exponent + f.fraction - 1) = ap (λ (y : ℕ). 2 ^ y) (omega (arith, v.some_fraction)) in
          omega arith
      even false k = omega arith

  own_gap : gap f s n u r ≡ distance n (units_of f r * u)
  own_gap = gap_at f s n u r s (rounded_sign f s n u) ∙ like_signs n (units_of f r * u) s

  zero_rest : unsigned f 0 ≡ 0
  zero_rest = mod-eq_of_lt (pow_pos (f.exponent + f.fraction))

  -- zero lies n away
  zero_units : units_of f 0 * u ≡ 0
  zero_units = ap (λ (y : ℕ). magnitude f.fraction y * u) zero_rest ∙ ap (λ (y : ℕ). y * u) (magnitude_zero f.fraction) ∙ omega arith

  to_zero : distance n (units_of f r * u) ≤ n
  to_zero = omega (arith, rounded-nearest 0, zero_units)

  module _ (z : ℕ) where
    like : negative f z ≡ s → gap f s n u z ≡ distance n (units_of f z * u)
    like e = gap_at f s n u z s e ∙ like_signs n (units_of f z * u) s

    unlike : negative f z ≡ not s → gap f s n u z ≡ n + units_of f z * u
    unlike e = gap_at f s n u z (not s) e ∙ unlike_signs n (units_of f z * u) s

    -- with their signs: no number of the format is nearer than the answer
    pub rounded_no_nearer : gap f s n u r ≤ gap f s n u z
    rounded_no_nearer =
        ⊎_elim (λ e. rw (own_gap, like e) (rounded-nearest z)) (λ e. rw (own_gap, unlike e) (omega (arith, to_zero))) (same_or_not s (negative f z))

    -- halves to even: where z is as near, it is the answer but for a zero's sign, or the answer's pattern is even
    pub rounded_halves : gap f s n u z ≡ gap f s n u r → unsigned f z ≡ unsigned f r ⊎ r % 2 ≡ 0
    rounded_halves e =
        ⊎_elim (λ k. rounded_even z (sym (like k) ∙ e ∙ own_gap)) (λ k. across (sym (unlike k) ∙ e ∙ own_gap)) (same_or_not s (negative f z))
      where
        across : n + units_of f z * u ≡ distance n (units_of f r * u) → unsigned f z ≡ unsigned f r ⊎ r % 2 ≡ 0
        across k =
            let none : units_of f z * u ≡ 0 * u = omega (arith, to_zero) in
            let flat : units_of f z ≡ magnitude f.fraction 0 = cancel_right u hu none ∙ sym (magnitude_zero f.fraction) in
            let rest : unsigned f z ≡ unsigned f 0 = magnitude-same f.fraction flat ∙ sym zero_rest in
            ⊎_elim (λ y. inl (rest ∙ y)) inr (rounded_even 0 (omega (arith, to_zero, zero_units)))

-- ---- the order is kept

-- s n / u is at most t m / u: so are the answers
pub rounded_order : (f : Format) (s t : Bool) (n m u : ℕ) → Valid f → 0 < u
    → cond s 0 n + cond t m 0 ≤ cond t 0 m + cond s n 0 → AtMost f (rounded f s n u) (rounded f t m u)
rounded_order f s t n m u v hu h =
    rw (rounded-above f s n u, rounded-under f s n u, rounded-above f t m u, rounded-under f t m u) (by_signs s t h)
  where
    F : ℕ
    F = f.fraction

    by_signs : (s t : Bool) → cond s 0 n + cond t m 0 ≤ cond t 0 m + cond s n 0
        → cond s 0 (magnitude F (rest_of f s n u)) + cond t (magnitude F (rest_of f t m u)) 0
        ≤ cond t 0 (magnitude F (rest_of f t m u)) + cond s (magnitude F (rest_of f s n u)) 0
    by_signs true true h = omega (arith, magnitude_mono_le F (rest_mono f v u hu true true {n = m} {m = n} (omega arith)))
    by_signs true false h = omega arith
    by_signs false true h =
        omega (arith, magnitude_zero F, ap (magnitude F) (rest_zero f v u hu false n (omega arith)), ap (magnitude F) (rest_zero f v u hu true m (omega arith)))
    by_signs false false h = omega (arith, magnitude_mono_le F (rest_mono f v u hu false false {n = n} {m = m} (omega arith)))

-- however the fraction is written
pub rounded_scale : (f : Format) (s : Bool) (n u t : ℕ) → 0 < u → 0 < t → rounded f s (n * t) (u * t) ≡ rounded f s n u
unfolding rounded
rounded_scale f s n u t hu ht = ap (λ (k : ℕ). signed f s (capped f (encode f.fraction k))) (nearest_scale f.fraction HalfEven s n u t hu ht)
