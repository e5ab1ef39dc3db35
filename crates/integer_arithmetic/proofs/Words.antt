-- What the small functions answer: a number in parts of 2 ^ d, and a pattern's significand and scale. Assumes nothing.
use mathlib.Core.Path.{◌≡◌, refl, sym, ap, ◌∙◌}
use mathlib.Core.Bool.{Bool, true, false, not, true≢false, false≢true}
use mathlib.Core.Logic.{◌⊎◌, inl, inr, ⊎_elim}
use Prim.Native.Nat.{ℕ, suc, ◌+◌, ◌-◌, ◌*◌, ◌/◌, ◌%◌, ◌^◌, ◌≤◌, ◌<◌}
use native.Mathlib.Nat.{mod-lt, mod-eq_of_lt, div-eq_of_lt, div-add-mod', div-lt_iff_lt-mul}
use native.Mathlib.Omega.{arith}
use lib.Pow.{pow_pos, pow_mono, pow-add}
use lib.Ieee.{unlike}
use Rattle.float_format.specs.Format.{Format, sign_bit, infinity, negative, signed}
use Rattle.float_format.specs.Number.{magnitude}
use Rattle.float_format.specs.Width.{InWord, Wide}
use Rattle.float_format.proofs.Units.{lt_or_ge, magnitude_at, magnitude-low, magnitude_mono_le}
use Rattle.float_format.proofs.Nearby.{magnitude_small}
use Rattle.float_format.proofs.Sizes.{sizes, zero_is}
use Rattle.float_format.proofs.Order.{infinity-below_sign}
use Rattle.float_format.proofs.Powers.{gather}
use Rattle.integer_arithmetic.specs.Stands.{Fits, Sticky, Scaled, Led}

-- ---- parts

-- w parts and r left
pub sticky_rest : (n v w r : ℕ) → n ≡ w * v + r → r < v → (r ≡ 0 → ⊥) → Sticky n v (w + (1 - w % 2))
sticky_rest n v w r e l some = ⊎_elim even odd (lt_or_ge (w % 2) 1)
  where
    even : w % 2 < 1 → Sticky n v (w + (1 - w % 2))
    even h =
        let t : w + (1 - w % 2) ≡ suc w = omega arith in
        let m : suc w * v ≡ w * v + v = omega arith in
        rw t (inr (omega arith, omega arith, omega arith))

    odd : 1 ≤ w % 2 → Sticky n v (w + (1 - w % 2))
    odd h = let t : w + (1 - w % 2) ≡ w = omega arith in rw t (inr (omega arith, omega arith, omega arith))

-- m by 2 ^ e, where e is d, or 62 where d is more
module _ (m d e u : ℕ) (below : m < 2 ^ 61) (which : ((d ≤ 62) × (e ≡ d)) ⊎ ((62 < d) × (e ≡ 62))) (eu : u ≡ 2 ^ e) where
  some : 0 < u
  some = omega (arith, eu, pow_pos e)

  pub sticky_exact : m % u ≡ 0 → Sticky m (2 ^ d) (m / u)
  sticky_exact h = ⊎_elim near far which
    where
      near : (d ≤ 62) × (e ≡ d) → Sticky m (2 ^ d) (m / u)
      near o = inl (sym (div-add-mod' m u) ∙ omega (arith, h) ∙ ap (λ (y : ℕ). m / u * y) (eu ∙ ap (λ (y : ℕ). 2 ^ y) o.1))

      far : (62 < d) × (e ≡ 62) → Sticky m (2 ^ d) (m / u)
      far o =
          let big : u ≡ 2 ^ 62 = eu ∙ ap (λ (y : ℕ). 2 ^ y) o.1 in
          let small : m % u ≡ m = mod-eq_of_lt (omega arith) in
          let none : m ≡ 0 = sym small ∙ h in
          let zero : m / u ≡ 0 = div-eq_of_lt (omega arith) in
          inl (none ∙ sym (ap (λ (y : ℕ). y * 2 ^ d) zero ∙ omega arith))

  pub sticky_odd : (m % u ≡ 0 → ⊥) → Sticky m (2 ^ d) (m / u + (1 - m / u % 2))
  sticky_odd h = ⊎_elim near far which
    where
      near : (d ≤ 62) × (e ≡ d) → Sticky m (2 ^ d) (m / u + (1 - m / u % 2))
      near o =
          let same : u ≡ 2 ^ d = eu ∙ ap (λ (y : ℕ). 2 ^ y) o.1 in
          sticky_rest m (2 ^ d) (m / u) (m % u) (omega (arith, div-add-mod' m u, ap (λ (y : ℕ). m / u * y) same)) (omega (arith, mod-lt m some)) h

      far : (62 < d) × (e ≡ 62) → Sticky m (2 ^ d) (m / u + (1 - m / u % 2))
      far o =
          let big : u ≡ 2 ^ 62 = eu ∙ ap (λ (y : ℕ). 2 ^ y) o.1 in
          let zero : m / u ≡ 0 = div-eq_of_lt (omega arith) in
          let left : m % u ≡ m = mod-eq_of_lt (omega arith) in
          let more : 2 ^ 62 ≤ 2 ^ d = pow_mono {i = 62} {j = d} (omega arith) in
          let one : m / u + (1 - m / u % 2) ≡ 1 = omega arith in
          rw one (inr (refl, omega arith, omega arith))

-- ---- a pattern a without its sign, in a word

module _ (f : Format) (z : Fits f) (a e : ℕ) (l : a < sign_bit f) (ee : e ≡ a / 2 ^ f.fraction) where
  field_lt : e < 2 ^ 32
  field_lt =
      let q : a / 2 ^ f.fraction < 2 ^ f.exponent = (div-lt_iff_lt-mul {k = 2 ^ f.fraction} {x = a} {y = 2 ^ f.exponent} (pow_pos f.fraction)).1 (omega (arith, pow-add 2 f.exponent f.fraction)) in
      omega (arith, pow_mono {i = f.exponent} {j = 32} z.few)

  pub low_pattern : e ≡ 0 → a < 2 ^ f.fraction
  low_pattern h = omega (arith, (div-lt_iff_lt-mul {k = 2 ^ f.fraction} {x = a} {y = 1} (pow_pos f.fraction)).0 (omega arith))

  pub scaled-low : e ≡ 0 → Scaled f a a 0
  scaled-low h =
      let k : a < 2 ^ f.fraction = low_pattern h in
      record {
        units = magnitude-low f.fraction a k ∙ omega arith;
        below = omega arith;
        from = λ y. omega arith;
        is = omega (arith, ee, h);
        upto = omega arith;
      }

  high_units : 0 < e → magnitude f.fraction a ≡ (2 ^ f.fraction + a % 2 ^ f.fraction) * 2 ^ (e - 1)
  high_units h =
      let P : ℕ = 2 ^ f.fraction in
      let m : a % P < P = mod-lt a (pow_pos f.fraction) in
      let back : suc (e - 1) ≡ a / P = omega (arith, ee) in
      let s : a ≡ (e - 1) * P + (P + a % P) = omega (arith, div-add-mod' a P, ap (λ (y : ℕ). y * P) back) in
      ap (magnitude f.fraction) s ∙ magnitude_at f.fraction (e - 1) (P + a % P) (omega arith) (omega arith)

  pub scaled-high : 0 < e → Scaled f a (2 ^ f.fraction + a % 2 ^ f.fraction) (e - 1)
  scaled-high h =
      record {
        units = high_units h;
        below = omega (arith, mod-lt a (pow_pos f.fraction));
        from = λ y. omega arith;
        is = ap (λ (y : ℕ). y - 1) ee;
        upto = omega (arith, field_lt);
      }

-- ---- the leading one in place

pub led_subnormal : (f : Format) (a k : ℕ) → Fits f → a < 2 ^ f.fraction → k ≤ f.fraction → 2 ^ f.fraction ≤ a * 2 ^ k → a * 2 ^ k < 2 * 2 ^ f.fraction
    → Led f a (a * 2 ^ k) (f.fraction - k)
led_subnormal f a k z l le lo hi =
    record {
      units = ap (λ (y : ℕ). y * 2 ^ f.fraction) (magnitude-low f.fraction a l) ∙ sym (gather a k (f.fraction - k) f.fraction (omega arith));
      from = lo;
      below = hi;
      upto = omega (arith, z.short);
    }

pub led_normal : (f : Format) (a m scale : ℕ) → Fits f → 2 ^ f.fraction ≤ a → Scaled f a m scale → Led f a m (scale + f.fraction)
led_normal f a m scale z g p =
    record {
      units = ap (λ (y : ℕ). y * 2 ^ f.fraction) p.units ∙ gather m scale f.fraction (scale + f.fraction) refl;
      from = ⊎_elim p.from (λ h. omega (arith, flat h)) (lt_or_ge 0 scale);
      below = p.below;
      upto = omega (arith, z.short, p.upto);
    }
  where
    flat : scale ≤ 0 → 2 ^ f.fraction ≤ m
    flat h =
        let none : scale ≡ 0 = omega arith in
        let e : magnitude f.fraction a ≡ m = p.units ∙ ap (λ (k : ℕ). m * 2 ^ k) none ∙ omega arith in
        omega (arith, magnitude_mono_le f.fraction g, magnitude_small f.fraction (2 ^ f.fraction) (omega arith))

-- ---- what a wide format promises

pub wide_fits : (f : Format) → InWord f → Wide f → Fits f
wide_fits f w z = record { word = w; short = z.spare; few = z.few }

-- ---- signs, by the zero of each

-- a zero with its sign, and a rest that is at most infinity's, fit a word
pub sum_fits : (f : Format) (s : Bool) (a : ℕ) → Fits f → a ≤ infinity f → signed f s 0 + a < 2 ^ 64
sum_fits f true a z h = omega (arith, (sizes f z.word).sign_le, infinity-below_sign f)
sum_fits f false a z h = omega (arith, (sizes f z.word).sign_le, infinity-below_sign f)

module _ (f : Format) (x y : ℕ) (p : x < 2 * sign_bit f) (q : y < 2 * sign_bit f) where
  abbrev zx : ℕ
  zx = x - x % sign_bit f

  abbrev zy : ℕ
  zy = y - y % sign_bit f

  -- as the code compares them
  zeros : (s t : Bool) → signed f s 0 ≡ signed f t 0 → s ≡ t
  zeros true true e = refl
  zeros false false e = refl
  zeros true false e = absurd (omega (arith, pow_pos (f.exponent + f.fraction)))
  zeros false true e = absurd (omega (arith, pow_pos (f.exponent + f.fraction)))

  pub like : zx ≡ zy → negative f x ≡ negative f y
  like e = zeros (negative f x) (negative f y) (sym (zero_is f x p) ∙ e ∙ zero_is f y q)

  not_like : (s t : Bool) → (signed f s 0 ≡ signed f t 0 → ⊥) → t ≡ not s
  not_like true true n = absurd (n refl)
  not_like false false n = absurd (n refl)
  not_like true false n = refl
  not_like false true n = refl

  pub opposite : (zx ≡ zy → ⊥) → negative f y ≡ not (negative f x)
  opposite n = not_like (negative f x) (negative f y) (λ e. n (zero_is f x p ∙ e ∙ sym (zero_is f y q)))

  unlike_same : (s t : Bool) → s ≡ t → 0 ≡ signed f (unlike s t) 0
  unlike_same true true e = refl
  unlike_same false false e = refl
  unlike_same true false e = absurd (true≢false e)
  unlike_same false true e = absurd (false≢true e)

  unlike_not : (s t : Bool) → t ≡ not s → sign_bit f ≡ signed f (unlike s t) 0
  unlike_not true false e = omega arith
  unlike_not false true e = omega arith
  unlike_not true true e = absurd (true≢false e)
  unlike_not false false e = absurd (false≢true e)

  pub zero_like : zx ≡ zy → 0 ≡ signed f (unlike (negative f x) (negative f y)) 0
  zero_like e = unlike_same (negative f x) (negative f y) (like e)

  pub zero_unlike : (zx ≡ zy → ⊥) → sign_bit f ≡ signed f (unlike (negative f x) (negative f y)) 0
  zero_unlike n = unlike_not (negative f x) (negative f y) (opposite n)

  -- a zero with its sign, and the rest
  pub with_rest : (a : ℕ) → zx + a ≡ signed f (negative f x) a
  with_rest a = ap (λ (k : ℕ). k + a) (zero_is f x p) ∙ omega arith

  pub rest_fits : (a : ℕ) → Fits f → a ≤ infinity f → zx + a < 2 ^ 64
  rest_fits a z h = rw (zero_is f x p) (sum_fits f (negative f x) a z h)
