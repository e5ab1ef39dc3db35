-- That each direction gives the integer which document 01 names, for every finite pattern: floor the greatest not above, ceil the least
-- not below, trunc the nearest not larger in magnitude, round the nearest with halves away from zero, nearbyint the nearest with
-- halves to even. An integer is written p - q with p and q natural, so that no sign is taken apart in a statement, and lengths are in
-- units. The one idea: the result's units are a multiple of one, and `Bounds` says which. Over every valid format. Assumes nothing.
use mathlib.Core.Path.{◌≡◌, refl, sym, ap, ◌∙◌}
use mathlib.Core.Bool.{Bool, true, false, cond}
use mathlib.Core.Logic.{◌⊎◌, inl, inr, ⊎_elim}
use Prim.Native.Nat.{ℕ, ◌+◌, ◌-◌, ◌*◌, ◌/◌, ◌%◌, ◌≤◌, ◌<◌}
use native.Mathlib.Nat.{mul-div_cancel, mul-le-mul_right}
use native.Mathlib.Omega.{arith}
use Rattle.float_format.specs.Format.{Format, Valid, infinity, negative, unsigned, negated}
use Rattle.float_format.specs.Number.{one, above, under, AtMost, units_of, distance}
use Rattle.float_format.specs.Rounding.{parts, whole_part, integral}
use Rattle.float_format.specs.declared.Direction.{Direction}
use Rattle.float_format.specs.declared.Direction.TheVariants.{Down, Up, TowardZero, HalfAway, HalfEven}
use Rattle.float_format.proofs.Order.{above_at, under_at, unsigned-negated, above-negated, under-negated}
use Rattle.float_format.proofs.Bounds.{multiple_le, Within, parts_cut, parts_cover, Near, Nearer, half_away_near, half_even_near, near_nearest, near_away, near_only}
use Rattle.float_format.proofs.Laws.{one_pos, result, mirror_finite}

-- ---- integers against a pattern's number

-- the integer p - q is at most x
abbrev pub IntegerAtMost : Format → ℕ → ℕ → ℕ → Type 0
IntegerAtMost f p q x = p * one f + under f x ≤ above f x + q * one f

-- and at least x
abbrev pub IntegerAtLeast : Format → ℕ → ℕ → ℕ → Type 0
IntegerAtLeast f p q x = above f x + q * one f ≤ p * one f + under f x

-- how far the integer p - q lies from x, in units
abbrev pub gap : Format → ℕ → ℕ → ℕ → ℕ
gap f x p q = distance (above f x + q * one f) (under f x + p * one f)

-- how far y lies from x, in units
abbrev pub apart : Format → ℕ → ℕ → ℕ
apart f x y = distance (above f x + under f y) (above f y + under f x)

-- ---- the result's number

module _ (f : Format) (d : Direction) (x : ℕ) (v : Valid f) (h : unsigned f x < infinity f) where
  result_above : above f (integral f d x) ≡ cond (negative f x) 0 (whole_part f d x * one f)
  result_above =
      above_at f (integral f d x) (negative f x) (result f d x v h).sign ∙ ap (λ (n : ℕ). cond (negative f x) 0 n) (result f d x v h).units

  result_under : under f (integral f d x) ≡ cond (negative f x) (whole_part f d x * one f) 0
  result_under =
      under_at f (integral f d x) (negative f x) (result f d x v h).sign ∙ ap (λ (n : ℕ). cond (negative f x) n 0) (result f d x v h).units

-- ---- floor

-- of a magnitude n with the sign s
module _ (n u : ℕ) (h : 0 < u) where
  down_below : (s : Bool) → cond s 0 (parts Down s n u * u) + cond s n 0 ≤ cond s 0 n + cond s (parts Down s n u * u) 0
  down_below true = omega (arith, parts_cover n u h)
  down_below false = omega (arith, parts_cut Down false n u h refl)

  down_greatest : (s : Bool) (p q : ℕ) → p * u + cond s n 0 ≤ cond s 0 n + q * u
      → p * u + cond s (parts Down s n u * u) 0 ≤ cond s 0 (parts Down s n u * u) + q * u
  down_greatest true p q l = omega (arith, multiple_le (p + parts Down true n u) q u (omega (arith, parts_cover n u h)))
  down_greatest false p q l = omega (arith, multiple_le p (parts Down false n u + q) u (omega (arith, parts_cut Down false n u h refl)))

module _ (f : Format) (x : ℕ) (v : Valid f) (h : unsigned f x < infinity f) where
  pub floor_below : AtMost f (integral f Down x) x
  unfolding whole_part
  floor_below =
      rw (result_above f Down x v h, result_under f Down x v h, above_at f x (negative f x) refl, under_at f x (negative f x) refl)
      (down_below (units_of f x) (one f) (one_pos f) (negative f x))

  pub floor_greatest : (p q : ℕ) → IntegerAtMost f p q x → IntegerAtMost f p q (integral f Down x)
  unfolding whole_part
  floor_greatest p q l =
      rw (result_above f Down x v h, result_under f Down x v h)
      (down_greatest (units_of f x) (one f) (one_pos f) (negative f x) p q
      (rw (above_at f x (negative f x) refl, under_at f x (negative f x) refl) at l))

-- ---- ceil, which is floor turned round

module _ (f : Format) (x : ℕ) (v : Valid f) (h : unsigned f x < infinity f) where
  still_finite : unsigned f (negated f x) < infinity f
  still_finite = omega (arith, unsigned-negated f x)

  up_above : above f (integral f Up x) ≡ under f (integral f Down (negated f x))
  up_above = ap (above f) (mirror_finite f x v h) ∙ above-negated f (integral f Down (negated f x))

  up_under : under f (integral f Up x) ≡ above f (integral f Down (negated f x))
  up_under = ap (under f) (mirror_finite f x v h) ∙ under-negated f (integral f Down (negated f x))

  pub ceil_above : AtMost f x (integral f Up x)
  ceil_above = omega (arith, up_above, up_under, above-negated f x, under-negated f x, floor_below f (negated f x) v still_finite)

  pub ceil_least : (p q : ℕ) → IntegerAtLeast f p q x → IntegerAtLeast f p q (integral f Up x)
  ceil_least p q l =
      omega (arith, up_above, up_under, floor_greatest f (negated f x) v still_finite q p (omega (arith, above-negated f x, under-negated f x)))

-- ---- trunc

module _ (f : Format) (x : ℕ) (v : Valid f) (h : unsigned f x < infinity f) where
  cut : Within (one f) (units_of f (integral f TowardZero x)) (units_of f x)
  unfolding whole_part
  cut = rw (result f TowardZero x v h).units (parts_cut TowardZero (negative f x) (units_of f x) (one f) (one_pos f) refl)

  pub trunc_within : units_of f (integral f TowardZero x) ≤ units_of f x
  trunc_within = cut.from

  pub trunc_greatest : (k : ℕ) → k * one f ≤ units_of f x → k * one f ≤ units_of f (integral f TowardZero x)
  trunc_greatest k l =
      let e : units_of f (integral f TowardZero x) ≡ whole_part f TowardZero x * one f = (result f TowardZero x v h).units in
      omega (arith, multiple_le k (whole_part f TowardZero x) (one f) (omega (arith, cut)))

-- ---- the nearest

-- as lengths from a magnitude n: where the sign s is minus, p and q change places
module _ (n u p q : ℕ) where
  gap_by_sign : (s : Bool) → distance (cond s 0 n + q * u) (cond s n 0 + p * u) ≡ distance (n + cond s p q * u) (cond s q p * u)
  gap_by_sign true = omega arith
  gap_by_sign false = omega arith

  apart_by_sign : (m : ℕ) (s : Bool) → distance (cond s 0 n + cond s m 0) (cond s 0 m + cond s n 0) ≡ distance n m
  apart_by_sign m true = omega arith
  apart_by_sign m false = omega arith

  same_by_sign : (k : ℕ) (s : Bool) → cond s q p ≡ k + cond s p q → p * u + cond s (k * u) 0 ≡ cond s 0 (k * u) + q * u
  same_by_sign k true e = omega (arith, ap (λ (m : ℕ). m * u) e)
  same_by_sign k false e = omega (arith, ap (λ (m : ℕ). m * u) e)

  away_by_sign : (k : ℕ) (s : Bool) → (cond s q p ≤ k + cond s p q) × (cond s p q ≤ k + cond s q p) → (p - q ≤ k) × (q - p ≤ k)
  away_by_sign k true e = omega arith
  away_by_sign k false e = omega arith

module _ (f : Format) (d : Direction) (x : ℕ) (v : Valid f) (h : unsigned f x < infinity f) (p q : ℕ) where
  gap_is : gap f x p q ≡ distance (units_of f x + cond (negative f x) p q * one f) (cond (negative f x) q p * one f)
  gap_is =
      rw (above_at f x (negative f x) refl, under_at f x (negative f x) refl)
      (gap_by_sign (units_of f x) (one f) p q (negative f x))

  apart_is : apart f x (integral f d x) ≡ distance (units_of f x) (whole_part f d x * one f)
  apart_is =
      rw (result_above f d x v h, result_under f d x v h, above_at f x (negative f x) refl, under_at f x (negative f x) refl)
      (apart_by_sign (units_of f x) (one f) p q (whole_part f d x * one f) (negative f x))

  module _ (w : Near (units_of f x) (whole_part f d x * one f) (one f)) where
    nearest : apart f x (integral f d x) ≤ gap f x p q
    nearest =
        rw (apart_is, gap_is)
        (near_nearest (units_of f x) (whole_part f d x) (one f) (cond (negative f x) p q) (cond (negative f x) q p) w)

    module _ (e : gap f x p q ≡ apart f x (integral f d x)) where
      as_near : distance (units_of f x + cond (negative f x) p q * one f) (cond (negative f x) q p * one f)
          ≡ distance (units_of f x) (whole_part f d x * one f)
      as_near = sym gap_is ∙ e ∙ apart_is

      nearest_away : units_of f x * 2 < whole_part f d x * one f * 2 + one f
          → ((p - q) * one f ≤ units_of f (integral f d x)) × ((q - p) * one f ≤ units_of f (integral f d x))
      nearest_away l =
          let k : (p - q ≤ whole_part f d x) × (q - p ≤ whole_part f d x) =
          away_by_sign (units_of f x) (one f) p q (whole_part f d x) (negative f x)
          (near_away (units_of f x) (whole_part f d x) (one f) (cond (negative f x) p q) (cond (negative f x) q p) w as_near (one_pos f) l) in
          rw (result f d x v h).units (mul-le-mul_right (one f) k.0, mul-le-mul_right (one f) k.1)

      nearest_only : Nearer (units_of f x) (whole_part f d x * one f) (one f)
          → p * one f + under f (integral f d x) ≡ above f (integral f d x) + q * one f
      nearest_only l =
          rw (result_above f d x v h, result_under f d x v h)
          (same_by_sign (units_of f x) (one f) p q (whole_part f d x) (negative f x)
          (near_only (units_of f x) (whole_part f d x) (one f) (cond (negative f x) p q) (cond (negative f x) q p) w as_near l))

module _ (f : Format) (x : ℕ) (v : Valid f) (h : unsigned f x < infinity f) where
  round_near : Near (units_of f x) (whole_part f HalfAway x * one f) (one f)
      × units_of f x * 2 < whole_part f HalfAway x * one f * 2 + one f
  unfolding whole_part
  round_near = half_away_near (negative f x) (units_of f x) (one f) (one_pos f)

  pub round_nearest : (p q : ℕ) → apart f x (integral f HalfAway x) ≤ gap f x p q
  round_nearest p q = nearest f HalfAway x v h p q round_near.0

  -- of the nearest integers the result has the largest magnitude
  pub round_away : (p q : ℕ) → gap f x p q ≡ apart f x (integral f HalfAway x)
      → ((p - q) * one f ≤ units_of f (integral f HalfAway x))
      × ((q - p) * one f ≤ units_of f (integral f HalfAway x))
  round_away p q e = nearest_away f HalfAway x v h p q round_near.0 e round_near.1

  nearbyint_near : Near (units_of f x) (whole_part f HalfEven x * one f) (one f)
      × (whole_part f HalfEven x % 2 ≡ 0 ⊎ Nearer (units_of f x) (whole_part f HalfEven x * one f) (one f))
  unfolding whole_part
  nearbyint_near = half_even_near (negative f x) (units_of f x) (one f) (one_pos f)

  pub nearbyint_nearest : (p q : ℕ) → apart f x (integral f HalfEven x) ≤ gap f x p q
  nearbyint_nearest p q = nearest f HalfEven x v h p q nearbyint_near.0

  -- an integer as near as the result is the result, or the result is even
  pub nearbyint_even : (p q : ℕ) → gap f x p q ≡ apart f x (integral f HalfEven x)
      → p * one f + under f (integral f HalfEven x) ≡ above f (integral f HalfEven x) + q * one f
      ⊎ units_of f (integral f HalfEven x) / one f % 2 ≡ 0
  nearbyint_even p q e =
      ⊎_elim (λ z. inr (even z)) (λ l. inl (nearest_only f HalfEven x v h p q nearbyint_near.0 e l)) nearbyint_near.1
    where
      even : whole_part f HalfEven x % 2 ≡ 0 → units_of f (integral f HalfEven x) / one f % 2 ≡ 0
      even z =
          ap (λ (n : ℕ). n / one f % 2) (result f HalfEven x v h).units
          ∙ ap (λ (n : ℕ). n % 2) (mul-div_cancel (whole_part f HalfEven x) (one_pos f))
          ∙ z
