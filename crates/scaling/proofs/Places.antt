-- ldexp in the code's own steps: a number is its significand m, whose leading one stands in place, and a power of two. Scaled up it keeps
-- m and its field grows; scaled to below the normal numbers, m is divided by a power of two and rounded, once. Over every format that
-- fits a word. Assumes nothing.
use Rattle.std.proofs.Common.{◌≡◌, ℕ, suc, ◌+◌, ◌-◌, ◌*◌, ◌%◌, ◌^◌, ◌<◌, ◌≤◌, Bool, false, ◌⊎◌, ℤ, sym, refl, ap, ◌∙◌, inl, inr, ⊎_elim, mul-le-mul_right, arith, pow_pos, pow_mono}
use lib.Ieee.{up, down}
use Rattle.float_format.specs.Format.{Format, Valid, sign_bit, top_field, infinity, exponent_field, negative, unsigned}
use Rattle.float_format.specs.Number.{magnitude, encode, bias, leading_shift}
use Rattle.float_format.specs.Rounding.{parts, nearest}
use Rattle.float_format.specs.declared.Direction.TheVariants.{HalfEven}
use Rattle.float_format.proofs.Parts.{parts_whole}
use Rattle.float_format.specs.Width.{InWord}
use Rattle.float_format.proofs.Sizes.{sizes, zero_le}
use Rattle.float_format.proofs.Integral.{room}
use Rattle.float_format.proofs.Order.{magnitude_zero, infinity-below_sign}
use Rattle.scaling.specs.Scaling.{scaled, ldexp, ldexp_refusal}
use Rattle.scaling.specs.Position.{raise, lower, Significand, Position}
use Rattle.float_format.proofs.Powers.{swap, powers, gather}
use Rattle.scaling.proofs.Significands.{normal_significand, lifted_significand}
use Rattle.scaling.proofs.Exponents.{up_is, down_is, down_pos, Bits, wrapped}
use Rattle.scaling.proofs.Classes.{in_range, out_of_range}
use Rattle.float_format.proofs.Nearby.{nearest_scale, NearestPattern, rounds_nearest, exact}
use Rattle.float_format.proofs.Shifting.{even_sign, parts_none, far_below, place, below}

-- ---- a significand, scaled

-- the significand m times 2 ^ A / 2 ^ B, as a pattern
module _ (F : ℕ) (s : Bool) (m A B : ℕ) (hF : 1 ≤ F) (lo : 2 ^ F ≤ m) (hi : m < 2 * 2 ^ F) where
  upward : B ≤ A → encode F (nearest F HalfEven s (m * 2 ^ A) (2 ^ B)) ≡ (A - B) * 2 ^ F + m
  upward h =
      let z : F + 0 ≡ F = omega arith in
      let w : parts HalfEven s m (2 ^ 0) ≡ m = ap (λ (y : ℕ). parts HalfEven s y (2 ^ 0)) (omega arith) ∙ parts_whole HalfEven s m (2 ^ 0) (pow_pos 0) in
      place F 0 m s (rw z lo) (rw z hi) A B (omega arith) ∙ ap (λ (k : ℕ). (A + 0 - B) * 2 ^ F + k) w ∙ ap (λ (k : ℕ). k * 2 ^ F + m) (omega arith)

  downward : A < B → encode F (nearest F HalfEven s (m * 2 ^ A) (2 ^ B)) ≡ parts HalfEven s m (2 ^ (B - A))
  downward h = let z : F + 0 ≡ F = omega arith in below F 0 m s (rw z lo) (rw z hi) A B (omega arith)

module _ (f : Format) (x m : ℕ) (n : ℤ) (v : Valid f) (fore back : ℕ) (g : Significand f x m fore back) where
  scaled_as : scaled f x n
      ≡ encode f.fraction (nearest f.fraction HalfEven (negative f x) (m * 2 ^ (fore + raise n)) (2 ^ (lower n + back)))
  unfolding scaled
  scaled_as =
      let u : ℕ = magnitude f.fraction (unsigned f x) in
      let top : u * up n * 2 ^ back ≡ m * 2 ^ (fore + raise n) =
      ap (λ (y : ℕ). u * y * 2 ^ back) (up_is n) ∙ swap u (2 ^ raise n) (2 ^ back) ∙ ap (λ (y : ℕ). y * 2 ^ raise n) g.units ∙ gather m fore (raise n) (fore + raise n) refl in
      let bottom : down n * 2 ^ back ≡ 2 ^ (lower n + back) = ap (λ (y : ℕ). y * 2 ^ back) (down_is n) ∙ powers (lower n) back (lower n + back) refl in
      ap (encode f.fraction)
      (sym (nearest_scale f.fraction HalfEven (negative f x) (u * up n) (down n) (2 ^ back) (down_pos n) (pow_pos back))
      ∙ ap (λ (y : ℕ). nearest f.fraction HalfEven (negative f x) y (down n * 2 ^ back)) top
      ∙ ap (nearest f.fraction HalfEven (negative f x) (m * 2 ^ (fore + raise n))) bottom)

  pub scaled_up : lower n + back ≤ fore + raise n → scaled f x n ≡ (fore + raise n - (lower n + back)) * 2 ^ f.fraction + m
  scaled_up h =
      scaled_as ∙ upward f.fraction (negative f x) m (fore + raise n) (lower n + back) v.some_fraction g.from g.below h

  pub scaled_down : fore + raise n < lower n + back
      → scaled f x n ≡ parts HalfEven (negative f x) m (2 ^ (lower n + back - (fore + raise n)))
  scaled_down h =
      scaled_as ∙ downward f.fraction (negative f x) m (fore + raise n) (lower n + back) v.some_fraction g.from g.below h

-- ---- by the place of the exponent field

-- the largest field is far below a word's end
top_lt : (f : Format) → InWord f → top_field f < 2 ^ 62
top_lt f w = omega (arith, pow_mono {i = f.exponent} {j = 62} (omega (arith, w.narrow, w.valid.some_fraction)), pow_pos f.exponent)

some_top : (f : Format) → InWord f → 2 ≤ top_field f
some_top f w = omega (arith, pow_mono {i = 3} {j = f.exponent} w.valid.some_exponent)

-- fields that no normal number has
abbrev pub Outside : Format → ℕ → Type 0
Outside f t = (t ≡ 0) ⊎ (top_field f ≤ t)

-- d is 1 - t, as a word
pub record Distance (d t : ℕ) : Type 0 where
  pub word : d < 2 ^ 64
  pub sum : (d + t) % 2 ^ 64 ≡ 1

module _ (f : Format) (x m t : ℕ) (n : ℤ) (w : InWord f) (q : Position f x m t n) where
  abbrev ahead : ℕ
  ahead = q.fore + raise n

  abbrev behind : ℕ
  behind = lower n + q.back

  back_lt : q.back < 62
  back_lt = omega (arith, q.significand.back_short, (sizes f w).fraction_lt)

  fore_lt : q.fore < 2 ^ 62
  fore_lt = omega (arith, q.significand.fore_short, top_lt f w)

  pub place_normal : 0 < t → t < top_field f → scaled f x n ≡ (t - 1) * 2 ^ f.fraction + m
  place_normal h l = ⊎_elim at (λ e. absurd (omega (arith, top_lt f w, back_lt, q.lower_le))) q.place
    where
      at : t + behind ≡ suc ahead → scaled f x n ≡ (t - 1) * 2 ^ f.fraction + m
      at e =
          scaled_up f x m n w.valid q.fore q.back q.significand (omega arith)
          ∙ ap (λ (y : ℕ). y * 2 ^ f.fraction + m) (omega arith)

  module _ (o : Outside f t) (d : ℕ) (g : Distance d t) where
    -- from 0 down, d is how far the significand moves
    down_by : behind ≡ ahead + d → 0 < d → scaled f x n ≡ parts HalfEven (negative f x) m (2 ^ d)
    down_by e some =
        scaled_down f x m n w.valid q.fore q.back q.significand (omega arith)
        ∙ ap (λ (y : ℕ). parts HalfEven (negative f x) m (2 ^ y)) (omega arith)

    total : (d + t ≡ 1) ⊎ (d + t ≡ 2 ^ 64 + 1)
    total = ⊎_elim (λ e. inl (sym e ∙ g.sum)) (λ e. inr (e ∙ ap (λ (y : ℕ). 2 ^ 64 + y) g.sum)) (wrapped (d + t) (omega (arith, g.word, q.word)))

    pub some_distance : 0 < d
    some_distance = ⊎_elim (λ e. ⊎_elim (λ z. omega arith) (λ h. omega (arith, some_top f w)) o) (λ e. omega (arith, q.word)) total

    near : d ≤ f.fraction + 1 → behind ≡ ahead + d
    near h =
        ⊎_elim (λ s. ⊎_elim (λ e. first e s) (λ e. absurd (omega (arith, back_lt, q.lower_le))) q.place)
        (λ s. ⊎_elim (λ e. absurd (omega (arith, (sizes f w).fraction_lt, fore_lt, q.raise_lt))) (λ e. omega arith) q.place) total
      where
        first : t + behind ≡ suc ahead → d + t ≡ 1 → behind ≡ ahead + d
        first e s = ⊎_elim (λ z. omega arith) (λ h'. absurd (omega (arith, some_top f w))) o

    pub place_below : d ≤ f.fraction + 1 → scaled f x n ≡ parts HalfEven false m (2 ^ d)
    place_below h = down_by (near h) some_distance ∙ even_sign (negative f x) false m (2 ^ d)

    -- farther, by the sign of n
    module _ (far : f.fraction + 1 < d) where
      far_total : d + t ≡ 2 ^ 64 + 1
      far_total = ⊎_elim (λ e. absurd (omega (arith, w.valid.some_fraction))) (λ e. e) total

      pub place_none : raise n ≡ 0 → 0 < lower n → scaled f x n ≡ 0
      place_none z some = ⊎_elim (λ e. absurd (no e)) (λ e. none (omega (arith, far_total))) q.place
        where
          no : t + behind ≡ suc ahead → ⊥
          no e = ⊎_elim (λ s. omega (arith, far_total, g.word)) (λ s. omega (arith, q.significand.fore_short)) o

          none : behind ≡ ahead + d → scaled f x n ≡ 0
          none e =
              down_by e some_distance
              ∙ parts_none (negative f x) m (2 ^ d) (far_below f.fraction m d q.significand.below (omega arith))

      pub place_above : lower n ≡ 0 → infinity f ≤ scaled f x n
      place_above z = ⊎_elim at (λ e. absurd (omega (arith, far_total, q.significand.back_short))) q.place
        where
          at : t + behind ≡ suc ahead → infinity f ≤ scaled f x n
          at e =
              let h : top_field f ≤ t = ⊎_elim (λ s. absurd (omega (arith, far_total, g.word))) (λ s. s) o in
              let k : ℕ = ahead - behind in
              let r : scaled f x n ≡ k * 2 ^ f.fraction + m = scaled_up f x m n w.valid q.fore q.back q.significand (omega (arith, some_top f w)) in
              omega (arith, mul-le-mul_right {m = top_field f} {n = suc k} (2 ^ f.fraction) (omega (arith, some_top f w)))

-- ---- the code's answers

-- of all patterns the nearest
pub scaled-nearest : (f : Format) (x : ℕ) (n : ℤ) → Valid f
    → NearestPattern f.fraction (magnitude f.fraction (unsigned f x) * up n) (down n) (scaled f x n)
unfolding scaled
scaled-nearest f x n v =
    rounds_nearest f.fraction (negative f x) (magnitude f.fraction (unsigned f x) * up n) (down n) v.some_fraction (down_pos n)

-- a number of units that the format holds
pub scaled_exact : (f : Format) (x : ℕ) (n : ℤ) (a : ℕ) → Valid f
    → magnitude f.fraction (unsigned f x) * up n ≡ magnitude f.fraction a * down n → scaled f x n ≡ a
scaled_exact f x n a v e =
    exact f.fraction _ (down n) _ a (down_pos n) (scaled-nearest f x n v) e

pub zero_answer : (f : Format) (x : ℕ) (n : ℤ) → Valid f → x < 2 * sign_bit f → unsigned f x ≡ 0
    → (x ≡ ldexp f x n) × (0 ≡ ldexp_refusal f x n)
zero_answer f x n v p e =
    let z : magnitude f.fraction (unsigned f x) ≡ 0 = ap (magnitude f.fraction) e ∙ magnitude_zero f.fraction in
    let c : magnitude f.fraction (unsigned f x) * up n ≡ magnitude f.fraction 0 * down n =
    ap (λ (y : ℕ). y * up n) z ∙ omega arith ∙ sym (ap (λ (y : ℕ). y * down n) (magnitude_zero f.fraction)) in
    let big : 0 < infinity f = omega (arith, (room f (bias f) v refl).whole, pow_pos f.fraction) in
    let a : (x - x % sign_bit f + 0 ≡ ldexp f x n) × (0 ≡ ldexp_refusal f x n) = in_range f x n (omega arith) p 0 (scaled_exact f x n 0 v c) big in
    (omega (arith, e) ∙ a.0, a.1)

-- a normal answer is below infinity
place_fits : (f : Format) (m t : ℕ) → m < 2 * 2 ^ f.fraction → 0 < t → t < top_field f → (t - 1) * 2 ^ f.fraction + m < infinity f
place_fits f m t h l g = omega (arith, mul-le-mul_right {m = suc (suc (t - 1))} {n = top_field f} (2 ^ f.fraction) (omega arith))

-- where the code puts a number together, from the zero of x's sign
module _ (f : Format) (x m t : ℕ) (n : ℤ) (zero : ℕ) (w : InWord f) (p : x < 2 * sign_bit f) (q : Position f x m t n) (ez : zero ≡ x - x % sign_bit f) where
  abbrev pub Answered : ℕ → ℕ → Type 0
  Answered word refusal = (word ≡ ldexp f x n) × (refusal ≡ ldexp_refusal f x n) × (word < 2 * sign_bit f)

  zero_most : zero ≤ sign_bit f
  zero_most = omega (arith, zero_le f x p)

  placed_at : (r : ℕ) → r < infinity f → scaled f x n ≡ r → Answered (zero + r) 0
  placed_at r l e =
      let a : (x - x % sign_bit f + r ≡ ldexp f x n) × (0 ≡ ldexp_refusal f x n) = in_range f x n q.significand.finite p r e l in
      (ap (λ (y : ℕ). y + r) ez ∙ a.0, a.1, omega (arith, zero_most, infinity-below_sign f))

  pub placed_normal : (u : ℕ) → u ≡ 2 ^ f.fraction → 0 < t → t < top_field f → Answered (zero + ((t - 1) * u + m)) 0
  placed_normal u eu h l =
      rw eu (placed_at ((t - 1) * 2 ^ f.fraction + m) (place_fits f m t q.significand.below h l) (place_normal f x m t n w q h l))

  module _ (o : Outside f t) (d : ℕ) (g : Distance d t) where
    some_infinity : 2 ^ f.fraction < infinity f
    some_infinity =
        omega (arith, mul-le-mul_right {m = 2} {n = top_field f} (2 ^ f.fraction) (some_top f w), pow_pos f.fraction)

    pub placed_below : (r : ℕ) → r ≡ parts HalfEven false m (2 ^ d) → r ≤ 2 ^ f.fraction → d ≤ f.fraction + 1 → Answered (zero + r) 0
    placed_below r er few h = placed_at r (omega (arith, some_infinity)) (place_below f x m t n w q o d g h ∙ sym er)

    pub placed_none : f.fraction + 1 < d → raise n ≡ 0 → 0 < lower n → Answered zero 0
    placed_none far z some =
        let a : Answered (zero + 0) 0 = placed_at 0 (omega (arith, some_infinity)) (place_none f x m t n w q o d g far z some) in
        (omega arith ∙ a.0, a.1, omega (arith, a.2))

    pub placed_above : (i : ℕ) → i ≡ infinity f → f.fraction + 1 < d → lower n ≡ 0 → Answered (zero + i) 3
    placed_above i ei far z =
        let a : (x - x % sign_bit f + infinity f ≡ ldexp f x n) × (3 ≡ ldexp_refusal f x n) = out_of_range f x n q.significand.finite p (place_above f x m t n w q o d g far z) in
        (rw (ez, ei) a.0, a.1, omega (arith, zero_most, infinity-below_sign f))

-- where the code finds the significand: w is the word that holds n
module _ (f : Format) (x w : ℕ) (n : ℤ) (b : Bits n w) (i : InWord f) where
  pub normal_position : (e u t : ℕ) → e ≡ exponent_field f x → 0 < e → e < top_field f → u ≡ 2 ^ f.fraction → t ≡ (w + e) % 2 ^ 64
      → t < 2 ^ 64 → Position f x (u + x % u) t n
  normal_position e u t ee some l eu et word =
      record {
        fore = e - 1;
        back = 0;
        significand = rw eu (normal_significand f x e ee some l);
        raise_lt = b.raise_lt;
        lower_le = b.lower_le;
        word = word;
        place = at;
      }
    where
      e_lt : e < 2 ^ 62
      e_lt = omega (arith, l, top_lt f i)

      at : (t + (lower n + 0) ≡ suc (e - 1 + raise n)) ⊎ (t + (lower n + 0) ≡ 2 ^ 64 + suc (e - 1 + raise n))
      at =
          ⊎_elim (λ s. ⊎_elim (λ v. inl (omega arith)) (λ v. inr (omega arith)) b.is)
          (λ s. ⊎_elim (λ v. absurd (omega (arith, e_lt, b.raise_lt))) (λ v. inl (omega arith)) b.is)
          (wrapped (w + e) (omega (arith, b.below, e_lt)))

  pub subnormal_position : (a k q v t : ℕ) → a ≡ unsigned f x → 0 < a → a < 2 ^ f.fraction → k ≤ f.fraction
      → k ≡ leading_shift f.fraction a → q ≡ 2 ^ k → v ≡ (w + 1) % 2 ^ 64 → (t + k) % 2 ^ 64 ≡ v → t < 2 ^ 64
      → Position f x (a * q) t n
  subnormal_position a k q v t ea some low short ek eq ev et word =
      record {
        fore = 0;
        back = k;
        significand = rw eq (lifted_significand f x a k i ea some low short ek);
        raise_lt = b.raise_lt;
        lower_le = b.lower_le;
        word = word;
        place = at (wrapped (w + 1) (omega (arith, b.below))) (wrapped (t + k) (omega (arith, word, k_lt)));
      }
    where
      k_lt : k < 62
      k_lt = omega (arith, short, (sizes f i).fraction_lt)

      -- the two sums may each pass the end of a word
      at : ((w + 1) % 2 ^ 64 ≡ w + 1) ⊎ (w + 1 ≡ 2 ^ 64 + (w + 1) % 2 ^ 64) → ((t + k) % 2 ^ 64 ≡ t + k) ⊎ (t + k ≡ 2 ^ 64 + (t + k) % 2 ^ 64)
          → (t + (lower n + k) ≡ suc (0 + raise n)) ⊎ (t + (lower n + k) ≡ 2 ^ 64 + suc (0 + raise n))
      at (inl up) (inl down) = ⊎_elim (λ v. inl (omega arith)) (λ v. inr (omega arith)) b.is
      at (inl up) (inr down) = ⊎_elim (λ v. inr (omega arith)) (λ v. absurd (omega (arith, k_lt, b.lower_le))) b.is
      at (inr up) (inl down) = ⊎_elim (λ v. absurd (omega (arith, b.raise_lt))) (λ v. inl (omega arith)) b.is
      at (inr up) (inr down) = ⊎_elim (λ v. absurd (omega (arith, b.raise_lt))) (λ v. inr (omega arith)) b.is
