-- fmod by the classes of its operands: a is x without its sign, b is y without it. Over every format. Assumes nothing.
use mathlib.Core.Path.{◌≡◌, refl, sym, ap, ap₂, ◌∙◌}
use mathlib.Core.Bool.{Bool, true, false, ◌&&◌, ◌||◌, cond}
use mathlib.Core.Logic.{◌⊎◌, inl, inr, ⊎_elim}
use Prim.Native.Nat.{ℕ, ◌+◌, ◌-◌, ◌*◌, ◌/◌, ◌%◌, ◌^◌, ◌≤◌, ◌<◌}
use native.Mathlib.Nat.{mod-eq_of_lt, mod-lt, le-div_iff_mul-le, div-eq_of_lt}
use native.Mathlib.Omega.{arith}
use lib.Dec.{leb, ltb, eqb}
use lib.Pow.{pow_pos}
use borrow.Author.Tests.{eq-eqb, ne_eqb, lt-ltb, le-ltb, lt-leb, leb-false, eqb-false, ltb-true}
use Rattle.float_format.specs.Format.{Format, sign_bit, infinity, default_nan, negative, unsigned, signed, is_nan, is_infinite, is_zero, quieted}
use Rattle.float_format.specs.Number.{magnitude, encode, units_of}
use Rattle.float_format.specs.Width.{InWord}
use Rattle.float_format.proofs.Units.{lt_or_ge, magnitude-low, magnitude_mono, encode-low, encode-magnitude}
use Rattle.float_format.proofs.Patterns.{below_sign, nan_is, infinite_is, signed_parts}
use Rattle.remainder.specs.Remainder.{fmod, fmod_refusal, no_remainder}
use Rattle.float_format.proofs.Sizes.{zero_is as signed-zero, zero_le}
use Rattle.remainder.specs.Shape.{is_special, scale_of, are_units, Ordinary, Left}

-- ---- classes

module _ (f : Format) (x : ℕ) where
  pub zero_is : is_zero f x ≡ eqb (unsigned f x) 0
  unfolding is_zero
  zero_is = ⊎_elim low high (lt_or_ge (unsigned f x) (2 ^ f.fraction))
    where
      low : unsigned f x < 2 ^ f.fraction → (eqb (unsigned f x / 2 ^ f.fraction) 0 && eqb (unsigned f x % 2 ^ f.fraction) 0) ≡ eqb (unsigned f x) 0
      low l = simp (eq-eqb (unsigned f x / 2 ^ f.fraction) 0 (div-eq_of_lt l), mod-eq_of_lt l)

      high : 2 ^ f.fraction ≤ unsigned f x → (eqb (unsigned f x / 2 ^ f.fraction) 0 && eqb (unsigned f x % 2 ^ f.fraction) 0) ≡ eqb (unsigned f x) 0
      high g =
          let q : 1 ≤ unsigned f x / 2 ^ f.fraction = (le-div_iff_mul-le (pow_pos f.fraction)).1 (omega arith) in
          simp (ne_eqb (unsigned f x / 2 ^ f.fraction) 0 (omega arith), ne_eqb (unsigned f x) 0 (omega (arith, pow_pos f.fraction)))

  pub is_nan_lem : infinity f < unsigned f x → is_nan f x ≡ true
  is_nan_lem l = nan_is f x ∙ lt-ltb (infinity f) (unsigned f x) l

  pub no_nan : unsigned f x ≤ infinity f → is_nan f x ≡ false
  no_nan l = nan_is f x ∙ le-ltb (infinity f) (unsigned f x) l

  pub is_infinite_lem : unsigned f x ≡ infinity f → is_infinite f x ≡ true
  is_infinite_lem e = infinite_is f x ∙ eq-eqb (unsigned f x) (infinity f) e

  pub not_infinite : unsigned f x < infinity f → is_infinite f x ≡ false
  not_infinite l = infinite_is f x ∙ ne_eqb (unsigned f x) (infinity f) (omega arith)

  pub is_zero_lem : unsigned f x ≡ 0 → is_zero f x ≡ true
  is_zero_lem e = zero_is ∙ eq-eqb (unsigned f x) 0 e

  pub not_zero : 0 < unsigned f x → is_zero f x ≡ false
  not_zero l = zero_is ∙ ne_eqb (unsigned f x) 0 (omega arith)

-- ---- the five cases, each with its refusal

pub record Answers (f : Format) (x y word refusal : ℕ) : Type 0 where
  pub is : fmod f x y ≡ word
  pub refuses : fmod_refusal f x y ≡ refusal

pub different : {P : Type 0} → true ≡ false → P
different e =
    let never : ◌≡◌ {A = ℕ} 0 1 = cc in
    absurd (omega arith)

pub either : (b d : Bool) → (b ≡ true) ⊎ (d ≡ true) → (b || d) ≡ true
either true d h = refl
either false d (inl e) = different (sym e)
either false d (inr e) = e

both : (b d : Bool) → (b && d) ≡ true → (b ≡ true) × (d ≡ true)
both true d e = (refl, e)
both false d e = different (sym e)

module _ (f : Format) (x y : ℕ) where
  pub nan_first : infinity f < unsigned f x → Answers f x y (quieted f x) 0
  unfolding fmod fmod_refusal
  nan_first l = record { is = simp (is_nan_lem f x l); refuses = simp (is_nan_lem f x l) }

  module _ (hx : unsigned f x ≤ infinity f) where
    pub nan_second : infinity f < unsigned f y → Answers f x y (quieted f y) 0
    unfolding fmod fmod_refusal
    nan_second l = record { is = simp (no_nan f x hx, is_nan_lem f y l); refuses = simp (no_nan f x hx, is_nan_lem f y l) }

    module _ (hy : unsigned f y ≤ infinity f) where
      without : (unsigned f x ≡ infinity f) ⊎ (unsigned f y ≡ 0) → no_remainder f x y ≡ true
      without (inl e) = either (is_infinite f x) (is_zero f y) (inl (is_infinite_lem f x e))
      without (inr e) = either (is_infinite f x) (is_zero f y) (inr (is_zero_lem f y e))

      pub no_remainder_lem : (unsigned f x ≡ infinity f) ⊎ (unsigned f y ≡ 0) → Answers f x y (default_nan f) 2
      unfolding fmod fmod_refusal
      no_remainder_lem s =
          record { is = simp (no_nan f x hx, no_nan f y hy, without s); refuses = simp (no_nan f x hx, no_nan f y hy, without s) }

  module _ (hx : unsigned f x < infinity f) where
    pub infinite_divisor : unsigned f y ≡ infinity f → Answers f x y x 0
    unfolding fmod fmod_refusal
    infinite_divisor e =
        let nx : is_nan f x ≡ false = no_nan f x (omega arith) in
        let ny : is_nan f y ≡ false = no_nan f y (omega arith) in
        let ix : is_infinite f x ≡ false = not_infinite f x hx in
        let zy : is_zero f y ≡ false = not_zero f y (omega arith) in
        record { is = simp (nx, ny, ix, zy, is_infinite_lem f y e); refuses = simp (nx, ny, ix, zy) }

    pub finite_operands : unsigned f y < infinity f → 0 < unsigned f y
        → Answers f x y (signed f (negative f x) (encode f.fraction (magnitude f.fraction (unsigned f x) % magnitude f.fraction (unsigned f y)))) 0
    unfolding fmod fmod_refusal
    finite_operands hy p =
        let nx : is_nan f x ≡ false = no_nan f x (omega arith) in
        let ny : is_nan f y ≡ false = no_nan f y (omega arith) in
        let ix : is_infinite f x ≡ false = not_infinite f x hx in
        let zy : is_zero f y ≡ false = not_zero f y p in
        record { is = simp (nx, ny, ix, zy, not_infinite f y hy); refuses = simp (nx, ny, ix, zy) }

-- ---- the code's test for all but the last

module _ (f : Format) (x y : ℕ) where
  pub special_last : is_special f x y ≡ true → unsigned f x < infinity f → unsigned f y ≤ infinity f → (unsigned f y ≡ 0 → ⊥)
      → unsigned f y ≡ infinity f
  special_last s hx hy nz = ⊎_elim (λ l. never l) (λ g. omega arith) (lt_or_ge (unsigned f y) (infinity f))
    where
      never : unsigned f y < infinity f → unsigned f y ≡ infinity f
      never l =
          let z : is_special f x y ≡ false = simp (lt-leb (infinity f) (unsigned f x) hx, lt-leb (infinity f) (unsigned f y) l, ne_eqb (unsigned f y) 0 nz) in
          different (sym s ∙ z)

  pub finite_nonzero : is_special f x y ≡ false → (unsigned f x < infinity f) × (unsigned f y < infinity f) × (0 < unsigned f y)
  finite_nonzero s =
      go (leb (infinity f) (unsigned f x)) (leb (infinity f) (unsigned f y)) (eqb (unsigned f y) 0) refl refl refl s
    where
      go : (i j k : Bool) → leb (infinity f) (unsigned f x) ≡ i → leb (infinity f) (unsigned f y) ≡ j → eqb (unsigned f y) 0 ≡ k
          → (i || j || k) ≡ false → (unsigned f x < infinity f) × (unsigned f y < infinity f) × (0 < unsigned f y)
      go false false false ei ej ek e =
          (leb-false (infinity f) (unsigned f x) ei, leb-false (infinity f) (unsigned f y) ej, omega (arith, eqb-false (unsigned f y) 0 ek))
      go true j k ei ej ek e = different e
      go false true k ei ej ek e = different e
      go false false true ei ej ek e = different e

  pub ordinary : InWord f → 19 ≤ f.fraction → f.fraction ≤ 52 → x < 2 * sign_bit f → is_special f x y ≡ false → Ordinary f x y
  ordinary w least most p s =
      let h : (unsigned f x < infinity f) × (unsigned f y < infinity f) × (0 < unsigned f y) = finite_nonzero s in
      record { word = w; least = least; most = most; pattern = p; finite_x = h.0; finite_y = h.1; nonzero = h.2 }

  -- x itself, where it is the smaller: t is the code's test
  pub smaller_returns : {t : Bool} → Ordinary f x y → t ≡ ltb (unsigned f x) (unsigned f y) → t ≡ true
      → (x ≡ fmod f x y) × (0 ≡ fmod_refusal f x y)
  smaller_returns o et e =
      let l : unsigned f x < unsigned f y = ltb-true (unsigned f x) (unsigned f y) (sym et ∙ e) in
      let a : Answers f x y _ 0 = finite_operands f x y o.finite_x o.finite_y o.nonzero in
      let m : units_of f x % units_of f y ≡ units_of f x = mod-eq_of_lt (magnitude_mono f.fraction l) in (
        signed_parts f x o.pattern
            ∙ ap (signed f (negative f x)) (sym (ap (encode f.fraction) m ∙ encode-magnitude f.fraction (unsigned f x)))
            ∙ sym a.is,
        sym a.refuses,
      )

  -- an answer of the code: the word v, and the refusal beside it
  pub answered : {word refusal : ℕ} (v : ℕ) → Answers f x y word refusal → v ≡ word → v < 2 * sign_bit f
      → (v ≡ fmod f x y) × (refusal ≡ fmod_refusal f x y) × (v < 2 * sign_bit f)
  answered v a e l = (e ∙ sym a.is, sym a.refuses, l)

  -- the last case of the code: x's sign, and the pattern r of what is left
  pub left_is : {left : ℕ} (r : ℕ) → Ordinary f x y → Left f x y left → r ≡ encode f.fraction (left * 2 ^ scale_of f.fraction (unsigned f y))
      → x - x % sign_bit f + r ≡ fmod f x y
  left_is {left} r o w e =
      ap (λ (n : ℕ). n + r) (signed-zero f x o.pattern)
      ∙ ap (λ (n : ℕ). cond (negative f x) (sign_bit f) 0 + 0 + n) (e ∙ ap (encode f.fraction) w.units)
      ∙ omega arith
      ∙ sym (finite_operands f x y o.finite_x o.finite_y o.nonzero).is

  pub left_refuses : Ordinary f x y → 0 ≡ fmod_refusal f x y
  left_refuses o = sym (finite_operands f x y o.finite_x o.finite_y o.nonzero).refuses

  -- Where both are subnormal or zero, the patterns without the signs are the numbers of units, and what is left of them is a pattern too.
  pub units_left : Ordinary f x y → are_units f x y ≡ true
      → (x - x % sign_bit f + unsigned f x % unsigned f y ≡ fmod f x y) × (x - x % sign_bit f + unsigned f x % unsigned f y < 2 * sign_bit f)
  units_left o u =
      let t : (ltb (unsigned f x) (2 ^ f.fraction) ≡ true) × (ltb (unsigned f y) (2 ^ f.fraction) ≡ true) = both _ _ u in
      let lx : unsigned f x < 2 ^ f.fraction = ltb-true (unsigned f x) (2 ^ f.fraction) t.0 in
      let ly : unsigned f y < 2 ^ f.fraction = ltb-true (unsigned f y) (2 ^ f.fraction) t.1 in
      let l : unsigned f x % unsigned f y < unsigned f y = mod-lt (unsigned f x) o.nonzero in
      let m : units_of f x % units_of f y ≡ unsigned f x % unsigned f y =
      ap₂ ◌%◌ (magnitude-low f.fraction (unsigned f x) lx) (magnitude-low f.fraction (unsigned f y) ly) in
      let e : encode f.fraction (units_of f x % units_of f y) ≡ unsigned f x % unsigned f y =
      ap (encode f.fraction) m ∙ encode-low f.fraction (unsigned f x % unsigned f y) (omega arith) in (
        ap (λ (n : ℕ). n + unsigned f x % unsigned f y) (signed-zero f x o.pattern)
            ∙ ap (λ (n : ℕ). cond (negative f x) (sign_bit f) 0 + 0 + n) (sym e)
            ∙ omega arith
            ∙ sym (finite_operands f x y o.finite_x o.finite_y o.nonzero).is,
        omega (arith, zero_le f x o.pattern, below_sign f y),
      )
