-- modf's two parts: by class, and for a finite pattern by its exponent field e, as the code splits it. The fraction is what is past the
-- last multiple of one, which the format always holds: of M units of 2 ^ j it keeps the low bits of M. Over every valid format. Assumes
-- nothing.
use mathlib.Core.Path.{◌≡◌, refl, sym, ap, ◌∙◌}
use mathlib.Core.Bool.{Bool, true, false, cond}
use mathlib.Core.Logic.{⊎_elim}
use Prim.Native.Nat.{ℕ, suc, ◌+◌, ◌-◌, ◌*◌, ◌/◌, ◌%◌, ◌^◌, ◌≤◌, ◌<◌}
use native.Mathlib.Nat.{mod-lt, mod-le, mod-eq_of_lt, mul-mod_left, mul-add-mod_self_right, mul_assoc, div-add-mod'}
use native.Mathlib.Omega.{arith}
use lib.Arith.{digits_div}
use lib.Bits.{bit_and, and_mask}
use lib.Pow.{pow_pos, pow_mono, pow-add, mod-mod-pow, ones_split, ones_lt}
use borrow.Author.Tests.{eq-eqb, ne_eqb, lt-ltb, le-ltb, ltb-true, ltb-false}
use Rattle.float_format.specs.Format.{Format, Valid, sign_bit, top_field, infinity, negative, unsigned, signed, is_nan, quieted}
use Rattle.float_format.specs.Number.{magnitude, encode, bias, one, units_of}
use Rattle.float_format.specs.Rounding.{integral}
use Rattle.float_format.specs.Width.{Finite}
use Rattle.float_format.specs.declared.Direction.TheVariants.{TowardZero}
use Rattle.float_format.proofs.Units.{lt_or_ge, three_way, encode-low, encode-magnitude, magnitude-encode, magnitude-low, magnitude_mono, magnitude_cancel, Normal, normal, field_at, Held, held_small, held}
use Rattle.float_format.proofs.Parts.{mod_scale}
use Rattle.float_format.proofs.Patterns.{nan_is, infinite_is, below_sign, signed_parts, signed_lt}
use Rattle.float_format.proofs.Whole.{Rounded, one_at, large}
use Rattle.float_format.proofs.Integral.{integral_nan, integral_infinite, integral_finite, integral_lt, quieted_lt}
use Rattle.float_format.proofs.Sizes.{sizes, rest_below, rest_from, rest_infinite, rest_nan, zero_is}
use Rattle.float_format.proofs.Lead.{encode_normal}
use Rattle.rounding.specs.Shape.{fraction_shift}
use Rattle.rounding.proofs.Shifts.{shift_is}
use Rattle.rounding.proofs.Directions.{trunc_sum, trunc_zero}
use Rattle.splitting.specs.Splitting.{modf_whole, modf_fraction}

-- ---- by class

module _ (f : Format) (x : ℕ) where
  pub whole_trunc : modf_whole f x ≡ integral f TowardZero x
  unfolding modf_whole
  whole_trunc = refl

  pub fraction_of_nan : infinity f < unsigned f x → modf_fraction f x ≡ quieted f x
  unfolding modf_fraction
  fraction_of_nan l = simp (nan_is f x, lt-ltb (infinity f) (unsigned f x) l)

  pub fraction_of_infinity : unsigned f x ≡ infinity f → modf_fraction f x ≡ signed f (negative f x) 0
  unfolding modf_fraction
  fraction_of_infinity e =
      simp (nan_is f x, le-ltb (infinity f) (unsigned f x) (omega arith), infinite_is f x, eq-eqb (unsigned f x) (infinity f) e)

  pub fraction_of_finite : unsigned f x < infinity f
      → modf_fraction f x ≡ signed f (negative f x) (encode f.fraction (units_of f x % one f))
  unfolding modf_fraction
  fraction_of_finite l =
      simp (nan_is f x, le-ltb (infinity f) (unsigned f x) (omega arith), infinite_is f x, ne_eqb (unsigned f x) (infinity f) (omega arith))

  -- what the test for a NaN tells
  pub is_nan_lem : is_nan f x ≡ true → infinity f < unsigned f x
  is_nan_lem e = ltb-true (infinity f) (unsigned f x) (sym (nan_is f x) ∙ e)

  pub is_number : is_nan f x ≡ false → unsigned f x ≤ infinity f
  is_number e = ltb-false (infinity f) (unsigned f x) (sym (nan_is f x) ∙ e)

-- ---- what is past the last multiple of a power of two, the format holds

pub rest_held : (F a w : ℕ) → Held F (magnitude F a % 2 ^ w)
rest_held F a w = ⊎_elim (λ l. low l) (λ g. high (normal F a g)) (lt_or_ge a (2 ^ F))
  where
    low : a < 2 ^ F → Held F (magnitude F a % 2 ^ w)
    low l = held_small F (magnitude F a % 2 ^ w) (omega (arith, mod-le (magnitude F a) (2 ^ w), magnitude-low F a l))

    high : Normal F a → Held F (magnitude F a % 2 ^ w)
    high n = ⊎_elim (λ l. some l) (λ g. none g) (lt_or_ge n.j w)
      where
        some : n.j < w → Held F (magnitude F a % 2 ^ w)
        some l =
            let p : 2 ^ w ≡ 2 ^ (w - n.j) * 2 ^ n.j = ap (λ (i : ℕ). 2 ^ i) (omega arith) ∙ pow-add 2 (w - n.j) n.j in
            let e : magnitude F a % 2 ^ w ≡ n.M % 2 ^ (w - n.j) * 2 ^ n.j =
            ap (λ (u : ℕ). u % 2 ^ w) n.units ∙ ap (λ (q : ℕ). (n.M * 2 ^ n.j) % q) p ∙ mod_scale n.M (2 ^ (w - n.j)) (2 ^ n.j) (pow_pos (w - n.j)) (pow_pos n.j) in
            rw e (held F (n.M % 2 ^ (w - n.j)) n.j (omega (arith, mod-le n.M (2 ^ (w - n.j)), n.hi)))

        none : w ≤ n.j → Held F (magnitude F a % 2 ^ w)
        none g =
            let p : 2 ^ n.j ≡ 2 ^ (n.j - w) * 2 ^ w = ap (λ (i : ℕ). 2 ^ i) (omega arith) ∙ pow-add 2 (n.j - w) w in
            let e : magnitude F a % 2 ^ w ≡ 0 =
            ap (λ (u : ℕ). u % 2 ^ w) (n.units ∙ ap (λ (q : ℕ). n.M * q) p ∙ sym (mul_assoc n.M (2 ^ (n.j - w)) (2 ^ w))) ∙ mul-mod_left (n.M * 2 ^ (n.j - w)) (2 ^ w) in
            rw e (held_small F 0 (omega (arith, pow_pos F)))

-- the fraction of a finite pattern, without its sign: its units are those of x past the last one, and it is no larger than x
pub record Rest (f : Format) (x r : ℕ) : Type 0 where
  pub units : magnitude f.fraction r ≡ units_of f x % one f
  pub within : r ≤ unsigned f x

pub rest : (f : Format) (x : ℕ) → Rest f x (encode f.fraction (units_of f x % one f))
rest f x = go (rest_held f.fraction (unsigned f x) (bias f + f.fraction - 1))
  where
    go : Held f.fraction (units_of f x % one f) → Rest f x (encode f.fraction (units_of f x % one f))
    go h =
        let u : magnitude f.fraction (encode f.fraction (units_of f x % one f)) ≡ units_of f x % one f =
        magnitude-encode f.fraction (units_of f x % one f) h.pattern h.units in
        record { units = u; within = magnitude_cancel f.fraction (omega (arith, mod-le (units_of f x) (one f))) }

-- ---- both parts are patterns of the format

pub whole_lt : (f : Format) (x : ℕ) → Valid f → x < 2 * sign_bit f → modf_whole f x < 2 * sign_bit f
whole_lt f x v p = rw (whole_trunc f x) (integral_lt f TowardZero x v p)

pub fraction_lt : (f : Format) (x : ℕ) → Valid f → x < 2 * sign_bit f → modf_fraction f x < 2 * sign_bit f
fraction_lt f x v p =
    three_way (unsigned f x) (infinity f)
    (λ l. rw (fraction_of_finite f x l) (signed_lt f (encode f.fraction (units_of f x % one f)) (omega (arith, (rest f x).within, below_sign f x)) (negative f x)))
    (λ e. rw (fraction_of_infinity f x e) (signed_lt f 0 (pow_pos (f.exponent + f.fraction)) (negative f x)))
    (λ l. rw (fraction_of_nan f x l) (quieted_lt f x v p))

-- ---- in the code's steps: w and p are the whole part and the fraction that it answers

pub record Answers (f : Format) (x w p : ℕ) : Type 0 where
  pub whole : w ≡ modf_whole f x
  pub fraction : p ≡ modf_fraction f x

-- the largest field: a NaN or an infinity
module _ (f : Format) (x e : ℕ) (p : x < 2 * sign_bit f) (ee : e ≡ unsigned f x / 2 ^ f.fraction) (t : e ≡ top_field f) where
  pub of_nan : (q : ℕ) → q ≡ quieted f x → (x % 2 ^ f.fraction ≡ 0 → ⊥) → Answers f x q q
  of_nan q eq n =
      let l : infinity f < unsigned f x = rest_nan f x (sym ee ∙ t) n in
      record { whole = eq ∙ sym (whole_trunc f x ∙ integral_nan f TowardZero x l); fraction = eq ∙ sym (fraction_of_nan f x l) }

  pub of_infinity : (z : ℕ) → z ≡ x - x % sign_bit f → x % 2 ^ f.fraction ≡ 0 → Answers f x x z
  of_infinity z ez n =
      let l : unsigned f x ≡ infinity f = rest_infinite f x (sym ee ∙ t) n in
      record {
        whole = sym (whole_trunc f x ∙ integral_infinite f TowardZero x l);
        fraction = ez ∙ zero_is f x p ∙ sym (fraction_of_infinity f x l);
      }

-- the sign's weight in units of the field's
record SignField (f : Format) (s : Bool) : Type 0 where
  pub top : ℕ
  pub is : top * 2 ^ f.fraction ≡ cond s (sign_bit f) 0

sign_field : (f : Format) (s : Bool) → SignField f s
sign_field f true = record { top = 2 ^ f.exponent; is = sym (pow-add 2 f.exponent f.fraction) }
sign_field f false = record { top = 0; is = omega arith }

-- the fraction's mask, moved down with the field, keeps the bits below the unit: b is the bias
pub mask_low : (x F b e : ℕ) → b ≤ e → e < b + F → bit_and x ((2 ^ F - 1) / 2 ^ (e - b)) ≡ x % 2 ^ (b + F - e)
mask_low x F b e from upto =
    let s : 2 ^ F - 1 ≡ (2 ^ (b + F - e) - 1) * 2 ^ (e - b) + (2 ^ (e - b) - 1) =
    ap (λ (n : ℕ). 2 ^ n - 1) (omega arith) ∙ ones_split (b + F - e) (e - b) in
    let m : (2 ^ F - 1) / 2 ^ (e - b) ≡ 2 ^ (b + F - e) - 1 =
    ap (λ (n : ℕ). n / 2 ^ (e - b)) s ∙ digits_div (2 ^ (b + F - e) - 1) (ones_lt (e - b)) in
    ap (bit_and x) m ∙ and_mask x (b + F - e)

-- a finite pattern x with the exponent field e
module _ (f : Format) (x e : ℕ) (w : Finite f x e) where
  finite : unsigned f x < infinity f
  finite = rest_below f x e (top_field f) w.field w.finite

  some_bias : 1 ≤ bias f
  some_bias = omega (arith, (sizes f w.word).room.two)

  -- x is all fraction
  pub below_one : (z : ℕ) → z ≡ x - x % sign_bit f → e < bias f → Answers f x z x
  below_one z ez h =
      let m : units_of f x < one f =
      omega (arith, one_at f.fraction (bias f) some_bias, magnitude_mono f.fraction (rest_below f x e (bias f) w.field h)) in
      record {
        whole = ez ∙ trunc_zero f x e (bias f * 2 ^ f.fraction) w refl h ∙ sym (whole_trunc f x);
        fraction = signed_parts f x w.pattern
            ∙ sym (fraction_of_finite f x finite
            ∙ ap (λ (n : ℕ). signed f (negative f x) (encode f.fraction n)) (mod-eq_of_lt m)
            ∙ ap (signed f (negative f x)) (encode-magnitude f.fraction (unsigned f x)));
      }

  -- where nothing is past the last one, the zero of x's sign
  zero_past : (z : ℕ) → z ≡ x - x % sign_bit f → units_of f x % one f ≡ 0 → z ≡ modf_fraction f x
  zero_past z ez n =
      ez ∙ zero_is f x w.pattern
      ∙ sym (fraction_of_finite f x finite
      ∙ ap (λ (m : ℕ). signed f (negative f x) (encode f.fraction m)) n
      ∙ ap (signed f (negative f x)) (encode-low f.fraction 0 (pow_pos f.fraction)))

  -- x is whole
  pub no_fraction : (z : ℕ) → z ≡ x - x % sign_bit f → bias f + f.fraction ≤ e → Answers f x x z
  no_fraction z ez h =
      let r : Rounded TowardZero (negative f x) f.fraction (bias f) (unsigned f x) (unsigned f x) =
      large TowardZero (negative f x) f.fraction (bias f) (unsigned f x) some_bias (rest_from f x e (bias f + f.fraction) w.field h) in
      let none : units_of f x % one f ≡ 0 = ap (λ (n : ℕ). n % one f) r.units ∙ mul-mod_left _ (one f) in
      record {
        whole = sym (whole_trunc f x ∙ integral_finite f TowardZero x (unsigned f x) finite r ∙ sym (signed_parts f x w.pattern));
        fraction = zero_past z ez none;
      }

  -- between: the low bits are those below the unit 2 ^ k, the lowest weight that stands for a whole number
  module _ (low : ℕ) (from : bias f ≤ e) (upto : e < bias f + f.fraction) (el : low ≡ x % 2 ^ (bias f + f.fraction - e)) where
    shift_le : bias f + f.fraction - e ≤ f.fraction
    shift_le = omega arith

    pub low_lt : low < 2 * 2 ^ f.fraction
    low_lt = omega (arith, mod-lt x (pow_pos (bias f + f.fraction - e)), pow_mono shift_le, pow_pos f.fraction)

    pub low_le : low ≤ x
    low_le = omega (arith, mod-le x (2 ^ (bias f + f.fraction - e)))

    -- the sign and the field are multiples of the unit
    low_rest : low ≡ unsigned f x % 2 ^ (bias f + f.fraction - e)
    low_rest =
        let k : ℕ = bias f + f.fraction - e in
        let s : f.exponent + f.fraction ≡ (f.exponent + f.fraction - k) + k = omega (arith, shift_le) in
        el ∙ sym (ap (λ (n : ℕ). x % 2 ^ n % 2 ^ k) s ∙ mod-mod-pow x (f.exponent + f.fraction - k) k)

    low_units : units_of f x % one f ≡ low * 2 ^ (e - 1)
    low_units = go (normal f.fraction (unsigned f x) (omega (arith, rest_from f x e 1 w.field (omega (arith, some_bias)))))
      where
        go : Normal f.fraction (unsigned f x) → units_of f x % one f ≡ low * 2 ^ (e - 1)
        go n =
            let F : ℕ = f.fraction in
            let k : ℕ = bias f + F - e in
            let fe : e ≡ suc n.j = w.field ∙ ap (λ (y : ℕ). y / 2 ^ F) n.is ∙ field_at F n.j n.M n.lo n.hi in
            let o : one f ≡ 2 ^ k * 2 ^ n.j = ap (λ (i : ℕ). 2 ^ i) (omega (arith, fe, some_bias)) ∙ pow-add 2 k n.j in
            let p : 2 ^ F ≡ 2 ^ (F - k) * 2 ^ k = ap (λ (i : ℕ). 2 ^ i) (omega (arith, shift_le)) ∙ pow-add 2 (F - k) k in
            let m : low ≡ n.M % 2 ^ k =
            low_rest ∙ ap (λ (y : ℕ). y % 2 ^ k) (n.is ∙ ap (λ (q : ℕ). n.j * q + n.M) p ∙ ap (λ (q : ℕ). q + n.M) (sym (mul_assoc n.j (2 ^ (F - k)) (2 ^ k))))
            ∙ mul-add-mod_self_right (n.j * 2 ^ (F - k)) (2 ^ k) n.M in
            let j : n.j ≡ e - 1 = omega (arith, fe) in
            ap (λ (y : ℕ). y % one f) n.units ∙ ap (λ (q : ℕ). (n.M * 2 ^ n.j) % q) o ∙ mod_scale n.M (2 ^ k) (2 ^ n.j) (pow_pos k) (pow_pos n.j)
            ∙ ap (λ (q : ℕ). q * 2 ^ n.j) (sym m) ∙ ap (λ (i : ℕ). low * 2 ^ i) j

    cut_off : x - low ≡ modf_whole f x
    cut_off =
        let s : fraction_shift f e ≡ bias f + f.fraction - e = shift_is f e (omega (arith, (sizes f w.word).fraction_lt)) from in
        ap (λ (n : ℕ). x - n) el ∙ trunc_sum f x e (2 ^ (bias f + f.fraction - e)) w (ap (λ (i : ℕ). 2 ^ i) (sym s)) from ∙ sym (whole_trunc f x)

    past : modf_fraction f x ≡ signed f (negative f x) (encode f.fraction (low * 2 ^ (e - 1)))
    past = fraction_of_finite f x finite ∙ ap (λ (n : ℕ). signed f (negative f x) (encode f.fraction n)) low_units

    pub none_past : (z : ℕ) → z ≡ x - x % sign_bit f → low ≡ 0 → Answers f x x z
    none_past z ez n =
        record {
          whole = omega arith ∙ cut_off;
          fraction = zero_past z ez (low_units ∙ omega (arith, ap (λ (m : ℕ). m * 2 ^ (e - 1)) n));
        }

    -- the leading one brought to its place, k places up: x over the fraction's weight is the field, with the sign above it
    pub record Placed (k : ℕ) : Type 0 where
      pub above : suc k ≤ x / 2 ^ f.fraction
      pub answers : Answers f x (x - low) ((x / 2 ^ f.fraction - 1 - k) * 2 ^ f.fraction + low * 2 ^ k)
      pub fits : (x / 2 ^ f.fraction - 1 - k) * 2 ^ f.fraction + low * 2 ^ k < 2 ^ 64

    pub placed : (k : ℕ) → f.fraction < bias f → k ≤ f.fraction → 2 ^ f.fraction ≤ low * 2 ^ k → low * 2 ^ k < 2 * 2 ^ f.fraction → Placed k
    placed k near short lo hi = go (sign_field f (negative f x))
      where
        go : SignField f (negative f x) → Placed k
        go t =
            let F : ℕ = f.fraction in
            let whole-x : x ≡ (t.top + e) * 2 ^ F + unsigned f x % 2 ^ F =
            omega (arith, signed_parts f x w.pattern, t.is, div-add-mod' (unsigned f x) (2 ^ F), ap (λ (n : ℕ). n * 2 ^ F) w.field) in
            let q : x / 2 ^ F ≡ t.top + e = ap (λ (n : ℕ). n / 2 ^ F) whole-x ∙ digits_div (t.top + e) (mod-lt (unsigned f x) (pow_pos F)) in
            let d : x / 2 ^ F - 1 - k ≡ t.top + (e - 1 - k) = omega arith in
            let p : (x / 2 ^ F - 1 - k) * 2 ^ F + low * 2 ^ k ≡ modf_fraction f x =
            ap (λ (n : ℕ). n * 2 ^ F + low * 2 ^ k) d
            ∙ omega (arith, t.is)
            ∙ sym (past ∙ ap (signed f (negative f x)) (encode_normal F low (e - 1) k lo hi (omega arith))) in
            record {
              above = omega arith;
              answers = record { whole = cut_off; fraction = p };
              fits = omega (arith, fraction_lt f x w.word.valid w.pattern, (sizes f w.word).sign_le);
            }
