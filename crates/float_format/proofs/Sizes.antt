-- What code over an open width knows: the sizes that it computes with all fit a word, the exponent field tells where a pattern lies, and
-- one comparison tells the sign. Over every format that fits a word. Assumes nothing.
use mathlib.Core.Path.{◌≡◌, refl, sym, ap, ◌∙◌}
use mathlib.Core.Bool.{Bool, true, false}
use mathlib.Core.Logic.{⊎_elim}
use Prim.Native.Nat.{ℕ, suc, ◌+◌, ◌-◌, ◌*◌, ◌/◌, ◌%◌, ◌^◌, ◌≤◌, ◌<◌}
use native.Mathlib.Nat.{div-lt_iff_lt-mul, le-div_iff_mul-le, lt_of_lt_of_le, le_of_eq, pow-suc, div-add-mod', mod-le}
use native.Mathlib.Omega.{arith}
use lib.Pow.{pow_pos, pow_mono, pow-add, suc_ones, mod-mod-pow}
use borrow.Author.Tests.{le-leb, lt-leb}
use Rattle.float_format.specs.Format.{Format, sign_bit, top_field, infinity, exponent_field, negative, unsigned, signed}
use Rattle.float_format.specs.Number.{bias}
use Rattle.float_format.specs.Width.{InWord}
use Rattle.float_format.proofs.Units.{lt_or_ge}
use Rattle.float_format.proofs.Patterns.{below_sign, signed_parts}
use Rattle.float_format.proofs.Integral.{Room, room}

-- the sizes that the code computes with all fit a word
pub record Sizes (f : Format) : Type 0 where
  pub room : Room f (bias f)
  pub fraction_lt : f.fraction < 62
  pub sign_le : sign_bit f ≤ 2 ^ 63
  -- the pattern of one, and the fraction's weight past it, are half of the sign's
  pub one_half : (bias f * 2 ^ f.fraction + 2 ^ f.fraction) * 2 ≡ sign_bit f
  pub bias_lt : bias f < 2 ^ 62
  pub top_lt : top_field f < 2 ^ 63

pub sizes : (f : Format) → InWord f → Sizes f
sizes f w =
    let rm : Room f (bias f) = room f (bias f) w.valid refl in
    let e3 : 3 ≤ f.exponent = w.valid.some_exponent in
    let n : f.exponent + f.fraction < 64 = w.narrow in
    let f1 : 1 ≤ f.fraction = w.valid.some_fraction in
    record {
      room = rm;
      fraction_lt = omega arith;
      sign_le = pow_mono {i = f.exponent + f.fraction} {j = 63} (omega arith);
      one_half = half (bias f) (f.exponent - 1) (omega (arith, rm.two)) (omega arith);
      bias_lt = omega (arith, pow_mono {i = f.exponent - 1} {j = 62} (omega arith), pow_pos (f.exponent - 1));
      top_lt = omega (arith, pow_mono {i = f.exponent} {j = 63} (omega arith), pow_pos f.exponent);
    }
  where
    half : (b E : ℕ) → suc b ≡ 2 ^ E → suc E ≡ f.exponent → (b * 2 ^ f.fraction + 2 ^ f.fraction) * 2 ≡ sign_bit f
    half b E eb ee =
        let t : b * 2 ^ f.fraction + 2 ^ f.fraction ≡ 2 ^ E * 2 ^ f.fraction = suc_times b (2 ^ f.fraction) ∙ ap (λ (n : ℕ). n * 2 ^ f.fraction) eb in
        let s : 2 ^ (E + f.fraction) * 2 ≡ 2 ^ suc (E + f.fraction) = sym (pow-suc 2 (E + f.fraction)) in
        ap (λ (n : ℕ). n * 2) (t ∙ sym (pow-add 2 E f.fraction)) ∙ s ∙ ap (λ (n : ℕ). 2 ^ n) (omega arith)
      where
        suc_times : (n p : ℕ) → n * p + p ≡ suc n * p
        suc_times n p = omega arith

-- ---- the exponent field

pub field_le : (f : Format) (x : ℕ) → exponent_field f x ≤ top_field f
field_le f x =
    let fits : unsigned f x < 2 ^ f.exponent * 2 ^ f.fraction = lt_of_lt_of_le (below_sign f x) (le_of_eq (pow-add 2 f.exponent f.fraction)) in
    let q : unsigned f x / 2 ^ f.fraction < 2 ^ f.exponent = (div-lt_iff_lt-mul (pow_pos f.fraction)).1 fits in
    omega (arith, suc_ones f.exponent)

-- a pattern is the zero of its sign, its exponent field and its fraction
pub fields_apart : (f : Format) (x : ℕ) → x ≡ x - x % sign_bit f + (exponent_field f x * 2 ^ f.fraction + x % 2 ^ f.fraction)
fields_apart f x =
    let m : unsigned f x % 2 ^ f.fraction ≡ x % 2 ^ f.fraction = mod-mod-pow x f.exponent f.fraction in
    omega (arith, div-add-mod' (unsigned f x) (2 ^ f.fraction), mod-le x (sign_bit f))

-- it tells on which side of 2 ^ F times a number n the rest of the pattern lies
module _ (f : Format) (x e n : ℕ) (ee : e ≡ exponent_field f x) where
  pub rest_below : e < n → unsigned f x < n * 2 ^ f.fraction
  rest_below h = (div-lt_iff_lt-mul (pow_pos f.fraction)).0 (omega arith)

  pub rest_from : n ≤ e → n * 2 ^ f.fraction ≤ unsigned f x
  rest_from h = (le-div_iff_mul-le (pow_pos f.fraction)).0 (omega arith)

  pub field_from : n * 2 ^ f.fraction ≤ unsigned f x → n ≤ e
  field_from h = rw ee ((le-div_iff_mul-le (pow_pos f.fraction)).1 h)

-- the largest field: an infinity's fraction is 0, a NaN's is not
module _ (f : Format) (x : ℕ) (h : exponent_field f x ≡ top_field f) where
  split : infinity f + x % 2 ^ f.fraction ≡ unsigned f x
  split =
      let m : unsigned f x % 2 ^ f.fraction ≡ x % 2 ^ f.fraction = mod-mod-pow x f.exponent f.fraction in
      omega (arith, div-add-mod' (unsigned f x) (2 ^ f.fraction), ap (λ (n : ℕ). n * 2 ^ f.fraction) h)

  pub from_infinity : infinity f ≤ unsigned f x
  from_infinity = omega (arith, split)

  pub rest_infinite : x % 2 ^ f.fraction ≡ 0 → unsigned f x ≡ infinity f
  rest_infinite z = omega (arith, split)

  pub rest_nan : (x % 2 ^ f.fraction ≡ 0 → ⊥) → infinity f < unsigned f x
  rest_nan n = omega (arith, split)

-- ---- the sign, as the code tests it

module _ (f : Format) (x : ℕ) (p : x < 2 * sign_bit f) where
  pub minus : sign_bit f ≤ x → (negative f x ≡ true) × (x ≡ sign_bit f + unsigned f x)
  minus h =
      let n : negative f x ≡ true = le-leb (sign_bit f) x h in
      (n, signed_parts f x p ∙ ap (λ (s : Bool). signed f s (unsigned f x)) n)

  pub plus : x < sign_bit f → (negative f x ≡ false) × (x ≡ unsigned f x)
  plus h =
      let n : negative f x ≡ false = lt-leb (sign_bit f) x h in
      (n, signed_parts f x p ∙ ap (λ (s : Bool). signed f s (unsigned f x)) n ∙ omega arith)

  pub zero_is : x - x % sign_bit f ≡ signed f (negative f x) 0
  zero_is = ⊎_elim (λ l. positive (plus l)) (λ g. negated (minus g)) (lt_or_ge x (sign_bit f))
    where
      positive : (negative f x ≡ false) × (x ≡ unsigned f x) → x - x % sign_bit f ≡ signed f (negative f x) 0
      positive h = omega (arith, h.1) ∙ sym (ap (λ (s : Bool). signed f s 0) h.0)

      negated : (negative f x ≡ true) × (x ≡ sign_bit f + unsigned f x) → x - x % sign_bit f ≡ signed f (negative f x) 0
      negated h = omega (arith, h.1) ∙ sym (ap (λ (s : Bool). signed f s 0) h.0)

  pub zero_le : x - x % sign_bit f ≤ sign_bit f
  zero_le = ⊎_elim (λ l. omega (arith, (plus l).1)) (λ g. omega (arith, (minus g).1)) (lt_or_ge x (sign_bit f))
