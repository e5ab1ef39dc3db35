-- lround in the code's own steps. Below 2^63 the significand, moved to the top of a word and back, is twice the magnitude cut to a whole
-- number, and half of that rounded up is round(x). From 2^63 on every number is whole, and only -2^63 fits. Assumes nothing.
use mathlib.Core.Path.{◌≡◌, refl, sym, ap, ◌∙◌}
use mathlib.Core.Bool.{Bool, true, false, not, cond}
use mathlib.Core.Logic.{⊎_elim}
use Prim.Native.Nat.{ℕ, suc, ◌+◌, ◌-◌, ◌*◌, ◌/◌, ◌%◌, ◌^◌, ◌≤◌, ◌<◌}
use native.Mathlib.Nat.{mod-lt, mod-eq_of_lt, mul-div-mul_right, mul_assoc, mul_comm, div-eq_of_lt, div-le_self, mul-le-mul_right, mul-lt-mul_of_pos_right, le_trans, pow-suc}
use native.Mathlib.Omega.{arith}
use lib.Dec.{eqb}
use lib.IntN.{ℤ, pos, neg_ℤ}
use lib.Pow.{pow_pos, pow_mono, pow-add, mod-mod-pow}
use borrow.Author.Tests.{lt-ltb, le-ltb, le-leb, lt-leb, eq-eqb, ne_eqb}
use Rattle.float_format.specs.Format.{Format, sign_bit, top_field, infinity, exponent_field, negative, unsigned, is_nan, is_infinite}
use Rattle.float_format.specs.Number.{magnitude, bias, one}
use Rattle.float_format.specs.Rounding.{whole_part, with_sign, fits64, lround_refusal, lround_value}
use Rattle.float_format.specs.declared.Direction.TheVariants.{HalfAway}
use Rattle.float_format.proofs.Units.{lt_or_ge, magnitude_mono, magnitude_mono_le, Normal, normal, field_at, fraction_at}
use Rattle.float_format.proofs.Patterns.{nan_is, infinite_is}
use Rattle.float_format.proofs.Parts.{parts_half_away}
use Rattle.float_format.proofs.Whole.{large, half_at_lem, power_up}
use Rattle.float_format.specs.Width.{InWord, Finite, Wide}
use Rattle.float_format.proofs.Sizes.{Sizes, sizes, rest_below, rest_from, rest_infinite, rest_nan, plus, minus}

-- ---- below 2^63

-- t is twice the magnitude, cut to a whole number
pub record Twice (f : Format) (x t : ℕ) : Type 0 where
  pub is : t ≡ magnitude f.fraction (unsigned f x) * 2 / one f
  pub most : t + 2 ≤ 2 ^ 64

one_pos : (f : Format) → 0 < one f
one_pos f = pow_pos (bias f + f.fraction - 1)

module _ (f : Format) (x t : ℕ) (h : Twice f x t) where
  pub half_of : (t + 1) / 2 ≡ whole_part f HalfAway x
  unfolding whole_part
  half_of =
      ap (λ (n : ℕ). (n + 1) / 2) h.is ∙ sym (parts_half_away (negative f x) (magnitude f.fraction (unsigned f x)) (one f) (one_pos f))

  pub half_lt : (t + 1) / 2 < 2 ^ 63
  half_lt = omega (arith, h.most)

module _ (f : Format) (x e : ℕ) (w : Finite f x e) where
  pub twice_low : (t : ℕ) → t ≡ 0 → e + 1 < bias f → Twice f x t
  twice_low t et h = go (sizes f w.word)
    where
      go : Sizes f → Twice f x t
      go z =
          let r : unsigned f x < (bias f - 1) * 2 ^ f.fraction = rest_below f x e (bias f - 1) w.field (omega arith) in
          let l : magnitude f.fraction (unsigned f x) * 2 < one f = omega (arith, magnitude_mono f.fraction r, half_at_lem f.fraction (bias f) z.room.two) in
          record { is = et ∙ sym (div-eq_of_lt l); most = omega arith }

  -- the significand of a normal number, whose field e is at least 1
  units_at : (m : ℕ) → m ≡ 2 ^ f.fraction + x % 2 ^ f.fraction → 1 ≤ e → magnitude f.fraction (unsigned f x) * 2 ≡ m * 2 ^ e
  units_at m em e1 = go (normal f.fraction (unsigned f x) (omega (arith, rest_from f x e 1 w.field e1)))
    where
      go : Normal f.fraction (unsigned f x) → magnitude f.fraction (unsigned f x) * 2 ≡ m * 2 ^ e
      go n =
          let j : e ≡ suc n.j = w.field ∙ ap (λ (y : ℕ). y / 2 ^ f.fraction) n.is ∙ field_at f.fraction n.j n.M n.lo n.hi in
          let lo : x % 2 ^ f.fraction ≡ n.M - 2 ^ f.fraction =
          sym (mod-mod-pow x f.exponent f.fraction) ∙ ap (λ (y : ℕ). y % 2 ^ f.fraction) n.is ∙ fraction_at f.fraction n.j n.M n.lo n.hi in
          let M : n.M ≡ m = omega (arith, n.lo) in
          ap (λ (y : ℕ). y * 2) n.units ∙ mul_assoc n.M (2 ^ n.j) 2 ∙ ap (λ (y : ℕ). n.M * y) (sym (pow-suc 2 n.j))
          ∙ ap (λ (y : ℕ). n.M * 2 ^ y) (sym j) ∙ ap (λ (y : ℕ). y * 2 ^ e) M

  -- m * 2 ^ e / one, with both sides times 2 ^ (63 - F), and then without 2 ^ e
  quotient_at : (m : ℕ) → m ≡ 2 ^ f.fraction + x % 2 ^ f.fraction → 1 ≤ e → e < bias f + 63 → Sizes f
      → magnitude f.fraction (unsigned f x) * 2 / one f ≡ m * 2 ^ (63 - f.fraction) / 2 ^ (bias f + 62 - e)
  quotient_at m em e1 hi z =
      let exps : bias f + f.fraction - 1 + (63 - f.fraction) ≡ bias f + 62 - e + e = omega (arith, z.room.two, z.fraction_lt) in
      let u : one f * 2 ^ (63 - f.fraction) ≡ 2 ^ (bias f + 62 - e) * 2 ^ e =
      sym (pow-add 2 (bias f + f.fraction - 1) (63 - f.fraction)) ∙ ap (λ (y : ℕ). 2 ^ y) exps ∙ pow-add 2 (bias f + 62 - e) e in
      let n : m * 2 ^ e * 2 ^ (63 - f.fraction) ≡ m * 2 ^ (63 - f.fraction) * 2 ^ e =
      mul_assoc m (2 ^ e) (2 ^ (63 - f.fraction)) ∙ ap (λ (y : ℕ). m * y) (mul_comm (2 ^ e) (2 ^ (63 - f.fraction))) ∙ sym (mul_assoc m (2 ^ (63 - f.fraction)) (2 ^ e)) in
      ap (λ (y : ℕ). y / one f) (units_at m em e1)
      ∙ sym (mul-div-mul_right {m = 2 ^ (63 - f.fraction)} (m * 2 ^ e) (one f) (pow_pos (63 - f.fraction)))
      ∙ ap (λ (y : ℕ). m * 2 ^ e * 2 ^ (63 - f.fraction) / y) u
      ∙ ap (λ (y : ℕ). y / (2 ^ (bias f + 62 - e) * 2 ^ e)) n
      ∙ mul-div-mul_right {m = 2 ^ e} (m * 2 ^ (63 - f.fraction)) (2 ^ (bias f + 62 - e)) (pow_pos e)

  -- the significand at the top of a word leaves at least two below 2^64
  top_at : (m : ℕ) → m ≡ 2 ^ f.fraction + x % 2 ^ f.fraction → Sizes f
      → (m * 2 ^ (63 - f.fraction) % 2 ^ 64 ≡ m * 2 ^ (63 - f.fraction)) × (m * 2 ^ (63 - f.fraction) + 2 ≤ 2 ^ 64)
  top_at m em z =
      let l : x % 2 ^ f.fraction < 2 ^ f.fraction = mod-lt x (pow_pos f.fraction) in
      let exps : suc f.fraction + (63 - f.fraction) ≡ 64 = omega (arith, z.fraction_lt) in
      let p : 2 ^ suc f.fraction * 2 ^ (63 - f.fraction) ≡ 2 ^ 64 = sym (pow-add 2 (suc f.fraction) (63 - f.fraction)) ∙ ap (λ (y : ℕ). 2 ^ y) exps in
      let s : suc m ≤ 2 ^ suc f.fraction = omega arith in
      let two : 2 ^ 1 ≤ 2 ^ (63 - f.fraction) = pow_mono {i = 1} {j = 63 - f.fraction} (omega (arith, z.fraction_lt)) in
      let most : m * 2 ^ (63 - f.fraction) + 2 ≤ 2 ^ 64 = omega (arith, mul-le-mul_right (2 ^ (63 - f.fraction)) s) in
      (mod-eq_of_lt (omega arith), most)

  pub twice_high : (t m : ℕ) → m ≡ 2 ^ f.fraction + x % 2 ^ f.fraction → bias f ≤ e + 1 → e < bias f + 63
      → t ≡ m * 2 ^ (63 - f.fraction) % 2 ^ 64 / 2 ^ ((bias f + 62 - e) % 64) → Twice f x t
  twice_high t m em lo hi et = go (sizes f w.word)
    where
      go : Sizes f → Twice f x t
      go z =
          let k : (bias f + 62 - e) % 64 ≡ bias f + 62 - e = mod-eq_of_lt (omega arith) in
          let t' : t ≡ m * 2 ^ (63 - f.fraction) / 2 ^ (bias f + 62 - e) =
          et ∙ ap (λ (n : ℕ). n / 2 ^ ((bias f + 62 - e) % 64)) (top_at m em z).0 ∙ ap (λ (n : ℕ). m * 2 ^ (63 - f.fraction) / 2 ^ n) k in
          record {
            is = t' ∙ sym (quotient_at m em (omega (arith, z.room.two)) hi z);
            most = omega (arith, (top_at m em z).1, div-le_self (m * 2 ^ (63 - f.fraction)) (2 ^ (bias f + 62 - e)));
          }

-- ---- the answer, by whether round(x) fits 64 bits

pub record Answers (f : Format) (x n : ℕ) (z : ℤ) : Type 0 where
  pub refusal : n ≡ lround_refusal f x
  pub value : z ≡ lround_value f x

module _ (f : Format) (x n : ℕ) (en : n ≡ whole_part f HalfAway x) (h : unsigned f x < infinity f) where
  refusal_at : (t : Bool) → fits64 (negative f x) n ≡ t → lround_refusal f x ≡ cond t 0 3
  unfolding lround_refusal
  refusal_at t e =
      let g : fits64 (negative f x) (whole_part f HalfAway x) ≡ t = ap (fits64 (negative f x)) (sym en) ∙ e in
      simp (nan_is f x, le-ltb (infinity f) (unsigned f x) (omega arith), infinite_is f x, ne_eqb (unsigned f x) (infinity f) (omega arith), g) (pick t)
    where
      pick : (t : Bool) → ◌≡◌ {A = ℕ} (cond (not t) 3 0) (cond t 0 3)
      pick true = refl
      pick false = refl

  pub fits_answer : fits64 (negative f x) n ≡ true → Answers f x 0 (with_sign (negative f x) n)
  unfolding lround_value
  fits_answer e =
      let r : lround_refusal f x ≡ 0 = refusal_at true e in
      record { refusal = sym r; value = sym (ap (λ (m : ℕ). cond (eqb m 0) (with_sign (negative f x) (whole_part f HalfAway x)) (pos 0)) r ∙ ap (with_sign (negative f x)) (sym en)) }

  pub out_answer : fits64 (negative f x) n ≡ false → Answers f x 3 (pos 0)
  unfolding lround_value
  out_answer e =
      let r : lround_refusal f x ≡ 3 = refusal_at false e in
      record { refusal = sym r; value = sym (ap (λ (m : ℕ). cond (eqb m 0) (with_sign (negative f x) (whole_part f HalfAway x)) (pos 0)) r) }

-- below 2^63 it fits
pub below_answer : (f : Format) (x n : ℕ) → n ≡ whole_part f HalfAway x → unsigned f x < infinity f → n < 2 ^ 63
    → Answers f x 0 (with_sign (negative f x) n)
below_answer f x n en h l = fits_answer f x n en h (pick (negative f x))
  where
    pick : (s : Bool) → fits64 s n ≡ true
    pick true = le-leb n (2 ^ 63) (omega arith)
    pick false = lt-ltb n (2 ^ 63) l

-- ---- from 2^63 on

module _ (f : Format) (x e : ℕ) (w : InWord f) (p : x < 2 * sign_bit f) (ee : e ≡ exponent_field f x) where
  top_is : e ≡ top_field f → exponent_field f x ≡ top_field f
  top_is h = sym ee ∙ h

  pub nan_answer : e ≡ top_field f → (x % 2 ^ f.fraction ≡ 0 → ⊥) → Answers f x 1 (pos 0)
  unfolding lround_refusal lround_value
  nan_answer h k =
      let r : is_nan f x ≡ true = nan_is f x ∙ lt-ltb (infinity f) (unsigned f x) (rest_nan f x (top_is h) k) in
      record { refusal = simp r; value = simp r }

  pub infinite_answer : e ≡ top_field f → x % 2 ^ f.fraction ≡ 0 → Answers f x 3 (pos 0)
  unfolding lround_refusal lround_value
  infinite_answer h k =
      let a : unsigned f x ≡ infinity f = rest_infinite f x (top_is h) k in
      let r : is_nan f x ≡ false = nan_is f x ∙ le-ltb (infinity f) (unsigned f x) (omega arith) in
      let i : is_infinite f x ≡ true = infinite_is f x ∙ eq-eqb (unsigned f x) (infinity f) a in
      record { refusal = simp (r, i); value = simp (r, i) }

  module _ (n : e ≡ top_field f → ⊥) (top : e ≤ top_field f) (h : bias f + 63 ≤ e) where
    finite : unsigned f x < infinity f
    finite = rest_below f x e (top_field f) ee (omega arith)

    from : (bias f + 63) * 2 ^ f.fraction ≤ unsigned f x
    from = rest_from f x e (bias f + 63) ee h

    -- every number is whole here
    whole : Sizes f → magnitude f.fraction (unsigned f x) ≡ whole_part f HalfAway x * one f
    unfolding whole_part
    whole z =
        (large HalfAway (negative f x) f.fraction (bias f) (unsigned f x) (omega (arith, z.room.two))
        (le_trans (mul-le-mul_right (2 ^ f.fraction) (omega (arith, z.fraction_lt))) from)).units

    limit : Sizes f → magnitude f.fraction ((bias f + 63) * 2 ^ f.fraction) ≡ 2 ^ 63 * one f
    limit z = power_up f.fraction (bias f) 63 (omega (arith, z.room.two))

    cancel : (a b : ℕ) → a * one f ≤ b * one f → a ≤ b
    cancel a b l = ⊎_elim (λ k. absurd (never k)) (λ g. g) (lt_or_ge b a)
      where
        never : b < a → ⊥
        never k = omega (arith, mul-lt-mul_of_pos_right k (one_pos f))

    at_least : Sizes f → 2 ^ 63 ≤ whole_part f HalfAway x
    at_least z =
        cancel (2 ^ 63) (whole_part f HalfAway x) (omega (arith, whole z, limit z, magnitude_mono_le f.fraction from))

    pub positive_answer : x < sign_bit f → Answers f x 3 (pos 0)
    positive_answer l =
        out_answer f x (whole_part f HalfAway x) refl finite
        (ap (λ (s : Bool). fits64 s (whole_part f HalfAway x)) (plus f x p l).0 ∙ le-ltb (whole_part f HalfAway x) (2 ^ 63) (at_least (sizes f w)))

    module _ (m : sign_bit f ≤ x) where
      pub least_answer : unsigned f x ≡ (bias f + 63) * 2 ^ f.fraction → Answers f x 0 (neg_ℤ (pos (2 ^ 63)))
      least_answer e = go (sizes f w)
        where
          of_sign : negative f x ≡ true → Answers f x 0 (with_sign (negative f x) (2 ^ 63)) → Answers f x 0 (neg_ℤ (pos (2 ^ 63)))
          of_sign s a = record { refusal = a.refusal; value = ap (λ (b : Bool). with_sign b (2 ^ 63)) (sym s) ∙ a.value }

          go : Sizes f → Answers f x 0 (neg_ℤ (pos (2 ^ 63)))
          go z =
              let most : whole_part f HalfAway x ≤ 2 ^ 63 = cancel (whole_part f HalfAway x) (2 ^ 63) (omega (arith, whole z, limit z, ap (magnitude f.fraction) e)) in
              let is : 2 ^ 63 ≡ whole_part f HalfAway x = omega (arith, at_least z) in
              let s : negative f x ≡ true = (minus f x p m).0 in
              of_sign s (fits_answer f x (2 ^ 63) is finite (ap (λ (b : Bool). fits64 b (2 ^ 63)) s))

      pub beyond_answer : (unsigned f x ≡ (bias f + 63) * 2 ^ f.fraction → ⊥) → Answers f x 3 (pos 0)
      beyond_answer ne = go (sizes f w)
        where
          go : Sizes f → Answers f x 3 (pos 0)
          go z =
              let l : magnitude f.fraction ((bias f + 63) * 2 ^ f.fraction) < magnitude f.fraction (unsigned f x) = magnitude_mono f.fraction (omega (arith, from)) in
              let more : 2 ^ 63 < whole_part f HalfAway x = ⊎_elim (λ k. k) (λ g. absurd (never g z l)) (lt_or_ge (2 ^ 63) (whole_part f HalfAway x)) in
              out_answer f x (whole_part f HalfAway x) refl finite
              (ap (λ (s : Bool). fits64 s (whole_part f HalfAway x)) (minus f x p m).0 ∙ lt-leb (whole_part f HalfAway x) (2 ^ 63) more)
            where
              never : whole_part f HalfAway x ≤ 2 ^ 63 → Sizes f → magnitude f.fraction ((bias f + 63) * 2 ^ f.fraction) < magnitude f.fraction (unsigned f x) → ⊥
              never g z l = omega (arith, whole z, limit z, mul-le-mul_right (one f) g)

    -- by the one pattern that fits
    module _ (y : ℕ) (ey : y ≡ sign_bit f + (bias f * 2 ^ f.fraction + 63 * 2 ^ f.fraction)) where
      pub limit_answer : x ≡ y → Answers f x 0 (neg_ℤ (pos (2 ^ 63)))
      limit_answer e =
          let m : sign_bit f ≤ x = omega arith in
          least_answer m (omega (arith, (minus f x p m).1))

      pub other_answer : (x ≡ y → ⊥) → Answers f x 3 (pos 0)
      other_answer ne = ⊎_elim (λ l. positive_answer l) (λ m. beyond_answer m (λ e. ne (same m e))) (lt_or_ge x (sign_bit f))
        where
          same : sign_bit f ≤ x → unsigned f x ≡ (bias f + 63) * 2 ^ f.fraction → x ≡ y
          same m e = omega (arith, (minus f x p m).1)

-- the limit is below infinity
pub limit_lt : (f : Format) → InWord f → Wide f → bias f * 2 ^ f.fraction + 63 * 2 ^ f.fraction < 2 ^ 63
limit_lt f w r = go (sizes f w)
  where
    go : Sizes f → bias f * 2 ^ f.fraction + 63 * 2 ^ f.fraction < 2 ^ 63
    go z = omega (arith, mul-lt-mul_of_pos_right r.past_words (pow_pos f.fraction), z.room.top, z.sign_le, pow_pos f.fraction)
