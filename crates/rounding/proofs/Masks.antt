-- round in the code's own steps, over every format and word: e is the exponent field, and what is cut off is the unit less one, or a
-- fraction's bits from one half up to one, or all but the sign below. Assumes nothing.
use mathlib.Core.Path.{◌≡◌, refl, sym, ap, ◌∙◌}
use mathlib.Core.Logic.{⊎_elim}
use Prim.Native.Nat.{ℕ, suc, ◌+◌, ◌-◌, ◌*◌, ◌/◌, ◌%◌, ◌^◌, ◌≤◌, ◌<◌}
use native.Mathlib.Nat.{mod-lt, mod-eq_of_lt, div-add-mod', pow-suc}
use native.Mathlib.Omega.{arith}
use lib.Arith.{digits_div, digits_mod}
use lib.Bits.{bit_and, and_high}
use lib.Pow.{pow_pos, pow_mono, shr_lt, shr_le, ones_split}
use Rattle.float_format.specs.Format.{Format, sign_bit, exponent_field, unsigned}
use Rattle.float_format.specs.Number.{bias}
use Rattle.float_format.specs.Rounding.{integral}
use Rattle.float_format.specs.declared.Direction.TheVariants.{HalfAway}
use Rattle.float_format.specs.Width.{Finite}
use Rattle.float_format.proofs.Units.{lt_or_ge}
use Rattle.float_format.proofs.Sizes.{Sizes, sizes, rest_below, fields_apart}
use Rattle.rounding.specs.Shape.{fraction_shift, Mask}
use Rattle.rounding.proofs.Shifts.{shift_is, unit_from_one}
use Rattle.rounding.proofs.Directions.{stays_pattern, round_sum, round_one, round_zero}

-- an `and` with the complement of the low k bits, in words of W bits
cut_bits : (W n k m : ℕ) → n < 2 ^ W → k ≤ W → m ≡ 2 ^ k - 1 → bit_and n (2 ^ W - 1 - m) ≡ n - n % 2 ^ k
cut_bits W n k m h l em =
    let p : 0 < 2 ^ k = pow_pos k in
    let top : 2 ^ k ≤ 2 ^ W = pow_mono {i = k} {j = W} l in
    let sum : W - k + k ≡ W = omega arith in
    let whole : 2 ^ (W - k + k) ≡ 2 ^ W = ap (λ (i : ℕ). 2 ^ i) sum in
    let c : 2 ^ W - 1 - m ≡ 2 ^ (W - k + k) - 2 ^ k = omega arith in
    let few : n / 2 ^ k < 2 ^ (W - k) = shr_lt (W - k) k (omega arith) in
    ap (bit_and n) c ∙ and_high n (W - k) k ∙ ap (λ (q : ℕ). q * 2 ^ k) (mod-eq_of_lt few) ∙ omega (arith, div-add-mod' n (2 ^ k))

-- what is added stays below the multiple of s ..
no_carry : (x a s : ℕ) → x % s + a < s → (x + a) - (x + a) % s ≡ x - x % s
no_carry x a s h =
    let d : x / s * s + x % s ≡ x = div-add-mod' x s in
    let m : (x + a) % s ≡ x % s + a = ap (λ (n : ℕ). n % s) (omega (arith, d)) ∙ digits_mod (x / s) h in
    omega (arith, d, m)

-- .. or is the next one
next_unit : (x u : ℕ) → 0 < u → (x + u) - (x + u) % u ≡ x - x % u + u
next_unit x u p =
    let d : x / u * u + x % u ≡ x = div-add-mod' x u in
    let s : suc (x / u) * u ≡ x / u * u + u = omega arith in
    let m : (x + u) % u ≡ x % u = ap (λ (n : ℕ). n % u) (omega (arith, d, s)) ∙ digits_mod (suc (x / u)) (mod-lt x p) in
    omega (arith, d, m)

-- ---- the mask

module _ (f : Format) (e : ℕ) where
  -- shifted down out of a fraction's bits and one more
  pub mask_shifted : (s : ℕ) → e < bias f + f.fraction → (bias f ≤ e + 1 → s ≡ e + 1 - bias f) → Mask f e ((2 * 2 ^ f.fraction - 1) / 2 ^ s)
  mask_shifted s h es =
      record {
        most = omega (arith, shr_le (2 * 2 ^ f.fraction - 1) s, pow_pos f.fraction);
        from_half = λ l. at (e + 1 - bias f) (omega arith) (es l);
      }
    where
      at : (d : ℕ) → suc f.fraction ≡ bias f + f.fraction - e + d → s ≡ d → (2 * 2 ^ f.fraction - 1) / 2 ^ s ≡ 2 ^ (bias f + f.fraction - e) - 1
      at d sum ed =
          let split : 2 * 2 ^ f.fraction - 1 ≡ (2 ^ (bias f + f.fraction - e) - 1) * 2 ^ d + (2 ^ d - 1) =
          ap (λ (n : ℕ). n - 1) (omega (arith, pow-suc 2 f.fraction)) ∙ ap (λ (i : ℕ). 2 ^ i - 1) sum ∙ ones_split (bias f + f.fraction - e) d in
          ap (λ (i : ℕ). (2 * 2 ^ f.fraction - 1) / 2 ^ i) ed ∙ ap (λ (n : ℕ). n / 2 ^ d) split
          ∙ digits_div (2 ^ (bias f + f.fraction - e) - 1) (omega (arith, pow_pos d))

  pub mask_none : bias f + f.fraction ≤ e → Mask f e 0
  mask_none h = record { most = omega (arith, pow_pos f.fraction); from_half = λ l. none (bias f + f.fraction - e) (omega arith) }
    where
      none : (k : ℕ) → k ≡ 0 → 0 ≡ 2 ^ k - 1
      none k z = sym (ap (λ (i : ℕ). 2 ^ i - 1) z)

-- ---- the cut

-- in words of W bits, which hold a pattern
module _ (f : Format) (x e mask W : ℕ) (w : Finite f x e) (m : Mask f e mask) (hold : f.exponent + f.fraction < W) where
  pub sum_fits : x + (mask + 1) / 2 < 2 ^ W
  sum_fits =
      let p : x + (mask + 1) / 2 < 2 * sign_bit f = stays_pattern f x e (2 ^ fraction_shift f e) w refl ((mask + 1) / 2) (omega (arith, m.most)) in
      omega (arith, p, pow-suc 2 (f.exponent + f.fraction), pow_mono {i = suc (f.exponent + f.fraction)} {j = W} hold)

  -- below one half only the sign is kept
  pub low_is : (all : ℕ) → all ≡ sign_bit f - 1 → e + 1 < bias f → bit_and (x + (mask + 1) / 2) (2 ^ W - 1 - all) ≡ integral f HalfAway x
  low_is all ea h = go (sizes f w.word)
    where
      go : Sizes f → bit_and (x + (mask + 1) / 2) (2 ^ W - 1 - all) ≡ integral f HalfAway x
      go z =
          let r : unsigned f x < (bias f - 1) * 2 ^ f.fraction = rest_below f x e (bias f - 1) w.field (omega arith) in
          let o : (bias f - 1) * 2 ^ f.fraction + 2 ^ f.fraction ≡ bias f * 2 ^ f.fraction = suc_times (bias f - 1) (2 ^ f.fraction) ∙ ap (λ (n : ℕ). n * 2 ^ f.fraction) (omega arith) in
          cut_bits W (x + (mask + 1) / 2) (f.exponent + f.fraction) all sum_fits (omega (arith, hold)) ea
          ∙ no_carry x ((mask + 1) / 2) (sign_bit f) (omega (arith, r, o, m.most, z.one_half))
          ∙ round_zero f x e (bias f * 2 ^ f.fraction) w refl (λ k. omega arith) (omega arith)
        where
          suc_times : (n p : ℕ) → n * p + p ≡ suc n * p
          suc_times n p = omega arith

  pub high_is : (low : ℕ) → low ≡ mask % 2 ^ f.fraction → bias f ≤ e + 1 → bit_and (x + (mask + 1) / 2) (2 ^ W - 1 - low) ≡ integral f HalfAway x
  high_is low el h = ⊎_elim (λ l. half (omega arith)) (λ g. whole g (sizes f w.word)) (lt_or_ge e (bias f))
    where
      -- from one half up to one, the sum carries into the field of one
      half : e + 1 ≡ bias f → bit_and (x + (mask + 1) / 2) (2 ^ W - 1 - low) ≡ integral f HalfAway x
      half z =
          let k : mask ≡ 2 ^ suc f.fraction - 1 = m.from_half h ∙ ap (λ (i : ℕ). 2 ^ i - 1) (omega arith) in
          let p : 0 < 2 ^ f.fraction = pow_pos f.fraction in
          let a : (mask + 1) / 2 ≡ 2 ^ f.fraction = omega (arith, k, p, pow-suc 2 f.fraction) in
          let c : low ≡ 2 ^ f.fraction - 1 =
          el ∙ ap (λ (n : ℕ). n % 2 ^ f.fraction) (omega (arith, k, p, pow-suc 2 f.fraction)) ∙ digits_mod 1 {r = 2 ^ f.fraction - 1} (omega (arith, p)) in
          let o : (exponent_field f x + 1) * 2 ^ f.fraction ≡ bias f * 2 ^ f.fraction = ap (λ (n : ℕ). n * 2 ^ f.fraction) (omega (arith, w.field)) in
          let d : (exponent_field f x + 1) * 2 ^ f.fraction ≡ exponent_field f x * 2 ^ f.fraction + 2 ^ f.fraction = omega arith in
          cut_bits W (x + (mask + 1) / 2) f.fraction low sum_fits (omega (arith, hold)) c
          ∙ ap (λ (n : ℕ). (x + n) - (x + n) % 2 ^ f.fraction) a
          ∙ next_unit x (2 ^ f.fraction) p
          ∙ omega (arith, fields_apart f x, o, d)
          ∙ round_one f x e (bias f * 2 ^ f.fraction) w refl z (omega arith)

      whole : bias f ≤ e → Sizes f → bit_and (x + (mask + 1) / 2) (2 ^ W - 1 - low) ≡ integral f HalfAway x
      whole g z =
          let k : mask ≡ 2 ^ (bias f + f.fraction - e) - 1 = m.from_half h in
          let u : mask + 1 ≡ 2 ^ fraction_shift f e =
          omega (arith, k, pow_pos (bias f + f.fraction - e)) ∙ sym (ap (λ (i : ℕ). 2 ^ i) (shift_is f e (omega (arith, z.fraction_lt)) g)) in
          let c : low ≡ 2 ^ (bias f + f.fraction - e) - 1 =
          el ∙ mod-eq_of_lt (omega (arith, u, unit_from_one f e (omega (arith, z.fraction_lt)) g)) ∙ k in
          cut_bits W (x + (mask + 1) / 2) (bias f + f.fraction - e) low sum_fits (omega (arith, hold, w.word.valid.some_exponent)) c
          ∙ ap (λ (n : ℕ). x + (mask + 1) / 2 - (x + (mask + 1) / 2) % n) (omega (arith, k, pow_pos (bias f + f.fraction - e)))
          ∙ (round_sum f x e (mask + 1) w u).is g
