-- A number of units by its leading one: how the count of leading zeros finds it, and the pattern that it gives. F is the number of
-- fraction bits, z the count of leading zeros in a word. Assumes nothing.
use mathlib.Core.Path.{◌≡◌, refl, sym, ap, ◌∙◌}
use mathlib.Core.Logic.{◌⊎◌, inl, inr, ⊎_elim}
use Prim.Native.Nat.{ℕ, suc, ◌+◌, ◌-◌, ◌*◌, ◌^◌, ◌≤◌, ◌<◌}
use native.Mathlib.Nat.{le_antisymm, pow-suc, mul_assoc, mul-le-mul_left, mul-le-mul_right, mul-lt-mul_of_pos_right, lt_of_not-le}
use native.Mathlib.Omega.{arith}
use borrow.Author.Rules.{rules}
use lib.Count.{count_leading_zeros, leading_top}
use lib.Pow.{pow_pos, pow_mono, pow-add}
use Rattle.float_format.specs.Format.{Format, binary64, binary32, binary16, sign_bit, top_field, infinity}
use Rattle.float_format.specs.Number.{encode, bias, leading_shift}
use Rattle.float_format.specs.Width.{InWord}
use Rattle.float_format.proofs.Units.{lt_or_ge, encode_at, encode-low}
use Rattle.float_format.proofs.Integral.{room}
use Rattle.float_format.proofs.Sizes.{sizes}

-- ---- the leading one

pub record Lead (F m z : ℕ) : Type 0 where
  pub past : 63 - F ≤ z
  pub short : z - (63 - F) ≤ F
  pub from : 2 ^ F ≤ m * 2 ^ (z - (63 - F))
  pub below : m * 2 ^ (z - (63 - F)) < 2 * 2 ^ F

pub lead : (F m z : ℕ) → F < 62 → 0 < m → m < 2 * 2 ^ F → z ≡ count_leading_zeros 64 m → Lead F m z
lead F m z narrow some few e = found (leading_top 64 m some (omega (arith, pow_mono {i = suc F} {j = 64} (omega arith))))
  where
    found : (j : ℕ) × (count_leading_zeros 64 m + suc j ≡ 64) × (2 ^ j ≤ m) × (m < 2 ^ suc j) → Lead F m z
    found t =
        let j : ℕ = t.0 in
        let near : j < suc F = lt_of_not-le (λ h. omega (arith, few, pow_mono {i = suc F} {j = j} h, t.2)) in
        let r : z - (63 - F) ≡ F - j = omega (arith, t.1, e) in
        let whole : 2 ^ j * 2 ^ (F - j) ≡ 2 ^ F = sym (pow-add 2 j (F - j)) ∙ ap (λ (n : ℕ). 2 ^ n) (omega arith) in
        let lo : 2 ^ j * 2 ^ (F - j) ≤ m * 2 ^ (F - j) = mul-le-mul_right (2 ^ (F - j)) t.2 in
        let hi : m * 2 ^ (F - j) < 2 * 2 ^ j * 2 ^ (F - j) = mul-lt-mul_of_pos_right (omega (arith, t.3)) (pow_pos (F - j)) in
        record {
          past = omega (arith, t.1, e);
          short = omega arith;
          from = rw r (omega (arith, lo, whole));
          below = rw r (omega (arith, hi, whole, mul_assoc 2 (2 ^ j) (2 ^ (F - j))));
        }

-- The shift that the code takes brings a significand to at least 2^F and below 2^(F + 1): 0 of a normal number's.
pub leading_shift_lem : (F m : ℕ) → F < 62 → 0 < m → m < 2 ^ suc F → (2 ^ F ≤ m * 2 ^ leading_shift F m) × (m * 2 ^ leading_shift F m < 2 ^ suc F)
leading_shift_lem F m narrow some few =
    let l : Lead F m (count_leading_zeros 64 m) = lead F m (count_leading_zeros 64 m) narrow some (omega (arith, few)) refl in
    (l.from, omega (arith, l.below))

-- W-207: so it does with the fraction m of a subnormal number.
pub subnormal_shift : (f : Format) (m : ℕ) → InWord f → 0 < m → m < 2 ^ f.fraction
    → (2 ^ f.fraction ≤ m * 2 ^ leading_shift f.fraction m) × (m * 2 ^ leading_shift f.fraction m < 2 ^ suc f.fraction)
subnormal_shift f m w some low = leading_shift_lem f.fraction m (sizes f w).fraction_lt some (omega (arith, low))

-- at each width: 2^52 and 2^53, 2^23 and 2^24, 2^10 and 2^11
pub subnormal_shift_64 : (m : ℕ) → 0 < m → m < 2 ^ 52 → (2 ^ 52 ≤ m * 2 ^ leading_shift 52 m) × (m * 2 ^ leading_shift 52 m < 2 ^ 53)
subnormal_shift_64 m = subnormal_shift binary64 m (search rules)

pub subnormal_shift_32 : (m : ℕ) → 0 < m → m < 2 ^ 23 → (2 ^ 23 ≤ m * 2 ^ leading_shift 23 m) × (m * 2 ^ leading_shift 23 m < 2 ^ 24)
subnormal_shift_32 m = subnormal_shift binary32 m (search rules)

pub subnormal_shift_16 : (m : ℕ) → 0 < m → m < 2 ^ 10 → (2 ^ 10 ≤ m * 2 ^ leading_shift 10 m) × (m * 2 ^ leading_shift 10 m < 2 ^ 11)
subnormal_shift_16 m = subnormal_shift binary16 m (search rules)

-- No other shift does.
pub only_shift : (F m j k : ℕ) → 2 ^ F ≤ m * 2 ^ j → m * 2 ^ j < 2 ^ suc F → 2 ^ F ≤ m * 2 ^ k → m * 2 ^ k < 2 ^ suc F → j ≡ k
only_shift F m j k jl jb kl kb = le_antisymm (least k j kl jb) (least j k jl kb)
  where
    -- a longer shift would be at least twice as much
    least : (a b : ℕ) → 2 ^ F ≤ m * 2 ^ a → m * 2 ^ b < 2 ^ suc F → b ≤ a
    least a b lo hi =
        let twice : m * 2 ^ suc a ≡ m * 2 ^ a * 2 = ap (λ (n : ℕ). m * n) (pow-suc 2 a) ∙ sym (mul_assoc m (2 ^ a) 2) in
        ⊎_elim (λ l. absurd (omega (arith, lo, hi, twice, mul-le-mul_left m (pow_mono {i = suc a} {j = b} l)))) (λ g. g) (lt_or_ge a b)

-- ---- the pattern

encode_small : (F n : ℕ) → n < 2 * 2 ^ F → encode F n ≡ n
encode_small F n h = ⊎_elim (λ l. encode-low F n l) (λ g. from g) (lt_or_ge n (2 ^ F))
  where
    from : 2 ^ F ≤ n → encode F n ≡ n
    from g = ap (encode F) (omega arith) ∙ encode_at F 0 n g (omega arith) ∙ omega arith

-- With the leading one in its place the field says the rest of the scale; where the scale ends before, the number is subnormal.
module _ (F m j k : ℕ) (lo : 2 ^ F ≤ m * 2 ^ k) (hi : m * 2 ^ k < 2 * 2 ^ F) where
  pub encode_normal : k ≤ j → encode F (m * 2 ^ j) ≡ (j - k) * 2 ^ F + m * 2 ^ k
  encode_normal h =
      let whole : 2 ^ j ≡ 2 ^ k * 2 ^ (j - k) = ap (λ (n : ℕ). 2 ^ n) (omega arith) ∙ pow-add 2 k (j - k) in
      ap (λ (n : ℕ). encode F (m * n)) whole ∙ ap (encode F) (sym (mul_assoc m (2 ^ k) (2 ^ (j - k)))) ∙ encode_at F (j - k) (m * 2 ^ k) lo (omega arith)

  pub scale_short : j ≤ k → m * 2 ^ j < 2 * 2 ^ F
  scale_short h = omega (arith, mul-le-mul_left m (pow_mono {i = j} {j = k} h))

  pub encode_subnormal : j ≤ k → encode F (m * 2 ^ j) ≡ m * 2 ^ j
  encode_subnormal h = encode_small F (m * 2 ^ j) (scale_short h)

-- both, as the code shifts: by k, or by the scale where that is less
pub record Encoded (f : Format) (m scale shift : ℕ) : Type 0 where
  pub within : shift ≤ scale
  pub narrow : shift < 64
  pub is : (scale - shift) * 2 ^ f.fraction + m * 2 ^ shift ≡ encode f.fraction (m * 2 ^ scale)
  pub fits : (scale - shift) * 2 ^ f.fraction + m * 2 ^ shift < sign_bit f

pub encoded : (f : Format) (m scale k shift : ℕ) → InWord f → scale < top_field f → k ≤ f.fraction → 2 ^ f.fraction ≤ m * 2 ^ k
    → m * 2 ^ k < 2 * 2 ^ f.fraction
    → ((k < scale) × (shift ≡ k)) ⊎ ((scale ≤ k) × (shift ≡ scale)) → Encoded f m scale shift
encoded f m scale k shift w low near lo hi (inl h) =
    let F : ℕ = f.fraction in
    let t : infinity f + 2 ^ F ≡ sign_bit f = (room f (bias f) w.valid refl).top in
    let less : m * 2 ^ shift < 2 * 2 ^ F = omega (arith, hi, ap (λ (n : ℕ). m * 2 ^ n) h.1) in
    record {
      within = omega arith;
      narrow = omega (arith, (sizes f w).fraction_lt);
      is = rw h.1 (sym (encode_normal F m scale k lo hi (omega (arith, h.0))));
      fits = omega (arith, t, less, mul-le-mul_right {m = suc (scale - shift)} {n = top_field f} (2 ^ F) (omega arith));
    }
encoded f m scale k shift w low near lo hi (inr h) =
    let F : ℕ = f.fraction in
    let t : infinity f + 2 ^ F ≡ sign_bit f = (room f (bias f) w.valid refl).top in
    let none : scale - shift ≡ 0 = omega (arith, h.1) in
    let less : m * 2 ^ shift < 2 * 2 ^ F = omega (arith, scale_short F m scale k lo hi h.0, ap (λ (n : ℕ). m * 2 ^ n) h.1) in
    record {
      within = omega arith;
      narrow = omega (arith, (sizes f w).fraction_lt);
      is = rw (none, h.1) (omega (arith, encode_subnormal F m scale k lo hi h.0));
      fits = rw none (omega (arith, t, less, mul-le-mul_right {m = 1} {n = top_field f} (2 ^ F) (omega arith)));
    }
