-- Patterns without a sign, and the numbers of units that they stand for, with the width open: F is the number of fraction bits.
-- A pattern from 2 ^ F on is `j * 2 ^ F + M` with `2 ^ F ≤ M < 2 * 2 ^ F`, and stands for `M * 2 ^ j` units. Where M reaches `2 * 2 ^ F`
-- the same holds, one field up: that inclusive bound is the whole carry into the exponent. Assumes nothing.
use mathlib.Core.Path.{◌≡◌, refl, sym, ap, ◌∙◌}
use mathlib.Core.Logic.{◌⊎◌, inl, inr, ⊎_elim}
use mathlib.Core.Bool.{Bool, true, false}
use Prim.Native.Nat.{ℕ, zero, suc, ◌+◌, ◌-◌, ◌*◌, ◌/◌, ◌%◌, ◌^◌, ◌≤◌, ◌<◌}
use native.Mathlib.Nat.{le_antisymm, le_trans, lt_of_lt_of_le, lt_of_not-le, lt_irrefl, mul-div_cancel, mod-lt, le-div_iff_mul-le, div-add-mod', div-eq_of_lt, mod-eq_of_lt, eq-or-lt_of_le, mul-le-mul_right, mul-lt-mul_of_pos_right, pow-suc, mul-le-mul_left, mul-le-mul}
use native.Mathlib.Omega.{arith}
use lib.Dec.{ltb}
use lib.Arith.{digits_div, digits_mod}
use lib.Pow.{pow_pos, pow_mono, pow-add}
use lib.Ieee.{size}
use lib.Ieee.Digits.{size-lt, size-le}
use borrow.Author.Tests.{eq-eqb, ne_eqb, ltb-true, ltb-false}
use Rattle.float_format.specs.Number.{magnitude, encode}

pub lt_or_ge : (a b : ℕ) → (a < b) ⊎ (b ≤ a)
lt_or_ge a b = pick (ltb a b) refl
  where
    pick : (t : Bool) → ltb a b ≡ t → (a < b) ⊎ (b ≤ a)
    pick true e = inl (ltb-true a b e)
    pick false e = inr (ltb-false a b e)

pub three_way : {P : Type 0} (a b : ℕ) → (a < b → P) → (a ≡ b → P) → (b < a → P) → P
three_way a b less same more = ⊎_elim less (λ g. ⊎_elim (λ e. same (sym e)) more (eq-or-lt_of_le g)) (lt_or_ge a b)

-- ---- encode

pub size_is : (n k : ℕ) → 2 ^ k ≤ n → n < 2 ^ suc k → size n ≡ suc k
size_is n k lo hi =
    le_antisymm (size-le n (suc k) hi)
    (lt_of_not-le (λ h. lt_irrefl n (lt_of_lt_of_le (size-lt n) (le_trans (pow_mono h) lo))))

encode-below : (F j M : ℕ) → 2 ^ F ≤ M → M < 2 * 2 ^ F → encode F (M * 2 ^ j) ≡ j * 2 ^ F + M
unfolding encode
encode-below F j M lo hi =
    let lo' : 2 ^ (F + j) ≤ M * 2 ^ j = rw (pow-add 2 F j) (mul-le-mul_right (2 ^ j) lo) in
    let hi' : M * 2 ^ j < 2 ^ suc (F + j) = omega (arith, pow-add 2 F j, mul-lt-mul_of_pos_right hi (pow_pos j)) in
    let s : size (M * 2 ^ j) - suc F ≡ j = omega (arith, size_is (M * 2 ^ j) (F + j) lo' hi') in
    ap (λ (k : ℕ). k * 2 ^ F + M * 2 ^ j / 2 ^ k) s ∙ ap (λ (n : ℕ). j * 2 ^ F + n) (mul-div_cancel M (pow_pos j))

-- where M is twice 2 ^ F, it is 2 ^ F one scale up
carry : (F j M : ℕ) → M ≡ 2 * 2 ^ F → M * 2 ^ j ≡ 2 ^ F * 2 ^ suc j
carry F j M e = ap (λ (m : ℕ). m * 2 ^ j) e ∙ omega (arith, ap (λ (p : ℕ). 2 ^ F * p) (pow-suc 2 j))

pub encode_at : (F j M : ℕ) → 2 ^ F ≤ M → M ≤ 2 * 2 ^ F → encode F (M * 2 ^ j) ≡ j * 2 ^ F + M
encode_at F j M lo hi = ⊎_elim (λ e. top e) (λ l. encode-below F j M lo l) (eq-or-lt_of_le hi)
  where
    top : M ≡ 2 * 2 ^ F → encode F (M * 2 ^ j) ≡ j * 2 ^ F + M
    top e =
        ap (encode F) (carry F j M e) ∙ encode-below F (suc j) (2 ^ F) (omega arith) (omega (arith, pow_pos F)) ∙ omega arith

pub encode-low : (F n : ℕ) → n < 2 ^ F → encode F n ≡ n
unfolding encode
encode-low F n h =
    let s : size n - suc F ≡ 0 = omega (arith, size-le n F h) in
    ap (λ (k : ℕ). k * 2 ^ F + n / 2 ^ k) s ∙ omega arith

-- ---- magnitude

module _ (F j M : ℕ) (lo : 2 ^ F ≤ M) (hi : M < 2 * 2 ^ F) where
  apart : j * 2 ^ F + M ≡ suc j * 2 ^ F + (M - 2 ^ F)
  apart = omega arith

  pub field_at : (j * 2 ^ F + M) / 2 ^ F ≡ suc j
  field_at = ap (λ (n : ℕ). n / 2 ^ F) apart ∙ digits_div (suc j) (omega arith)

  pub fraction_at : (j * 2 ^ F + M) % 2 ^ F ≡ M - 2 ^ F
  fraction_at = ap (λ (n : ℕ). n % 2 ^ F) apart ∙ digits_mod (suc j) (omega arith)

  magnitude-below : magnitude F (j * 2 ^ F + M) ≡ M * 2 ^ j
  unfolding magnitude
  magnitude-below =
      simp (field_at, fraction_at, ne_eqb (suc j) 0 (omega arith))
      (let a : suc j - 1 ≡ j = omega arith in
      let b : 2 ^ F + (M - 2 ^ F) ≡ M = omega arith in
      cc)

pub magnitude_at : (F j M : ℕ) → 2 ^ F ≤ M → M ≤ 2 * 2 ^ F → magnitude F (j * 2 ^ F + M) ≡ M * 2 ^ j
magnitude_at F j M lo hi = ⊎_elim (λ e. top e) (λ l. magnitude-below F j M lo l) (eq-or-lt_of_le hi)
  where
    top : M ≡ 2 * 2 ^ F → magnitude F (j * 2 ^ F + M) ≡ M * 2 ^ j
    top e =
        let up : j * 2 ^ F + M ≡ suc j * 2 ^ F + 2 ^ F = omega arith in
        ap (magnitude F) up ∙ magnitude-below F (suc j) (2 ^ F) (omega arith) (omega (arith, pow_pos F)) ∙ sym (carry F j M e)

pub magnitude-low : (F a : ℕ) → a < 2 ^ F → magnitude F a ≡ a
unfolding magnitude
magnitude-low F a h = simp (eq-eqb (a / 2 ^ F) 0 (div-eq_of_lt h)) (mod-eq_of_lt h)

-- a pattern of a normal number, by its scale j and its significand M
pub record Normal (F a : ℕ) : Type 0 where
  pub j : ℕ
  pub M : ℕ
  pub lo : 2 ^ F ≤ M
  pub hi : M < 2 * 2 ^ F
  pub is : a ≡ j * 2 ^ F + M
  pub units : magnitude F a ≡ M * 2 ^ j

pub normal : (F a : ℕ) → 2 ^ F ≤ a → Normal F a
normal F a h =
    let q : 1 ≤ a / 2 ^ F = (le-div_iff_mul-le (pow_pos F)).1 (omega arith) in
    let m : a % 2 ^ F < 2 ^ F = mod-lt a (pow_pos F) in
    let back : suc (a / 2 ^ F - 1) ≡ a / 2 ^ F = omega arith in
    let e : a ≡ (a / 2 ^ F - 1) * 2 ^ F + (2 ^ F + a % 2 ^ F) = omega (arith, div-add-mod' a (2 ^ F), ap (λ (n : ℕ). n * 2 ^ F) back) in
    record {
      j = a / 2 ^ F - 1;
      M = 2 ^ F + a % 2 ^ F;
      lo = omega arith;
      hi = omega arith;
      is = e;
      units = ap (magnitude F) e ∙ magnitude_at F (a / 2 ^ F - 1) (2 ^ F + a % 2 ^ F) (omega arith) (omega arith);
    }

-- ---- encode and magnitude undo each other

pub encode-magnitude : (F a : ℕ) → encode F (magnitude F a) ≡ a
encode-magnitude F a = ⊎_elim (λ l. ap (encode F) (magnitude-low F a l) ∙ encode-low F a l) (λ g. high (normal F a g)) (lt_or_ge a (2 ^ F))
  where
    high : Normal F a → encode F (magnitude F a) ≡ a
    high n = ap (encode F) n.units ∙ encode_at F n.j n.M n.lo (omega (arith, n.hi)) ∙ sym n.is

-- for each number of units that some pattern stands for
pub magnitude-encode : (F n a : ℕ) → n ≡ magnitude F a → magnitude F (encode F n) ≡ n
magnitude-encode F n a e = ap (λ (m : ℕ). magnitude F (encode F m)) e ∙ ap (magnitude F) (encode-magnitude F a) ∙ sym e

-- ---- magnitude keeps the order

pub magnitude_mono : (F : ℕ) {a b : ℕ} → a < b → magnitude F a < magnitude F b
magnitude_mono F {a} {b} h =
    ⊎_elim (λ l. low l)
    (λ l. ⊎_elim (λ m. mixed m (normal F b l)) (λ m. both (normal F a m) (normal F b l)) (lt_or_ge a (2 ^ F)))
    (lt_or_ge b (2 ^ F))
  where
    low : b < 2 ^ F → magnitude F a < magnitude F b
    low l = rw (magnitude-low F a (omega arith), magnitude-low F b l) h

    mixed : a < 2 ^ F → Normal F b → magnitude F a < magnitude F b
    mixed m n = omega (arith, magnitude-low F a m, n.units, mul-le-mul n.lo (pow_pos n.j))

    -- one scale, or a lower one
    same : (n : Normal F a) (o : Normal F b) → n.j ≡ o.j → magnitude F a < magnitude F b
    same n o e =
        let l : n.M < o.M = omega (arith, n.is, o.is, ap (λ (x : ℕ). x * 2 ^ F) e, h) in
        omega (arith, n.units, o.units, ap (λ (x : ℕ). o.M * 2 ^ x) e, mul-lt-mul_of_pos_right l (pow_pos n.j))

    less : (n : Normal F a) (o : Normal F b) → n.j < o.j → magnitude F a < magnitude F b
    less n o l =
        omega (arith, n.units, o.units, mul-lt-mul_of_pos_right n.hi (pow_pos n.j), ap (λ (p : ℕ). 2 ^ F * p) (pow-suc 2 n.j), mul-le-mul_left (2 ^ F) (pow_mono l), mul-le-mul_right (2 ^ o.j) o.lo)

    never : (n : Normal F a) (o : Normal F b) → o.j < n.j → magnitude F a < magnitude F b
    never n o l = omega (arith, n.is, o.is, n.lo, o.hi, mul-le-mul_right (2 ^ F) l)

    both : Normal F a → Normal F b → magnitude F a < magnitude F b
    both n o =
        ⊎_elim (λ l. less n o l) (λ g. ⊎_elim (λ e. same n o (sym e)) (λ l. never n o l) (eq-or-lt_of_le g)) (lt_or_ge n.j o.j)

pub magnitude_mono_le : (F : ℕ) {a b : ℕ} → a ≤ b → magnitude F a ≤ magnitude F b
magnitude_mono_le F {a} {b} h = ⊎_elim (λ e. omega (arith, ap (magnitude F) e)) (λ l. omega (arith, magnitude_mono F l)) (eq-or-lt_of_le h)

-- and so the other way round
pub magnitude_cancel : (F : ℕ) {a b : ℕ} → magnitude F a ≤ magnitude F b → a ≤ b
magnitude_cancel F {a} {b} h = ⊎_elim (λ l. omega (arith, magnitude_mono F l)) (λ g. g) (lt_or_ge b a)

-- ---- what the format holds

-- some pattern stands for n units
pub record Held (F n : ℕ) : Type 0 where
  pub pattern : ℕ
  pub units : n ≡ magnitude F pattern

pub held_small : (F m : ℕ) → m < 2 * 2 ^ F → Held F m
held_small F m h = ⊎_elim (λ l. record { pattern = m; units = sym (magnitude-low F m l) }) (λ g. from g) (lt_or_ge m (2 ^ F))
  where
    from : 2 ^ F ≤ m → Held F m
    from g = record { pattern = m; units = sym (ap (magnitude F) (omega arith) ∙ magnitude_at F 0 m g (omega arith) ∙ omega arith) }

-- m * 2 ^ j, for every m that fits a significand: doubled until its leading one is in place, or no scale is left
pub held : (F m j : ℕ) → m < 2 * 2 ^ F → Held F (m * 2 ^ j)
held F m zero h = rw (one_times m) (held_small F m h)
  where
    one_times : (m : ℕ) → m * 2 ^ 0 ≡ m
    one_times m = omega arith
held F m (suc j) h =
    ⊎_elim (λ l. rw (twice m j) (held F (m * 2) j (omega arith))) (λ g. record { pattern = suc j * 2 ^ F + m; units = sym (magnitude_at F (suc j) m g (omega arith)) })
    (lt_or_ge m (2 ^ F))
  where
    twice : (m j : ℕ) → m * 2 ^ suc j ≡ m * 2 * 2 ^ j
    twice m j = omega (arith, ap (λ (p : ℕ). m * p) (pow-suc 2 j))

-- its pattern then stands for it
pub held_units : (F m j : ℕ) → m < 2 * 2 ^ F → magnitude F (encode F (m * 2 ^ j)) ≡ m * 2 ^ j
held_units F m j h = let t = held F m j h in magnitude-encode F (m * 2 ^ j) t.pattern t.units
