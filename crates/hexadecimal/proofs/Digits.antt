-- One digit more of `field_of` and of `digits`, in the form in which a loop takes it. Assumes nothing.
use mathlib.Core.Path.{◌≡◌, refl, ap, ◌∙◌}
use mathlib.Core.Bool.{Bool, true, false}
use mathlib.Core.List.{List, [], ◌∷◌, ◌++◌, append_assoc}
use mathlib.Core.Logic.{◌⊎◌, inl, inr, ⊎_elim}
use Prim.Native.Nat.{ℕ, zero, suc, ◌+◌, ◌-◌, ◌*◌, ◌/◌, ◌%◌, ◌^◌, ◌≤◌, ◌<◌}
use native.Mathlib.Omega.{arith}
use native.Mathlib.Nat.{pow-suc, pow-le-pow_right}
use native.Mathlib.Numerals.{add-one}
use lib.Dec.{ltb}
use lib.ListN.{length, length-append, length-set, get_or, set, drop}
use lib.Seq.{drop-cons, drop-set-lt, get_or-set_same}
use borrow.Author.Tests.{lt-ltb, le-ltb, le-leb, lt-leb, ltb-true, ltb-false}
use Rattle.hexadecimal.specs.Hex.{digit_of, field_of, glyph_of, digits}
use Rattle.std.specs.Prelude.{Some, None}

pub by_test : (m n : ℕ) (b : Bool) → ltb m n ≡ b → (m < n) ⊎ (n ≤ m)
by_test m n true e = inl (ltb-true m n e)
by_test m n false e = inr (ltb-false m n e)

-- ---- a digit, by the distances of a byte from `0` and from `a`

module _ (b : ℕ) (h : b < 256) where
  pub digit_decimal : (b + 208) % 256 < 10 → (b + 208) % 256 ≡ digit_of b
  unfolding digit_of
  digit_decimal d =
      let low : 48 ≤ b = omega arith in
      let high : b ≤ 57 = omega arith in
      let e : (b + 208) % 256 ≡ b - 48 = omega arith in
      simp (le-ltb b 48 low, le-leb b 57 high) e

  module _ (d : 10 ≤ (b + 208) % 256) where
    pub digit_letter : (b + 159) % 256 < 6 → (b + 159) % 256 + 10 ≡ digit_of b
    unfolding digit_of
    digit_letter l =
        let low : 97 ≤ b = omega arith in
        let high : b ≤ 102 = omega arith in
        let e : (b + 159) % 256 + 10 ≡ b - 97 + 10 = omega arith in
        simp (le-ltb b 48 (omega arith), lt-leb b 57 (omega arith), le-ltb b 97 low, le-leb b 102 high) e

    pub digit_none : 6 ≤ (b + 159) % 256 → 16 ≡ digit_of b
    unfolding digit_of
    digit_none l =
        ⊎_elim
        (λ (p : b < 48). simp (lt-ltb b 48 p))
        (λ (p : 48 ≤ b). ⊎_elim
        (λ (q : b < 97). simp (le-ltb b 48 p, lt-leb b 57 (omega arith), lt-ltb b 97 q))
        (λ (q : 97 ≤ b). simp (le-ltb b 48 p, lt-leb b 57 (omega arith), le-ltb b 97 q, lt-leb b 102 (omega arith)))
        (by_test b 97 (ltb b 97) refl))
        (by_test b 48 (ltb b 48) refl)

-- what is written for a digit is read back
pub digit_glyph : (d : ℕ) → d < 16 → digit_of (glyph_of d) ≡ d
unfolding digit_of
digit_glyph d h =
    ⊎_elim
    (λ (l : d < 10). simp (lt-ltb d 10 l, le-ltb (48 + d) 48 (omega arith), le-leb (48 + d) 57 (omega arith)) (omega arith))
    (λ (g : 10 ≤ d). simp (le-ltb d 10 g, le-ltb (87 + d) 48 (omega arith), lt-leb (87 + d) 57 (omega arith), le-ltb (87 + d) 97 (omega arith), le-leb (87 + d) 102 (omega arith)) (omega arith))
    (by_test d 10 (ltb d 10) refl)

-- ---- reading

pub bad_suc : (s : List ℕ) (at n a : ℕ) → 15 < digit_of (get_or s at 0) → field_of s at (suc n) a ≡ None
unfolding field_of
bad_suc s at n a h = rw (field_of, lt-ltb 15 (digit_of (get_or s at 0)) h)

pub good_suc : (s : List ℕ) (at n a : ℕ) → digit_of (get_or s at 0) ≤ 15 → field_of s at (suc n) a ≡ field_of s (suc at) n (a * 16 + digit_of (get_or s at 0))
unfolding field_of
good_suc s at n a h = rw (field_of, le-ltb 15 (digit_of (get_or s at 0)) h)

pub done_zero : (s : List ℕ) (at a : ℕ) → field_of s at 0 a ≡ Some a
unfolding field_of
done_zero s at a = refl

module _ (s : List ℕ) (n i a : ℕ) where
  pub field_bad : i < n → 15 < digit_of (get_or s i 0) → field_of s i (n - i) a ≡ None
  field_bad h d =
      let e : n - i ≡ suc (n - (i + 1)) = omega arith in
      rw e (bad_suc s i (n - (i + 1)) a d)

  pub field_good : i < n → digit_of (get_or s i 0) ≤ 15
      → field_of s i (n - i) a ≡ field_of s (i + 1) (n - (i + 1)) (a * 16 + digit_of (get_or s i 0))
  field_good h d =
      let e : n - i ≡ suc (n - (i + 1)) = omega arith in
      rw (e, add-one) (good_suc s i (n - suc i) a d)

  pub field_done : n ≤ i → field_of s i (n - i) a ≡ Some a
  field_done h =
      let e : n - i ≡ 0 = omega arith in
      rw e (done_zero s i a)

pub digits_more : (i a d : ℕ) → a < 16 ^ i → d ≤ 15 → a * 16 + d < 16 ^ (i + 1)
digits_more i a d h k = let e : 16 ^ (i + 1) ≡ 16 ^ i * 16 = rw add-one (pow-suc 16 i) in omega arith

-- fewer than 16 digits leave room for one more in 64 bits
pub room : (i a : ℕ) → i < 16 → a < 16 ^ i → a < 16 ^ 15
room i a h k = let p : 16 ^ i ≤ 16 ^ 15 = pow-le-pow_right {n = 16} (omega arith) {i = i} {j = 15} (omega arith) in omega arith

-- ---- writing

-- the last digit of n is put in front of those that stand
put_suc : (n j g : ℕ) (out : List ℕ) → j < length out → g ≡ glyph_of (n % 16)
    → digits (suc j) n ++ drop (suc j) out ≡ digits j (n / 16) ++ drop j (set out j g)
unfolding digits
put_suc n j g out h e =
    let l : j < length (set out j g) = simp length-set h in
    rw (drop-cons (set out j g) j 0 l, get_or-set_same out j g 0 h, drop-set-lt (suc j) out j g (omega arith), e)
    (append_assoc (digits j (n / 16)) (glyph_of (n % 16) ∷ []) (drop (suc j) out))

pub put : (n i g : ℕ) (out : List ℕ) → 0 < i → i ≤ length out → g ≡ glyph_of (n % 16)
    → digits i n ++ drop i out ≡ digits (i - 1) (n / 16) ++ drop (i - 1) (set out (i - 1) g)
put n i g out p h e =
    let s : i ≡ suc (i - 1) = omega arith in
    ap (λ (k : ℕ). digits k n ++ drop k out) s ∙ put_suc n (i - 1) g out (omega arith) e

-- ---- how long

pub length_digits : (k n : ℕ) → length (digits k n) ≡ k
unfolding digits
length_digits zero n = refl
length_digits (suc k) n = simp (length-append, length_digits k (n / 16)) (add-one k)
