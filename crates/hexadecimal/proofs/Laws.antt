-- What a user of the fields would state: the value of n digits is below 16 ^ n, a field is the same in a part of the text, a field of up
-- to 16 digits is read as a word, and digits that were written are read back. Each but the word goes by induction on the digits, with the digits
-- that came before open as the value a. Assumes nothing.
use mathlib.Core.Path.{◌≡◌, refl, ap, ◌∙◌, sym}
use mathlib.Core.List.{List, [], ◌∷◌, ◌++◌, append_assoc, append-nil}
use mathlib.Core.Logic.{⊎_elim}
use Prim.Native.Nat.{ℕ, zero, suc, ◌+◌, ◌-◌, ◌*◌, ◌/◌, ◌%◌, ◌^◌, ◌≤◌, ◌<◌}
use native.Mathlib.Nat.{pow-suc, mul_assoc}
use native.Mathlib.Omega.{arith}
use lib.Dec.{ltb}
use lib.ListN.{length, length-drop, get_or, take, drop}
use lib.Seq.{length-take-le, get_or-append-add, get_or_at, get_or-take, get_or-drop}
use borrow.Author.Tests.{lt-ltb, le-ltb}
use Rattle.hexadecimal.specs.Hex.{digit_of, field_of, word_field, glyph_of, digits}
use Rattle.std.specs.Prelude.{Option, Some, None}
use Rattle.hexadecimal.proofs.Digits.{by_test, digit_glyph, bad_suc, good_suc, done_zero, digits_more, length_digits}

-- ---- how large

-- n digits after digits of a value below 16 ^ j have a value below 16 ^ (j + n)
pub field_below_after : (s : List ℕ) (n at j a v : ℕ) → a < 16 ^ j → field_of s at n a ≡ Some v → v < 16 ^ (j + n)
field_below_after s zero at j a v h e =
    let p : Some a ≡ Some v = sym (done_zero s at a) ∙ e in
    let q : a ≡ v = cc in
    let f : j + 0 ≡ j = omega arith in
    rw f (rw q at h)
field_below_after s (suc n) at j a v h e =
    ⊎_elim
    (λ d.
    let p : None ≡ Some v = sym (bad_suc s at n a d) ∙ e in
    let z : ◌≡◌ {A = ℕ} 0 1 = cc in omega arith)
    (λ d.
    let f : j + suc n ≡ (j + 1) + n = omega arith in
    rw f (field_below_after s n (suc at) (j + 1) (a * 16 + digit_of (get_or s at 0)) v (digits_more j a (digit_of (get_or s at 0)) h d) (sym (good_suc s at n a d) ∙ e)))
    (by_test 15 (digit_of (get_or s at 0)) (ltb 15 (digit_of (get_or s at 0))) refl)

-- the value of n digits is below 16 ^ n
pub field_below : (s : List ℕ) (at n v : ℕ) → field_of s at n 0 ≡ Some v → v < 16 ^ n
field_below s at n v e = let f : 0 + n ≡ n = omega arith in rw f at (field_below_after s n at 0 0 v (omega arith) e)

-- ---- in a part of the text

-- a field of the m bytes of s from at, k bytes into them
pub field_part : (s : List ℕ) (at m n k a : ℕ) → k + n ≤ m → field_of (take m (drop at s)) k n a ≡ field_of s (at + k) n a
field_part s at m zero k a h = done_zero (take m (drop at s)) k a ∙ sym (done_zero s (at + k) a)
field_part s at m (suc n) k a h =
    let e : get_or (take m (drop at s)) k 0 ≡ get_or s (at + k) 0 = get_or-take m (drop at s) k 0 (omega arith) ∙ get_or-drop at s k 0 in
    let f : at + suc k ≡ suc (at + k) = omega arith in
    ⊎_elim
    (λ (d : 15 < digit_of (get_or s (at + k) 0)). bad_suc (take m (drop at s)) k n a (rw e d) ∙ sym (bad_suc s (at + k) n a d))
    (λ (d : digit_of (get_or s (at + k) 0) ≤ 15).
    good_suc (take m (drop at s)) k n a (rw e d)
    ∙ rw (e, ← f) (field_part s at m n (suc k) (a * 16 + digit_of (get_or s (at + k) 0)) (omega arith))
    ∙ sym (good_suc s (at + k) n a d))
    (by_test 15 (digit_of (get_or s (at + k) 0)) (ltb 15 (digit_of (get_or s (at + k) 0))) refl)

-- ---- as a word

pub word_field_lem : (s : List ℕ) → length s ≤ 16 → word_field s ≡ field_of s 0 (length s) 0
unfolding word_field
word_field_lem s h = simp (le-ltb 16 (length s) h)

pub word_field_long : (s : List ℕ) → 16 < length s → word_field s ≡ None
unfolding word_field
word_field_long s h = simp (lt-ltb 16 (length s) h)

-- what the bytes of s from `at` up to `end`, read as a word, come to
pub word_part : (s : List ℕ) (at end : ℕ) → at ≤ end → end ≤ length s → end ≤ at + 16 → {x f : Option ℕ} → x ≡ word_field (take (end - at) (drop at s)) → x ≡ f
    → field_of s at (end - at) 0 ≡ f
word_part s at end g h k e d =
    let n : ℕ = end - at in
    let z : at + 0 ≡ at = omega arith in
    let l : length (take n (drop at s)) ≡ n = length-take-le n (drop at s) (simp length-drop (omega arith)) in
    sym
    (word_field_lem (take n (drop at s)) (omega arith)
    ∙ ap (λ (m : ℕ). field_of (take n (drop at s)) 0 m 0) l
    ∙ field_part s at n n 0 0 (omega arith)
    ∙ ap (λ (m : ℕ). field_of s m n 0) z)
    ∙ sym e
    ∙ d

-- ---- read back

-- The k digits of n, written after p, take the value a of the digits before them to a * 16 ^ k + n. How many digits follow, m, stays open:
-- the last digit written is the last read, so that it is one that follows the others.
read_digits : (k m n a : ℕ) (p q : List ℕ) → n < 16 ^ k
    → field_of (p ++ (digits k n ++ q)) (length p) (k + m) a ≡ field_of (p ++ (digits k n ++ q)) (length p + k) m (a * 16 ^ k + n)
unfolding digits
read_digits zero m n a p q h =
    let s : List ℕ = p ++ q in
    let e : 0 + m ≡ m = omega arith in
    let f : length p ≡ length p + 0 = omega arith in
    let v : a ≡ a * 1 + n = omega arith in
    ap (λ (j : ℕ). field_of s (length p) j a) e ∙ ap (λ (j : ℕ). field_of s j m a) f ∙ ap (field_of s (length p + 0) m) v
read_digits (suc k) m n a p q h =
    let g : ℕ = glyph_of (n % 16) in
    let front : List ℕ = digits k (n / 16) in
    let s : List ℕ = p ++ (front ++ (g ∷ q)) in
    let b : ℕ = a * 16 ^ k + n / 16 in
    let here : get_or s (length p + k) 0 ≡ g = get_or-append-add p (front ++ (g ∷ q)) k 0 ∙ get_or_at front g q 0 k (length_digits k (n / 16)) in
    let d : digit_of (get_or s (length p + k) 0) ≡ n % 16 = ap digit_of here ∙ digit_glyph (n % 16) (omega arith) in
    let e : suc k + m ≡ k + suc m = omega arith in
    let f : suc (length p + k) ≡ length p + suc k = omega arith in
    let v : b * 16 + digit_of (get_or s (length p + k) 0) ≡ a * 16 ^ suc k + n = omega (arith, ap (λ (w : ℕ). a * w) (pow-suc 16 k)) in
    rw (append_assoc front (g ∷ []) q)
    (ap (λ (j : ℕ). field_of s (length p) j a) e
    ∙ read_digits k (suc m) (n / 16) a p (g ∷ q) (omega (arith, pow-suc 16 k))
    ∙ good_suc s (length p + k) m b (omega arith)
    ∙ ap (λ (j : ℕ). field_of s j m (b * 16 + digit_of (get_or s (length p + k) 0))) f
    ∙ ap (field_of s (length p + suc k) m) v)

-- the k digits of a number that has no more, wherever they stand, are read as that number
pub read_written : (k n : ℕ) (p q : List ℕ) → n < 16 ^ k → field_of (p ++ (digits k n ++ q)) (length p) k 0 ≡ Some n
read_written k n p q h =
    let s : List ℕ = p ++ (digits k n ++ q) in
    let e : k ≡ k + 0 = omega arith in
    let v : 0 * 16 ^ k + n ≡ n = omega arith in
    ap (λ (j : ℕ). field_of s (length p) j 0) e ∙ read_digits k 0 n 0 p q h ∙ done_zero s (length p + k) (0 * 16 ^ k + n) ∙ ap Some v

-- ---- fields side by side

-- The digits of two fields, the second of k digits, are those of one number.
pub digits-joined : (j k m n : ℕ) → n < 16 ^ k → digits (j + k) (m * 16 ^ k + n) ≡ digits j m ++ digits k n
unfolding digits
digits-joined j zero m n h =
    let e : j + 0 ≡ j = omega arith in
    let f : m * 1 + n ≡ m = omega arith in
    ap (λ (i : ℕ). digits i (m * 16 ^ 0 + n)) e ∙ ap (digits j) f ∙ sym (append-nil (digits j m))
digits-joined j (suc k) m n h =
    let p : 16 ^ suc k ≡ 16 ^ k * 16 = pow-suc 16 k in
    let a : m * (16 ^ k * 16) ≡ m * 16 ^ k * 16 = sym (mul_assoc m (16 ^ k) 16) in
    let e : j + suc k ≡ suc (j + k) = omega arith in
    let q : (m * 16 ^ suc k + n) / 16 ≡ m * 16 ^ k + n / 16 = ap (λ (x : ℕ). (m * x + n) / 16) p ∙ omega arith in
    let r : (m * 16 ^ suc k + n) % 16 ≡ n % 16 = ap (λ (x : ℕ). (m * x + n) % 16) p ∙ omega arith in
    let l : n / 16 < 16 ^ k = omega arith in
    ap (λ (i : ℕ). digits i (m * 16 ^ suc k + n)) e
    ∙ rw (q, r, digits-joined j k m (n / 16) l) (append_assoc (digits j m) (digits k (n / 16)) (glyph_of (n % 16) ∷ []))
