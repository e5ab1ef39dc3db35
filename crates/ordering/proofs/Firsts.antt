-- The order by which fmin and fmax choose: that of numbers, with -0 before +0. The one idea: each pattern has a key, a whole number, and
-- patterns compare by their keys as `before` has it. A minus sign puts the key one lower than the rank, so that the two zeros are apart and no
-- two patterns share a key; what holds of the lesser and the greater of two whole numbers then holds of patterns, to the bit. Over every
-- format. Assumes nothing.
use mathlib.Core.Path.{◌≡◌, refl, sym, ap, ◌∙◌}
use mathlib.Core.Bool.{Bool, true, false, not, ◌&&◌, ◌||◌, and-false, cond}
use mathlib.Core.Logic.{◌⊎◌, inl, inr, ⊎_elim}
use Prim.Native.Nat.{ℕ, min, max, ◌+◌, ◌-◌, ◌*◌, ◌≤◌, ◌<◌}
use native.Mathlib.Omega.{arith}
use lib.Dec.{ltb, eqb}
use borrow.Author.Tests.{eq-eqb, lt-ltb, le-ltb}
use Rattle.float_format.specs.Format.{Format, sign_bit, negative, unsigned, negated}
use Rattle.float_format.specs.Number.{rank, AtMost}
use Rattle.float_format.proofs.Units.{lt_or_ge}
use Rattle.float_format.proofs.Patterns.{below_sign}
use Rattle.float_format.proofs.Order.{rank_at, rank_order, negative-negated, unsigned-negated}
use Rattle.float_format.proofs.Sizes as sizes
use Rattle.ordering.specs.Ordering.{before, earlier, later}
use Rattle.ordering.proofs.Ranks.{below_is, zero_is}

-- ---- keys

unfoldable pub key : Format → ℕ → ℕ
key f x = cond (negative f x) (sign_bit f - 1 - unsigned f x) (sign_bit f + unsigned f x)

pub key_at : (f : Format) (x : ℕ) (s : Bool) → negative f x ≡ s → key f x ≡ cond s (sign_bit f - 1 - unsigned f x) (sign_bit f + unsigned f x)
unfolding key
key_at f x s e = ap (λ (t : Bool). cond t (sign_bit f - 1 - unsigned f x) (sign_bit f + unsigned f x)) e

-- two tests that are true together are one
same_test : (m n k l : ℕ) → (m < n → k < l) → (n ≤ m → l ≤ k) → ltb m n ≡ ltb k l
same_test m n k l up down =
    ⊎_elim (λ h. lt-ltb m n h ∙ sym (lt-ltb k l (up h))) (λ h. le-ltb m n h ∙ sym (le-ltb k l (down h))) (lt_or_ge m n)

pub before_is : (f : Format) (x y : ℕ) → before f x y ≡ ltb (key f x) (key f y)
before_is f x y =
    rw (below_is f x y, zero_is f x, zero_is f y, key_at f x (negative f x) refl, key_at f y (negative f y) refl, rank_at f x (negative f x) refl, rank_at f y (negative f y) refl)
    (by_signs (negative f x) (negative f y) (unsigned f x) (unsigned f y) (below_sign f x) (below_sign f y))
  where
    S : ℕ
    S = sign_bit f

    -- unless the signs are those of -0 and +0, the numbers alone decide
    first_plus : (d u v w : Bool) → (d || (u && false && v && w)) ≡ d
    first_plus true u v w = refl
    first_plus false u v w = rw (and-false u)

    second_minus : (d u : Bool) → (d || (u && not true)) ≡ d
    second_minus true u = refl
    second_minus false u = and-false u

    by_signs : (s t : Bool) (a b : ℕ) → a < S → b < S
        → (ltb (cond s (S - a) (S + a)) (cond t (S - b) (S + b)) || (eqb a 0 && s && eqb b 0 && not t))
        ≡ ltb (cond s (S - 1 - a) (S + a)) (cond t (S - 1 - b) (S + b))
    by_signs true true a b p q =
        second_minus (ltb (S - a) (S - b)) (eqb a 0 && true && eqb b 0)
        ∙ same_test (S - a) (S - b) (S - 1 - a) (S - 1 - b) (λ h. omega arith) (λ h. omega arith)
    by_signs true false a b p q =
        ⊎_elim
        (λ h. simp (lt-ltb (S - a) (S + b) h, lt-ltb (S - 1 - a) (S + b) (omega arith)))
        (λ h. simp (le-ltb (S - a) (S + b) h, eq-eqb a 0 (omega arith), eq-eqb b 0 (omega arith), lt-ltb (S - 1 - a) (S + b) (omega arith)))
        (lt_or_ge (S - a) (S + b))
    by_signs false true a b p q =
        second_minus (ltb (S + a) (S - b)) (eqb a 0 && false && eqb b 0)
        ∙ same_test (S + a) (S - b) (S + a) (S - 1 - b) (λ h. omega arith) (λ h. omega arith)
    by_signs false false a b p q = first_plus (ltb (S + a) (S + b)) (eqb a 0) (eqb b 0) true

-- what comes first is no greater a number
pub key_order : (f : Format) (x y : ℕ) → key f x ≤ key f y → AtMost f x y
key_order f x y h = (rank_order f x y).0 (by_signs (negative f x) (negative f y) refl refl)
  where
    by_signs : (s t : Bool) → negative f x ≡ s → negative f y ≡ t → rank f x ≤ rank f y
    by_signs true true ex ey = omega (arith, below_sign f x, below_sign f y, key_at f x true ex, key_at f y true ey, rank_at f x true ex, rank_at f y true ey)
    by_signs true false ex ey = omega (arith, rank_at f x true ex, rank_at f y false ey)
    by_signs false true ex ey = omega (arith, below_sign f y, key_at f x false ex, key_at f y true ey)
    by_signs false false ex ey = omega (arith, key_at f x false ex, key_at f y false ey, rank_at f x false ex, rank_at f y false ey)

-- negation turns the order round
pub key_negated : (f : Format) (x : ℕ) → key f (negated f x) + key f x + 1 ≡ 2 * sign_bit f
key_negated f x = by_sign (negative f x) refl
  where
    by_sign : (s : Bool) → negative f x ≡ s → key f (negated f x) + key f x + 1 ≡ 2 * sign_bit f
    by_sign true e =
        omega (arith, below_sign f x, key_at f x true e, key_at f (negated f x) false (negative-negated f x ∙ ap not e), unsigned-negated f x)
    by_sign false e =
        omega (arith, below_sign f x, key_at f x false e, key_at f (negated f x) true (negative-negated f x ∙ ap not e), unsigned-negated f x)

-- ---- keys of patterns

module _ (f : Format) (x : ℕ) (p : x < 2 * sign_bit f) where
  key_plus : x < sign_bit f → key f x ≡ sign_bit f + x
  key_plus l = omega (arith, key_at f x false (sizes.plus f x p l).0, (sizes.plus f x p l).1)

  key_minus : sign_bit f ≤ x → key f x + x + 1 ≡ 2 * sign_bit f
  key_minus g = omega (arith, below_sign f x, key_at f x true (sizes.minus f x p g).0, (sizes.minus f x p g).1)

module _ (f : Format) (x y : ℕ) (p : x < 2 * sign_bit f) (q : y < 2 * sign_bit f) where
  -- two patterns of one key are one pattern
  pub key_same : key f x ≡ key f y → x ≡ y
  key_same e =
      ⊎_elim
      (λ l. ⊎_elim
      (λ m. omega (arith, key_plus f x p l, key_plus f y q m))
      (λ m. omega (arith, key_plus f x p l, key_minus f y q m))
      (lt_or_ge y (sign_bit f)))
      (λ l. ⊎_elim
      (λ m. omega (arith, key_minus f x p l, key_plus f y q m))
      (λ m. omega (arith, key_minus f x p l, key_minus f y q m))
      (lt_or_ge y (sign_bit f)))
      (lt_or_ge x (sign_bit f))

  -- without a minus sign patterns compare as their keys do, and where the greater has one the other way round
  plus_order : x ≤ y → y < sign_bit f → key f x ≤ key f y
  plus_order h l = omega (arith, key_plus f x p (omega arith), key_plus f y q l)

  minus_order : x ≤ y → sign_bit f ≤ y → key f y ≤ key f x
  minus_order h g =
      ⊎_elim
      (λ l. omega (arith, key_plus f x p l, key_minus f y q g))
      (λ l. omega (arith, key_minus f x p l, key_minus f y q g))
      (lt_or_ge x (sign_bit f))

-- ---- which of two comes first, and which last

module _ (f : Format) (x y : ℕ) where
  pub earlier_key : key f (earlier f x y) ≡ min (key f x) (key f y)
  earlier_key =
      rw (before_is f y x)
      (⊎_elim
      (λ l. rw (lt-ltb (key f y) (key f x) l) (omega arith))
      (λ g. rw (le-ltb (key f y) (key f x) g) (omega arith))
      (lt_or_ge (key f y) (key f x)))

  pub later_key : key f (later f x y) ≡ max (key f x) (key f y)
  later_key =
      rw (before_is f x y)
      (⊎_elim
      (λ l. rw (lt-ltb (key f x) (key f y) l) (omega arith))
      (λ g. rw (le-ltb (key f x) (key f y) g) (omega arith))
      (lt_or_ge (key f x) (key f y)))

-- one of two is the first, or the second
pub either : (t : Bool) (x y : ℕ) → (cond t y x ≡ x) ⊎ (cond t y x ≡ y)
either true x y = inr refl
either false x y = inl refl

pub either_lt : (t : Bool) (x y n : ℕ) → x < n → y < n → cond t y x < n
either_lt true x y n p q = q
either_lt false x y n p q = p

module _ (f : Format) (x y : ℕ) (p : x < 2 * sign_bit f) (q : y < 2 * sign_bit f) where
  -- the answer, by the key that it has
  earlier_only : (w : ℕ) → w < 2 * sign_bit f → key f w ≡ min (key f x) (key f y) → w ≡ earlier f x y
  earlier_only w r e = key_same f w (earlier f x y) r (either_lt (before f y x) x y (2 * sign_bit f) p q) (e ∙ sym (earlier_key f x y))

  later_only : (w : ℕ) → w < 2 * sign_bit f → key f w ≡ max (key f x) (key f y) → w ≡ later f x y
  later_only w r e = key_same f w (later f x y) r (either_lt (before f x y) x y (2 * sign_bit f) p q) (e ∙ sym (later_key f x y))

-- ---- as the code picks: by the lesser and the greater of the two patterns

module _ (f : Format) (x y : ℕ) (p : x < 2 * sign_bit f) (q : y < 2 * sign_bit f) (low high : ℕ) (l : low ≡ min x y) (h : high ≡ max x y) where
  sorted : ((x < y) × (low ≡ x) × (high ≡ y)) ⊎ ((y ≤ x) × (low ≡ y) × (high ≡ x))
  sorted = ⊎_elim (λ a. inl (a, omega (arith, l), omega (arith, h))) (λ a. inr (a, omega (arith, l), omega (arith, h))) (lt_or_ge x y)

  pub earlier_plus : high < sign_bit f → (low ≡ earlier f x y) × (low < 2 * sign_bit f)
  earlier_plus m =
      ⊎_elim
      (λ s. (s.1 ∙ earlier_only f x y p q x p (omega (arith, plus_order f x y p q (omega arith) (omega arith))), omega arith))
      (λ s. (s.1 ∙ earlier_only f x y p q y q (omega (arith, plus_order f y x q p (omega arith) (omega arith))), omega arith))
      sorted

  pub earlier_minus : sign_bit f ≤ high → (high ≡ earlier f x y) × (high < 2 * sign_bit f)
  earlier_minus m =
      ⊎_elim
      (λ s. (s.2 ∙ earlier_only f x y p q y q (omega (arith, minus_order f x y p q (omega arith) (omega arith))), omega arith))
      (λ s. (s.2 ∙ earlier_only f x y p q x p (omega (arith, minus_order f y x q p (omega arith) (omega arith))), omega arith))
      sorted

  pub later_plus : high < sign_bit f → (high ≡ later f x y) × (high < 2 * sign_bit f)
  later_plus m =
      ⊎_elim
      (λ s. (s.2 ∙ later_only f x y p q y q (omega (arith, plus_order f x y p q (omega arith) (omega arith))), omega arith))
      (λ s. (s.2 ∙ later_only f x y p q x p (omega (arith, plus_order f y x q p (omega arith) (omega arith))), omega arith))
      sorted

  pub later_minus : sign_bit f ≤ high → (low ≡ later f x y) × (low < 2 * sign_bit f)
  later_minus m =
      ⊎_elim
      (λ s. (s.1 ∙ later_only f x y p q x p (omega (arith, minus_order f x y p q (omega arith) (omega arith))), omega arith))
      (λ s. (s.1 ∙ later_only f x y p q y q (omega (arith, minus_order f y x q p (omega arith) (omega arith))), omega arith))
      sorted
