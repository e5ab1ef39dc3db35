-- The tests of the order, by ranks: a number is below another exactly where its rank is. With it the tests for a zero and for a NaN, by the
-- rest of the pattern. Over every format. Assumes nothing.
use mathlib.Core.Path.{◌≡◌, refl, sym, ap, ◌∙◌}
use mathlib.Core.Bool.{Bool, true, false, not, ◌&&◌, cond}
use mathlib.Core.Logic.{⊎_elim}
use Prim.Native.Nat.{ℕ, ◌+◌, ◌-◌, ◌*◌, ◌/◌, ◌%◌, ◌^◌, ◌≤◌, ◌<◌}
use native.Mathlib.Nat.{div-add-mod', zero-div, zero-mod}
use native.Mathlib.Omega.{arith}
use lib.Dec.{ltb, eqb}
use borrow.Author.Tests.{eq-eqb, ne_eqb, eqb-true, eqb-false, lt-ltb, le-ltb, ltb-false}
use Rattle.float_format.specs.Format.{Format, sign_bit, infinity, unsigned, signed, is_nan, is_infinite, is_zero}
use Rattle.float_format.specs.Number.{above, under, rank, below}
use Rattle.float_format.proofs.Units.{lt_or_ge, three_way}
use Rattle.float_format.proofs.Patterns.{nan_is, infinite_is, negative-signed, unsigned_signed}
use Rattle.float_format.proofs.Order.{rank_at, rank_order, rank_equal}
use Rattle.ordering.specs.Ordering.{same}

-- x's side of a comparison with y, in which no difference is taken
abbrev pub side : Format → ℕ → ℕ → ℕ
side f x y = above f x + under f y

-- x's number is below y's, as a fact
abbrev pub Below : Format → ℕ → ℕ → Type 0
Below f x y = side f x y < side f y x

-- ---- the order

module _ (f : Format) (x y : ℕ) where
  pub rank_below : rank f x < rank f y → Below f x y
  rank_below l = ⊎_elim (λ g. g) (λ h. omega (arith, (rank_order f y x).1 h)) (lt_or_ge (side f x y) (side f y x))

  pub below-rank : Below f x y → rank f x < rank f y
  below-rank l = ⊎_elim (λ g. g) (λ h. omega (arith, (rank_order f y x).0 h)) (lt_or_ge (rank f x) (rank f y))

  pub below_is : below f x y ≡ ltb (rank f x) (rank f y)
  below_is =
      ⊎_elim
      (λ l. lt-ltb (side f x y) (side f y x) (rank_below l) ∙ sym (lt-ltb (rank f x) (rank f y) l))
      (λ g. le-ltb (side f x y) (side f y x) ((rank_order f y x).0 g) ∙ sym (le-ltb (rank f x) (rank f y) g))
      (lt_or_ge (rank f x) (rank f y))

  same_where : rank f x ≡ rank f y → same f x y ≡ true
  same_where e = eq-eqb (side f x y) (side f y x) (omega (arith, (rank_equal f x y).0 e))

  pub differ_where : (rank f x ≡ rank f y → ⊥) → same f x y ≡ false
  differ_where n = ne_eqb (side f x y) (side f y x) (λ e. n ((rank_equal f x y).1 (omega arith, omega arith)))

  pub same_is : same f x y ≡ eqb (rank f x) (rank f y)
  same_is =
      three_way (rank f x) (rank f y)
      (λ l. differ_where (omega arith) ∙ sym (ne_eqb (rank f x) (rank f y) (omega arith)))
      (λ e. same_where e ∙ sym (eq-eqb (rank f x) (rank f y) e))
      (λ l. differ_where (omega arith) ∙ sym (ne_eqb (rank f x) (rank f y) (omega arith)))

-- of two numbers that are not the same, one is below the other
pub turned : (f : Format) (x y : ℕ) → same f x y ≡ false → below f y x ≡ not (below f x y)
turned f x y e = go (side f x y) (side f y x) (eqb-false (side f x y) (side f y x) e)
  where
    go : (a b : ℕ) → (a ≡ b → ⊥) → ltb b a ≡ not (ltb a b)
    go a b n =
        three_way a b
        (λ l. le-ltb b a (omega arith) ∙ sym (ap not (lt-ltb a b l)))
        (λ h. le-ltb b a (omega arith) ∙ sym (ap not (lt-ltb a b (omega arith))))
        (λ l. lt-ltb b a l ∙ sym (ap not (le-ltb a b (omega arith))))

-- ---- a pattern's rank by its sign and its rest

pub rank-signed : (f : Format) (s : Bool) (a : ℕ) → a < sign_bit f → rank f (signed f s a) ≡ cond s (sign_bit f - a) (sign_bit f + a)
rank-signed f s a h =
    rank_at f (signed f s a) s (negative-signed f a h s) ∙ ap (λ (n : ℕ). cond s (sign_bit f - n) (sign_bit f + n)) (unsigned_signed f a h s)

-- ---- classes

zero_fields : (P a : ℕ) → (eqb (a / P) 0 && eqb (a % P) 0) ≡ eqb a 0
zero_fields P a = pick (eqb (a / P) 0) (eqb (a % P) 0) refl refl
  where
    pick : (s t : Bool) → eqb (a / P) 0 ≡ s → eqb (a % P) 0 ≡ t → (s && t) ≡ eqb a 0
    pick true true e g =
        sym (eq-eqb a 0 (omega (arith, div-add-mod' a P, ap (λ (n : ℕ). n * P) (eqb-true (a / P) 0 e), eqb-true (a % P) 0 g)))
    pick true false e g = sym (ne_eqb a 0 (λ z. eqb-false (a % P) 0 g (ap (λ (n : ℕ). n % P) z ∙ zero-mod P)))
    pick false t e g = sym (ne_eqb a 0 (λ z. eqb-false (a / P) 0 e (ap (λ (n : ℕ). n / P) z ∙ zero-div P)))

module _ (f : Format) (x : ℕ) where
  pub zero_is : is_zero f x ≡ eqb (unsigned f x) 0
  unfolding is_zero
  zero_is = zero_fields (2 ^ f.fraction) (unsigned f x)

  pub nan_where : infinity f < unsigned f x → is_nan f x ≡ true
  nan_where l = nan_is f x ∙ lt-ltb (infinity f) (unsigned f x) l

  pub number_where : unsigned f x ≤ infinity f → is_nan f x ≡ false
  number_where l = nan_is f x ∙ le-ltb (infinity f) (unsigned f x) l

  pub number_rest : is_nan f x ≡ false → unsigned f x ≤ infinity f
  number_rest e = ltb-false (infinity f) (unsigned f x) (sym (nan_is f x) ∙ e)

  pub infinite_where : unsigned f x ≡ infinity f → is_infinite f x ≡ true
  infinite_where e = infinite_is f x ∙ eq-eqb (unsigned f x) (infinity f) e

  pub finite_where : (unsigned f x ≡ infinity f → ⊥) → is_infinite f x ≡ false
  finite_where n = infinite_is f x ∙ ne_eqb (unsigned f x) (infinity f) n
