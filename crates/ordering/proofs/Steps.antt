-- nextafter in the code's own steps: what it is by the operands' classes, that the pattern beside x is x plus or minus one, and by how much
-- a step moves a pattern's rank: one, always. Over every valid format. Assumes nothing.
use mathlib.Core.Path.{◌≡◌, refl, sym, ap, ◌∙◌}
use mathlib.Core.Bool.{Bool, true, false, not, ◌&&◌, cond}
use mathlib.Core.Logic.{◌⊎◌, ⊎_elim}
use Prim.Native.Nat.{ℕ, ◌+◌, ◌-◌, ◌*◌, ◌%◌, ◌≤◌, ◌<◌}
use native.Mathlib.Omega.{arith}
use lib.Pow.{pow_mono}
use borrow.Author.Tests.{eq-eqb, ne_eqb}
use Rattle.float_format.specs.Format.{Format, Valid, sign_bit, infinity, negative, unsigned, signed, is_nan, is_infinite, quieted}
use Rattle.float_format.specs.Number.{bias, rank, below}
use Rattle.float_format.proofs.Units.{lt_or_ge, three_way}
use Rattle.float_format.proofs.Patterns.{unsigned_signed, signed_lt}
use Rattle.float_format.proofs.Integral.{room}
use Rattle.float_format.proofs.Order.{rank_at}
use Rattle.float_format.proofs.Sizes as sizes
use Rattle.ordering.specs.Ordering.{same, nextafter, nextafter_refusal}
use Rattle.ordering.specs.Shape.{Nonzero, moved, refusal}
use Rattle.ordering.proofs.Ranks.{turned, zero_is, nan_where, number_where, infinite_where, finite_where, rank-signed}

-- beyond infinity's pattern there is room for one more
pub room_beyond : (f : Format) → Valid f → infinity f + 1 < sign_bit f
room_beyond f v = omega (arith, (room f (bias f) v refl).top, pow_mono {i = 1} {j = f.fraction} v.some_fraction)

-- ---- the pattern beside x

module _ (f : Format) (up : Bool) (x : ℕ) where
  -- the rest of it, s being x's sign
  abbrev beside : Bool → ℕ
  beside s = cond (cond s (not up) up) (unsigned f x + 1) (unsigned f x - 1)

  pub moved_at : (s : Bool) → negative f x ≡ s → moved f up x ≡ signed f s (beside s)
  unfolding moved
  moved_at s e = ap (λ (t : Bool). signed f t (beside t)) e

  beside_lt : unsigned f x + 1 < sign_bit f → (s : Bool) → beside s < sign_bit f
  beside_lt h s = pick (cond s (not up) up)
    where
      pick : (t : Bool) → cond t (unsigned f x + 1) (unsigned f x - 1) < sign_bit f
      pick true = h
      pick false = omega arith

  pub moved_lt : unsigned f x + 1 < sign_bit f → moved f up x < 2 * sign_bit f
  moved_lt h = rw (moved_at (negative f x) refl) (signed_lt f (beside (negative f x)) (beside_lt h (negative f x)) (negative f x))

  -- where it is a zero, it has x's sign
  pub moved_zero : unsigned f x + 1 < sign_bit f → unsigned f (moved f up x) ≡ 0 → moved f up x ≡ signed f (negative f x) 0
  moved_zero h e =
      let m : moved f up x ≡ signed f (negative f x) (beside (negative f x)) = moved_at (negative f x) refl in
      let z : beside (negative f x) ≡ 0 =
      sym (unsigned_signed f (beside (negative f x)) (beside_lt h (negative f x)) (negative f x)) ∙ sym (ap (unsigned f) m) ∙ e in
      m ∙ ap (signed f (negative f x)) z

-- a step moves the rank by one
module _ (f : Format) (x : ℕ) (some : 0 < unsigned f x) (h : unsigned f x + 1 < sign_bit f) where
  pub moved-rank : (up : Bool) → rank f (moved f up x) + cond up 0 1 ≡ rank f x + cond up 1 0
  moved-rank up = pick up (negative f x) refl
    where
      pick : (up s : Bool) → negative f x ≡ s → rank f (moved f up x) + cond up 0 1 ≡ rank f x + cond up 1 0
      pick true true e =
          omega (arith, ap (rank f) (moved_at f true x true e), rank-signed f true (unsigned f x - 1) (omega arith), rank_at f x true e)
      pick true false e =
          omega (arith, ap (rank f) (moved_at f true x false e), rank-signed f false (unsigned f x + 1) h, rank_at f x false e)
      pick false true e =
          omega (arith, ap (rank f) (moved_at f false x true e), rank-signed f true (unsigned f x + 1) h, rank_at f x true e)
      pick false false e =
          omega (arith, ap (rank f) (moved_at f false x false e), rank-signed f false (unsigned f x - 1) (omega arith), rank_at f x false e)

-- a select, by the arm that gave its value
pub selected : (t : Bool) (r a b : ℕ) → ((t ≡ true) × (r ≡ a)) ⊎ ((t ≡ false) × (r ≡ b)) → r ≡ cond t a b
selected t r a b w =
    ⊎_elim (λ g. g.1 ∙ sym (ap (λ (u : Bool). cond u a b) g.0)) (λ g. g.1 ∙ sym (ap (λ (u : Bool). cond u a b) g.0)) w

-- as the code steps: x plus or minus one
module _ (f : Format) (x : ℕ) (n : Nonzero f x) where
  pub step_room : Valid f → (1 ≤ x) × (x + 1 < 2 * sign_bit f)
  step_room v =
      ⊎_elim
      (λ l. omega (arith, n.some, n.most, (sizes.plus f x n.pattern l).1, room_beyond f v))
      (λ g. omega (arith, n.some, n.most, (sizes.minus f x n.pattern g).1, room_beyond f v))
      (lt_or_ge x (sign_bit f))

  pub step_plus : x < sign_bit f → (up : Bool) → cond up (x + 1) (x - 1) ≡ moved f up x
  step_plus l true = omega (arith, moved_at f true x false (sizes.plus f x n.pattern l).0, (sizes.plus f x n.pattern l).1)
  step_plus l false = omega (arith, moved_at f false x false (sizes.plus f x n.pattern l).0, (sizes.plus f x n.pattern l).1)

  pub step_minus : sign_bit f ≤ x → (up : Bool) → cond up (x - 1) (x + 1) ≡ moved f up x
  step_minus g true = omega (arith, moved_at f true x true (sizes.minus f x n.pattern g).0, (sizes.minus f x n.pattern g).1)
  step_minus g false = omega (arith, moved_at f false x true (sizes.minus f x n.pattern g).0, (sizes.minus f x n.pattern g).1)

-- ---- nextafter, by its operands

module _ (f : Format) (x y : ℕ) where
  pub at_first_nan : is_nan f x ≡ true → nextafter f x y ≡ quieted f x
  unfolding nextafter
  at_first_nan e = simp e

  pub at_second_nan : is_nan f x ≡ false → is_nan f y ≡ true → nextafter f x y ≡ quieted f y
  unfolding nextafter
  at_second_nan e g = simp (e, g)

  module _ (hx : is_nan f x ≡ false) (hy : is_nan f y ≡ false) where
    pub at_same : same f x y ≡ true → nextafter f x y ≡ y
    unfolding nextafter
    at_same e = simp (hx, hy, e)

    module _ (d : same f x y ≡ false) where
      pub at_zero : unsigned f x ≡ 0 → nextafter f x y ≡ signed f (negative f y) 1
      unfolding nextafter
      at_zero z = simp (hx, hy, d, zero_is f x ∙ eq-eqb (unsigned f x) 0 z)

      pub at_number : (unsigned f x ≡ 0 → ⊥) → nextafter f x y ≡ moved f (below f x y) x
      unfolding nextafter moved
      at_number n = simp (hx, hy, d, zero_is f x ∙ ne_eqb (unsigned f x) 0 n, turned f x y d)

      -- by the code's ranks, and that the answer is a pattern
      pub stepped : (t : Bool) (r : ℕ) → Valid f → 0 < unsigned f x → unsigned f x ≤ infinity f → t ≡ below f x y → r ≡ moved f t x
          → (r ≡ nextafter f x y) × (r < 2 * sign_bit f)
      stepped t r v some most e g = (
        g ∙ ap (λ (b : Bool). moved f b x) e ∙ sym (at_number (omega arith)),
        rw g (moved_lt f t x (omega (arith, room_beyond f v))),
      )

      pub from_zero : (r : ℕ) → Valid f → y < 2 * sign_bit f → unsigned f x ≡ 0 → r ≡ y - y % sign_bit f
          → (r + 1 ≡ nextafter f x y) × (r + 1 < 2 * sign_bit f)
      from_zero r v p z g =
          let e : r ≡ signed f (negative f y) 0 = g ∙ sizes.zero_is f y p in
          (omega arith ∙ sym (at_zero z), omega (arith, signed_lt f 1 (omega (arith, room_beyond f v)) (negative f y)))

-- ---- the refusal of an answer w

module _ (f : Format) (x w : ℕ) where
  pub refusal_none : (unsigned f w ≡ infinity f → ⊥) → refusal f x w ≡ 0
  refusal_none n = ap (λ (t : Bool). cond (not (is_nan f x) && not (is_infinite f x) && t) 3 0) (finite_where f w n) ∙ pick (not (is_nan f x)) (not (is_infinite f x))
    where
      pick : (s t : Bool) → ◌≡◌ {A = ℕ} (cond (s && t && false) 3 0) 0
      pick true true = refl
      pick true false = refl
      pick false t = refl

  pub refusal_beyond : infinity f ≤ unsigned f x → refusal f x w ≡ 0
  refusal_beyond g = three_way (infinity f) (unsigned f x) nan infinite (λ l. omega arith)
    where
      nan : infinity f < unsigned f x → refusal f x w ≡ 0
      nan l = simp (nan_where f x l)

      infinite : infinity f ≡ unsigned f x → refusal f x w ≡ 0
      infinite e = simp (number_where f x (omega arith), infinite_where f x (sym e))

  pub refusal_some : unsigned f x < infinity f → unsigned f w ≡ infinity f → refusal f x w ≡ 3
  refusal_some l e = simp (number_where f x (omega arith), finite_where f x (omega arith), infinite_where f w e)

pub refusal_by_lem : (f : Format) (x y w r : ℕ) → w ≡ nextafter f x y → r ≡ refusal f x w → r ≡ nextafter_refusal f x y
unfolding nextafter_refusal
refusal_by_lem f x y w r e g = g ∙ ap (refusal f x) e
