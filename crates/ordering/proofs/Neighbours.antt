-- nextafter: equal operands give the second; otherwise the answer lies beyond x on y's side, not past y, and no number lies between; from
-- zero it is the smallest subnormal of y's sign, and a zero reached has x's sign.
-- The one idea: a step moves the rank by one, and ranks compare as numbers do. Over every valid format. Assumes nothing.
use mathlib.Core.Path.{◌≡◌, refl, sym, ap, ◌∙◌}
use mathlib.Core.Bool.{Bool, true, false, cond}
use Prim.Native.Nat.{ℕ, ◌+◌, ◌-◌, ◌≤◌, ◌<◌}
use native.Mathlib.Omega.{arith}
use lib.Dec.{ltb}
use borrow.Author.Tests.{eq-eqb, lt-ltb, le-ltb, ltb-true, ltb-false}
use Rattle.float_format.specs.Format.{Format, Valid, sign_bit, infinity, negative, unsigned, signed, is_nan, quieted}
use Rattle.float_format.specs.Number.{AtMost, rank, below}
use Rattle.float_format.proofs.Units.{three_way}
use Rattle.float_format.proofs.Patterns.{below_sign, unsigned_signed}
use Rattle.float_format.proofs.Order.{rank_at, rank_equal}
use Rattle.ordering.specs.Ordering.{nextafter}
use Rattle.ordering.specs.Shape.{moved}
use Rattle.ordering.proofs.Ranks.{side, Below, below-rank, rank_below, below_is, differ_where, rank-signed, number_rest, number_where}
use Rattle.ordering.proofs.Steps.{room_beyond, moved-rank, moved_zero, at_first_nan, at_second_nan, at_same, at_zero, at_number}

-- ---- a number's rank lies between those of the infinities, and a zero's is in the middle

pub number_range : (f : Format) (x : ℕ) → is_nan f x ≡ false → (sign_bit f ≤ rank f x + infinity f) × (rank f x ≤ sign_bit f + infinity f)
number_range f x e = pick (negative f x) refl
  where
    h : unsigned f x ≤ infinity f
    h = number_rest f x e

    pick : (s : Bool) → negative f x ≡ s → (sign_bit f ≤ rank f x + infinity f) × (rank f x ≤ sign_bit f + infinity f)
    pick true g = omega (arith, rank_at f x true g, below_sign f x, h)
    pick false g = omega (arith, rank_at f x false g, below_sign f x, h)

range_number : (f : Format) (x : ℕ) → sign_bit f ≤ rank f x + infinity f → rank f x ≤ sign_bit f + infinity f → is_nan f x ≡ false
range_number f x lo hi = number_where f x (pick (negative f x) refl)
  where
    pick : (s : Bool) → negative f x ≡ s → unsigned f x ≤ infinity f
    pick true g = omega (arith, rank_at f x true g, below_sign f x)
    pick false g = omega (arith, rank_at f x false g, below_sign f x)

zero_rank : (f : Format) (x : ℕ) → unsigned f x ≡ 0 → rank f x ≡ sign_bit f
zero_rank f x z = pick (negative f x) refl
  where
    pick : (s : Bool) → negative f x ≡ s → rank f x ≡ sign_bit f
    pick true g = omega (arith, rank_at f x true g)
    pick false g = omega (arith, rank_at f x false g)

-- ---- the step

module _ (f : Format) (x y : ℕ) (v : Valid f) (hx : is_nan f x ≡ false) (hy : is_nan f y ≡ false) where
  grows : unsigned f x + 1 < sign_bit f
  grows = omega (arith, number_rest f x hx, room_beyond f v)

  -- by one in rank, towards y
  rank_step : (rank f x ≡ rank f y → ⊥) → (t : Bool) → ltb (rank f x) (rank f y) ≡ t
      → rank f (nextafter f x y) + cond t 0 1 ≡ rank f x + cond t 1 0
  rank_step n t e = three_way 0 (unsigned f x) some (λ z. zero (sym z) (negative f y) refl t e) (λ l. omega arith)
    where
      some : 0 < unsigned f x → rank f (nextafter f x y) + cond t 0 1 ≡ rank f x + cond t 1 0
      some l =
          let m : nextafter f x y ≡ moved f t x =
          at_number f x y hx hy (differ_where f x y n) (omega arith) ∙ ap (λ (b : Bool). moved f b x) (below_is f x y ∙ e) in
          rw m (moved-rank f x l grows t)

      -- on y's side of zero
      zero : unsigned f x ≡ 0 → (s : Bool) → negative f y ≡ s → (t : Bool) → ltb (rank f x) (rank f y) ≡ t
          → rank f (nextafter f x y) + cond t 0 1 ≡ rank f x + cond t 1 0
      zero z s g t e =
          let r : nextafter f x y ≡ signed f s 1 = at_zero f x y hx hy (differ_where f x y n) z ∙ ap (λ (b : Bool). signed f b 1) g in
          go s t e (zero_rank f x z) (rank_at f y s g) (below_sign f y) (ap (rank f) r ∙ rank-signed f s 1 (omega (arith, room_beyond f v)))
        where
          go : (s t : Bool) → ltb (rank f x) (rank f y) ≡ t → rank f x ≡ sign_bit f
              → rank f y ≡ cond s (sign_bit f - unsigned f y) (sign_bit f + unsigned f y) → unsigned f y < sign_bit f
              → rank f (nextafter f x y) ≡ cond s (sign_bit f - 1) (sign_bit f + 1)
              → rank f (nextafter f x y) + cond t 0 1 ≡ rank f x + cond t 1 0
          go true true e a b c d = omega (arith, ltb-true (rank f x) (rank f y) e)
          go true false e a b c d = omega (arith, ltb-false (rank f x) (rank f y) e)
          go false true e a b c d = omega (arith, ltb-true (rank f x) (rank f y) e)
          go false false e a b c d = omega (arith, ltb-false (rank f x) (rank f y) e)

  pub rank_up : rank f x < rank f y → rank f (nextafter f x y) ≡ rank f x + 1
  rank_up l = omega (arith, rank_step (omega arith) true (lt-ltb (rank f x) (rank f y) l))

  pub rank_down : rank f y < rank f x → rank f (nextafter f x y) + 1 ≡ rank f x
  rank_down l = omega (arith, rank_step (omega arith) false (le-ltb (rank f x) (rank f y) (omega arith)))

-- ---- what a user would state

-- x's number is above y's
abbrev pub Above : Format → ℕ → ℕ → Type 0
Above f x y = Below f y x

-- the number r next to x on the side of y, L being the order in which y lies beyond x
pub record Next (f : Format) (L : ℕ → ℕ → Type 0) (x y r : ℕ) : Type 0 where
  pub number : is_nan f r ≡ false
  pub beyond : L x r
  -- not past y
  pub within : L y r → ⊥
  -- no pattern lies between: z may be any, as what is not a number counts by the same rule
  pub nearest : (z : ℕ) → L x z → L z r → ⊥

-- the first NaN is quieted
pub nextafter_nan : (f : Format) (x y : ℕ)
    → (is_nan f x ≡ true → nextafter f x y ≡ quieted f x) × (is_nan f x ≡ false → is_nan f y ≡ true → nextafter f x y ≡ quieted f y)
nextafter_nan f x y = (at_first_nan f x y, at_second_nan f x y)

module _ (f : Format) (x y : ℕ) (v : Valid f) (hx : is_nan f x ≡ false) (hy : is_nan f y ≡ false) where
  -- equal operands give the second
  pub nextafter_equal : AtMost f x y → AtMost f y x → nextafter f x y ≡ y
  nextafter_equal l g = at_same f x y hx hy (eq-eqb (side f x y) (side f y x) (omega arith))

  -- otherwise the neighbour of x towards y
  pub nextafter_up : Below f x y → Next f (Below f) x y (nextafter f x y)
  nextafter_up l =
      let lr : rank f x < rank f y = below-rank f x y l in
      let e : rank f (nextafter f x y) ≡ rank f x + 1 = rank_up f x y v hx hy lr in
      record {
        number = range_number f (nextafter f x y) (omega (arith, number_range f x hx)) (omega (arith, number_range f y hy));
        beyond = rank_below f x (nextafter f x y) (omega arith);
        within = λ a. omega (arith, below-rank f y (nextafter f x y) a);
        nearest = λ z a b. omega (arith, below-rank f x z a, below-rank f z (nextafter f x y) b);
      }

  pub nextafter_down : Above f x y → Next f (Above f) x y (nextafter f x y)
  nextafter_down l =
      let lr : rank f y < rank f x = below-rank f y x l in
      let e : rank f (nextafter f x y) + 1 ≡ rank f x = rank_down f x y v hx hy lr in
      record {
        number = range_number f (nextafter f x y) (omega (arith, number_range f y hy)) (omega (arith, number_range f x hx));
        beyond = rank_below f (nextafter f x y) x (omega arith);
        within = λ a. omega (arith, below-rank f (nextafter f x y) y a);
        nearest = λ z a b. omega (arith, below-rank f z x a, below-rank f (nextafter f x y) z b);
      }

  module _ (d : AtMost f x y → AtMost f y x → ⊥) where
    differ : rank f x ≡ rank f y → ⊥
    differ e = d ((rank_equal f x y).0 e).0 ((rank_equal f x y).0 e).1

    -- from zero the smallest subnormal of y's sign
    pub nextafter_from_zero : unsigned f x ≡ 0 → nextafter f x y ≡ signed f (negative f y) 1
    nextafter_from_zero z = at_zero f x y hx hy (differ_where f x y differ) z

    -- a zero reached has x's sign
    pub nextafter_to_zero : unsigned f (nextafter f x y) ≡ 0 → nextafter f x y ≡ signed f (negative f x) 0
    nextafter_to_zero e = three_way 0 (unsigned f x) some (λ z. none (sym z)) (λ l. omega arith)
      where
        some : 0 < unsigned f x → nextafter f x y ≡ signed f (negative f x) 0
        some l =
            let m : nextafter f x y ≡ moved f (below f x y) x = at_number f x y hx hy (differ_where f x y differ) (omega arith) in
            m ∙ moved_zero f (below f x y) x (grows f x y v hx hy) (sym (ap (unsigned f) m) ∙ e)

        none : unsigned f x ≡ 0 → nextafter f x y ≡ signed f (negative f x) 0
        none z =
            let one : unsigned f (nextafter f x y) ≡ 1 =
            ap (unsigned f) (nextafter_from_zero z) ∙ unsigned_signed f 1 (omega (arith, room_beyond f v)) (negative f y) in
            omega arith
