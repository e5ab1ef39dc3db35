-- nextafter's refusal: 3 exactly where x is finite and the answer infinite; and that is exactly where x is the largest finite number of its
-- sign and y the infinity of that sign. The one idea: at either end of the order a rank tells the pattern. Over every valid format.
-- Assumes nothing.
use mathlib.Core.Path.{◌≡◌, refl, ap}
use mathlib.Core.Bool.{Bool, true, false}
use mathlib.Core.Logic.{◌⊎◌, inl, inr, ⊎_elim, ◌↔◌}
use Prim.Native.Nat.{ℕ, ◌+◌, ◌-◌, ◌*◌, ◌≤◌, ◌<◌}
use native.Mathlib.Omega.{arith}
use lib.Pow.{pow_mono}
use Rattle.float_format.specs.Format.{Format, Valid, sign_bit, infinity, negative, unsigned, is_nan}
use Rattle.float_format.specs.Number.{bias, rank}
use Rattle.float_format.proofs.Units.{lt_or_ge, three_way}
use Rattle.float_format.proofs.Patterns.{below_sign}
use Rattle.float_format.proofs.Integral.{room}
use Rattle.float_format.proofs.Order.{rank_at, rank_equal, infinity-below_sign}
use Rattle.float_format.proofs.Sizes.{plus, minus}
use Rattle.ordering.specs.Ordering.{nextafter, nextafter_refusal}
use Rattle.ordering.specs.Shape.{refusal}
use Rattle.ordering.proofs.Steps.{refusal_none, refusal_beyond, refusal_some}
use Rattle.ordering.proofs.Neighbours.{number_range, rank_up, rank_down, nextafter_equal}

-- refusal 3 exactly where x is finite and the answer infinite, and otherwise none
pub nextafter_refuses : (f : Format) (x y : ℕ)
    → (nextafter_refusal f x y ≡ 3 ↔ (unsigned f x < infinity f) × (unsigned f (nextafter f x y) ≡ infinity f))
    × ((nextafter_refusal f x y ≡ 0) ⊎ (nextafter_refusal f x y ≡ 3))
unfolding nextafter_refusal
nextafter_refuses f x y = ⊎_elim finite beyond (lt_or_ge (unsigned f x) (infinity f))
  where
    Answer : Type 0
    Answer =
        (refusal f x (nextafter f x y) ≡ 3 ↔ (unsigned f x < infinity f) × (unsigned f (nextafter f x y) ≡ infinity f))
        × ((refusal f x (nextafter f x y) ≡ 0) ⊎ (refusal f x (nextafter f x y) ≡ 3))

    none : refusal f x (nextafter f x y) ≡ 0 → ((unsigned f x < infinity f) × (unsigned f (nextafter f x y) ≡ infinity f) → ⊥) → Answer
    none e n = ((λ h. omega arith, λ w. omega (arith, n w)), inl e)

    beyond : infinity f ≤ unsigned f x → Answer
    beyond g = none (refusal_beyond f x (nextafter f x y) g) (λ w. omega arith)

    finite : unsigned f x < infinity f → Answer
    finite l = three_way (unsigned f (nextafter f x y)) (infinity f) (λ k. other (omega arith)) same (λ k. other (omega arith))
      where
        other : (unsigned f (nextafter f x y) ≡ infinity f → ⊥) → Answer
        other n = none (refusal_none f x (nextafter f x y) n) (λ w. n w.1)

        same : unsigned f (nextafter f x y) ≡ infinity f → Answer
        same e =
            let a : refusal f x (nextafter f x y) ≡ 3 = refusal_some f x (nextafter f x y) l e in
            ((λ h. (l, e), λ w. a), inr a)

-- ---- at the ends of the order

-- a pattern of either sign with the rest k, by its rank
module _ (f : Format) (x k : ℕ) (p : x < 2 * sign_bit f) (some : 0 < k) (h : k < sign_bit f) where
  rank_plus : rank f x ≡ sign_bit f + k → x ≡ k
  rank_plus e =
      ⊎_elim
      (λ l. omega (arith, (plus f x p l).1, rank_at f x false (plus f x p l).0))
      (λ g. omega (arith, rank_at f x true (minus f x p g).0))
      (lt_or_ge x (sign_bit f))

  plus_rank : x ≡ k → (rank f x ≡ sign_bit f + k) × (unsigned f x ≡ k)
  plus_rank e =
      let l : x < sign_bit f = omega arith in
      omega (arith, (plus f x p l).1, rank_at f x false (plus f x p l).0)

  rank_minus : rank f x + k ≡ sign_bit f → x ≡ sign_bit f + k
  rank_minus e =
      ⊎_elim
      (λ l. omega (arith, rank_at f x false (plus f x p l).0))
      (λ g. omega (arith, (minus f x p g).1, rank_at f x true (minus f x p g).0, below_sign f x))
      (lt_or_ge x (sign_bit f))

  minus_rank : x ≡ sign_bit f + k → (rank f x + k ≡ sign_bit f) × (unsigned f x ≡ k)
  minus_rank e =
      let g : sign_bit f ≤ x = omega arith in
      omega (arith, (minus f x p g).1, rank_at f x true (minus f x p g).0)

-- a rest by the rank, and the other way about
rest_ends : (f : Format) (x k : ℕ) → unsigned f x ≡ k → (rank f x ≡ sign_bit f + k) ⊎ (rank f x + k ≡ sign_bit f)
rest_ends f x k e = pick (negative f x) refl
  where
    pick : (s : Bool) → negative f x ≡ s → (rank f x ≡ sign_bit f + k) ⊎ (rank f x + k ≡ sign_bit f)
    pick true g = inr (omega (arith, rank_at f x true g, below_sign f x))
    pick false g = inl (omega (arith, rank_at f x false g))

ends_rest : (f : Format) (x k : ℕ) → 0 < k → (rank f x ≡ sign_bit f + k) ⊎ (rank f x + k ≡ sign_bit f) → unsigned f x ≡ k
ends_rest f x k some w = pick (negative f x) refl
  where
    pick : (s : Bool) → negative f x ≡ s → unsigned f x ≡ k
    pick true g =
        ⊎_elim (λ e. omega (arith, rank_at f x true g)) (λ e. omega (arith, rank_at f x true g, below_sign f x)) w
    pick false g =
        ⊎_elim (λ e. omega (arith, rank_at f x false g)) (λ e. omega (arith, rank_at f x false g)) w

-- a finite number's rank lies strictly between
finite_range : (f : Format) (x : ℕ) → unsigned f x < infinity f → (sign_bit f < rank f x + infinity f) × (rank f x < sign_bit f + infinity f)
finite_range f x h = pick (negative f x) refl
  where
    pick : (s : Bool) → negative f x ≡ s → (sign_bit f < rank f x + infinity f) × (rank f x < sign_bit f + infinity f)
    pick true g = omega (arith, rank_at f x true g, below_sign f x)
    pick false g = omega (arith, rank_at f x false g)

-- x the largest finite number of its sign, y the infinity of that sign: 7fefffffffffffff and 7ff0000000000000
abbrev pub Edge : Format → ℕ → ℕ → Type 0
Edge f x y = ((x ≡ infinity f - 1) × (y ≡ infinity f)) ⊎ ((x ≡ sign_bit f + (infinity f - 1)) × (y ≡ sign_bit f + infinity f))

module _ (f : Format) (x y : ℕ) (v : Valid f) (hx : is_nan f x ≡ false) (hy : is_nan f y ≡ false) where
  two : 2 ≤ infinity f
  two = omega (arith, (room f (bias f) v refl).whole, pow_mono {i = 1} {j = f.fraction} v.some_fraction)

  module _ (px : x < 2 * sign_bit f) (py : y < 2 * sign_bit f) where
    pub nextafter_refuses_at : nextafter_refusal f x y ≡ 3 ↔ Edge f x y
    nextafter_refuses_at = (λ h. there ((nextafter_refuses f x y).0.0 h), λ w. (nextafter_refuses f x y).0.1 (back w))
      where
        there : (unsigned f x < infinity f) × (unsigned f (nextafter f x y) ≡ infinity f) → Edge f x y
        there w = three_way (rank f x) (rank f y) up same down
          where
            range : (sign_bit f < rank f x + infinity f) × (rank f x < sign_bit f + infinity f)
            range = finite_range f x w.0

            ends : (rank f (nextafter f x y) ≡ sign_bit f + infinity f) ⊎ (rank f (nextafter f x y) + infinity f ≡ sign_bit f)
            ends = rest_ends f (nextafter f x y) (infinity f) w.1

            up : rank f x < rank f y → Edge f x y
            up l =
                let r : rank f (nextafter f x y) ≡ rank f x + 1 = rank_up f x y v hx hy l in
                let ry : (sign_bit f ≤ rank f y + infinity f) × (rank f y ≤ sign_bit f + infinity f) = number_range f y hy in
                ⊎_elim
                (λ e. inl (
                  rank_plus f x (infinity f - 1) px (omega (arith, two)) (omega (arith, infinity-below_sign f)) (omega (arith, two)),
                  rank_plus f y (infinity f) py (omega (arith, two)) (infinity-below_sign f) (omega arith),
                ))
                (λ e. absurd (omega (arith, range)))
                ends

            down : rank f y < rank f x → Edge f x y
            down l =
                let r : rank f (nextafter f x y) + 1 ≡ rank f x = rank_down f x y v hx hy l in
                let ry : (sign_bit f ≤ rank f y + infinity f) × (rank f y ≤ sign_bit f + infinity f) = number_range f y hy in
                ⊎_elim
                (λ e. absurd (omega (arith, range)))
                (λ e. inr (
                  rank_minus f x (infinity f - 1) px (omega (arith, two)) (omega (arith, infinity-below_sign f)) (omega (arith, two)),
                  rank_minus f y (infinity f) py (omega (arith, two)) (infinity-below_sign f) (omega arith),
                ))
                ends

            same : rank f x ≡ rank f y → Edge f x y
            same e =
                let r : rank f (nextafter f x y) ≡ rank f y =
                ap (rank f) (nextafter_equal f x y v hx hy ((rank_equal f x y).0 e).0 ((rank_equal f x y).0 e).1) in
                ⊎_elim (λ g. absurd (omega (arith, range))) (λ g. absurd (omega (arith, range))) ends

        back : Edge f x y → (unsigned f x < infinity f) × (unsigned f (nextafter f x y) ≡ infinity f)
        back w = ⊎_elim above under w
          where
            above : (x ≡ infinity f - 1) × (y ≡ infinity f) → (unsigned f x < infinity f) × (unsigned f (nextafter f x y) ≡ infinity f)
            above e =
                let a : (rank f x ≡ sign_bit f + (infinity f - 1)) × (unsigned f x ≡ infinity f - 1) =
                plus_rank f x (infinity f - 1) px (omega (arith, two)) (omega (arith, infinity-below_sign f)) e.0 in
                let b : (rank f y ≡ sign_bit f + infinity f) × (unsigned f y ≡ infinity f) =
                plus_rank f y (infinity f) py (omega (arith, two)) (infinity-below_sign f) e.1 in
                (omega (arith, two), ends_rest f (nextafter f x y) (infinity f) (omega (arith, two)) (inl (omega (arith, two, rank_up f x y v hx hy (omega (arith, two))))))

            under : (x ≡ sign_bit f + (infinity f - 1)) × (y ≡ sign_bit f + infinity f) → (unsigned f x < infinity f) × (unsigned f (nextafter f x y) ≡ infinity f)
            under e =
                let a : (rank f x + (infinity f - 1) ≡ sign_bit f) × (unsigned f x ≡ infinity f - 1) =
                minus_rank f x (infinity f - 1) px (omega (arith, two)) (omega (arith, infinity-below_sign f)) e.0 in
                let b : (rank f y + infinity f ≡ sign_bit f) × (unsigned f y ≡ infinity f) =
                minus_rank f y (infinity f) py (omega (arith, two)) (infinity-below_sign f) e.1 in
                (omega (arith, two), ends_rest f (nextafter f x y) (infinity f) (omega (arith, two)) (inr (omega (arith, two, rank_down f x y v hx hy (omega (arith, two))))))
