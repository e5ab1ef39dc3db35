-- A sum by the signs of its terms: magnitudes are added, or the smaller is taken from the larger. Over every format. Assumes nothing.
use mathlib.Core.Path.{◌≡◌, ap, ◌∙◌}
use mathlib.Core.Bool.{Bool, true, false, not, ◌&&◌, ◌||◌}
use Prim.Native.Nat.{ℕ, ◌+◌, ◌-◌, ◌<◌}
use native.Mathlib.Omega.{arith}
use lib.Dec.{ltb}
use borrow.Author.Tests.{lt-ltb, le-ltb}
use Rattle.float_format.specs.Format.{Format, negative}
use Rattle.float_format.specs.Number.{units_of, above, under, distance}
use Rattle.float_format.specs.Rounding.{rounded}
use Rattle.float_format.proofs.Order.{above_at, under_at}
use Rattle.arithmetic.specs.Arithmetic.{sum_at, sum}

sum_at_lem : (f : Format) (both s : Bool) (p m n : ℕ) → both || ltb p m ≡ s → distance p m ≡ n → sum_at f both p m ≡ rounded f s n 1
sum_at_lem f both s p m n e d = ap (λ (t : Bool). rounded f t (distance p m) 1) e ∙ ap (λ (y : ℕ). rounded f s y 1) d

module _ (f : Format) (x y : ℕ) where
  pub sum_same : (s : Bool) → negative f x ≡ s → negative f y ≡ s → sum f x y ≡ rounded f s (units_of f x + units_of f y) 1
  unfolding sum
  sum_same true ex ey =
      sum_at_lem f (negative f x && negative f y) true (above f x + above f y) (under f x + under f y) (units_of f x + units_of f y) (simp (ex, ey))
      (omega (arith, above_at f x true ex, above_at f y true ey, under_at f x true ex, under_at f y true ey))
  sum_same false ex ey =
      sum_at_lem f (negative f x && negative f y) false (above f x + above f y) (under f x + under f y) (units_of f x + units_of f y)
      (simp (ex, ey) (le-ltb (above f x + above f y) (under f x + under f y) (omega (arith, under_at f x false ex, under_at f y false ey))))
      (omega (arith, above_at f x false ex, above_at f y false ey, under_at f x false ex, under_at f y false ey))

  pub sum_unlike : (s : Bool) → negative f x ≡ s → negative f y ≡ not s → units_of f y < units_of f x → sum f x y ≡ rounded f s (units_of f x - units_of f y) 1
  unfolding sum
  sum_unlike true ex ey l =
      sum_at_lem f (negative f x && negative f y) true (above f x + above f y) (under f x + under f y) (units_of f x - units_of f y)
      (simp (ex, ey) (lt-ltb (above f x + above f y) (under f x + under f y) (omega (arith, above_at f x true ex, above_at f y false ey, under_at f x true ex, under_at f y false ey))))
      (omega (arith, above_at f x true ex, above_at f y false ey, under_at f x true ex, under_at f y false ey))
  sum_unlike false ex ey l =
      sum_at_lem f (negative f x && negative f y) false (above f x + above f y) (under f x + under f y) (units_of f x - units_of f y)
      (simp (ex, ey) (le-ltb (above f x + above f y) (under f x + under f y) (omega (arith, above_at f x false ex, above_at f y true ey, under_at f x false ex, under_at f y true ey))))
      (omega (arith, above_at f x false ex, above_at f y true ey, under_at f x false ex, under_at f y true ey))

  pub sum_opposite : (s : Bool) → negative f x ≡ s → negative f y ≡ not s → units_of f y ≡ units_of f x → sum f x y ≡ rounded f false 0 1
  unfolding sum
  sum_opposite true ex ey l =
      sum_at_lem f (negative f x && negative f y) false (above f x + above f y) (under f x + under f y) 0
      (simp (ex, ey) (le-ltb (above f x + above f y) (under f x + under f y) (omega (arith, above_at f x true ex, above_at f y false ey, under_at f x true ex, under_at f y false ey))))
      (omega (arith, above_at f x true ex, above_at f y false ey, under_at f x true ex, under_at f y false ey))
  sum_opposite false ex ey l =
      sum_at_lem f (negative f x && negative f y) false (above f x + above f y) (under f x + under f y) 0
      (simp (ex, ey) (le-ltb (above f x + above f y) (under f x + under f y) (omega (arith, above_at f x false ex, above_at f y true ey, under_at f x false ex, under_at f y true ey))))
      (omega (arith, above_at f x false ex, above_at f y true ey, under_at f x false ex, under_at f y true ey))
