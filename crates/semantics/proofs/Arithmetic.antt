-- What add, subtract and multiply give and what they are refused for, in a run and on a sheet, stated apart from how the rules test for it. Assumes
-- nothing.
use mathlib.Core.Path.{◌≡◌, refl, sym, ap, ◌∙◌}
use mathlib.Core.Bool.{Bool, true, false, ◌||◌, cond}
use Prim.Native.Nat.{ℕ}
use lib.IntN.{ℤ}
use Rattle.float_format.specs.Format.{binary64, is_infinite}
use Rattle.arithmetic.specs.Arithmetic.{sum, difference, product}
use Rattle.semantics.specs.Value.{double, done, worked, rule_of}
use Rattle.semantics.specs.Value as value
use Rattle.semantics.specs.Range.{Range, doubles, ranged, refused, infinite_end, worked_range, infinite_sum, infinite_difference, infinite_product, sum_range, difference_range, product_range, sum_low, sum_high, difference_low, difference_high, product_low, product_high}
use Rattle.semantics.proofs.Sound.Kept.{never}
use Rattle.semantics.proofs.Sound.Products.{infinite_products}

-- ---- a run

-- A run refuses each with 20 for an infinite operand, whatever the answer r, ..
pub infinite_operand_refused : (x y r : ℕ) → (is_infinite binary64 x || is_infinite binary64 y) ≡ true → worked x y r ≡ value.refused 20
infinite_operand_refused x y r e = rw e

-- .. then with 21 for an infinite answer, ..
pub infinite_answer_refused : (x y r : ℕ) → (is_infinite binary64 x || is_infinite binary64 y) ≡ false → is_infinite binary64 r ≡ true → worked x y r ≡ value.refused 21
infinite_answer_refused x y r e g = rw (e, g)

-- .. and so gives no infinite value.
pub no_infinite_answer : (x y r z : ℕ) → worked x y r ≡ done (double z) → is_infinite binary64 z ≡ false
no_infinite_answer x y r z e = pick (is_infinite binary64 x || is_infinite binary64 y) (is_infinite binary64 r) refl e
  where
    pick : (s t : Bool) → is_infinite binary64 r ≡ t → cond s (value.refused 20) (cond t (value.refused 21) (done (double r))) ≡ done (double z) → is_infinite binary64 z ≡ false
    pick true t g e = never (cc)
    pick false true g e = never (cc)
    pick false false g e = let q : r ≡ z = cc in rw q at g

-- Of operands that are not infinite a step gives the sum, the difference or the product, rounded once, where that is not infinite.
module _ (p w x y : ℕ) (m n : ℤ) (fx : is_infinite binary64 x ≡ false) (fy : is_infinite binary64 y ≡ false) where
  pub add_gives : is_infinite binary64 (sum binary64 x y) ≡ false → rule_of 0x40 p w x y m n ≡ done (double (sum binary64 x y))
  unfolding rule_of
  add_gives e = rw (fx, fy, e)

  pub subtract_gives : is_infinite binary64 (difference binary64 x y) ≡ false → rule_of 0x41 p w x y m n ≡ done (double (difference binary64 x y))
  unfolding rule_of
  subtract_gives e = rw (fx, fy, e)

  pub multiply_gives : is_infinite binary64 (product binary64 x y) ≡ false → rule_of 0x42 p w x y m n ≡ done (double (product binary64 x y))
  unfolding rule_of
  multiply_gives e = rw (fx, fy, e)

-- ---- a sheet

module _ (a b : Range) where
  -- A sheet refuses each with 20 for an infinite end of either operand, whatever the answer's ends, ..
  pub infinite_ends_refused : (infinite_end a || infinite_end b) ≡ true → (sum_range a b ≡ refused 20) × (difference_range a b ≡ refused 20) × (product_range a b ≡ refused 20)
  infinite_ends_refused e = rw e (refl, refl, refl)

  -- .. then with 21 for an infinite end sum, end difference or end product.
  pub infinite_sum_refused : (infinite_end a || infinite_end b) ≡ false → infinite_sum a b ≡ true → sum_range a b ≡ refused 21
  infinite_sum_refused e g = rw (e, g)

  pub infinite_difference_refused : (infinite_end a || infinite_end b) ≡ false → infinite_difference a b ≡ true → difference_range a b ≡ refused 21
  infinite_difference_refused e g = rw (e, g)

  pub infinite_product_refused : (infinite_end a || infinite_end b) ≡ false → infinite_product a b ≡ true → product_range a b ≡ refused 21
  infinite_product_refused e g = rw (e, g)

  -- A range that is given has finite ends, ..
  worked_finite : (over : Bool) (l h : ℕ) (r : Range) → over ≡ (is_infinite binary64 l || is_infinite binary64 h) → worked_range a b over l h ≡ ranged r → infinite_end r ≡ false
  worked_finite over l h r o e = pick (infinite_end a || infinite_end b) over refl e
    where
      pick : (s t : Bool) → over ≡ t → cond s (refused 20) (cond t (refused 21) (ranged (doubles l h))) ≡ ranged r → infinite_end r ≡ false
      pick true t g e = never (cc)
      pick false true g e = never (cc)
      pick false false g e = let q : r ≡ doubles l h = cc in ap infinite_end q ∙ sym o ∙ g

  pub sum_finite : (r : Range) → sum_range a b ≡ ranged r → infinite_end r ≡ false
  sum_finite r e = worked_finite (infinite_sum a b) (sum_low a b) (sum_high a b) r refl e

  pub difference_finite : (r : Range) → difference_range a b ≡ ranged r → infinite_end r ≡ false
  difference_finite r e = worked_finite (infinite_difference a b) (difference_low a b) (difference_high a b) r refl e

  -- .. multiply's too, although its rule looks at the four end products.
  pub product_finite : (r : Range) → product_range a b ≡ ranged r → infinite_end r ≡ false
  product_finite r e = worked_finite (infinite_product a b) (product_low a b) (product_high a b) r (infinite_products a b) e
