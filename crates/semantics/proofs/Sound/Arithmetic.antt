-- The range rules of add, subtract and multiply. Rounding is monotone, so sums and differences are, in each operand, and a product lies between two of
-- the four end products; between finite operands and finite ends no answer is infinite. Assumes nothing.
use mathlib.Core.Path.{◌≡◌, refl, sym, ◌∙◌}
use mathlib.Core.Bool.{Bool, true, false, ◌||◌, cond}
use Prim.Native.Nat.{ℕ}
use Rattle.float_format.specs.Format.{binary64, is_nan, is_infinite}
use Rattle.float_format.specs.Number.{AtMost}
use Rattle.float_format.proofs.Order.{at_most_trans}
use Rattle.arithmetic.specs.Arithmetic.{sum, difference, product}
use Rattle.arithmetic.proofs.Laws.{OneOf, is_p, is_q, is_r, is_s, sum_mono, sum_number, difference_mono, difference-number, product_from, product_upto}
use Rattle.semantics.specs.Value.{Datum, double, as_double, worked}
use Rattle.semantics.specs.Range.{Range, doubles, low, high, ranged, infinite_end, sum_low, sum_high, difference_low, difference_high, product_low, product_high, worked_range, sum_range, difference_range, product_range, infinite_sum, infinite_difference, infinite_product}
use Rattle.semantics.specs.Range as range
use Rattle.semantics.specs.Promise.{Lies, Proper}
use Rattle.semantics.proofs.Sound.Kept.{no_or, Kept, Between, valid, number_of, held_double, between}
use Rattle.semantics.proofs.Sound.Floats.{between_finite}
use Rattle.semantics.proofs.Sound.Fractions.{finite_end}
use Rattle.semantics.proofs.Sound.Products.{Spans, not_infinite, product-real, end_products, infinite_products}

pub sum-real : (x y : ℕ) → is_nan binary64 (sum binary64 x y) ≡ false
sum-real x y = number_of (sum binary64 x y) (sum_number binary64 x y)

pub difference-real : (x y : ℕ) → is_nan binary64 (difference binary64 x y) ≡ false
difference-real x y = number_of (difference binary64 x y) (difference-number binary64 x y)

-- between ends that are not infinite
not_infinite_inside : {l h x : ℕ} → Between l h x → (is_infinite binary64 l || is_infinite binary64 h) ≡ false → is_infinite binary64 x ≡ false
not_infinite_inside {l} {h} {x} b e =
    let p : (is_infinite binary64 l ≡ false) × (is_infinite binary64 h ≡ false) = no_or (is_infinite binary64 l) (is_infinite binary64 h) e in
    not_infinite x (between_finite l h x (finite_end l b.low-number p.0) (finite_end h b.high-number p.1) b.from b.upto)

module _ {l h x l' h' y : ℕ} (b : Between l h x) (b' : Between l' h' y) where
  abbrev a : Range
  a = doubles l h

  abbrev c : Range
  c = doubles l' h'

  -- ---- where the answer lies

  sum-between : Between (sum_low a c) (sum_high a c) (sum binary64 x y)
  sum-between =
      record {
        low-number = sum-real l l';
        high-number = sum-real h h';
        number = sum-real x y;
        from = sum_mono binary64 valid l x l' y b.from b'.from;
        upto = sum_mono binary64 valid x h y h' b.upto b'.upto;
      }

  difference-between : Between (difference_low a c) (difference_high a c) (difference binary64 x y)
  difference-between =
      record {
        low-number = difference-real l h';
        high-number = difference-real h l';
        number = difference-real x y;
        from = difference_mono binary64 valid l x h' y b.from b'.upto;
        upto = difference_mono binary64 valid x h y l' b.upto b'.from;
      }

  product-between : Between (product_low a c) (product_high a c) (product binary64 x y)
  product-between =
      record {
        low-number = e.low-number;
        high-number = e.high-number;
        number = product-real x y;
        from = from (product_from binary64 valid l h l' h' x y b.from b.upto b'.from b'.upto);
        upto = upto (product_upto binary64 valid l h l' h' x y b.from b.upto b'.from b'.upto);
      }
    where
      e : Spans (product binary64 l l') (product binary64 l h') (product binary64 h l') (product binary64 h h') (product_low a c) (product_high a c)
      e = end_products a c

      least : (w : ℕ) → AtMost binary64 (product_low a c) w → AtMost binary64 w (product binary64 x y) → AtMost binary64 (product_low a c) (product binary64 x y)
      least w g k = at_most_trans binary64 (product_low a c) w (product binary64 x y) g k

      most : (w : ℕ) → AtMost binary64 (product binary64 x y) w → AtMost binary64 w (product_high a c) → AtMost binary64 (product binary64 x y) (product_high a c)
      most w g k = at_most_trans binary64 (product binary64 x y) w (product_high a c) g k

      from : OneOf (λ w. AtMost binary64 w (product binary64 x y)) (product binary64 l l') (product binary64 l h') (product binary64 h l') (product binary64 h h')
          → AtMost binary64 (product_low a c) (product binary64 x y)
      from (is_p g) = least (product binary64 l l') e.at_p.0 g
      from (is_q g) = least (product binary64 l h') e.at_q.0 g
      from (is_r g) = least (product binary64 h l') e.at_r.0 g
      from (is_s g) = least (product binary64 h h') e.at_s.0 g

      upto : OneOf (λ w. AtMost binary64 (product binary64 x y) w) (product binary64 l l') (product binary64 l h') (product binary64 h l') (product binary64 h h')
          → AtMost binary64 (product binary64 x y) (product_high a c)
      upto (is_p g) = most (product binary64 l l') g e.at_p.1
      upto (is_q g) = most (product binary64 l h') g e.at_q.1
      upto (is_r g) = most (product binary64 h l') g e.at_r.1
      upto (is_s g) = most (product binary64 h h') g e.at_s.1

  -- ---- the rules

  -- A rule that refuses on these terms, where over says that an end of the answer is infinite, keeps its promise.
  worked_kept : (over : Bool) {low high r : ℕ} → over ≡ (is_infinite binary64 low || is_infinite binary64 high) → Between low high r
      → Kept (worked_range a c over low high) (worked x y r)
  worked_kept over {low} {high} {r} o g = pick (infinite_end a || infinite_end c) over refl refl
    where
      pick : (s t : Bool) → (infinite_end a || infinite_end c) ≡ s → over ≡ t
          → Kept (cond s (range.refused 20) (cond t (range.refused 21) (ranged (doubles low high)))) (worked x y r)
      pick true t e k = tt
      pick false true e k = tt
      pick false false e k =
          let p : (infinite_end a ≡ false) × (infinite_end c ≡ false) = no_or (infinite_end a) (infinite_end c) e in
          rw (not_infinite_inside b p.0, not_infinite_inside b' p.1, not_infinite_inside g (sym o ∙ k)) (held_double g)

  pub add_kept : Kept (sum_range a c) (worked x y (sum binary64 x y))
  add_kept = worked_kept (infinite_sum a c) refl sum-between

  pub subtract_kept : Kept (difference_range a c) (worked x y (difference binary64 x y))
  subtract_kept = worked_kept (infinite_difference a c) refl difference-between

  pub multiply_kept : Kept (product_range a c) (worked x y (product binary64 x y))
  multiply_kept = worked_kept (infinite_product a c) (infinite_products a c) product-between

-- ---- as a user would state it

-- Of values in the operands' ranges, finite or not, the rounded sum, difference and product lie between the rounded ends.
module _ (a b : Range) (v w : Datum) (f : Lies a v) (g : Lies b w) (p : Proper a) (q : Proper b) where
  pub sum_lies : Lies (doubles (sum_low a b) (sum_high a b)) (double (sum binary64 (as_double v) (as_double w)))
  unfolding Lies
  sum_lies = let r = sum-between (between a v f p) (between b w g q) in (r.number, r.from, r.upto)

  pub difference_lies : Lies (doubles (difference_low a b) (difference_high a b)) (double (difference binary64 (as_double v) (as_double w)))
  unfolding Lies
  difference_lies = let r = difference-between (between a v f p) (between b w g q) in (r.number, r.from, r.upto)

  pub product_lies : Lies (doubles (product_low a b) (product_high a b)) (double (product binary64 (as_double v) (as_double w)))
  unfolding Lies
  product_lies = let r = product-between (between a v f p) (between b w g q) in (r.number, r.from, r.upto)
