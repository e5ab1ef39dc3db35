-- Ranges by their two ends, in the shape in which the range rules' functions make them. Assumes nothing.
use mathlib.Core.Path.{◌≡◌, refl, sym, ap}
use mathlib.Core.Bool.{Bool, true, false, not, ◌&&◌, ◌||◌, cond}
use Prim.Native.Nat.{ℕ, ◌^◌}
use lib.Dec.{eqb, leb}
use lib.IntN.{ℤ, nat_abs}
use Rattle.float_format.specs.Format.{binary64}
use Rattle.scaling.specs.Scaling.{ldexp, ldexp_refusal}
use Rattle.semantics.specs.Value.{whole, Outcome, done, fits_word, of_whole}
use Rattle.values.specs.Carried.{real}
use Rattle.semantics.specs.Value as value
use Rattle.semantics.specs.Range.{Range, doubles, wholes, ranged, refused, low, high, least, most, is_negative, is_positive, infinite_end, ldexp_range, worked_range, product_low, product_high, product_range, whole_range, double_range}
use Rattle.semantics.proofs.Sound.Products.{infinite_products}
use Rattle.ranges.specs.Carried.{between, carried}

-- ---- two ends, each refused by a test of its own

both_wholes : (t u : Bool) (l h : ℤ) (number : ℕ)
    → between (cond t (done (whole l)) (value.refused number)) (cond u (done (whole h)) (value.refused number)) ≡ carried (cond (t && u) (ranged (wholes l h)) (refused number))
both_wholes true true l h number = refl
both_wholes true false l h number = refl
both_wholes false u l h number = refl

both_reals : (t u : Bool) (x y number : ℕ)
    → between (cond t (done (real x)) (value.refused number)) (cond u (done (real y)) (value.refused number)) ≡ carried (cond (t && u) (ranged (doubles x y)) (refused number))
both_reals true true x y number = refl
both_reals true false x y number = refl
both_reals false u x y number = refl

-- o and p are what the ends come to
pub whole_ranged : (l h : ℤ) (o p : Outcome) → o ≡ cond (fits_word l) (done (whole l)) (value.refused 21) → p ≡ cond (fits_word h) (done (whole h)) (value.refused 21)
    → between o p ≡ carried (whole_range l h)
whole_ranged l h o p e f = rw (e, f) (both_wholes (fits_word l) (fits_word h) l h 21)

pub double_ranged : (a : Range) (o p : Outcome)
    → o ≡ cond (leb (nat_abs (least a)) (2 ^ 53)) (done (real (of_whole (least a)))) (value.refused 22)
    → p ≡ cond (leb (nat_abs (most a)) (2 ^ 53)) (done (real (of_whole (most a)))) (value.refused 22)
    → between o p ≡ carried (double_range a)
double_ranged a o p e f =
    rw (e, f) (both_reals (leb (nat_abs (least a)) (2 ^ 53)) (leb (nat_abs (most a)) (2 ^ 53)) (of_whole (least a)) (of_whole (most a)) 22)

-- ---- ldexp

-- the tests are of what is not refused
neither_real : (t u : Bool) (x y number : ℕ)
    → between (cond t (done (real x)) (value.refused number)) (cond u (done (real y)) (value.refused number)) ≡ carried (cond (not t || not u) (refused number) (ranged (doubles x y)))
neither_real true true x y number = refl
neither_real true false x y number = refl
neither_real false u x y number = refl

scaled_ends : (s t u : Bool) (x y : ℕ) → s ≡ false
    → between (cond t (done (real x)) (value.refused 21)) (cond u (done (real y)) (value.refused 21)) ≡ carried (cond (s || not t || not u) (refused 21) (ranged (doubles x y)))
scaled_ends s t u x y e = rw e (neither_real t u x y 21)

-- the same by the code's own values: m and n are the powers, o and p what the ends come to
pub ldexp-ranged : (low high : ℕ) (least most m n : ℤ) (o p : Outcome) → infinite_end (doubles low high) ≡ false
    → m ≡ cond (is_negative low) most least → n ≡ cond (is_positive high) most least
    → o ≡ cond (eqb (ldexp_refusal binary64 low m) 0) (done (real (ldexp binary64 low m))) (value.refused 21)
    → p ≡ cond (eqb (ldexp_refusal binary64 high n) 0) (done (real (ldexp binary64 high n))) (value.refused 21)
    → between o p ≡ carried (ldexp_range (doubles low high) (wholes least most))
ldexp-ranged low high least most m n o p e i j f g =
    rw (f, g, i, j)
    (scaled_ends (infinite_end (doubles low high)) (eqb (ldexp_refusal binary64 low (cond (is_negative low) most least)) 0) (eqb (ldexp_refusal binary64 high (cond (is_positive high) most least)) 0)
    (ldexp binary64 low (cond (is_negative low) most least)) (ldexp binary64 high (cond (is_positive high) most least)) e)

-- ---- multiply

-- the code tests multiply's answers, and the rule all four end products
pub product-ranged : (a b : Range) → carried (worked_range a b (infinite_end (doubles (product_low a b) (product_high a b))) (product_low a b) (product_high a b)) ≡ carried (product_range a b)
product-ranged a b = ap (λ (t : Bool). carried (worked_range a b t (product_low a b) (product_high a b))) (sym (infinite_products a b))
