-- The order of numbers: it is reflexive, transitive and total, the two zeros are equal in it, the infinities lie beyond every finite
-- number, negation turns it round, and `rank` compares patterns as their numbers compare. The one idea: a number is its sign and its
-- units, and `magnitude` keeps the order, so each law is a case for each pair of signs. Over every format. Assumes nothing.
use mathlib.Core.Path.{◌≡◌, refl, sym, ap, ◌∙◌}
use mathlib.Core.Bool.{Bool, true, false, not, cond}
use mathlib.Core.Logic.{◌⊎◌, inl, inr, ⊎_elim, ◌↔◌}
use Prim.Native.Nat.{ℕ, ◌+◌, ◌-◌, ◌*◌, ◌^◌, ◌≤◌, ◌<◌}
use native.Mathlib.Nat.{le_antisymm}
use native.Mathlib.Omega.{arith}
use lib.Pow.{pow_pos, pow-add, suc_ones}
use Rattle.float_format.specs.Format.{Format, sign_bit, infinity, negative, unsigned, signed, negated}
use Rattle.float_format.specs.Number.{magnitude, units_of, above, under, AtMost, rank}
use Rattle.float_format.proofs.Units.{lt_or_ge, magnitude-low, magnitude_mono, magnitude_mono_le, magnitude_cancel}
use Rattle.float_format.proofs.Patterns.{below_sign, negative-signed, unsigned_signed, signed_parts}

-- ---- a total order

pub at_most_refl : (f : Format) (x : ℕ) → AtMost f x x
at_most_refl f x = omega arith

pub at_most_trans : (f : Format) (x y z : ℕ) → AtMost f x y → AtMost f y z → AtMost f x z
at_most_trans f x y z g h = omega arith

pub at_most_total : (f : Format) (x y : ℕ) → AtMost f x y ⊎ AtMost f y x
at_most_total f x y = ⊎_elim (λ l. inl (less l)) (λ g. inr g) (lt_or_ge (above f x + under f y) (above f y + under f x))
  where
    less : above f x + under f y < above f y + under f x → AtMost f x y
    less l = omega arith

-- ---- a number by its sign and its units

pub magnitude_zero : (F : ℕ) → magnitude F 0 ≡ 0
magnitude_zero F = magnitude-low F 0 (pow_pos F)

module _ (f : Format) (x : ℕ) (s : Bool) (e : negative f x ≡ s) where
  pub above_at : above f x ≡ cond s 0 (units_of f x)
  unfolding above
  above_at = ap (λ (t : Bool). cond t 0 (units_of f x)) e

  pub under_at : under f x ≡ cond s (units_of f x) 0
  unfolding under
  under_at = ap (λ (t : Bool). cond t (units_of f x) 0) e

  pub rank_at : rank f x ≡ cond s (sign_bit f - unsigned f x) (sign_bit f + unsigned f x)
  unfolding rank
  rank_at = ap (λ (t : Bool). cond t (sign_bit f - unsigned f x) (sign_bit f + unsigned f x)) e

module _ (f : Format) (s : Bool) (a : ℕ) (h : a < sign_bit f) where
  pub above-signed : above f (signed f s a) ≡ cond s 0 (magnitude f.fraction a)
  above-signed =
      above_at f (signed f s a) s (negative-signed f a h s) ∙ ap (λ (n : ℕ). cond s 0 (magnitude f.fraction n)) (unsigned_signed f a h s)

  pub under-signed : under f (signed f s a) ≡ cond s (magnitude f.fraction a) 0
  under-signed =
      under_at f (signed f s a) s (negative-signed f a h s) ∙ ap (λ (n : ℕ). cond s (magnitude f.fraction n) 0) (unsigned_signed f a h s)

pub zeros_equal : (f : Format) → AtMost f (signed f true 0) (signed f false 0) × AtMost f (signed f false 0) (signed f true 0)
zeros_equal f =
    let p : 0 < sign_bit f = pow_pos (f.exponent + f.fraction) in
    omega (arith, above-signed f true 0 p, under-signed f true 0 p, above-signed f false 0 p, under-signed f false 0 p, magnitude_zero f.fraction)

-- ---- the infinities

pub infinity-below_sign : (f : Format) → infinity f < sign_bit f
infinity-below_sign f =
    omega (arith, pow-add 2 f.exponent f.fraction, ap (λ (n : ℕ). n * 2 ^ f.fraction) (suc_ones f.exponent), pow_pos f.fraction)

-- neither side of a number is more than its units
most_at : (f : Format) (y : ℕ) → (above f y ≤ units_of f y) × (under f y ≤ units_of f y)
most_at f y = pick (negative f y) refl
  where
    pick : (s : Bool) → negative f y ≡ s → (above f y ≤ units_of f y) × (under f y ≤ units_of f y)
    pick true e = omega (arith, above_at f y true e, under_at f y true e)
    pick false e = omega (arith, above_at f y false e, under_at f y false e)

-- a finite number lies strictly between the two
pub finite_below-infinity : (f : Format) (y : ℕ) → unsigned f y < infinity f
    → (AtMost f (infinity f) y → ⊥) × (AtMost f y (signed f true (infinity f)) → ⊥)
finite_below-infinity f y h =
    let i : infinity f < sign_bit f = infinity-below_sign f in
    let plus : infinity f ≡ signed f false (infinity f) = omega arith in
    let less : units_of f y < magnitude f.fraction (infinity f) = magnitude_mono f.fraction h in (
      omega (arith, ap (above f) plus, ap (under f) plus, above-signed f false (infinity f) i, under-signed f false (infinity f) i, most_at f y),
      omega (arith, above-signed f true (infinity f) i, under-signed f true (infinity f) i, most_at f y),
    )

-- ---- negation

cond_not : (t : Bool) (a b : ℕ) → cond (not t) a b ≡ cond t b a
cond_not true a b = refl
cond_not false a b = refl

not_not : (t : Bool) → not (not t) ≡ t
not_not true = refl
not_not false = refl

module _ (f : Format) (x : ℕ) where
  pub negative-negated : negative f (negated f x) ≡ not (negative f x)
  unfolding negated
  negative-negated = negative-signed f (unsigned f x) (below_sign f x) (not (negative f x))

  pub unsigned-negated : unsigned f (negated f x) ≡ unsigned f x
  unfolding negated
  unsigned-negated = unsigned_signed f (unsigned f x) (below_sign f x) (not (negative f x))

  pub above-negated : above f (negated f x) ≡ under f x
  unfolding negated
  above-negated =
      above-signed f (not (negative f x)) (unsigned f x) (below_sign f x)
      ∙ cond_not (negative f x) 0 (units_of f x)
      ∙ sym (under_at f x (negative f x) refl)

  pub under-negated : under f (negated f x) ≡ above f x
  unfolding negated
  under-negated =
      under-signed f (not (negative f x)) (unsigned f x) (below_sign f x)
      ∙ cond_not (negative f x) (units_of f x) 0
      ∙ sym (above_at f x (negative f x) refl)

pub negated_is : (f : Format) (x : ℕ) (s : Bool) (a : ℕ) → negative f x ≡ not s → unsigned f x ≡ a → negated f x ≡ signed f s a
unfolding negated
negated_is f x s a e g = rw (e, g, not_not s)

pub negated_twice : (f : Format) (x : ℕ) → x < 2 * sign_bit f → negated f (negated f x) ≡ x
negated_twice f x h =
    negated_is f (negated f x) (negative f x) (unsigned f x) (negative-negated f x) (unsigned-negated f x) ∙ sym (signed_parts f x h)

-- ---- rank compares as the numbers do

-- by the signs, for rests a and b below the sign's weight S
order_by_signs : (F S : ℕ) (s t : Bool) {a b : ℕ} → a < S → b < S
    → cond s (S - a) (S + a) ≤ cond t (S - b) (S + b)
    ↔ cond s 0 (magnitude F a) + cond t (magnitude F b) 0 ≤ cond t 0 (magnitude F b) + cond s (magnitude F a) 0
order_by_signs F S true true {a} {b} p q =
    (λ h. omega (arith, magnitude_mono_le F {a = b} {b = a} (omega arith)), λ h. omega (arith, magnitude_cancel F {a = b} {b = a} (omega arith)))
order_by_signs F S true false p q = (λ h. omega arith, λ h. omega arith)
-- where either holds, both are zeros
order_by_signs F S false true {a} {b} p q = (
  λ h. omega (arith, magnitude_zero F, magnitude_mono_le F {a = a} {b = 0} (omega arith), magnitude_mono_le F {a = b} {b = 0} (omega arith)),
  λ h. let z : magnitude F 0 ≡ 0 = magnitude_zero F in
      omega (arith, magnitude_cancel F {a = a} {b = 0} (omega arith), magnitude_cancel F {a = b} {b = 0} (omega arith)),
)
order_by_signs F S false false {a} {b} p q =
    (λ h. omega (arith, magnitude_mono_le F {a = a} {b = b} (omega arith)), λ h. omega (arith, magnitude_cancel F {a = a} {b = b} (omega arith)))

pub rank_order : (f : Format) (x y : ℕ) → rank f x ≤ rank f y ↔ AtMost f x y
unfolding rank above under
rank_order f x y = order_by_signs f.fraction (sign_bit f) (negative f x) (negative f y) (below_sign f x) (below_sign f y)

pub rank_equal : (f : Format) (x y : ℕ) → rank f x ≡ rank f y ↔ AtMost f x y × AtMost f y x
rank_equal f x y = (
  λ e. ((rank_order f x y).0 (omega arith), (rank_order f y x).0 (omega arith)),
  λ h. le_antisymm ((rank_order f x y).1 h.0) ((rank_order f y x).1 h.1),
)
