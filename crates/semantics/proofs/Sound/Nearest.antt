-- The range rule of remainder. The nearest multiple of y leaves no more than x itself, nor than half of y, so the answer's magnitude is at most the
-- greatest of either range; it may have either sign. Assumes nothing.
use mathlib.Core.Path.{◌≡◌, ap}
use mathlib.Core.Bool.{Bool, true, false, ◌||◌, cond}
use mathlib.Core.Logic.{⊎_elim}
use Prim.Native.Nat.{ℕ, ◌+◌, ◌≤◌, ◌<◌}
use native.Mathlib.Nat.{eq-or-lt_of_le}
use native.Mathlib.Omega.{arith}
use lib.Dec.{eqb}
use Rattle.float_format.specs.Format.{binary64, infinity, unsigned, is_nan, absolute, negated}
use Rattle.float_format.specs.Number.{above, under, AtMost, units_of}
use Rattle.float_format.proofs.Units.{magnitude_mono_le}
use Rattle.float_format.proofs.Order.{above-negated, under-negated}
use Rattle.ordering.proofs.MinMax.{fmin-first}
use Rattle.remainder.specs.Remainder.{fmod_refusal}
use Rattle.remainder.proofs.Laws.{Operands}
use Rattle.nearest_remainder.specs.Nearest.{remainder}
use Rattle.nearest_remainder.proofs.Laws.{remainder_finite, remainder_half, remainder_at_most, remainder-infinity}
use Rattle.semantics.specs.Value.{Datum, double, as_double, done, refused}
use Rattle.semantics.specs.Range.{Range, doubles, wholes, ranged, holds_zero, infinite_end, greatest, remainder_most, remainder_range}
use Rattle.semantics.specs.Range as range
use Rattle.semantics.specs.Promise.{Lies, Proper}
use Rattle.semantics.proofs.Sound.Kept.{never, Kept, Between, rest_of, number_of, zero_number, between}
use Rattle.semantics.proofs.Sound.Floats.{sides_units, most-number, most_from, fmin-number, fmax-number, absolute-number, negated-number}
use Rattle.semantics.proofs.Sound.Inputs.{double_constant}
use Rattle.semantics.proofs.Sound.Fractions.{Divides, divides, let_through, divided_kept}

-- a number, of a magnitude at most x's and at most y's
record Less (x y r : ℕ) : Type 0 where
  number : is_nan binary64 r ≡ false
  than_x : units_of binary64 r ≤ units_of binary64 x
  than_y : units_of binary64 r ≤ units_of binary64 y

module _ {l h x l' h' y : ℕ} (b : Between l h x) (b' : Between l' h' y) where
  nearest_less : Divides x y → Less x y (remainder binary64 x y)
  nearest_less d = ⊎_elim infinite finite (eq-or-lt_of_le (rest_of y b'.number))
    where
      infinite : unsigned binary64 y ≡ infinity binary64 → Less x y (remainder binary64 x y)
      infinite e =
          let f = d.finite in
          rw (remainder-infinity binary64 x y f e) (record { number = b.number; than_x = omega arith; than_y = magnitude_mono_le 52 (omega arith) })

      finite : unsigned binary64 y < infinity binary64 → Less x y (remainder binary64 x y)
      finite k =
          let o : Operands binary64 x y = record { finite_x = d.finite; finite_y = k; nonzero = d.nonzero } in
          record {
            number = number_of (remainder binary64 x y) (omega (arith, remainder_finite binary64 x y o));
            than_x = remainder_at_most binary64 x y o;
            than_y = omega (arith, remainder_half binary64 x y o);
          }

  -- the smaller of the greatest magnitudes
  abbrev m : ℕ
  m = remainder_most (doubles l h) (doubles l' h')

  nearest_units : Divides x y → units_of binary64 (remainder binary64 x y) + under binary64 m ≤ above binary64 m
  nearest_units d =
      let r = nearest_less d in
      ⊎_elim
      (λ e. omega (arith, ap (above binary64) e, ap (under binary64) e, r.than_x, sides_units x, most_from b))
      (λ e. omega (arith, ap (above binary64) e, ap (under binary64) e, r.than_y, sides_units y, most_from b'))
      ((fmin-first binary64 (greatest (doubles l h)) (greatest (doubles l' h'))).operand (most-number b) (most-number b'))

  -- The answer lies from -m to m.
  pub remainder-between : Divides x y → Between (negated binary64 m) m (remainder binary64 x y)
  remainder-between d =
      let n : is_nan binary64 m ≡ false = fmin-number (greatest (doubles l h)) (greatest (doubles l' h')) (most-number b) (most-number b') in
      record {
        low-number = negated-number m n;
        high-number = n;
        number = (nearest_less d).number;
        from = omega (arith, nearest_units d, sides_units (remainder binary64 x y), above-negated binary64 m, under-negated binary64 m);
        upto = omega (arith, nearest_units d, sides_units (remainder binary64 x y));
      }

  pub remainder_kept : Kept (remainder_range (doubles l h) (doubles l' h'))
      (cond (eqb (fmod_refusal binary64 x y) 0) (done (double (remainder binary64 x y))) (refused 20))
  remainder_kept = divided_kept b b' (negated binary64 m) m (remainder binary64 x y) remainder-between

-- remainder of numbers, where it is not refused, is a number
pub remainder-number : (x y : ℕ) → is_nan binary64 x ≡ false → is_nan binary64 y ≡ false → fmod_refusal binary64 x y ≡ 0 → is_nan binary64 (remainder binary64 x y) ≡ false
remainder-number x y nx ny e = (nearest_less (double_constant x nx) (double_constant y ny) (divides x y nx ny e)).number

-- ---- as a user would state it

greatest-number : (a : Range) → Proper a → is_nan binary64 (greatest a) ≡ false
unfolding Proper
greatest-number (doubles l h) p = fmax-number (absolute binary64 l) (absolute binary64 h) (absolute-number l p.0) (absolute-number h p.1)
greatest-number (wholes l h) p = fmax-number (absolute binary64 0) (absolute binary64 0) (absolute-number 0 zero_number) (absolute-number 0 zero_number)

module _ (a b : Range) where
  -- A range that the rule gives goes as far below zero as above it ..
  pub remainder_symmetric : (l h : ℕ) → remainder_range a b ≡ ranged (doubles l h) → l ≡ negated binary64 h
  remainder_symmetric l h e = pick (infinite_end a || holds_zero b) e
    where
      pick : (t : Bool) → cond t (range.refused 20) (ranged (doubles (negated binary64 (remainder_most a b)) (remainder_most a b))) ≡ ranged (doubles l h) → l ≡ negated binary64 h
      pick true g = never (cc)
      pick false g = cc

  -- .. and no further than the greatest magnitude among the ends of a, nor than that among the ends of b.
  pub remainder_no_further : Proper a → Proper b → AtMost binary64 (remainder_most a b) (greatest a) × AtMost binary64 (remainder_most a b) (greatest b)
  remainder_no_further p q = (fmin-first binary64 (greatest a) (greatest b)).bound (greatest-number a p) (greatest-number b q)

  -- The remainder of values in the operands' ranges lies in it.
  pub remainder_lies : (v w : Datum) → Lies a v → Lies b w → Proper a → Proper b → infinite_end a ≡ false → holds_zero b ≡ false
      → Lies (doubles (negated binary64 (remainder_most a b)) (remainder_most a b)) (double (remainder binary64 (as_double v) (as_double w)))
  unfolding Lies
  remainder_lies v w f g p q i z =
      let x = between a v f p in
      let y = between b w g q in
      let r = remainder-between x y (let_through x y (simp (i, z))) in
      (r.number, r.from, r.upto)
