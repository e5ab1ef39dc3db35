-- Range rules of doubles whose ends are the function of ends: the roundings, negate, fmin and fmax, and fabs. Each function is monotone,
-- or turns the order round; fabs is one or the other on each side of zero. Assumes nothing.
use mathlib.Core.Path.{◌≡◌, refl, sym, ap, ◌∙◌}
use mathlib.Core.Bool.{Bool, true, false, cond}
use mathlib.Core.Logic.{◌⊎◌, ⊎_elim}
use Prim.Native.Nat.{ℕ, ◌+◌, ◌-◌, ◌≤◌, ◌<◌}
use native.Mathlib.Nat.{eq-or-lt_of_le, mod-eq_of_lt}
use native.Mathlib.Omega.{arith}
use borrow.Author.Tests.{ltb-false, lt-leb}
use Rattle.float_format.specs.Format.{binary64, sign_bit, infinity, negative, unsigned, is_nan, absolute, negated}
use Rattle.float_format.specs.Number.{magnitude, above, under, AtMost, units_of}
use Rattle.float_format.specs.Rounding.{integral}
use Rattle.float_format.specs.declared.Direction.{Direction}
use Rattle.float_format.proofs.Patterns.{below_sign}
use Rattle.float_format.proofs.Integral.{integral_infinite}
use Rattle.float_format.proofs.Order.{magnitude_zero, above_at, under_at, above-negated, under-negated, unsigned-negated}
use Rattle.float_format.proofs.Laws.{result_finite, monotone}
use Rattle.ordering.specs.Ordering.{fmin, fmax}
use Rattle.ordering.proofs.MinMax.{Numbers, fmin-first, fmax-first, fmin_mono, fmax_mono}
use Rattle.float_format.proofs.Units.{lt_or_ge, magnitude_mono, magnitude_mono_le}
use Rattle.semantics.specs.Value.{done, double}
use Rattle.semantics.specs.Range.{doubles, is_negative, is_positive, absolute_range}
use Rattle.semantics.proofs.Sound.Kept.{Held, Between, valid, rest_of, number_of, zero_number, held_double}

-- ---- 10 to 14: the roundings

module _ (d : Direction) where
  pub integral-number : (x : ℕ) → is_nan binary64 x ≡ false → is_nan binary64 (integral binary64 d x) ≡ false
  integral-number x n =
      number_of (integral binary64 d x)
      (⊎_elim (λ e. omega (arith, ap (unsigned binary64) (integral_infinite binary64 d x e))) (λ l. omega (arith, result_finite binary64 d x valid l)) (eq-or-lt_of_le (rest_of x n)))

  pub rounded : {l h x : ℕ} → Between l h x → Between (integral binary64 d l) (integral binary64 d h) (integral binary64 d x)
  rounded {l} {h} {x} b =
      record {
        low-number = integral-number l b.low-number;
        high-number = integral-number h b.high-number;
        number = integral-number x b.number;
        from = monotone binary64 d valid l x (rest_of l b.low-number) (rest_of x b.number) b.from;
        upto = monotone binary64 d valid x h (rest_of x b.number) (rest_of h b.high-number) b.upto;
      }

-- ---- 17: negate

pub negated-number : (x : ℕ) → is_nan binary64 x ≡ false → is_nan binary64 (negated binary64 x) ≡ false
negated-number x n = number_of (negated binary64 x) (omega (arith, unsigned-negated binary64 x, rest_of x n))

pub turned : (x y : ℕ) → AtMost binary64 x y → AtMost binary64 (negated binary64 y) (negated binary64 x)
turned x y g = omega (arith, above-negated binary64 x, under-negated binary64 x, above-negated binary64 y, under-negated binary64 y)

pub negate : {l h x : ℕ} → Between l h x → Between (negated binary64 h) (negated binary64 l) (negated binary64 x)
negate {l} {h} {x} b =
    record {
      low-number = negated-number h b.high-number;
      high-number = negated-number l b.low-number;
      number = negated-number x b.number;
      from = turned x h b.upto;
      upto = turned l x b.from;
    }

-- ---- 20, 21: fmin and fmax

one_of : (x y r : ℕ) → is_nan binary64 x ≡ false → is_nan binary64 y ≡ false → (r ≡ x) ⊎ (r ≡ y) → is_nan binary64 r ≡ false
one_of x y r nx ny w = ⊎_elim (λ e. ap (is_nan binary64) e ∙ nx) (λ e. ap (is_nan binary64) e ∙ ny) w

pub fmin-number : (x y : ℕ) → is_nan binary64 x ≡ false → is_nan binary64 y ≡ false → is_nan binary64 (fmin binary64 x y) ≡ false
fmin-number x y nx ny = one_of x y (fmin binary64 x y) nx ny ((fmin-first binary64 x y).operand nx ny)

pub fmax-number : (x y : ℕ) → is_nan binary64 x ≡ false → is_nan binary64 y ≡ false → is_nan binary64 (fmax binary64 x y) ≡ false
fmax-number x y nx ny = one_of x y (fmax binary64 x y) nx ny ((fmax-first binary64 x y).operand nx ny)

module _ {l h x l' h' x' : ℕ} (b : Between l h x) (b' : Between l' h' x') where
  lows : Numbers binary64 l l'
  lows = record { first = b.low-number; second = b'.low-number }

  highs : Numbers binary64 h h'
  highs = record { first = b.high-number; second = b'.high-number }

  values : Numbers binary64 x x'
  values = record { first = b.number; second = b'.number }

  pub smaller : Between (fmin binary64 l l') (fmin binary64 h h') (fmin binary64 x x')
  smaller =
      record {
        low-number = fmin-number l l' b.low-number b'.low-number;
        high-number = fmin-number h h' b.high-number b'.high-number;
        number = fmin-number x x' b.number b'.number;
        from = fmin_mono binary64 l l' x x' lows values b.from b'.from;
        upto = fmin_mono binary64 x x' h h' values highs b.upto b'.upto;
      }

  pub larger : Between (fmax binary64 l l') (fmax binary64 h h') (fmax binary64 x x')
  larger =
      record {
        low-number = fmax-number l l' b.low-number b'.low-number;
        high-number = fmax-number h h' b.high-number b'.high-number;
        number = fmax-number x x' b.number b'.number;
        from = fmax_mono binary64 l l' x x' lows values b.from b'.from;
        upto = fmax_mono binary64 x x' h h' values highs b.upto b'.upto;
      }

-- ---- a number's two sides

-- One of the sides is 0: nothing is lost where the other is taken from it.
pub one_side : (x : ℕ) → (above binary64 x ≡ above binary64 x - under binary64 x) × (under binary64 x ≡ under binary64 x - above binary64 x)
one_side x = pick (negative binary64 x) refl
  where
    pick : (s : Bool) → negative binary64 x ≡ s
        → (above binary64 x ≡ above binary64 x - under binary64 x) × (under binary64 x ≡ under binary64 x - above binary64 x)
    pick true e = omega (arith, above_at binary64 x true e, under_at binary64 x true e)
    pick false e = omega (arith, above_at binary64 x false e, under_at binary64 x false e)

pub sides_units : (x : ℕ) → above binary64 x + under binary64 x ≡ units_of binary64 x
sides_units x = pick (negative binary64 x) refl
  where
    pick : (s : Bool) → negative binary64 x ≡ s → above binary64 x + under binary64 x ≡ units_of binary64 x
    pick true e = omega (arith, above_at binary64 x true e, under_at binary64 x true e)
    pick false e = omega (arith, above_at binary64 x false e, under_at binary64 x false e)

pub zero_sides : (above binary64 0 ≡ 0) × (under binary64 0 ≡ 0)
zero_sides = (above_at binary64 0 false refl ∙ magnitude_zero 52, under_at binary64 0 false refl)

-- ---- 16: fabs

pub absolute_rest : (x : ℕ) → unsigned binary64 (absolute binary64 x) ≡ unsigned binary64 x
unfolding absolute
absolute_rest x = mod-eq_of_lt (below_sign binary64 x)

absolute_sign : (x : ℕ) → negative binary64 (absolute binary64 x) ≡ false
unfolding absolute
absolute_sign x = lt-leb (sign_bit binary64) (unsigned binary64 x) (below_sign binary64 x)

pub absolute_sides : (x : ℕ)
    → (above binary64 (absolute binary64 x) ≡ above binary64 x + under binary64 x) × (under binary64 (absolute binary64 x) ≡ 0)
absolute_sides x = (
  above_at binary64 (absolute binary64 x) false (absolute_sign x) ∙ ap (magnitude 52) (absolute_rest x) ∙ sym (sides_units x),
  under_at binary64 (absolute binary64 x) false (absolute_sign x),
)

pub absolute-number : (x : ℕ) → is_nan binary64 x ≡ false → is_nan binary64 (absolute binary64 x) ≡ false
absolute-number x n = number_of (absolute binary64 x) (omega (arith, absolute_rest x, rest_of x n))

module _ {l h x : ℕ} (b : Between l h x) where
  -- from zero on
  absolute_up : is_negative l ≡ false → Between (absolute binary64 l) (absolute binary64 h) (absolute binary64 x)
  absolute_up e =
      let g : above binary64 0 + under binary64 l ≤ above binary64 l + under binary64 0 =
      ltb-false (above binary64 l + under binary64 0) (above binary64 0 + under binary64 l) e in
      record {
        low-number = absolute-number l b.low-number;
        high-number = absolute-number h b.high-number;
        number = absolute-number x b.number;
        from = omega (arith, zero_sides, g, one_side l, one_side x, b.from, absolute_sides l, absolute_sides x);
        upto = omega (arith, zero_sides, g, one_side l, one_side x, one_side h, b.from, b.upto, absolute_sides h, absolute_sides x);
      }

  -- up to zero
  absolute_down : is_positive h ≡ false → Between (absolute binary64 h) (absolute binary64 l) (absolute binary64 x)
  absolute_down e =
      let g : above binary64 h + under binary64 0 ≤ above binary64 0 + under binary64 h =
      ltb-false (above binary64 0 + under binary64 h) (above binary64 h + under binary64 0) e in
      record {
        low-number = absolute-number h b.high-number;
        high-number = absolute-number l b.low-number;
        number = absolute-number x b.number;
        from = omega (arith, zero_sides, g, one_side h, one_side x, b.upto, absolute_sides h, absolute_sides x);
        upto = omega (arith, zero_sides, g, one_side l, one_side x, one_side h, b.from, b.upto, absolute_sides l, absolute_sides x);
      }

-- the greatest magnitude of a range, as the rules of fmod and remainder have it too
module _ {l h x : ℕ} (b : Between l h x) where
  abbrev most : ℕ
  most = fmax binary64 (absolute binary64 l) (absolute binary64 h)

  pub most-number : is_nan binary64 most ≡ false
  most-number = fmax-number (absolute binary64 l) (absolute binary64 h) (absolute-number l b.low-number) (absolute-number h b.high-number)

  most_bound : AtMost binary64 (absolute binary64 l) most × AtMost binary64 (absolute binary64 h) most
  most_bound =
      (fmax-first binary64 (absolute binary64 l) (absolute binary64 h)).bound (absolute-number l b.low-number) (absolute-number h b.high-number)

  pub most_from : above binary64 x + under binary64 x + under binary64 most ≤ above binary64 most
  most_from = omega (arith, absolute_sides l, absolute_sides h, most_bound, b.from, b.upto, one_side l, one_side h, one_side x)

  absolute_around : Between 0 most (absolute binary64 x)
  absolute_around =
      record {
        low-number = zero_number;
        high-number = most-number;
        number = absolute-number x b.number;
        from = omega (arith, zero_sides, absolute_sides x);
        upto = omega (arith, absolute_sides x, most_from);
      }

  pub absolute_held : Held (absolute_range (doubles l h)) (done (double (absolute binary64 x)))
  absolute_held = pick (is_negative l) (is_positive h) refl refl
    where
      pick : (s t : Bool) → is_negative l ≡ s → is_positive h ≡ t
          → Held (cond s (cond t (doubles 0 most) (doubles (absolute binary64 h) (absolute binary64 l))) (doubles (absolute binary64 l) (absolute binary64 h))) (done (double (absolute binary64 x)))
      pick true true e g = held_double absolute_around
      pick true false e g = held_double (absolute_down b g)
      pick false t e g = held_double (absolute_up b e)

-- ---- between finite numbers lie finite ones

pub finite_units : (x : ℕ) → unsigned binary64 x < infinity binary64 → above binary64 x + under binary64 x < magnitude 52 (infinity binary64)
finite_units x h = omega (arith, sides_units x, magnitude_mono 52 {a = unsigned binary64 x} {b = infinity binary64} h)

pub between_finite : (l h x : ℕ) → unsigned binary64 l < infinity binary64 → unsigned binary64 h < infinity binary64
    → AtMost binary64 l x → AtMost binary64 x h → unsigned binary64 x < infinity binary64
between_finite l h x p q from upto = ⊎_elim (λ k. k) (λ g. absurd (beyond g)) (lt_or_ge (unsigned binary64 x) (infinity binary64))
  where
    beyond : infinity binary64 ≤ unsigned binary64 x → ⊥
    beyond g =
        let m : magnitude 52 (infinity binary64) ≤ units_of binary64 x = magnitude_mono_le 52 g in
        omega (arith, sides_units x, finite_units l p, finite_units h q, one_side x, one_side l, one_side h)
