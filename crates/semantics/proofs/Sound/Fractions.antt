-- Range rules of answers that are cut from x: modf's fraction and fmod. Each answer has x's sign and no larger magnitude, and is below
-- one, or below y. Before fmod, what a rule that is refused on its terms has to show. Assumes nothing.
use mathlib.Core.Path.{◌≡◌, refl, sym, ap, ◌∙◌}
use mathlib.Core.Bool.{Bool, true, false, not, ◌&&◌, ◌||◌, cond}
use mathlib.Core.Logic.{◌⊎◌, inl, inr, ⊎_elim}
use Prim.Native.Nat.{ℕ, ◌+◌, ◌%◌, ◌^◌, ◌≤◌, ◌<◌}
use native.Mathlib.Nat.{eq-or-lt_of_le, mod-le}
use native.Mathlib.Omega.{arith}
use lib.Dec.{eqb}
use borrow.Author.Tests.{ltb-true, ltb-false, ne_eqb, eqb-false}
use Rattle.float_format.specs.Format.{binary64, infinity, negative, unsigned, is_nan, is_infinite, is_zero, absolute, negated}
use Rattle.float_format.specs.Number.{magnitude, one, above, under, AtMost, below, units_of}
use Rattle.float_format.proofs.Units.{lt_or_ge, magnitude_at, magnitude_mono_le}
use Rattle.float_format.proofs.Patterns.{infinite_is, unsigned_signed}
use Rattle.float_format.proofs.Order.{magnitude_zero, above_at, under_at, above-negated, under-negated}
use Rattle.float_format.proofs.Laws.{one_pos}
use Rattle.ordering.specs.Ordering.{fmin, fmax}
use Rattle.ordering.proofs.MinMax.{fmin-first}
use Rattle.ordering.proofs.Ranks.{zero_is}
use Rattle.splitting.specs.Splitting.{modf_fraction}
use Rattle.splitting.proofs.Fraction.{fraction_of_infinity}
use Rattle.splitting.proofs.Laws.{fraction_sign, fraction_number, fraction_units, fraction_below-one}
use Rattle.remainder.specs.Remainder.{fmod, fmod_refusal}
use Rattle.remainder.proofs.Laws.{Operands, fmod_finite, fmod_sign, fmod-below, fmod_at_most, fmod-infinity, fmod_refuses}
use Rattle.recipe.proofs.Counts.{positive}
use Rattle.semantics.specs.Value.{done, refused, double}
use Rattle.semantics.specs.Range.{doubles, ranged, is_negative, is_positive, minus_one, plus_one, under_one, over_minus_one, fraction_range, holds_zero, infinite_end, greatest, fmod_low, fmod_high, fmod_range}
use Rattle.semantics.specs.Range as range
use Rattle.semantics.proofs.Sound.Kept.{never, no_or, Held, Kept, Between, valid, rest_of, number_of, zero_number, held_double}
use Rattle.semantics.proofs.Sound.Inputs.{double_constant}
use Rattle.semantics.proofs.Sound.Floats.{one_side, sides_units, zero_sides, between_finite, most-number, most_from, fmin-number, negated-number, absolute_sides, absolute-number}

-- ---- an answer r of x's sign, of a magnitude at most x's

pub record Cut (x r : ℕ) : Type 0 where
  pub number : is_nan binary64 r ≡ false
  pub less_above : above binary64 r ≤ above binary64 x
  pub less_under : under binary64 r ≤ under binary64 x

cut : (x r : ℕ) → is_nan binary64 r ≡ false → negative binary64 r ≡ negative binary64 x → units_of binary64 r ≤ units_of binary64 x → Cut x r
cut x r n e l = pick (negative binary64 x) refl
  where
    pick : (s : Bool) → negative binary64 x ≡ s → Cut x r
    pick true g =
        record {
          number = n;
          less_above = omega (arith, above_at binary64 r true (e ∙ g), above_at binary64 x true g);
          less_under = omega (arith, under_at binary64 r true (e ∙ g), under_at binary64 x true g);
        }
    pick false g =
        record {
          number = n;
          less_above = omega (arith, above_at binary64 r false (e ∙ g), above_at binary64 x false g);
          less_under = omega (arith, under_at binary64 r false (e ∙ g), under_at binary64 x false g);
        }

-- the tests of an end, as facts
module _ (x : ℕ) where
  pub negative_yes : is_negative x ≡ true → above binary64 x < under binary64 x
  negative_yes e = omega (arith, zero_sides, ltb-true (above binary64 x + under binary64 0) (above binary64 0 + under binary64 x) e)

  pub negative_no : is_negative x ≡ false → under binary64 x ≤ above binary64 x
  negative_no e = omega (arith, zero_sides, ltb-false (above binary64 x + under binary64 0) (above binary64 0 + under binary64 x) e)

  pub positive_yes : is_positive x ≡ true → under binary64 x < above binary64 x
  positive_yes e = omega (arith, zero_sides, ltb-true (above binary64 0 + under binary64 x) (above binary64 x + under binary64 0) e)

  pub positive_no : is_positive x ≡ false → above binary64 x ≤ under binary64 x
  positive_no e = omega (arith, zero_sides, ltb-false (above binary64 0 + under binary64 x) (above binary64 x + under binary64 0) e)

-- a lower end m that is taken where l is below zero, and an upper end where h is above it
module _ {l h x : ℕ} (b : Between l h x) {r : ℕ} (c : Cut x r) where
  low_end : (m : ℕ) (s : Bool) → is_negative l ≡ s → is_nan binary64 m ≡ false → (is_negative l ≡ true → AtMost binary64 m r)
      → (is_nan binary64 (cond s m 0) ≡ false) × AtMost binary64 (cond s m 0) r
  low_end m true e n g = (n, g e)
  low_end m false e n g = (zero_number, omega (arith, zero_sides, negative_no l e, one_side l, one_side x, b.from, c.less_under, c.less_above))

  high_end : (m : ℕ) (s : Bool) → is_positive h ≡ s → is_nan binary64 m ≡ false → (is_positive h ≡ true → AtMost binary64 r m)
      → (is_nan binary64 (cond s m 0) ≡ false) × AtMost binary64 r (cond s m 0)
  high_end m true e n g = (n, g e)
  high_end m false e n g = (zero_number, omega (arith, zero_sides, positive_no h e, one_side h, one_side x, b.upto, c.less_under, c.less_above))

  pub ends : (m k : ℕ) → is_nan binary64 m ≡ false → is_nan binary64 k ≡ false → (is_negative l ≡ true → AtMost binary64 m r)
      → (is_positive h ≡ true → AtMost binary64 r k) → Between (cond (is_negative l) m 0) (cond (is_positive h) k 0) r
  ends m k nm nk g g' =
      let lo : (is_nan binary64 (cond (is_negative l) m 0) ≡ false) × AtMost binary64 (cond (is_negative l) m 0) r = low_end m (is_negative l) refl nm g in
      let hi : (is_nan binary64 (cond (is_positive h) k 0) ≡ false) × AtMost binary64 r (cond (is_positive h) k 0) = high_end k (is_positive h) refl nk g' in
      record { low-number = lo.0; high-number = hi.0; number = c.number; from = lo.1; upto = hi.1 }

-- ---- 15: modf's fraction

-- the pattern before one's is the greatest below one
pub one_units : magnitude 52 plus_one ≡ one binary64
one_units = magnitude_at 52 1022 (2 ^ 52) (omega arith) (omega arith)

-- u is a one in units, kept from being worked out
under_one_lem : (r u : ℕ) → magnitude 52 plus_one ≡ u → units_of binary64 r < u → units_of binary64 r ≤ magnitude 52 under_one
under_one_lem r u e h = ⊎_elim (λ l. magnitude_mono_le 52 (omega arith)) (λ g. absurd (beyond g)) (lt_or_ge (unsigned binary64 r) plus_one)
  where
    beyond : plus_one ≤ unsigned binary64 r → ⊥
    beyond g = omega (arith, magnitude_mono_le 52 {a = plus_one} {b = unsigned binary64 r} g)

under_sides : (above binary64 under_one ≡ magnitude 52 under_one) × (under binary64 under_one ≡ 0)
under_sides = (above_at binary64 under_one false refl, under_at binary64 under_one false refl)

over_sides : (above binary64 over_minus_one ≡ 0) × (under binary64 over_minus_one ≡ magnitude 52 under_one)
over_sides = (above_at binary64 over_minus_one true refl, under_at binary64 over_minus_one true refl)

under-number : is_nan binary64 under_one ≡ false
under-number = number_of under_one (omega arith)

over_number : is_nan binary64 over_minus_one ≡ false
over_number = number_of over_minus_one (omega arith)

none_less : (a b u : ℕ) → a ≡ 0 → 0 < u → (a ≤ b) × (a < u)
none_less a b u e h = (omega arith, omega arith)

rest_less : (a b u : ℕ) → a ≡ b % u → a ≤ b
rest_less a b u e = omega (arith, mod-le b u)

module _ (x : ℕ) (n : is_nan binary64 x ≡ false) where
  fraction_less : (units_of binary64 (modf_fraction binary64 x) ≤ units_of binary64 x) × units_of binary64 (modf_fraction binary64 x) < one binary64
  fraction_less = ⊎_elim infinite finite (eq-or-lt_of_le (rest_of x n))
    where
      infinite : unsigned binary64 x ≡ infinity binary64
          → (units_of binary64 (modf_fraction binary64 x) ≤ units_of binary64 x) × units_of binary64 (modf_fraction binary64 x) < one binary64
      infinite e =
          let z : units_of binary64 (modf_fraction binary64 x) ≡ 0 =
          ap (units_of binary64) (fraction_of_infinity binary64 x e) ∙ ap (magnitude 52) (unsigned_signed binary64 0 (omega arith) (negative binary64 x)) ∙ magnitude_zero 52 in
          none_less (units_of binary64 (modf_fraction binary64 x)) (units_of binary64 x) (one binary64) z (one_pos binary64)

      finite : unsigned binary64 x < infinity binary64
          → (units_of binary64 (modf_fraction binary64 x) ≤ units_of binary64 x) × units_of binary64 (modf_fraction binary64 x) < one binary64
      finite l =
          (rest_less (units_of binary64 (modf_fraction binary64 x)) (units_of binary64 x) (one binary64) (fraction_units binary64 x valid l), fraction_below-one binary64 x valid l)

  fraction_cut : Cut x (modf_fraction binary64 x)
  fraction_cut =
      cut x (modf_fraction binary64 x) (number_of (modf_fraction binary64 x) (fraction_number binary64 x valid (rest_of x n))) (fraction_sign binary64 x valid (rest_of x n)) fraction_less.0

module _ {l h x : ℕ} (b : Between l h x) where
  abbrev r : ℕ
  r = modf_fraction binary64 x

  c : Cut x r
  c = fraction_cut x b.number

  small : above binary64 r + under binary64 r ≤ magnitude 52 under_one
  small = omega (arith, sides_units r, under_one_lem r (one binary64) one_units (fraction_less x b.number).1)

  -- the lower end below zero, and the upper one above it
  low_below : (t : Bool) → (is_nan binary64 (cond t l over_minus_one) ≡ false) × (is_negative l ≡ true → AtMost binary64 (cond t l over_minus_one) r)
  low_below true = (b.low-number, λ e. omega (arith, negative_yes l e, one_side l, one_side x, b.from, c.less_under, c.less_above))
  low_below false = (over_number, λ e. omega (arith, over_sides, small))

  high-above : (t : Bool) → (is_nan binary64 (cond t h under_one) ≡ false) × (is_positive h ≡ true → AtMost binary64 r (cond t h under_one))
  high-above true = (b.high-number, λ e. omega (arith, positive_yes h e, one_side h, one_side x, b.upto, c.less_under, c.less_above))
  high-above false = (under-number, λ e. omega (arith, under_sides, small))

  pub fraction_held : Held (fraction_range (doubles l h)) (done (double (modf_fraction binary64 x)))
  fraction_held =
      held_double
      (ends b c (cond (below binary64 minus_one l) l over_minus_one) (cond (below binary64 h plus_one) h under_one)
      (low_below (below binary64 minus_one l)).0
      (high-above (below binary64 h plus_one)).0
      (low_below (below binary64 minus_one l)).1
      (high-above (below binary64 h plus_one)).1)

-- ---- 22, 24: where x has no remainder by y

-- the tests of the rule
no_holds : (s t : Bool) → (not s && not t) ≡ false → (s ≡ true) ⊎ (t ≡ true)
no_holds true t e = inl refl
no_holds false true e = inr refl
no_holds false false e = never e

pub finite_end : (x : ℕ) → is_nan binary64 x ≡ false → is_infinite binary64 x ≡ false → unsigned binary64 x < infinity binary64
finite_end x n e = ⊎_elim (λ g. absurd (eqb-false (unsigned binary64 x) (infinity binary64) (sym (infinite_is binary64 x) ∙ e) g)) (λ l. l) (eq-or-lt_of_le (rest_of x n))

-- x is finite and y is not zero
pub record Divides (x y : ℕ) : Type 0 where
  pub finite : unsigned binary64 x < infinity binary64
  pub nonzero : 0 < unsigned binary64 y

module _ (x y : ℕ) (nx : is_nan binary64 x ≡ false) (ny : is_nan binary64 y ≡ false) where
  -- the run refuses nothing exactly there
  accepted : Divides x y → fmod_refusal binary64 x y ≡ 0
  unfolding fmod_refusal
  accepted d =
      let f = d.finite in
      let s = d.nonzero in
      simp (infinite_is binary64 x, ne_eqb (unsigned binary64 x) (infinity binary64) (omega arith), zero_is binary64 y, ne_eqb (unsigned binary64 y) 0 (omega arith), nx, ny)

  pub divides : fmod_refusal binary64 x y ≡ 0 → Divides x y
  divides e = pick (is_infinite binary64 x) (is_zero binary64 y) refl refl
    where
      no : (is_infinite binary64 x ≡ true) ⊎ (is_zero binary64 y ≡ true) → ⊥
      no h = omega (arith, (fmod_refuses binary64 x y).1 (nx, ny, h))

      pick : (s t : Bool) → is_infinite binary64 x ≡ s → is_zero binary64 y ≡ t → Divides x y
      pick true t p q = absurd (no (inl p))
      pick false true p q = absurd (no (inr q))
      pick false false p q =
          record { finite = finite_end x nx p; nonzero = positive (unsigned binary64 y) (eqb-false (unsigned binary64 y) 0 (sym (zero_is binary64 y) ∙ q)) }

module _ {l h x l' h' y : ℕ} (b : Between l h x) (b' : Between l' h' y) where
  nonzero : (is_positive l' ≡ true) ⊎ (is_negative h' ≡ true) → 0 < unsigned binary64 y
  nonzero w = ⊎_elim (λ k. k) (λ g. absurd (none (omega arith))) (lt_or_ge 0 (unsigned binary64 y))
    where
      none : unsigned binary64 y ≡ 0 → ⊥
      none z =
          let u : units_of binary64 y ≡ 0 = ap (magnitude 52) z ∙ magnitude_zero 52 in
          ⊎_elim (λ e. omega (arith, sides_units y, positive_yes l' e, b'.from)) (λ e. omega (arith, sides_units y, negative_yes h' e, b'.upto)) w

  -- and what the sheet's test lets through is so
  pub let_through : (infinite_end (doubles l h) || holds_zero (doubles l' h')) ≡ false → Divides x y
  let_through e =
      let p : (infinite_end (doubles l h) ≡ false) × (holds_zero (doubles l' h') ≡ false) = no_or (infinite_end (doubles l h)) (holds_zero (doubles l' h')) e in
      let q : (is_infinite binary64 l ≡ false) × (is_infinite binary64 h ≡ false) = no_or (is_infinite binary64 l) (is_infinite binary64 h) p.0 in
      record {
        finite = between_finite l h x (finite_end l b.low-number q.0) (finite_end h b.high-number q.1) b.from b.upto;
        nonzero = nonzero (no_holds (is_positive l') (is_negative h') p.1);
      }

  -- So a rule that refuses on these terms, and else gives ends with the answer r between them, keeps its promise.
  pub divided_kept : (low high r : ℕ) → (Divides x y → Between low high r)
      → Kept (cond (infinite_end (doubles l h) || holds_zero (doubles l' h')) (range.refused 20) (ranged (doubles low high)))
      (cond (eqb (fmod_refusal binary64 x y) 0) (done (double r)) (refused 20))
  divided_kept low high r g = pick (infinite_end (doubles l h) || holds_zero (doubles l' h')) refl
    where
      pick : (t : Bool) → (infinite_end (doubles l h) || holds_zero (doubles l' h')) ≡ t
          → Kept (cond t (range.refused 20) (ranged (doubles low high))) (cond (eqb (fmod_refusal binary64 x y) 0) (done (double r)) (refused 20))
      pick true e = tt
      pick false e = rw (accepted x y b.number b'.number (let_through e)) (held_double (g (let_through e)))

-- ---- 22: fmod

module _ {l h x l' h' y : ℕ} (b : Between l h x) (b' : Between l' h' y) where
  module _ (d : Divides x y) where
    fmod_less : (is_nan binary64 (fmod binary64 x y) ≡ false) × (negative binary64 (fmod binary64 x y) ≡ negative binary64 x)
        × (units_of binary64 (fmod binary64 x y) ≤ units_of binary64 x) × (units_of binary64 (fmod binary64 x y) ≤ units_of binary64 y)
    fmod_less = ⊎_elim infinite finite (eq-or-lt_of_le (rest_of y b'.number))
      where
        infinite : unsigned binary64 y ≡ infinity binary64
            → (is_nan binary64 (fmod binary64 x y) ≡ false) × (negative binary64 (fmod binary64 x y) ≡ negative binary64 x)
            × (units_of binary64 (fmod binary64 x y) ≤ units_of binary64 x) × (units_of binary64 (fmod binary64 x y) ≤ units_of binary64 y)
        infinite e =
            let f = d.finite in
            rw (fmod-infinity binary64 x y f e) (b.number, refl, omega arith, magnitude_mono_le 52 (omega arith))

        finite : unsigned binary64 y < infinity binary64
            → (is_nan binary64 (fmod binary64 x y) ≡ false) × (negative binary64 (fmod binary64 x y) ≡ negative binary64 x)
            × (units_of binary64 (fmod binary64 x y) ≤ units_of binary64 x) × (units_of binary64 (fmod binary64 x y) ≤ units_of binary64 y)
        finite k =
            let o : Operands binary64 x y = record { finite_x = d.finite; finite_y = k; nonzero = d.nonzero } in (
              number_of (fmod binary64 x y) (omega (arith, fmod_finite binary64 x y o)),
              fmod_sign binary64 x y o,
              fmod_at_most binary64 x y o,
              omega (arith, fmod-below binary64 x y o),
            )

    fmod_cut : Cut x (fmod binary64 x y)
    fmod_cut = cut x (fmod binary64 x y) fmod_less.0 fmod_less.1 fmod_less.2

    -- the greatest magnitude of y's range
    abbrev M : ℕ
    M = fmax binary64 (absolute binary64 l') (absolute binary64 h')

    under-most : above binary64 (fmod binary64 x y) + under binary64 (fmod binary64 x y) + under binary64 M ≤ above binary64 M
    under-most = omega (arith, sides_units (fmod binary64 x y), sides_units y, fmod_less.3, most_from b')

    abbrev lower : ℕ
    lower = fmin binary64 (absolute binary64 l) M

    lower-number : is_nan binary64 lower ≡ false
    lower-number = fmin-number (absolute binary64 l) M (absolute-number l b.low-number) (most-number b')

    from_low : is_negative l ≡ true → AtMost binary64 (negated binary64 lower) (fmod binary64 x y)
    from_low e =
        ⊎_elim
        (λ g. omega (arith, above-negated binary64 lower, under-negated binary64 lower, ap (above binary64) g, ap (under binary64) g, absolute_sides l, negative_yes l e, one_side l, one_side x, b.from, fmod_cut.less_under, fmod_cut.less_above))
        (λ g. omega (arith, above-negated binary64 lower, under-negated binary64 lower, ap (above binary64) g, ap (under binary64) g, under-most))
        ((fmin-first binary64 (absolute binary64 l) M).operand (absolute-number l b.low-number) (most-number b'))

    upto_high : is_positive h ≡ true → AtMost binary64 (fmod binary64 x y) (fmin binary64 h M)
    upto_high e =
        ⊎_elim
        (λ g. omega (arith, ap (above binary64) g, ap (under binary64) g, positive_yes h e, one_side h, one_side x, b.upto, fmod_cut.less_under, fmod_cut.less_above))
        (λ g. omega (arith, ap (above binary64) g, ap (under binary64) g, under-most))
        ((fmin-first binary64 h M).operand b.high-number (most-number b'))

    fmod-between : Between (cond (is_negative l) (negated binary64 lower) 0) (cond (is_positive h) (fmin binary64 h M) 0) (fmod binary64 x y)
    fmod-between =
        ends b fmod_cut (negated binary64 lower) (fmin binary64 h M) (negated-number lower lower-number) (fmin-number h M b.high-number (most-number b')) from_low upto_high

  pub fmod_kept : Kept (fmod_range (doubles l h) (doubles l' h'))
      (cond (eqb (fmod_refusal binary64 x y) 0) (done (double (fmod binary64 x y))) (refused 20))
  fmod_kept = divided_kept b b' (fmod_low l (greatest (doubles l' h'))) (fmod_high h (greatest (doubles l' h'))) (fmod binary64 x y) fmod-between

-- ---- no NaN, of no ranges

-- fmod of numbers, where it is not refused, is a number
pub fmod-number : (x y : ℕ) → is_nan binary64 x ≡ false → is_nan binary64 y ≡ false → fmod_refusal binary64 x y ≡ 0 → is_nan binary64 (fmod binary64 x y) ≡ false
fmod-number x y nx ny e = (fmod_less (double_constant x nx) (double_constant y ny) (divides x y nx ny e)).0
