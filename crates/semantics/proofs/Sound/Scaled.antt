-- The range rule of ldexp. It is monotone in x; in the power it grows for numbers from zero on and falls for those up to zero, so the
-- end's sign says which power is the farthest. Between finite answers lies no overflow. Assumes nothing.
use mathlib.Core.Path.{◌≡◌, refl, ap, ◌∙◌}
use mathlib.Core.Bool.{Bool, true, false, not, ◌&&◌, ◌||◌, cond}
use mathlib.Core.Logic.{◌⊎◌, inl, inr, ⊎_elim}
use Prim.Native.Nat.{ℕ, ◌≤◌, ◌<◌}
use native.Mathlib.Nat.{eq-or-lt_of_le}
use native.Mathlib.Omega.{arith}
use lib.Dec.{ltb, eqb}
use lib.IntN.{ℤ}
use lib.Signed.{le_z, ◌≤ℤ◌}
use borrow.Author.Tests.{eqb-true, not-false}
use Rattle.float_format.specs.Format.{binary64, infinity, negative, unsigned, is_nan, is_infinite, negated}
use Rattle.float_format.specs.Number.{above, under, AtMost}
use Rattle.float_format.proofs.Order.{at_most_trans, above_at, under_at, above-negated, under-negated, unsigned-negated, negative-negated}
use Rattle.scaling.specs.Scaling.{scaled, ldexp, ldexp_refusal}
use Rattle.scaling.proofs.Laws.{refused_is_infinite, ldexp_not_nan, ldexp_monotone, ldexp_grows, ldexp_shrinks}
use Rattle.semantics.specs.Value.{done, refused, double}
use Rattle.semantics.specs.Range.{doubles, wholes, ranged, is_negative, is_positive, ldexp_range}
use Rattle.semantics.specs.Range as range
use Rattle.semantics.proofs.Sound.Kept.{no_or, Held, Kept, Between, Inside, valid, rest_of, number_of, held_double}
use Rattle.semantics.proofs.Sound.Floats.{between_finite}
use Rattle.semantics.proofs.Sound.Fractions.{negative_yes, negative_no, positive_yes, positive_no, finite_end}

ordered : {a b : ℤ} → le_z a b ≡ true → a ≤ℤ b
ordered e = record { le = rw e tt }

-- ---- in the power

module _ (x : ℕ) (n : is_nan binary64 x ≡ false) (i j : ℤ) (le : i ≤ℤ j) where
  still : unsigned binary64 (negated binary64 x) ≤ infinity binary64
  still = omega (arith, unsigned-negated binary64 x, rest_of x n)

  -- a zero is the zero of the other sign
  over : (k : ℤ) → above binary64 x ≡ under binary64 x
      → AtMost binary64 (ldexp binary64 x k) (ldexp binary64 (negated binary64 x) k) × AtMost binary64 (ldexp binary64 (negated binary64 x) k) (ldexp binary64 x k)
  over k e = (
    ldexp_monotone binary64 valid x (negated binary64 x) k (rest_of x n) still (omega (arith, above-negated binary64 x, under-negated binary64 x)),
    ldexp_monotone binary64 valid (negated binary64 x) x k still (rest_of x n) (omega (arith, above-negated binary64 x, under-negated binary64 x)),
  )

  -- a number from zero on grows
  pub power_grows : under binary64 x ≤ above binary64 x → AtMost binary64 (ldexp binary64 x i) (ldexp binary64 x j)
  power_grows g = pick (negative binary64 x) refl
    where
      pick : (s : Bool) → negative binary64 x ≡ s → AtMost binary64 (ldexp binary64 x i) (ldexp binary64 x j)
      pick false e = ldexp_grows binary64 valid x i j le (rest_of x n) e
      pick true e =
          let z : above binary64 x ≡ under binary64 x = omega (arith, above_at binary64 x true e) in
          let m : AtMost binary64 (ldexp binary64 (negated binary64 x) i) (ldexp binary64 (negated binary64 x) j) =
          ldexp_grows binary64 valid (negated binary64 x) i j le still (negative-negated binary64 x ∙ ap not e) in
          at_most_trans binary64 (ldexp binary64 x i) (ldexp binary64 (negated binary64 x) i) (ldexp binary64 x j) (over i z).0
          (at_most_trans binary64 (ldexp binary64 (negated binary64 x) i) (ldexp binary64 (negated binary64 x) j) (ldexp binary64 x j) m (over j z).1)

  -- one up to zero falls
  pub power_falls : above binary64 x ≤ under binary64 x → AtMost binary64 (ldexp binary64 x j) (ldexp binary64 x i)
  power_falls g = pick (negative binary64 x) refl
    where
      pick : (s : Bool) → negative binary64 x ≡ s → AtMost binary64 (ldexp binary64 x j) (ldexp binary64 x i)
      pick true e = ldexp_shrinks binary64 valid x i j le (rest_of x n) e
      pick false e =
          let z : above binary64 x ≡ under binary64 x = omega (arith, under_at binary64 x false e) in
          let m : AtMost binary64 (ldexp binary64 (negated binary64 x) j) (ldexp binary64 (negated binary64 x) i) =
          ldexp_shrinks binary64 valid (negated binary64 x) i j le still (negative-negated binary64 x ∙ ap not e) in
          at_most_trans binary64 (ldexp binary64 x j) (ldexp binary64 (negated binary64 x) j) (ldexp binary64 x i) (over j z).0
          (at_most_trans binary64 (ldexp binary64 (negated binary64 x) j) (ldexp binary64 (negated binary64 x) i) (ldexp binary64 x i) m (over i z).1)

-- ---- 23

refused_or_not : (x : ℕ) (n : ℤ) → (ldexp_refusal binary64 x n ≡ 0) ⊎ (ldexp_refusal binary64 x n ≡ 3)
unfolding ldexp_refusal
refused_or_not x n = pick (not (is_nan binary64 x) && not (is_infinite binary64 x) && not (ltb (scaled binary64 x n) (infinity binary64)))
  where
    pick : (t : Bool) → (◌≡◌ {A = ℕ} (cond t 3 0) 0) ⊎ (◌≡◌ {A = ℕ} (cond t 3 0) 3)
    pick true = inr refl
    pick false = inl refl

-- ldexp of a number is a number
pub ldexp-number : (y : ℕ) (k : ℤ) → is_nan binary64 y ≡ false → is_nan binary64 (ldexp binary64 y k) ≡ false
ldexp-number y k e = number_of (ldexp binary64 y k) (ldexp_not_nan binary64 valid y k (rest_of y e))

-- a finite number that is not refused has a finite answer, and the other way round
answer_finite : (x : ℕ) (n : ℤ) → unsigned binary64 x < infinity binary64 → ldexp_refusal binary64 x n ≡ 0
    → unsigned binary64 (ldexp binary64 x n) < infinity binary64
answer_finite x n h e =
    ⊎_elim (λ g. absurd (no ((refused_is_infinite binary64 x n h).1 g))) (λ l. l) (eq-or-lt_of_le (ldexp_not_nan binary64 valid x n (omega arith)))
  where
    no : ldexp_refusal binary64 x n ≡ 3 → ⊥
    no g = omega arith

finite_answer : (x : ℕ) (n : ℤ) → unsigned binary64 x < infinity binary64 → unsigned binary64 (ldexp binary64 x n) < infinity binary64
    → ldexp_refusal binary64 x n ≡ 0
finite_answer x n h l = ⊎_elim (λ e. e) (λ e. absurd (no ((refused_is_infinite binary64 x n h).0 e))) (refused_or_not x n)
  where
    no : unsigned binary64 (ldexp binary64 x n) ≡ infinity binary64 → ⊥
    no g = omega arith

module _ {l h x : ℕ} (b : Between l h x) {i j n : ℤ} (w : Inside i j n) where
  -- the powers that the ends take, by their signs
  low_power_lem : (s : Bool) → is_negative l ≡ s → AtMost binary64 (ldexp binary64 l (cond s j i)) (ldexp binary64 l n)
  low_power_lem true e =
      let g : above binary64 l < under binary64 l = negative_yes l e in
      power_falls l b.low-number n j (ordered w.upto) (omega arith)
  low_power_lem false e = power_grows l b.low-number i n (ordered w.from) (negative_no l e)

  high_power_lem : (s : Bool) → is_positive h ≡ s → AtMost binary64 (ldexp binary64 h n) (ldexp binary64 h (cond s j i))
  high_power_lem true e =
      let g : under binary64 h < above binary64 h = positive_yes h e in
      power_grows h b.high-number n j (ordered w.upto) (omega arith)
  high_power_lem false e = power_falls h b.high-number i n (ordered w.from) (positive_no h e)

  abbrev lp : ℤ
  lp = cond (is_negative l) j i

  abbrev hp : ℤ
  hp = cond (is_positive h) j i

  pub scaled-between : Between (ldexp binary64 l lp) (ldexp binary64 h hp) (ldexp binary64 x n)
  scaled-between =
      record {
        low-number = ldexp-number l lp b.low-number;
        high-number = ldexp-number h hp b.high-number;
        number = ldexp-number x n b.number;
        from = at_most_trans binary64 (ldexp binary64 l lp) (ldexp binary64 l n) (ldexp binary64 x n) (low_power_lem (is_negative l) refl) (ldexp_monotone binary64 valid l x n (rest_of l b.low-number) (rest_of x b.number) b.from);
        upto = at_most_trans binary64 (ldexp binary64 x n) (ldexp binary64 h n) (ldexp binary64 h hp) (ldexp_monotone binary64 valid x h n (rest_of x b.number) (rest_of h b.high-number) b.upto) (high_power_lem (is_positive h) refl);
      }

  scaled_held : unsigned binary64 l < infinity binary64 → unsigned binary64 h < infinity binary64
      → ldexp_refusal binary64 l lp ≡ 0 → ldexp_refusal binary64 h hp ≡ 0
      → Held (doubles (ldexp binary64 l lp) (ldexp binary64 h hp)) (cond (eqb (ldexp_refusal binary64 x n) 0) (done (double (ldexp binary64 x n))) (refused 21))
  scaled_held fl fh pl ph =
      let fx : unsigned binary64 x < infinity binary64 = between_finite l h x fl fh b.from b.upto in
      let fr : unsigned binary64 (ldexp binary64 x n) < infinity binary64 =
      between_finite (ldexp binary64 l lp) (ldexp binary64 h hp) (ldexp binary64 x n) (answer_finite l lp fl pl) (answer_finite h hp fh ph) scaled-between.from scaled-between.upto in
      rw (finite_answer x n fx fr) (held_double scaled-between)

  pub ldexp_kept : Kept (ldexp_range (doubles l h) (wholes i j))
      (cond (eqb (ldexp_refusal binary64 x n) 0) (done (double (ldexp binary64 x n))) (refused 21))
  ldexp_kept = pick (((is_infinite binary64 l || is_infinite binary64 h) || not (eqb (ldexp_refusal binary64 l lp) 0)) || not (eqb (ldexp_refusal binary64 h hp) 0)) refl
    where
      pick : (t : Bool) → (((is_infinite binary64 l || is_infinite binary64 h) || not (eqb (ldexp_refusal binary64 l lp) 0)) || not (eqb (ldexp_refusal binary64 h hp) 0)) ≡ t
          → Kept (cond t (range.refused 21) (ranged (doubles (ldexp binary64 l lp) (ldexp binary64 h hp))))
          (cond (eqb (ldexp_refusal binary64 x n) 0) (done (double (ldexp binary64 x n))) (refused 21))
      pick true e = tt
      pick false e =
          let p : (((is_infinite binary64 l || is_infinite binary64 h) || not (eqb (ldexp_refusal binary64 l lp) 0)) ≡ false) × (not (eqb (ldexp_refusal binary64 h hp) 0) ≡ false) =
          no_or ((is_infinite binary64 l || is_infinite binary64 h) || not (eqb (ldexp_refusal binary64 l lp) 0)) (not (eqb (ldexp_refusal binary64 h hp) 0)) e in
          let q : ((is_infinite binary64 l || is_infinite binary64 h) ≡ false) × (not (eqb (ldexp_refusal binary64 l lp) 0) ≡ false) =
          no_or (is_infinite binary64 l || is_infinite binary64 h) (not (eqb (ldexp_refusal binary64 l lp) 0)) p.0 in
          let f : (is_infinite binary64 l ≡ false) × (is_infinite binary64 h ≡ false) = no_or (is_infinite binary64 l) (is_infinite binary64 h) q.0 in
          scaled_held (finite_end l b.low-number f.0) (finite_end h b.high-number f.1)
          (eqb-true (ldexp_refusal binary64 l lp) 0 (not-false (eqb (ldexp_refusal binary64 l lp) 0) q.1))
          (eqb-true (ldexp_refusal binary64 h hp) 0 (not-false (eqb (ldexp_refusal binary64 h hp) 0) p.1))
