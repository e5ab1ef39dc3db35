-- What rounding to a whole number does to every pattern that is no NaN, in every direction: it keeps the sign, stays finite, gives a
-- whole number, leaves whole numbers, zeros and infinities alone, is idempotent and monotone; ceil is floor turned round. The one
-- idea: the result's units are `whole_part` ones, so each law is one of `parts`. Over every valid format. Assumes nothing.
use mathlib.Core.Path.{◌≡◌, refl, sym, ap, ◌∙◌}
use mathlib.Core.Bool.{Bool, true, false, cond}
use mathlib.Core.Logic.{⊎_elim}
use Prim.Native.Nat.{ℕ, ◌+◌, ◌-◌, ◌*◌, ◌/◌, ◌%◌, ◌≤◌, ◌<◌}
use native.Mathlib.Nat.{eq-or-lt_of_le, le_antisymm, mul-mod_left, mul-le-mul_right, div-add-mod', zero-mod}
use native.Mathlib.Omega.{arith}
use lib.Pow.{pow_pos}
use Rattle.float_format.specs.Format.{Format, Valid, sign_bit, infinity, negative, unsigned, signed, negated}
use Rattle.float_format.specs.Number.{magnitude, bias, one, AtMost, units_of}
use Rattle.float_format.specs.Rounding.{parts, whole_part, integral}
use Rattle.float_format.specs.declared.Direction.{Direction}
use Rattle.float_format.specs.declared.Direction.TheVariants.{Down, Up}
use Rattle.float_format.proofs.Units.{magnitude_mono_le, magnitude_cancel}
use Rattle.float_format.proofs.Patterns.{below_sign, negative-signed, unsigned_signed, signed_lt, signed_parts}
use Rattle.float_format.proofs.Parts.{parts_whole, parts_mono}
use Rattle.float_format.proofs.Integral.{integral_infinite, integral_finite, room, Answer, answer}
use Rattle.float_format.proofs.Order.{magnitude_zero, infinity-below_sign, negative-negated, unsigned-negated, negated_is, negated_twice, rank_at, rank_order}
use Rattle.float_format.proofs.Bounds.{parts_turned}

-- ---- a finite pattern's result: x's sign, and units that are a number of ones

pub record Result (f : Format) (d : Direction) (x : ℕ) : Type 0 where
  pub pattern : integral f d x ≡ signed f (negative f x) (unsigned f (integral f d x))
  pub sign : negative f (integral f d x) ≡ negative f x
  pub finite : unsigned f (integral f d x) < infinity f
  pub units : units_of f (integral f d x) ≡ whole_part f d x * one f

pub result : (f : Format) (d : Direction) (x : ℕ) → Valid f → unsigned f x < infinity f → Result f d x
unfolding whole_part
result f d x v h = go (answer f d (negative f x) (unsigned f x) v h)
  where
    go : Answer f d (negative f x) (unsigned f x) → Result f d x
    go a =
        let l : a.pattern < sign_bit f = omega (arith, a.finite, infinity-below_sign f) in
        let e : integral f d x ≡ signed f (negative f x) a.pattern = integral_finite f d x a.pattern h a.rounds in
        let r : unsigned f (integral f d x) ≡ a.pattern = ap (unsigned f) e ∙ unsigned_signed f a.pattern l (negative f x) in
        record {
          pattern = e ∙ ap (signed f (negative f x)) (sym r);
          sign = ap (negative f) e ∙ negative-signed f a.pattern l (negative f x);
          finite = omega (arith, a.finite);
          units = ap (magnitude f.fraction) r ∙ a.rounds.units;
        }

pub one_pos : (f : Format) → 0 < one f
one_pos f = pow_pos (bias f + f.fraction - 1)

pub magnitude-same : (F a b : ℕ) → magnitude F a ≡ magnitude F b → a ≡ b
magnitude-same F a b e = le_antisymm (magnitude_cancel F (omega arith)) (magnitude_cancel F (omega arith))

pub zero_finite : (f : Format) → Valid f → {a : ℕ} → a ≡ 0 → a < infinity f
zero_finite f v e = omega (arith, (room f (bias f) v refl).whole, pow_pos f.fraction)

module _ (f : Format) (d : Direction) (x : ℕ) (v : Valid f) where
  pub result_finite : unsigned f x < infinity f → unsigned f (integral f d x) < infinity f
  result_finite h = (result f d x v h).finite

  pub result_whole : unsigned f x < infinity f → units_of f (integral f d x) % one f ≡ 0
  result_whole h = ap (λ (n : ℕ). n % one f) (result f d x v h).units ∙ mul-mod_left (whole_part f d x) (one f)

  result_most : unsigned f x ≤ infinity f → unsigned f (integral f d x) ≤ infinity f
  result_most h =
      ⊎_elim (λ e. omega (arith, ap (unsigned f) (integral_infinite f d x e))) (λ l. omega (arith, result_finite l)) (eq-or-lt_of_le h)

  -- a zero result has x's sign too
  pub integral_sign : unsigned f x ≤ infinity f → negative f (integral f d x) ≡ negative f x
  integral_sign h =
      ⊎_elim (λ e. ap (negative f) (integral_infinite f d x e)) (λ l. (result f d x v l).sign) (eq-or-lt_of_le h)

  -- ---- whole numbers are left alone

  whole_rest : unsigned f x < infinity f → units_of f x % one f ≡ 0 → unsigned f (integral f d x) ≡ unsigned f x
  unfolding whole_part
  whole_rest h w =
      let n : ℕ = units_of f x in
      let e : n ≡ n / one f * one f = omega (arith, div-add-mod' n (one f)) in
      let k : whole_part f d x ≡ n / one f =
      ap (λ (m : ℕ). parts d (negative f x) m (one f)) e ∙ parts_whole d (negative f x) (n / one f) (one f) (one_pos f) in
      magnitude-same f.fraction _ _ ((result f d x v h).units ∙ ap (λ (m : ℕ). m * one f) k ∙ sym e)

  zero_rest : unsigned f x ≡ 0 → unsigned f (integral f d x) ≡ unsigned f x
  zero_rest e =
      let z : units_of f x ≡ 0 = ap (magnitude f.fraction) e ∙ magnitude_zero f.fraction in
      whole_rest (zero_finite f v e) (ap (λ (n : ℕ). n % one f) z ∙ zero-mod (one f))

  pub whole_unchanged : x < 2 * sign_bit f → unsigned f x < infinity f → units_of f x % one f ≡ 0 → integral f d x ≡ x
  whole_unchanged p h w = (result f d x v h).pattern ∙ ap (signed f (negative f x)) (whole_rest h w) ∙ sym (signed_parts f x p)

  pub zero_unchanged : x < 2 * sign_bit f → unsigned f x ≡ 0 → integral f d x ≡ x
  zero_unchanged p e = (result f d x v (zero_finite f v e)).pattern ∙ ap (signed f (negative f x)) (zero_rest e) ∙ sym (signed_parts f x p)

pub infinity_unchanged : (f : Format) (d : Direction) (x : ℕ) → unsigned f x ≡ infinity f → integral f d x ≡ x
infinity_unchanged f d x e = integral_infinite f d x e

pub idempotent : (f : Format) (d : Direction) (x : ℕ) → Valid f → unsigned f x ≤ infinity f → integral f d (integral f d x) ≡ integral f d x
idempotent f d x v h = ⊎_elim (λ e. ap (integral f d) (infinity_unchanged f d x e)) (λ l. finite l (result f d x v l)) (eq-or-lt_of_le h)
  where
    finite : unsigned f x < infinity f → Result f d x → integral f d (integral f d x) ≡ integral f d x
    finite l r =
        whole_unchanged f d (integral f d x) v
        (rw r.pattern (signed_lt f (unsigned f (integral f d x)) (below_sign f (integral f d x)) (negative f x)))
        r.finite
        (result_whole f d x v l)

-- ---- ceil is floor turned round

turned : (f : Format) (x : ℕ) → whole_part f Up x ≡ whole_part f Down (negated f x)
unfolding whole_part
turned f x = rw (negative-negated f x, unsigned-negated f x) (parts_turned (negative f x) (units_of f x) (one f))

-- where x is finite it need not be a pattern
pub mirror_finite : (f : Format) (x : ℕ) → Valid f → unsigned f x < infinity f → integral f Up x ≡ negated f (integral f Down (negated f x))
mirror_finite f x v h = go (result f Up x v h) (result f Down (negated f x) v (omega (arith, unsigned-negated f x)))
  where
    go : Result f Up x → Result f Down (negated f x) → integral f Up x ≡ negated f (integral f Down (negated f x))
    go r m =
        let e : unsigned f (integral f Down (negated f x)) ≡ unsigned f (integral f Up x) =
        magnitude-same f.fraction _ _ (m.units ∙ ap (λ (n : ℕ). n * one f) (sym (turned f x)) ∙ sym r.units) in
        r.pattern
        ∙ sym (negated_is f (integral f Down (negated f x)) (negative f x) (unsigned f (integral f Up x)) (m.sign ∙ negative-negated f x) e)

pub mirror : (f : Format) (x : ℕ) → Valid f → x < 2 * sign_bit f → unsigned f x ≤ infinity f
    → integral f Up x ≡ negated f (integral f Down (negated f x))
mirror f x v p h = ⊎_elim (λ e. infinite e) (λ l. mirror_finite f x v l) (eq-or-lt_of_le h)
  where
    infinite : unsigned f x ≡ infinity f → integral f Up x ≡ negated f (integral f Down (negated f x))
    infinite e =
        integral_infinite f Up x e
        ∙ sym (ap (negated f) (integral_infinite f Down (negated f x) (unsigned-negated f x ∙ e)) ∙ negated_twice f x p)

-- ---- the order is kept

module _ (f : Format) (d : Direction) (v : Valid f) where
  -- of one sign, by the rest of the pattern
  rest_mono : (x y : ℕ) → negative f x ≡ negative f y → unsigned f y ≤ infinity f → unsigned f x ≤ unsigned f y
      → unsigned f (integral f d x) ≤ unsigned f (integral f d y)
  unfolding whole_part
  rest_mono x y s h l = ⊎_elim infinite finite (eq-or-lt_of_le h)
    where
      infinite : unsigned f y ≡ infinity f → unsigned f (integral f d x) ≤ unsigned f (integral f d y)
      infinite e = omega (arith, ap (unsigned f) (integral_infinite f d y e), result_most f d x v (omega arith))

      finite : unsigned f y < infinity f → unsigned f (integral f d x) ≤ unsigned f (integral f d y)
      finite k = go (result f d x v (omega arith)) (result f d y v k)
        where
          go : Result f d x → Result f d y → unsigned f (integral f d x) ≤ unsigned f (integral f d y)
          go r m =
              let p : parts d (negative f x) (units_of f x) (one f) ≤ whole_part f d y =
              rw s (parts_mono d (negative f y) (one f) (one_pos f) (magnitude_mono_le f.fraction l)) in
              magnitude_cancel f.fraction (omega (arith, r.units, m.units, mul-le-mul_right (one f) p))

  pub monotone : (x y : ℕ) → unsigned f x ≤ infinity f → unsigned f y ≤ infinity f
      → AtMost f x y → AtMost f (integral f d x) (integral f d y)
  monotone x y hx hy g =
      (rank_order f (integral f d x) (integral f d y)).0
      (rw (rank_at f (integral f d x) _ (integral_sign f d x v hx), rank_at f (integral f d y) _ (integral_sign f d y v hy))
      (by_signs (negative f x) (negative f y) refl refl
      (rw (rank_at f x _ refl, rank_at f y _ refl) at ((rank_order f x y).1 g))))
    where
      by_signs : (s t : Bool) → negative f x ≡ s → negative f y ≡ t
          → cond s (sign_bit f - unsigned f x) (sign_bit f + unsigned f x) ≤ cond t (sign_bit f - unsigned f y) (sign_bit f + unsigned f y)
          → cond s (sign_bit f - unsigned f (integral f d x)) (sign_bit f + unsigned f (integral f d x))
          ≤ cond t (sign_bit f - unsigned f (integral f d y)) (sign_bit f + unsigned f (integral f d y))
      by_signs true true e e' l = omega (arith, rest_mono y x (e' ∙ sym e) hx (omega (arith, below_sign f x)))
      by_signs true false e e' l = omega arith
      -- two zeros, which stay zeros
      by_signs false true e e' l =
          let b : unsigned f y < sign_bit f = below_sign f y in
          omega (arith, zero_rest f d x v (omega arith), zero_rest f d y v (omega arith))
      by_signs false false e e' l = omega (arith, rest_mono x y (e ∙ sym e') hy (omega arith))
