-- The range rule of lround: round is monotone, and lround of a number is its whole number of ones. Assumes nothing.
use mathlib.Core.Path.{◌≡◌, refl, sym, ap, ◌∙◌}
use mathlib.Core.Bool.{Bool, true, false, ◌&&◌, cond}
use mathlib.Core.Logic.{⊎_elim}
use Prim.Native.Nat.{ℕ, zero, suc, ◌+◌, ◌*◌, ◌^◌, ◌≤◌, ◌<◌}
use native.Mathlib.Nat.{mul-lt-mul_of_pos_right}
use native.Mathlib.Omega.{arith}
use lib.Dec.{eqb}
use lib.IntN.{ℤ}
use lib.Signed.{le_z}
use borrow.Author.Tests.{eqb-true}
use Rattle.float_format.specs.Format.{binary64, infinity, negative, unsigned, is_nan, is_infinite}
use Rattle.float_format.specs.Number.{one, above, under, AtMost, units_of}
use Rattle.float_format.specs.Rounding.{whole_part, integral, with_sign, lround_refusal, lround_value}
use Rattle.float_format.specs.declared.Direction.TheVariants.{HalfAway}
use Rattle.float_format.proofs.Units.{lt_or_ge}
use Rattle.float_format.proofs.Order.{above_at, under_at}
use Rattle.float_format.proofs.Laws.{one_pos, Result, result, monotone}
use Rattle.float_format.proofs.Lround.{InRange, lround_infinite, lround_accepts, lround_is}
use Rattle.ordering.proofs.Ranks.{finite_where}
use Rattle.semantics.specs.Value.{done, refused, whole}
use Rattle.semantics.specs.Range.{doubles, wholes, ranged, lround_range}
use Rattle.semantics.specs.Range as range
use Rattle.semantics.proofs.Sound.Kept.{both, Held, Kept, Between, Inside, valid, held_whole}
use Rattle.semantics.proofs.Sound.Floats.{between_finite}
use Rattle.semantics.proofs.Sound.Fractions.{finite_end}
use Rattle.semantics.proofs.Sound.Wholes.{over, short, one_side, difference_le, le_difference}

-- ---- a signed number of ones

sign_sides : (s : Bool) (n : ℕ) → (over (with_sign s n) ≡ cond s 0 n) × (short (with_sign s n) ≡ cond s n 0)
sign_sides true zero = (refl, refl)
sign_sides true (suc n) = (refl, refl)
sign_sides false n = (refl, refl)

-- the number that x is rounded to
abbrev value : ℕ → ℤ
value x = with_sign (negative binary64 x) (whole_part binary64 HalfAway x)

scaled_sides : (s : Bool) (n u a : ℕ) → a ≡ n * u → (cond s 0 a ≡ over (with_sign s n) * u) × (cond s a 0 ≡ short (with_sign s n) * u)
scaled_sides true n u a e =
    (omega (arith, ap (λ (k : ℕ). k * u) (sign_sides true n).0), e ∙ ap (λ (k : ℕ). k * u) (sym (sign_sides true n).1))
scaled_sides false n u a e = (e, omega arith)

module _ (x : ℕ) (h : unsigned binary64 x < infinity binary64) where
  round_sides : (above binary64 (integral binary64 HalfAway x) ≡ over (value x) * one binary64)
      × (under binary64 (integral binary64 HalfAway x) ≡ short (value x) * one binary64)
  round_sides =
      let t : Result binary64 HalfAway x = result binary64 HalfAway x valid h in
      let e : (cond (negative binary64 x) 0 (units_of binary64 (integral binary64 HalfAway x)) ≡ over (value x) * one binary64)
      × (cond (negative binary64 x) (units_of binary64 (integral binary64 HalfAway x)) 0 ≡ short (value x) * one binary64) =
      scaled_sides (negative binary64 x) (whole_part binary64 HalfAway x) (one binary64) (units_of binary64 (integral binary64 HalfAway x)) t.units in (
        above_at binary64 (integral binary64 HalfAway x) (negative binary64 x) t.sign ∙ e.0,
        under_at binary64 (integral binary64 HalfAway x) (negative binary64 x) t.sign ∙ e.1,
      )

-- as many ones, so as many
ones_le : (a b c d u A B C D : ℕ) → 0 < u → A ≡ a * u → B ≡ b * u → C ≡ c * u → D ≡ d * u → A + B ≤ C + D → a + b ≤ c + d
ones_le a b c d u A B C D p eA eB eC eD h = ⊎_elim (λ l. absurd (more l)) (λ g. g) (lt_or_ge (c + d) (a + b))
  where
    more : c + d < a + b → ⊥
    more l = omega (arith, mul-lt-mul_of_pos_right l p)

value_mono : (x y : ℕ) → unsigned binary64 x < infinity binary64 → unsigned binary64 y < infinity binary64 → AtMost binary64 x y
    → le_z (value x) (value y) ≡ true
value_mono x y hx hy g =
    difference_le (value x) (value y)
    (ones_le (over (value x)) (short (value y)) (over (value y)) (short (value x)) (one binary64)
    (above binary64 (integral binary64 HalfAway x)) (under binary64 (integral binary64 HalfAway y))
    (above binary64 (integral binary64 HalfAway y)) (under binary64 (integral binary64 HalfAway x))
    (one_pos binary64) (round_sides x hx).0 (round_sides y hy).1 (round_sides y hy).0 (round_sides x hx).1
    (monotone binary64 HalfAway valid x y (omega arith) (omega arith) g))

-- ---- 18

-- a number that is accepted is finite
accepted_finite : (x : ℕ) → is_nan binary64 x ≡ false → lround_refusal binary64 x ≡ 0 → unsigned binary64 x < infinity binary64
accepted_finite x n e = pick (is_infinite binary64 x) refl
  where
    pick : (t : Bool) → is_infinite binary64 x ≡ t → unsigned binary64 x < infinity binary64
    pick true i = absurd (omega (arith, (lround_infinite binary64 x n i).0))
    pick false i = finite_end x n i

range_sides : (s : Bool) (n : ℕ) → InRange s n → (over (with_sign s n) < 2 ^ 63) × (short (with_sign s n) ≤ 2 ^ 63)
range_sides true n h = omega (arith, sign_sides true n)
range_sides false n h = omega (arith, sign_sides false n)

sides_range : (s : Bool) (n : ℕ) → (over (with_sign s n) < 2 ^ 63) × (short (with_sign s n) ≤ 2 ^ 63) → InRange s n
sides_range true n h = omega (arith, h, sign_sides true n)
sides_range false n h = omega (arith, h, sign_sides false n)

module _ {l h x : ℕ} (b : Between l h x) (pl : lround_refusal binary64 l ≡ 0) (ph : lround_refusal binary64 h ≡ 0) where
  fl : unsigned binary64 l < infinity binary64
  fl = accepted_finite l b.low-number pl

  fh : unsigned binary64 h < infinity binary64
  fh = accepted_finite h b.high-number ph

  fx : unsigned binary64 x < infinity binary64
  fx = between_finite l h x fl fh b.from b.upto

  finite : (y : ℕ) → unsigned binary64 y < infinity binary64 → is_infinite binary64 y ≡ false
  finite y k = finite_where binary64 y (omega arith)

  held : Inside (value l) (value h) (value x)
  held = record { from = value_mono l x fl fx b.from; upto = value_mono x h fx fh b.upto }

  accepted : lround_refusal binary64 x ≡ 0
  accepted =
      let p : (over (value l) < 2 ^ 63) × (short (value l) ≤ 2 ^ 63) = range_sides (negative binary64 l) (whole_part binary64 HalfAway l) ((lround_accepts binary64 l b.low-number (finite l fl)).0 pl) in
      let q : (over (value h) < 2 ^ 63) × (short (value h) ≤ 2 ^ 63) = range_sides (negative binary64 h) (whole_part binary64 HalfAway h) ((lround_accepts binary64 h b.high-number (finite h fh)).0 ph) in
      (lround_accepts binary64 x b.number (finite x fx)).1
      (sides_range (negative binary64 x) (whole_part binary64 HalfAway x)
      (between_sides (value l) (value h) (value x) held p q))
    where
      between_sides : (l h z : ℤ) → Inside l h z → (over l < 2 ^ 63) × (short l ≤ 2 ^ 63) → (over h < 2 ^ 63) × (short h ≤ 2 ^ 63) → (over z < 2 ^ 63) × (short z ≤ 2 ^ 63)
      between_sides l h z i p q = omega (arith, p, q, le_difference l z i.from, le_difference z h i.upto, one_side z)

  pub lround_held : Held (wholes (lround_value binary64 l) (lround_value binary64 h))
      (cond (eqb (lround_refusal binary64 x) 0) (done (whole (lround_value binary64 x))) (refused 21))
  lround_held =
      rw (accepted, lround_is binary64 l b.low-number (finite l fl) pl, lround_is binary64 h b.high-number (finite h fh) ph, lround_is binary64 x b.number (finite x fx) accepted)
      (held_whole held)

pub lround_kept : {l h x : ℕ} → Between l h x
    → Kept (lround_range (doubles l h))
    (cond (eqb (lround_refusal binary64 x) 0) (done (whole (lround_value binary64 x))) (refused 21))
lround_kept {l} {h} {x} b = pick (eqb (lround_refusal binary64 l) 0 && eqb (lround_refusal binary64 h) 0) refl
  where
    pick : (t : Bool) → (eqb (lround_refusal binary64 l) 0 && eqb (lround_refusal binary64 h) 0) ≡ t
        → Kept (cond t (ranged (wholes (lround_value binary64 l) (lround_value binary64 h))) (range.refused 21))
        (cond (eqb (lround_refusal binary64 x) 0) (done (whole (lround_value binary64 x))) (refused 21))
    pick true e =
        let p : (eqb (lround_refusal binary64 l) 0 ≡ true) × (eqb (lround_refusal binary64 h) 0 ≡ true) = both (eqb (lround_refusal binary64 l) 0) (eqb (lround_refusal binary64 h) 0) e in
        lround_held b (eqb-true (lround_refusal binary64 l) 0 p.0) (eqb-true (lround_refusal binary64 h) 0 p.1)
    pick false e = tt
