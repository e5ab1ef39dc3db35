-- What the step rules and the range rules refuse, stated apart from how they test for it. Assumes nothing.
use mathlib.Core.Path.{◌≡◌, refl}
use mathlib.Core.Bool.{Bool, true, false, ◌||◌, cond}
use Prim.Native.Nat.{ℕ, ◌^◌}
use lib.Dec.{eqb}
use lib.IntN.{ℤ}
use mir.Syntax.{w64}
use mir.Val.{to_z, of_z}
use mir.ValLaws.{to_z-of_z}
use borrow.Author.Tests.{ltb-true}
use Rattle.float_format.specs.Format.{binary64}
use Rattle.remainder.specs.Remainder.{fmod_refusal}
use Rattle.semantics.specs.Value.{Datum, Outcome, done, fits_word, rule_of}
use Rattle.semantics.specs.Value as value
use Rattle.semantics.specs.Range.{Range, Ranged, ranged, refused, holds_zero, infinite_end, fmod_range, ldexp_range, remainder_range, range_rule}
use Rattle.semantics.proofs.Causes.{refusal_of}

-- A whole answer that is not refused is the number that its word holds: no sum or difference wraps.
pub fits_word_lem : (z : ℤ) → fits_word z ≡ true → to_z w64 (of_z w64 z) ≡ z
fits_word_lem z e = to_z-of_z w64 z (record { sfits = ltb-true _ (2 ^ 63) e })

-- ldexp of a range with an infinite end is refused, whatever the powers.
pub infinite_end_refused : (a b : Range) → infinite_end a ≡ true → ldexp_range a b ≡ refused 21
infinite_end_refused a b e = rw e

-- fmod and remainder are refused for a dividend with an infinite end, whatever the divisor, ..
pub infinite_dividend_refused : (a b : Range) → infinite_end a ≡ true → (fmod_range a b ≡ refused 20) × (remainder_range a b ≡ refused 20)
infinite_dividend_refused a b e = rw e (refl, refl)

-- .. and for a divisor that holds zero, whatever the dividend.
pub zero_divisor_refused : (a b : Range) → holds_zero b ≡ true → (fmod_range a b ≡ refused 20) × (remainder_range a b ≡ refused 20)
zero_divisor_refused a b e = (second (infinite_end a) (holds_zero b) _ e, second (infinite_end a) (holds_zero b) _ e)
  where
    second : (s t : Bool) (r : Ranged) → t ≡ true → cond (s || t) (refused 20) r ≡ refused 20
    second true t r e = refl
    second false t r e = rw e

-- the refusal's number, 0 of a value
abbrev pub refusal_in : Outcome → ℕ
refusal_in (done v) = 0
refusal_in (value.refused number) = number

-- Step 24 is refused on the same terms as step 22, with the same number: in a run ..
pub run_refused_as_fmod : (p w x y : ℕ) (m n : ℤ) → refusal_in (rule_of 0x24 p w x y m n) ≡ refusal_in (rule_of 0x22 p w x y m n)
unfolding rule_of
run_refused_as_fmod p w x y m n = pick (eqb (fmod_refusal binary64 x y) 0) _ _
  where
    pick : (t : Bool) (u v : Datum) → refusal_in (cond t (done u) (value.refused 20)) ≡ refusal_in (cond t (done v) (value.refused 20))
    pick true u v = refl
    pick false u v = refl

-- .. and on a sheet.
pub sheet_refused_as_fmod : (p q : ℕ) (a b : Range) → refusal_of (range_rule 0x24 p q a b) ≡ refusal_of (range_rule 0x22 p q a b)
unfolding range_rule
sheet_refused_as_fmod p q a b = pick (infinite_end a || holds_zero b) _ _
  where
    pick : (t : Bool) (r s : Range) → refusal_of (cond t (refused 20) (ranged r)) ≡ refusal_of (cond t (refused 20) (ranged s))
    pick true r s = refl
    pick false r s = refl
