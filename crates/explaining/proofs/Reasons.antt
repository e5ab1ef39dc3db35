-- The first of a step's causes, as the code finds it. Assumes nothing.
use mathlib.Core.Path.{◌≡◌, refl, sym, ap, ◌∙◌}
use mathlib.Core.Bool.{Bool, true, false, not, cond}
use mathlib.Core.List.{List, [], ◌∷◌}
use Prim.Native.Nat.{ℕ, ◌^◌}
use lib.Dec.{eqb, leb}
use lib.IntN.{ℤ, nat_abs}
use lib.ListN.{get_or}
use Rattle.float_format.specs.Format.{binary64, is_infinite}
use Rattle.float_format.specs.Rounding.{lround_refusal, lround_value}
use Rattle.scaling.specs.Scaling.{ldexp, ldexp_refusal}
use Rattle.std.specs.Prelude.{Result, Ok, Err, is_err}
use Rattle.values.specs.declared.Value.{Value}
use Rattle.values.specs.declared.Refusal.{Refusal}
use Rattle.values.specs.Carried.{real}
use Rattle.values.specs.Seen.{outcome_of}
use Rattle.recipe.specs.declared.Step.{Step}
use Rattle.recipe.specs.Text.{first, second}
use Rattle.semantics.specs.Value.{Datum, whole, Outcome, done, refused, fits_word, of_whole}
use Rattle.semantics.specs.Range.{Range, doubles, wholes, low, high, least, most, is_negative, is_positive}
use Rattle.semantics.specs.Cause.{of_a, of_b, Cause, cause, overflows, first_cause, lround_causes, whole_causes, ldexp_causes, double_causes, causes_of, cause_of, operand_in, code_in}
use Rattle.semantics.specs.Sheet.{no_range}
use Rattle.semantics.specs.Explain.{explained, why_on}
use Rattle.explaining.specs.Reasons.{Tells, is_refused}

-- of B
module _ (t : Step) (c n : ℕ) (holds : Bool) (l : List Cause) where
  pub tells_second : holds ≡ true → Tells t (cause c of_b n holds ∷ l) (second t) c
  unfolding first_cause
  tells_second e = rw e (refl, refl)

  pub tells_rest : holds ≡ false → (o k : ℕ) → Tells t l o k → Tells t (cause c of_b n holds ∷ l) o k
  unfolding first_cause
  tells_rest e o k h = rw e h

pub tells_none : (t : Step) → Tells t [] 0 0
unfolding first_cause
tells_none t = (refl, refl)

-- what the code asks of an end
pub refused_told : (o : Result Value Refusal) → is_err o ≡ is_refused (outcome_of o)
refused_told (Ok v) = refl
refused_told (Err why) = refl

-- what a rule that tests once refuses
pub refused_is : (b : Bool) (v : Datum) (number : ℕ) (o : Outcome) → o ≡ cond b (done v) (refused number) → is_refused o ≡ not b
refused_is true v number o e = ap is_refused e
refused_is false v number o e = ap is_refused e

-- of two ends that a rule tests once each
ends_told : (t : Step) (c d n : ℕ) (x y : Bool) (v w : Datum) (o p : Outcome) (i k : ℕ) → o ≡ cond x (done v) (refused n) → p ≡ cond y (done w) (refused n)
    → Tells t (cause c of_a n (is_refused o) ∷ cause d of_a n (is_refused p) ∷ []) i k → Tells t (cause c of_a n (not x) ∷ cause d of_a n (not y) ∷ []) i k
ends_told t c d n x y v w o p i k e f h = rw (refused_is x v n o e, refused_is y w n p f) at h

module _ (t : Step) (o p : Outcome) (i k : ℕ) where
  -- 18
  pub lround_told : (a : Range) → o ≡ cond (eqb (lround_refusal binary64 (low a)) 0) (done (whole (lround_value binary64 (low a)))) (refused 21)
      → p ≡ cond (eqb (lround_refusal binary64 (high a)) 0) (done (whole (lround_value binary64 (high a)))) (refused 21)
      → Tells t (cause 4 of_a 21 (is_refused o) ∷ cause 5 of_a 21 (is_refused p) ∷ []) i k → Tells t (lround_causes a) i k
  lround_told a e f h = ends_told t 4 5 21 (eqb (lround_refusal binary64 (low a)) 0) (eqb (lround_refusal binary64 (high a)) 0) _ _ o p i k e f h

  -- 30, 31
  pub whole_told : (l m : ℤ) → o ≡ cond (fits_word l) (done (whole l)) (refused 21) → p ≡ cond (fits_word m) (done (whole m)) (refused 21)
      → Tells t (cause 6 of_a 21 (is_refused o) ∷ cause 7 of_a 21 (is_refused p) ∷ []) i k → Tells t (whole_causes l m) i k
  whole_told l m e f h = ends_told t 6 7 21 (fits_word l) (fits_word m) _ _ o p i k e f h

  -- 32
  pub double_told : (a : Range) → o ≡ cond (leb (nat_abs (least a)) (2 ^ 53)) (done (real (of_whole (least a)))) (refused 22)
      → p ≡ cond (leb (nat_abs (most a)) (2 ^ 53)) (done (real (of_whole (most a)))) (refused 22)
      → Tells t (cause 12 of_a 22 (is_refused o) ∷ cause 13 of_a 22 (is_refused p) ∷ []) i k → Tells t (double_causes a) i k
  double_told a e f h = ends_told t 12 13 22 (leb (nat_abs (least a)) (2 ^ 53)) (leb (nat_abs (most a)) (2 ^ 53)) _ _ o p i k e f h

-- 23
pub ldexp-told : (t : Step) (l h : ℕ) (least most m n : ℤ) (o p : Outcome) (i k : ℕ)
    → m ≡ cond (is_negative l) most least → n ≡ cond (is_positive h) most least
    → o ≡ cond (eqb (ldexp_refusal binary64 l m) 0) (done (real (ldexp binary64 l m))) (refused 21)
    → p ≡ cond (eqb (ldexp_refusal binary64 h n) 0) (done (real (ldexp binary64 h n))) (refused 21)
    → Tells t (cause 8 of_a 21 (is_infinite binary64 l) ∷ cause 9 of_a 21 (is_infinite binary64 h) ∷ cause 10 of_a 21 (is_refused o) ∷ cause 11 of_a 21 (is_refused p) ∷ []) i k
    → Tells t (ldexp_causes (doubles l h) (wholes least most)) i k
ldexp-told t l h least most m n o p i k em en eo ep g =
    let x : is_refused o ≡ overflows l (cond (is_negative l) most least) = refused_is (eqb (ldexp_refusal binary64 l m) 0) _ 21 o eo ∙ ap (λ (z : ℤ). overflows l z) em in
    let y : is_refused p ≡ overflows h (cond (is_positive h) most least) = refused_is (eqb (ldexp_refusal binary64 h n) 0) _ 21 p ep ∙ ap (λ (z : ℤ). overflows h z) en in
    rw (x, y) at g

-- ---- by the opcode

-- the causes of an arm's opcode are the step's
pub at_opcode : (t : Step) (a b : Range) {k : ℕ} (o c : ℕ) → t.opcode ≡ k → Tells t (causes_of k a b) o c → Tells t (causes_of t.opcode a b) o c
at_opcode t a b o c e h = (h.0 ∙ ap (λ (n : ℕ). operand_in t (first_cause (causes_of n a b))) (sym e), h.1 ∙ ap (λ (n : ℕ). code_in (first_cause (causes_of n a b))) (sym e))

-- ---- the step that the fold stops at

pub told : (i : ℕ) (t : Step) (l : List Range) (a b : Range) (o c : ℕ) → a ≡ get_or l (first t) no_range → b ≡ get_or l (second t) no_range
    → Tells t (causes_of t.opcode a b) o c → explained i o c ≡ why_on i t l
unfolding cause_of
told i t l a b o c e f h = rw (h.0, h.1, e, f)
