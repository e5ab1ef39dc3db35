-- No value of a run is a NaN: of operands that are numbers no step rule makes one, no constant is one (refusal 16) and no input (refusal 32).
-- It holds of every run of steps that were read, whether their sheet passes or not. Assumes nothing.
use mathlib.Core.Path.{◌≡◌, refl, sym}
use mathlib.Core.Bool.{Bool, true, false, ◌||◌, cond}
use mathlib.Core.List.{List, [], ◌∷◌, ◌++◌}
use Prim.Native.Nat.{ℕ, suc, ◌^◌, ◌≤◌, ◌<◌}
use native.Mathlib.Omega.{arith}
use lib.Dec.{eqb, leb}
use lib.IntN.{nat_abs, ◌+ℤ◌, ◌-ℤ◌}
use lib.ListN.{length, get_or, length-append, get_or-append, get_or-eq_default}
use lib.Seq.{get_or_at}
use borrow.Author.Tests.{eqb-true, leb-true}
use Rattle.float_format.specs.Format.{binary64, is_nan, is_infinite}
use Rattle.float_format.specs.Rounding.{lround_refusal}
use Rattle.float_format.specs.declared.Direction.TheVariants.{Down, Up, TowardZero, HalfAway, HalfEven}
use Rattle.float_format.proofs.Units.{three_way}
use Rattle.splitting.specs.Splitting.{modf_fraction}
use Rattle.splitting.proofs.Laws.{fraction_number}
use Rattle.remainder.specs.Remainder.{fmod_refusal}
use Rattle.scaling.specs.Scaling.{ldexp_refusal}
use Rattle.recipe.specs.declared.Step.{Step}
use Rattle.recipe.specs.Table.{row_of}
use Rattle.recipe.specs.Text.{most_steps, first, second, bad_range, double_above}
use Rattle.recipe.specs.Answer.{Formed}
use Rattle.semantics.specs.Value.{Datum, double, whole, as_double, as_whole, Outcome, done, refused, fits_word, worked, rule_of, step_value}
use Rattle.semantics.specs.Frame.{words, outside, read_frame}
use Rattle.semantics.specs.Frame as frame
use Rattle.semantics.specs.Run.{completed, no_value, step_on, on_outcome, run_from}
use Rattle.semantics.proofs.Rules.{Unlisted, unlisted, by_opcode}
use Rattle.semantics.proofs.Sound.Kept.{no_or, valid, rest_of, number_of, zero_number}
use Rattle.semantics.proofs.Sound.Floats.{integral-number, negated-number, fmin-number, fmax-number, absolute-number}
use Rattle.semantics.proofs.Sound.Fractions.{fmod-number}
use Rattle.semantics.proofs.Sound.Nearest.{remainder-number}
use Rattle.semantics.proofs.Sound.Products.{product-real}
use Rattle.semantics.proofs.Sound.Arithmetic.{sum-real, difference-real}
use Rattle.semantics.proofs.Sound.Scaled.{ldexp-number}
use Rattle.semantics.proofs.Sound.Doubles.{whole_number}
use Rattle.semantics.proofs.Sound.Recipes.{Declared, declared, following, frame_step, frame_read}

-- ---- one step

-- a value that is a number
abbrev pub Number : Datum → Type 0
Number (double x) = is_nan binary64 x ≡ false
Number (whole z) = Unit {0}

abbrev pub NumberOutcome : Outcome → Type 0
NumberOutcome (done v) = Number v
NumberOutcome (refused number) = Unit {0}

operand : (v : Datum) → Number v → is_nan binary64 (as_double v) ≡ false
operand (double x) h = h
operand (whole z) h = zero_number

either : (b : Bool) (v : Datum) (number : ℕ) → (b ≡ true → Number v) → NumberOutcome (cond b (done v) (refused number))
either true v number h = h refl
either false v number h = tt

worked-number : (x y r : ℕ) → is_nan binary64 r ≡ false → NumberOutcome (worked x y r)
worked-number x y r n = pick (is_infinite binary64 x || is_infinite binary64 y) (is_infinite binary64 r)
  where
    pick : (s t : Bool) → NumberOutcome (cond s (refused 20) (cond t (refused 21) (done (double r))))
    pick true t = tt
    pick false true = tt
    pick false false = n

module _ (t : Step) (w : ℕ) (a b : Datum) (na : Number a) (nb : Number b) where
  x : is_nan binary64 (as_double a) ≡ false
  x = operand a na

  y : is_nan binary64 (as_double b) ≡ false
  y = operand b nb

  abbrev Good : ℕ → Type 0
  Good k =
      bad_range (row_of k) t ≡ false → outside (row_of k) t w ≡ false
      → NumberOutcome (rule_of k t.p w (as_double a) (as_double b) (as_whole a) (as_whole b))

  good_other : (k : ℕ) → Unlisted k → Good k
  good_other k h e g = rw (sym (unlisted k t.p w (as_double a) (as_double b) (as_whole a) (as_whole b) h)) tt

  input_number : (is_nan binary64 w || double_above t.p w || double_above w t.q) ≡ false → is_nan binary64 w ≡ false
  input_number g = (no_or (is_nan binary64 w) (double_above t.p w) (no_or (is_nan binary64 w || double_above t.p w) (double_above w t.q) g).0).0

  good : (k : ℕ) → Good k
  unfolding rule_of row_of
  good k =
      by_opcode Good
      (λ e g. input_number g)
      (λ e g. tt)
      (λ e g. e)
      (λ e g. tt)
      (λ e g. integral-number Down (as_double a) x)
      (λ e g. integral-number Up (as_double a) x)
      (λ e g. integral-number TowardZero (as_double a) x)
      (λ e g. integral-number HalfAway (as_double a) x)
      (λ e g. integral-number HalfEven (as_double a) x)
      (λ e g. number_of (modf_fraction binary64 (as_double a)) (fraction_number binary64 (as_double a) valid (rest_of (as_double a) x)))
      (λ e g. absolute-number (as_double a) x)
      (λ e g. negated-number (as_double a) x)
      (λ e g. either (eqb (lround_refusal binary64 (as_double a)) 0) _ 21 (λ q. tt))
      (λ e g. fmin-number (as_double a) (as_double b) x y)
      (λ e g. fmax-number (as_double a) (as_double b) x y)
      (λ e g. either (eqb (fmod_refusal binary64 (as_double a) (as_double b)) 0) _ 20 (λ q. fmod-number (as_double a) (as_double b) x y (eqb-true (fmod_refusal binary64 (as_double a) (as_double b)) 0 q)))
      (λ e g. either (eqb (ldexp_refusal binary64 (as_double a) (as_whole b)) 0) _ 21 (λ q. ldexp-number (as_double a) (as_whole b) x))
      (λ e g. either (eqb (fmod_refusal binary64 (as_double a) (as_double b)) 0) _ 20 (λ q. remainder-number (as_double a) (as_double b) x y (eqb-true (fmod_refusal binary64 (as_double a) (as_double b)) 0 q)))
      (λ e g. either (fits_word (as_whole a +ℤ as_whole b)) _ 21 (λ q. tt))
      (λ e g. either (fits_word (as_whole a -ℤ as_whole b)) _ 21 (λ q. tt))
      (λ e g. either (leb (nat_abs (as_whole a)) (2 ^ 53)) _ 22 (λ q. whole_number (as_whole a) (leb-true (nat_abs (as_whole a)) (2 ^ 53) q)))
      (λ e g. worked-number (as_double a) (as_double b) _ (sum-real (as_double a) (as_double b)))
      (λ e g. worked-number (as_double a) (as_double b) _ (difference-real (as_double a) (as_double b)))
      (λ e g. worked-number (as_double a) (as_double b) _ (product-real (as_double a) (as_double b)))
      good_other
      k

  -- A step of numbers comes to a number, or is refused.
  pub step-real : bad_range (row_of t.opcode) t ≡ false → outside (row_of t.opcode) t w ≡ false → NumberOutcome (step_value t w a b)
  unfolding step_value
  step-real e g = good t.opcode e g

-- ---- the run

-- past the last every value counts as zero, so that no bound on k is needed
abbrev pub Numbers : List Datum → Type 0
Numbers l = (k : ℕ) → Number (get_or l k no_value)

pub numbers_more : (l : List Datum) (v : Datum) → Numbers l → Number v → Numbers (l ++ (v ∷ []))
numbers_more l v h n k = three_way k (length l) before same after
  where
    before : k < length l → Number (get_or (l ++ (v ∷ [])) k no_value)
    before b = rw (get_or-append l (v ∷ []) no_value k b) (h k)

    same : k ≡ length l → Number (get_or (l ++ (v ∷ [])) k no_value)
    same e = rw (get_or_at l v [] no_value k (sym e)) n

    after : length l < k → Number (get_or (l ++ (v ∷ [])) k no_value)
    after b =
        let a : length (l ++ (v ∷ [])) ≤ k = omega (arith, length-append l (v ∷ [])) in
        rw (get_or-eq_default (l ++ (v ∷ [])) no_value a) tt

module _ (ws : List ℕ) (end : List Datum) where
  next : (ts : List Step) (k j : ℕ) (vs : List Datum) (o : Outcome) → NumberOutcome o
      → ((v : Datum) → Number v → run_from ts (suc k) j ws (vs ++ (v ∷ [])) ≡ completed end → Numbers end)
      → on_outcome o k (λ v. run_from ts (suc k) j ws (vs ++ (v ∷ []))) ≡ completed end → Numbers end
  unfolding on_outcome
  next ts k j vs (done v) n more e = more v n e
  next ts k j vs (refused number) n more e = let z : ◌≡◌ {A = ℕ} 0 1 = cc in absurd (omega arith)

  fold_real : (ls : List Step) (k j : ℕ) (vs : List Datum) → Declared ls → frame.ranged ls k j ws ≡ words ws → Numbers vs
      → run_from ls k j ws vs ≡ completed end → Numbers end
  unfolding run_from
  fold_real [] k j vs d f n e = let q : vs ≡ end = cc in rw (← q) n
  fold_real (t ∷ ts) k j vs d f n e =
      let g = frame_step t ts k j ws ws f in
      next ts k (following t j) vs (step_on t (get_or ws j 0) vs)
      (step-real t (get_or ws j 0) (get_or vs (first t) no_value) (get_or vs (second t) no_value) (n (first t)) (n (second t)) (d 0 (omega arith)) g.0)
      (λ v m q. fold_real ts (suc k) (following t j) (vs ++ (v ∷ [])) (λ i b. d (suc i) (omega arith)) g.1 (numbers_more vs v n m) q)
      e

-- No value of a completed run is a NaN.
pub run_real : (l : List Step) → Formed most_steps l → (s ws : List ℕ) → read_frame l s ≡ words ws → (values : List Datum)
    → run_from l 0 0 ws [] ≡ completed values → Numbers values
run_real l f s ws a values e = fold_real ws values l 0 0 [] (declared l f) (frame_read l s ws a) (λ k. tt) e
