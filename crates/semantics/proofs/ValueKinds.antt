-- Opcodes 02, 04, 18, 30 and 31 give whole numbers and all others doubles: of every completed run, each value has its step's kind. Assumes
-- nothing.
use mathlib.Core.Path.{◌≡◌, refl, sym, ap, ◌∙◌}
use mathlib.Core.Bool.{Bool, true, false, ◌||◌, cond}
use mathlib.Core.List.{List, []}
use Prim.Native.Nat.{ℕ, ◌^◌, ◌<◌}
use lib.Dec.{eqb, leb}
use lib.IntN.{nat_abs, ◌+ℤ◌, ◌-ℤ◌}
use lib.ListN.{length, get_or, take}
use Rattle.float_format.specs.Format.{binary64, is_infinite}
use Rattle.float_format.specs.Rounding.{lround_refusal}
use Rattle.remainder.specs.Remainder.{fmod_refusal}
use Rattle.scaling.specs.Scaling.{ldexp_refusal}
use Rattle.recipe.specs.declared.Kind.{Kind}
use Rattle.recipe.specs.declared.Kind.TheVariants.{Double, Whole}
use Rattle.recipe.specs.declared.Step.{Step}
use Rattle.recipe.specs.Table.{row_of, answer_kind}
use Rattle.recipe.specs.Text.{most_steps, no_step, is_unknown}
use Rattle.recipe.specs.Text as text
use Rattle.recipe.specs.Answer.{Formed}
use Rattle.recipe.proofs.Laws.{step_checked}
use Rattle.semantics.specs.Value.{Datum, double, as_double, as_whole, kind_of, Outcome, done, refused, fits_word, worked, rule_of, step_value}
use Rattle.semantics.specs.Run.{completed, no_value, run_from}
use Rattle.semantics.proofs.Rules.{Unlisted, by_opcode}
use Rattle.semantics.proofs.Worked.{run_worked}
use Rattle.semantics.proofs.Sound.Kept.{never}
use Rattle.semantics.proofs.Sound.Kinds.{unlisted_row}

-- a value of this kind, or a refusal
abbrev Gives : Kind → Outcome → Type 0
Gives c (done v) = kind_of v ≡ c
Gives c (refused number) = Unit {0}

either : (c : Kind) (b : Bool) (v : Datum) (number : ℕ) → kind_of v ≡ c → Gives c (cond b (done v) (refused number))
either c true v number e = e
either c false v number e = tt

worked_double : (x y r : ℕ) → Gives Double (worked x y r)
worked_double x y r = pick (is_infinite binary64 x || is_infinite binary64 y) (is_infinite binary64 r)
  where
    pick : (s t : Bool) → Gives Double (cond s (refused 20) (cond t (refused 21) (done (double r))))
    pick true t = tt
    pick false true = tt
    pick false false = refl

module _ (p w x y : ℕ) (a b : Datum) where
  abbrev Good : ℕ → Type 0
  Good k = is_unknown (row_of k) ≡ false → Gives (answer_kind (row_of k)) (rule_of k p w x y (as_whole a) (as_whole b))

  good_other : (k : ℕ) → Unlisted k → Good k
  good_other k h e = never (sym (ap is_unknown (unlisted_row k h)) ∙ e)

  rule_kind : (k : ℕ) → Good k
  unfolding rule_of row_of
  rule_kind k =
      by_opcode Good
      (λ e. refl)
      (λ e. refl)
      (λ e. refl)
      (λ e. refl)
      (λ e. refl)
      (λ e. refl)
      (λ e. refl)
      (λ e. refl)
      (λ e. refl)
      (λ e. refl)
      (λ e. refl)
      (λ e. refl)
      (λ e. either Whole (eqb (lround_refusal binary64 x) 0) _ 21 refl)
      (λ e. refl)
      (λ e. refl)
      (λ e. either Double (eqb (fmod_refusal binary64 x y) 0) _ 20 refl)
      (λ e. either Double (eqb (ldexp_refusal binary64 x (as_whole b)) 0) _ 21 refl)
      (λ e. either Double (eqb (fmod_refusal binary64 x y) 0) _ 20 refl)
      (λ e. either Whole (fits_word (as_whole a +ℤ as_whole b)) _ 21 refl)
      (λ e. either Whole (fits_word (as_whole a -ℤ as_whole b)) _ 21 refl)
      (λ e. either Double (leb (nat_abs (as_whole a)) (2 ^ 53)) _ 22 refl)
      (λ e. worked_double x y _)
      (λ e. worked_double x y _)
      (λ e. worked_double x y _)
      good_other
      k

-- the value of a step that the table has, has the step's kind
step_gives : (t : Step) (w : ℕ) (a b : Datum) → is_unknown (row_of t.opcode) ≡ false → Gives (text.kind_of t) (step_value t w a b)
unfolding step_value
step_gives t w a b e = rule_kind t.p w (as_double a) (as_double b) a b t.opcode e

given : (c : Kind) (o : Outcome) (v : Datum) → Gives c o → o ≡ done v → kind_of v ≡ c
given c (done u) v g e = let q : u ≡ v = cc in rw (← q) g
given c (refused number) v g e = let z : ◌≡◌ {A = ℕ} 0 1 = cc in never (cc)

-- Each value of a completed run has its step's kind.
pub run_kinds : (l : List Step) → Formed most_steps l → (ws : List ℕ) (values : List Datum) → run_from l 0 0 ws [] ≡ completed values
    → (k : ℕ) → k < length l → kind_of (get_or values k no_value) ≡ text.kind_of (get_or l k no_step)
run_kinds l f ws values e k h =
    given (text.kind_of (get_or l k no_step)) _ (get_or values k no_value)
    (step_gives (get_or l k no_step) _ _ _ (step_checked (take k l) (get_or l k no_step) (f.passed k h)).known)
    ((run_worked l ws values e).each k h)
