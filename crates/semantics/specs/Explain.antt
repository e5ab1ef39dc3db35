-- The explanation of a recipe: a fold over the same steps as the sheet, which ends at the first step that the sheet turns down with 20 to 22
-- (document 02, W-205). Definitions only; assumes nothing.
use Rattle.std.specs.Prelude.{List, [], ◌∷◌, ◌++◌, ℕ, suc, get_or}
use Rattle.recipe.specs.declared.Step.{Step}
use Rattle.recipe.specs.Text.{Text, steps, short, first, second, read_text}
use Rattle.recipe.specs.Text as text
use Rattle.semantics.specs.declared.ExplainAnswer.{ExplainAnswer}
use Rattle.semantics.specs.Range.{Range, Ranged, ranged}
use Rattle.semantics.specs.Range as range
use Rattle.semantics.specs.Sheet.{no_range, step_on}
use Rattle.semantics.specs.Cause.{Found, cause_of, operand_in, code_in}

pub data Explained : Type 0 where
  -- the sheet passes
  passed : Explained
  -- a step, its operand's step and a reason's code
  explained : ℕ → ℕ → ℕ → Explained
  -- the text is refused: number and place
  refused : ℕ → ℕ → Explained

-- The step t, of number k, is turned down. That none of its facts is true, which is so of no step that is turned down (`cause_exact`), would be
-- code 0.
abbrev pub reason_of : ℕ → Step → Found → Explained
reason_of k t x = explained k (operand_in t x) (code_in x)

-- after steps of the ranges l
abbrev pub why_on : ℕ → Step → List Range → Explained
why_on k t l = reason_of k t (cause_of t (get_or l (first t) no_range) (get_or l (second t) no_range))

unfoldable pub on_step : Ranged → Explained → (Range → Explained) → Explained
on_step (ranged r) why more = more r
on_step (range.refused number) why more = why

-- the steps from step k on, after steps of the ranges l
unfoldable pub explain_from : List Step → ℕ → List Range → Explained
explain_from [] k l = passed
explain_from (t ∷ ts) k l = on_step (step_on t l) (why_on k t l) (λ r. explain_from ts (suc k) (l ++ (r ∷ [])))

unfoldable pub explain_steps : List Step → Explained
explain_steps l = explain_from l 0 []

-- ---- the call on a text: 10 to 17 before all others

unfoldable pub on_text : Text → Explained
on_text (steps l) = explain_steps l
on_text (text.refused number place) = refused number place

unfoldable pub explain_of : List ℕ → Explained
explain_of t = on_text (read_text short t)

-- ---- what is answered; what is not used is 0

abbrev pub answer_of : Explained → ExplainAnswer
answer_of passed = record { refusal = 0; place = 0; step = 0; operand = 0; reason = 0 }
answer_of (explained k o c) = record { refusal = 0; place = 0; step = k; operand = o; reason = c }
answer_of (refused number place) = record { refusal = number; place = place; step = 0; operand = 0; reason = 0 }
