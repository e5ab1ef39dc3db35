-- The ranges of a recipe's steps: a fold over the same steps as the run (document 01, "Recipe text": range rules). Definitions only; assumes
-- nothing.
use Rattle.std.specs.Prelude.{List, [], ◌∷◌, ◌++◌, ℕ, suc, pos, get_or}
use Rattle.recipe.specs.declared.Step.{Step}
use Rattle.recipe.specs.Text.{first, second}
use Rattle.semantics.specs.Range.{Range, wholes, Ranged, ranged, step_range}
use Rattle.semantics.specs.Range as range

-- every step's range, or a refusal's number and place
pub data Sheet : Type 0 where
  passed : List Range → Sheet
  refused : ℕ → ℕ → Sheet

-- the start element of the ranges
abbrev pub no_range : Range
no_range = wholes (pos 0) (pos 0)

abbrev pub step_on : Step → List Range → Ranged
step_on t l = step_range t (get_or l (first t) no_range) (get_or l (second t) no_range)

unfoldable pub on_ranged : Ranged → ℕ → (Range → Sheet) → Sheet
on_ranged (ranged r) k more = more r
on_ranged (range.refused number) k more = refused number k

-- the steps from step k on, after steps of the ranges l
unfoldable pub sheet_from : List Step → ℕ → List Range → Sheet
sheet_from [] k l = passed l
sheet_from (t ∷ ts) k l = on_ranged (step_on t l) k (λ r. sheet_from ts (suc k) (l ++ (r ∷ [])))
