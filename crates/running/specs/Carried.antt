-- The run's fold with each value as a float carries it, as the run call works it. Definitions only; assumes nothing.
use Rattle.std.specs.Prelude.{cond, List, [], ◌∷◌, ◌++◌, ℕ, suc, ◌+◌, get_or}
use Rattle.recipe.specs.declared.Step.{Step}
use Rattle.recipe.specs.Table.{row_of, is_input}
use Rattle.semantics.specs.Value.{Datum}
use Rattle.semantics.specs.Run.{Run, completed, step_on, on_outcome}
use Rattle.values.specs.Carried.{carried}

-- `run_from`, carried: of steps that were read, on a frame that was, the same (`carried_same`)
unfoldable pub carried_from : List Step → ℕ → ℕ → List ℕ → List Datum → Run
carried_from [] k j ws l = completed l
carried_from (t ∷ ts) k j ws l =
    on_outcome (carried (step_on t (get_or ws j 0) l)) k (λ v. carried_from ts (suc k) (cond (is_input (row_of t.opcode)) 1 0 + j) ws (l ++ (v ∷ [])))
