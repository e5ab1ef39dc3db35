-- The run call on words that a recipe's steps stand in, whatever words they are. Definitions only; assumes nothing.
use Rattle.std.specs.Prelude.{cond, List, [], ℕ, ltb, length}
use Rattle.recipe.specs.Text.{inputs_in}
use Rattle.recipe.specs.Packed.{bad_words, steps_of}
use Rattle.semantics.specs.Run.{Run, refused, call_on}
use Rattle.running.specs.Carried.{carried_from}

-- Of words that no text was read to: 10 at place 0 where they are not those of steps, 17 at place 0 where more than 16 of the steps are
-- inputs. All others are run as they stand, each value as a float carries it; those of formed steps come to `run_steps` (`holds_run`).
unfoldable pub run_words : List ℕ → List ℕ → ℕ → Run
run_words w s room =
    cond (bad_words (length w)) (refused 10 0)
    (cond (ltb 16 (inputs_in (steps_of w))) (refused 17 0) (call_on (λ ws. carried_from (steps_of w) 0 0 ws []) (steps_of w) s room))
