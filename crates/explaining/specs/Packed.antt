-- The explanation of words that a recipe's steps stand in, whatever words they are. Definitions only; assumes nothing.
use Rattle.std.specs.Prelude.{cond, List, [], ℕ, length}
use Rattle.recipe.specs.declared.Step.{Step}
use Rattle.recipe.specs.Packed.{bad_words, steps_of}
use Rattle.semantics.specs.Range.{Range}
use Rattle.semantics.specs.Explain.{Explained, passed, refused, why_on}
use Rattle.ranges.specs.Carried.{folded}

-- `explain_from`, with each range as floats hold it
abbrev pub all : List Range → Explained
all l = passed

abbrev pub stopped : ℕ → Step → List Range → ℕ → Explained
stopped k t l number = why_on k t l

abbrev pub carried_from : List Step → ℕ → List Range → Explained
carried_from ts k l = folded all stopped ts k l

-- Of words that no text was read to: 10 at place 0 where they are not those of steps. All others have the explanation of their steps as floats
-- hold their ranges; that of formed steps is `explain_steps` (`holds_explained`).
unfoldable pub explain_words : List ℕ → Explained
explain_words w = cond (bad_words (length w)) (refused 10 0) (carried_from (steps_of w) 0 [])
