-- `Steps::new` meets its contract: words that are not refused are three for each of 1 to 128 steps. Assumes nothing.
use mathlib.Core.Path.{sym, ◌∙◌}
use native.Mathlib.Omega.{arith}
use lib.ListN.{length}
use Rattle.recipe.proofs.Packed.{words_count}
use Rattle.steps.proofs.Steps.new.Goals as goal

pub invariant_of-result : goal.invariant_of-result
invariant_of-result c =
    let w = words_count (length c.args.words.now) (sym c.bad_words.ensures ∙ c.if-bad_words.false) in
    record { whole = omega (arith, w.2); few = omega (arith, w.1, w.2) }
