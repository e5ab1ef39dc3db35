-- `fmax` meets its contract: past the NaNs, the one that comes last. Assumes nothing.
use mathlib.Core.Path.{◌∙◌}
use Rattle.ordering.specs.Ordering.{later, fmax}
use Rattle.ordering.proofs.MinMax.{past_by}
use Rattle.ordering.proofs.fmax.Goals as goal

pub returns : goal.returns
unfolding fmax
returns g c =
    let f = g.P.Pattern.format in
    rw (← c.to_word-a.ensures.0, ← c.to_word-b.ensures.0)
    (c.from_word.ensures ∙ past_by f c.to_word-a.result c.to_word-b.result c.later.result (later f c.to_word-a.result c.to_word-b.result) c.past_nans.result c.later.ensures.0 c.past_nans.ensures.0)
