-- `nextafter` meets its contract: the word and the refusal of the core. Assumes nothing.
use mathlib.Core.Path.{◌∙◌}
use Rattle.ordering.proofs.Steps.{refusal_by_lem}
use Rattle.ordering.proofs.nextafter.Goals as goal

pub returns : goal.returns
returns g c =
    let f = g.P.Pattern.format in
    rw (← c.to_word-from.ensures.0, ← c.to_word.ensures.0) (
      c.from_word.ensures ∙ c.neighbour-word.ensures.0,
      refusal_by_lem f c.to_word-from.result c.to_word.result c.neighbour-word.result _ c.neighbour-word.ensures.0 c.refusal_of.ensures,
    )
