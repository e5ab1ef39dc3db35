-- `of_outcomes` meets its contract. Assumes nothing.
use mathlib.Core.List.{[]}
use mathlib.Core.Path.{refl, sym, ◌∙◌}
use Rattle.semantics.specs.Cause.{of_a}
use Rattle.explaining.proofs.Reasons.{tells_none, refused_told}
use Rattle.explaining.proofs.causes.of_outcomes.Goals as goal

pub returns : goal.returns
returns c =
    let a = c.args in
    let e = c.is_err.ensures.value ∙ refused_told a.low in
    let f = c.is_err-2.ensures.value ∙ refused_told a.high in
    λ n. rw (sym e, sym f) (c.of_ends.ensures a.t of_a n [] refl (tells_none a.t))
