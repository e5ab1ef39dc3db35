-- `judge` meets its contract: the checks by the kinds that are kept are those of the definition. Assumes nothing.
use mathlib.Core.Path.{◌∙◌}
use Rattle.reader.proofs.Known.{by_known, kind_kept}
use Rattle.reader.proofs.checks.judge.Goals as goal

pub returns : goal.returns
returns c =
    let s = c in
    let a = s.args in
    λ l g.
    rw (c.refusal_of.ensures, s.requires)
    (by_known l a.n a.inputs a.kinds.now g a.t _ _ (c.kind_at-a.ensures ∙ kind_kept l a.n a.inputs a.kinds.now g _) (c.kind_at-b.ensures ∙ kind_kept l a.n a.inputs a.kinds.now g _))
