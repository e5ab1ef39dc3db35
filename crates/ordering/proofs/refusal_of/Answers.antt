-- `refusal_of` meets its contract: the classes of x and of the word, by the rest of each. Assumes nothing.
use mathlib.Core.Path.{sym}
use native.Mathlib.Omega.{arith}
use Rattle.ordering.proofs.Steps.{refusal_none, refusal_beyond, refusal_some}
use Rattle.ordering.proofs.refusal_of.Goals as goal

pub returns-then-rest-top : goal.returns-then-rest-top
returns-then-rest-top g c =
    let s = c in
    sym (refusal_none g.P.Pattern.format s.args.x s.args.word (omega (arith, c.if-rest-top.true, c.rest.ensures, c.infinity_of-top.ensures)))

pub returns-then-rest-top-2 : goal.returns-then-rest-top-2
returns-then-rest-top-2 g c =
    let s = c in
    sym
    (refusal_some g.P.Pattern.format s.args.x s.args.word
    (omega (arith, c.if-rest-top-2.true, c.rest-2.ensures, c.infinity_of-top.ensures))
    (omega (arith, c.if-rest-top.false, c.rest.ensures, c.infinity_of-top.ensures)))

pub returns-else-rest-top-2 : goal.returns-else-rest-top-2
returns-else-rest-top-2 g c =
    let s = c in
    sym
    (refusal_beyond g.P.Pattern.format s.args.x s.args.word
    (omega (arith, c.if-rest-top-2.false, c.rest-2.ensures, c.infinity_of-top.ensures)))
