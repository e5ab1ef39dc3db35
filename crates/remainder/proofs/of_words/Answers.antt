-- `of_words` meets its contract: past the first test both operands are ordinary. Assumes nothing.
use mathlib.Core.Path.{sym, ◌∙◌}
use Rattle.remainder.specs.Shape.{Ordinary}
use Rattle.remainder.proofs.Cases.{ordinary, smaller_returns, left_refuses}
use Rattle.remainder.proofs.of_words.Goals.{Else-special}
use Rattle.remainder.proofs.of_words.Goals as goal

at : (g : _) (c : Else-special g) → Ordinary g.P.Pattern.format c.args.x c.args.y
at g c =
    let w = g.met.P.Wide.wide in
    ordinary g.P.Pattern.format c.args.x c.args.y g.met.P.Pattern.fits w.twenty_digits w.spare c.requires.0 (sym c.special.ensures ∙ c.if-special.false)

pub returns-then-are_units : goal.returns-then-are_units
returns-then-are_units g c =
    let a = c.args in
    rw (c.of.ensures.0, c.of.ensures.1)
    (c.units_left.ensures.0, left_refuses g.P.Pattern.format a.x a.y (at g (goal.at.returns-then-are_units g c).Else-special), c.units_left.ensures.1)

pub returns-then-smaller : goal.returns-then-smaller
returns-then-smaller g c =
    let a = c.args in
    let s = smaller_returns g.P.Pattern.format a.x a.y (at g (goal.at.returns-then-smaller g c).Else-special) c.smaller.ensures c.if-smaller.true in
    rw (c.of-then-smaller.ensures.0, c.of-then-smaller.ensures.1) (s.0, s.1, c.requires.0)

pub returns : goal.returns
returns g c =
    let a = c.args in
    rw (c.of-2.ensures.0, c.of-2.ensures.1)
    (c.with_remainder.ensures.0, left_refuses g.P.Pattern.format a.x a.y (at g (goal.at.returns g c).Else-special), c.with_remainder.ensures.1)
