-- `digit` meets its contract, by the row of digits that the byte stands in, or none. Assumes nothing.
use mathlib.Core.Path.{◌∙◌}
use Rattle.hexadecimal.proofs.Digits.{digit_decimal, digit_letter, digit_none}
use Rattle.hexadecimal.proofs.digit.Goals.{else-l-lt6, then-l-lt6}
use Rattle.hexadecimal.proofs.digit.Goals as goal

pub returns-then-n-lt10 : goal.returns-then-n-lt10
returns-then-n-lt10 c = digit_decimal c.args.b c.ranges.b.fits c.if-n-lt10.true

pub returns-else-n-lt10 : goal.returns-else-n-lt10
returns-else-n-lt10 c =
    let b = c.args.b in
    let h = c.ranges.b.fits in
    elim c.if-l-lt6.branch [ then-l-lt6 w ↦ w.other-is ∙ digit_letter b h c.if-n-lt10.false w.if-l-lt6.true | else-l-lt6 w ↦ w.other-is ∙ digit_none b h c.if-n-lt10.false w.if-l-lt6.false ]
