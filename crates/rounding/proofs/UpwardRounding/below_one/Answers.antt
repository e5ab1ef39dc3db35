-- `UpwardRounding::below_one` meets its contract. Assumes nothing.
use mathlib.Core.Path.{◌∙◌}
use Rattle.rounding.proofs.Directions.{ceil_negative, ceil_zero, ceil_one}
use Rattle.rounding.proofs.UpwardRounding.below_one.Goals.{Start}
use Rattle.rounding.proofs.UpwardRounding.below_one.Goals as goal

pub returns-then-x-sign : goal.returns-then-x-sign
returns-then-x-sign g c = λ h. c.sign_bit-sign.ensures ∙ ceil_negative g.P.Pattern.format c.args.x c.args.e c.one-one.result c.requires c.one-one.ensures (rw c.sign_bit-sign.ensures at c.if-x-sign.true) h

pub returns-then-x-eq0 : goal.returns-then-x-eq0
returns-then-x-eq0 g c = λ h. ceil_zero g.P.Pattern.format c.args.x c.args.e c.one-one.result c.requires c.one-one.ensures c.if-x-eq0.true h

pub returns-else-x-eq0 : goal.returns-else-x-eq0
returns-else-x-eq0 g c = λ h. ceil_one g.P.Pattern.format c.args.x c.args.e c.one-one.result c.requires c.one-one.ensures (rw c.sign_bit-sign.ensures at c.if-x-sign.false) c.if-x-eq0.false h
