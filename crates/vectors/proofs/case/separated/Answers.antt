-- `case::separated` meets its contract, test by test. Assumes nothing.
use borrow.Author.Tests.{eq-eqb, ne_eqb}
use Rattle.vectors.specs.Line.{separated_by}
use Rattle.vectors.proofs.Lines.{apart}
use Rattle.vectors.proofs.case.separated.Goals as goal

pub returns-then-line-ne32 : goal.returns-then-line-ne32
unfolding separated_by
returns-then-line-ne32 c = simp (ne_eqb _ _ c.if-line-ne32.true)

pub returns-then-line-ne32-2 : goal.returns-then-line-ne32-2
unfolding separated_by
returns-then-line-ne32-2 c = simp (eq-eqb _ _ c.if-line-ne32.false, ne_eqb _ _ c.if-line-ne32-2.true)

pub returns-then-line-ne32-3 : goal.returns-then-line-ne32-3
unfolding separated_by
returns-then-line-ne32-3 c = simp (eq-eqb _ _ c.if-line-ne32.false, eq-eqb _ _ c.if-line-ne32-2.false, ne_eqb _ _ c.if-line-ne32-3.true)

pub returns : goal.returns
returns c = apart c.args.line.now c.if-line-ne32.false c.if-line-ne32-2.false c.if-line-ne32-3.false
