-- `above_least` meets its contract. Assumes nothing.
use borrow.Author.Tests.{lt-ltb, le-ltb}
use Rattle.steps.proofs.order.above_least.Goals as goal

pub returns-then-p-lt9223372036854775808 : goal.returns-then-p-lt9223372036854775808
returns-then-p-lt9223372036854775808 c = rw (lt-ltb _ _ c.if-p-lt9223372036854775808.true)

pub returns-else-p-lt9223372036854775808 : goal.returns-else-p-lt9223372036854775808
returns-else-p-lt9223372036854775808 c = rw (le-ltb _ _ c.if-p-lt9223372036854775808.false)
