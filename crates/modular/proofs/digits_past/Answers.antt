-- `digits_past` meets its contract. Assumes nothing.
use Rattle.std.proofs.Common.{arith}
use Rattle.modular.proofs.Powers.{past_at}
use Rattle.modular.proofs.digits_past.Goals as goal

pub returns-then-n-k : goal.returns-then-n-k
returns-then-n-k c = past_at c.args.n c.saturating_sub-k.result (omega arith) c.saturating_sub-k.ensures (omega (arith, c.if-n-k.true))
