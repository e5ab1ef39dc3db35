-- `power_of_two` meets its contract. The loop's invariant: r is the power by all digits of n but the last k. Assumes nothing.
use Rattle.std.proofs.Common.{◌≡◌, ◌/◌, ◌%◌, ◌^◌, ◌<◌}
use Rattle.modular.proofs.Divisor.power_of_two.Given as goal

abbrev pub invariant-loop-k : goal.invariant-loop-k
invariant-loop-k l = (l.k < 64) × (l.r ≡ 2 ^ (l.n / 2 ^ l.k) % l.self.number)
