-- `far` meets its contract. The loop's invariant: r fits a significand, and with the places that are left it has the whole remainder. Assumes
-- nothing.
use mathlib.Core.Path.{◌≡◌}
use Prim.Native.Nat.{◌-◌, ◌*◌, ◌%◌, ◌^◌, ◌<◌}
use Rattle.remainder.proofs.far.Given as goal

abbrev pub invariant-loop : goal.invariant-loop
invariant-loop g l = (l.r < 2 * 2 ^ g.P.Pattern.format.fraction) × (l.r * 2 ^ (l.n - 11 * l.counter) % l.d ≡ l.m * 2 ^ l.n % l.d)
