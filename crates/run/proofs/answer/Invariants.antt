-- The loop follows a course: the chunk is fed up to the place, with what `feed` put out handed to `write`, and it is used up before the next one
-- is read. Assumes nothing.
use Rattle.std.proofs.Common.{◌≤◌, take}
use Rattle.stream.specs.Held.{Follows}
use Rattle.run.proofs.answer.Given as goal

abbrev pub invariant-loop : goal.invariant-loop
invariant-loop l = (l.n ≤ 8192) × (l.at ≤ l.n) × Follows (take l.n l.input) l.at l.stream
