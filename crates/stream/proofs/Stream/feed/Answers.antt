-- `Stream::feed` meets its contract, by the stage. Assumes nothing.
use mathlib.Core.Path.{◌≡◌, refl}
use Prim.Native.Nat.{◌*◌, ◌≤◌}
use native.Mathlib.Omega.{arith}
use lib.ListN.{length, take}
use borrow.Author.Rules.{rules}
use Rattle.programs.proofs.Stages.{fed_frames, fed_at_frames, fed_at_done}
use Rattle.stream.proofs.Stream.feed.Goals as goal

pub returns-in-Frames : goal.returns-in-Frames
returns-in-Frames c =
    let s = c.args.self.now in
    let t = c.take_lines-turn in
    let e = t.ensures in
    let n : length s.words ≡ 384 = search rules in
    let k : 3 * c.in-Frames.steps ≤ 384 = search rules in (
      e.0,
      e.1,
      e.2,
      λ g h.
          fed_at_frames (take t.result.progress.at c.args.chunk.now) (take t.result.progress.put t.new.out) s.stage _ s.buffer s.words _ _ c.in-Frames.steps c.in-Frames.kept g h c.in-Frames.is
          (λ l line a b f. fed_frames l line (take t.result.progress.at c.args.chunk.now) (take t.result.progress.put t.new.out) c.in-Frames.steps t.result.kept t.new.buffer s.words (omega arith) a (e.4 l line a b f)),
      e.5,
    )

pub returns-in-Done : goal.returns-in-Done
returns-in-Done c =
    let s = c.args.self.now in
    (c.requires.0, omega arith, omega arith, λ g h. fed_at_done (take (length c.args.chunk.now) c.args.chunk.now) s.stage s.buffer s.words g h c.in-Done.is, refl)
