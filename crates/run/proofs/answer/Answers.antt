-- The course goes on: `new` begins it, `feed` takes it up to the place that it answers, and `read` begins the next chunk where the present one is
-- used up. So it does where the loop is left: after the last feed of a refused recipe, and after the read that gave nothing. Assumes nothing.
use Rattle.std.proofs.Common.{rules, arith, ◌≡◌, length, take, length-take-le}
use Rattle.programs.proofs.Pieces.{between_rest}
use Rattle.programs.proofs.Chunks.{followed_start, followed_read, followed_feed}
use Rattle.run.proofs.answer.Goals.{then-at-n+in_ok-map_err+else-is_done, else-at-n+in_ok-n+else-n-eq0}
use Rattle.run.proofs.answer.Goals.{else-loop-test, then-loop-test+then-at-n+in_ok-map_err+then-is_done, then-loop-test+else-at-n+in_ok-n+then-n-eq0}
use Rattle.run.proofs.answer.Goals as goal

pub loop-init : goal.loop-init
loop-init c = (omega arith, omega arith, followed_start _ _ _ c.new-stream.ensures)

pub loop-preserved : goal.loop-preserved
loop-preserved c =
    let l = c.loop in
    let s = l.stream in
    let chunk = take l.n l.input in
    let e : length chunk ≡ l.n = length-take-le l.n l.input (search rules) in
    elim c.if-at-n.branch [
      | then-at-n+in_ok-map_err+else-is_done w ↦ let f = w.feed-progress in
          rw (w.n-is, w.at-is, w.input-is, w.stream-is) (
            l.invariant.0,
            search rules,
            followed_feed chunk l.at s.stage s.buffer s.words _ f.new.out f.result.put _ _ _ l.invariant.2 (omega arith) (search rules) (rw (between_rest l.input l.at l.n f.result.at) f.ensures.3),
          )
      | else-at-n+in_ok-n+else-n-eq0 w ↦ rw (w.n-is, w.at-is, w.input-is, w.stream-is) (
        search rules,
        omega arith,
        followed_read chunk _ l.at s.stage s.buffer s.words l.invariant.2 (omega (arith, e)),
      )
    ]

pub end-put-requires : goal.end-put-requires
end-put-requires c =
    let l = c.loop in
    let s = l.stream in
    let chunk = take l.n l.input in
    let e : length chunk ≡ l.n = length-take-le l.n l.input (search rules) in (
      elim c.loop-test.branch [
        | else-loop-test w ↦ rw (w.n-is, w.at-is, w.input-is, w.stream-is) l.invariant.2
        | then-loop-test+then-at-n+in_ok-map_err+then-is_done w ↦ let f = w.feed-progress in
            rw (w.n-is, w.at-is, w.input-is, w.stream-is)
            (followed_feed chunk l.at s.stage s.buffer s.words _ f.new.out f.result.put _ _ _ l.invariant.2 (omega arith) (search rules) (rw (between_rest l.input l.at l.n f.result.at) f.ensures.3))
        | then-loop-test+else-at-n+in_ok-n+then-n-eq0 w ↦
            rw (w.n-is, w.at-is, w.input-is, w.stream-is) (followed_read chunk _ l.at s.stage s.buffer s.words l.invariant.2 (omega (arith, e)))
      ],
      search rules,
    )
