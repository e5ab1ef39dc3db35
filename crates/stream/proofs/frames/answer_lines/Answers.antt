-- `answer_lines` meets its contract: at each line, those before it are answered in the first bytes of the output. Assumes nothing.
use mathlib.Core.Path.{◌≡◌, ◌∙◌, sym}
use Prim.Native.Nat.{◌+◌, ◌-◌}
use native.Mathlib.Omega.{arith}
use lib.ListN.{length}
use Rattle.hexadecimal.proofs.Parts.{length_put}
use Rattle.stream.proofs.Answering.{left, line_found, line_missing, part_size, going_more, going_rest, going_full}
use Rattle.stream.proofs.frames.answer_lines.Goals as goal

pub returns-in-None : goal.returns-in-None
returns-in-None c =
    let a = c.args in
    let l = c.loop-out in
    let d = line_missing a.s.now _ l.at l.invariant.within (left a.s.now l.at) (sym c.line_end.ensures ∙ c.in-None.is) in
    (l.invariant.room, going_rest a.steps.now a.s.now 0 a.out.now l.out l.at l.put l.invariant d c.loop-out-test.true c.requires, l.invariant.rest)

pub loop-out-preserved : goal.loop-out-preserved
loop-out-preserved c =
    let a = c.args in
    let l = c.loop-out in
    let f = c.frame_line-put in
    let d = line_found a.s.now _ l.at l.invariant.within (left a.s.now l.at) c.in-Some.n (sym c.line_end.ensures ∙ c.in-Some.is) in
    let x : length f.new.out ≡ length l.out - l.put = f.auto.out ∙ part_size l.out l.put in
    going_more a.steps.now a.s.now 0 a.out.now l.out l.at l.put l.invariant
    (l.at + c.in-Some.n) f.result f.new.out d.0 d.1 f.ensures.0 c.loop-out-test.true
    x f.ensures.2 (length_put l.out f.new.out l.put (length l.out - l.put) (omega (arith, l.invariant.room, l.invariant.out_length)) x) f.ensures.1

pub returns : goal.returns
returns c =
    let a = c.args in
    let l = c.loop-out in
    (l.invariant.room, going_full a.steps.now a.s.now 0 a.out.now l.out l.at l.put l.invariant c.requires c.loop-out-test.false, l.invariant.rest)
