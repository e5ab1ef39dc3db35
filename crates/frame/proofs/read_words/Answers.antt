-- `read_words` meets its contract. The invariant is `Reading.Collecting`: the words so far are the array's first i, with zeros after them. Assumes nothing.
use mathlib.Core.Path.{refl}
use native.Mathlib.Omega.{arith}
use Rattle.frame.proofs.Reading.{field_at, collecting_start, collecting_more, collecting_bad, collecting_done, collecting_same}
use Rattle.frame.proofs.read_words.Goals as goal

pub loop-i-init : goal.loop-i-init
loop-i-init c = let a = c.args in collecting_start a.frame.now a.n

pub returns-in_default : goal.returns-in_default
returns-in_default c =
    let s = c in
    let l = c.loop-i in
    let f = field_at s.args.frame.now l.i (omega arith) c.read.ensures c.in_default.is in
    rw (collecting_bad s.args.frame.now s.args.n l.words l.i l.invariant (omega arith) f)
    (refl, refl)

pub loop-i-preserved : goal.loop-i-preserved
loop-i-preserved c =
    let s = c in
    let l = c.loop-i in
    let f = field_at s.args.frame.now l.i (omega arith) c.read.ensures c.in-Some.is in
    collecting_more s.args.frame.now s.args.n l.words l.i l.invariant (omega arith) s.requires.1 _ f

pub returns : goal.returns
returns c =
    let a = c.args in
    let l = c.loop-i in
    rw (collecting_done a.frame.now a.n l.words l.i l.invariant (omega arith))
    (collecting_same a.frame.now a.n l.words l.i l.invariant c.requires.1)
