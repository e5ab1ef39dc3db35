-- `keep` meets its contract: the part stands after what was kept, in the first 256 bytes. Assumes nothing.
use Rattle.std.proofs.Common.{rules, ◌≡◌, ◌+◌, ◌-◌, length}
use Rattle.std.proofs.lemmas.Slice.{overwrites, drop-put_mid}
use Rattle.stream.proofs.frames.keep.Goals as goal

pub returns : goal.returns
returns c =
    let n = c.in_ok-n.n in
    let k = n + length c.args.part.now - n in
    let ys = c.copy_from_slice.new.self in
    let e : length ys ≡ k = search rules in
    (search (rules, overwrites), search (rules, overwrites), drop-put_mid n k c.args.buffer.now ys 256 (search rules) (search rules) e)
