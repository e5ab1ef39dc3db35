-- `unlike_signs` meets its contract. Assumes nothing.
use Rattle.nearest_remainder.proofs.Signs.{zeros_unlike}
use Rattle.nearest_remainder.proofs.unlike_signs.Goals as goal

pub returns : goal.returns
returns g c =
    let s = c in
    let a = s.args in
    zeros_unlike g.P.Pattern.format a.x a.y c.signed_zero.result c.signed_zero-2.result s.requires.0 s.requires.1 c.signed_zero.ensures c.signed_zero-2.ensures
