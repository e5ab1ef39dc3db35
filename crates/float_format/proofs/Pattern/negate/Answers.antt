-- `negate` meets its contract: one exclusive or flips the sign. Assumes nothing.
use mathlib.Core.Path.{◌≡◌}
use Prim.Native.Nat.{◌*◌, ◌<◌}
use mathlib.Core.Bool.{not}
use lib.Bits.{bit_xor}
use Rattle.float_format.specs.Format.{sign_bit, negative, unsigned, negated}
use Rattle.float_format.proofs.Patterns.{below_sign, signed_lt, flip_sign}
use Rattle.float_format.proofs.Pattern.negate.Goals.{After-sign_bit}
use Rattle.float_format.proofs.Pattern.negate.Goals as goal

flipped : (g : _) (c : After-sign_bit g) → bit_xor c.to_word.result c.sign_bit.result ≡ negated g.Self.Pattern.format c.to_word.result
flipped g c = rw c.sign_bit.ensures (flip_sign g.Self.Pattern.format c.to_word.result c.to_word.ensures.1)

below : (g : _) (c : After-sign_bit g) → negated g.Self.Pattern.format c.to_word.result < 2 * sign_bit g.Self.Pattern.format
unfolding negated
below g c =
    let f = g.Self.Pattern.format in
    signed_lt f (unsigned f c.to_word.result) (below_sign f c.to_word.result) (not (negative f c.to_word.result))

pub from_word-requires : goal.from_word-requires
from_word-requires g c = rw (flipped g (goal.at.from_word-requires g c).After-sign_bit) (below g (goal.at.from_word-requires g c).After-sign_bit)

pub returns : goal.returns
returns g c = rw (c.from_word.ensures, flipped g (goal.at.returns g c).After-sign_bit, c.to_word.ensures.0)
