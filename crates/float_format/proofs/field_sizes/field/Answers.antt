-- `field` meets its contract. Assumes nothing.
use mathlib.Core.Path.{◌≡◌, sym, ◌∙◌}
use Prim.Native.Nat.{◌/◌, ◌^◌}
use lib.Bits.{bit_and, and_mask}
use lib.Pow.{field}
use Rattle.float_format.specs.Format.{exponent_field}
use Rattle.float_format.specs.Width.{format}
use Rattle.float_format.proofs.Sizes.{field_le}
use Rattle.float_format.proofs.field_sizes.field.Goals.{After-top_field}
use Rattle.float_format.proofs.field_sizes.field.Goals as goal

is : (c : After-top_field) → bit_and (c.args.x / 2 ^ c.args.fraction) c.top_field.result ≡ exponent_field (format c.args.fraction c.args.exponent) c.args.x
is c =
    let a = c.args in
    rw c.top_field.ensures (and_mask (a.x / 2 ^ a.fraction) a.exponent ∙ sym (field a.x a.exponent a.fraction))

pub returns : goal.returns
returns c = (is (goal.at.returns c).After-top_field, rw (is (goal.at.returns c).After-top_field) (field_le (format c.args.fraction c.args.exponent) c.args.x))
