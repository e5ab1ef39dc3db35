-- `of_arithmetic` meets its contract: each call's two facts stand before those of the call before it. Assumes nothing.
use mathlib.Core.List.{[]}
use mathlib.Core.Path.{refl}
use Rattle.semantics.specs.Cause.{of_a, of_b}
use Rattle.explaining.proofs.Reasons.{tells_none}
use Rattle.explaining.proofs.causes.of_arithmetic.Goals as goal

pub returns : goal.returns
returns c =
    let t = c.args.t in
    c.of_infinite.ensures t of_a 20 _ refl
    (c.of_infinite-infinite.ensures t of_b 20 _ refl
    (c.of_infinite-overflow.ensures t of_a 21 [] refl (tells_none t)))
