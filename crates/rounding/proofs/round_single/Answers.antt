-- `round_single` meets its contract: the mask and what is cut, by the arms that gave them. Assumes nothing.
use native.Mathlib.Omega.{arith}
use mathlib.Core.Path.{refl}
use Rattle.float_format.specs.Format.{binary32}
use Rattle.rounding.specs.Shape.{Mask}
use Rattle.rounding.proofs.Masks.{mask_shifted, mask_none, sum_fits, low_is, high_is}
use Rattle.rounding.proofs.round_single.Goals.{Joined-e-lt150, else-e-lt126, else-e-lt150, then-e-lt126, then-e-lt150}
use Rattle.rounding.proofs.round_single.Goals as goal

mask : (c : Joined-e-lt150) → Mask binary32 c.args.e c.if-e-lt150.mask
mask c = elim c.if-e-lt150.branch [ then-e-lt150 w ↦ rw w.mask-is (mask_shifted binary32 c.args.e _ w.if-e-lt150.true (λ l. omega (arith, w.if-e-lt150.true))) | else-e-lt150 w ↦ rw w.mask-is (mask_none binary32 c.args.e w.if-e-lt150.false) ]

pub overflow_add-moved : goal.overflow_add-moved
overflow_add-moved c = omega (arith, (mask (goal.at.overflow_add-moved c).Joined-e-lt150).most)

pub overflow_add-moved-2 : goal.overflow_add-moved-2
overflow_add-moved-2 c = record { fits = sum_fits binary32 c.args.x c.args.e c.if-e-lt150.mask 32 c.requires (mask (goal.at.overflow_add-moved-2 c).Joined-e-lt150) (omega arith) }

pub returns : goal.returns
returns c =
    elim c.if-e-lt126.branch [ then-e-lt126 w ↦ rw w.cut-is (low_is binary32 c.args.x c.args.e c.if-e-lt150.mask 32 c.requires (mask (goal.at.returns c).Joined-e-lt150) (omega arith) _ refl (omega (arith, w.if-e-lt126.true))) | else-e-lt126 w ↦ rw w.cut-is (high_is binary32 c.args.x c.args.e c.if-e-lt150.mask 32 c.requires (mask (goal.at.returns c).Joined-e-lt150) (omega arith) _ refl (omega (arith, w.if-e-lt126.false))) ]
