-- `step` meets its contract: the pattern grows or shrinks by one, by the sign and the side. Assumes nothing.
use mathlib.Core.Path.{◌≡◌, ◌∙◌}
use mathlib.Core.Bool.{cond}
use mathlib.Core.Logic.{inl, inr}
use Prim.Native.Nat.{◌+◌, ◌-◌}
use native.Mathlib.Omega.{arith}
use Rattle.float_format.proofs.Sizes.{sizes}
use Rattle.ordering.proofs.Steps.{selected, step_room, step_plus, step_minus}
use Rattle.ordering.proofs.step.Goals.{Joined-up, Joined-up-2, else-up, else-up-2, then-up, then-up-2}
use Rattle.ordering.proofs.step.Goals as goal

above : (g : _) (c : Joined-up g) → c.if-up.above ≡ cond c.args.up (c.args.x + 1) (c.args.x - 1)
above g c = selected _ _ _ _ (elim c.if-up.branch [ then-up w ↦ inl (w.if-up.true, w.above-is) | else-up w ↦ inr (w.if-up.false, w.above-is) ])

below : (g : _) (c : Joined-up-2 g) → c.if-up-2.below ≡ cond c.args.up (c.args.x - 1) (c.args.x + 1)
below g c = selected _ _ _ _ (elim c.if-up-2.branch [ then-up-2 w ↦ inl (w.if-up-2.true, w.below-is) | else-up-2 w ↦ inr (w.if-up-2.false, w.below-is) ])

pub overflow_add-grown : goal.overflow_add-grown
overflow_add-grown g c = record { fits = omega (arith, step_room g.P.Pattern.format c.args.x c.requires g.met.P.Pattern.fits.valid, (sizes g.P.Pattern.format g.met.P.Pattern.fits).sign_le) }

pub overflow_sub-shrunk : goal.overflow_sub-shrunk
overflow_sub-shrunk g c = (step_room g.P.Pattern.format c.args.x c.requires g.met.P.Pattern.fits.valid).0

pub returns-then-x-sign_bit : goal.returns-then-x-sign_bit
returns-then-x-sign_bit g c =
    let s = c in
    above g (goal.at.returns-then-x-sign_bit g c).Joined-up
    ∙ step_plus g.P.Pattern.format s.args.x s.requires (omega (arith, c.if-x-sign_bit.true, c.sign_bit.ensures)) s.args.up

pub returns-else-x-sign_bit : goal.returns-else-x-sign_bit
returns-else-x-sign_bit g c =
    let s = c in
    below g (goal.at.returns-else-x-sign_bit g c).Joined-up-2
    ∙ step_minus g.P.Pattern.format s.args.x s.requires (omega (arith, c.if-x-sign_bit.false, c.sign_bit.ensures)) s.args.up
