-- `not_finite` meets its contract: with the largest field, the fraction tells an infinity from a NaN. Assumes nothing.
use mathlib.Core.Path.{sym, ◌∙◌}
use native.Mathlib.Omega.{arith}
use lib.Pow.{pow_pos}
use Rattle.float_format.specs.Format.{Format}
use Rattle.float_format.specs.Width.{format}
use Rattle.float_format.proofs.Patterns.{propagated_nan, propagated-number}
use Rattle.float_format.proofs.Sizes.{rest_infinite, rest_nan}
use Rattle.float_format.proofs.field_sizes.not_finite.Goals.{Start}
use Rattle.float_format.proofs.field_sizes.not_finite.Goals as goal

-- the format
abbrev at : Start → Format
at s = format s.args.fraction s.args.exponent

pub nonzero_rem-x : goal.nonzero_rem-x
nonzero_rem-x c = omega (arith, c.power.ensures, pow_pos c.args.fraction)

pub returns-then-x-power-eq0 : goal.returns-then-x-power-eq0
returns-then-x-power-eq0 c =
    let s = c in
    let e = rest_infinite (at (goal.at.returns-then-x-power-eq0 c).Start) s.args.x s.requires.2 (rw c.power.ensures at c.if-x-power-eq0.true) in
    (sym (propagated-number (at (goal.at.returns-then-x-power-eq0 c).Start) s.args.x (omega (arith, e))), s.requires.1)

pub returns : goal.returns
returns c =
    let s = c in
    let l = rest_nan (at (goal.at.returns c).Start) s.args.x s.requires.2 (rw c.power.ensures at c.if-x-power-eq0.false) in
    (c.quiet.ensures.0 ∙ sym (propagated_nan (at (goal.at.returns c).Start) s.args.x l), c.quiet.ensures.1)
