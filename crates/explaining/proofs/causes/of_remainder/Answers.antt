-- `of_remainder` meets its contract: by whether the divisor holds zero. Assumes nothing.
use mathlib.Core.List.{[]}
use mathlib.Core.Path.{refl, sym, ◌∙◌}
use Rattle.semantics.specs.Cause.{of_a}
use Rattle.explaining.proofs.Reasons.{tells_second, tells_rest, tells_none}
use Rattle.explaining.proofs.causes.of_remainder.Goals as goal

pub returns-then-holds_zero : goal.returns-then-holds_zero
returns-then-holds_zero c = let a = c.args in tells_second a.t 1 20 _ _ (sym c.holds_zero.ensures ∙ c.if-holds_zero.true)

pub returns : goal.returns
returns c = let a = c.args in tells_rest a.t 1 20 _ _ (sym c.holds_zero.ensures ∙ c.if-holds_zero.false) _ _ (c.of_infinite.ensures a.t of_a 20 [] refl (tells_none a.t))
