-- `reason_of` meets its contract: in the arms whose two facts are that the rule refuses an end, by what the rule refuses. Assumes nothing.
use mathlib.Core.Path.{◌≡◌, ◌∙◌}
use lib.IntN.{◌+ℤ◌, ◌-ℤ◌}
use mir.Syntax.{w64}
use mir.Val.{of_z, to_z}
use Rattle.recipe.specs.declared.Step.{Step}
use Rattle.semantics.specs.Range.{Range, low, high, least, most}
use Rattle.semantics.specs.Cause.{causes_of}
use Rattle.ranges.specs.Seen.{seen_range}
use Rattle.explaining.proofs.Reasons.{lround_told, whole_told, double_told, at_opcode}
use borrow.Author.Rules.{rules}
use Rattle.explaining.proofs.causes.reason_of.Goals.{After-wholes-n}
use Rattle.explaining.proofs.causes.reason_of.Goals as goal

-- ---- what was fetched before the match: the step, its operands' ranges, and their ends

abbrev step : After-wholes-n → Step
step c = c.args.t

abbrev a : After-wholes-n → Range
a c = seen_range c.args.a

abbrev b : After-wholes-n → Range
b c = seen_range c.args.b

low-is : (c : After-wholes-n) → c.ends-x.result.low ≡ low (a c)
low-is c = c.ends-x.ensures.0

high_is : (c : After-wholes-n) → c.ends-x.result.high ≡ high (a c)
high_is c = c.ends-x.ensures.1

low2-is : (c : After-wholes-n) → c.ends-y.result.low ≡ low (b c)
low2-is c = c.ends-y.ensures.0

high2-is : (c : After-wholes-n) → c.ends-y.result.high ≡ high (b c)
high2-is c = c.ends-y.ensures.1

-- a whole number is what its 64 bits stand for
least-is : (c : After-wholes-n) → to_z w64 (of_z w64 c.wholes-m.result.low) ≡ least (a c)
least-is c = let i : to_z w64 (of_z w64 c.wholes-m.result.low) ≡ c.wholes-m.result.low = search rules in i ∙ c.wholes-m.ensures.0

most-is : (c : After-wholes-n) → to_z w64 (of_z w64 c.wholes-m.result.high) ≡ most (a c)
most-is c = let i : to_z w64 (of_z w64 c.wholes-m.result.high) ≡ c.wholes-m.result.high = search rules in i ∙ c.wholes-m.ensures.1

least2-is : (c : After-wholes-n) → to_z w64 (of_z w64 c.wholes-n.result.low) ≡ least (b c)
least2-is c = let i : to_z w64 (of_z w64 c.wholes-n.result.low) ≡ c.wholes-n.result.low = search rules in i ∙ c.wholes-n.ensures.0

most2-is : (c : After-wholes-n) → to_z w64 (of_z w64 c.wholes-n.result.high) ≡ most (b c)
most2-is c = let i : to_z w64 (of_z w64 c.wholes-n.result.high) ≡ c.wholes-n.result.high = search rules in i ∙ c.wholes-n.ensures.1

-- ---- the arms whose facts are that the rule refuses an end

pub returns-in-24 : goal.returns-in-24
unfolding causes_of
returns-in-24 c =
    let e = c in
    at_opcode (step (goal.at.returns-in-24 c).After-wholes-n) (a (goal.at.returns-in-24 c).After-wholes-n) (b (goal.at.returns-in-24 c).After-wholes-n) _ _ c.in-24.is (lround_told (step (goal.at.returns-in-24 c).After-wholes-n) _ _ _ _ (a (goal.at.returns-in-24 c).After-wholes-n) (rw (low-is (goal.at.returns-in-24 c).After-wholes-n) at c.lround_of.ensures) (rw (high_is (goal.at.returns-in-24 c).After-wholes-n) at c.lround_of-in-24.ensures) (c.of_outcomes.ensures 21))

pub returns-in-48 : goal.returns-in-48
unfolding causes_of
returns-in-48 c =
    let e = c in
    at_opcode (step (goal.at.returns-in-48 c).After-wholes-n) (a (goal.at.returns-in-48 c).After-wholes-n) (b (goal.at.returns-in-48 c).After-wholes-n) _ _ c.in-48.is (whole_told (step (goal.at.returns-in-48 c).After-wholes-n) _ _ _ _ (least (a (goal.at.returns-in-48 c).After-wholes-n) +ℤ least (b (goal.at.returns-in-48 c).After-wholes-n)) (most (a (goal.at.returns-in-48 c).After-wholes-n) +ℤ most (b (goal.at.returns-in-48 c).After-wholes-n)) (rw (least-is (goal.at.returns-in-48 c).After-wholes-n, least2-is (goal.at.returns-in-48 c).After-wholes-n) at c.sum_of.ensures) (rw (most-is (goal.at.returns-in-48 c).After-wholes-n, most2-is (goal.at.returns-in-48 c).After-wholes-n) at c.sum_of-in-48.ensures) (c.of_outcomes-in-48.ensures 21))

pub returns-in-49 : goal.returns-in-49
unfolding causes_of
returns-in-49 c =
    let e = c in
    at_opcode (step (goal.at.returns-in-49 c).After-wholes-n) (a (goal.at.returns-in-49 c).After-wholes-n) (b (goal.at.returns-in-49 c).After-wholes-n) _ _ c.in-49.is (whole_told (step (goal.at.returns-in-49 c).After-wholes-n) _ _ _ _ (least (a (goal.at.returns-in-49 c).After-wholes-n) -ℤ most (b (goal.at.returns-in-49 c).After-wholes-n)) (most (a (goal.at.returns-in-49 c).After-wholes-n) -ℤ least (b (goal.at.returns-in-49 c).After-wholes-n)) (rw (least-is (goal.at.returns-in-49 c).After-wholes-n, most2-is (goal.at.returns-in-49 c).After-wholes-n) at c.difference_of.ensures) (rw (most-is (goal.at.returns-in-49 c).After-wholes-n, least2-is (goal.at.returns-in-49 c).After-wholes-n) at c.difference_of-in-49.ensures) (c.of_outcomes-in-49.ensures 21))

pub returns-in-50 : goal.returns-in-50
unfolding causes_of
returns-in-50 c =
    let e = c in
    at_opcode (step (goal.at.returns-in-50 c).After-wholes-n) (a (goal.at.returns-in-50 c).After-wholes-n) (b (goal.at.returns-in-50 c).After-wholes-n) _ _ c.in-50.is (double_told (step (goal.at.returns-in-50 c).After-wholes-n) _ _ _ _ (a (goal.at.returns-in-50 c).After-wholes-n) (rw (least-is (goal.at.returns-in-50 c).After-wholes-n) at c.double_of.ensures) (rw (most-is (goal.at.returns-in-50 c).After-wholes-n) at c.double_of-in-50.ensures) (c.of_outcomes-in-50.ensures 22))
