-- `step_range` meets its contract: in these arms, where the two ends are made one by one, by what they come to together. Assumes nothing.
use mathlib.Core.Path.{◌≡◌, ◌∙◌}
use Prim.Native.Nat.{ℕ}
use lib.IntN.{◌+ℤ◌, ◌-ℤ◌}
use mir.Syntax.{w64}
use mir.Val.{of_z, to_z}
use Rattle.recipe.specs.declared.Step.{Step}
use Rattle.semantics.specs.Range.{Range, low, high, least, most, range_rule, step_range}
use Rattle.ranges.specs.Seen.{seen_range}
use Rattle.ranges.specs.Carried.{carried}
use Rattle.ranges.proofs.Rules.{bounded}
use Rattle.ranges.proofs.Rulings.{whole_ranged, double_ranged, product-ranged}
use borrow.Author.Rules.{rules}
use Rattle.ranges.proofs.bounds.step_range.Goals.{After-wholes-n}
use Rattle.ranges.proofs.bounds.step_range.Goals as goal

-- ---- what was fetched before the match: the step, its operands' ranges, and their ends

abbrev step : After-wholes-n → Step
step c = c.args.t

abbrev a : After-wholes-n → Range
a c = seen_range c.args.a

abbrev b : After-wholes-n → Range
b c = seen_range c.args.b

low-is : (c : After-wholes-n) → c.ends-x.result.low ≡ low (a c)
low-is c = c.ends-x.ensures.0

high_is : (c : After-wholes-n) → c.ends-x.result.high ≡ high (a c)
high_is c = c.ends-x.ensures.1

low2-is : (c : After-wholes-n) → c.ends-y.result.low ≡ low (b c)
low2-is c = c.ends-y.ensures.0

high2-is : (c : After-wholes-n) → c.ends-y.result.high ≡ high (b c)
high2-is c = c.ends-y.ensures.1

-- a whole number is what its 64 bits stand for
least-is : (c : After-wholes-n) → to_z w64 (of_z w64 c.wholes-m.result.low) ≡ least (a c)
least-is c = let i : to_z w64 (of_z w64 c.wholes-m.result.low) ≡ c.wholes-m.result.low = search rules in i ∙ c.wholes-m.ensures.0

most-is : (c : After-wholes-n) → to_z w64 (of_z w64 c.wholes-m.result.high) ≡ most (a c)
most-is c = let i : to_z w64 (of_z w64 c.wholes-m.result.high) ≡ c.wholes-m.result.high = search rules in i ∙ c.wholes-m.ensures.1

least2-is : (c : After-wholes-n) → to_z w64 (of_z w64 c.wholes-n.result.low) ≡ least (b c)
least2-is c = let i : to_z w64 (of_z w64 c.wholes-n.result.low) ≡ c.wholes-n.result.low = search rules in i ∙ c.wholes-n.ensures.0

most2-is : (c : After-wholes-n) → to_z w64 (of_z w64 c.wholes-n.result.high) ≡ most (b c)
most2-is c = let i : to_z w64 (of_z w64 c.wholes-n.result.high) ≡ c.wholes-n.result.high = search rules in i ∙ c.wholes-n.ensures.1

-- the rule at the arm's opcode is the step's
arm : (c : After-wholes-n) {k : ℕ} → (step c).opcode ≡ k → carried (range_rule k (step c).p (step c).q (a c) (b c)) ≡ carried (step_range (step c) (a c) (b c))
arm c e = bounded (step c) (a c) (b c) e

-- ---- sums, differences and doubles of whole numbers, and products

pub returns-in-48 : goal.returns-in-48
unfolding range_rule
returns-in-48 c = c.between-in-48.ensures ∙ whole_ranged (least (a (goal.at.returns-in-48 c).After-wholes-n) +ℤ least (b (goal.at.returns-in-48 c).After-wholes-n)) (most (a (goal.at.returns-in-48 c).After-wholes-n) +ℤ most (b (goal.at.returns-in-48 c).After-wholes-n)) _ _ (rw (least-is (goal.at.returns-in-48 c).After-wholes-n, least2-is (goal.at.returns-in-48 c).After-wholes-n) at c.sum_of.ensures) (rw (most-is (goal.at.returns-in-48 c).After-wholes-n, most2-is (goal.at.returns-in-48 c).After-wholes-n) at c.sum_of-in-48.ensures) ∙ arm (goal.at.returns-in-48 c).After-wholes-n c.in-48.is

pub returns-in-49 : goal.returns-in-49
unfolding range_rule
returns-in-49 c = c.between-in-49.ensures ∙ whole_ranged (least (a (goal.at.returns-in-49 c).After-wholes-n) -ℤ most (b (goal.at.returns-in-49 c).After-wholes-n)) (most (a (goal.at.returns-in-49 c).After-wholes-n) -ℤ least (b (goal.at.returns-in-49 c).After-wholes-n)) _ _ (rw (least-is (goal.at.returns-in-49 c).After-wholes-n, most2-is (goal.at.returns-in-49 c).After-wholes-n) at c.difference_of.ensures) (rw (most-is (goal.at.returns-in-49 c).After-wholes-n, least2-is (goal.at.returns-in-49 c).After-wholes-n) at c.difference_of-in-49.ensures) ∙ arm (goal.at.returns-in-49 c).After-wholes-n c.in-49.is

pub returns-in-50 : goal.returns-in-50
unfolding range_rule
returns-in-50 c = c.between-in-50.ensures ∙ double_ranged (a (goal.at.returns-in-50 c).After-wholes-n) _ _ (rw (least-is (goal.at.returns-in-50 c).After-wholes-n) at c.double_of.ensures) (rw (most-is (goal.at.returns-in-50 c).After-wholes-n) at c.double_of-in-50.ensures) ∙ arm (goal.at.returns-in-50 c).After-wholes-n c.in-50.is

pub returns-in-66 : goal.returns-in-66
unfolding range_rule
returns-in-66 c = (rw (c.product_ends.ensures.0, c.product_ends.ensures.1, low-is (goal.at.returns-in-66 c).After-wholes-n, high_is (goal.at.returns-in-66 c).After-wholes-n, low2-is (goal.at.returns-in-66 c).After-wholes-n, high2-is (goal.at.returns-in-66 c).After-wholes-n) at c.worked_range-in-66.ensures) ∙ product-ranged (a (goal.at.returns-in-66 c).After-wholes-n) (b (goal.at.returns-in-66 c).After-wholes-n) ∙ arm (goal.at.returns-in-66 c).After-wholes-n c.in-66.is
