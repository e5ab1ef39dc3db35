-- `refusal_of` meets its contract, check by check. Assumes nothing.
use mathlib.Core.Path.{◌∙◌, sym}
use native.Mathlib.Omega.{arith}
use borrow.Author.Tests.{le-leb, lt-leb}
use Rattle.reader.specs.Checks.{refusal_by}
use Rattle.reader.proofs.checks.refusal_of.Goals as goal

pub returns-then-is_unknown : goal.returns-then-is_unknown
unfolding refusal_by
returns-then-is_unknown c = rw (sym c.is_unknown.ensures ∙ c.if-is_unknown.true)

pub returns-then-unused_set : goal.returns-then-unused_set
unfolding refusal_by
returns-then-unused_set c =
    rw (
      sym c.is_unknown.ensures ∙ c.if-is_unknown.false,
      sym c.unused_set.ensures ∙ c.if-unused_set.true,
    )

pub returns-then-operand_ahead : goal.returns-then-operand_ahead
unfolding refusal_by
returns-then-operand_ahead c =
    rw (
      sym c.is_unknown.ensures ∙ c.if-is_unknown.false,
      sym c.unused_set.ensures ∙ c.if-unused_set.false,
      sym c.operand_ahead.ensures ∙ c.if-operand_ahead.true,
    )

pub returns-then-wrong_kind : goal.returns-then-wrong_kind
unfolding refusal_by
returns-then-wrong_kind c =
    rw (
      sym c.is_unknown.ensures ∙ c.if-is_unknown.false,
      sym c.unused_set.ensures ∙ c.if-unused_set.false,
      sym c.operand_ahead.ensures ∙ c.if-operand_ahead.false,
      sym c.wrong_kind.ensures ∙ c.if-wrong_kind.true,
    )

pub returns-then-bad_range : goal.returns-then-bad_range
unfolding refusal_by
returns-then-bad_range c =
    rw (
      sym c.is_unknown.ensures ∙ c.if-is_unknown.false,
      sym c.unused_set.ensures ∙ c.if-unused_set.false,
      sym c.operand_ahead.ensures ∙ c.if-operand_ahead.false,
      sym c.wrong_kind.ensures ∙ c.if-wrong_kind.false,
      sym c.bad_range.ensures ∙ c.if-bad_range.true,
    )

pub returns-then-inputs-ge16 : goal.returns-then-inputs-ge16
unfolding refusal_by
returns-then-inputs-ge16 c =
    rw (
      sym c.is_unknown.ensures ∙ c.if-is_unknown.false,
      sym c.unused_set.ensures ∙ c.if-unused_set.false,
      sym c.operand_ahead.ensures ∙ c.if-operand_ahead.false,
      sym c.wrong_kind.ensures ∙ c.if-wrong_kind.false,
      sym c.bad_range.ensures ∙ c.if-bad_range.false,
      sym c.is_input.ensures ∙ c.if-is_input.true,
      le-leb 16 c.args.inputs (omega (arith, c.if-inputs-ge16.true)),
    )

pub returns-else-inputs-ge16 : goal.returns-else-inputs-ge16
unfolding refusal_by
returns-else-inputs-ge16 c =
    rw (
      sym c.is_unknown.ensures ∙ c.if-is_unknown.false,
      sym c.unused_set.ensures ∙ c.if-unused_set.false,
      sym c.operand_ahead.ensures ∙ c.if-operand_ahead.false,
      sym c.wrong_kind.ensures ∙ c.if-wrong_kind.false,
      sym c.bad_range.ensures ∙ c.if-bad_range.false,
      sym c.is_input.ensures ∙ c.if-is_input.true,
      lt-leb 16 c.args.inputs (omega (arith, c.if-inputs-ge16.false)),
    )

pub returns-else-is_input : goal.returns-else-is_input
unfolding refusal_by
returns-else-is_input c =
    rw (
      sym c.is_unknown.ensures ∙ c.if-is_unknown.false,
      sym c.unused_set.ensures ∙ c.if-unused_set.false,
      sym c.operand_ahead.ensures ∙ c.if-operand_ahead.false,
      sym c.wrong_kind.ensures ∙ c.if-wrong_kind.false,
      sym c.bad_range.ensures ∙ c.if-bad_range.false,
      sym c.is_input.ensures ∙ c.if-is_input.false,
    )
