-- `row_of` meets its contract: at a single opcode the table computes, and `Rows` has its ranges and gaps. Assumes nothing.
use mathlib.Core.Path.{sym, ap}
use native.Mathlib.Omega.{arith}
use Rattle.recipe.specs.Table.{row_of}
use Rattle.recipe.proofs.Rows.{before_10, from_10, before_20, from_20, before_30, from_30, before_40, from_40, after_42}
use Rattle.steps.proofs.table.row_of.Goals as goal

pub returns-in-1 : goal.returns-in-1
unfolding row_of
returns-in-1 c = sym (ap row_of c.in-1.is)

pub returns-in-2 : goal.returns-in-2
unfolding row_of
returns-in-2 c = sym (ap row_of c.in-2.is)

pub returns-in-3 : goal.returns-in-3
unfolding row_of
returns-in-3 c = sym (ap row_of c.in-3.is)

pub returns-in-4 : goal.returns-in-4
unfolding row_of
returns-in-4 c = sym (ap row_of c.in-4.is)

pub returns-in_default : goal.returns-in_default
returns-in_default c = sym (before_10 _ c.if-opcode-lt16.true (λ e. omega arith) (λ e. omega arith) (λ e. omega arith) (λ e. omega arith))

pub returns-then-opcode-lt24 : goal.returns-then-opcode-lt24
returns-then-opcode-lt24 c = sym (from_10 c.args.opcode (omega arith) (omega arith))

pub returns-then-opcode-eq24 : goal.returns-then-opcode-eq24
unfolding row_of
returns-then-opcode-eq24 c = sym (ap row_of c.if-opcode-eq24.true)

pub returns-then-opcode-lt32 : goal.returns-then-opcode-lt32
returns-then-opcode-lt32 c = sym (before_20 c.args.opcode (omega arith) (omega arith))

pub returns-then-opcode-lt35 : goal.returns-then-opcode-lt35
returns-then-opcode-lt35 c = sym (from_20 c.args.opcode (omega arith) (omega arith))

pub returns-then-opcode-eq35 : goal.returns-then-opcode-eq35
unfolding row_of
returns-then-opcode-eq35 c = sym (ap row_of c.if-opcode-eq35.true)

pub returns-then-opcode-eq36 : goal.returns-then-opcode-eq36
unfolding row_of
returns-then-opcode-eq36 c = sym (ap row_of c.if-opcode-eq36.true)

pub returns-then-opcode-lt48 : goal.returns-then-opcode-lt48
returns-then-opcode-lt48 c = sym (before_30 c.args.opcode (omega arith) (omega arith))

pub returns-then-opcode-lt50 : goal.returns-then-opcode-lt50
returns-then-opcode-lt50 c = sym (from_30 c.args.opcode (omega arith) (omega arith))

pub returns-then-opcode-eq50 : goal.returns-then-opcode-eq50
unfolding row_of
returns-then-opcode-eq50 c = sym (ap row_of c.if-opcode-eq50.true)

pub returns-then-opcode-lt64 : goal.returns-then-opcode-lt64
returns-then-opcode-lt64 c = sym (before_40 c.args.opcode (omega arith) (omega arith))

pub returns-then-opcode-lt67 : goal.returns-then-opcode-lt67
returns-then-opcode-lt67 c = sym (from_40 c.args.opcode (omega arith) (omega arith))

pub returns : goal.returns
returns c = sym (after_42 c.args.opcode (omega arith))
