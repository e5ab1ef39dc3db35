-- `write_sheet` meets its contract, by the sheet call's answer. Assumes nothing.
use mathlib.Core.Path.{ap, ◌∙◌}
use native.Mathlib.Omega.{arith}
use lib.ListN.{length, drop}
use Rattle.output.proofs.Sheets.{sheet_refused, sheet_few, sheet_written, sheet_unwritten, sheet_rest}
use Rattle.output.proofs.sheet.write_sheet.Goals as goal

pub returns-then-a-ne0 : goal.returns-then-a-ne0
returns-then-a-ne0 c =
    let s = c in
    let o = c.refusal_line.ensures in
    (omega (arith, o.0), o.1 ∙ sheet_refused s.args.text.now (length s.args.out.now) s.requires c.sheet-a.result c.sheet-a.ensures.0 c.if-a-ne0.true, o.2 ∙ ap (drop c.refusal_line.result) (sheet_unwritten s.args.text.now (length s.args.out.now) s.requires c.sheet-a.result c.sheet-a.ensures.0 s.args.out.now _ c.sheet-a.ensures.1 c.if-a-ne0.true))

pub overflow_mul-result : goal.overflow_mul-result
overflow_mul-result c =
    let s = c in
    let f = sheet_few s.args.text.now (length s.args.out.now) s.requires c.sheet-a.result c.sheet-a.ensures.0 c.if-a-ne0.false in
    omega arith

pub returns : goal.returns
returns c =
    let s = c in
    let f = sheet_few s.args.text.now (length s.args.out.now) s.requires c.sheet-a.result c.sheet-a.ensures.0 c.if-a-ne0.false in
    (omega arith, sheet_written s.args.text.now (length s.args.out.now) s.requires c.sheet-a.result c.sheet-a.ensures.0 c.if-a-ne0.false s.args.out.now _ c.sheet-a.ensures.1, sheet_rest s.args.text.now (length s.args.out.now) s.requires c.sheet-a.result c.sheet-a.ensures.0 s.args.out.now _ c.sheet-a.ensures.1)
