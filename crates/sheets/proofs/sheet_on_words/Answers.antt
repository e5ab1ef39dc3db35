-- `sheet_on_words` meets its contract: where it stops, the law of that stage says what the sheet comes to (`SheetCalls`); else `write_sheet` does
-- the rest. Assumes nothing.
use mathlib.Core.Path.{refl}
use native.Mathlib.Omega.{arith}
use lib.ListN.{length}
use Rattle.sheets.proofs.SheetCalls.{sheet_bad, sheet_short, sheet_reached}
use Rattle.sheets.proofs.sheet_on_words.Goals as goal

pub returns-in_default : goal.returns-in_default
returns-in_default c =
    let a = c.args in
    rw (sheet_bad a.steps.now (length a.bytes.now) c.in_default.ensures) (refl, refl)

pub returns-then-bytes-n : goal.returns-then-bytes-n
returns-then-bytes-n c =
    let a = c.args in
    let w = c.in-Some.recipe.words.now in
    let e = c.in-Some.ensures.0 in
    rw (← e, sheet_short w (length a.bytes.now) (rw e c.in-Some.ensures.1) _ c.len-n.ensures.count c.if-bytes-n.true) (refl, refl)

pub returns : goal.returns
returns c =
    let a = c.args in
    let w = c.in-Some.recipe.words.now in
    let e = c.in-Some.ensures.0 in
    rw (← e, sheet_reached w (length a.bytes.now) (rw e c.in-Some.ensures.1) _ refl (omega arith)) c.write_sheet.ensures
