-- `run_on_words` meets its contract: where it stops, the law of that stage says what the run comes to (`Calls`); where it goes on to the last,
-- `evaluate` does the rest. Assumes nothing.
use mathlib.Core.Path.{refl}
use native.Mathlib.Omega.{arith}
use lib.ListN.{length}
use Rattle.std.proofs.lemmas.Result.{err_from_is_err_and}
use Rattle.running.proofs.Calls.{words_bad, run_crowded, run_short, run_length, run_malformed, run_outside, run_reached}
use Rattle.running.proofs.run_on_words.Goals as goal

pub returns-in_default : goal.returns-in_default
returns-in_default c =
    let a = c.args in
    rw (words_bad a.steps.now a.frame.now (length a.words.now) c.in_default.ensures) (refl, refl)

pub returns-then-m-gt16 : goal.returns-then-m-gt16
returns-then-m-gt16 c =
    let a = c.args in
    let w = c.in-Some.recipe.words.now in
    let e = c.in-Some.ensures.0 in
    rw (← e, run_crowded w a.frame.now (length a.words.now) (rw e c.in-Some.ensures.1) _ refl _ c.input_total-m.ensures.0 c.if-m-gt16.true) (refl, refl)

pub returns-then-words-n : goal.returns-then-words-n
returns-then-words-n c =
    let a = c.args in
    let w = c.in-Some.recipe.words.now in
    let e = c.in-Some.ensures.0 in
    rw (← e, run_short w a.frame.now (length a.words.now) (rw e c.in-Some.ensures.1) _ refl _ c.input_total-m.ensures.0 c.if-m-gt16.false (omega arith)) (refl, refl)

pub returns-then-frame-m : goal.returns-then-frame-m
returns-then-frame-m c =
    let a = c.args in
    let w = c.in-Some.recipe.words.now in
    let e = c.in-Some.ensures.0 in
    rw (← e, run_length w a.frame.now (length a.words.now) (rw e c.in-Some.ensures.1) _ refl _ c.input_total-m.ensures.0 c.if-m-gt16.false (omega arith) c.if-frame-m.true) (refl, refl)

pub returns-in_err-inputs : goal.returns-in_err-inputs
returns-in_err-inputs c =
    let a = c.args in
    let w = c.in-Some.recipe.words.now in
    let e = c.in-Some.ensures.0 in
    let p = err_from_is_err_and c.from_residual.result c.from_residual.ensures.1 in
    rw (← e, p.1, p.2) (rw (run_malformed w a.frame.now (length a.words.now) (rw e c.in-Some.ensures.1) _ refl _ c.input_total-m.ensures.0 c.if-m-gt16.false (omega arith) c.if-frame-m.false _ _ c.in_err-inputs.ensures (omega arith)) (refl, refl))

pub returns-in_err-check_ranges : goal.returns-in_err-check_ranges
returns-in_err-check_ranges c =
    let a = c.args in
    let w = c.in-Some.recipe.words.now in
    let e = c.in-Some.ensures.0 in
    let p = err_from_is_err_and c.from_residual-in_err-check_ranges.result c.from_residual-in_err-check_ranges.ensures.1 in
    rw (← e, p.1, p.2)
    (rw (run_outside w a.frame.now (length a.words.now) (rw e c.in-Some.ensures.1) _ refl _ c.input_total-m.ensures.0 c.if-m-gt16.false (omega arith) c.if-frame-m.false _ _ c.in_ok-inputs.ensures (omega arith) c.in_err-check_ranges.field-0.0 c.in_err-check_ranges.ensures) (refl, refl))

pub returns : goal.returns
returns c =
    let a = c.args in
    let w = c.in-Some.recipe.words.now in
    let e = c.in-Some.ensures.0 in
    let x = run_reached w a.frame.now (length a.words.now) (rw e c.in-Some.ensures.1) _ refl _ c.input_total-m.ensures.0 c.if-m-gt16.false (omega arith) c.if-frame-m.false _ _ c.in_ok-inputs.ensures (omega arith) c.in_ok-check_ranges.ensures in
    rw (← e, x.is) (c.evaluate.ensures x.list x.same)
