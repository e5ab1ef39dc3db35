-- `read` meets its contract: a line's turn leads from `Reading.Going` to the same one line on, or to the answer where the text is turned down.
-- Assumes nothing.
use mathlib.Core.Path.{◌≡◌, refl, ◌∙◌, sym, ap}
use mathlib.Core.Bool.{cond}
use Prim.Native.Nat.{◌*◌}
use native.Mathlib.Omega.{arith}
use lib.ListN.{length-take, length-drop, get_or-replicate}
use Rattle.recipe.specs.declared.Kind.TheVariants.{Double}
use Rattle.recipe.specs.Table.{answer_kind, is_input}
use Rattle.recipe.specs.Text.{most_steps, short, line_length, good, line_at, step_refusal}
use Rattle.recipe.specs.Packed.{steps_in}
use Rattle.reader.specs.Checks.{refusal_number}
use Rattle.reader.proofs.Fields.{line_part}
use Rattle.reader.proofs.Steps.{told_good, told_malformed}
use Rattle.reader.proofs.Laws.{some_number}
use Rattle.reader.proofs.Reading.{going_start, going_more, says_bad, says_malformed, says_refused, says_done}
use Rattle.reader.proofs.read.Goals.{After-judge, In-Some}
use Rattle.reader.proofs.read.Goals as goal

-- the line read is a step
read_step : (k : In-Some) → line_at short k.args.text.now (k.loop-i.i * line_length short) ≡ good k.in-Some.t
read_step k = sym (line_part _ _) ∙ told_good _ k.in-Some.t (sym k.line_of.ensures ∙ k.in-Some.is)

-- and what it is refused for is what the definition says
refusal : (j : After-judge) → refusal_number j.judge.result ≡ step_refusal (steps_in j.loop-i.steps j.loop-i.i) j.in-Some.t
refusal j = j.judge.ensures (steps_in j.loop-i.steps j.loop-i.i) j.loop-i.invariant.known

-- ---- the needs

pub returns-then-bad_length : goal.returns-then-bad_length
returns-then-bad_length c =
    let s = c in
    says_bad s.args.text.now s.args.steps.now _ (sym c.bad_length.ensures ∙ c.if-bad_length.true) (record { numbered = refl; placed = refl; none = refl })

pub loop-i-init : goal.loop-i-init
loop-i-init c =
    let s = c in
    going_start s.args.text.now s.args.steps.now _ s.requires refl (λ k h. get_or-replicate most_steps k Double Double h) (sym c.bad_length.ensures ∙ c.if-bad_length.false)

pub overflow_mul-at : goal.overflow_mul-at
overflow_mul-at c = let l = c.loop-i in omega (arith, l.invariant.room)

pub overflow_add-at : goal.overflow_add-at
overflow_add-at c = let l = c.loop-i in omega (arith, l.invariant.room)

pub slice_bounds-line_of-end : goal.slice_bounds-line_of-end
slice_bounds-line_of-end c = let l = c.loop-i in omega (arith, l.invariant.whole)

pub line_of-requires : goal.line_of-requires
line_of-requires c = let l = c.loop-i in simp (length-take, length-drop) (omega (arith, l.invariant.whole))

pub overflow_cast-place : goal.overflow_cast-place
overflow_cast-place c = let l = c.loop-i in omega (arith, l.invariant.room)

pub returns-in_default : goal.returns-in_default
returns-in_default c =
    let l = c.loop-i in
    let x = sym (line_part _ _) ∙ told_malformed _ (sym c.line_of.ensures ∙ c.in_default.is) in
    says_malformed c.args.text.now _ c.args.steps.now l.steps l.kinds l.inputs l.i l.invariant (omega arith) x _ (record { numbered = refl; placed = refl; none = refl })

pub judge-requires : goal.judge-requires
judge-requires c = c.row_of-row.ensures

pub returns-in-Some-judge : goal.returns-in-Some-judge
returns-in-Some-judge c =
    let l = c.loop-i in
    let j = (goal.at.returns-in-Some-judge c).After-judge in
    says_refused c.args.text.now _ c.args.steps.now l.steps l.kinds l.inputs l.i l.invariant (omega arith) c.in-Some.t (read_step (goal.at.returns-in-Some-judge c).In-Some) _ (ap refusal_number (sym c.in-Some-judge.is) ∙ refusal j) (some_number c.in-Some-judge.fault) _ (record { numbered = refl; placed = refl; none = refl })

pub put_step-requires : goal.put_step-requires
put_step-requires c = let l = c.loop-i in omega (arith, l.invariant.room, l.invariant.wide, l.invariant.long)

pub bounds-kinds-i : goal.bounds-kinds-i
bounds-kinds-i c = omega (arith, c.loop-i.invariant.room)

pub overflow_add-inputs : goal.overflow_add-inputs
overflow_add-inputs c = let l = c.loop-i in omega (arith, l.invariant.few, l.invariant.room, c.input_count-counted.ensures.1)

pub loop-i-preserved : goal.loop-i-preserved
loop-i-preserved c =
    let l = c.loop-i in
    let p = c.put_step in
    let n = c.input_count-counted in
    let row = c.row_of-row.ensures in
    going_more c.args.text.now _ c.args.steps.now l.steps l.kinds l.inputs l.i l.invariant
    (omega arith)
    c.in-Some.t
    (read_step (goal.at.loop-i-preserved c).In-Some)
    (sym (refusal (goal.at.loop-i-preserved c).After-judge) ∙ ap refusal_number c.in_default-judge.is)
    p.new.steps
    p.ensures.0
    p.ensures.1
    n.result
    (n.ensures.0 ∙ ap (λ r. cond (is_input r) 1 0) row)
    n.ensures.1
    c.answer_kind-kind.result
    (c.answer_kind-kind.ensures ∙ ap answer_kind row)

pub returns : goal.returns
returns c =
    let l = c.loop-i in
    says_done c.args.text.now _ c.args.steps.now l.steps l.kinds l.inputs l.i l.invariant (omega arith)
