-- The call on a text, as the code takes it: the reader's refusal, too little room, or the lines that the words read answer. Assumes nothing.
use mathlib.Core.Path.{◌≡◌, ap, ◌∙◌, sym}
use mathlib.Core.List.{List, ◌++◌}
use Prim.Native.Nat.{ℕ, ◌*◌, ◌-◌, ◌≤◌, ◌<◌}
use native.Mathlib.Omega.{arith}
use lib.ListN.{length, take, drop, take-append-drop}
use lib.Seq.{length-take-le}
use Rattle.std.specs.Prelude.{Ok, Err}
use Rattle.recipe.specs.declared.Refusal.{Refusal}
use Rattle.recipe.specs.Fault as fault
use Rattle.recipe.specs.Text.{short, most_steps, read_text}
use Rattle.recipe.specs.Packed.{steps_in}
use Rattle.recipe.specs.Answer.{Says}
use Rattle.reader.specs.Checks.{reading_of}
use Rattle.reader.proofs.Laws.{read_steps, read_count, read_holds, read_refused}
use Rattle.programs.specs.declared.Progress.{Progress}
use Rattle.programs.specs.declared.LinesAnswer.{LinesAnswer}
use Rattle.programs.specs.Stage.{Answered, Untouched}
use Rattle.programs.specs.Batch.{Batch, answered, refused, batch_steps, batch_of, answer_of, bytes_of}
use Rattle.programs.proofs.Batches.{batch_short, batch_refused, batch_read}

module _ (t s : List ℕ) (room : ℕ) (w : List ℕ) where
  -- the reader's refusal
  pub text_refused : (r : Refusal) → Says (read_text short t) (reading_of (Err r)) w → batch_of t s room ≡ refused (fault.number_of r.fault) r.place.0
  text_refused r g = batch_refused t s room (fault.number_of r.fault) r.place.0 (read_refused t w r g)

  module _ (n : ℕ) (g : Says (read_text short t) (reading_of (Ok n)) w) where
    as_steps : batch_of t s room ≡ batch_steps (steps_in w n) s room
    as_steps = batch_read t s room (steps_in w n) (read_steps t w n g)

    -- refusal 40
    pub text_short : room < 19 → batch_of t s room ≡ refused 40 0
    text_short h = as_steps ∙ batch_short (steps_in w n) s room h

    -- else the words read answer the lines, and these alone
    pub text_lines : length w ≡ 3 * most_steps → (q : Progress) (out : List ℕ) → Answered (take (3 * n) w) s 0 q out → length out ≡ room
        → batch_of t s room ≡ answered q.at (take q.put out)
    text_lines e q out a m =
        let few = read_count t w n g in
        let o : q.at - 0 ≡ q.at = omega arith in
        as_steps
        ∙ ap (batch_steps (steps_in w n) s) (sym m)
        ∙ a.batch (steps_in w n) (read_holds t w n g (omega (arith, few.1)))
        ∙ ap (λ (k : ℕ). answered k (take q.put out)) o

-- ---- the contract

-- so many bytes read, and the first bytes of what was lent written
pub lines_answered : (b : Batch) (read put : ℕ) (lent out : List ℕ) → b ≡ answered read (take put out) → put ≤ length out → Untouched put lent out
    → ((record { refusal = 0; place = 0; read = read; written = put }) ≡ answer_of b) × (out ≡ bytes_of b lent)
lines_answered b read put lent out e h u =
    let n : length (take put out) ≡ put = length-take-le put out h in
    let answer : ℕ → LinesAnswer = λ k. record { refusal = 0; place = 0; read = read; written = k } in (
      ap answer (sym n) ∙ ap answer_of (sym e),
      sym (take-append-drop put out) ∙ ap (λ (x : List ℕ). take put out ++ x) (u ∙ ap (λ (k : ℕ). drop k lent) (sym n)) ∙ ap (λ (x : Batch). bytes_of x lent) (sym e),
    )
