-- The sheet call on words, stage by stage: what it comes to where it stops, and where it goes on; that the sheet of formed steps is the
-- definition's; and the call on a text, which adds the reading. Assumes nothing.
use mathlib.Core.Path.{◌≡◌, sym, ap, ◌∙◌}
use mathlib.Core.Bool.{true, false, cond}
use mathlib.Core.List.{List}
use Prim.Native.Nat.{ℕ, ◌*◌, ◌/◌, ◌≤◌, ◌<◌}
use native.Mathlib.Omega.{arith}
use lib.Dec.{ltb}
use lib.ListN.{length, take}
use borrow.Author.Tests.{lt-ltb, le-ltb}
use Rattle.std.specs.Prelude.{Ok, Err}
use Rattle.recipe.specs.declared.Refusal.{Refusal}
use Rattle.recipe.specs.declared.Step.{Step}
use Rattle.recipe.specs.Fault as fault
use Rattle.recipe.specs.Text.{short, most_steps, read_text}
use Rattle.recipe.specs.Packed.{bad_words, steps_in}
use Rattle.recipe.specs.Answer.{Says, Holds}
use Rattle.recipe.proofs.Packed.{steps_length, holds_words}
use Rattle.reader.specs.Checks.{reading_of}
use Rattle.reader.proofs.Laws.{read_steps, read_count, read_holds, read_refused}
use Rattle.semantics.specs.declared.SheetAnswer.{SheetAnswer}
use Rattle.semantics.specs.Shown.{Shown, refused, sheet_line, sheet_steps, sheet_of, answer_of, bytes_of}
use Rattle.semantics.proofs.Calls as law
use Rattle.semantics.proofs.Sound.Recipes.{declared}
use Rattle.sheets.specs.Packed.{carried_sheet, sheet_words}
use Rattle.ranges.proofs.Covering.{carried_same}

module _ (w : List ℕ) (room : ℕ) where
  -- refusal 10
  pub sheet_bad : bad_words (length w) ≡ true → sheet_words w room ≡ refused 10 0
  unfolding sheet_words
  sheet_bad e = rw e

  module _ (b : bad_words (length w) ≡ false) (n : ℕ) (en : n ≡ length w / 3) where
    whole : sheet_words w room ≡ cond (ltb room (n * sheet_line)) (refused 40 0) (carried_sheet (steps_in w n))
    unfolding sheet_words
    whole =
        let e : sheet_line * n ≡ n * sheet_line = omega arith in
        rw (b, sym en, steps_length w n, e)

    -- refusal 40
    pub sheet_short : room < n * sheet_line → sheet_words w room ≡ refused 40 0
    sheet_short h = whole ∙ rw (lt-ltb room (n * sheet_line) h)

    -- neither
    pub sheet_reached : n * sheet_line ≤ room → sheet_words w room ≡ carried_sheet (steps_in w n)
    sheet_reached h = whole ∙ rw (le-ltb room (n * sheet_line) h)

-- Words that hold formed steps have the sheet of these steps.
pub holds_sheet : (l : List Step) (w : List ℕ) (room : ℕ) → Holds l w → sheet_words w room ≡ sheet_steps l room
unfolding sheet_words sheet_steps
holds_sheet l w room h = rw (holds_words l w h, h.kept, carried_same l (declared l h.formed))

-- ---- a text

module _ (t : List ℕ) (room : ℕ) (w : List ℕ) where
  -- the reader's refusal
  pub text_refused : (r : Refusal) → Says (read_text short t) (reading_of (Err r)) w → sheet_of t room ≡ refused (fault.number_of r.fault) r.place.0
  text_refused r g = law.sheet_refused t room (fault.number_of r.fault) r.place.0 (read_refused t w r g)

  -- else the sheet is that of the words read, and of these alone
  pub text_sheet : (n : ℕ) → Says (read_text short t) (reading_of (Ok n)) w → length w ≡ 3 * most_steps → sheet_words (take (3 * n) w) room ≡ sheet_of t room
  text_sheet n g e =
      let few = read_count t w n g in
      holds_sheet (steps_in w n) (take (3 * n) w) room (read_holds t w n g (omega (arith, few.1))) ∙ sym (law.sheet_read t room (steps_in w n) (read_steps t w n g))

-- ---- the contract

module _ (lent : List ℕ) (r : SheetAnswer) (after : List ℕ) where
  abbrev Answers : Shown → Type 0
  Answers sheet = (r ≡ answer_of sheet) × (after ≡ bytes_of sheet lent)

  -- its first part, and the second
  pub with_steps : (w : List ℕ) → Answers (sheet_words w (length lent)) → Answers (sheet_words w (length lent)) × ((l : List Step) → Holds l w → Answers (sheet_steps l (length lent)))
  with_steps w h = (
    h,
    λ l g.
        let e = holds_sheet l w (length lent) g in
        (h.0 ∙ ap answer_of e, h.1 ∙ ap (λ (x : Shown). bytes_of x lent) e),
  )
