-- What a user of the sheet program would state of its output: the lines of a sheet that passes, a refusal's one line, and how much of the
-- input decides. The bytes of the longest sheet are lent, so refusal 40 is never met. Assumes nothing.
use mathlib.Core.Path.{◌≡◌, refl, ap, ◌∙◌, sym}
use mathlib.Core.Bool.{Bool, true, false, not, ◌||◌}
use mathlib.Core.List.{List, append-nil}
use Prim.Native.Nat.{ℕ, ◌*◌, ◌%◌, ◌≤◌, ◌<◌}
use native.Mathlib.Omega.{arith}
use lib.Dec.{eqb, ltb}
use lib.ListN.{length, take, drop}
use lib.Seq.{length-take-le, drop-nil, drop_at}
use borrow.Author.Tests.{eq-eqb, ne_eqb, lt-ltb}
use Rattle.recipe.specs.Text.{Text, steps, short, line_length, longest, read_text}
use Rattle.recipe.specs.Text as text
use Rattle.recipe.proofs.Laws.{read_formed, refusal_positive}
use Rattle.semantics.specs.declared.SheetAnswer.{SheetAnswer}
use Rattle.semantics.specs.Range.{Range}
use Rattle.semantics.specs.Shown.{Shown, shown, refused, sheet_line, longest_sheet, sheet_of, answer_of, lines_from, bytes_of}
use Rattle.semantics.proofs.Calls.{sheet_refused, sheet_read, sheet_reached}
use Rattle.semantics.proofs.SheetLines.{length_lines}
use Rattle.programs.specs.Output.{refusal_line, looked_at}
use Rattle.programs.specs.Sheet.{on_sheet, sheet_output}
use Rattle.programs.specs.Stage.{Untouched}

-- ---- the output

module _ (t : List ℕ) where
  -- A recipe whose sheet is refused gives the refusal's line ..
  pub refused_sheet : (number place : ℕ) → 0 < number → sheet_of t longest_sheet ≡ refused number place → sheet_output t ≡ refusal_line number place
  unfolding sheet_output on_sheet
  refused_sheet number place h e = rw (e, ne_eqb number 0 (λ (q : number ≡ 0). omega arith))

  -- .. and so does a text that the reader refuses.
  pub refused_text : (number place : ℕ) → read_text short t ≡ text.refused number place → sheet_output t ≡ refusal_line number place
  refused_text number place e =
      refused_sheet number place (refusal_positive short t number place e) (sheet_refused t longest_sheet number place e)

  -- Any other gives the sheet's lines.
  pub passed_sheet : (l : List Range) (ms : List Bool) → sheet_of t longest_sheet ≡ shown l ms → sheet_output t ≡ lines_from 0 l ms
  unfolding sheet_output on_sheet
  passed_sheet l ms e = rw (e, drop-nil, append-nil)

-- ---- room for the longest sheet

by_text : (t : List ℕ) (room : ℕ) → longest_sheet ≤ room → (x : Text) → read_text short t ≡ x → sheet_of t room ≡ sheet_of t longest_sheet
by_text t room h (steps l) e =
    let f = (read_formed short t l e).few in
    sheet_read t room l e ∙ sheet_reached l room (omega arith) ∙ sym (sheet_read t longest_sheet l e ∙ sheet_reached l longest_sheet (omega arith))
by_text t room h (text.refused number place) e = sheet_refused t room number place e ∙ sym (sheet_refused t longest_sheet number place e)

-- More room than that changes nothing.
pub enough_room : (t : List ℕ) (room : ℕ) → longest_sheet ≤ room → sheet_of t room ≡ sheet_of t longest_sheet
enough_room t room h = by_text t room h (read_text short t) refl

-- ---- the memory that the sheet call was lent

-- the bytes after a sheet's lines stay
pub rest_stays : (x : Shown) (lent : List ℕ) → Untouched ((answer_of x).steps * sheet_line) lent (bytes_of x lent)
rest_stays (shown l ms) lent =
    let e : sheet_line * length l ≡ length l * sheet_line = omega arith in
    drop_at (lines_from 0 l ms) (drop (sheet_line * length l) lent) (length l * sheet_line) (length_lines ms 0 l) ∙ ap (λ (k : ℕ). drop k lent) e
rest_stays (refused number place) lent = refl

-- a refused sheet changes none
pub all_stays : (x : Shown) (lent : List ℕ) → ((answer_of x).refusal ≡ 0 → ⊥) → bytes_of x lent ≡ lent
all_stays (shown l ms) lent h = absurd (h refl)
all_stays (refused number place) lent h = refl

-- ---- by the sheet call's answer

pub on_refused : (a : SheetAnswer) (lines : List ℕ) → (a.refusal ≡ 0 → ⊥) → on_sheet a lines ≡ refusal_line a.refusal a.place
unfolding on_sheet
on_refused a lines h = rw (ne_eqb a.refusal 0 h)

pub on_passed : (a : SheetAnswer) (lines : List ℕ) → a.refusal ≡ 0 → on_sheet a lines ≡ lines
unfolding on_sheet
on_passed a lines h = rw (eq-eqb a.refusal 0 h)

-- ---- a long text

late : (x y z : Bool) → z ≡ true → (x || y || z) ≡ true
late true y z e = refl
late false true z e = refl
late false false z e = e

pub long_read : (s : List ℕ) → longest short < length s → read_text short s ≡ text.refused 10 0
unfolding read_text
long_read s h =
    rw (late (eqb (length s) 0) (not (eqb (length s % line_length short) 0)) (ltb (longest short) (length s)) (lt-ltb (longest short) (length s) h))

-- The first 4,993 bytes decide.
pub long_sheet : (s : List ℕ) → longest short < length s → sheet_output s ≡ sheet_output (take looked_at s)
long_sheet s h =
    let n : length (take looked_at s) ≡ looked_at = length-take-le looked_at s (omega arith) in
    refused_text s 10 0 (long_read s h) ∙ sym (refused_text (take looked_at s) 10 0 (long_read (take looked_at s) (omega arith)))
