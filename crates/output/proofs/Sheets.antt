-- What `write_sheet` puts out, by the sheet call's answer: the call was lent room for the longest sheet, so that its answer is the one that the
-- definition takes. Assumes nothing.
use mathlib.Core.Path.{◌≡◌, ap, ◌∙◌, sym}
use mathlib.Core.List.{List, []}
use Prim.Native.Nat.{ℕ, ◌*◌, ◌≤◌}
use native.Mathlib.Omega.{arith}
use lib.ListN.{take}
use Rattle.recipe.specs.Text.{most_steps}
use Rattle.semantics.specs.declared.SheetAnswer.{SheetAnswer}
use Rattle.semantics.specs.Shown.{Shown, sheet_line, longest_sheet, sheet_of, answer_of, bytes_of}
use Rattle.semantics.proofs.SheetLines.{sheet_passed}
use Rattle.programs.specs.Output.{refusal_line}
use Rattle.programs.specs.Sheet.{on_sheet, sheet_output}
use Rattle.programs.specs.Stage.{Untouched}
use Rattle.programs.proofs.Sheets.{enough_room, rest_stays, all_stays, on_refused, on_passed}

module _ (t : List ℕ) (room : ℕ) (r : longest_sheet ≤ room) (a : SheetAnswer) (e : a ≡ answer_of (sheet_of t room)) where
  answered : a ≡ answer_of (sheet_of t longest_sheet)
  answered = e ∙ ap (λ (x : Shown). answer_of x) (enough_room t room r)

  pub sheet_refused : (a.refusal ≡ 0 → ⊥) → refusal_line a.refusal a.place ≡ sheet_output t
  unfolding sheet_output
  sheet_refused h =
      sym (on_refused a (bytes_of (sheet_of t longest_sheet) []) h) ∙ ap (λ (x : SheetAnswer). on_sheet x (bytes_of (sheet_of t longest_sheet) [])) answered

  -- the bytes after what stands in the output are as they were lent
  pub sheet_unwritten : (lent out : List ℕ) → out ≡ bytes_of (sheet_of t room) lent → (a.refusal ≡ 0 → ⊥) → out ≡ lent
  sheet_unwritten lent out w h = w ∙ all_stays (sheet_of t room) lent (λ q. h (ap (λ (x : SheetAnswer). x.refusal) e ∙ q))

  pub sheet_rest : (lent out : List ℕ) → out ≡ bytes_of (sheet_of t room) lent → Untouched (a.steps * sheet_line) lent out
  sheet_rest lent out w =
      let f : a.steps ≡ (answer_of (sheet_of t room)).steps = ap (λ (x : SheetAnswer). x.steps) e in
      rw (f, w) (rest_stays (sheet_of t room) lent)

  module _ (z : a.refusal ≡ 0) where
    pub sheet_few : a.steps ≤ most_steps
    sheet_few =
        let f = (sheet_passed t).few in
        let s : a.steps ≡ (answer_of (sheet_of t longest_sheet)).steps = ap (λ (x : SheetAnswer). x.steps) answered in
        omega arith

    pub sheet_written : (lent out : List ℕ) → out ≡ bytes_of (sheet_of t room) lent → take (a.steps * sheet_line) out ≡ sheet_output t
    unfolding sheet_output
    sheet_written lent out w =
        ap (take (a.steps * sheet_line)) (w ∙ ap (λ (x : Shown). bytes_of x lent) (enough_room t room r))
        ∙ ap (λ (x : SheetAnswer). take (x.steps * sheet_line) (bytes_of (sheet_of t longest_sheet) lent)) answered
        ∙ (sheet_passed t).lines lent
        ∙ sym (on_passed a (bytes_of (sheet_of t longest_sheet) []) z)
        ∙ ap (λ (x : SheetAnswer). on_sheet x (bytes_of (sheet_of t longest_sheet) [])) answered
