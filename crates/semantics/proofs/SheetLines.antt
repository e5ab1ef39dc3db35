-- The lines of a sheet: how long they are, one more after others, and how many there are where a sheet passed and there was room for the
-- longest. Assumes nothing.
use mathlib.Core.Path.{◌≡◌, refl, ap, ◌∙◌, sym}
use mathlib.Core.Bool.{Bool}
use mathlib.Core.List.{List, [], ◌∷◌, ◌++◌, append-nil, append_assoc}
use Prim.Native.Nat.{ℕ, suc, ◌+◌, ◌*◌, ◌≤◌}
use native.Mathlib.Omega.{arith}
use lib.ListN.{length, take, drop, get_or, length-append}
use lib.Seq.{take_at, drop-nil}
use Rattle.hexadecimal.proofs.Digits.{length_digits}
use Rattle.recipe.specs.Text.{most_steps}
use Rattle.semantics.specs.Range.{Range}
use Rattle.semantics.specs.Mark.{no_mark}
use Rattle.semantics.specs.Shown.{Shown, shown, refused, sheet_line, longest_sheet, sheet_of, answer_of, line_of, lines_from, bytes_of}
use Rattle.semantics.proofs.Calls.{sheet_passes_no_other}
use Rattle.semantics.proofs.SheetWorked.{sheet_worked}

-- ---- a line, and line after line

pub length_line : (k : ℕ) (m : Bool) (r : Range) → length (line_of k m r) ≡ sheet_line
length_line k m r = simp (length-append, length_digits)

module _ (ms : List Bool) where
  pub length_lines : (k : ℕ) (l : List Range) → length (lines_from k l ms) ≡ length l * sheet_line
  unfolding lines_from
  length_lines k [] = refl
  length_lines k (r ∷ l) =
      length-append (line_of k (get_or ms k no_mark) r) (lines_from (suc k) l ms) ∙ omega (arith, length_line k (get_or ms k no_mark) r, length_lines (suc k) l)

  pub lines_more : (k : ℕ) (l : List Range) (r : Range)
      → lines_from k (l ++ (r ∷ [])) ms ≡ lines_from k l ms ++ line_of (k + length l) (get_or ms (k + length l) no_mark) r
  unfolding lines_from
  lines_more k [] r = let e : k + 0 ≡ k = omega arith in rw e (append-nil (line_of k (get_or ms k no_mark) r))
  lines_more k (q ∷ l) r =
      let e : k + suc (length l) ≡ suc k + length l = omega arith in
      ap (λ (x : List ℕ). line_of k (get_or ms k no_mark) q ++ x) (lines_more (suc k) l r)
      ∙ sym (append_assoc (line_of k (get_or ms k no_mark) q) (lines_from (suc k) l ms) (line_of (suc k + length l) (get_or ms (suc k + length l) no_mark) r))
      ∙ rw e

-- ---- one line per step

few : (t : List ℕ) (r : List Range) (ms : List Bool) → sheet_of t longest_sheet ≡ shown r ms → length r ≤ most_steps
few t r ms h =
    let s = sheet_passes_no_other t longest_sheet r ms h in
    omega (arith, s.fits, (sheet_worked s.list r s.passes).count)

-- ---- the sheet

pub record Passed (x : Shown) : Type 0 where
  pub few : (answer_of x).steps ≤ most_steps
  pub lines : (lent : List ℕ) → take ((answer_of x).steps * sheet_line) (bytes_of x lent) ≡ bytes_of x []

passed_by : (x : Shown) → ((r : List Range) (ms : List Bool) → x ≡ shown r ms → length r ≤ most_steps) → Passed x
passed_by (shown r ms) h =
    record {
      few = h r ms refl;
      lines = λ lent. take_at (lines_from 0 r ms) (drop (sheet_line * length r) lent) (length r * sheet_line) (length_lines ms 0 r) ∙ sym (ap (λ (x : List ℕ). lines_from 0 r ms ++ x) (drop-nil (sheet_line * length r)) ∙ append-nil (lines_from 0 r ms));
    }
passed_by (refused number k) h = record { few = omega arith; lines = λ lent. refl }

-- what a sheet call that was lent room for the longest sheet writes where it refuses nothing: its lines, and no more than the most
pub sheet_passed : (t : List ℕ) → Passed (sheet_of t longest_sheet)
sheet_passed t = passed_by (sheet_of t longest_sheet) (few t)
