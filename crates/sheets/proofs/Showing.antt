-- The sheet's lines, one after the other, over the bytes lent. Assumes nothing.
use mathlib.Core.Path.{◌≡◌, refl, ap, sym, ◌∙◌}
use mathlib.Core.Bool.{Bool}
use mathlib.Core.List.{List, ◌++◌, map, map-append, append_assoc}
use Prim.Native.Nat.{ℕ, ◌+◌, ◌*◌, ◌≤◌, ◌<◌}
use native.Mathlib.Omega.{arith}
use native.Mathlib.Numerals.{add-one}
use lib.ListN.{length, take, drop, get_or, length-map, length-append, length-drop}
use lib.Seq.{length-take-le, take-suc, take_at, drop_at, drop-drop}
use Rattle.hexadecimal.proofs.Parts.{put}
use Rattle.ranges.specs.declared.Range.{Range}
use Rattle.semantics.specs.Mark.{no_mark}
use Rattle.semantics.specs.Shown.{shown, sheet_line, line_of, lines_from, bytes_of}
use Rattle.ranges.specs.Seen.{seen_range}
use Rattle.semantics.proofs.SheetLines.{length_lines, lines_more}

-- the first j lines over the bytes lent, of all marks ms
abbrev pub lines : List Range → List Bool → ℕ → List ℕ → List ℕ
lines ranges ms j lent = lines_from 0 (map seen_range (take j ranges)) ms ++ drop (j * sheet_line) lent

pub lines_none : (ranges : List Range) (ms : List Bool) (lent : List ℕ) → lent ≡ lines ranges ms 0 lent
unfolding lines_from
lines_none ranges ms lent = refl

module _ (ranges : List Range) (ms : List Bool) (lent : List ℕ) (j : ℕ) where
  ahead : j ≤ length ranges → length (lines_from 0 (map seen_range (take j ranges)) ms) ≡ j * sheet_line
  ahead h =
      let e : length (map seen_range (take j ranges)) ≡ j = length-map (take j ranges) seen_range ∙ length-take-le j ranges h in
      length_lines ms 0 (map seen_range (take j ranges)) ∙ rw e

  pub lines_length : j ≤ length ranges → j * sheet_line ≤ length lent → length (lines ranges ms j lent) ≡ length lent
  lines_length h m = simp (length-append, ahead h, length-drop) (omega arith)

  pub lines_next : (d : Range) (k : ℕ) (m : Bool) → k ≡ sheet_line → j < length ranges → m ≡ get_or ms j no_mark
      → put (j * sheet_line) k (lines ranges ms j lent) (line_of j m (seen_range (get_or ranges j d))) ≡ lines ranges ms (j + 1) lent
  lines_next d k m z h q =
      let e : length (map seen_range (take j ranges)) ≡ j = length-map (take j ranges) seen_range ∙ length-take-le j ranges (omega arith) in
      let n : (j + 1) * sheet_line ≡ j * sheet_line + sheet_line = omega arith in
      let o : 0 + j ≡ j = omega arith in
      rw (
        z,
        q,
        take_at (lines_from 0 (map seen_range (take j ranges)) ms) (drop (j * sheet_line) lent) (j * sheet_line) (ahead (omega arith)),
        drop_at (lines_from 0 (map seen_range (take j ranges)) ms) (drop (j * sheet_line) lent) (j * sheet_line) (ahead (omega arith)),
        n,
        add-one,
        take-suc ranges j d h,
        map-append,
        lines_more ms 0 (map seen_range (take j ranges)) (seen_range (get_or ranges j d)),
        e,
        o,
      )
      (ap (λ (x : List ℕ). lines_from 0 (map seen_range (take j ranges)) ms ++ (line_of j (get_or ms j no_mark) (seen_range (get_or ranges j d)) ++ x)) (drop-drop sheet_line (j * sheet_line) lent)
      ∙ sym (append_assoc (lines_from 0 (map seen_range (take j ranges)) ms) (line_of j (get_or ms j no_mark) (seen_range (get_or ranges j d))) (drop (j * sheet_line + sheet_line) lent)))

-- what is written is what the passed sheet says
pub all_lines : (ranges : List Range) (ms : List Bool) (n : ℕ) (lent : List ℕ) → n ≤ length ranges
    → lines ranges ms n lent ≡ bytes_of (shown (map seen_range (take n ranges)) ms) lent
all_lines ranges ms n lent h =
    let e : length (map seen_range (take n ranges)) ≡ n = length-map (take n ranges) seen_range ∙ length-take-le n ranges h in
    let m : n * sheet_line ≡ sheet_line * n = omega arith in
    rw (e, m)
