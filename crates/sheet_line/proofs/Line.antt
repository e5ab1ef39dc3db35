-- A line of a sheet, written front to back: the parts that the code puts down make the line. Assumes nothing.
use mathlib.Core.Path.{◌≡◌, ap, sym, ◌∙◌}
use mathlib.Core.Bool.{Bool, true, false}
use mathlib.Core.List.{List, [], ◌∷◌, ◌++◌, append_assoc}
use Prim.Native.Nat.{ℕ, ◌+◌, ◌*◌, ◌<◌}
use native.Mathlib.Omega.{arith}
use lib.ListN.{length, take, drop, set, length-append, length-set, length-drop}
use lib.Seq.{take_at, take_all}
use Rattle.hexadecimal.specs.Hex.{digits}
use Rattle.hexadecimal.proofs.Digits.{length_digits}
use Rattle.hexadecimal.proofs.Laws.{digits-joined}
use Rattle.hexadecimal.proofs.Parts.{put, set_next, put_next, length_put}
use Rattle.recipe.specs.Table.{kind_number}
use Rattle.semantics.specs.Range.{Range, doubles, wholes, kind_of, low_word, high_word}
use Rattle.semantics.specs.Shown.{sheet_line, mark_number, line_of}

module _ (xs a d e : List ℕ) (h : length xs ≡ sheet_line) (p : length a ≡ 6) (r : length d ≡ 16) (s : length e ≡ 16) where
  parts_written : set (put 22 16 (put 6 16 (a ++ drop 6 xs) d) e) 38 10 ≡ a ++ (d ++ (e ++ (10 ∷ [])))
  parts_written =
      let l1 = a ++ drop 6 xs in
      let l2 = put 6 16 l1 d in
      let l3 = put 22 16 l2 e in
      let l4 = set l3 38 10 in
      let n1 : length l1 ≡ sheet_line = length-append a (drop 6 xs) ∙ simp length-drop (omega arith) in
      let n2 : length l2 ≡ sheet_line = length_put l1 d 6 16 (omega arith) r ∙ n1 in
      let n3 : length l3 ≡ sheet_line = length_put l2 e 22 16 (omega arith) s ∙ n2 in
      let n4 : length l4 ≡ sheet_line = length-set l3 38 10 ∙ n3 in
      let t2 : take 22 l2 ≡ a ++ d = put_next l1 a d 6 16 (omega arith) r (take_at a (drop 6 xs) 6 p) in
      let t3 : take 38 l3 ≡ (a ++ d) ++ e = put_next l2 _ e 22 16 (omega arith) s t2 in
      let t4 : take sheet_line l4 ≡ ((a ++ d) ++ e) ++ (10 ∷ []) = set_next l3 _ 38 10 (omega arith) t3 in
      sym (take_all sheet_line l4 (omega arith)) ∙ t4 ∙ simp append_assoc

-- step, kind and mark, two digits each, are those of one number
head-digits : (k c m : ℕ) → c < 256 → m < 256 → digits 6 (k * 0x1_0000 + c * 0x100 + m) ≡ digits 2 k ++ (digits 2 c ++ digits 2 m)
head-digits k c m h i =
    let e : k * 0x1_0000 + c * 0x100 + m ≡ k * 0x1_0000 + (c * 0x100 + m) = omega arith in
    ap (digits 6) e ∙ digits-joined 2 4 k (c * 0x100 + m) (omega arith) ∙ ap (λ (x : List ℕ). digits 2 k ++ x) (digits-joined 2 2 c m i)

kind_small : (r : Range) → kind_number (kind_of r) < 256
kind_small (doubles l h) = omega arith
kind_small (wholes l h) = omega arith

mark_small : (m : Bool) → mark_number m < 256
mark_small true = omega arith
mark_small false = omega arith

pub line_written : (k : ℕ) (m : Bool) (r : Range) (xs a d e : List ℕ) → length xs ≡ sheet_line
    → a ≡ digits 6 (k * 0x1_0000 + kind_number (kind_of r) * 0x100 + mark_number m) → d ≡ digits 16 (low_word r) → e ≡ digits 16 (high_word r)
    → set (put 22 16 (put 6 16 (a ++ drop 6 xs) d) e) 38 10 ≡ line_of k m r
line_written k m r xs a d e h p i j =
    let c : ℕ = kind_number (kind_of r) in
    let n : ℕ = mark_number m in
    parts_written xs a d e h (ap length p ∙ length_digits 6 (k * 0x1_0000 + c * 0x100 + n)) (ap length i ∙ length_digits 16 (low_word r)) (ap length j ∙ length_digits 16 (high_word r))
    ∙ rw (p ∙ head-digits k c n (kind_small r) (mark_small m), i, j) (simp append_assoc)
