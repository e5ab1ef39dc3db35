-- A line read by its fields, a line written front to back, and one line after another. Assumes nothing.
use mathlib.Core.Path.{◌≡◌, refl, ap, ◌∙◌, sym}
use mathlib.Core.Bool.{true, false}
use mathlib.Core.List.{List, [], ◌∷◌, ◌++◌, append_assoc}
use Prim.Native.Nat.{ℕ, ◌+◌, ◌*◌}
use native.Mathlib.Omega.{arith}
use native.Mathlib.Numerals.{add-one}
use lib.Dec.{eqb}
use lib.ListN.{get_or, length, length-set, length-append, length-drop, set, take, drop}
use lib.Seq.{take_all, take_at}
use borrow.Author.Tests.{eq-eqb}
use Rattle.hexadecimal.specs.Hex.{digits}
use Rattle.hexadecimal.proofs.Digits.{length_digits}
use Rattle.hexadecimal.proofs.Parts.{put, set_next, put_next, length_put}
use Rattle.std.specs.Prelude.{Option}
use Rattle.std.specs.Prelude.{None}
use Rattle.vectors.specs.declared.answer.Answer.{Answer}
use Rattle.hexadecimal.specs.Hex.{field_of}
use Rattle.vectors.specs.Line.{separated_by, from_fields, case_of, line_of, response_of, responses}

-- ---- read

pub apart : (s : List ℕ) → get_or s 2 0 ≡ 32 → get_or s 5 0 ≡ 32 → get_or s 22 0 ≡ 32 → eqb (get_or s 39 0) 10 ≡ separated_by s
unfolding separated_by
apart s p q r = rw (eq-eqb (get_or s 2 0) 32 p, eq-eqb (get_or s 5 0) 32 q, eq-eqb (get_or s 22 0) 32 r)

pub unseparated : (s : List ℕ) → separated_by s ≡ false → None ≡ case_of s
unfolding case_of
unseparated s h = rw h

pub fields : (s : List ℕ) (function width x y : Option ℕ) → separated_by s ≡ true
    → field_of s 0 2 0 ≡ function → field_of s 3 2 0 ≡ width → field_of s 6 16 0 ≡ x → field_of s 23 16 0 ≡ y → from_fields function width x y ≡ case_of s
unfolding case_of
fields s function width x y h f w p q = rw (h, f, w, p, q)

-- ---- written

module _ (xs a b d : List ℕ) (h : length xs ≡ 37) (p : length a ≡ 2) (q : length b ≡ 16) (r : length d ≡ 16) where
  written : set (put 20 16 (set (put 3 16 (set (a ++ drop 2 xs) 2 32) b) 19 32) d) 36 10 ≡ a ++ (32 ∷ (b ++ (32 ∷ (d ++ (10 ∷ [])))))
  written =
      let l1 = a ++ drop 2 xs in
      let l2 = set l1 2 32 in
      let l3 = put 3 16 l2 b in
      let l4 = set l3 19 32 in
      let l5 = put 20 16 l4 d in
      let l6 = set l5 36 10 in
      let n1 : length l1 ≡ 37 = length-append a (drop 2 xs) ∙ simp length-drop (omega arith) in
      let n2 : length l2 ≡ 37 = length-set l1 2 32 ∙ n1 in
      let n3 : length l3 ≡ 37 = length_put l2 b 3 16 (omega arith) q ∙ n2 in
      let n4 : length l4 ≡ 37 = length-set l3 19 32 ∙ n3 in
      let n5 : length l5 ≡ 37 = length_put l4 d 20 16 (omega arith) r ∙ n4 in
      let n6 : length l6 ≡ 37 = length-set l5 36 10 ∙ n5 in
      let t2 : take 3 l2 ≡ a ++ (32 ∷ []) = set_next l1 a 2 32 (omega arith) (take_at a (drop 2 xs) 2 p) in
      let t3 : take 19 l3 ≡ (a ++ (32 ∷ [])) ++ b = put_next l2 _ b 3 16 (omega arith) q t2 in
      let t4 : take 20 l4 ≡ ((a ++ (32 ∷ [])) ++ b) ++ (32 ∷ []) = set_next l3 _ 19 32 (omega arith) t3 in
      let t5 : take 36 l5 ≡ (((a ++ (32 ∷ [])) ++ b) ++ (32 ∷ [])) ++ d = put_next l4 _ d 20 16 (omega arith) r t4 in
      let t6 : take 37 l6 ≡ ((((a ++ (32 ∷ [])) ++ b) ++ (32 ∷ [])) ++ d) ++ (10 ∷ []) = set_next l5 _ 36 10 (omega arith) t5 in
      sym (take_all 37 l6 (omega arith)) ∙ t6 ∙ simp append_assoc

pub formatted : (s : Answer) (xs a b d : List ℕ) → length xs ≡ 37 → a ≡ digits 2 s.refusal → b ≡ digits 16 s.first → d ≡ digits 16 s.second
    → set (put 20 16 (set (put 3 16 (set (a ++ drop 2 xs) 2 32) b) 19 32) d) 36 10 ≡ line_of s
unfolding line_of
formatted s xs a b d h p q r =
    written xs a b d h (ap length p ∙ length_digits 2 s.refusal) (ap length q ∙ length_digits 16 s.first) (ap length r ∙ length_digits 16 s.second)
    ∙ rw (p, q, r)

-- ---- one after another

pub none : (s : List ℕ) → [] ≡ responses s 0
unfolding responses
none s = refl

pub more : (s : List ℕ) (n : ℕ) → responses s (n + 1) ≡ responses s n ++ response_of (take 40 (drop (n * 40) s))
unfolding responses
more s n = rw add-one
