-- The lines of output, as the code writes them: field by field into a longer buffer. Assumes nothing.
use mathlib.Core.Path.{◌≡◌, refl, ap, ◌∙◌}
use mathlib.Core.List.{List, [], ◌∷◌, ◌++◌, append_assoc}
use Prim.Native.Nat.{ℕ, ◌≤◌}
use native.Mathlib.Omega.{arith}
use lib.ListN.{length, length-append, length-drop, length-set, set, take, drop}
use lib.Seq.{take_at, length-take-le}
use borrow.Author.Tests.{eq-eqb}
use Rattle.hexadecimal.specs.Hex.{digits}
use Rattle.hexadecimal.proofs.Digits.{length_digits}
use Rattle.hexadecimal.proofs.Parts.{put, set_next, put_next, length_put}
use Rattle.semantics.specs.declared.RunAnswer.{RunAnswer}
use Rattle.programs.specs.Output.{refusal_line, answer_line}
use Rattle.programs.specs.Explain.{fields_line, passed_line}
use Rattle.programs.specs.Stage.{Untouched}
use Rattle.programs.proofs.Untouched.{untouched_join, untouched_set, untouched_front, untouched_put}

-- ---- the part of the buffer that the next field is written to

module _ (xs a : List ℕ) (h : 19 ≤ length xs) (p : length a ≡ 2) where
  pub second_part : (n : ℕ) → n ≤ 17 → length (take n (drop 2 (a ++ drop 2 xs))) ≡ n
  second_part n k = length-take-le n (drop 2 (a ++ drop 2 xs)) (simp (length-drop, length-append) (omega arith))

  pub third_part : (b : List ℕ) → length b ≡ 2 → length (take 2 (drop 4 (put 2 2 (a ++ drop 2 xs) b))) ≡ 2
  third_part b q =
      let n1 : length (a ++ drop 2 xs) ≡ length xs = length-append a (drop 2 xs) ∙ simp length-drop (omega arith) in
      let n2 : length (put 2 2 (a ++ drop 2 xs) b) ≡ length xs = length_put (a ++ drop 2 xs) b 2 2 (omega arith) q ∙ n1 in
      length-take-le 2 (drop 4 (put 2 2 (a ++ drop 2 xs) b)) (simp length-drop (omega arith))

-- ---- a line of three fields

module _ (xs a b d : List ℕ) (h : 19 ≤ length xs) (p : length a ≡ 2) (q : length b ≡ 2) (r : length d ≡ 2) where
  fields_length : length (put 4 2 (put 2 2 (a ++ drop 2 xs) b) d) ≡ length xs
  fields_length =
      let n1 : length (a ++ drop 2 xs) ≡ length xs = length-append a (drop 2 xs) ∙ simp length-drop (omega arith) in
      let n2 : length (put 2 2 (a ++ drop 2 xs) b) ≡ length xs = length_put (a ++ drop 2 xs) b 2 2 (omega arith) q ∙ n1 in
      length_put (put 2 2 (a ++ drop 2 xs) b) d 4 2 (omega arith) r ∙ n2

  pub fields_same : length (set (put 4 2 (put 2 2 (a ++ drop 2 xs) b) d) 6 10) ≡ length xs
  fields_same = simp length-set fields_length

  pub fields_rest : Untouched 7 xs (set (put 4 2 (put 2 2 (a ++ drop 2 xs) b) d) 6 10)
  fields_rest =
      let l1 = a ++ drop 2 xs in
      let l2 = put 2 2 l1 b in
      let l3 = put 4 2 l2 d in
      let n1 : length l1 ≡ length xs = length-append a (drop 2 xs) ∙ simp length-drop (omega arith) in
      let n2 : length l2 ≡ length xs = length_put l1 b 2 2 (omega arith) q ∙ n1 in
      let u2 : Untouched 4 xs l2 = untouched_join xs l1 l2 2 4 4 (omega arith) (omega arith) (untouched_front xs a 2 p) (untouched_put l1 b 2 2 (omega arith) q) in
      let u3 : Untouched 6 xs l3 = untouched_join xs l2 l3 4 6 6 (omega arith) (omega arith) u2 (untouched_put l2 d 4 2 (omega arith) r) in
      untouched_join xs l3 (set l3 6 10) 6 7 7 (omega arith) (omega arith) u3 (untouched_set l3 6 10 7 (omega arith))

  fields_are : take 7 (set (put 4 2 (put 2 2 (a ++ drop 2 xs) b) d) 6 10) ≡ a ++ (b ++ (d ++ (10 ∷ [])))
  fields_are =
      let l1 = a ++ drop 2 xs in
      let l2 = put 2 2 l1 b in
      let l3 = put 4 2 l2 d in
      let n1 : length l1 ≡ length xs = length-append a (drop 2 xs) ∙ simp length-drop (omega arith) in
      let n2 : length l2 ≡ length xs = length_put l1 b 2 2 (omega arith) q ∙ n1 in
      let n3 : length l3 ≡ length xs = fields_length in
      let t1 : take 2 l1 ≡ a = take_at a (drop 2 xs) 2 p in
      let t2 : take 4 l2 ≡ a ++ b = put_next l1 a b 2 2 (omega arith) q t1 in
      let t3 : take 6 l3 ≡ (a ++ b) ++ d = put_next l2 (a ++ b) d 4 2 (omega arith) r t2 in
      set_next l3 ((a ++ b) ++ d) 6 10 (omega arith) t3 ∙ simp append_assoc

pub fields_written : (x y z : ℕ) (xs a b d : List ℕ) → 19 ≤ length xs → a ≡ digits 2 x → b ≡ digits 2 y → d ≡ digits 2 z
    → take 7 (set (put 4 2 (put 2 2 (a ++ drop 2 xs) b) d) 6 10) ≡ fields_line x y z
unfolding fields_line
fields_written x y z xs a b d h p q r =
    fields_are xs a b d h (ap length p ∙ length_digits 2 x) (ap length q ∙ length_digits 2 y) (ap length r ∙ length_digits 2 z) ∙ rw (p, q, r)

-- a refusal's
pub refusal_is : (number place : ℕ) → fields_line 0xff number place ≡ refusal_line number place
unfolding fields_line refusal_line
refusal_is number place = refl

-- ---- 00

module _ (xs a : List ℕ) (h : 19 ≤ length xs) (p : length a ≡ 2) where
  pub passed_same : length (set (a ++ drop 2 xs) 2 10) ≡ length xs
  passed_same = simp length-set (length-append a (drop 2 xs) ∙ simp length-drop (omega arith))

  pub passed_rest : Untouched 3 xs (set (a ++ drop 2 xs) 2 10)
  passed_rest = untouched_join xs (a ++ drop 2 xs) (set (a ++ drop 2 xs) 2 10) 2 3 3 (omega arith) (omega arith) (untouched_front xs a 2 p) (untouched_set (a ++ drop 2 xs) 2 10 3 (omega arith))

  pub passed_written : a ≡ digits 2 0 → take 3 (set (a ++ drop 2 xs) 2 10) ≡ passed_line
  unfolding passed_line
  passed_written e =
      let n : length (a ++ drop 2 xs) ≡ length xs = length-append a (drop 2 xs) ∙ simp length-drop (omega arith) in
      set_next (a ++ drop 2 xs) a 2 10 (omega arith) (take_at a (drop 2 xs) 2 p) ∙ ap (λ (x : List ℕ). x ++ (10 ∷ [])) e

-- ---- the answer to a frame

module _ (xs a b : List ℕ) (h : 19 ≤ length xs) (p : length a ≡ 2) (q : length b ≡ 16) where
  answer_length : length (put 2 16 (a ++ drop 2 xs) b) ≡ length xs
  answer_length =
      let n1 : length (a ++ drop 2 xs) ≡ length xs = length-append a (drop 2 xs) ∙ simp length-drop (omega arith) in
      length_put (a ++ drop 2 xs) b 2 16 (omega arith) q ∙ n1

  pub answer_same : length (set (put 2 16 (a ++ drop 2 xs) b) 18 10) ≡ length xs
  answer_same = simp length-set answer_length

  pub answer_rest : Untouched 19 xs (set (put 2 16 (a ++ drop 2 xs) b) 18 10)
  answer_rest =
      let l1 = a ++ drop 2 xs in
      let l2 = put 2 16 l1 b in
      let n1 : length l1 ≡ length xs = length-append a (drop 2 xs) ∙ simp length-drop (omega arith) in
      let u2 : Untouched 18 xs l2 = untouched_join xs l1 l2 2 18 18 (omega arith) (omega arith) (untouched_front xs a 2 p) (untouched_put l1 b 2 16 (omega arith) q) in
      untouched_join xs l2 (set l2 18 10) 18 19 19 (omega arith) (omega arith) u2 (untouched_set l2 18 10 19 (omega arith))

  answer_fields : take 19 (set (put 2 16 (a ++ drop 2 xs) b) 18 10) ≡ a ++ (b ++ (10 ∷ []))
  answer_fields =
      let l1 = a ++ drop 2 xs in
      let l2 = put 2 16 l1 b in
      let n1 : length l1 ≡ length xs = length-append a (drop 2 xs) ∙ simp length-drop (omega arith) in
      let n2 : length l2 ≡ length xs = answer_length in
      let t2 : take 18 l2 ≡ a ++ b = put_next l1 a b 2 16 (omega arith) q (take_at a (drop 2 xs) 2 p) in
      set_next l2 (a ++ b) 18 10 (omega arith) t2 ∙ simp append_assoc

pub answer_written : (r : RunAnswer) (xs a b : List ℕ) → 19 ≤ length xs → r.refusal ≡ 0
    → a ≡ digits 2 r.kind → b ≡ digits 16 r.word
    → take 19 (set (put 2 16 (a ++ drop 2 xs) b) 18 10) ≡ answer_line r
unfolding answer_line
answer_written r xs a b h z p q =
    answer_fields xs a b h (ap length p ∙ length_digits 2 r.kind) (ap length q ∙ length_digits 16 r.word)
    ∙ rw (p, q, eq-eqb r.refusal 0 z)
