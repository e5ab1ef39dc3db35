-- Line after line, as `answer_lines` goes. The idea: the lines up to a place are answered in the first bytes of the output, and one line more
-- is a piece more that is paid for, and one fewer that is due. Assumes nothing.
use mathlib.Core.Path.{◌≡◌, refl, ap, ◌∙◌, sym}
use mathlib.Core.Bool.{true, false}
use mathlib.Core.List.{List, [], ◌∷◌, ◌++◌}
use mathlib.Core.Logic.{⊎_elim}
use Prim.Native.Nat.{ℕ, ◌+◌, ◌-◌, ◌≤◌, ◌<◌}
use native.Mathlib.Omega.{arith}
use lib.ListN.{length, get_or, take, drop, length-drop}
use lib.Seq.{take-append-add, take-append-le, take_all, length-take-le, get_or-drop}
use lib.Dec.{eqb}
use borrow.Author.Tests.{lt-ltb, eq-eqb, eqb-true}
use Rattle.std.specs.Prelude.{Some, None}
use Rattle.std.specs.List.{position, position_or_len}
use Rattle.std.proofs.lemmas.List.Quantifiers.{position-Some}
use Rattle.std.proofs.lemmas.List.Sums.{fails_before_first}
use Rattle.recipe.specs.declared.Step.{Step}
use Rattle.recipe.specs.Answer.{Holds}
use Rattle.hexadecimal.proofs.Parts.{put as part-put}
use Rattle.recipe.proofs.Counts.{never}
use Rattle.semantics.proofs.Lists.{lt_or_ge}
use Rattle.programs.specs.Output.{frame_line}
use Rattle.programs.specs.Stage.{LineEnd, Paid, Answered, between, Untouched}
use Rattle.programs.proofs.Pieces.{between_none, between_join}
use Rattle.programs.proofs.Untouched.{untouched_join, untouched_part}
use Rattle.programs.proofs.FrameLines.{paid_none, paid_join, paid_line, plain_piece, ended_piece}
use Rattle.programs.proofs.EndedLines.{ended_rest}
use Rattle.programs.proofs.Batches.{Due, due_none, due_more, due_ended, due_full}

-- ---- where a line ends

position-None : (s : List ℕ) → position (λ b. eqb b 10) s ≡ None → (k : ℕ) → k < length s → eqb (get_or s k 0) 10 ≡ false
position-None s e k h =
    ⊎_elim
    (λ (p : position_or_len (λ b. eqb b 10) s < length s).
    let z : Some (position_or_len (λ b. eqb b 10) s) ≡ None = rw (position, lt-ltb (position_or_len (λ b. eqb b 10) s) (length s) p) at e in never (cc))
    (λ (p : length s ≤ position_or_len (λ b. eqb b 10) s). fails_before_first (λ b. eqb b 10) s k 0 (omega arith))
    (lt_or_ge (position_or_len (λ b. eqb b 10) s) (length s))

-- the bytes from a place on
pub left : (s : List ℕ) (i : ℕ) → take (length s - i) (drop i s) ≡ drop i s
left s i = take_all (length s - i) (drop i s) (simp length-drop (omega arith))

at_place : (s : List ℕ) (i k : ℕ) → i ≤ k → get_or (drop i s) (k - i) 0 ≡ get_or s k 0
at_place s i k m = let e : i + (k - i) ≡ k = omega arith in get_or-drop i s (k - i) 0 ∙ ap (λ (j : ℕ). get_or s j 0) e

no_feed : (s : List ℕ) (i k : ℕ) → i ≤ k → eqb (get_or (drop i s) (k - i) 0) 10 ≡ false → get_or s k 0 ≡ 10 → ⊥
no_feed s i k m f q = let z : true ≡ false = sym (eq-eqb (get_or s k 0) 10 q) ∙ ap (λ (x : ℕ). eqb x 10) (sym (at_place s i k m)) ∙ f in never (cc)

module _ (s t : List ℕ) (i : ℕ) (h : i ≤ length s) (r : t ≡ drop i s) where
  size : length t ≡ length s - i
  size = ap length r ∙ length-drop i s

  pub line_found : (n : ℕ) → position (λ b. eqb b 10) t ≡ Some n → LineEnd s i (i + n) × (i + n < length s)
  line_found n e =
      let p = position-Some (λ b. eqb b 10) t n 0 e in
      let m = size in (
        record {
          after = omega arith;
          within = omega (arith, p.0);
          before = λ k a b. no_feed s i k a (ap (λ (x : List ℕ). eqb (get_or x (k - i) 0) 10) (sym r) ∙ p.2 (k - i) (omega arith));
          at = λ _. sym (ap (λ (x : List ℕ). get_or x n 0) r ∙ get_or-drop i s n 0) ∙ eqb-true (get_or t n 0) 10 p.1;
        },
        omega (arith, p.0),
      )

  pub line_missing : position (λ b. eqb b 10) t ≡ None → LineEnd s i (length s)
  line_missing e =
      let m = size in
      record {
        after = h;
        within = omega arith;
        before = λ k a b. no_feed s i k a (ap (λ (x : List ℕ). eqb (get_or x (k - i) 0) 10) (sym r) ∙ position-None t e (k - i) (omega arith));
        at = λ j. absurd (omega arith);
      }

pub first_found : (s : List ℕ) (n : ℕ) → position (λ b. eqb b 10) s ≡ Some n → LineEnd s 0 n × (n < length s)
first_found s n e = let z : 0 + n ≡ n = omega arith in rw z at (line_found s s 0 (omega arith) refl n e)

-- ---- line after line

-- the rest of the output, which the next answer is written to
pub part_size : (out : List ℕ) (put : ℕ) → length (take (length out - put) (drop put out)) ≡ length out - put
part_size out put = length-take-le (length out - put) (drop put out) (simp length-drop (omega arith))

-- the first bytes of a part that was written, after what stands in front of it
put_some : (l ys z : List ℕ) (n j : ℕ) → n ≤ length l → j ≤ length ys → take (n + j) (take n l ++ (ys ++ z)) ≡ take n l ++ take j ys
put_some l ys z n j h k =
    let e : length (take n l) ≡ n = length-take-le n l h in
    ap (λ (m : ℕ). take (m + j) (take n l ++ (ys ++ z))) (sym e)
    ∙ take-append-add (take n l) (ys ++ z) j
    ∙ ap (λ (x : List ℕ). take n l ++ x) (take-append-le j ys z k)

-- the lines from a place up to i, answered in the first bytes of the output; some, once i has moved; and the others that there is room for are
-- still due
pub record Going (w s : List ℕ) (from : ℕ) (out₀ out : List ℕ) (i put : ℕ) : Type 0 where
  pub out_length : length out ≡ length out₀
  pub after : from ≤ i
  pub within : i ≤ length s
  pub room : put ≤ length out₀
  pub idle : i ≤ from → put ≡ 0
  pub paid : (l : List Step) → Holds l w → Paid l [] (between from i s) (take put out) []
  pub due : (l : List Step) → Holds l w → Due l s from (length out₀) i put (take put out)
  pub rest : Untouched put out₀ out

pub going_none : (w s : List ℕ) (from : ℕ) (out : List ℕ) → from ≤ length s → Going w s from out out from 0
going_none w s from out h =
    record {
      out_length = refl;
      after = omega arith;
      within = h;
      room = omega arith;
      idle = λ _. refl;
      paid = λ l g. rw (between_none s from) (paid_none l []);
      due = λ l g. due_none l s from (length out);
      rest = refl;
    }

module _ (w s : List ℕ) (from : ℕ) (out₀ out : List ℕ) (i put : ℕ) (g : Going w s from out₀ out i put) where
  -- a turn: the line up to e, of whose answer p bytes are put into the rest of the output
  pub going_more : (e p : ℕ) (ys : List ℕ) → LineEnd s i e → e < length s → p ≤ 19 → 19 ≤ length out - put
      → length ys ≡ length out - put → Untouched p (take (length out - put) (drop put out)) ys → length (part-put put (length out - put) out ys) ≡ length out
      → ((l : List Step) → Holds l w → take p ys ≡ frame_line l (between i e s))
      → Going w s from out₀ (part-put put (length out - put) out ys) (e + 1) (put + p)
  going_more e p ys d h k m x u y v =
      let q : put ≤ length out = omega (arith, g.room, g.out_length) in
      record {
        out_length = y ∙ g.out_length;
        after = omega (arith, g.after, d.after);
        within = omega arith;
        room = omega (arith, g.room, g.out_length);
        idle = λ o. absurd (omega (arith, g.after, d.after));
        paid = λ l f.
            rw (between_join s from i (e + 1) g.after (omega (arith, d.after)), put_some out ys (drop (length out - put) (drop put out)) put p q (omega arith), ended_piece s i e d h)
            (paid_join l [] (between from i s) (take put out) [] (between i e s ++ (10 ∷ [])) (take p ys) [] (g.paid l f) (paid_line l [] (between i e s) (take p ys) (plain_piece s i e d) (v l f)));
        due = λ l f.
            rw (put_some out ys (drop (length out - put) (drop put out)) put p q (omega arith))
            (due_more l s from (length out₀) i put (take put out) (g.due l f) e p (take p ys) d h (omega (arith, g.out_length)) (v l f) (length-take-le p ys (omega arith)));
        rest = untouched_join out₀ out (part-put put (length out - put) out ys) put (put + p) (put + p) (omega arith) (omega arith) g.rest (untouched_part out ys put (length out - put) p (omega arith) (omega arith) x u);
      }

  -- the rest has no line feed
  pub going_rest : LineEnd s i (length s) → 19 ≤ length out - put → 19 ≤ length out₀ → Answered w s from (record { at = i; put = put }) out
  going_rest d k m =
      record {
        after = g.after;
        within = g.within;
        moved = λ z. absurd (omega arith);
        rest = λ _. d;
        paid = g.paid;
        batch = λ l f. rw g.out_length (due_ended l s from (length out₀) i put (take put out) (g.due l f) m (ended_rest s i (length s) d refl));
      }

  -- the output has room for one answer, so that at least one line was taken before it is full
  pub going_full : 19 ≤ length out₀ → length out - put < 19 → Answered w s from (record { at = i; put = put }) out
  going_full h k =
      record {
        after = g.after;
        within = g.within;
        moved = λ _. ⊎_elim
            (λ (q : from < i). q)
            (λ (q : i ≤ from). let z = g.idle q in let e = g.out_length in absurd (omega arith))
            (lt_or_ge from i);
        rest = λ z. absurd (omega arith);
        paid = g.paid;
        batch = λ l f. rw g.out_length (due_full l s from (length out₀) i put (take put out) (g.due l f) h (omega (arith, g.out_length)));
      }
