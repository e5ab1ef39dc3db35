-- The call on many frame lines. What a user would state of it: the answers are the run program's, batch after batch (`joined`); they fit, and no
-- byte is read that is not there (`fits`, `there`); a line that has its line feed is a step on (`moves`); and it stops only where no such line or
-- too little room is left (`stops`). What the code goes by is below: the lines so far, and those that are still due. Assumes nothing.
use mathlib.Core.Path.{◌≡◌, refl, ap, ◌∙◌, sym}
use mathlib.Core.List.{List, [], ◌∷◌, ◌++◌, append_assoc, append-nil}
use mathlib.Core.Logic.{◌⊎◌, inl, inr, ⊎_elim}
use Prim.Native.Nat.{ℕ, suc, ◌+◌, ◌-◌, ◌≤◌, ◌<◌}
use native.Mathlib.Omega.{arith}
use lib.ListN.{length, get_or, drop, length-append, length-drop}
use lib.Seq.{drop-append-add, length-take-le}
use borrow.Author.Tests.{lt-ltb, le-ltb, eq-eqb}
use Rattle.hexadecimal.proofs.Digits.{length_digits}
use Rattle.recipe.specs.declared.Step.{Step}
use Rattle.recipe.specs.Text.{short, steps, read_text, most_steps}
use Rattle.recipe.specs.Text as text
use Rattle.recipe.proofs.Counts.{never}
use Rattle.semantics.specs.declared.RunAnswer.{RunAnswer}
use Rattle.semantics.specs.Run.{run_steps, answer_of}
use Rattle.semantics.proofs.Lists.{lt_or_ge}
use Rattle.programs.specs.Output.{answer_line, frame_line, lines_after, answers}
use Rattle.programs.specs.Stage.{LineEnd, between}
use Rattle.programs.specs.Batch.{answered, refused, ended_after, answer_line_bytes, answered_in, line_bytes, answers_to, batch_steps, on_text, batch_of}
use Rattle.programs.proofs.Answers.{refusal-length, answer_refused, frame-long, frame-short, answers_join, answers_none}
use Rattle.programs.proofs.EndedLines.{ended_line, First, first_ended, some_ended}

-- ---- an answer's length

answer_length : (r : RunAnswer) → length (answer_line r) ≤ answer_line_bytes
unfolding answer_line
answer_length r =
    ⊎_elim
    (λ (h : 0 < r.refusal). let e : length (answer_line r) ≡ 7 = ap length (answer_refused r (λ z. omega arith)) ∙ refusal-length r.refusal r.place in omega arith)
    (λ (h : r.refusal ≤ 0). rw (eq-eqb r.refusal 0 (omega arith)) (simp (length-append, length_digits) (omega arith)))
    (lt_or_ge 0 r.refusal)

-- No answer is longer than 19 bytes.
pub frame_length : (l : List Step) (s : List ℕ) → length (frame_line l s) ≤ 19
frame_length l s =
    ⊎_elim
    (λ (h : 256 < length s). let e : length (frame_line l s) ≡ 7 = ap length (frame-long l s h) ∙ refusal-length 30 0 in omega arith)
    (λ (h : length s ≤ 256). let e = ap length (frame-short l s h) in omega (arith, answer_length (answer_of (run_steps l s most_steps))))
    (lt_or_ge 256 (length s))

-- ---- the lines that are answered

module _ (l : List Step) (room : ℕ) where
  answered_none : answered_in l room [] ≡ []
  unfolding answered_in
  answered_none = refl

  answered_full : (xs : List (List ℕ)) → room < answer_line_bytes → answered_in l room xs ≡ []
  unfolding answered_in
  answered_full [] h = refl
  answered_full (x ∷ xs) h = rw (answered_in, lt-ltb room answer_line_bytes h)

  answered_more : (x : List ℕ) (xs : List (List ℕ)) → answer_line_bytes ≤ room → answered_in l room (x ∷ xs) ≡ x ∷ answered_in l (room - length (frame_line l x)) xs
  unfolding answered_in
  answered_more x xs h = rw (answered_in, le-ltb room answer_line_bytes h)

bytes_none : line_bytes [] ≡ 0
unfolding line_bytes
bytes_none = refl

bytes_more : (x : List ℕ) (xs : List (List ℕ)) → line_bytes (x ∷ xs) ≡ suc (length x) + line_bytes xs
unfolding line_bytes
bytes_more x xs = refl

answers-first : (l : List Step) (x : List ℕ) (xs : List (List ℕ)) → answers l (x ∷ xs) ≡ frame_line l x ++ answers l xs
unfolding answers
answers-first l x xs = refl

-- ---- what is answered, and what is left

-- the lines that are answered of the bytes s, with so much room: the first frame lines of s; after them no line with its line feed is left, or no room
record Parts (l : List Step) (s : List ℕ) (room : ℕ) (lines : List (List ℕ)) : Type 0 where
  pub there : line_bytes lines ≤ length s
  pub fits : length (answers l lines) ≤ room
  pub frames : lines_after [] s ≡ lines ++ lines_after [] (drop (line_bytes lines) s)
  pub stops : (ended_after [] (drop (line_bytes lines) s) ≡ []) ⊎ (room - length (answers l lines) < answer_line_bytes)

module _ (l : List Step) where
  parts_none : (s : List ℕ) (room : ℕ) → (ended_after [] s ≡ []) ⊎ (room < answer_line_bytes) → Parts l s room []
  unfolding line_bytes answers
  parts_none s room h =
      record {
        there = omega arith;
        fits = omega arith;
        frames = refl;
        stops = ⊎_elim (λ (e : ended_after [] s ≡ []). inl e) (λ (k : room < answer_line_bytes). inr (omega arith)) h;
      }

  parts_more : (s : List ℕ) (room : ℕ) (x : List ℕ) (xs lines : List (List ℕ)) (f : First [] s x xs) → answer_line_bytes ≤ room
      → Parts l f.rest (room - length (frame_line l x)) lines → Parts l s room (x ∷ lines)
  parts_more s room x xs lines f h g =
      let n = line_bytes lines in
      let e : s ≡ x ++ (10 ∷ f.rest) = f.is ∙ ap (λ (y : List ℕ). y ++ (10 ∷ f.rest)) (sym f.whole) in
      let o : length s ≡ length x + suc (length f.rest) = ap length e ∙ length-append x (10 ∷ f.rest) in
      let c : line_bytes (x ∷ lines) ≡ length x + suc n = bytes_more x lines ∙ omega arith in
      let d : drop (line_bytes (x ∷ lines)) s ≡ drop n f.rest =
      ap (λ (k : ℕ). drop k s) c ∙ ap (drop (length x + suc n)) e ∙ drop-append-add x (10 ∷ f.rest) (suc n) in
      let a : length (answers l (x ∷ lines)) ≡ length (frame_line l x) + length (answers l lines) = ap length (answers-first l x lines) ∙ length-append (frame_line l x) (answers l lines) in
      record {
        there = omega (arith, g.there);
        fits = omega (arith, g.fits, frame_length l x);
        frames = f.frames ∙ ap (λ (y : List (List ℕ)). x ∷ y) g.frames ∙ ap (λ (y : List ℕ). x ∷ (lines ++ lines_after [] y)) (sym d);
        stops = ⊎_elim
            (λ (q : ended_after [] (drop n f.rest) ≡ []). inl (ap (ended_after []) d ∙ q))
            (λ (q : room - length (frame_line l x) - length (answers l lines) < answer_line_bytes). inr (omega arith))
            g.stops;
      }

  parts : (ls : List (List ℕ)) (s : List ℕ) (room : ℕ) → ended_after [] s ≡ ls → Parts l s room (answered_in l room ls)
  parts [] s room e = rw (answered_none l room) (parts_none s room (inl e))
  parts (x ∷ xs) s room e =
      ⊎_elim
      (λ (h : room < answer_line_bytes). rw (answered_full l room (x ∷ xs) h) (parts_none s room (inr h)))
      (λ (h : answer_line_bytes ≤ room).
      let f = first_ended s [] x xs e in
      rw (answered_more l room x xs h) (parts_more s room x xs (answered_in l (room - length (frame_line l x)) xs) f h (parts xs f.rest (room - length (frame_line l x)) f.others)))
      (lt_or_ge room answer_line_bytes)

-- ---- the call on steps

module _ (l : List Step) (s : List ℕ) (room : ℕ) where
  -- refusal 40
  pub batch_short : room < 19 → batch_steps l s room ≡ refused 40 0
  unfolding batch_steps
  batch_short h = rw (lt-ltb room answer_line_bytes h)

  pub batch_lines : 19 ≤ room → batch_steps l s room ≡ answers_to l (answered_in l room (ended_after [] s))
  unfolding batch_steps
  batch_lines h = rw (le-ltb room answer_line_bytes h)

  module _ (read : ℕ) (written : List ℕ) (e : batch_steps l s room ≡ answered read written) where
    roomy : 19 ≤ room
    roomy = ⊎_elim
        (λ (h : room < 19). let z : refused 40 0 ≡ answered read written = sym (batch_short h) ∙ e in never (cc))
        (λ (h : 19 ≤ room). h)
        (lt_or_ge room 19)

    same : answers_to l (answered_in l room (ended_after [] s)) ≡ answered read written
    same = sym (batch_lines roomy) ∙ e

    is_read : line_bytes (answered_in l room (ended_after [] s)) ≡ read
    is_read = let z = same in cc

    is_written : answers l (answered_in l room (ended_after [] s)) ≡ written
    is_written = let z = same in cc

    all : Parts l s room (answered_in l room (ended_after [] s))
    all = parts l (ended_after [] s) s room refl

    -- What is written, and then the answers to what is left, are the run program's answers to all: so batch after batch.
    pub joined : answers l (lines_after [] s) ≡ written ++ answers l (lines_after [] (drop read s))
    joined =
        ap (answers l) all.frames
        ∙ answers_join l (answered_in l room (ended_after [] s)) (lines_after [] (drop (line_bytes (answered_in l room (ended_after [] s))) s))
        ∙ ap (λ (y : List ℕ). y ++ answers l (lines_after [] (drop (line_bytes (answered_in l room (ended_after [] s))) s))) is_written
        ∙ ap (λ (k : ℕ). written ++ answers l (lines_after [] (drop k s))) is_read

    -- The answers fit ..
    pub fits : length written ≤ room
    fits = rw is_written at all.fits

    -- .. and what is read is there.
    pub there : read ≤ length s
    there = rw is_read at all.there

    -- It stops where no line with its line feed is left, or no room for the longest answer.
    pub stops : (ended_after [] (drop read s) ≡ []) ⊎ (room - length written < 19)
    stops = rw (is_read, is_written) at all.stops

    -- Where a line has its line feed, at least one is read.
    pub moves : (k : ℕ) → k < length s → get_or s k 0 ≡ 10 → 0 < read
    moves k h q =
        let g = some_ended s [] k h q in
        let c : line_bytes (answered_in l room (ended_after [] s)) ≡ suc (length g.one) + line_bytes (answered_in l (room - length (frame_line l g.one)) g.others) =
        ap (λ (y : List (List ℕ)). line_bytes (answered_in l room y)) g.is
        ∙ ap line_bytes (answered_more l room g.one g.others roomy)
        ∙ bytes_more g.one (answered_in l (room - length (frame_line l g.one)) g.others) in
        omega (arith, is_read)

-- ---- the call on a text

module _ (t s : List ℕ) (room : ℕ) where
  -- 10 to 17 before all others
  pub batch_refused : (number place : ℕ) → read_text short t ≡ text.refused number place → batch_of t s room ≡ refused number place
  unfolding batch_of on_text
  batch_refused number place e = rw e

  pub batch_read : (l : List Step) → read_text short t ≡ steps l → batch_of t s room ≡ batch_steps l s room
  unfolding batch_of on_text
  batch_read l e = rw e

-- ---- line after line, as the code goes

-- The lines from a place on are those up to i, by now answered in these bytes, of which there are so many, and those that are still due.
pub record Due (l : List Step) (s : List ℕ) (from room i put : ℕ) (written : List ℕ) : Type 0 where
  pub read : from + line_bytes (answered_in l room (ended_after [] (drop from s))) ≡ i + line_bytes (answered_in l (room - put) (ended_after [] (drop i s)))
  pub answered_by : answers l (answered_in l room (ended_after [] (drop from s))) ≡ written ++ answers l (answered_in l (room - put) (ended_after [] (drop i s)))

pub due_none : (l : List Step) (s : List ℕ) (from room : ℕ) → Due l s from room from 0 []
due_none l s from room =
    let e : room ≡ room - 0 = omega arith in
    record {
      read = ap (λ (k : ℕ). from + line_bytes (answered_in l k (ended_after [] (drop from s)))) e;
      answered_by = ap (λ (k : ℕ). answers l (answered_in l k (ended_after [] (drop from s)))) e;
    }

module _ (l : List Step) (s : List ℕ) (from room i put : ℕ) (written : List ℕ) (g : Due l s from room i put written) where
  -- a line more
  pub due_more : (e p : ℕ) (x : List ℕ) → LineEnd s i e → e < length s → 19 ≤ room - put → x ≡ frame_line l (between i e s) → length x ≡ p
      → Due l s from room (e + 1) (put + p) (written ++ x)
  due_more e p x d h k q o =
      let line = between i e s in
      let a = d.after in
      let n : length line ≡ e - i = length-take-le (e - i) (drop i s) (simp length-drop (omega arith)) in
      let r : room - put - length (frame_line l line) ≡ room - (put + p) = omega (arith, ap length q) in
      let rest = answered_in l (room - (put + p)) (ended_after [] (drop (e + 1) s)) in
      let f : answered_in l (room - put) (ended_after [] (drop i s)) ≡ line ∷ rest =
      ap (answered_in l (room - put)) (ended_line s i e d h)
      ∙ answered_more l (room - put) line (ended_after [] (drop (e + 1) s)) k
      ∙ ap (λ (m : ℕ). line ∷ answered_in l m (ended_after [] (drop (e + 1) s))) r in
      let c : line_bytes (answered_in l (room - put) (ended_after [] (drop i s))) ≡ suc (length line) + line_bytes rest = ap line_bytes f ∙ bytes_more line rest in
      record {
        read = g.read ∙ omega arith;
        answered_by = g.answered_by
            ∙ ap (λ (y : List (List ℕ)). written ++ answers l y) f
            ∙ ap (λ (y : List ℕ). written ++ y) (answers-first l line rest ∙ ap (λ (y : List ℕ). y ++ answers l rest) (sym q))
            ∙ sym (append_assoc written x (answers l rest));
      }

  -- none is due
  pub due_done : 19 ≤ room → answered_in l (room - put) (ended_after [] (drop i s)) ≡ [] → batch_steps l (drop from s) room ≡ answered (i - from) written
  due_done h z =
      let lines = answered_in l room (ended_after [] (drop from s)) in
      let c : line_bytes (answered_in l (room - put) (ended_after [] (drop i s))) ≡ 0 = ap line_bytes z ∙ bytes_none in
      let r : line_bytes lines ≡ i - from = omega (arith, g.read) in
      let w : answers l lines ≡ written =
      g.answered_by ∙ ap (λ (y : List (List ℕ)). written ++ answers l y) z ∙ ap (λ (y : List ℕ). written ++ y) (answers_none l) ∙ append-nil written in
      batch_lines l (drop from s) room h ∙ ap (λ (k : ℕ). answered k (answers l lines)) r ∙ ap (answered (i - from)) w

  -- since no line feed is left
  pub due_ended : 19 ≤ room → ended_after [] (drop i s) ≡ [] → batch_steps l (drop from s) room ≡ answered (i - from) written
  due_ended h z = due_done h (ap (answered_in l (room - put)) z ∙ answered_none l (room - put))

  -- since no room is left
  pub due_full : 19 ≤ room → room - put < 19 → batch_steps l (drop from s) room ≡ answered (i - from) written
  due_full h k = due_done h (answered_full l (room - put) (ended_after [] (drop i s)) k)
