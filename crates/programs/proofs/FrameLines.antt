-- Frame lines in pieces: a piece without a line feed makes the line longer, a line feed ends it. `Paid` says what a piece comes to for every
-- continuation of the input, so pieces join. Assumes nothing.
use mathlib.Core.Path.{◌≡◌, refl, ap, ◌∙◌, sym}
use mathlib.Core.List.{List, [], ◌∷◌, ◌++◌, append_assoc, append-nil}
use Prim.Native.Nat.{ℕ, zero, suc, ◌+◌, ◌-◌, ◌≤◌, ◌<◌}
use native.Mathlib.Omega.{arith}
use lib.ListN.{length, get_or, take, drop, length-drop}
use lib.Seq.{get_or-take, get_or-drop, length-take-le}
use borrow.Author.Tests.{ne_eqb}
use Rattle.std.specs.Prelude.{Option, Some, None}
use Rattle.recipe.specs.declared.Step.{Step}
use Rattle.recipe.proofs.Counts.{never}
use Rattle.recipe.specs.Answer.{Holds}
use Rattle.programs.specs.declared.Progress.{Progress}
use Rattle.programs.specs.Output.{frame_line, lines_after, answers}
use Rattle.programs.specs.Stage.{NoFeed, Kept, LineEnd, Paid, Answered, Handled, between}
use Rattle.programs.proofs.Answers.{answers_join, answers_one}
use Rattle.programs.proofs.Pieces.{between_more, between_join}

-- ---- lines

-- a piece without a line feed
pub lines_plain : (s line rest : List ℕ) → NoFeed s → lines_after line (s ++ rest) ≡ lines_after (line ++ s) rest
unfolding lines_after
lines_plain [] line rest h = rw append-nil
lines_plain (b ∷ s) line rest h =
    rw (lines_after, ne_eqb b 10 (λ (e : b ≡ 10). h 0 (omega arith) e))
    (lines_plain s (line ++ (b ∷ [])) rest (λ k q e. h (suc k) (omega arith) e) ∙ rw append_assoc)

lines_ended : (l : List Step) (line rest : List ℕ) → answers l (lines_after line (10 ∷ rest)) ≡ frame_line l line ++ answers l (lines_after [] rest)
unfolding lines_after
lines_ended l line rest =
    answers_join l (line ∷ []) (lines_after [] rest) ∙ ap (λ (x : List ℕ). x ++ answers l (lines_after [] rest)) (answers_one l line)

-- ---- pieces paid for

pub paid_none : (l : List Step) (line : List ℕ) → Paid l line [] [] line
paid_none l line s = refl

pub paid_join : (l : List Step) (line p x m q y next : List ℕ) → Paid l line p x m → Paid l m q y next → Paid l line (p ++ q) (x ++ y) next
paid_join l line p x m q y next f g s =
    ap (λ (z : List ℕ). answers l (lines_after line z)) (append_assoc p q s)
    ∙ f (q ++ s)
    ∙ ap (λ (z : List ℕ). x ++ z) (g s)
    ∙ sym (append_assoc x y (answers l (lines_after next s)))

-- a line's bytes
pub paid_part : (l : List Step) (line p : List ℕ) → NoFeed p → Paid l line p [] (line ++ p)
paid_part l line p h s = ap (answers l) (lines_plain p line s h)

-- a line's bytes and its line feed
pub paid_line : (l : List Step) (line p x : List ℕ) → NoFeed p → x ≡ frame_line l (line ++ p) → Paid l line (p ++ (10 ∷ [])) x []
paid_line l line p x h q s =
    ap (λ (y : List ℕ). answers l (lines_after line y)) (append_assoc p (10 ∷ []) s)
    ∙ ap (answers l) (lines_plain p line (10 ∷ s) h)
    ∙ lines_ended l (line ++ p) s
    ∙ ap (λ (y : List ℕ). y ++ answers l (lines_after [] s)) (sym q)

-- ---- no line feed

pub plain_none : NoFeed []
plain_none k h e = absurd (omega arith)

pub plain_join : (line p : List ℕ) → NoFeed line → NoFeed p → NoFeed (line ++ p)
plain_join [] p f g k h e = g k h e
plain_join (b ∷ line) p f g zero h e = f 0 (omega arith) e
plain_join (b ∷ line) p f g (suc k) h e = plain_join line p (λ j q. f (suc j) (omega arith)) g k (omega arith) e

-- ---- up to the end of a line

module _ (c : List ℕ) (from e : ℕ) (d : LineEnd c from e) where
  pub plain_piece : NoFeed (between from e c)
  plain_piece k h q =
      let a = d.after in
      let w = d.within in
      let n : length (between from e c) ≡ e - from = length-take-le (e - from) (drop from c) (simp length-drop (omega arith)) in
      let g : get_or (between from e c) k 0 ≡ get_or c (from + k) 0 = get_or-take (e - from) (drop from c) k 0 (omega arith) ∙ get_or-drop from c k 0 in
      d.before (from + k) (omega arith) (omega arith) (sym g ∙ q)

  pub ended_piece : e < length c → between from (e + 1) c ≡ between from e c ++ (10 ∷ [])
  ended_piece h = between_more c from e d.after h ∙ ap (λ (b : ℕ). between from e c ++ (b ∷ [])) (d.at h)

-- ---- what is kept of a line

pub kept_nothing : (buffer : List ℕ) → Kept [] (Some 0) buffer
kept_nothing buffer = (omega arith, refl)

pub kept_none : (line buffer : List ℕ) (n : Option ℕ) → Kept line n buffer → n ≡ Some 0 → line ≡ []
kept_none line buffer (Some n) g z = let e : n ≡ 0 = cc in g.1 ∙ rw e
kept_none line buffer None g z = never (cc)

-- ---- a piece of a chunk

module _ (l : List Step) (line c : List ℕ) (from e : ℕ) (d : LineEnd c from e) where
  -- the chunk ends in the line
  pub handled_part : (n : Option ℕ) (buffer : List ℕ) → Kept (line ++ between from e c) n buffer → NoFeed line → Handled l line (between from e c) [] n buffer
  handled_part n buffer g f =
      record {
        next = line ++ between from e c;
        kept = g;
        plain = plain_join line (between from e c) f (plain_piece c from e d);
        owes = paid_part l line (between from e c) (plain_piece c from e d);
      }

  -- the line's end is in the chunk
  pub handled_line : (buffer x : List ℕ) → e < length c → x ≡ frame_line l (line ++ between from e c) → Handled l line (between from (e + 1) c) x (Some 0) buffer
  handled_line buffer x h q =
      record {
        next = [];
        kept = kept_nothing buffer;
        plain = plain_none;
        owes = rw (ended_piece c from e d h) (paid_line l line (between from e c) x (plain_piece c from e d) q);
      }

module _ (l : List Step) (w c : List ℕ) (from : ℕ) (r : Progress) (out : List ℕ) (a : Answered w c from r out) (g : Holds l w) where
  -- whole lines
  pub handled_full : (buffer : List ℕ) → Handled l [] (between from r.at c) (take r.put out) (Some 0) buffer
  handled_full buffer = record { next = []; kept = kept_nothing buffer; plain = plain_none; owes = a.paid l g }

  -- whole lines, and the start of another
  pub handled_rest : (n : Option ℕ) (buffer : List ℕ) → 19 ≤ length out - r.put → Kept ([] ++ between r.at (length c) c) n buffer
      → Handled l [] (between from (length c) c) (take r.put out) n buffer
  handled_rest n buffer z k =
      let d = a.rest z in
      let p = between r.at (length c) c in
      record {
        next = p;
        kept = k;
        plain = plain_piece c r.at (length c) d;
        owes = rw (between_join c from r.at (length c) a.after a.within)
            (rw append-nil at (paid_join l [] (between from r.at c) (take r.put out) [] p [] p (a.paid l g) (paid_part l [] p (plain_piece c r.at (length c) d))));
      }
