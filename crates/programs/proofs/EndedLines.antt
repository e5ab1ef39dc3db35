-- Lines that have their line feed, in pieces: a piece without a line feed makes the line longer, a line feed ends it, and at the end of the bytes
-- no line is left. The frame lines of the run program begin with them. Assumes nothing.
use mathlib.Core.Path.{◌≡◌, refl, ap, ◌∙◌, sym}
use mathlib.Core.Bool.{Bool, true, false}
use mathlib.Core.List.{List, [], ◌∷◌, ◌++◌, append_assoc, append-nil}
use Prim.Native.Nat.{ℕ, zero, suc, ◌+◌, ◌-◌, ◌<◌}
use native.Mathlib.Omega.{arith}
use lib.Dec.{eqb}
use lib.ListN.{length, get_or, drop, take-append-drop}
use lib.Seq.{drop-drop, drop-cons, drop-length}
use borrow.Author.Tests.{eqb-true, eq-eqb, ne_eqb}
use Rattle.recipe.proofs.Counts.{never}
use Rattle.programs.specs.Output.{lines_after}
use Rattle.programs.specs.Stage.{NoFeed, LineEnd, between}
use Rattle.programs.specs.Batch.{ended_after}
use Rattle.programs.proofs.FrameLines.{plain_piece}

-- ---- in pieces

-- a piece without a line feed
pub ended_plain : (s line rest : List ℕ) → NoFeed s → ended_after line (s ++ rest) ≡ ended_after (line ++ s) rest
unfolding ended_after
ended_plain [] line rest h = rw append-nil
ended_plain (b ∷ s) line rest h =
    rw (ended_after, ne_eqb b 10 (λ (e : b ≡ 10). h 0 (omega arith) e))
    (ended_plain s (line ++ (b ∷ [])) rest (λ k q e. h (suc k) (omega arith) e) ∙ rw append_assoc)

ended_feed : (line rest : List ℕ) → ended_after line (10 ∷ rest) ≡ line ∷ ended_after [] rest
unfolding ended_after
ended_feed line rest = refl

ended_nothing : (line : List ℕ) → ended_after line [] ≡ []
unfolding ended_after
ended_nothing line = refl

-- ---- up to the end of a line

module _ (s : List ℕ) (from e : ℕ) (d : LineEnd s from e) where
  parted : drop from s ≡ between from e s ++ drop e s
  parted =
      let a = d.after in
      let f : from + (e - from) ≡ e = omega arith in
      sym (take-append-drop (e - from) (drop from s)) ∙ ap (λ (x : List ℕ). between from e s ++ x) (drop-drop (e - from) from s ∙ ap (λ (k : ℕ). drop k s) f)

  piece : ended_after [] (drop from s) ≡ ended_after (between from e s) (drop e s)
  piece = ap (ended_after []) parted ∙ ended_plain (between from e s) [] (drop e s) (plain_piece s from e d)

  -- at a line feed: a line, and those after it
  pub ended_line : e < length s → ended_after [] (drop from s) ≡ between from e s ∷ ended_after [] (drop (e + 1) s)
  ended_line h =
      let f : suc e ≡ e + 1 = omega arith in
      let n : drop e s ≡ 10 ∷ drop (e + 1) s =
      drop-cons s e 0 h ∙ ap (λ (b : ℕ). b ∷ drop (suc e) s) (d.at h) ∙ ap (λ (k : ℕ). 10 ∷ drop k s) f in
      piece ∙ ap (ended_after (between from e s)) n ∙ ended_feed (between from e s) (drop (e + 1) s)

  -- at the end of the bytes: none
  pub ended_rest : e ≡ length s → ended_after [] (drop from s) ≡ []
  ended_rest h =
      piece ∙ ap (λ (k : ℕ). ended_after (between from e s) (drop k s)) h ∙ ap (ended_after (between from e s)) (drop-length s) ∙ ended_nothing (between from e s)

-- ---- byte by byte

module _ (line s : List ℕ) (b : ℕ) where
  at_feed : eqb b 10 ≡ true → ended_after line (b ∷ s) ≡ line ∷ ended_after [] s
  unfolding ended_after
  at_feed q = rw (ended_after, q)

  at_other : eqb b 10 ≡ false → ended_after line (b ∷ s) ≡ ended_after (line ++ (b ∷ [])) s
  unfolding ended_after
  at_other q = rw (ended_after, q)

  frames_at_feed : eqb b 10 ≡ true → lines_after line (b ∷ s) ≡ line ∷ lines_after [] s
  unfolding lines_after
  frames_at_feed q = rw (lines_after, q)

  frames_at_other : eqb b 10 ≡ false → lines_after line (b ∷ s) ≡ lines_after (line ++ (b ∷ [])) s
  unfolding lines_after
  frames_at_other q = rw (lines_after, q)

-- ---- the first of them

-- where the first line ends in the bytes, and what follows: the run program takes this line for a frame too
pub record First (line s x : List ℕ) (xs : List (List ℕ)) : Type 0 where
  pub part : List ℕ
  pub rest : List ℕ
  pub is : s ≡ part ++ (10 ∷ rest)
  pub whole : x ≡ line ++ part
  pub others : ended_after [] rest ≡ xs
  pub frames : lines_after line s ≡ x ∷ lines_after [] rest

pub first_ended : (s line x : List ℕ) (xs : List (List ℕ)) → ended_after line s ≡ x ∷ xs → First line s x xs
first_ended [] line x xs e = let z : [] ≡ x ∷ xs = sym (ended_nothing line) ∙ e in never (cc)
first_ended (b ∷ s) line x xs e = by_byte (eqb b 10) refl (λ q. first_ended s (line ++ (b ∷ [])) x xs (sym (at_other line s b q) ∙ e))
  where
    by_byte : (t : Bool) → eqb b 10 ≡ t → (eqb b 10 ≡ false → First (line ++ (b ∷ [])) s x xs) → First line (b ∷ s) x xs
    by_byte true q more =
        let z : line ∷ ended_after [] s ≡ x ∷ xs = sym (at_feed line s b q) ∙ e in
        let f : line ≡ x = cc in
        record {
          part = [];
          rest = s;
          is = ap (λ (c : ℕ). c ∷ s) (eqb-true b 10 q);
          whole = sym f ∙ sym (append-nil line);
          others = cc;
          frames = frames_at_feed line s b q ∙ ap (λ (y : List ℕ). y ∷ lines_after [] s) f;
        }
    by_byte false q more =
        let g = more q in
        record {
          part = b ∷ g.part;
          rest = g.rest;
          is = ap (λ (y : List ℕ). b ∷ y) g.is;
          whole = g.whole ∙ append_assoc line (b ∷ []) g.part;
          others = g.others;
          frames = frames_at_other line s b q ∙ g.frames;
        }

-- where a byte is a line feed there is one
pub record Some (line s : List ℕ) : Type 0 where
  pub one : List ℕ
  pub others : List (List ℕ)
  pub is : ended_after line s ≡ one ∷ others

pub some_ended : (s line : List ℕ) (k : ℕ) → k < length s → get_or s k 0 ≡ 10 → Some line s
some_ended [] line k h e = absurd (omega arith)
some_ended (b ∷ s) line zero h e = record { one = line; others = ended_after [] s; is = at_feed line s b (eq-eqb b 10 e) }
some_ended (b ∷ s) line (suc k) h e = by_byte (eqb b 10) refl (some_ended s (line ++ (b ∷ [])) k (omega arith) e)
  where
    by_byte : (t : Bool) → eqb b 10 ≡ t → Some (line ++ (b ∷ [])) s → Some line (b ∷ s)
    by_byte true q g = record { one = line; others = ended_after [] s; is = at_feed line s b q }
    by_byte false q g = record { one = g.one; others = g.others; is = at_other line s b q ∙ g.is }
