-- Any chunking gives the same output. The idea: `Fed` says what a piece comes to for every continuation of the input, so pieces join; a chunk
-- is its pieces, the input its chunks. Assumes nothing.
use mathlib.Core.Path.{◌≡◌, refl, ap, ◌∙◌, sym}
use mathlib.Core.List.{List, [], ◌∷◌, ◌++◌, append_assoc, append-nil}
use Prim.Native.Nat.{ℕ, ◌≤◌}
use native.Mathlib.Omega.{arith}
use lib.ListN.{length, take}
use Rattle.programs.specs.declared.Stage.{Stage}
use Rattle.programs.specs.declared.Stage.TheVariants.{Done}
use Rattle.programs.specs.Output.{run_output}
use Rattle.programs.specs.Stage.{Reading, heading, running, stopped, owed, Stands, Fed, between}
use Rattle.programs.specs.Course.{Starts, Feeds, Finishes, Course, starts, reads, feeds, joined, Followed}
use Rattle.programs.proofs.Pieces.{between_none, between_join, between_whole}

-- ---- pieces join

fed_join : (p x : List ℕ) (next : Stage) (after v q y : List ℕ) (last : Stage) (end u : List ℕ) (g : Reading)
    → Fed g p x next after v → Feeds next after v q y last end u → Fed g (p ++ q) (x ++ y) last end u
fed_join p x next after v q y last end u g a k =
    let b = k a.next a.stands in
    record {
      next = b.next;
      stands = b.stands;
      owes = λ rest.
          ap (owed g) (append_assoc p q rest)
          ∙ a.owes (q ++ rest)
          ∙ ap (λ (z : List ℕ). x ++ z) (b.owes rest)
          ∙ sym (append_assoc x y (owed b.next rest));
    }

joined_more : (cs : List (List ℕ)) (c : List ℕ) → joined (cs ++ (c ∷ [])) ≡ joined cs ++ c
unfolding joined
joined_more [] c = append-nil c
joined_more (b ∷ cs) c = ap (λ (z : List ℕ). b ++ z) (joined_more cs c) ∙ sym (append_assoc b (joined cs) c)

-- ---- a course

-- what a course has put out, and what it owes for whatever follows
pub course_fed : (chunks : List (List ℕ)) (chunk : List ℕ) (at : ℕ) (out : List ℕ) (s : Stage) (buffer w : List ℕ) → Course chunks chunk at out s buffer w
    → Fed (heading []) (joined chunks ++ between 0 at chunk) out s buffer w
unfolding joined
course_fed chunks chunk at out s buffer w (starts _ _ _ f) =
    rw (between_none [] 0) (record { next = heading []; stands = f buffer w; owes = λ _. refl })
course_fed chunks chunk at out s buffer w (reads cs c _ _ _ _ _ k) =
    rw (between_none chunk 0, append-nil, joined_more cs c, ← between_whole c) (course_fed cs c (length c) out s buffer w k)
course_fed chunks chunk at out s buffer w (feeds _ _ from x t b v _ o p _ _ _ k h m f) =
    rw (between_join chunk 0 from at (omega arith) h, ← append_assoc)
    (fed_join (joined chunks ++ between 0 from chunk) x t b v (between from at chunk) (take p o) s buffer w (heading []) (course_fed chunks chunk from x t b v k) f)

-- ---- the whole

stopped_owes : (s : Stage) (buffer w : List ℕ) (g : Reading) → Stands g s buffer w → s ≡ Done → (rest : List ℕ) → owed g rest ≡ []
unfolding owed
stopped_owes s buffer w (heading t) h e rest = absurd (rw e at h)
stopped_owes s buffer w (running l line) h e rest = absurd (rw e at h)
stopped_owes s buffer w stopped h e rest = refl

module _ (chunks : List (List ℕ)) (chunk out : List ℕ) (s : Stage) (buffer w : List ℕ) (k : Course chunks chunk (length chunk) out s buffer w) where
  -- whatever follows, the output of the whole is what was handed out and what is still owed
  owes : (rest : List ℕ) → run_output ((joined chunks ++ chunk) ++ rest) ≡ out ++ owed (course_fed chunks chunk (length chunk) out s buffer w k).next rest
  unfolding owed run_output
  owes rest = ap (λ (z : List ℕ). run_output ((joined chunks ++ z) ++ rest)) (sym (between_whole chunk)) ∙ (course_fed chunks chunk (length chunk) out s buffer w k).owes rest

  -- However the input is cut into chunks, what is handed out is the output of the whole.
  pub any_chunks : (last : List ℕ) → Finishes s buffer w last → out ++ last ≡ run_output (joined chunks ++ chunk)
  any_chunks last f =
      let a = course_fed chunks chunk (length chunk) out s buffer w k in
      ap (λ (z : List ℕ). out ++ z) (sym (f a.next a.stands)) ∙ sym (owes []) ∙ ap run_output (append-nil (joined chunks ++ chunk))

  -- After a refused recipe that is so already, however the input goes on.
  pub any_rest : s ≡ Done → (rest : List ℕ) → out ≡ run_output ((joined chunks ++ chunk) ++ rest)
  any_rest e rest =
      let a = course_fed chunks chunk (length chunk) out s buffer w k in
      sym (owes rest ∙ ap (λ (z : List ℕ). out ++ z) (stopped_owes s buffer w a.next a.stands e rest) ∙ append-nil out)

-- ---- a program that follows a course

pub followed_start : (s : Stage) (buffer w : List ℕ) → Starts s → Followed [] 0 s buffer w
followed_start s buffer w e = record { chunks = []; out = []; course = starts s buffer w e }

pub followed_read : (chunk next : List ℕ) (at : ℕ) (s : Stage) (buffer w : List ℕ) → Followed chunk at s buffer w → at ≡ length chunk → Followed next 0 s buffer w
followed_read chunk next at s buffer w f e =
    record {
      chunks = f.chunks ++ (chunk ∷ []);
      out = f.out;
      course = reads f.chunks chunk f.out s buffer w next (rw e at f.course);
    }

pub followed_feed : (chunk : List ℕ) (from : ℕ) (s : Stage) (buffer w : List ℕ) (at : ℕ) (output : List ℕ) (put : ℕ) (next : Stage) (after v : List ℕ)
    → Followed chunk from s buffer w → from ≤ at → at ≤ length chunk → Feeds s buffer w (between from at chunk) (take put output) next after v
    → Followed chunk at next after v
followed_feed chunk from s buffer w at output put next after v f h m k =
    record {
      chunks = f.chunks;
      out = f.out ++ take put output;
      course = feeds f.chunks chunk from f.out s buffer w at output put next after v f.course h m k;
    }
