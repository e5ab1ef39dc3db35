-- From stage to stage: the recipe's end, a refused recipe, a chunk of frames, the input's end. Each law is the one step of `owed` that the code
-- takes there, and says what reading the state then stands for. Assumes nothing.
use mathlib.Core.Path.{◌≡◌, refl, ap, ◌∙◌, sym}
use mathlib.Core.List.{List, [], ◌∷◌, ◌++◌, append-nil}
use Prim.Native.Nat.{ℕ, zero, suc, ◌*◌, ◌≤◌, ◌<◌}
use native.Mathlib.Omega.{arith}
use lib.ListN.{length, take}
use lib.Seq.{length-take-le}
use Rattle.std.specs.Prelude.{Option, Some, None}
use Rattle.recipe.specs.declared.Step.{Step}
use Rattle.recipe.specs.declared.Reading.{Reading as Read}
use Rattle.recipe.specs.Text.{short, most_steps, read_text}
use Rattle.recipe.specs.Packed.{steps_in}
use Rattle.recipe.specs.Answer.{Says, Holds}
use Rattle.recipe.proofs.Laws.{answer_steps, answer_count, answer_holds, answer_refused}
use Rattle.programs.specs.declared.Stage.TheVariants.{Recipe, Frames, Done}
use Rattle.programs.specs.declared.Stage.{Stage}
use Rattle.programs.specs.declared.End.{End}
use Rattle.programs.specs.declared.End.TheVariants.{Missing, Empty, Endless}
use Rattle.programs.specs.Output.{refusal_line, frame_line, looked_at, last_line, lines_after, answers, part_after, on_recipe, output_of}
use Rattle.programs.specs.Stage.{Reading, heading, running, stopped, owed, NoFeed, Kept, Stands, Handled, Fed, Finished, parts}
use Rattle.programs.proofs.Answers.{refused-recipe, passed-recipe, answers_none, answers_one}
use Rattle.programs.proofs.FrameLines.{kept_nothing, kept_none, plain_none}

-- ---- a recipe that was read

module _ (t : List ℕ) (r : Read) (w : List ℕ) (g : Says (read_text short t) r w) (more : List Step → List ℕ) where
  pub read_refused : (r.refusal ≡ 0 → ⊥) → on_recipe (read_text short t) more ≡ refusal_line r.refusal r.place.0
  read_refused h = refused-recipe (read_text short t) more r.refusal r.place.0 (answer_refused t r w g h)

  pub read_passed : r.refusal ≡ 0 → on_recipe (read_text short t) more ≡ more (steps_in w r.count)
  read_passed h = passed-recipe (read_text short t) more (steps_in w r.count) (answer_steps t r w g h)

-- ---- the recipe's end

owed_heading : (t s : List ℕ) → owed (heading t) s ≡ output_of (part_after t s)
unfolding owed
owed_heading t s = refl

module _ (t piece : List ℕ) (n : ℕ) (buffer w : List ℕ) (end : End) (few : n ≤ looked_at)
    (e : (s : List ℕ) → part_after t (piece ++ s) ≡ parts end (take n buffer) s) where
  heads : (s : List ℕ) → owed (heading t) (piece ++ s) ≡ output_of (parts end (take n buffer) s)
  heads s = owed_heading t (piece ++ s) ∙ ap output_of (e s)

  pub fed_missing : end ≡ Missing → Fed (heading t) piece [] (Recipe n) buffer w
  unfolding owed
  fed_missing q =
      record {
        next = heading (take n buffer);
        stands = (few, refl);
        owes = λ s. heads s ∙ ap (λ (x : End). output_of (parts x (take n buffer) s)) q;
      }

  pub fed_endless : (line : List ℕ) → end ≡ Endless → line ≡ refusal_line 10 0
      → Fed (heading t) piece line Done buffer w
  unfolding owed output_of
  fed_endless line q x =
      record {
        next = stopped;
        stands = tt;
        owes = λ s. heads s ∙ ap (λ (x : End). output_of (parts x (take n buffer) s)) q ∙ sym x ∙ sym (append-nil line);
      }

  module _ (r : Read) (line : List ℕ) (q : end ≡ Empty) (g : Says (read_text short (take n buffer)) r w)
      (x : line ≡ on_recipe (read_text short (take n buffer)) (λ l. [])) where
    opens : (s : List ℕ) → owed (heading t) (piece ++ s) ≡ on_recipe (read_text short (take n buffer)) (λ l. answers l (lines_after [] s))
    unfolding output_of
    opens s = heads s ∙ ap (λ (x : End). output_of (parts x (take n buffer) s)) q

    pub fed_refused : (r.refusal ≡ 0 → ⊥) → Fed (heading t) piece line Done buffer w
    unfolding owed
    fed_refused h =
        record {
          next = stopped;
          stands = tt;
          owes = λ s.
              opens s
              ∙ read_refused (take n buffer) r w g (λ l. answers l (lines_after [] s)) h
              ∙ sym (x ∙ read_refused (take n buffer) r w g (λ l. []) h)
              ∙ sym (append-nil line);
        }

    pub fed_opened : 3 * most_steps ≤ length w → r.refusal ≡ 0
        → Fed (heading t) piece line (Frames r.count (Some 0)) buffer w
    unfolding owed
    fed_opened m h =
        let l = steps_in w r.count in
        let c = answer_count (take n buffer) r w g h in
        let f : 3 * r.count ≤ length w = omega (arith, c.1) in
        record {
          next = running l [];
          stands = (f, answer_holds (take n buffer) r w g h f, kept_nothing buffer, plain_none);
          owes = λ s.
              opens s
              ∙ read_passed (take n buffer) r w g (λ l. answers l (lines_after [] s)) h
              ∙ ap (λ (y : List ℕ). y ++ answers l (lines_after [] s)) (sym (x ∙ read_passed (take n buffer) r w g (λ l. []) h));
        }

-- ---- frames

pub fed_frames : (l : List Step) (line piece written : List ℕ) (k : ℕ) (n : Option ℕ) (buffer w : List ℕ) → 3 * k ≤ length w → Holds l (take (3 * k) w)
    → Handled l line piece written n buffer → Fed (running l line) piece written (Frames k n) buffer w
unfolding owed
fed_frames l line piece written k n buffer w f g a =
    record { next = running l a.next; stands = (f, g, a.kept, a.plain); owes = a.owes }

-- ---- which reading a stage stands for

module _ (piece written : List ℕ) (s next : Stage) (buffer w after v : List ℕ) where
  pub fed_at_recipe : (n : ℕ) (g : Reading) → Stands g s buffer w → s ≡ Recipe n → Fed (heading (take n buffer)) piece written next after v
      → Fed g piece written next after v
  fed_at_recipe n (heading t) h e f = let k = rw e at h in rw k.1 f
  fed_at_recipe n (running l line) h e f = absurd (rw e at h)
  fed_at_recipe n stopped h e f = absurd (rw e at h)

  pub fed_at_frames : (k : ℕ) (n : Option ℕ) (g : Reading) → Stands g s buffer w → s ≡ Frames k n
      → ((l : List Step) (line : List ℕ) → Holds l (take (3 * k) w) → Kept line n buffer → NoFeed line → Fed (running l line) piece written next after v)
      → Fed g piece written next after v
  fed_at_frames k n (heading t) h e f = absurd (rw e at h)
  fed_at_frames k n (running l line) h e f = let a = rw e at h in f l line a.1 a.2 a.3
  fed_at_frames k n stopped h e f = absurd (rw e at h)

pub fed_at_done : (piece : List ℕ) (s : Stage) (buffer w : List ℕ) (g : Reading) → Stands g s buffer w → s ≡ Done → Fed g piece [] s buffer w
unfolding owed
fed_at_done piece s buffer w (heading t) h e = absurd (rw e at h)
fed_at_done piece s buffer w (running l line) h e = absurd (rw e at h)
fed_at_done piece s buffer w stopped h e = record { next = stopped; stands = h; owes = λ _. refl }

-- ---- the input's end

last_none : (l : List Step) (line : List ℕ) → line ≡ [] → answers l (last_line line) ≡ []
unfolding last_line
last_none l line e = rw e (answers_none l)

last_some : (l : List Step) (line : List ℕ) → 0 < length line → answers l (last_line line) ≡ frame_line l line
unfolding last_line
last_some l [] h = absurd (omega arith)
last_some l (b ∷ line) h = answers_one l (b ∷ line)

kept_some : (line buffer : List ℕ) (n : Option ℕ) → Kept line n buffer → 256 ≤ length buffer → (n ≡ Some 0 → ⊥) → 0 < length line
kept_some line buffer (Some zero) g h k = absurd (k refl)
kept_some line buffer (Some (suc n)) g h k = let e : length line ≡ suc n = ap length g.1 ∙ length-take-le (suc n) buffer (omega (arith, g.0)) in omega arith
kept_some line buffer None g h k = omega (arith, g)

module _ (s : Stage) (buffer w : List ℕ) where
  pub finished_recipe : (n : ℕ) (line : List ℕ) (g : Reading) → Stands g s buffer w → s ≡ Recipe n
      → line ≡ on_recipe (read_text short (take n buffer)) (λ l. []) → Finished g line
  unfolding owed part_after output_of
  finished_recipe n line (heading t) h e x = let k = rw e at h in rw k.1 (sym x)
  finished_recipe n line (running l m) h e x = absurd (rw e at h)
  finished_recipe n line stopped h e x = absurd (rw e at h)

  pub finished_between : (k : ℕ) (n : Option ℕ) (g : Reading) → Stands g s buffer w → s ≡ Frames k n → n ≡ Some 0 → Finished g []
  unfolding owed lines_after
  finished_between k n (heading t) h e z = absurd (rw e at h)
  finished_between k n (running l line) h e z = let a = rw e at h in last_none l line (kept_none line buffer n a.2 z)
  finished_between k n stopped h e z = absurd (rw e at h)

  pub finished_line : (k : ℕ) (n : Option ℕ) (x : List ℕ) (g : Reading) → Stands g s buffer w → s ≡ Frames k n → (n ≡ Some 0 → ⊥) → 256 ≤ length buffer
      → ((l : List Step) (line : List ℕ) → Holds l (take (3 * k) w) → Kept line n buffer → x ≡ frame_line l line) → Finished g x
  unfolding owed lines_after
  finished_line k n x (heading t) h e z b f = absurd (rw e at h)
  finished_line k n x (running l line) h e z b f =
      let a = rw e at h in last_some l line (kept_some line buffer n a.2 b z) ∙ sym (f l line a.1 a.2)
  finished_line k n x stopped h e z b f = absurd (rw e at h)

  pub finished_done : (g : Reading) → Stands g s buffer w → s ≡ Done → Finished g []
  unfolding owed
  finished_done (heading t) h e = absurd (rw e at h)
  finished_done (running l line) h e = absurd (rw e at h)
  finished_done stopped h e = refl
