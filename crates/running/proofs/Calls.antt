-- The whole call on words, stage by stage: what the run comes to where it stops, and where it goes on; and the call on a text, which adds the
-- reading. Assumes nothing.
use mathlib.Core.Path.{◌≡◌, refl, ap, sym, ◌∙◌}
use mathlib.Core.Bool.{true, false}
use mathlib.Core.List.{List, []}
use Prim.Native.Nat.{ℕ, ◌*◌, ◌/◌, ◌≤◌, ◌<◌}
use native.Mathlib.Omega.{arith}
use lib.ListN.{length, take}
use borrow.Author.Tests.{lt-ltb, le-ltb}
use Rattle.recipe.specs.declared.Refusal.{Refusal}
use Rattle.recipe.specs.declared.Step.{Step}
use Rattle.recipe.specs.Fault as fault
use Rattle.recipe.specs.Text.{short, most_steps, inputs_in, read_text}
use Rattle.recipe.specs.Packed.{bad_words, steps_in, steps_of}
use Rattle.recipe.specs.Answer.{Says, Formed, Holds}
use Rattle.recipe.proofs.Packed.{steps_length, holds_words}
use Rattle.recipe.proofs.Laws.{formed_inputs}
use Rattle.reader.specs.Checks.{reading_of}
use Rattle.reader.proofs.Laws.{read_steps, read_count, read_holds, read_refused}
use Rattle.std.specs.Prelude.{Ok, Err}
use Rattle.calls.specs.declared.Refused.{Refused}
use Rattle.calls.specs.Numbers.{number_of, place_of}
use Rattle.frame.specs.Stages.{Same, Read}
use Rattle.semantics.specs.Frame.{Frame, words, words_from, ranged}
use Rattle.semantics.specs.Frame as frame
use Rattle.semantics.specs.Run.{Run, refused, run_from, call_on, run_steps, run_of}
use Rattle.running.specs.Carried.{carried_from}
use Rattle.running.specs.Packed.{run_words}
use Rattle.running.proofs.Carrying.{carried_same}
use Rattle.semantics.proofs.Calls as law

-- ---- the words read

read_malformed : (x : Frame) (why : Refused) → Read x (Err why) → x ≡ frame.refused (number_of why) (place_of why)
read_malformed (words ws) why h = absurd h
read_malformed (frame.refused number place) why h = cc (h.0, h.1)

record Held (x : Frame) (inputs : List ℕ) : Type 0 where
  pub list : List ℕ
  pub is : x ≡ words list
  pub same : Same inputs list

read_held : (x : Frame) (inputs : List ℕ) → Read x (Ok inputs) → Held x inputs
read_held (words ws) inputs h = record { list = ws; is = refl; same = h }
read_held (frame.refused number place) inputs h = absurd h

-- ---- the run of words

module _ (w s : List ℕ) (room : ℕ) where
  -- refusal 10
  pub words_bad : bad_words (length w) ≡ true → run_words w s room ≡ refused 10 0
  unfolding run_words
  words_bad e = rw e

  module _ (e : bad_words (length w) ≡ false) where
    -- refusal 17
    words_crowded : 16 < inputs_in (steps_of w) → run_words w s room ≡ refused 17 0
    unfolding run_words
    words_crowded h = rw (e, lt-ltb 16 (inputs_in (steps_of w)) h)

    -- neither
    words_run : inputs_in (steps_of w) ≤ 16 → run_words w s room ≡ call_on (λ ws. carried_from (steps_of w) 0 0 ws []) (steps_of w) s room
    unfolding run_words
    words_run h = rw (e, le-ltb 16 (inputs_in (steps_of w)) h)

-- a call on formed steps, as floats carry it, is the definition's
carried_call : (l : List Step) (s : List ℕ) (room : ℕ) → Formed most_steps l → call_on (λ ws. carried_from l 0 0 ws []) l s room ≡ run_steps l s room
unfolding run_steps
carried_call l s room f = law.call_same (λ ws. carried_from l 0 0 ws []) (λ ws. run_from l 0 0 ws []) l s room (λ ws e. carried_same l f s ws e)

-- Words that hold formed steps are run as these steps are.
pub holds_run : (l : List Step) (w s : List ℕ) (room : ℕ) → Holds l w → run_words w s room ≡ run_steps l s room
holds_run l w s room h =
    let i : inputs_in (steps_of w) ≤ 16 = rw h.kept (formed_inputs most_steps l h.formed) in
    words_run w s room (holds_words l w h) i
    ∙ ap (λ (x : List Step). call_on (λ ws. carried_from x 0 0 ws []) x s room) h.kept
    ∙ carried_call l s room h.formed

-- ---- the stages

-- the run's fold that the call comes down to, on a list of the words
pub record Reached (run : Run) (w : List ℕ) (n : ℕ) (inputs : List ℕ) : Type 0 where
  pub list : List ℕ
  pub same : Same inputs list
  pub is : run ≡ carried_from (steps_in w n) 0 0 list []

module _ (w s : List ℕ) (room : ℕ) (b : bad_words (length w) ≡ false) (n : ℕ) (en : n ≡ length w / 3) (m : ℕ) (em : m ≡ inputs_in (steps_in w n)) where
  -- refusal 17
  pub run_crowded : 16 < m → run_words w s room ≡ refused 17 0
  run_crowded h = words_crowded w s room b (rw (sym en, sym em) h)

  module _ (h : m ≤ 16) where
    as_steps : run_words w s room ≡ call_on (λ ws. carried_from (steps_in w n) 0 0 ws []) (steps_in w n) s room
    as_steps = words_run w s room b (rw (sym en, sym em) h) ∙ rw en

    -- refusal 40
    pub run_short : room < n → run_words w s room ≡ refused 40 0
    run_short k = as_steps ∙ law.call_short (λ ws. carried_from (steps_in w n) 0 0 ws []) (steps_in w n) s room (rw (steps_length w n) k)

    module _ (r : n ≤ room) where
      roomy : length (steps_in w n) ≤ room
      roomy = rw (steps_length w n) r

      -- refusal 30
      pub run_length : (length s ≡ m * 16 → ⊥) → run_words w s room ≡ refused 30 0
      run_length k = as_steps ∙ law.call_length (λ ws. carried_from (steps_in w n) 0 0 ws []) (steps_in w n) s room roomy (λ e. k (e ∙ rw em))

      module _ (k : length s ≡ m * 16) where
        sized : length s ≡ inputs_in (steps_in w n) * 16
        sized = k ∙ rw em

        -- refusal 31, of as many words as there are inputs
        pub run_malformed : (j : ℕ) (why : Refused) → Read (words_from s j 0 []) (Err why) → j ≡ m → run_words w s room ≡ refused (number_of why) (place_of why)
        run_malformed j why i ej =
            as_steps
            ∙ law.call_malformed (λ ws. carried_from (steps_in w n) 0 0 ws []) (steps_in w n) s room roomy sized (number_of why) (place_of why) (rw (sym (ej ∙ em)) (read_malformed (words_from s j 0 []) why i))

        module _ (j : ℕ) (inputs : List ℕ) (i : Read (words_from s j 0 []) (Ok inputs)) (ej : j ≡ m) where
          held : Held (words_from s j 0 []) inputs
          held = read_held (words_from s j 0 []) inputs i

          there : words_from s (inputs_in (steps_in w n)) 0 [] ≡ words held.list
          there = rw (sym (ej ∙ em)) held.is

          -- refusal 32
          pub run_outside : (why : Refused) → ((ws : List ℕ) → Same inputs ws → ranged (steps_in w n) 0 0 ws ≡ frame.refused (number_of why) (place_of why)) → run_words w s room ≡ refused (number_of why) (place_of why)
          run_outside why f =
              as_steps
              ∙ law.call_outside (λ ws. carried_from (steps_in w n) 0 0 ws []) (steps_in w n) s room roomy sized held.list there (number_of why) (place_of why) (f held.list held.same)

          -- none of these
          pub run_reached : ((ws : List ℕ) → Same inputs ws → ranged (steps_in w n) 0 0 ws ≡ words ws) → Reached (run_words w s room) w n inputs
          run_reached f =
              record {
                list = held.list;
                same = held.same;
                is = as_steps
                    ∙ law.call_reached (λ ws. carried_from (steps_in w n) 0 0 ws []) (steps_in w n) s room roomy sized held.list there (f held.list held.same);
              }

-- ---- a text

module _ (t s : List ℕ) (room : ℕ) (w : List ℕ) where
  -- the reader's refusal
  pub text_refused : (r : Refusal) → Says (read_text short t) (reading_of (Err r)) w → run_of t s room ≡ refused (fault.number_of r.fault) r.place.0
  text_refused r g = law.run_refused t s room (fault.number_of r.fault) r.place.0 (read_refused t w r g)

  -- else the words read are run, and these alone
  pub text_run : (n : ℕ) → Says (read_text short t) (reading_of (Ok n)) w → length w ≡ 3 * most_steps → run_words (take (3 * n) w) s room ≡ run_of t s room
  text_run n g e =
      let few = read_count t w n g in
      holds_run (steps_in w n) (take (3 * n) w) s room (read_holds t w n g (omega (arith, few.1))) ∙ sym (law.run_read t s room (steps_in w n) (read_steps t w n g))
