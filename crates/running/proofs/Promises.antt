-- What the run call answers keeps the promise: it is what the definition of the run gives, of which `sheet_sound` speaks. Assumes nothing.
use mathlib.Core.Path.{◌≡◌, ap, ◌∙◌}
use mathlib.Core.List.{List}
use Prim.Native.Nat.{ℕ}
use lib.ListN.{length}
use Rattle.recipe.specs.declared.Step.{Step}
use Rattle.recipe.specs.Text.{short, steps, read_text}
use Rattle.recipe.specs.Answer.{Holds}
use Rattle.semantics.specs.declared.RunAnswer.{RunAnswer}
use Rattle.semantics.specs.Run.{Run, run_steps, run_of, answer_of, words_of}
use Rattle.semantics.specs.Promise.{Keeps}
use Rattle.semantics.proofs.Sound.Recipes.{sheet_sound, text_sound}
use Rattle.running.specs.Packed.{run_words}
use Rattle.running.proofs.Calls.{holds_run}

module _ (frame lent : List ℕ) (r : RunAnswer) (after : List ℕ) where
  -- the answer and the words are those of a run
  abbrev Answers : Run → Type 0
  Answers run = (r ≡ answer_of run) × (after ≡ words_of run lent)

  -- the second part of the contract, from the first
  pub with_steps : (w : List ℕ) → Answers (run_words w frame (length lent))
      → (l : List Step) → Holds l w → Answers (run_steps l frame (length lent)) × Keeps l frame lent r after
  with_steps w h l g =
      let e = holds_run l w frame (length lent) g in
      let a = h.0 ∙ ap answer_of e in
      let b = h.1 ∙ ap (λ (x : Run). words_of x lent) e in
      ((a, b), λ rs ws i. rw (a, b) (sheet_sound l g.formed frame lent rs ws i))

  pub with_text_promise : (t : List ℕ) → Answers (run_of t frame (length lent)) → (l : List Step) → read_text short t ≡ steps l → Keeps l frame lent r after
  with_text_promise t h l e rs ws i = rw (h.0, h.1) (text_sound t l e frame lent rs ws i)
