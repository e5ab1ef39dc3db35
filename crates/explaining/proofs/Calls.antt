-- The explain call on words, stage by stage; that the explanation of formed steps is the definition's; and the call on a text, which adds the
-- reading. Assumes nothing.
use mathlib.Core.Path.{◌≡◌, refl, ap, ◌∙◌}
use mathlib.Core.Bool.{true, false}
use mathlib.Core.List.{List, [], ◌∷◌, ◌++◌}
use Prim.Native.Nat.{ℕ, suc, ◌*◌, ◌/◌}
use native.Mathlib.Omega.{arith}
use lib.ListN.{length, take}
use Rattle.std.specs.Prelude.{Ok, Err}
use Rattle.recipe.specs.declared.Refusal.{Refusal}
use Rattle.recipe.specs.declared.Step.{Step}
use Rattle.recipe.specs.Fault as fault
use Rattle.recipe.specs.Text.{short, most_steps, read_text}
use Rattle.recipe.specs.Packed.{bad_words, steps_in}
use Rattle.recipe.specs.Answer.{Says, Holds}
use Rattle.recipe.proofs.Packed.{holds_words}
use Rattle.reader.specs.Checks.{reading_of}
use Rattle.reader.proofs.Laws.{read_steps, read_count, read_holds, read_refused}
use Rattle.semantics.specs.declared.ExplainAnswer.{ExplainAnswer}
use Rattle.semantics.specs.Range.{Range, ranged}
use Rattle.semantics.specs.Range as range
use Rattle.semantics.specs.Sheet.{step_on}
use Rattle.semantics.specs.Explain.{refused, why_on, on_step, explain_from, explain_steps, on_text, explain_of, answer_of}
use Rattle.semantics.proofs.Sound.Recipes.{Declared, declared}
use Rattle.ranges.proofs.Covering.{carried_fold}
use Rattle.explaining.specs.Packed.{all, stopped, carried_from, explain_words}

-- ---- the fold

carried_same : (ls : List Step) → Declared ls → carried_from ls 0 [] ≡ explain_steps ls
unfolding explain_steps explain_from on_step
carried_same = carried_fold all stopped explain_from done good bad
  where
    done : (k : ℕ) (l : List Range) → explain_from [] k l ≡ all l
    done k l = refl

    good : (t : Step) (ts : List Step) (k : ℕ) (l : List Range) (r : Range) → step_on t l ≡ ranged r → explain_from (t ∷ ts) k l ≡ explain_from ts (suc k) (l ++ (r ∷ []))
    good t ts k l r e = ap (λ x. on_step x (why_on k t l) (λ r. explain_from ts (suc k) (l ++ (r ∷ [])))) e

    bad : (t : Step) (ts : List Step) (k : ℕ) (l : List Range) (number : ℕ) → step_on t l ≡ range.refused number → explain_from (t ∷ ts) k l ≡ stopped k t l number
    bad t ts k l number e = ap (λ x. on_step x (why_on k t l) (λ r. explain_from ts (suc k) (l ++ (r ∷ [])))) e

-- ---- words

module _ (w : List ℕ) where
  -- refusal 10
  pub explain_bad : bad_words (length w) ≡ true → explain_words w ≡ refused 10 0
  unfolding explain_words
  explain_bad e = rw e

  pub explain_reached : bad_words (length w) ≡ false → explain_words w ≡ carried_from (steps_in w (length w / 3)) 0 []
  unfolding explain_words
  explain_reached e = rw e

-- Words that hold formed steps have the explanation of these steps.
pub holds_explained : (l : List Step) (w : List ℕ) → Holds l w → explain_words w ≡ explain_steps l
unfolding explain_words
holds_explained l w h = rw (holds_words l w h, h.kept) (carried_same l (declared l h.formed))

-- ---- a text

module _ (t w : List ℕ) where
  -- the reader's refusal
  pub text_refused : (r : Refusal) → Says (read_text short t) (reading_of (Err r)) w → explain_of t ≡ refused (fault.number_of r.fault) r.place.0
  unfolding explain_of on_text
  text_refused r g = rw (read_refused t w r g)

  -- else the explanation is that of the words read, and of these alone
  pub text_explained : (n : ℕ) → Says (read_text short t) (reading_of (Ok n)) w → length w ≡ 3 * most_steps → explain_words (take (3 * n) w) ≡ explain_of t
  unfolding explain_of on_text
  text_explained n g e =
      let few = read_count t w n g in
      holds_explained (steps_in w n) (take (3 * n) w) (read_holds t w n g (omega (arith, few.1))) ∙ rw (read_steps t w n g)

-- ---- the contract: its first part, and the second

pub with_steps : (r : ExplainAnswer) (w : List ℕ) → r ≡ answer_of (explain_words w) → (r ≡ answer_of (explain_words w)) × ((l : List Step) → Holds l w → r ≡ answer_of (explain_steps l))
with_steps r w h = (h, λ l g. h ∙ ap answer_of (holds_explained l w g))
