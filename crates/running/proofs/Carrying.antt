-- The run as floats carry it is the run: of steps that were read, on a frame that was, no value is a NaN, and a number is carried as it is.
-- Assumes nothing.
use mathlib.Core.Path.{◌≡◌, refl}
use mathlib.Core.List.{List, [], ◌∷◌, ◌++◌}
use Prim.Native.Nat.{ℕ, suc}
use native.Mathlib.Omega.{arith}
use lib.ListN.{get_or}
use Rattle.recipe.specs.declared.Step.{Step}
use Rattle.recipe.specs.Text.{most_steps, first, second}
use Rattle.recipe.specs.Answer.{Formed}
use Rattle.semantics.specs.Value.{Datum, double, whole, Outcome, done, refused}
use Rattle.semantics.specs.Frame.{words, read_frame}
use Rattle.semantics.specs.Frame as frame
use Rattle.semantics.specs.Run.{no_value, step_on, on_outcome, run_from}
use Rattle.semantics.proofs.Real.{Number, NumberOutcome, step-real, Numbers, numbers_more}
use Rattle.semantics.proofs.Sound.Recipes.{Declared, declared, following, frame_step, frame_read}
use Rattle.values.specs.Carried.{carried_value, carried}
use Rattle.running.specs.Carried.{carried_from}

carried-number : (v : Datum) → Number v → carried_value v ≡ v
carried-number (double x) n = rw n
carried-number (whole z) n = refl

module _ (ws : List ℕ) where
  next : (ts : List Step) (k j : ℕ) (vs : List Datum) (o : Outcome) → NumberOutcome o
      → ((v : Datum) → Number v → carried_from ts (suc k) j ws (vs ++ (v ∷ [])) ≡ run_from ts (suc k) j ws (vs ++ (v ∷ [])))
      → on_outcome (carried o) k (λ v. carried_from ts (suc k) j ws (vs ++ (v ∷ []))) ≡ on_outcome o k (λ v. run_from ts (suc k) j ws (vs ++ (v ∷ [])))
  unfolding on_outcome
  next ts k j vs (done v) n more = rw (carried-number v n) (more v n)
  next ts k j vs (refused number) n more = refl

  same_from : (ls : List Step) (k j : ℕ) (vs : List Datum) → Declared ls → frame.ranged ls k j ws ≡ words ws → Numbers vs
      → carried_from ls k j ws vs ≡ run_from ls k j ws vs
  unfolding carried_from run_from
  same_from [] k j vs d f n = refl
  same_from (t ∷ ts) k j vs d f n =
      let g = frame_step t ts k j ws ws f in
      next ts k (following t j) vs (step_on t (get_or ws j 0) vs)
      (step-real t (get_or ws j 0) (get_or vs (first t) no_value) (get_or vs (second t) no_value) (n (first t)) (n (second t)) (d 0 (omega arith)) g.0)
      (λ v m. same_from ts (suc k) (following t j) (vs ++ (v ∷ [])) (λ i b. d (suc i) (omega arith)) g.1 (numbers_more vs v n m))

pub carried_same : (l : List Step) → Formed most_steps l → (s ws : List ℕ) → read_frame l s ≡ words ws → carried_from l 0 0 ws [] ≡ run_from l 0 0 ws []
carried_same l f s ws e = same_from ws l 0 0 [] (declared l f) (frame_read l s ws e) (λ k. tt)
