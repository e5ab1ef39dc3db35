-- Floats carry the ranges of steps that were read as they are, so that the sheet as floats carry it is the sheet: no such range has an end that is
-- a NaN, because each holds some value (`Covered`). Assumes nothing.
use mathlib.Core.Path.{◌≡◌, refl, sym, ap, ◌∙◌}
use mathlib.Core.List.{List, [], ◌∷◌, ◌++◌}
use Prim.Native.Nat.{ℕ, suc}
use native.Mathlib.Omega.{arith}
use lib.ListN.{length}
use lib.Seq.{get_or_at}
use Rattle.recipe.specs.declared.Step.{Step}
use Rattle.semantics.specs.Range.{Range, doubles, wholes, Ranged, ranged}
use Rattle.semantics.specs.Range as range
use Rattle.semantics.specs.Sheet.{passed, no_range, step_on, on_ranged, sheet_from}
use Rattle.semantics.specs.Promise.{Proper}
use Rattle.ranges.specs.Carried.{number, carried_range, carried, folded, stopped, carried_from}
use Rattle.ranges.proofs.Folding.{step_good, step_bad, steps_done}
use Rattle.semantics.proofs.Sound.Recipes.{Declared}
use Rattle.semantics.proofs.Sound.Covered.{Covered, covered_none, covered_more}

-- ---- a range of numbers is carried as it is

carried_proper : (r : Range) → Proper r → carried_range r ≡ r
unfolding Proper
carried_proper (doubles l h) p = rw (p.0, p.1)
carried_proper (wholes l h) p = refl

-- ---- the fold

-- floats carry every range that a fold over the steps comes to, as it is
pub data Carries : List Step → List Range → Type 0 where
  at_end : (rs : List Range) → Carries [] rs
  at_step : (t : Step) (ts : List Step) (rs : List Range) → carried (step_on t rs) ≡ step_on t rs → ((r : Range) → step_on t rs ≡ ranged r → Carries ts (rs ++ (r ∷ [])))
      → Carries (t ∷ ts) rs

carries_from : (ls : List Step) (rs : List Range) → Declared ls → Covered rs → Carries ls rs
carries_from [] rs d c = at_end rs
carries_from (t ∷ ts) rs d c =
    let more : (r : Range) → step_on t rs ≡ ranged r → Covered (rs ++ (r ∷ [])) = λ r e. covered_more t rs r (d 0 (omega arith)) c e in
    at_step t ts rs (same more (step_on t rs) refl) (λ r e. carries_from ts (rs ++ (r ∷ [])) (λ m h. d (suc m) (omega arith)) (more r e))
  where
    same : ((r : Range) → step_on t rs ≡ ranged r → Covered (rs ++ (r ∷ []))) → (x : Ranged) → step_on t rs ≡ x → carried (step_on t rs) ≡ step_on t rs
    same more (ranged r) e =
        let p : Proper r = rw (get_or_at rs r [] no_range (length rs) refl) at ((more r e).covers.proper (length rs)) in
        ap carried e ∙ ap ranged (carried_proper r p) ∙ sym e
    same more (range.refused number) e = ap carried e ∙ sym e

-- of steps that were read
pub carries : (ls : List Step) → Declared ls → Carries ls []
carries ls d = carries_from ls [] d covered_none

-- ---- a fold as floats carry it is the fold

-- F is the fold that comes to `all` of the ranges of all steps, or to `stop` at the first step that is refused
module _ {X : Type 0} (all : List Range → X) (stop : ℕ → Step → List Range → ℕ → X) (F : List Step → ℕ → List Range → X)
    (done : (k : ℕ) (l : List Range) → F [] k l ≡ all l)
    (good : (t : Step) (ts : List Step) (k : ℕ) (l : List Range) (r : Range) → step_on t l ≡ ranged r → F (t ∷ ts) k l ≡ F ts (suc k) (l ++ (r ∷ [])))
    (bad : (t : Step) (ts : List Step) (k : ℕ) (l : List Range) (number : ℕ) → step_on t l ≡ range.refused number → F (t ∷ ts) k l ≡ stop k t l number) where
  fold_from : (ls : List Step) (k : ℕ) (rs : List Range) → Carries ls rs → folded all stop ls k rs ≡ F ls k rs
  fold_from [] k rs c = steps_done all stop k rs ∙ sym (done k rs)
  fold_from (t ∷ ts) k rs (at_step _ _ _ e more) = next (step_on t rs) refl (λ r f. fold_from ts (suc k) (rs ++ (r ∷ [])) (more r f))
    where
      next : (x : Ranged) → step_on t rs ≡ x → ((r : Range) → step_on t rs ≡ ranged r → folded all stop ts (suc k) (rs ++ (r ∷ [])) ≡ F ts (suc k) (rs ++ (r ∷ [])))
          → folded all stop (t ∷ ts) k rs ≡ F (t ∷ ts) k rs
      next (ranged r) f rest = step_good all stop t ts k rs r (e ∙ f) ∙ rest r f ∙ sym (good t ts k rs r f)
      next (range.refused number) f rest = step_bad all stop t ts k rs number (e ∙ f) ∙ sym (bad t ts k rs number f)

  pub carried_fold : (ls : List Step) → Declared ls → folded all stop ls 0 [] ≡ F ls 0 []
  carried_fold ls d = fold_from ls 0 [] (carries ls d)

-- the sheet
pub carried_same : (ls : List Step) → Declared ls → carried_from ls 0 [] ≡ sheet_from ls 0 []
unfolding sheet_from on_ranged
carried_same = carried_fold passed stopped sheet_from done good bad
  where
    done : (k : ℕ) (l : List Range) → sheet_from [] k l ≡ passed l
    done k l = refl

    good : (t : Step) (ts : List Step) (k : ℕ) (l : List Range) (r : Range) → step_on t l ≡ ranged r → sheet_from (t ∷ ts) k l ≡ sheet_from ts (suc k) (l ++ (r ∷ []))
    good t ts k l r e = ap (λ x. on_ranged x k (λ r. sheet_from ts (suc k) (l ++ (r ∷ [])))) e

    bad : (t : Step) (ts : List Step) (k : ℕ) (l : List Range) (number : ℕ) → step_on t l ≡ range.refused number → sheet_from (t ∷ ts) k l ≡ stopped k t l number
    bad t ts k l number e = ap (λ x. on_ranged x k (λ r. sheet_from ts (suc k) (l ++ (r ∷ [])))) e
