-- A loop that works the ranges out step by step, whatever is made of them: the invariant `Walked` says that the fold over the whole is the fold
-- over the rest after the ranges so far. Assumes nothing.
use mathlib.Core.Path.{◌≡◌, refl, ap, sym, ◌∙◌}
use mathlib.Core.Bool.{cond}
use mathlib.Core.List.{List, [], ◌∷◌, ◌++◌, map, map-append}
use Prim.Native.Nat.{ℕ, suc, ◌+◌, ◌≤◌, ◌<◌}
use native.Mathlib.Omega.{arith}
use native.Mathlib.Numerals.{add-one}
use lib.Dec.{ltb}
use lib.IntN.{pos}
use lib.ListN.{length, take, drop, set, get_or, replicate}
use Rattle.recipe.specs.declared.Step.{Step}
use Rattle.recipe.specs.Text.{most_steps, first, second}
use Rattle.recipe.specs.Packed.{step_at, steps_in}
use Rattle.recipe.proofs.Packed.{next_step, none_left}
use Rattle.semantics.specs.Range.{step_range}
use Rattle.semantics.specs.Range as range
use Rattle.semantics.specs.Sheet.{step_on}
use Rattle.semantics.proofs.Lists.{grow}
use Rattle.semantics.proofs.Filled.{Filled, filled_start, filled_more, fetch}
use Rattle.ranges.specs.declared.Range.{Range}
use Rattle.ranges.specs.declared.Range.TheVariants.{Wholes}
use Rattle.std.specs.Prelude.{Result, Ok, Err}
use Rattle.values.specs.declared.Refusal.{Refusal}
use Rattle.values.specs.Seen.{number_of}
use Rattle.ranges.specs.Seen.{seen_range, bound_of}
use Rattle.ranges.specs.Carried.{carried, on_carried, folded}

-- what the array of ranges is filled with
abbrev pub start : Range
start = Wholes (record { low = pos 0; high = pos 0 })

module _ {X : Type 0} (all : List range.Range → X) (stop : ℕ → Step → List range.Range → ℕ → X) where
  -- ---- one step of the fold

  pub step_good : (t : Step) (ts : List Step) (k : ℕ) (l : List range.Range) (r : range.Range) → carried (step_on t l) ≡ range.ranged r
      → folded all stop (t ∷ ts) k l ≡ folded all stop ts (suc k) (l ++ (r ∷ []))
  unfolding folded on_carried
  step_good t ts k l r e = ap (λ x. on_carried x (stop k t l) (λ r. folded all stop ts (suc k) (l ++ (r ∷ [])))) e

  pub step_bad : (t : Step) (ts : List Step) (k : ℕ) (l : List range.Range) (number : ℕ) → carried (step_on t l) ≡ range.refused number
      → folded all stop (t ∷ ts) k l ≡ stop k t l number
  unfolding folded on_carried
  step_bad t ts k l number e = ap (λ x. on_carried x (stop k t l) (λ r. folded all stop ts (suc k) (l ++ (r ∷ [])))) e

  pub steps_done : (k : ℕ) (l : List range.Range) → folded all stop [] k l ≡ all l
  unfolding folded
  steps_done k l = refl

  -- ---- the ranges

  -- of the n steps in the words w, i have their ranges, the first i of `ranges`
  pub record Walked (w : List ℕ) (n : ℕ) (ranges : List Range) (i : ℕ) : Type 0 where
    pub within : i ≤ n
    pub filled : Filled start ranges i
    pub same : folded all stop (steps_in w n) 0 [] ≡ folded all stop (drop i (steps_in w n)) i (map seen_range (take i ranges))

  pub walked_start : (w : List ℕ) (n : ℕ) → Walked w n (replicate most_steps start) 0
  walked_start w n = record { within = omega arith; filled = filled_start start; same = refl }

  module _ (w : List ℕ) (n : ℕ) (ranges : List Range) (i : ℕ) (g : Walked w n ranges i) where
    module _ (h : i < n) (m : n ≤ most_steps) (t : Step) (et : t ≡ step_at w i)
        (f₁ f₂ : ℕ) (z y : Range) (e₁ : f₁ ≡ cond (ltb (first t) i) (first t) i) (e₂ : f₂ ≡ cond (ltb (second t) i) (second t) i) where
      left : drop i (steps_in w n) ≡ t ∷ drop (i + 1) (steps_in w n)
      left = rw et (next_step w n i h)

      -- the operands that the loop fetched are those of the rule
      pub fetched_first : seen_range (get_or ranges f₁ z) ≡ get_or (map seen_range (take i ranges)) (first t) (range.wholes (pos 0) (pos 0))
      fetched_first = fetch start ranges i g.filled seen_range (first t) f₁ z (omega arith) e₁

      pub fetched_second : seen_range (get_or ranges f₂ y) ≡ get_or (map seen_range (take i ranges)) (second t) (range.wholes (pos 0) (pos 0))
      fetched_second = fetch start ranges i g.filled seen_range (second t) f₂ y (omega arith) e₂

      module _ (r : Result Range Refusal) (er : bound_of r ≡ carried (step_range t (seen_range (get_or ranges f₁ z)) (seen_range (get_or ranges f₂ y)))) where
        did : carried (step_on t (map seen_range (take i ranges))) ≡ bound_of r
        did = rw (sym fetched_first, sym fetched_second) (sym er)

        pub walked_more : (v : Range) → r ≡ Ok v → Walked w n (set ranges i v) (i + 1)
        walked_more v e =
            let b : i < length ranges = omega (arith, g.filled.long) in
            record {
              within = omega arith;
              filled = filled_more start ranges i g.filled v;
              same = g.same
                  ∙ rw (left, grow ranges i v b, map-append, add-one)
                  (step_good t (drop (suc i) (steps_in w n)) i (map seen_range (take i ranges)) (seen_range v) (did ∙ ap bound_of e));
            }

        pub walked_refused : (why : Refusal) → r ≡ Err why → folded all stop (steps_in w n) 0 [] ≡ stop i t (map seen_range (take i ranges)) (number_of why)
        walked_refused why e =
            g.same ∙ rw left (step_bad t (drop (i + 1) (steps_in w n)) i (map seen_range (take i ranges)) (number_of why) (did ∙ ap bound_of e))

    pub walked_done : n ≤ i → folded all stop (steps_in w n) 0 [] ≡ all (map seen_range (take n ranges))
    walked_done h =
        let b = g.within in
        let e : n ≡ i = omega arith in
        g.same ∙ rw (none_left w n i h) (steps_done i (map seen_range (take i ranges)) ∙ ap (λ (k : ℕ). all (map seen_range (take k ranges))) (sym e))
