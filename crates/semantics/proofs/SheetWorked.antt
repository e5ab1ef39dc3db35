-- What a sheet that passes has worked out, by induction on the steps: a range for each step, which is its rule's of the ranges before it.
-- Assumes nothing.
use mathlib.Core.Path.{◌≡◌, refl, sym, ap, ◌∙◌}
use mathlib.Core.List.{List, [], ◌∷◌, ◌++◌}
use Prim.Native.Nat.{ℕ, zero, suc, ◌+◌, ◌<◌}
use native.Mathlib.Omega.{arith}
use lib.ListN.{length, take, get_or, length-append}
use Rattle.recipe.specs.declared.Step.{Step}
use Rattle.recipe.specs.Text.{no_step}
use Rattle.semantics.specs.Range.{Range, Ranged, ranged}
use Rattle.semantics.specs.Range as range
use Rattle.semantics.specs.Sheet.{passed, no_range, step_on, on_ranged, sheet_from}
use Rattle.semantics.proofs.Lists.{Begins, begins_all, begins_less, begins_at}

-- the ranges rs are those of l, and one for each step of ts
record From (ts : List Step) (l rs : List Range) : Type 0 where
  begins : Begins l rs
  count : length rs ≡ length l + length ts
  each : (k : ℕ) → k < length ts → step_on (get_or ts k no_step) (take (length l + k) rs) ≡ ranged (get_or rs (length l + k) no_range)

module _ (t : Step) (ts : List Step) (l rs : List Range) (r : Range) (e : step_on t l ≡ ranged r) (g : From ts (l ++ (r ∷ [])) rs) where
  more : length (l ++ (r ∷ [])) ≡ length l + 1
  more = length-append l (r ∷ [])

  each_more : (k : ℕ) → k < length (t ∷ ts) → step_on (get_or (t ∷ ts) k no_step) (take (length l + k) rs) ≡ ranged (get_or rs (length l + k) no_range)
  each_more zero h = let w = begins_at l rs r g.begins no_range in ap (step_on t) w.1 ∙ e ∙ ap ranged (sym w.0)
  each_more (suc k) h =
      let n : length (l ++ (r ∷ [])) + k ≡ length l + suc k = omega (arith, more) in
      rw n at (g.each k (omega arith))

  from_more : From (t ∷ ts) l rs
  from_more = record { begins = begins_less l rs r g.begins; count = omega (arith, more, g.count); each = each_more }

from : (ts : List Step) (k : ℕ) (l rs : List Range) → sheet_from ts k l ≡ passed rs → From ts l rs
unfolding sheet_from on_ranged
from [] k l rs e = let q : l ≡ rs = cc in rw q (record { begins = begins_all rs; count = omega arith; each = λ k h. absurd (omega arith) })
from (t ∷ ts) k l rs e = pick (step_on t l) refl e (λ r h. from ts (suc k) (l ++ (r ∷ [])) rs h)
  where
    pick : (x : Ranged) → step_on t l ≡ x → on_ranged x k (λ r. sheet_from ts (suc k) (l ++ (r ∷ []))) ≡ passed rs
        → ((r : Range) → sheet_from ts (suc k) (l ++ (r ∷ [])) ≡ passed rs → From ts (l ++ (r ∷ [])) rs) → From (t ∷ ts) l rs
    pick (ranged r) q h rest = from_more t ts l rs r q (rest r h)
    pick (range.refused number) q h rest = let z : ◌≡◌ {A = ℕ} 0 1 = cc in absurd (omega arith)

-- the ranges rs of all of the steps ts: each is what its step's rule gives of the ranges before it
pub record SheetWorked (ts : List Step) (rs : List Range) : Type 0 where
  pub count : length rs ≡ length ts
  pub each : (k : ℕ) → k < length ts → step_on (get_or ts k no_step) (take k rs) ≡ ranged (get_or rs k no_range)

pub sheet_worked : (ts : List Step) (rs : List Range) → sheet_from ts 0 [] ≡ passed rs → SheetWorked ts rs
sheet_worked ts rs e =
    let g : From ts [] rs = from ts 0 [] rs e in
    record {
      count = omega (arith, g.count);
      each = λ k h. let n : 0 + k ≡ k = omega arith in rw n at (g.each k h);
    }
