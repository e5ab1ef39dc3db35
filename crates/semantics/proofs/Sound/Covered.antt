-- Every range of a sheet that passes holds a value, whatever the frame, and so is a range of numbers: the sheet's promise, read with each input at
-- its declared low end. Assumes nothing.
use mathlib.Core.Path.{◌≡◌, refl}
use mathlib.Core.Bool.{false, ◌||◌}
use mathlib.Core.List.{List, [], ◌∷◌, ◌++◌}
use Prim.Native.Nat.{ℕ, suc, ◌+◌}
use native.Mathlib.Omega.{arith}
use lib.ListN.{get_or}
use mir.Syntax.{w64}
use mir.Val.{to_z}
use borrow.Author.Tests.{le-ltb}
use Rattle.float_format.specs.Format.{binary64, is_nan}
use Rattle.float_format.specs.Number.{above, under}
use Rattle.recipe.specs.declared.Kind.TheVariants.{Double, Whole}
use Rattle.recipe.specs.declared.Row.{Row}
use Rattle.recipe.specs.declared.Row.TheVariants.{Unknown, Input, Constant, Unary, Binary}
use Rattle.recipe.specs.declared.Step.{Step}
use Rattle.recipe.specs.Table.{row_of}
use Rattle.recipe.specs.Text.{most_steps, first, second, bad_range, double_above}
use Rattle.recipe.specs.Answer.{Formed}
use Rattle.semantics.specs.Value.{Datum, step_value}
use Rattle.semantics.specs.Range.{Range, Ranged, ranged}
use Rattle.semantics.specs.Range as range
use Rattle.semantics.specs.Frame.{outside}
use Rattle.semantics.specs.Run.{no_value}
use Rattle.semantics.specs.Sheet.{passed, no_range, step_on, on_ranged, sheet_from}
use Rattle.semantics.proofs.Sound.Kept.{never, no_or, Kept}
use Rattle.semantics.proofs.Sound.Inputs.{whole_constant}
use Rattle.semantics.proofs.Sound.Steps.{step_kept}
use Rattle.semantics.proofs.Sound.Recipes.{Covers, covers_none, covers_more, Declared, declared}

-- ---- a declared range holds its low end

not_above : (p : ℕ) → double_above p p ≡ false
not_above p = le-ltb (above binary64 p + under binary64 p) (above binary64 p + under binary64 p) (omega arith)

pub low_inside : (r : Row) (t : Step) → bad_range r t ≡ false → outside r t t.p ≡ false
low_inside Unknown t e = refl
low_inside (Input Double) t e =
    let a = no_or (is_nan binary64 t.p || is_nan binary64 t.q) (double_above t.p t.q) e in
    let b = no_or (is_nan binary64 t.p) (is_nan binary64 t.q) a.0 in
    rw (b.0, not_above t.p, a.1)
low_inside (Input Whole) t e = rw ((whole_constant (to_z w64 t.p)).from, e)
low_inside (Constant k) t e = refl
low_inside (Unary a k) t e = refl
low_inside (Binary a b k) t e = refl

-- ---- the fold

-- values that lie in the ranges
pub record Covered (rs : List Range) : Type 0 where
  pub values : List Datum
  pub covers : Covers rs values

pub covered_none : Covered []
covered_none = record { values = []; covers = covers_none }

-- One step more: the value that its rule gives of the values so far, an input's being its low end, lies in the range that its rule gives.
pub covered_more : (t : Step) (rs : List Range) (r : Range) → bad_range (row_of t.opcode) t ≡ false → Covered rs → step_on t rs ≡ ranged r → Covered (rs ++ (r ∷ []))
covered_more t rs r b c e =
    let v = c.covers in
    let k : Kept (step_on t rs) (step_value t t.p (get_or c.values (first t) no_value) (get_or c.values (second t) no_value)) =
    step_kept t t.p (get_or rs (first t) no_range) (get_or rs (second t) no_range) (get_or c.values (first t) no_value) (get_or c.values (second t) no_value)
    (v.lie (first t)) (v.lie (second t)) (v.proper (first t)) (v.proper (second t)) b (low_inside (row_of t.opcode) t b) in
    let h : Kept (ranged r) (step_value t t.p (get_or c.values (first t) no_value) (get_or c.values (second t) no_value)) = rw e at k in
    record { values = c.values ++ (h.value ∷ []); covers = covers_more v r h.value h.lies h.proper }

module _ (end : List Range) where
  covered_from : (ls : List Step) (k : ℕ) (rs : List Range) → Declared ls → Covered rs → sheet_from ls k rs ≡ passed end → Covered end
  unfolding sheet_from on_ranged
  covered_from [] k rs d c e = let q : rs ≡ end = cc in rw q at c
  covered_from (t ∷ ts) k rs d c e =
      pick (step_on t rs) refl e (λ r q h. covered_from ts (suc k) (rs ++ (r ∷ [])) (λ m b. d (suc m) (omega arith)) (covered_more t rs r (d 0 (omega arith)) c q) h)
    where
      pick : (x : Ranged) → step_on t rs ≡ x → on_ranged x k (λ r. sheet_from ts (suc k) (rs ++ (r ∷ []))) ≡ passed end
          → ((r : Range) → step_on t rs ≡ ranged r → sheet_from ts (suc k) (rs ++ (r ∷ [])) ≡ passed end → Covered end) → Covered end
      pick (ranged r) q h more = more r q h
      pick (range.refused number) q h more = never (cc)

-- Where the sheet of formed steps passes, each of its ranges holds a value, and no end is a NaN.
pub sheet_covered : (l : List Step) (rs : List Range) → Formed most_steps l → sheet_from l 0 [] ≡ passed rs → Covered rs
sheet_covered l rs f e = covered_from rs l 0 [] (declared l f) covered_none e
