-- A range made of its two ends and carried in floats, as the sheet call does it. Definitions only; assumes nothing.
use Rattle.std.specs.Prelude.{cond, List, [], ◌∷◌, ◌++◌, ℕ, suc, pos}
use Rattle.float_format.specs.Format.{binary64, is_nan}
use Rattle.recipe.specs.declared.Step.{Step}
use Rattle.semantics.specs.Value.{Datum, double, whole, Outcome, done}
use Rattle.semantics.specs.Value as value
use Rattle.semantics.specs.Range.{Range, doubles, wholes, Ranged, ranged, refused}
use Rattle.semantics.specs.Sheet.{Sheet, passed, step_on}
use Rattle.semantics.specs.Sheet as sheet

-- from one value to another; of two kinds, which no rule gives, zero to zero
abbrev pub spanned : Datum → Datum → Range
spanned (double l) (double h) = doubles l h
spanned (double l) (whole h) = wholes (pos 0) (pos 0)
spanned (whole l) (double h) = wholes (pos 0) (pos 0)
spanned (whole l) (whole h) = wholes l h

-- refused where either end is
abbrev pub between : Outcome → Outcome → Ranged
between (done l) (done h) = ranged (spanned l h)
between (done l) (value.refused number) = refused number
between (value.refused number) h = refused number

-- ---- as floats hold it

-- +0 would stand for an end that is a NaN, and does for none: of steps that were read, the sheet is the same (`carried_same`)
abbrev pub number : ℕ → ℕ
number x = cond (is_nan binary64 x) 0 x

abbrev pub carried_range : Range → Range
carried_range (doubles l h) = doubles (number l) (number h)
carried_range (wholes l h) = wholes l h

abbrev pub carried : Ranged → Ranged
carried (ranged r) = ranged (carried_range r)
carried (refused n) = refused n

-- ---- a fold over steps, with each range as floats hold it

unfoldable pub on_carried : {X : Type 0} → Ranged → (ℕ → X) → (Range → X) → X
on_carried (ranged r) stop more = more r
on_carried (refused number) stop more = stop number

-- what comes of the ranges of all steps, or of the first step that is refused: its number, itself, the ranges before it and the refusal's number
unfoldable pub folded : {X : Type 0} → (List Range → X) → (ℕ → Step → List Range → ℕ → X) → List Step → ℕ → List Range → X
folded all stop [] k l = all l
folded all stop (t ∷ ts) k l = on_carried (carried (step_on t l)) (stop k t l) (λ r. folded all stop ts (suc k) (l ++ (r ∷ [])))

-- `sheet_from` so
abbrev pub stopped : ℕ → Step → List Range → ℕ → Sheet
stopped k t l number = sheet.refused number k

abbrev pub carried_from : List Step → ℕ → List Range → Sheet
carried_from ts k l = folded passed stopped ts k l
