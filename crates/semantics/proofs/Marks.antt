-- The marks of a recipe as a list: one for each step, each its rule's of the marks before it, so that a step more is a mark more. Assumes
-- nothing.
use mathlib.Core.Path.{◌≡◌, refl, sym, ap, ◌∙◌}
use mathlib.Core.Bool.{Bool, true}
use mathlib.Core.List.{List, [], ◌∷◌, ◌++◌}
use mathlib.Core.Logic.{⊎_elim}
use Prim.Native.Nat.{ℕ, zero, suc, ◌+◌, ◌≤◌, ◌<◌}
use native.Mathlib.Omega.{arith}
use lib.ListN.{length, take, get_or, length-append, get_or-eq_default}
use lib.Seq.{get_or-take, length-take-le}
use Rattle.recipe.specs.declared.Step.{Step}
use Rattle.recipe.specs.Text.{no_step, first, second}
use Rattle.semantics.specs.Range.{Range}
use Rattle.semantics.specs.Sheet.{no_range}
use Rattle.semantics.specs.Mark.{no_mark, mark_rule, mark_on, marks_from, marks_of}
use Rattle.semantics.proofs.Lists.{lt_or_ge, Begins, begins_all, begins_less, begins_at}

-- ---- a step more

-- A step more, of which the range is known, is a mark more: that of the marks so far.
pub marks_more : (ts : List Step) (rs : List Range) (l : List Bool) (t : Step) (r : Range) → length ts ≡ length rs
    → marks_from (ts ++ (t ∷ [])) (rs ++ (r ∷ [])) l ≡ marks_from ts rs l ++ (mark_on t r (marks_from ts rs l) ∷ [])
unfolding marks_from
marks_more [] [] l t r e = refl
marks_more [] (q ∷ rs) l t r e = absurd (omega arith)
marks_more (s ∷ ts) [] l t r e = absurd (omega arith)
marks_more (s ∷ ts) (q ∷ rs) l t r e = marks_more ts rs (l ++ (mark_on s q l ∷ [])) t r (omega arith)

-- ---- one for each step

from_length : (ts : List Step) (rs : List Range) (l : List Bool) → length ts ≡ length rs → length (marks_from ts rs l) ≡ length l + length ts
unfolding marks_from
from_length [] [] l e = omega arith
from_length [] (q ∷ rs) l e = absurd (omega arith)
from_length (s ∷ ts) [] l e = absurd (omega arith)
from_length (s ∷ ts) (q ∷ rs) l e =
    omega (arith, from_length ts rs (l ++ (mark_on s q l ∷ [])) (omega arith), length-append l (mark_on s q l ∷ []))

-- Where there is a range for each step, there is a mark for each step.
pub marks_length : (ts : List Step) (rs : List Range) → length ts ≡ length rs → length (marks_of ts rs) ≡ length ts
marks_length ts rs e = omega (arith, from_length ts rs [] e)

-- ---- each is its rule's

-- the marks before stay
follow : (ts : List Step) (rs : List Range) (l : List Bool) → Begins l (marks_from ts rs l)
unfolding marks_from
follow [] rs l = begins_all l
follow (t ∷ ts) [] l = begins_all l
follow (t ∷ ts) (r ∷ rs) l = begins_less l (marks_from ts rs (l ++ (mark_on t r l ∷ []))) (mark_on t r l) (follow ts rs (l ++ (mark_on t r l ∷ [])))

-- the mark at the place i is t's, of the marks before that place
abbrev MarkAt : List Bool → ℕ → Step → Range → Type 0
MarkAt m i t r = get_or m i no_mark ≡ mark_on t r (take i m)

from_each : (ts : List Step) (rs : List Range) (l : List Bool) → length ts ≡ length rs → (k : ℕ) → k < length ts
    → MarkAt (marks_from ts rs l) (length l + k) (get_or ts k no_step) (get_or rs k no_range)
unfolding marks_from
from_each [] rs l e k h = absurd (omega arith)
from_each (t ∷ ts) [] l e k h = absurd (omega arith)
from_each (t ∷ ts) (r ∷ rs) l e zero h =
    let g = begins_at l (marks_from ts rs (l ++ (mark_on t r l ∷ []))) (mark_on t r l) (follow ts rs (l ++ (mark_on t r l ∷ []))) no_mark in
    g.0 ∙ ap (mark_on t r) (sym g.1)
from_each (t ∷ ts) (r ∷ rs) l e (suc k) h =
    let n : length (l ++ (mark_on t r l ∷ [])) + k ≡ length l + suc k = omega (arith, length-append l (mark_on t r l ∷ [])) in
    rw n at (from_each ts rs (l ++ (mark_on t r l ∷ [])) (omega arith) k (omega arith))

-- Each step's mark is what its rule gives of its own range and of the marks of the steps before it.
pub marks_each : (ts : List Step) (rs : List Range) → length ts ≡ length rs → (k : ℕ) → k < length ts
    → get_or (marks_of ts rs) k no_mark ≡ mark_on (get_or ts k no_step) (get_or rs k no_range) (take k (marks_of ts rs))
marks_each ts rs e k h =
    let n : 0 + k ≡ k = omega arith in
    rw n at (from_each ts rs [] e k h)

-- ---- what is true of every marked step

-- l has an entry for each step: its value, or its range. If P holds of the entry of each step that its rule marks, as soon as it holds of its marked
-- operands' entries, it holds of every marked step's. Past the last step it holds of d, so that an operand's place needs no bound.
module _ {A : Type 0} (P : A → Type 0) (d : A) (none : P d) (ts : List Step) (rs : List Range) (l : List A) (e : length ts ≡ length rs) (c : length l ≡ length ts)
    (step : (k : ℕ) → k < length ts → (a b : Bool)
    → (a ≡ true → P (get_or (take k l) (first (get_or ts k no_step)) d)) → (b ≡ true → P (get_or (take k l) (second (get_or ts k no_step)) d))
    → mark_rule (get_or ts k no_step).opcode (get_or rs k no_range) a b ≡ true → P (get_or l k d)) where
  operand : (n : ℕ) → n ≤ length ts → ((k : ℕ) → k < n → get_or (marks_of ts rs) k no_mark ≡ true → P (get_or l k d))
      → (k : ℕ) → get_or (take n (marks_of ts rs)) k no_mark ≡ true → P (get_or (take n l) k d)
  operand n h more k m = ⊎_elim before past (lt_or_ge k n)
    where
      before : k < n → P (get_or (take n l) k d)
      before b = rw (get_or-take n l k d b) (more k b (sym (get_or-take n (marks_of ts rs) k no_mark b) ∙ m))

      past : n ≤ k → P (get_or (take n l) k d)
      past b =
          let q : length (take n l) ≤ k = omega (arith, length-take-le n l (omega arith)) in
          rw (get_or-eq_default (take n l) d q) none

  so_far : (n : ℕ) → n ≤ length ts → (k : ℕ) → k < n → get_or (marks_of ts rs) k no_mark ≡ true → P (get_or l k d)
  so_far zero h k b m = absurd (omega arith)
  so_far (suc n) h k b m = ⊎_elim (λ q. so_far n (omega arith) k q m) (λ q. last (operand n (omega arith) (so_far n (omega arith))) (omega arith)) (lt_or_ge k n)
    where
      last : ((j : ℕ) → get_or (take n (marks_of ts rs)) j no_mark ≡ true → P (get_or (take n l) j d)) → k ≡ n → P (get_or l k d)
      last more q =
          step k (omega arith) (get_or (take k (marks_of ts rs)) (first (get_or ts k no_step)) no_mark) (get_or (take k (marks_of ts rs)) (second (get_or ts k no_step)) no_mark)
          (rw q (more (first (get_or ts n no_step))))
          (rw q (more (second (get_or ts n no_step))))
          (sym (marks_each ts rs e k (omega arith)) ∙ m)

  pub by_marks : (k : ℕ) → k < length ts → get_or (marks_of ts rs) k no_mark ≡ true → P (get_or l k d)
  by_marks k b m = so_far (length ts) (omega arith) k b m
