-- The explanation of a recipe and its sheet: a reason is named exactly where the sheet is refused with 20 to 22, at that step; its fact is true of
-- the ranges of the steps before, and no fact before it in the opcode's list is. Assumes nothing.
use mathlib.Core.Path.{◌≡◌, refl, sym, ap, ◌∙◌}
use mathlib.Core.Bool.{Bool}
use mathlib.Core.List.{List, [], ◌∷◌, ◌++◌, append_assoc}
use mathlib.Core.Logic.{⊎_elim}
use Prim.Native.Nat.{ℕ, suc, ◌*◌, ◌≤◌, ◌<◌}
use native.Mathlib.Omega.{arith}
use lib.ListN.{length, get_or, length-append}
use Rattle.recipe.specs.declared.Step.{Step}
use Rattle.recipe.specs.Text.{Text, steps, short, first, second, read_text}
use Rattle.recipe.specs.Text as text
use Rattle.recipe.proofs.Laws.{read_refused}
use Rattle.semantics.specs.Range.{Range, Ranged, ranged}
use Rattle.semantics.specs.Range as range
use Rattle.semantics.specs.Mark.{marks_of}
use Rattle.semantics.specs.Sheet.{no_range, step_on, on_ranged, sheet_from}
use Rattle.semantics.specs.Sheet as sheet
use Rattle.semantics.specs.Shown.{Shown, shown, marked, sheet_line, sheet_of}
use Rattle.semantics.specs.Shown as call
use Rattle.semantics.specs.Cause.{Cause, causes_of, operand_of}
use Rattle.semantics.specs.Explain.{Explained, passed, explained, refused, reason_of, why_on, on_step, explain_from, explain_steps, on_text, explain_of}
use Rattle.semantics.proofs.Calls.{sheet_refused, sheet_read, sheet_reached}
use Rattle.semantics.proofs.Causes.{First, Turned, turned_down}

-- ---- the explanation beside the sheet

-- both pass; or the sheet is refused with 20 to 22 and the explanation names a reason at that step; or the text is refused, for both alike
pub data Tied : Shown → Explained → Type 0 where
  both_pass : (rs : List Range) (ms : List Bool) → Tied (shown rs ms) passed
  named : (number k o c : ℕ) → 20 ≤ number → number ≤ 22 → 0 < c → Tied (call.refused number k) (explained k o c)
  before : (number k : ℕ) → 10 ≤ number → number ≤ 17 → Tied (call.refused number k) (refused number k)

-- why the step t, turned down after steps of the ranges rs, is
abbrev because : (k : ℕ) (t : Step) (rs : List Range) (number : ℕ) → Turned t (get_or rs (first t) no_range) (get_or rs (second t) no_range) number → Explained
because k t rs number d = explained k (operand_of t d.why.names) d.why.code

why_is : (k : ℕ) (t : Step) (rs : List Range) (number : ℕ) (d : Turned t (get_or rs (first t) no_range) (get_or rs (second t) no_range) number) → why_on k t rs ≡ because k t rs number d
why_is k t rs number d = ap (reason_of k t) d.is

-- the marks, of whatever steps all, make no difference to it
tied_from : (all l : List Step) (k : ℕ) (rs : List Range) → Tied (marked all (sheet_from l k rs)) (explain_from l k rs)
unfolding sheet_from explain_from on_ranged on_step marked
tied_from all [] k rs = both_pass rs (marks_of all rs)
tied_from all (t ∷ ts) k rs = pick (step_on t rs) refl (λ r. tied_from all ts (suc k) (rs ++ (r ∷ [])))
  where
    pick : (x : Ranged) → step_on t rs ≡ x → ((r : Range) → Tied (marked all (sheet_from ts (suc k) (rs ++ (r ∷ [])))) (explain_from ts (suc k) (rs ++ (r ∷ []))))
        → Tied (marked all (on_ranged x k (λ r. sheet_from ts (suc k) (rs ++ (r ∷ []))))) (on_step x (why_on k t rs) (λ r. explain_from ts (suc k) (rs ++ (r ∷ []))))
    pick (ranged r) e more = more r
    pick (range.refused number) e more =
        let d = turned_down t (get_or rs (first t) no_range) (get_or rs (second t) no_range) number e in
        rw (why_is k t rs number d) (named number k (operand_of t d.why.names) d.why.code d.from_20 d.to_22 d.coded)

-- of steps
pub explains : (l : List Step) → Tied (marked l (sheet_from l 0 [])) (explain_steps l)
unfolding explain_steps
explains l = tied_from l l 0 []

-- of a text, with room for its sheet
pub explains_text : (t : List ℕ) (room : ℕ) → ((l : List Step) → read_text short t ≡ steps l → sheet_line * length l ≤ room) → Tied (sheet_of t room) (explain_of t)
unfolding explain_of on_text
explains_text t room h = pick (read_text short t) refl
  where
    pick : (x : Text) → read_text short t ≡ x → Tied (sheet_of t room) (on_text x)
    pick (steps l) e = rw (sheet_read t room l e ∙ sheet_reached l room (h l e)) (explains l)
    pick (text.refused number place) e =
        rw (sheet_refused t room number place e)
        (before number place
        (⊎_elim (λ a. omega (arith, a.0)) (λ a. omega (arith, a.0)) (read_refused short t number place e))
        (⊎_elim (λ a. omega (arith, a.0)) (λ a. omega (arith, a.1)) (read_refused short t number place e)))

-- ---- the reason

-- Step k of the steps l is turned down: the steps before it have these ranges by the sheet's rules, the first of its causes that is true of them
-- has the code c, and the operand named is the step o.
pub record Reason (l : List Step) (k o c : ℕ) : Type 0 where
  pub earlier : List Step
  pub step : Step
  pub later : List Step
  pub parts : l ≡ earlier ++ (step ∷ later)
  pub place : k ≡ length earlier
  pub ranges : List Range
  pub passes : sheet_from earlier 0 [] ≡ sheet.passed ranges
  pub why : Cause
  pub first : First (causes_of step.opcode (get_or ranges (first step) no_range) (get_or ranges (second step) no_range)) why
  pub refusal : step_on step ranges ≡ range.refused why.number
  pub code : c ≡ why.code
  pub operand : o ≡ operand_of step why.names

-- one step more
sheet_more : (xs : List Step) (k : ℕ) (l rs : List Range) (t : Step) (r : Range) → sheet_from xs k l ≡ sheet.passed rs → step_on t rs ≡ ranged r
    → sheet_from (xs ++ (t ∷ [])) k l ≡ sheet.passed (rs ++ (r ∷ []))
unfolding sheet_from on_ranged
sheet_more [] k l rs t r e g =
    let h : l ≡ rs = cc in
    rw (ap (step_on t) h ∙ g) (ap (λ (m : List Range). sheet.passed (m ++ (r ∷ []))) h)
sheet_more (x ∷ xs) k l rs t r e g = pick (step_on x l) e (λ q. sheet_more xs (suc k) (l ++ (q ∷ [])) rs t r)
  where
    pick : (y : Ranged) → on_ranged y k (λ q. sheet_from xs (suc k) (l ++ (q ∷ []))) ≡ sheet.passed rs
        → ((q : Range) → sheet_from xs (suc k) (l ++ (q ∷ [])) ≡ sheet.passed rs → step_on t rs ≡ ranged r → sheet_from (xs ++ (t ∷ [])) (suc k) (l ++ (q ∷ [])) ≡ sheet.passed (rs ++ (r ∷ [])))
        → on_ranged y k (λ q. sheet_from (xs ++ (t ∷ [])) (suc k) (l ++ (q ∷ []))) ≡ sheet.passed (rs ++ (r ∷ []))
    pick (ranged q) e more = more q e g
    pick (range.refused n) e more = let z : ◌≡◌ {A = ℕ} 0 1 = cc in absurd (omega arith)

module _ (j o c : ℕ) where
  reason_from : (xs ls : List Step) (k : ℕ) (rs : List Range) → k ≡ length xs → sheet_from xs 0 [] ≡ sheet.passed rs → explain_from ls k rs ≡ explained j o c → Reason (xs ++ ls) j o c
  unfolding explain_from on_step
  reason_from xs [] k rs ek es e = let z : ◌≡◌ {A = ℕ} 0 1 = cc in absurd (omega arith)
  reason_from xs (t ∷ ts) k rs ek es e =
      pick (step_on t rs) refl e
      (λ r g f.
      rw (append_assoc xs (t ∷ []) ts) at
      (reason_from (xs ++ (t ∷ [])) ts (suc k) (rs ++ (r ∷ [])) (rw (length-append xs (t ∷ [])) (omega arith)) (sheet_more xs 0 [] rs t r es g) f))
    where
      pick : (x : Ranged) → step_on t rs ≡ x → on_step x (why_on k t rs) (λ r. explain_from ts (suc k) (rs ++ (r ∷ []))) ≡ explained j o c
          → ((r : Range) → step_on t rs ≡ ranged r → explain_from ts (suc k) (rs ++ (r ∷ [])) ≡ explained j o c → Reason (xs ++ (t ∷ ts)) j o c)
          → Reason (xs ++ (t ∷ ts)) j o c
      pick (ranged r) g e more = more r g e
      pick (range.refused number) g e more =
          let d = turned_down t (get_or rs (first t) no_range) (get_or rs (second t) no_range) number g in
          let f : explained k (operand_of t d.why.names) d.why.code ≡ explained j o c = sym (why_is k t rs number d) ∙ e in
          record {
            earlier = xs;
            step = t;
            later = ts;
            parts = refl;
            place = let q : k ≡ j = cc in sym q ∙ ek;
            ranges = rs;
            passes = es;
            why = d.why;
            first = d.first;
            refusal = g ∙ ap range.refused (sym d.same);
            code = cc;
            operand = cc;
          }

-- of steps ..
pub reason_of_lem : (l : List Step) (k o c : ℕ) → explain_steps l ≡ explained k o c → Reason l k o c
unfolding explain_steps sheet_from
reason_of_lem l k o c e = reason_from k o c [] l 0 [] refl refl e
