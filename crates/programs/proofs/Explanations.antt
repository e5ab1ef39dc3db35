-- What a user of the explain program would state of its output, and what the code goes by: the line of each answer. Assumes nothing.
use mathlib.Core.Path.{◌≡◌, refl, ap, ◌∙◌, sym}
use mathlib.Core.List.{List}
use Prim.Native.Nat.{ℕ, ◌<◌}
use native.Mathlib.Omega.{arith}
use lib.ListN.{length, take}
use lib.Seq.{length-take-le}
use Rattle.recipe.specs.Text.{short, longest, read_text}
use Rattle.recipe.specs.Text as text
use Rattle.recipe.proofs.Laws.{read_formed}
use Rattle.semantics.specs.declared.ExplainAnswer.{ExplainAnswer}
use Rattle.semantics.specs.Shown.{Shown, longest_sheet, sheet_of}
use Rattle.semantics.specs.Explain.{Explained, passed, explained, refused, on_text, explain_of, answer_of}
use Rattle.semantics.proofs.Explaining.{Tied, both_pass, named, before, explains_text}
use Rattle.programs.specs.Output.{refusal_line, looked_at}
use Rattle.programs.specs.Explain.{fields_line, passed_line, line_of, explain_output}
use Rattle.programs.proofs.Sheets.{long_read}

module _ (t : List ℕ) where
  -- The explanation beside the sheet that the sheet program writes.
  pub beside_sheet : Tied (sheet_of t longest_sheet) (explain_of t)
  beside_sheet = explains_text t longest_sheet (λ l e. let f = (read_formed short t l e).few in omega arith)

  -- A text that the reader refuses gives the refusal's line.
  pub explain_refused : (number place : ℕ) → read_text short t ≡ text.refused number place → explain_output t ≡ refusal_line number place
  unfolding explain_output line_of explain_of on_text
  explain_refused number place e = rw e

  -- ---- by the call's answer

  module _ (a : ExplainAnswer) (e : a ≡ answer_of (explain_of t)) where
    pub line_refused : (a.refusal ≡ 0 → ⊥) → refusal_line a.refusal a.place ≡ explain_output t
    unfolding explain_output line_of
    line_refused h = pick (explain_of t) e
      where
        pick : (x : Explained) → a ≡ answer_of x → refusal_line a.refusal a.place ≡ line_of x
        pick passed f = absurd (h (ap (λ (y : ExplainAnswer). y.refusal) f))
        pick (explained k o c) f = absurd (h (ap (λ (y : ExplainAnswer). y.refusal) f))
        pick (refused number place) f = rw f

    pub line_named : a.refusal ≡ 0 → (a.reason ≡ 0 → ⊥) → fields_line a.step a.operand a.reason ≡ explain_output t
    unfolding explain_output line_of
    line_named z h = pick beside_sheet e
      where
        pick : {s : Shown} {x : Explained} → Tied s x → a ≡ answer_of x → fields_line a.step a.operand a.reason ≡ line_of x
        pick (both_pass rs ms) f = absurd (h (ap (λ (y : ExplainAnswer). y.reason) f))
        pick (named number k o c l m p) f = rw f
        pick (before number k l m) f = absurd (omega (arith, ap (λ (y : ExplainAnswer). y.refusal) f))

    pub line_passed : a.refusal ≡ 0 → a.reason ≡ 0 → passed_line ≡ explain_output t
    unfolding explain_output line_of
    line_passed z h = pick beside_sheet e
      where
        pick : {s : Shown} {x : Explained} → Tied s x → a ≡ answer_of x → passed_line ≡ line_of x
        pick (both_pass rs ms) f = refl
        pick (named number k o c l m p) f = absurd (omega (arith, ap (λ (y : ExplainAnswer). y.reason) f))
        pick (before number k l m) f = absurd (omega (arith, ap (λ (y : ExplainAnswer). y.refusal) f))

-- The first 4,993 bytes decide.
pub long_explanation : (s : List ℕ) → longest short < length s → explain_output s ≡ explain_output (take looked_at s)
long_explanation s h =
    let n : length (take looked_at s) ≡ looked_at = length-take-le looked_at s (omega arith) in
    explain_refused s 10 0 (long_read s h) ∙ sym (explain_refused (take looked_at s) 10 0 (long_read (take looked_at s) (omega arith)))
