-- The marks beside the ranges, in a loop that works both out step by step: of the steps so far, the marks are those of the definition. Assumes
-- nothing.
use mathlib.Core.Path.{◌≡◌, refl, ap, sym, ◌∙◌}
use mathlib.Core.Bool.{Bool, cond}
use mathlib.Core.List.{List, [], ◌∷◌, ◌++◌, map, map-append, map-id}
use Prim.Native.Nat.{ℕ, ◌+◌, ◌≤◌, ◌<◌}
use native.Mathlib.Omega.{arith}
use lib.Dec.{ltb}
use lib.ListN.{length, take, set, get_or, replicate, length-map}
use lib.Seq.{get_or-take, length-take-le}
use Rattle.recipe.specs.declared.Step.{Step}
use Rattle.recipe.specs.Text.{most_steps, first, second}
use Rattle.recipe.specs.Packed.{step_at, steps_in}
use Rattle.recipe.proofs.Packed.{steps_length, steps_more}
use Rattle.semantics.specs.Mark.{no_mark, mark_rule, marks_from, marks_of}
use Rattle.semantics.proofs.Lists.{grow, get_d_any}
use Rattle.semantics.proofs.Filled.{Filled, filled_start, filled_more, fetch}
use Rattle.semantics.proofs.Marks.{marks_more}
use Rattle.ranges.specs.declared.Range.{Range}
use Rattle.ranges.specs.Seen.{seen_range}

-- of the steps in the words w, i have their marks, the first i of `marks`
pub record Marked (w : List ℕ) (ranges : List Range) (marks : List Bool) (i : ℕ) : Type 0 where
  pub filled : Filled no_mark marks i
  pub same : marks_of (steps_in w i) (map seen_range (take i ranges)) ≡ take i marks

pub marked_start : (w : List ℕ) (ranges : List Range) → Marked w ranges (replicate most_steps no_mark) 0
unfolding marks_from steps_in
marked_start w ranges = record { filled = filled_start no_mark; same = refl }

module _ (w : List ℕ) (ranges : List Range) (marks : List Bool) (i : ℕ) (g : Marked w ranges marks i) where
  -- the operand's mark that the loop fetched is that of the rule
  fetched : (k f : ℕ) (z : Bool) → i < most_steps → f ≡ cond (ltb k i) k i → get_or marks f z ≡ get_or (take i marks) k no_mark
  fetched k f z h e = fetch no_mark marks i g.filled (λ (m : Bool). m) k f z h e ∙ ap (λ (l : List Bool). get_or l k no_mark) (map-id (take i marks))

  pub marked_more : i < most_steps → length ranges ≡ most_steps → (t : Step) → t ≡ step_at w i → (f₁ f₂ : ℕ) (y z : Bool)
      → f₁ ≡ cond (ltb (first t) i) (first t) i → f₂ ≡ cond (ltb (second t) i) (second t) i
      → (v : Range) (m : Bool) → m ≡ mark_rule t.opcode (seen_range v) (get_or marks f₁ y) (get_or marks f₂ z) → Marked w (set ranges i v) (set marks i m) (i + 1)
  marked_more h long t et f₁ f₂ y z e₁ e₂ v m em =
      let a : i < length ranges = omega arith in
      let b : i < length marks = omega (arith, g.filled.long) in
      let n : length (steps_in w i) ≡ length (map seen_range (take i ranges)) =
      steps_length w i ∙ sym (length-map (take i ranges) seen_range ∙ length-take-le i ranges (omega arith)) in
      record {
        filled = filled_more no_mark marks i g.filled m;
        same = rw (steps_more w i, sym et, grow ranges i v a, map-append, grow marks i m b)
            (marks_more (steps_in w i) (map seen_range (take i ranges)) [] t (seen_range v) n
            ∙ rw g.same
            (ap (λ (x : Bool). take i marks ++ (x ∷ []))
            (rw (sym (fetched (first t) f₁ y h e₁), sym (fetched (second t) f₂ z h e₂)) (sym em))));
      }

  -- one of them, as the line of its step takes it
  pub mark_at : (j n : ℕ) (d : Bool) → j < n → n ≤ most_steps → get_or marks j d ≡ get_or (take n marks) j no_mark
  mark_at j n d h l = let w = g.filled.long in get_d_any marks j d no_mark (omega arith) ∙ sym (get_or-take n marks j no_mark h)

  -- all of them
  pub marks_done : (n : ℕ) → n ≡ i → marks_of (steps_in w n) (map seen_range (take n ranges)) ≡ take n marks
  marks_done n e = rw e g.same
