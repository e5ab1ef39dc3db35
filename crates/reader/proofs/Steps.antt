-- One line more of `read_from`, in the form in which a loop takes it: where a line stops the reading or adds a step, `read_from` computes. Assumes
-- nothing.
use mathlib.Core.Path.{◌≡◌, refl, ap, ◌∙◌}
use mathlib.Core.Bool.{false}
use mathlib.Core.List.{List, [], ◌∷◌, ◌++◌}
use Prim.Native.Nat.{ℕ, zero, suc, ◌+◌, ◌-◌, ◌*◌, ◌/◌, ◌≤◌, ◌<◌}
use native.Mathlib.Omega.{arith}
use native.Mathlib.Numerals.{add-one}
use lib.ListN.{length}
use Rattle.recipe.specs.declared.Step.{Step}
use Rattle.recipe.specs.Text.{Form, line_length, Line, good, malformed, steps, refused, added, stopped, step_refusal, judged, next_of, on_next, line_at, read_from, bad_length, read_text}
use Rattle.recipe.proofs.Counts.{never}
use Rattle.std.specs.Prelude.{Some, None}
use Rattle.reader.specs.Checks.{told}

-- ---- a line as the code tells it

pub told_good : (x : Line) (t : Step) → told x ≡ Some t → x ≡ good t
told_good (good u) t e = let q : u ≡ t = cc in ap good q
told_good malformed t e = never (cc)

pub told_malformed : (x : Line) → told x ≡ None → x ≡ malformed
told_malformed (good u) e = never (cc)
told_malformed malformed e = refl

-- ---- one line more

judged_zero : (l : List Step) (t : Step) (r : ℕ) → r ≡ 0 → judged l t r ≡ added t
unfolding judged
judged_zero l t r e = rw e

judged_more : (l : List Step) (t : Step) (r : ℕ) → (r ≡ 0 → ⊥) → judged l t r ≡ stopped r
unfolding judged
judged_more l t zero h = absurd (h refl)
judged_more l t (suc r) h = refl

next_good : (l : List Step) (x : Line) (t : Step) → x ≡ good t → next_of l x ≡ judged l t (step_refusal l t)
unfolding next_of
next_good l x t e = rw e

next_malformed : (l : List Step) (x : Line) → x ≡ malformed → next_of l x ≡ stopped 11
unfolding next_of
next_malformed l x e = rw e

module _ (f : Form) (s : List ℕ) where
  added_suc : (m k : ℕ) (l : List Step) (t : Step) → next_of l (line_at f s (k * line_length f)) ≡ added t
      → read_from f s (suc m) k l ≡ read_from f s m (suc k) (l ++ (t ∷ []))
  unfolding read_from on_next
  added_suc m k l t e = ap (λ x. on_next x k (λ t. read_from f s m (suc k) (l ++ (t ∷ [])))) e

  stopped_suc : (m k : ℕ) (l : List Step) (r : ℕ) → next_of l (line_at f s (k * line_length f)) ≡ stopped r → read_from f s (suc m) k l ≡ refused r k
  unfolding read_from on_next
  stopped_suc m k l r e = ap (λ x. on_next x k (λ t. read_from f s m (suc k) (l ++ (t ∷ [])))) e

  done_zero : (k : ℕ) (l : List Step) → read_from f s 0 k l ≡ steps l
  unfolding read_from
  done_zero k l = refl

  pub good_text : bad_length f (length s) ≡ false → read_text f s ≡ read_from f s (length s / line_length f) 0 []
  unfolding read_text
  good_text e = rw e

  module _ (n i : ℕ) (l : List Step) where
    pub read_good : (t : Step) → i < n → line_at f s (i * line_length f) ≡ good t → step_refusal l t ≡ 0
        → read_from f s (n - i) i l ≡ read_from f s (n - (i + 1)) (i + 1) (l ++ (t ∷ []))
    read_good t h e z =
        let m : n - i ≡ suc (n - (i + 1)) = omega arith in
        rw (m, add-one) (added_suc (n - suc i) i l t (next_good l (line_at f s (i * line_length f)) t e ∙ judged_zero l t (step_refusal l t) z))

    pub read_refused : (t : Step) → i < n → line_at f s (i * line_length f) ≡ good t → (step_refusal l t ≡ 0 → ⊥)
        → read_from f s (n - i) i l ≡ refused (step_refusal l t) i
    read_refused t h e z =
        let m : n - i ≡ suc (n - (i + 1)) = omega arith in
        rw m (stopped_suc (n - (i + 1)) i l (step_refusal l t) (next_good l (line_at f s (i * line_length f)) t e ∙ judged_more l t (step_refusal l t) z))

    pub read_malformed : i < n → line_at f s (i * line_length f) ≡ malformed → read_from f s (n - i) i l ≡ refused 11 i
    read_malformed h e =
        let m : n - i ≡ suc (n - (i + 1)) = omega arith in
        rw m (stopped_suc (n - (i + 1)) i l 11 (next_malformed l (line_at f s (i * line_length f)) e))

    pub read_done : n ≤ i → read_from f s (n - i) i l ≡ steps l
    read_done h = let m : n - i ≡ 0 = omega arith in rw m (done_zero i l)
