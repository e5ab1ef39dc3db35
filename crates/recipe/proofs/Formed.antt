-- The laws of `Laws`, shown check by check and line by line. Assumes nothing.
use mathlib.Core.Path.{◌≡◌, refl, sym}
use mathlib.Core.Bool.{Bool, true, false, ◌&&◌, cond}
use mathlib.Core.List.{List, [], ◌∷◌, ◌++◌}
use mathlib.Core.Logic.{◌⊎◌, inl, inr, ⊎_elim}
use Prim.Native.Nat.{ℕ, zero, suc, ◌+◌, ◌*◌, ◌/◌, ◌%◌, ◌≤◌, ◌<◌}
use native.Mathlib.Omega.{arith}
use native.Mathlib.Nat.{div-add-mod', div-le_of_le-mul, mul_comm}
use lib.Dec.{leb, ltb}
use lib.ListN.{length, get_or, take, length-append, get_or-append}
use lib.Seq.{take-append-le, take_at, take-suc, get_or_at}
use borrow.Author.Tests.{ltb-true, ltb-false, leb-false}
use Rattle.recipe.specs.declared.Step.{Step}
use Rattle.recipe.specs.declared.Reading.{Reading}
use Rattle.recipe.specs.Table.{row_of, is_input}
use Rattle.recipe.specs.Text.{Form, line_length, Line, good, malformed, Text, steps, refused, Next, added, stopped, no_step, is_unknown, unused_set, operand_ahead, wrong_kind, bad_range, inputs_in, step_refusal, judged, next_of, on_next, line_at, read_from, bad_length}
use Rattle.recipe.specs.Packed.{steps_in}
use Rattle.recipe.specs.Answer.{Says, Formed, Checked}
use Rattle.recipe.proofs.Counts.{never, whole_lines, inputs_more}

-- ---- one step's refusal

past_zero : (b : Bool) (m x : ℕ) → 0 < m → cond b m x ≡ 0 → (b ≡ false) × (x ≡ 0)
past_zero true m x h e = absurd (omega arith)
past_zero false m x h e = (refl, e)

pub checked : (l : List Step) (t : Step) → step_refusal l t ≡ 0 → Checked l t
unfolding step_refusal
checked l t e =
    let row = row_of t.opcode in
    let c17 : ℕ = cond (is_input row && leb 16 (inputs_in l)) 17 0 in
    let c16 : ℕ = cond (bad_range row t) 16 c17 in
    let c15 : ℕ = cond (wrong_kind row l t) 15 c16 in
    let c14 : ℕ = cond (operand_ahead row (length l) t) 14 c15 in
    let c13 : ℕ = cond (unused_set row t) 13 c14 in
    let p12 = past_zero (is_unknown row) 12 c13 (omega arith) e in
    let p13 = past_zero (unused_set row t) 13 c14 (omega arith) p12.1 in
    let p14 = past_zero (operand_ahead row (length l) t) 14 c15 (omega arith) p13.1 in
    let p15 = past_zero (wrong_kind row l t) 15 c16 (omega arith) p14.1 in
    let p16 = past_zero (bad_range row t) 16 c17 (omega arith) p15.1 in
    let p17 = past_zero (is_input row && leb 16 (inputs_in l)) 17 0 (omega arith) p16.1 in
    record { known = p12.0; unused = p13.0; earlier = p14.0; kinds = p15.0; range = p16.0; inputs = p17.0 }

-- 0, or 12 to 17
abbrev pub Number : ℕ → Type 0
Number n = (n ≤ 17) × (0 < n → 12 ≤ n)

either : (b : Bool) (x y : ℕ) → 12 ≤ x → x ≤ 17 → Number y → Number (cond b x y)
either true x y l h n = (h, λ z. l)
either false x y l h n = n

pub numbered : (l : List Step) (t : Step) → Number (step_refusal l t)
unfolding step_refusal
numbered l t =
    let row = row_of t.opcode in
    let z : Number 0 = (omega arith, λ h. omega arith) in
    let n17 = either (is_input row && leb 16 (inputs_in l)) 17 0 (omega arith) (omega arith) z in
    let n16 = either (bad_range row t) 16 _ (omega arith) (omega arith) n17 in
    let n15 = either (wrong_kind row l t) 15 _ (omega arith) (omega arith) n16 in
    let n14 = either (operand_ahead row (length l) t) 14 _ (omega arith) (omega arith) n15 in
    let n13 = either (unused_set row t) 13 _ (omega arith) (omega arith) n14 in
    either (is_unknown row) 12 _ (omega arith) (omega arith) n13

-- ---- what a line comes to

judged_added : (l : List Step) (u t : Step) (r : ℕ) → step_refusal l u ≡ r → judged l u r ≡ added t → step_refusal l t ≡ 0
unfolding judged
judged_added l u t zero e h = let q : u ≡ t = cc in rw (← q) e
judged_added l u t (suc r) e h = never (cc)

next_added : (l : List Step) (x : Line) (t : Step) → next_of l x ≡ added t → step_refusal l t ≡ 0
unfolding next_of
next_added l (good u) t h = judged_added l u t (step_refusal l u) refl h
next_added l malformed t h = never (cc)

judged-stopped : (l : List Step) (u : Step) (r n : ℕ) → step_refusal l u ≡ r → judged l u r ≡ stopped n → (11 ≤ n) × (n ≤ 17)
unfolding judged
judged-stopped l u zero n e h = never (cc)
judged-stopped l u (suc r) n e h =
    let q : suc r ≡ n = cc in
    let z : 0 < step_refusal l u = omega arith in
    let m = (numbered l u).1 z in
    (omega arith, omega (arith, (numbered l u).0))

next_stopped : (l : List Step) (x : Line) (n : ℕ) → next_of l x ≡ stopped n → (11 ≤ n) × (n ≤ 17)
unfolding next_of
next_stopped l (good u) n h = judged-stopped l u (step_refusal l u) n refl h
next_stopped l malformed n h = let q : ◌≡◌ {A = ℕ} 11 n = cc in (omega arith, omega arith)

-- ---- the lines in order

-- each step of l, after those before it, is refused for nothing
abbrev Passing : List Step → Type 0
Passing l = (k : ℕ) → k < length l → step_refusal (take k l) (get_or l k no_step) ≡ 0

last_or_before : (k n : ℕ) → k < n + 1 → (b : Bool) → ltb k n ≡ b → (k < n) ⊎ (k ≡ n)
last_or_before k n h true e = inl (ltb-true k n e)
last_or_before k n h false e = inr (omega (arith, ltb-false k n e))

passing_more : (l : List Step) (t : Step) → Passing l → step_refusal l t ≡ 0 → Passing (l ++ (t ∷ []))
passing_more l t p z k h =
    let m : k < length l + 1 = simp length-append at h in
    ⊎_elim
    (λ b.
    let c : k ≤ length l = omega arith in
    rw (take-append-le k l (t ∷ []) c, get_or-append l (t ∷ []) no_step k b) (p k b))
    (λ e. rw (take_at l (t ∷ []) k (sym e), get_or_at l t [] no_step k (sym e)) z)
    (last_or_before k (length l) m (ltb k (length l)) refl)

module _ (f : Form) (s : List ℕ) where
  module _ (m k : ℕ) (l : List Step) where
    abbrev rest : Step → Text
    rest t = read_from f s m (suc k) (l ++ (t ∷ []))

    next_passing : (r : List Step) → Passing l → ((t : Step) → Passing (l ++ (t ∷ [])) → rest t ≡ steps r → Passing r × (length r ≡ length (l ++ (t ∷ [])) + m))
        → (x : Next) → next_of l (line_at f s (k * line_length f)) ≡ x → on_next x k rest ≡ steps r → Passing r × (length r ≡ length l + suc m)
    unfolding on_next
    next_passing r p go (added t) h e =
        let i = go t (passing_more l t p (next_added l (line_at f s (k * line_length f)) t h)) e in
        (i.0, omega (arith, simp length-append at i.1))
    next_passing r p go (stopped n) h e = never (cc)

    next_refused : (n p : ℕ) → ((t : Step) → rest t ≡ refused n p → (11 ≤ n) × (n ≤ 17) × (p < suc k + m))
        → (x : Next) → next_of l (line_at f s (k * line_length f)) ≡ x → on_next x k rest ≡ refused n p → (11 ≤ n) × (n ≤ 17) × (p < k + suc m)
    unfolding on_next
    next_refused n p go (added t) h e = let i = go t e in (i.0, i.1, omega (arith, i.2))
    next_refused n p go (stopped r) h e =
        let i = next_stopped l (line_at f s (k * line_length f)) r h in
        let q : r ≡ n = cc in
        let w : k ≡ p = cc in
        (omega (arith, i.0), omega (arith, i.1), omega arith)

  -- the lines left add as many steps, and all pass
  lines_passing : (m k : ℕ) (l r : List Step) → Passing l → read_from f s m k l ≡ steps r → Passing r × (length r ≡ length l + m)
  unfolding read_from
  lines_passing zero k l r p e = let q : l ≡ r = cc in rw (← q) (p, omega arith)
  lines_passing (suc m) k l r p e =
      next_passing m k l r p (λ t q d. lines_passing m (suc k) (l ++ (t ∷ [])) r q d) (next_of l (line_at f s (k * line_length f))) refl e

  lines_refused : (m k : ℕ) (l : List Step) (n p : ℕ) → read_from f s m k l ≡ refused n p → (11 ≤ n) × (n ≤ 17) × (p < k + m)
  unfolding read_from
  lines_refused zero k l n p e = never (cc)
  lines_refused (suc m) k l n p e =
      next_refused m k l n p (λ t d. lines_refused m (suc k) (l ++ (t ∷ [])) n p d) (next_of l (line_at f s (k * line_length f))) refl e

-- ---- the text

at_least_one : (q L n r : ℕ) → q * L + r ≡ n → r ≡ 0 → (n ≡ 0 → ⊥) → 1 ≤ q
at_least_one zero L n r e z h = absurd (h (omega arith))
at_least_one (suc q) L n r e z h = omega arith

-- how many lines a text of a good length has
lines_counted : (f : Form) (n : ℕ) → bad_length f n ≡ false → (1 ≤ n / line_length f) × (n / line_length f ≤ f.most)
lines_counted f n e =
    let L = line_length f in
    let w = whole_lines f n e in
    let m : n ≤ L * f.most = rw (mul_comm L f.most) w.2 in
    (at_least_one (n / L) L n (n % L) (div-add-mod' n L) w.1 w.0, div-le_of_le-mul L m)

module _ (f : Form) (s : List ℕ) where
  pub formed_by : (l : List Step) (b : Bool) → bad_length f (length s) ≡ b → cond b (refused 10 0) (read_from f s (length s / line_length f) 0 []) ≡ steps l → Formed f.most l
  formed_by l true h e = never (cc)
  formed_by l false h e =
      let p = lines_passing f s (length s / line_length f) 0 [] l (λ k m. absurd (omega arith)) e in
      let c = lines_counted f (length s) h in
      record { some = omega (arith, p.1, c.0); few = omega (arith, p.1, c.1); passed = p.0 }

  pub refused_by : (n p : ℕ) (b : Bool) → bad_length f (length s) ≡ b → cond b (refused 10 0) (read_from f s (length s / line_length f) 0 []) ≡ refused n p
      → ((n ≡ 10) × (p ≡ 0)) ⊎ ((11 ≤ n) × (n ≤ 17) × (p < length s / line_length f))
  refused_by n p true h e = let q : n ≡ 10 = cc in let w : p ≡ 0 = cc in inl (q, w)
  refused_by n p false h e =
      let i = lines_refused f s (length s / line_length f) 0 [] n p e in
      inr (i.0, i.1, omega (arith, i.2))

one_more : (n : ℕ) (b : Bool) → n ≤ 16 → (b && leb 16 n) ≡ false → n + cond b 1 0 ≤ 16
one_more n true h e = omega (arith, leb-false 16 n e)
one_more n false h e = omega arith

pub inputs_so_far : (most : ℕ) (l : List Step) → Formed most l → (k : ℕ) → k ≤ length l → inputs_in (take k l) ≤ 16
unfolding inputs_in
inputs_so_far most l g zero h = omega arith
inputs_so_far most l g (suc k) h =
    let b : k < length l = omega arith in
    let t = get_or l k no_step in
    let c = (checked (take k l) t (g.passed k b)).inputs in
    rw (take-suc l k no_step b, inputs_more (take k l) t)
    (one_more (inputs_in (take k l)) (is_input (row_of t.opcode)) (inputs_so_far most l g k (omega arith)) c)

-- ---- the answer

-- by whether the answer has a refusal, where 0 is the number of none
pub says_which : (t : Text) (r : Reading) (w : List ℕ) → ((n p : ℕ) → t ≡ refused n p → 0 < n) → Says t r w
    → (r.refusal ≡ 0 → t ≡ steps (steps_in w r.count)) × ((r.refusal ≡ 0 → ⊥) → t ≡ refused r.refusal r.place.0)
says_which (steps l) r w h g = (λ e. rw g.kept, λ e. absurd (e g.not_refused))
says_which (refused n p) r w h g =
    let z = h n p refl in
    (λ e. absurd (omega (arith, g.numbered)), λ e. rw (g.numbered, g.placed))
