-- Steps in words: each is found at its place, a step more stands after the others, a step's three words give it back, and words past those of the
-- steps stay as they are. Assumes nothing.
use mathlib.Core.Path.{◌≡◌, refl, ap, ◌∙◌}
use mathlib.Core.Bool.{false, not, ◌||◌}
use mathlib.Core.List.{List, [], ◌∷◌, ◌++◌}
use mathlib.Core.Logic.{◌⊎◌, inl, inr, ⊎_elim}
use Prim.Native.Nat.{ℕ, zero, suc, ◌+◌, ◌*◌, ◌/◌, ◌%◌, ◌^◌, ◌≤◌, ◌<◌}
use native.Mathlib.Omega.{arith}
use native.Mathlib.Nat.{add-mul-div_left, div-eq_of_lt}
use native.Mathlib.Numerals.{add-one}
use lib.Dec.{ltb, eqb}
use lib.ListN.{length, take, drop, set, get_or, length-append, length-set, drop_of_length-le, get_or-append}
use lib.Seq.{get_or-take, get_or_at, drop-cons, drop-set-lt, length-take-le, get_or-set_same, get_or-set_other}
use borrow.Author.Tests.{eq-eqb, ne_eqb, le-ltb, eqb-false, ltb-false}
use Rattle.recipe.specs.declared.Step.{Step}
use Rattle.recipe.specs.Text.{most_steps, step, no_step, first, second}
use Rattle.recipe.specs.Packed.{head, unpacked, step_at, put_at, put_steps, steps_in, steps_of, bad_words}
use Rattle.recipe.specs.Answer.{Formed, Holds}
use Rattle.recipe.proofs.Counts.{or_false, not_false, positive}

-- ---- the steps of some words

pub steps_length : (w : List ℕ) (n : ℕ) → length (steps_in w n) ≡ n
unfolding steps_in
steps_length w zero = refl
steps_length w (suc n) = length-append (steps_in w n) (step_at w n ∷ []) ∙ omega (arith, steps_length w n)

pub steps_more : (w : List ℕ) (n : ℕ) → steps_in w (n + 1) ≡ steps_in w n ++ (step_at w n ∷ [])
unfolding steps_in
steps_more w n = rw (add-one n)

last_or_before : (k n : ℕ) → k < suc n → (k < n) ⊎ (n ≡ k)
last_or_before zero zero h = inr refl
last_or_before zero (suc n) h = inl (omega arith)
last_or_before (suc k) zero h = absurd (omega arith)
last_or_before (suc k) (suc n) h = ⊎_elim (λ (l : k < n). inl (omega arith)) (λ (e : n ≡ k). inr (ap suc e)) (last_or_before k n (omega arith))

pub steps_at : (w : List ℕ) (n k : ℕ) (d : Step) → k < n → get_or (steps_in w n) k d ≡ step_at w k
unfolding steps_in
steps_at w zero k d h = absurd (omega arith)
steps_at w (suc n) k d h =
    let e = steps_length w n in
    ⊎_elim
    (λ (l : k < n). get_or-append (steps_in w n) (step_at w n ∷ []) d k (omega arith) ∙ steps_at w n k d l)
    (λ (q : n ≡ k). get_or_at (steps_in w n) (step_at w n) [] d k (e ∙ q) ∙ ap (λ (j : ℕ). step_at w j) q)
    (last_or_before k n h)

-- the same words give the same steps
pub steps_same : (v w : List ℕ) (n : ℕ) → ((k : ℕ) → k < n → step_at v k ≡ step_at w k) → steps_in v n ≡ steps_in w n
unfolding steps_in
steps_same v w zero h = refl
steps_same v w (suc n) h = rw (steps_same v w n (λ k l. h k (omega arith)), h n (omega arith))

module _ (w : List ℕ) (n i : ℕ) where
  -- what is left from step i on: the next one and the rest, or nothing
  pub next_step : i < n → drop i (steps_in w n) ≡ step_at w i ∷ drop (i + 1) (steps_in w n)
  next_step h =
      let e = steps_length w n in
      rw (add-one i, drop-cons (steps_in w n) i no_step (omega arith), steps_at w n i no_step h)

  pub none_left : n ≤ i → drop i (steps_in w n) ≡ []
  none_left h = let e = steps_length w n in drop_of_length-le (steps_in w n) {i = i} (omega arith)

-- ---- a part of the words

at_first : (w : List ℕ) (m k : ℕ) → 3 * k + 2 < m → step_at (take m w) k ≡ step_at w k
unfolding step_at
at_first w m k h = rw (get_or-take m w (3 * k) 0 (omega arith), get_or-take m w (3 * k + 1) 0 (omega arith), get_or-take m w (3 * k + 2) 0 h)

third : (n : ℕ) → 3 * n / 3 ≡ n
third n = omega arith

-- the words up to step n have the first n steps, and no more
pub steps_first : (w : List ℕ) (n : ℕ) → 3 * n ≤ length w → steps_of (take (3 * n) w) ≡ steps_in w n
steps_first w n h =
    rw (length-take-le (3 * n) w h, third n)
    (steps_same (take (3 * n) w) w n (λ k l. at_first w (3 * n) k (omega arith)))

pub holds_first : (w : List ℕ) (n : ℕ) → 3 * n ≤ length w → Formed most_steps (steps_in w n) → Holds (steps_in w n) (take (3 * n) w)
holds_first w n h f = record { formed = f; size = length-take-le (3 * n) w h ∙ rw (steps_length w n); kept = steps_first w n h }

whole_words : (n m : ℕ) → m ≡ 3 * n → 1 ≤ n → n ≤ most_steps → bad_words m ≡ false
whole_words n m e a b =
    let z : m ≡ 0 → ⊥ = λ q. omega arith in
    let r : m % 3 ≡ 0 = omega arith in
    rw (ne_eqb m 0 z, eq-eqb (m % 3) 0 r, le-ltb (3 * most_steps) m (omega arith))

-- words that hold formed steps are as many as steps have
pub holds_words : (l : List Step) (w : List ℕ) → Holds l w → bad_words (length w) ≡ false
holds_words l w h = whole_words (length l) (length w) h.size h.formed.some h.formed.few

-- how many steps good words have
pub words_count : (m : ℕ) → bad_words m ≡ false → (1 ≤ m / 3) × (m / 3 ≤ most_steps) × (3 * (m / 3) ≡ m)
words_count m e =
    let a = or_false (eqb m 0 || not (eqb (m % 3) 0)) (ltb (3 * most_steps) m) e in
    let b = or_false (eqb m 0) (not (eqb (m % 3) 0)) a.0 in
    let z = eqb-false m 0 b.0 in
    let r : m % 3 ≡ 0 = not_false (m % 3) 0 (eqb (m % 3) 0) refl b.1 in
    let l = ltb-false (3 * most_steps) m a.1 in
    let p : 1 ≤ m = positive m z in
    (omega arith, omega arith, omega arith)

-- ---- a step put into its words

-- what stands above a field
above : (k x y : ℕ) → 0 < k → x < k → (x + k * y) / k ≡ y
above k x y p h = add-mul-div_left x y p ∙ rw (div-eq_of_lt h) (omega arith)

pub back : (o a b p q : ℕ) → o < 2 ^ 8 → a < 2 ^ 16 → b < 2 ^ 16 → unpacked (head (step o a b p q)) p q ≡ step o a b p q
back o a b p q ho ha hb =
    let h : o + 2 ^ 8 * a < 2 ^ 24 = omega arith in
    let eo : (o + 2 ^ 8 * a + 2 ^ 24 * b) % 2 ^ 8 ≡ o = omega arith in
    let j : o + 2 ^ 8 * a + 2 ^ 24 * b ≡ o + 2 ^ 8 * (a + 2 ^ 16 * b) = omega arith in
    let ea : (o + 2 ^ 8 * a + 2 ^ 24 * b) / 2 ^ 8 % 2 ^ 16 ≡ a = rw (j, above (2 ^ 8) o (a + 2 ^ 16 * b) (omega arith) ho) (omega arith) in
    let eb : (o + 2 ^ 8 * a + 2 ^ 24 * b) / 2 ^ 24 % 2 ^ 16 ≡ b = rw (above (2 ^ 24) (o + 2 ^ 8 * a) b (omega arith) h) (omega arith) in
    rw (eo, ea, eb)

module _ (w : List ℕ) (i : ℕ) (t : Step) (fits : 3 * i + 2 < length w) where
  pub put_length : length (put_at w i t) ≡ length w
  put_length = simp length-set

  first_word : get_or (put_at w i t) (3 * i) 0 ≡ head t
  first_word =
      get_or-set_other (set (set w (3 * i) (head t)) (3 * i + 1) t.p) (3 * i + 2) (3 * i) t.q 0 (λ (e : 3 * i ≡ 3 * i + 2). omega arith)
      ∙ get_or-set_other (set w (3 * i) (head t)) (3 * i + 1) (3 * i) t.p 0 (λ (e : 3 * i ≡ 3 * i + 1). omega arith)
      ∙ get_or-set_same w (3 * i) (head t) 0 (omega arith)

  second_word : get_or (put_at w i t) (3 * i + 1) 0 ≡ t.p
  second_word =
      let l : 3 * i + 1 < length (set w (3 * i) (head t)) = simp length-set (omega arith) in
      get_or-set_other (set (set w (3 * i) (head t)) (3 * i + 1) t.p) (3 * i + 2) (3 * i + 1) t.q 0 (λ (e : 3 * i + 1 ≡ 3 * i + 2). omega arith)
      ∙ get_or-set_same (set w (3 * i) (head t)) (3 * i + 1) t.p 0 l

  third_word : get_or (put_at w i t) (3 * i + 2) 0 ≡ t.q
  third_word =
      let l : 3 * i + 2 < length (set (set w (3 * i) (head t)) (3 * i + 1) t.p) = simp length-set (omega arith) in
      get_or-set_same (set (set w (3 * i) (head t)) (3 * i + 1) t.p) (3 * i + 2) t.q 0 l

  put_there : t.opcode < 2 ^ 8 → first t < 2 ^ 16 → second t < 2 ^ 16 → step_at (put_at w i t) i ≡ t
  unfolding step_at
  put_there ho ha hb = rw (first_word, second_word, third_word) (back t.opcode (first t) (second t) t.p t.q ho ha hb)

  other_word : (j : ℕ) → j < 3 * i → get_or (put_at w i t) j 0 ≡ get_or w j 0
  other_word j h =
      get_or-set_other (set (set w (3 * i) (head t)) (3 * i + 1) t.p) (3 * i + 2) j t.q 0 (λ (e : j ≡ 3 * i + 2). omega arith)
      ∙ get_or-set_other (set w (3 * i) (head t)) (3 * i + 1) j t.p 0 (λ (e : j ≡ 3 * i + 1). omega arith)
      ∙ get_or-set_other w (3 * i) j (head t) 0 (λ (e : j ≡ 3 * i). omega arith)

  put_before : (k : ℕ) → k < i → step_at (put_at w i t) k ≡ step_at w k
  unfolding step_at
  put_before k h = rw (other_word (3 * k) (omega arith), other_word (3 * k + 1) (omega arith), other_word (3 * k + 2) (omega arith))

  -- the steps before it stay, and it stands after them
  pub put_more : t.opcode < 2 ^ 8 → first t < 2 ^ 16 → second t < 2 ^ 16 → steps_in (put_at w i t) (i + 1) ≡ steps_in w i ++ (t ∷ [])
  put_more ho ha hb = rw (steps_more (put_at w i t) i, put_there ho ha hb, steps_same (put_at w i t) w i put_before)

-- ---- several steps put into their words

module _ (w : List ℕ) where
  pub put_steps_length : (l : List Step) (n : ℕ) → length (put_steps w l n) ≡ length w
  unfolding put_steps
  put_steps_length l zero = refl
  put_steps_length l (suc n) = simp length-set (put_steps_length l n)

  -- the words past n steps stay as they are
  pub put_steps_rest : (l : List Step) (n k : ℕ) → 3 * n ≤ k → drop k (put_steps w l n) ≡ drop k w
  unfolding put_steps
  put_steps_rest l zero k h = refl
  put_steps_rest l (suc n) k h =
      let t : Step = get_or l n no_step in
      let u : List ℕ = put_steps w l n in
      drop-set-lt k (set (set u (3 * n) (head t)) (3 * n + 1) t.p) (3 * n + 2) t.q (omega arith)
      ∙ drop-set-lt k (set u (3 * n) (head t)) (3 * n + 1) t.p (omega arith)
      ∙ drop-set-lt k u (3 * n) (head t) (omega arith)
      ∙ put_steps_rest l n k (omega arith)

  -- the first n steps are all that matter
  put_steps_first : (l : List Step) (t : Step) (n : ℕ) → n ≤ length l → put_steps w (l ++ (t ∷ [])) n ≡ put_steps w l n
  unfolding put_steps
  put_steps_first l t zero h = refl
  put_steps_first l t (suc n) h =
      rw (put_steps_first l t n (omega arith), get_or-append l (t ∷ []) no_step n (omega arith))

  -- one step more
  pub put_steps_more : (l : List Step) (t : Step) (n : ℕ) → length l ≡ n → put_steps w (l ++ (t ∷ [])) (n + 1) ≡ put_at (put_steps w l n) n t
  unfolding put_steps
  put_steps_more l t n e = rw (add-one n, put_steps_first l t n (omega arith), get_or_at l t [] no_step n e)
