-- The frame's loops: how many inputs there are, their words, and their ranges. Each loop's invariant says that the definition of the whole
-- is the definition of the rest at the loop's present state; a good turn keeps it, and a refused turn and the end give the answer. Assumes
-- nothing.
use mathlib.Core.Path.{◌≡◌, refl, ap, sym, ◌∙◌}
use mathlib.Core.Bool.{Bool, true, false, cond}
use mathlib.Core.List.{List, [], ◌∷◌, ◌++◌}
use mathlib.Core.Logic.{⊎_elim}
use Prim.Native.Nat.{ℕ, suc, ◌+◌, ◌-◌, ◌*◌, ◌%◌, ◌^◌, ◌≤◌, ◌<◌}
use native.Mathlib.Omega.{arith}
use native.Mathlib.Numerals.{add-one}
use lib.ListN.{length, take, drop, set, get_or, replicate, length-set, get_or-replicate, get_or-eq_default}
use lib.Seq.{get_or-take, get_or-set_other, length-take-le}
use Rattle.hexadecimal.specs.Hex.{field_of, word_field}
use Rattle.std.specs.Prelude.{Option, Some, None}
use Rattle.hexadecimal.proofs.Laws.{word_part}
use Rattle.recipe.specs.declared.Step.{Step}
use Rattle.recipe.specs.Table.{row_of, is_input}
use Rattle.recipe.specs.Text.{inputs_in}
use Rattle.recipe.specs.Packed.{step_at, steps_in}
use Rattle.recipe.proofs.Counts.{inputs_more}
use Rattle.recipe.proofs.Packed.{steps_more, next_step, none_left}
use Rattle.semantics.specs.Frame.{words, refused, on_field, words_from, outside, ranged}
use Rattle.frame.specs.Stages.{Same}
use Rattle.semantics.proofs.Lists.{lt_or_ge, grow}

-- ---- how many inputs

-- of the n steps in the words w, i are counted, and `next` of them are inputs
pub record Counting (w : List ℕ) (n next i : ℕ) : Type 0 where
  pub within : i ≤ n
  pub few : next ≤ i
  pub counted : next ≡ inputs_in (steps_in w i)

pub counting_start : (w : List ℕ) (n : ℕ) → Counting w n 0 0
unfolding inputs_in steps_in
counting_start w n = record { within = omega arith; few = omega arith; counted = refl }

-- among so few steps the inputs' numbers do not wrap
pub next_is : (b : Bool) (next m : ℕ) → next < 65535 → m ≡ (cond b 1 0 + next) % 2 ^ 16 → (m ≡ cond b 1 0 + next) × (m ≤ next + 1)
next_is true next m h e = (omega arith, omega arith)
next_is false next m h e = (omega arith, omega arith)

pub counting_more : (w : List ℕ) (n next i : ℕ) → Counting w n next i → i < n → (t : Step) → t ≡ step_at w i → (m : ℕ)
    → m ≡ cond (is_input (row_of t.opcode)) 1 0 + next → m ≤ next + 1 → Counting w n m (i + 1)
counting_more w n next i g h t q m e b =
    let c : inputs_in (steps_in w i ++ (t ∷ [])) ≡ inputs_in (steps_in w i) + cond (is_input (row_of t.opcode)) 1 0 = inputs_more (steps_in w i) t in
    let o = g.counted in
    record {
      within = omega arith;
      few = omega (arith, g.few);
      counted = rw (steps_more w i, sym q) (omega arith);
    }

-- ---- the words

-- what the 16 digits of input k come to
pub field_at : (s : List ℕ) (k : ℕ) → k * 16 + 16 ≤ length s → {x f : Option ℕ} → x ≡ word_field (take (k * 16 + 16 - k * 16) (drop (k * 16) s)) → x ≡ f → field_of s (k * 16) 16 0 ≡ f
field_at s k h e d =
    let n : k * 16 + 16 - k * 16 ≡ 16 = omega arith in
    rw n at (word_part s (k * 16) (k * 16 + 16) (omega arith) h (omega arith) e d)

field_good : (s : List ℕ) (m k : ℕ) (l : List ℕ) (w : ℕ) → field_of s (k * 16) 16 0 ≡ Some w → words_from s (suc m) k l ≡ words_from s m (suc k) (l ++ (w ∷ []))
unfolding words_from on_field
field_good s m k l w e = ap (λ x. on_field x (λ w. words_from s m (suc k) (l ++ (w ∷ [])))) e

field_bad : (s : List ℕ) (m k : ℕ) (l : List ℕ) → field_of s (k * 16) 16 0 ≡ None → words_from s (suc m) k l ≡ refused 31 0
unfolding words_from on_field
field_bad s m k l e = ap (λ x. on_field x (λ w. words_from s m (suc k) (l ++ (w ∷ [])))) e

fields_done : (s : List ℕ) (k : ℕ) (l : List ℕ) → words_from s 0 k l ≡ words l
unfolding words_from
fields_done s k l = refl

-- of the n words of the frame s, i are read: they are the first i of `held`, which has zeros after them
pub record Collecting (s : List ℕ) (n : ℕ) (held : List ℕ) (i : ℕ) : Type 0 where
  pub within : i ≤ n
  pub long : length held ≡ 16
  pub rest : (k : ℕ) → i ≤ k → get_or held k 0 ≡ 0
  pub same : words_from s n 0 [] ≡ words_from s (n - i) i (take i held)

pub collecting_start : (s : List ℕ) (n : ℕ) → Collecting s n (replicate 16 0) 0
collecting_start s n =
    let z : n - 0 ≡ n = omega arith in
    record {
      within = omega arith;
      long = refl;
      rest = λ k b.
          ⊎_elim
          (λ (q : k < 16). get_or-replicate 16 k 0 0 q)
          (λ (q : 16 ≤ k). get_or-eq_default (replicate 16 0) 0 {n = k} q)
          (lt_or_ge k 16);
      same = rw z;
    }

module _ (s : List ℕ) (n : ℕ) (held : List ℕ) (i : ℕ) (g : Collecting s n held i) where
  pub collecting_more : i < n → n ≤ 16 → (w : ℕ) → field_of s (i * 16) 16 0 ≡ Some w → Collecting s n (set held i w) (i + 1)
  collecting_more h m w e =
      let k : i < length held = omega (arith, g.long) in
      let f : n - i ≡ suc (n - (i + 1)) = omega arith in
      record {
        within = omega arith;
        long = simp length-set g.long;
        rest = λ j b. get_or-set_other held i j w 0 (λ (q : j ≡ i). omega arith) ∙ g.rest j (omega arith);
        same = g.same ∙ rw (f, grow held i w k, add-one) (field_good s (n - suc i) i (take i held) w e);
      }

  pub collecting_bad : i < n → field_of s (i * 16) 16 0 ≡ None → words_from s n 0 [] ≡ refused 31 0
  collecting_bad h e =
      let f : n - i ≡ suc (n - (i + 1)) = omega arith in
      g.same ∙ rw f (field_bad s (n - (i + 1)) i (take i held) e)

  pub collecting_done : n ≤ i → words_from s n 0 [] ≡ words (take i held)
  collecting_done h = let f : n - i ≡ 0 = omega arith in g.same ∙ rw f (fields_done s i (take i held))

  pub collecting_same : n ≤ 16 → Same held (take i held)
  collecting_same m k =
      let b = g.within in
      let w = g.long in
      let e : length (take i held) ≡ i = length-take-le i held (omega arith) in
      ⊎_elim
      (λ (q : k < i). sym (get_or-take i held k 0 q))
      (λ (q : i ≤ k). g.rest k q ∙ sym (get_or-eq_default (take i held) 0 {n = k} (omega arith)))
      (lt_or_ge k i)

-- ---- the ranges

range_good : (t : Step) (l : List Step) (k j : ℕ) (ws : List ℕ) → outside (row_of t.opcode) t (get_or ws j 0) ≡ false
    → ranged (t ∷ l) k j ws ≡ ranged l (suc k) (cond (is_input (row_of t.opcode)) 1 0 + j) ws
unfolding ranged
range_good t l k j ws e = rw (e, ranged)

range_bad : (t : Step) (l : List Step) (k j : ℕ) (ws : List ℕ) → outside (row_of t.opcode) t (get_or ws j 0) ≡ true → ranged (t ∷ l) k j ws ≡ refused 32 k
unfolding ranged
range_bad t l k j ws e = rw (e, ranged)

ranges_done : (k j : ℕ) (ws : List ℕ) → ranged [] k j ws ≡ words ws
unfolding ranged
ranges_done k j ws = refl

-- of the n steps in the words w, i are checked, and `next` of them are inputs; the frame's words are those of `held`
pub record Checking (w : List ℕ) (n : ℕ) (held : List ℕ) (next i : ℕ) : Type 0 where
  pub within : i ≤ n
  pub few : next ≤ i
  pub same : (ws : List ℕ) → Same held ws → ranged (steps_in w n) 0 0 ws ≡ ranged (drop i (steps_in w n)) i next ws

pub checking_start : (w : List ℕ) (n : ℕ) (held : List ℕ) → Checking w n held 0 0
checking_start w n held = record { within = omega arith; few = omega arith; same = λ ws q. refl }

module _ (w : List ℕ) (n : ℕ) (held : List ℕ) (next i : ℕ) (g : Checking w n held next i) where
  module _ (h : i < n) (t : Step) (et : t ≡ step_at w i) (v : ℕ) (e : v ≡ get_or held next 0) where
    left : drop i (steps_in w n) ≡ t ∷ drop (i + 1) (steps_in w n)
    left = rw et (next_step w n i h)

    pub checking_more : outside (row_of t.opcode) t v ≡ false → (r : ℕ)
        → r ≡ cond (is_input (row_of t.opcode)) 1 0 + next → r ≤ next + 1 → Checking w n held r (i + 1)
    checking_more o r f b =
        record {
          within = omega arith;
          few = omega (arith, g.few);
          same = λ ws q.
              g.same ws q
              ∙ rw (left, f, add-one)
              (range_good t (drop (suc i) (steps_in w n)) i next ws (rw (sym (q next), sym e) o));
        }

    pub checking_bad : outside (row_of t.opcode) t v ≡ true → (ws : List ℕ) → Same held ws → ranged (steps_in w n) 0 0 ws ≡ refused 32 i
    checking_bad o ws q =
        g.same ws q ∙ rw left (range_bad t (drop (i + 1) (steps_in w n)) i next ws (rw (sym (q next), sym e) o))

  pub checking_done : n ≤ i → (ws : List ℕ) → Same held ws → ranged (steps_in w n) 0 0 ws ≡ words ws
  checking_done h ws q = g.same ws q ∙ rw (none_left w n i h) (ranges_done i next ws)
