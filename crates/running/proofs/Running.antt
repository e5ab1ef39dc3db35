-- The run's loops: the values step by step, and then their words. The invariant `Going` says that the run of the whole, as floats carry it, is
-- the run of the rest after the values so far. Assumes nothing.
use mathlib.Core.Path.{◌≡◌, refl, ap, sym, ◌∙◌}
use mathlib.Core.Bool.{cond}
use mathlib.Core.List.{List, [], ◌∷◌, ◌++◌, map, map-append, map-map}
use Prim.Native.Nat.{ℕ, suc, ◌+◌, ◌-◌, ◌≤◌, ◌<◌}
use native.Mathlib.Omega.{arith}
use native.Mathlib.Numerals.{add-one}
use lib.Dec.{ltb}
use lib.IntN.{pos}
use lib.ListN.{length, take, drop, set, get_or, replicate, length-map}
use lib.Seq.{length-take-le}
use Rattle.recipe.specs.declared.Step.{Step}
use Rattle.recipe.specs.Table.{row_of, is_input}
use Rattle.recipe.specs.Text.{most_steps, first, second}
use Rattle.recipe.specs.Packed.{step_at, steps_in}
use Rattle.recipe.proofs.Packed.{next_step, none_left}
use Rattle.values.specs.declared.Value.{Value}
use Rattle.values.specs.declared.Value.TheVariants.{Whole}
use Rattle.std.specs.Prelude.{Result, Ok, Err}
use Rattle.values.specs.declared.Refusal.{Refusal}
use Rattle.semantics.specs.Value.{Datum, word_of, done, step_value}
use Rattle.semantics.specs.Value as value
use Rattle.values.specs.Seen.{seen, number_of, outcome_of}
use Rattle.semantics.specs.Run.{completed, refused, step_on, on_outcome, last_of, words_of}
use Rattle.frame.specs.Stages.{Same}
use Rattle.values.specs.Carried.{carried}
use Rattle.running.specs.Carried.{carried_from}
use Rattle.semantics.proofs.Lists.{grow}
use Rattle.semantics.proofs.Filled.{Filled, filled_start, filled_more, fetch, fetch_last}

-- what the array of values is filled with
abbrev pub start : Value
start = Whole (pos 0)

-- the word of a value of the code
abbrev pub word : Value → ℕ
word v = word_of (seen v)

-- ---- one step of the fold

step_good : (t : Step) (ts : List Step) (k j : ℕ) (ws : List ℕ) (l : List Datum) (v : Datum) → carried (step_on t (get_or ws j 0) l) ≡ done v
    → carried_from (t ∷ ts) k j ws l ≡ carried_from ts (suc k) (cond (is_input (row_of t.opcode)) 1 0 + j) ws (l ++ (v ∷ []))
unfolding carried_from on_outcome
step_good t ts k j ws l v e = ap (λ x. on_outcome x k (λ v. carried_from ts (suc k) (cond (is_input (row_of t.opcode)) 1 0 + j) ws (l ++ (v ∷ [])))) e

step_bad : (t : Step) (ts : List Step) (k j : ℕ) (ws : List ℕ) (l : List Datum) (number : ℕ) → carried (step_on t (get_or ws j 0) l) ≡ value.refused number
    → carried_from (t ∷ ts) k j ws l ≡ refused number k
unfolding carried_from on_outcome
step_bad t ts k j ws l number e = ap (λ x. on_outcome x k (λ v. carried_from ts (suc k) (cond (is_input (row_of t.opcode)) 1 0 + j) ws (l ++ (v ∷ [])))) e

steps_done : (k j : ℕ) (ws : List ℕ) (l : List Datum) → carried_from [] k j ws l ≡ completed l
unfolding carried_from
steps_done k j ws l = refl

-- ---- the values

-- of the n steps in the words w, i have their values, the first i of `values`; `next` of them are inputs, whose words are those of `held`
pub record Going (w : List ℕ) (n : ℕ) (held : List ℕ) (values : List Value) (next i : ℕ) : Type 0 where
  pub within : i ≤ n
  pub few : next ≤ i
  pub filled : Filled start values i
  pub same : (ws : List ℕ) → Same held ws → carried_from (steps_in w n) 0 0 ws [] ≡ carried_from (drop i (steps_in w n)) i next ws (map seen (take i values))

pub going_start : (w : List ℕ) (n : ℕ) (held : List ℕ) → Going w n held (replicate most_steps start) 0 0
going_start w n held =
    record {
      within = omega arith;
      few = omega arith;
      filled = filled_start start;
      same = λ ws q. refl;
    }

module _ (w : List ℕ) (n : ℕ) (held : List ℕ) (values : List Value) (next i : ℕ) (g : Going w n held values next i) where
  -- the last value
  pub fetch_end : (k : ℕ) (d : Value) → n ≤ most_steps → n ≤ i → k ≡ n - 1 → seen (get_or values k d) ≡ last_of (map seen (take n values))
  fetch_end k d m h e = let b = g.within in fetch_last start values i g.filled seen k n d m (omega arith) e

  module _ (h : i < n) (m : n ≤ most_steps) (t : Step) (et : t ≡ step_at w i) (x : ℕ) (ex : x ≡ get_or held next 0)
      (f₁ f₂ : ℕ) (z y : Value) (e₁ : f₁ ≡ cond (ltb (first t) i) (first t) i) (e₂ : f₂ ≡ cond (ltb (second t) i) (second t) i)
      (r : Result Value Refusal) (er : outcome_of r ≡ carried (step_value t x (seen (get_or values f₁ z)) (seen (get_or values f₂ y)))) where
    left : drop i (steps_in w n) ≡ t ∷ drop (i + 1) (steps_in w n)
    left = rw et (next_step w n i h)

    did : (ws : List ℕ) → Same held ws → carried (step_on t (get_or ws next 0) (map seen (take i values))) ≡ outcome_of r
    did ws q = rw (sym (q next), sym ex, sym (fetch start values i g.filled seen (first t) f₁ z (omega arith) e₁), sym (fetch start values i g.filled seen (second t) f₂ y (omega arith) e₂)) (sym er)

    pub going_more : (v : Value) → r ≡ Ok v → (c : ℕ) → c ≡ cond (is_input (row_of t.opcode)) 1 0 + next → c ≤ next + 1
        → Going w n held (set values i v) c (i + 1)
    going_more v e c f u =
        let b : i < length values = omega (arith, g.filled.long) in
        record {
          within = omega arith;
          few = omega (arith, g.few);
          filled = filled_more start values i g.filled v;
          same = λ ws q.
              g.same ws q
              ∙ rw (left, grow values i v b, map-append, f, add-one)
              (step_good t (drop (suc i) (steps_in w n)) i next ws (map seen (take i values)) (seen v) (did ws q ∙ ap outcome_of e));
        }

    pub going_refused : (why : Refusal) → r ≡ Err why → (ws : List ℕ) → Same held ws → carried_from (steps_in w n) 0 0 ws [] ≡ refused (number_of why) i
    going_refused why e ws q =
        g.same ws q ∙ rw left (step_bad t (drop (i + 1) (steps_in w n)) i next ws (map seen (take i values)) (number_of why) (did ws q ∙ ap outcome_of e))

  pub going_done : n ≤ i → (ws : List ℕ) → Same held ws → carried_from (steps_in w n) 0 0 ws [] ≡ completed (map seen (take n values))
  going_done h ws q =
      let b = g.within in
      let e : n ≡ i = omega arith in
      g.same ws q ∙ rw (none_left w n i h) (steps_done i next ws (map seen (take i values)) ∙ ap (λ (k : ℕ). completed (map seen (take k values))) (sym e))

-- what is written is what the completed run says
pub written : (values : List Value) (n : ℕ) (lent : List ℕ) → n ≤ length values
    → map word (take n values) ++ drop n lent ≡ words_of (completed (map seen (take n values))) lent
written values n lent h =
    let e : length (map seen (take n values)) ≡ n = length-map (take n values) seen ∙ length-take-le n values h in
    rw e (ap (λ (x : List ℕ). x ++ drop n lent) (sym (map-map word_of seen (take n values))))
