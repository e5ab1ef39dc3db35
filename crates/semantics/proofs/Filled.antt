-- A local array with a place for each of the most steps, that a loop fills from its start on. Assumes nothing.
use mathlib.Core.Path.{◌≡◌, ap, sym, ◌∙◌}
use mathlib.Core.Bool.{cond}
use mathlib.Core.List.{List, map}
use mathlib.Core.Logic.{⊎_elim}
use Prim.Native.Nat.{ℕ, ◌+◌, ◌-◌, ◌≤◌, ◌<◌}
use native.Mathlib.Omega.{arith}
use lib.Dec.{ltb}
use lib.ListN.{length, take, set, get_or, replicate, length-set, length-map, length-replicate, get_or-replicate, get_or-eq_default, get_or-map}
use lib.Seq.{get_or-take, get_or-set_other, length-take-le}
use Rattle.recipe.specs.Text.{most_steps}
use borrow.Author.Tests.{lt-ltb, le-ltb}
use Rattle.semantics.proofs.Lists.{lt_or_ge, get_d_any}

-- the places from i on still hold the start element
pub record Filled {A : Type 0} (start : A) (l : List A) (i : ℕ) : Type 0 where
  pub long : length l ≡ most_steps
  pub rest : (k : ℕ) → i ≤ k → get_or l k start ≡ start

module _ {A : Type 0} (start : A) where
  at_start : (k : ℕ) → get_or (replicate most_steps start) k start ≡ start
  at_start k =
      ⊎_elim
      (λ (q : k < most_steps). get_or-replicate most_steps k start start q)
      (λ (q : most_steps ≤ k). get_or-eq_default (replicate most_steps start) start {n = k} (rw (length-replicate most_steps start) q))
      (lt_or_ge k most_steps)

  pub filled_start : Filled start (replicate most_steps start) 0
  filled_start = record { long = length-replicate most_steps start; rest = λ k b. at_start k }

  module _ (l : List A) (i : ℕ) (g : Filled start l i) where
    pub filled_more : (v : A) → Filled start (set l i v) (i + 1)
    filled_more v =
        record {
          long = simp length-set g.long;
          rest = λ k p. get_or-set_other l i k v start (λ (q : k ≡ i). omega arith) ∙ g.rest k (omega arith);
        }

    -- what the places stand for, by `seen`
    module _ {D : Type 0} (seen : A → D) where
      earlier : (k : ℕ) (d : A) → k < i → i ≤ most_steps → seen (get_or l k d) ≡ get_or (map seen (take i l)) k (seen start)
      earlier k d h m =
          let w = g.long in
          ap seen (get_d_any l k d start (omega arith) ∙ sym (get_or-take i l k start h)) ∙ sym (get_or-map seen (take i l) k start)

      ahead : (k f : ℕ) (d : A) → i ≤ k → i ≤ f → f < most_steps → seen (get_or l f d) ≡ get_or (map seen (take i l)) k (seen start)
      ahead k f d h a m =
          let w = g.long in
          let e : length (map seen (take i l)) ≡ i = length-map (take i l) seen ∙ length-take-le i l (omega arith) in
          ap seen (get_d_any l f d start (omega arith) ∙ g.rest f a) ∙ sym (get_or-eq_default (map seen (take i l)) (seen start) {n = k} (omega arith))

      -- what is fetched for the operand k stands for what the definition takes
      pub fetch : (k f : ℕ) (d : A) → i < most_steps → f ≡ cond (ltb k i) k i → seen (get_or l f d) ≡ get_or (map seen (take i l)) k (seen start)
      fetch k f d m e =
          ⊎_elim
          (λ (h : k < i). let q : f ≡ k = rw (lt-ltb k i h) at e in rw q (earlier k d h (omega arith)))
          (λ (h : i ≤ k). let q : f ≡ i = rw (le-ltb k i h) at e in ahead k f d h (omega arith) (omega arith))
          (lt_or_ge k i)

      -- the last of n, at the place before n; of none, the start element
      pub fetch_last : (k n : ℕ) (d : A) → n ≤ most_steps → n ≡ i → k ≡ n - 1 → seen (get_or l k d) ≡ get_or (map seen (take n l)) (length (map seen (take n l)) - 1) (seen start)
      fetch_last k n d m q e =
          let w = g.long in
          let f : length (map seen (take i l)) ≡ i = length-map (take i l) seen ∙ length-take-le i l (omega arith) in
          let z : k ≡ i - 1 = omega arith in
          rw (q, f)
          (⊎_elim
          (λ (p : k < i). earlier k d p (omega arith) ∙ rw z)
          (λ (p : i ≤ k). ahead (i - 1) k d (omega arith) p (omega arith))
          (lt_or_ge k i))
