-- The recipe's text taken byte by byte, as `take_recipe` goes. The idea: what stands in the buffer is the text so far, so that the input parts
-- after it as it does from the start. Assumes nothing.
use mathlib.Core.Path.{◌≡◌, refl, ap, ◌∙◌, sym}
use mathlib.Core.Bool.{false, ◌&&◌}
use mathlib.Core.List.{List, [], ◌∷◌, ◌++◌, append_assoc}
use Prim.Native.Nat.{ℕ, ◌+◌, ◌-◌, ◌≤◌, ◌<◌}
use native.Mathlib.Omega.{arith}
use native.Mathlib.Numerals.{add-one}
use lib.Dec.{eqb}
use lib.ListN.{length, get_or, set, take, length-set}
use lib.Seq.{take-suc, length-take-le, get_or-take, get_or-set_same}
use borrow.Author.Tests.{eq-eqb, ne_eqb}
use Rattle.semantics.proofs.Lists.{grow, get_d_any}
use Rattle.programs.specs.Output.{parted, endless, looked_at, last_byte, part_after}
use Rattle.programs.specs.Stage.{Untouched}
use Rattle.programs.proofs.Untouched.{untouched_join, untouched_set}
use Rattle.programs.proofs.Parts.{part_endless, part_empty, part_more}

-- ---- no empty line ends here

pub not_feed : (b last : ℕ) → (b ≡ 10 → ⊥) → (eqb b 10 && eqb last 10) ≡ false
not_feed b last h = rw (ne_eqb b 10 h)

pub not_after_feed : (b last : ℕ) → b ≡ 10 → (last ≡ 10 → ⊥) → (eqb b 10 && eqb last 10) ≡ false
not_after_feed b last e h = rw (eq-eqb b 10 e, ne_eqb last 10 h)

-- ---- the last byte

pub last_none : (buffer : List ℕ) (n : ℕ) → n ≡ 0 → 10 ≡ last_byte (take n buffer)
last_none buffer n e = rw e

pub last_at : (buffer : List ℕ) (n : ℕ) → 0 < n → n ≤ length buffer → get_or buffer (n - 1) 0 ≡ last_byte (take n buffer)
last_at buffer n h k =
    let e : length (take n buffer) ≡ n = length-take-le n buffer k in
    rw e (get_d_any buffer (n - 1) 0 10 (omega arith) ∙ sym (get_or-take n buffer (n - 1) 10 (omega arith)))

-- ---- the state after the first i bytes of a chunk, of which n bytes stand in the buffer; what stood in it after these still does

pub record Taken (before t chunk buffer : List ℕ) (n last i : ℕ) : Type 0 where
  pub room : looked_at ≤ length buffer
  pub few : n ≤ looked_at
  pub ends : last ≡ last_byte (take n buffer)
  pub same : (s : List ℕ) → part_after t (take i chunk ++ s) ≡ part_after (take n buffer) s
  pub rest : Untouched n before buffer

module _ (before t chunk buffer : List ℕ) (n last i : ℕ) (g : Taken before t chunk buffer n last i) (k : i < length chunk) where
  next : (s : List ℕ) → part_after t (take (i + 1) chunk ++ s) ≡ part_after (take n buffer) (get_or chunk i 0 ∷ s)
  next s =
      let e : take (i + 1) chunk ≡ take i chunk ++ (get_or chunk i 0 ∷ []) = rw (add-one i) (take-suc chunk i 0 k) in
      ap (λ (x : List ℕ). part_after t (x ++ s)) e
      ∙ ap (part_after t) (append_assoc (take i chunk) (get_or chunk i 0 ∷ []) s)
      ∙ g.same (get_or chunk i 0 ∷ s)

  taken_size : length (take n buffer) ≡ n
  taken_size = let r = g.room in let f = g.few in length-take-le n buffer (omega arith)

  pub taken_endless : n ≡ looked_at → (s : List ℕ) → part_after t (take (i + 1) chunk ++ s) ≡ endless
  taken_endless e s = let z = taken_size in next s ∙ part_endless (take n buffer) s (get_or chunk i 0) (omega arith)

  module _ (m : n ≡ looked_at → ⊥) where
    fits : length (take n buffer) < looked_at
    fits = let z = taken_size in let f = g.few in omega arith

    pub taken_empty : get_or chunk i 0 ≡ 10 → last ≡ 10 → (s : List ℕ) → part_after t (take (i + 1) chunk ++ s) ≡ parted (take n buffer) s
    taken_empty e f s = next s ∙ part_empty (take n buffer) s (get_or chunk i 0) fits e (sym g.ends ∙ f)

    pub taken_more : (eqb (get_or chunk i 0) 10 && eqb last 10) ≡ false
        → Taken before t chunk (set buffer n (get_or chunk i 0)) (n + 1) (get_or chunk i 0) (i + 1)
    taken_more e =
        let r = g.room in
        let f = g.few in
        let b = get_or chunk i 0 in
        let p : n < length buffer = omega arith in
        let z : n + 1 - 1 ≡ n = omega arith in
        record {
          room = simp length-set r;
          few = omega arith;
          ends = sym (sym (last_at (set buffer n b) (n + 1) (omega arith) (simp length-set (omega arith))) ∙ rw z (get_or-set_same buffer n b 0 p));
          same = λ s.
              next s
              ∙ part_more (take n buffer) s b fits (ap (λ (x : ℕ). eqb b 10 && eqb x 10) (sym g.ends) ∙ e)
              ∙ ap (λ (x : List ℕ). part_after x s) (sym (grow buffer n b p));
          rest = untouched_join before buffer (set buffer n b) n (n + 1) (n + 1) (omega arith) (omega arith) g.rest (untouched_set buffer n b (n + 1) (omega arith));
        }

pub taken_none : (chunk buffer : List ℕ) (n last : ℕ) → looked_at ≤ length buffer → n ≤ looked_at → last ≡ last_byte (take n buffer)
    → Taken buffer (take n buffer) chunk buffer n last 0
taken_none chunk buffer n last r f e = record { room = r; few = f; ends = e; same = λ s. refl; rest = refl }
