-- Pieces of a chunk: an empty one, one byte more, piece after piece, all of it. Assumes nothing.
use mathlib.Core.Path.{◌≡◌, ap, ◌∙◌, sym}
use mathlib.Core.List.{List, [], ◌∷◌, ◌++◌}
use Prim.Native.Nat.{ℕ, suc, ◌+◌, ◌-◌, ◌≤◌, ◌<◌}
use native.Mathlib.Omega.{arith}
use lib.ListN.{length, get_or, take, drop, length-drop}
use lib.Seq.{take-suc, take-add, take-length, drop-drop, get_or-drop}
use Rattle.std.proofs.lemmas.Slice.{between_is}
use Rattle.programs.specs.Stage.{between}

pub between_none : (s : List ℕ) (from : ℕ) → between from from s ≡ []
between_none s from = let e : from - from ≡ 0 = omega arith in rw e

-- from the start
pub between_front : (s : List ℕ) (n : ℕ) → between 0 n s ≡ take n s
between_front s n = let e : n - 0 ≡ n = omega arith in rw e

-- one byte more
pub between_more : (s : List ℕ) (from i : ℕ) → from ≤ i → i < length s → between from (i + 1) s ≡ between from i s ++ (get_or s i 0 ∷ [])
between_more s from i h k =
    let e : i + 1 - from ≡ suc (i - from) = omega arith in
    let f : from + (i - from) ≡ i = omega arith in
    let n : i - from < length (drop from s) = simp length-drop (omega arith) in
    rw e (take-suc (drop from s) (i - from) 0 n ∙ ap (λ (b : ℕ). between from i s ++ (b ∷ [])) (get_or-drop from s (i - from) 0 ∙ ap (λ (j : ℕ). get_or s j 0) f))

-- piece after piece
pub between_join : (s : List ℕ) (from i j : ℕ) → from ≤ i → i ≤ j → between from j s ≡ between from i s ++ between i j s
between_join s from i j h k =
    let e : j - from ≡ (i - from) + (j - i) = omega arith in
    let f : from + (i - from) ≡ i = omega arith in
    rw e (take-add (i - from) (j - i) (drop from s) ∙ ap (λ (l : List ℕ). between from i s ++ take (j - i) l) (drop-drop (i - from) from s ∙ ap (λ (n : ℕ). drop n s) f))

pub between_whole : (s : List ℕ) → between 0 (length s) s ≡ s
between_whole s = let e : length s - 0 ≡ length s = omega arith in rw e (take-length s)

-- the first bytes of what is left of a chunk
pub between_rest : (s : List ℕ) (from n r : ℕ) → between from (from + r) (take n s) ≡ take r (take (n - from) (drop from s))
between_rest s from n r = let e : from + r - from ≡ r = omega arith in rw e (ap (take r) (sym (between_is s from n)))
