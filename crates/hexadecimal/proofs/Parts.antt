-- A list written front to back, a byte or a part at a time: what stands in front after each. Assumes nothing.
use mathlib.Core.Path.{◌≡◌, ap, ◌∙◌, sym}
use mathlib.Core.List.{List, [], ◌∷◌, ◌++◌, append_assoc}
use Prim.Native.Nat.{ℕ, suc, ◌+◌, ◌≤◌, ◌<◌}
use native.Mathlib.Omega.{arith}
use lib.ListN.{length, length-append, length-drop, set, take, drop}
use lib.Seq.{take_at, take-suc-set, length-take-le}

-- the list with ys in the place of the k elements from a on
abbrev pub put : ℕ → ℕ → List ℕ → List ℕ → List ℕ
put a k l ys = take a l ++ (ys ++ drop k (drop a l))

-- one byte more
pub set_next : (l p : List ℕ) (n v : ℕ) → n < length l → take n l ≡ p → take (suc n) (set l n v) ≡ p ++ (v ∷ [])
set_next l p n v h e = take-suc-set l n v h ∙ ap (λ (q : List ℕ). q ++ (v ∷ [])) e

-- k bytes more
pub put_next : (l p ys : List ℕ) (n k : ℕ) → n ≤ length l → length ys ≡ k → take n l ≡ p → take (n + k) (put n k l ys) ≡ p ++ ys
put_next l p ys n k h g e =
    let m : length (take n l) ≡ n = length-take-le n l h in
    let w : length (take n l ++ ys) ≡ n + k = length-append (take n l) ys ∙ omega arith in
    ap (take (n + k)) (sym (append_assoc (take n l) ys (drop k (drop n l)))) ∙ take_at (take n l ++ ys) (drop k (drop n l)) (n + k) w ∙ ap (λ (q : List ℕ). q ++ ys) e

pub length_put : (l ys : List ℕ) (n k : ℕ) → n + k ≤ length l → length ys ≡ k → length (put n k l ys) ≡ length l
length_put l ys n k h g =
    let m : length (take n l) ≡ n = length-take-le n l (omega arith) in
    simp (length-append, length-drop) (omega arith)
