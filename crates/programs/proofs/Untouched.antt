-- What stays as it was: from a later place on too, after two changes, after a store and after a part that is written. Assumes nothing.
use mathlib.Core.Path.{◌≡◌, ap, ◌∙◌, sym}
use mathlib.Core.List.{List, ◌++◌}
use Prim.Native.Nat.{ℕ, ◌+◌, ◌-◌, ◌≤◌, ◌<◌}
use native.Mathlib.Omega.{arith}
use lib.ListN.{length, take, drop, set, length-drop, take-append-drop}
use lib.Seq.{drop-drop, drop-set-lt, drop_at, length-take-le, drop-append-add, drop-append-le}
use Rattle.hexadecimal.proofs.Parts.{put}
use Rattle.programs.specs.Stage.{Untouched}

-- from a later place on
pub untouched_later : (before after : List ℕ) (i j : ℕ) → i ≤ j → Untouched i before after → Untouched j before after
untouched_later before after i j h e =
    let f : i + (j - i) ≡ j = omega arith in
    ap (λ (k : ℕ). drop k after) (sym f) ∙ sym (drop-drop (j - i) i after) ∙ ap (drop (j - i)) e ∙ drop-drop (j - i) i before ∙ ap (λ (k : ℕ). drop k before) f

-- after one change and another
pub untouched_join : (before between after : List ℕ) (i j k : ℕ) → i ≤ k → j ≤ k → Untouched i before between → Untouched j between after
    → Untouched k before after
untouched_join before between after i j k h m e f = untouched_later between after j k m f ∙ untouched_later before between i k h e

-- after a store
pub untouched_set : (l : List ℕ) (n v k : ℕ) → n < k → Untouched k l (set l n v)
untouched_set l n v k h = drop-set-lt k l n v h

-- after the first bytes were written
pub untouched_front : (l ys : List ℕ) (k : ℕ) → length ys ≡ k → Untouched k l (ys ++ drop k l)
untouched_front l ys k e = drop_at ys (drop k l) k e

-- after bytes were written in place of k from a on
pub untouched_put : (l ys : List ℕ) (a k : ℕ) → a ≤ length l → length ys ≡ k → Untouched (a + k) l (put a k l ys)
untouched_put l ys a k h e =
    let f : length (take a l) ≡ a = length-take-le a l h in
    ap (λ (n : ℕ). drop (n + k) (put a k l ys)) (sym f)
    ∙ drop-append-add (take a l) (ys ++ drop k (drop a l)) k
    ∙ drop_at ys (drop k (drop a l)) k e
    ∙ drop-drop k a l

-- after the m elements from a on were changed, from their k-th on
pub untouched_part : (l ys : List ℕ) (a m k : ℕ) → a + m ≤ length l → k ≤ m → length ys ≡ m → Untouched k (take m (drop a l)) ys
    → Untouched (a + k) l (put a m l ys)
untouched_part l ys a m k h o e f =
    let g : length (take a l) ≡ a = length-take-le a l (omega arith) in
    let part = take m (drop a l) in
    let z = drop m (drop a l) in
    let n : length part ≡ m = length-take-le m (drop a l) (simp length-drop (omega arith)) in
    let at : (x : List ℕ) → k ≤ length x → drop (a + k) (take a l ++ (x ++ z)) ≡ drop k x ++ z =
    λ x q.
    ap (λ (j : ℕ). drop (j + k) (take a l ++ (x ++ z))) (sym g) ∙ drop-append-add (take a l) (x ++ z) k ∙ drop-append-le k x z q in
    at ys (omega arith)
    ∙ ap (λ (x : List ℕ). x ++ z) f
    ∙ sym (at part (omega arith))
    ∙ ap (drop (a + k)) (ap (λ (x : List ℕ). take a l ++ x) (take-append-drop m (drop a l)) ∙ take-append-drop a l)
