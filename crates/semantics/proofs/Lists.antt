-- Lists and the places of an array, as the loops of a run use them. Assumes nothing.
use mathlib.Core.Path.{◌≡◌, refl, sym, ◌∙◌}
use mathlib.Core.Bool.{Bool, true, false}
use mathlib.Core.List.{List, [], ◌∷◌, ◌++◌, map, map-append, append_assoc, append-nil}
use mathlib.Core.Logic.{◌⊎◌, inl, inr}
use Prim.Native.Nat.{ℕ, zero, suc, ◌+◌, ◌≤◌, ◌<◌}
use native.Mathlib.Omega.{arith}
use native.Mathlib.Numerals.{add-one}
use lib.Dec.{ltb}
use lib.ListN.{length, take, drop, set, get_or, length-append, length-map, length-drop, drop_of_length-le}
use lib.Seq.{take-suc-set, take-suc, drop-cons, get_or-take, length-take-le, set_at, get_or_at, take_at}
use borrow.Author.Tests.{ltb-true, ltb-false}

by_test : (m n : ℕ) (b : Bool) → ltb m n ≡ b → (m < n) ⊎ (n ≤ m)
by_test m n true e = inl (ltb-true m n e)
by_test m n false e = inr (ltb-false m n e)

pub lt_or_ge : (m n : ℕ) → (m < n) ⊎ (n ≤ m)
lt_or_ge m n = by_test m n (ltb m n) refl

-- past the end alone does the default matter
pub get_d_any : {A : Type 0} (l : List A) (k : ℕ) (d e : A) → k < length l → get_or l k d ≡ get_or l k e
get_d_any [] k d e h = absurd (omega arith)
get_d_any (x ∷ l) zero d e h = refl
get_d_any (x ∷ l) (suc k) d e h = get_d_any l k d e (omega arith)

-- a place more is written
pub grow : {A : Type 0} (l : List A) (i : ℕ) (x : A) → i < length l → take (i + 1) (set l i x) ≡ take i l ++ (x ∷ [])
grow l i x h = rw add-one (take-suc-set l i x h)

-- of the first n, what is left from i on: the next one and the rest, or nothing
pub next_of : {A : Type 0} (l : List A) (n i : ℕ) (d : A) → i < n → n ≤ length l → drop i (take n l) ≡ get_or l i d ∷ drop (i + 1) (take n l)
next_of l n i d h m =
    let e : length (take n l) ≡ n = length-take-le n l m in
    rw (add-one, drop-cons (take n l) i d (omega arith), get_or-take n l i d h)

pub none_left : {A : Type 0} (l : List A) (n i : ℕ) → n ≤ i → n ≤ length l → drop i (take n l) ≡ []
none_left l n i h m = let e : length (take n l) ≡ n = length-take-le n l m in drop_of_length-le (take n l) {i = i} (omega arith)

-- ---- a list that begins with another, as one does that a fold has grown at its end

pub record Begins {A : Type 0} (l m : List A) : Type 0 where
  pub rest : List A
  pub is : m ≡ l ++ rest

pub begins_all : {A : Type 0} (l : List A) → Begins l l
begins_all l = record { rest = []; is = sym (append-nil l) }

module _ {A : Type 0} (l m : List A) (x : A) (g : Begins (l ++ (x ∷ [])) m) where
  grown : m ≡ l ++ (x ∷ g.rest)
  grown = g.is ∙ append_assoc l (x ∷ []) g.rest

  pub begins_less : Begins l m
  begins_less = record { rest = x ∷ g.rest; is = grown }

  -- x is at the first place after l, and l is what stands before it
  pub begins_at : (d : A) → (get_or m (length l + 0) d ≡ x) × (take (length l + 0) m ≡ l)
  begins_at d =
      let n : length l ≡ length l + 0 = omega arith in
      (rw grown (get_or_at l x g.rest d (length l + 0) n), rw grown (take_at l (x ∷ g.rest) (length l + 0) n))

-- ---- a list written over another from its start on, through f

module _ {A : Type 0} (f : A → ℕ) (l : List A) (out : List ℕ) (j : ℕ) where
  pub copy_more : (d : A) → j < length l → j < length out
      → set (map f (take j l) ++ drop j out) j (f (get_or l j d)) ≡ map f (take (j + 1) l) ++ drop (j + 1) out
  copy_more d h k =
      let e : length (map f (take j l)) ≡ j = length-map (take j l) f ∙ length-take-le j l (omega arith) in
      rw (drop-cons out j 0 k, set_at (map f (take j l)) (get_or out j 0) (drop (suc j) out) (f (get_or l j d)) j e, add-one, take-suc l j d h, map-append)
      (sym (append_assoc (map f (take j l)) (f (get_or l j d) ∷ []) (drop (suc j) out)))

  pub copied_length : j ≤ length l → j ≤ length out → length (map f (take j l) ++ drop j out) ≡ length out
  copied_length h k =
      let e : length (map f (take j l)) ≡ j = length-map (take j l) f ∙ length-take-le j l h in
      simp (length-append, e, length-drop) (omega arith)
