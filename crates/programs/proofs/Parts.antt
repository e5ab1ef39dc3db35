-- The recipe's text in pieces: what one byte more comes to. Assumes nothing.
use mathlib.Core.Path.{◌≡◌, refl, ap, ◌∙◌}
use mathlib.Core.Bool.{Bool, true, false, ◌&&◌}
use mathlib.Core.List.{List, [], ◌∷◌, ◌++◌, append_assoc, append-nil}
use Prim.Native.Nat.{ℕ, ◌+◌, ◌≤◌, ◌<◌}
use native.Mathlib.Omega.{arith}
use lib.Dec.{eqb}
use lib.ListN.{length, get_or, take, length-append}
use lib.Seq.{get_or-append_seam, take-append_seam}
use borrow.Author.Tests.{le-leb, lt-leb, eq-eqb, eqb-true}
use Rattle.programs.specs.Output.{parted, endless, looked_at, last_byte, part_after}

-- ---- one byte more

pub part_endless : (t s : List ℕ) (b : ℕ) → looked_at ≤ length t → part_after t (b ∷ s) ≡ endless
unfolding part_after
part_endless t s b h = rw (part_after, le-leb looked_at (length t) h)

pub part_empty : (t s : List ℕ) (b : ℕ) → length t < looked_at → b ≡ 10 → last_byte t ≡ 10 → part_after t (b ∷ s) ≡ parted t s
unfolding part_after
part_empty t s b h e f = rw (part_after, lt-leb looked_at (length t) h, eq-eqb b 10 e, eq-eqb (last_byte t) 10 f)

pub part_more : (t s : List ℕ) (b : ℕ) → length t < looked_at → (eqb b 10 && eqb (last_byte t) 10) ≡ false → part_after t (b ∷ s) ≡ part_after (t ++ (b ∷ [])) s
unfolding part_after
part_more t s b h e = rw (part_after, lt-leb looked_at (length t) h, e)

-- ---- bytes without an empty line

-- no line feed is the first byte or follows a line feed
abbrev pub NoEmptyLine : List ℕ → Type 0
NoEmptyLine t = (k : ℕ) → k < length t → get_or t k 0 ≡ 10 → last_byte (take k t) ≡ 10 → ⊥

both : (b last : ℕ) (p q : Bool) → eqb b 10 ≡ p → eqb last 10 ≡ q → (b ≡ 10 → last ≡ 10 → ⊥) → (p && q) ≡ false
both b last true true e f h = absurd (h (eqb-true b 10 e) (eqb-true last 10 f))
both b last true false e f h = refl
both b last false q e f h = refl

pub part_plain : (u t s : List ℕ) → length (t ++ u) ≤ looked_at → NoEmptyLine (t ++ u) → part_after t (u ++ s) ≡ part_after (t ++ u) s
part_plain [] t s h n = rw append-nil
part_plain (b ∷ u) t s h n =
    let e : (t ++ (b ∷ [])) ++ u ≡ t ++ (b ∷ u) = append_assoc t (b ∷ []) u in
    let m : length (t ++ (b ∷ u)) ≡ length t + length (b ∷ u) = length-append t (b ∷ u) in
    let f : b ≡ 10 → last_byte t ≡ 10 → ⊥ =
    λ p q. n (length t) (omega arith) (get_or-append_seam t b u 0 ∙ p) (ap last_byte (take-append_seam t (b ∷ u)) ∙ q) in
    part_more t (u ++ s) b (omega arith) (both b (last_byte t) (eqb b 10) (eqb (last_byte t) 10) refl refl f)
    ∙ part_plain u (t ++ (b ∷ [])) s (rw e h) (rw e n)
    ∙ ap (λ (x : List ℕ). part_after x s) e
