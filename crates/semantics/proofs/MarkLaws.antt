-- What a user would state of the whole mark: what it says of a marked step's word, in every run, and of its range; and its rule at its corners.
-- Assumes nothing.
use mathlib.Core.Path.{◌≡◌, refl, ap, ◌∙◌}
use mathlib.Core.Bool.{Bool, true, false}
use mathlib.Core.List.{List, [], ◌∷◌, map}
use Prim.Native.Nat.{ℕ, ◌<◌}
use native.Mathlib.Omega.{arith}
use lib.ListN.{length, drop, get_or, length-map, get_or-append, get_or-map}
use Rattle.float_format.specs.Format.{binary64, is_nan, is_infinite}
use Rattle.float_format.specs.Number.{magnitude, above, under, is_integral}
use Rattle.recipe.specs.declared.Kind.TheVariants.{Double}
use Rattle.recipe.specs.declared.Step.{Step}
use Rattle.recipe.specs.Text.{most_steps}
use Rattle.recipe.specs.Answer.{Formed}
use Rattle.semantics.specs.declared.RunAnswer.{RunAnswer}
use Rattle.semantics.specs.Value.{Datum, double, whole, kind_of, word_of}
use Rattle.semantics.specs.Range.{Range, doubles}
use Rattle.semantics.specs.Range as range
use Rattle.semantics.specs.Run.{no_value}
use Rattle.semantics.specs.Sheet.{passed, no_range, sheet_from}
use Rattle.semantics.specs.Mark.{no_mark, mark_rule, marks_of}
use Rattle.semantics.specs.Promise.{Integral, Promised}
use Rattle.semantics.proofs.Sound.Kept.{never}
use Rattle.semantics.proofs.Sound.Ends.{WholeEnds, marks_ends}

-- a value of double kind that is a whole number has a word that is
whole_word : (v : Datum) → kind_of v ≡ Double → Integral v → is_integral binary64 (word_of v) ≡ true
unfolding Integral
whole_word (double x) e h = h
whole_word (whole z) e h = never (cc)

-- In every run that demand 3 speaks of, the word that is written for a marked step of double kind is finite and has no fraction.
pub marked_word : {l : List Step} {s lent : List ℕ} {rs : List Range} {r : RunAnswer} {after : List ℕ} → Promised l s lent rs r after
    → (k : ℕ) → k < length l → range.kind_of (get_or rs k no_range) ≡ Double → get_or (marks_of l rs) k no_mark ≡ true → is_integral binary64 (get_or after k 0) ≡ true
marked_word {l} {s} {lent} {rs} {r} {after} p k h d m =
    let i : k < length (map word_of p.values) = omega (arith, p.count, length-map p.values word_of) in
    let e : get_or after k 0 ≡ word_of (get_or p.values k no_value) =
    ap (λ (w : List ℕ). get_or w k 0) p.written ∙ get_or-append (map word_of p.values) (drop (length l) lent) 0 k i ∙ get_or-map word_of p.values k no_value in
    rw e (whole_word (get_or p.values k no_value) (p.kinds k (omega arith) ∙ d) (p.integral k (omega arith) m))

-- A marked range of doubles has ends that are finite and have no fraction, whatever the frame.
pub marked_ends : (l : List Step) (rs : List Range) → Formed most_steps l → sheet_from l 0 [] ≡ passed rs → (k low high : ℕ) → k < length l
    → get_or (marks_of l rs) k no_mark ≡ true → get_or rs k no_range ≡ doubles low high → (is_integral binary64 low ≡ true) × (is_integral binary64 high ≡ true)
marked_ends l rs f e k low high h m q = go (rw q at (marks_ends l rs f e k h m))
  where
    go : WholeEnds (doubles low high) → (is_integral binary64 low ≡ true) × (is_integral binary64 high ≡ true)
    go w = (w.low_end, w.high_end)

-- ---- the rule at its corners, in a table that antt computes, so that a wrong rule is refused by an entry

-- the opcodes of double kind in order: 01, 03, 10 to 17, 20 to 24, 32, 40 to 42
abbrev marks_at : Range → Bool → Bool → List Bool
marks_at r a b =
    map (λ (k : ℕ). mark_rule k r a b) (0x01 ∷ 0x03 ∷ 0x10 ∷ 0x11 ∷ 0x12 ∷ 0x13 ∷ 0x14 ∷ 0x15 ∷ 0x16 ∷ 0x17 ∷ 0x20 ∷ 0x21 ∷ 0x22 ∷ 0x23 ∷ 0x24 ∷ 0x32 ∷ 0x40 ∷ 0x41 ∷ 0x42 ∷ [])

abbrev y : Bool
y = true

abbrev n : Bool
n = false

-- 1 to 2 with both operands marked, 1 to 1 with none, 0.5 to 0.5 with A's mark alone, 1 to infinity with B's, minus infinity to 1 with both
pub mark_table : marks_at (doubles 0x3ff0_0000_0000_0000 0x4000_0000_0000_0000) true true
    ∷ marks_at (doubles 0x3ff0_0000_0000_0000 0x3ff0_0000_0000_0000) false false
    ∷ marks_at (doubles 0x3fe0_0000_0000_0000 0x3fe0_0000_0000_0000) true false
    ∷ marks_at (doubles 0x3ff0_0000_0000_0000 0x7ff0_0000_0000_0000) false true
    ∷ marks_at (doubles 0xfff0_0000_0000_0000 0x3ff0_0000_0000_0000) true true
    ∷ []
    ≡ (n ∷ n ∷ y ∷ y ∷ y ∷ y ∷ y ∷ n ∷ y ∷ y ∷ y ∷ y ∷ y ∷ n ∷ y ∷ y ∷ y ∷ y ∷ y ∷ [])
    ∷ (y ∷ y ∷ y ∷ y ∷ y ∷ y ∷ y ∷ n ∷ n ∷ n ∷ n ∷ n ∷ n ∷ n ∷ n ∷ y ∷ n ∷ n ∷ n ∷ [])
    ∷ (n ∷ n ∷ y ∷ y ∷ y ∷ y ∷ y ∷ n ∷ y ∷ y ∷ n ∷ n ∷ n ∷ n ∷ n ∷ y ∷ n ∷ n ∷ n ∷ [])
    ∷ (n ∷ n ∷ n ∷ n ∷ n ∷ n ∷ n ∷ n ∷ n ∷ n ∷ n ∷ n ∷ n ∷ n ∷ n ∷ y ∷ n ∷ n ∷ n ∷ [])
    ∷ (n ∷ n ∷ n ∷ n ∷ n ∷ n ∷ n ∷ n ∷ y ∷ y ∷ y ∷ y ∷ y ∷ n ∷ y ∷ y ∷ y ∷ y ∷ y ∷ [])
    ∷ []
unfolding mark_rule is_integral is_nan is_infinite magnitude above under
mark_table = refl
