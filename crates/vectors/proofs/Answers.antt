-- `answer_at` by a function's number, and `answer_of` by a width: at one that is listed, and at any other. Assumes nothing.
use mathlib.Core.Path.{◌≡◌, refl, ap, sym}
use Prim.Native.Nat.{ℕ, ◌%◌, ◌^◌}
use lib.IntN.{ℤ}
use mir.Syntax.{w64}
use mir.Val.{of_z, to_z}
use borrow.Author.Tests.{ne_eqb}
use Rattle.float_format.specs.Format.{Format, binary16, binary32, binary64}
use Rattle.conversion.specs.Conversion.{converted, converted_refusal}
use Rattle.vectors.specs.declared.case.Case.{Case}
use Rattle.vectors.specs.Answer.{words, unknown_answer, whole_answer, nearest_at, further_at, answer_at, single_at, half_at, answer_of}

-- ---- by its parts

pub three : {r r' a a' b b' : ℕ} → r ≡ r' → a ≡ a' → b ≡ b' → words r a b ≡ words r' a' b'
three p q t = cc

pub whole : {r r' : ℕ} {z z' : ℤ} → r ≡ r' → z ≡ z' → whole_answer r z ≡ whole_answer r' z'
whole p q = three p (ap (of_z w64) q) refl

-- ---- by a function's number

-- in an arm, the function is the arm's number
pub listed : (f : Format) (x y : ℕ) (n : ℤ) {function k : ℕ} → function ≡ k → answer_at f k x y n ≡ answer_at f function x y n
listed f x y n e = sym (ap (λ (k : ℕ). answer_at f k x y n) e)

pub further : (f : Format) (x y : ℕ) (n : ℤ) {function k : ℕ} → function ≡ k → further_at f k x y n ≡ further_at f function x y n
further f x y n e = sym (ap (λ (k : ℕ). further_at f k x y n) e)

-- what the last arm of a match knows
abbrev pub Unlisted : ℕ → Type 0
Unlisted n =
    ((((((((Unit {0} × (n ≡ 16 → ⊥)) × (n ≡ 17 → ⊥)) × (n ≡ 18 → ⊥)) × (n ≡ 19 → ⊥)) × (n ≡ 20 → ⊥)) × (n ≡ 22 → ⊥)) × (n ≡ 23 → ⊥)) × (n ≡ 24 → ⊥)) × (n ≡ 25 → ⊥)

pub unlisted : (f : Format) (function x y : ℕ) (n : ℤ) → Unlisted function → further_at f function x y n ≡ answer_at f function x y n
unfolding answer_at
unlisted f k x y n h =
    simp (
      ne_eqb k 16 h.0.0.0.0.0.0.0.0.1,
      ne_eqb k 17 h.0.0.0.0.0.0.0.1,
      ne_eqb k 18 h.0.0.0.0.0.0.1,
      ne_eqb k 19 h.0.0.0.0.0.1,
      ne_eqb k 20 h.0.0.0.0.1,
      ne_eqb k 22 h.0.0.0.1,
      ne_eqb k 23 h.0.0.1,
      ne_eqb k 24 h.0.1,
      ne_eqb k 25 h.1,
    )

abbrev pub Further : ℕ → Type 0
Further n =
    ((((((Unit {0} × (n ≡ 21 → ⊥)) × (n ≡ 32 → ⊥)) × (n ≡ 33 → ⊥)) × (n ≡ 34 → ⊥)) × (n ≡ 35 → ⊥)) × (n ≡ 36 → ⊥)) × (n ≡ 37 → ⊥)

pub not_further : (f : Format) (function x y : ℕ) (n : ℤ) → Further function → nearest_at f function x y ≡ further_at f function x y n
unfolding further_at
not_further f k x y n h =
    simp (
      ne_eqb k 21 h.0.0.0.0.0.0.1,
      ne_eqb k 32 h.0.0.0.0.0.1,
      ne_eqb k 33 h.0.0.0.0.1,
      ne_eqb k 34 h.0.0.0.1,
      ne_eqb k 35 h.0.0.1,
      ne_eqb k 36 h.0.1,
      ne_eqb k 37 h.1,
    )

pub nearest : (f : Format) (x y : ℕ) {function k : ℕ} → function ≡ k → nearest_at f k x y ≡ nearest_at f function x y
nearest f x y e = sym (ap (λ (k : ℕ). nearest_at f k x y) e)

pub unknown : (f : Format) (function x y : ℕ) → (Unit {0} × (function ≡ 38 → ⊥)) × (function ≡ 39 → ⊥) → unknown_answer ≡ nearest_at f function x y
unfolding nearest_at
unknown f k x y h = simp (ne_eqb k 38 h.0.1, ne_eqb k 39 h.1)

-- of an f32 and of a half
pub exported : (function x y : ℕ) (n : ℤ) → function ≡ 27 → words (converted_refusal binary32 binary16 x) (converted binary32 binary16 x) 0 ≡ single_at function x y n
unfolding single_at
exported function x y n e = rw e

pub not_exported : (function x y : ℕ) (n : ℤ) → (function ≡ 27 → ⊥) → answer_at binary32 function x y n ≡ single_at function x y n
unfolding single_at
not_exported function x y n h = rw (ne_eqb function 27 h)

pub half : (x : ℕ) {function k : ℕ} → function ≡ k → half_at k x ≡ half_at function x
half x e = sym (ap (λ (k : ℕ). half_at k x) e)

abbrev pub NoHalf : ℕ → Type 0
NoHalf n = (((((Unit {0} × (n ≡ 16 → ⊥)) × (n ≡ 17 → ⊥)) × (n ≡ 18 → ⊥)) × (n ≡ 19 → ⊥)) × (n ≡ 20 → ⊥)) × (n ≡ 26 → ⊥)

pub no_half : (function x : ℕ) → NoHalf function → unknown_answer ≡ half_at function x
unfolding half_at
no_half k x h =
    simp (
      ne_eqb k 16 h.0.0.0.0.0.1,
      ne_eqb k 17 h.0.0.0.0.1,
      ne_eqb k 18 h.0.0.0.1,
      ne_eqb k 19 h.0.0.1,
      ne_eqb k 20 h.0.1,
      ne_eqb k 26 h.1,
    )

-- ---- by a width

module _ (c : Case) where
  pub at-64 : c.width ≡ 64 → answer_at binary64 c.function c.x c.y (to_z w64 c.y) ≡ answer_of c
  unfolding answer_of
  at-64 e = rw e

  pub at-32 : c.width ≡ 32 → single_at c.function (c.x % 2 ^ 32) (c.y % 2 ^ 32) (to_z w64 c.y) ≡ answer_of c
  unfolding answer_of
  at-32 e = rw e

  pub at-16 : c.width ≡ 16 → half_at c.function (c.x % 2 ^ 16) ≡ answer_of c
  unfolding answer_of
  at-16 e = rw e

  pub at_none : (c.width ≡ 64 → ⊥) → (c.width ≡ 32 → ⊥) → (c.width ≡ 16 → ⊥) → unknown_answer ≡ answer_of c
  unfolding answer_of
  at_none p q r = rw (ne_eqb c.width 64 p, ne_eqb c.width 32 q, ne_eqb c.width 16 r)
