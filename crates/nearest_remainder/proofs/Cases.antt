-- remainder and remquo's quotient by the classes of their operands. Where nothing is divided, remainder is fmod and the quotient is 0. Over every
-- format. Assumes nothing.
use mathlib.Core.Path.{◌≡◌, refl, sym, ◌∙◌}
use mathlib.Core.Bool.{Bool, true, false, ◌||◌, cond}
use mathlib.Core.Logic.{⊎_elim}
use Prim.Native.Nat.{ℕ, ◌%◌, ◌<◌}
use native.Mathlib.Omega.{arith}
use native.Mathlib.Nat.{eq-zero-or-pos}
use lib.IntN.{pos}
use lib.Ieee.{unlike}
use borrow.Author.Tests.{ne_eqb, lt-leb}
use Rattle.float_format.specs.Format.{Format, infinity, negative, unsigned, is_nan, is_infinite}
use Rattle.float_format.specs.Number.{units_of}
use Rattle.float_format.specs.Rounding.{with_sign}
use Rattle.float_format.proofs.Units.{lt_or_ge, three_way}
use Rattle.remainder.specs.Remainder.{fmod, no_remainder}
use Rattle.remainder.specs.Shape.{is_special}
use Rattle.remainder.proofs.Cases.{different, finite_nonzero, is_nan_lem, no_nan, is_infinite_lem, not_infinite, is_zero_lem, not_zero}
use Rattle.remainder.proofs.Laws.{Operands}
use Rattle.nearest_remainder.specs.Nearest.{nearest_quotient, less_nearest, remainder, remquo_quotient}

-- an operand for which nothing is divided
abbrev pub undivided : Format → ℕ → ℕ → Bool
undivided f x y = is_nan f x || is_nan f y || no_remainder f x y || is_infinite f y

-- where one of the first four tests is true, the last of five answers does not count
never_last : {A : Type 0} (a b c d : Bool) (p q r s t u : A) → (a || b || c || d) ≡ true
    → cond a p (cond b q (cond c r (cond d s t))) ≡ cond a p (cond b q (cond c r (cond d s u)))
never_last true b c d p q r s t u e = refl
never_last false true c d p q r s t u e = refl
never_last false false true d p q r s t u e = refl
never_last false false false true p q r s t u e = refl
never_last false false false false p q r s t u e = different (sym e)

module _ (f : Format) (x y : ℕ) where
  -- ---- nothing is divided

  pub as_fmod : undivided f x y ≡ true → remainder f x y ≡ fmod f x y
  unfolding remainder fmod
  as_fmod e = never_last (is_nan f x) (is_nan f y) (no_remainder f x y) (is_infinite f y) _ _ _ _ _ _ e

  pub no_quotient : undivided f x y ≡ true → remquo_quotient f x y ≡ pos 0
  unfolding remquo_quotient
  no_quotient e = simp e

  -- the code's test for it
  pub special_undivided : is_special f x y ≡ true → undivided f x y ≡ true
  special_undivided e =
      three_way (unsigned f x) (infinity f)
      (λ l. three_way (unsigned f y) (infinity f) (λ k. ⊎_elim (λ z. zero l k z) (λ n. ordinary l k n) (eq-zero-or-pos (unsigned f y))) (λ g. simp (no_nan f x (omega arith), no_nan f y (omega arith), not_infinite f x l, not_zero f y (omega arith), is_infinite_lem f y g)) (λ k. simp (no_nan f x (omega arith), is_nan_lem f y k)))
      (λ g. ⊎_elim (λ k. simp (no_nan f x (omega arith), is_nan_lem f y k)) (λ k. simp (no_nan f x (omega arith), no_nan f y k, is_infinite_lem f x g)) (lt_or_ge (infinity f) (unsigned f y)))
      (λ l. simp (is_nan_lem f x l))
    where
      zero : unsigned f x < infinity f → unsigned f y < infinity f → unsigned f y ≡ 0 → undivided f x y ≡ true
      zero l k z = simp (no_nan f x (omega arith), no_nan f y (omega arith), not_infinite f x l, is_zero_lem f y z)

      ordinary : unsigned f x < infinity f → unsigned f y < infinity f → 0 < unsigned f y → undivided f x y ≡ true
      ordinary l k n = different (sym e ∙ simp (lt-leb (infinity f) (unsigned f x) l, lt-leb (infinity f) (unsigned f y) k, ne_eqb (unsigned f y) 0 (omega arith)))

  -- ---- finite x and y, y not zero

  module _ (o : Operands f x y) where
    operands_divided : undivided f x y ≡ false
    operands_divided =
        simp (no_nan f x (omega (arith, o.finite_x)), no_nan f y (omega (arith, o.finite_y)), not_infinite f x o.finite_x, not_zero f y o.nonzero, not_infinite f y o.finite_y)

    pub divided : remainder f x y ≡ less_nearest f (negative f x) (units_of f x) (units_of f y)
    unfolding remainder
    divided =
        simp (no_nan f x (omega (arith, o.finite_x)), no_nan f y (omega (arith, o.finite_y)), not_infinite f x o.finite_x, not_zero f y o.nonzero, not_infinite f y o.finite_y)

    pub quotient : remquo_quotient f x y ≡ with_sign (unlike (negative f x) (negative f y)) (nearest_quotient (units_of f x) (units_of f y) % 8)
    unfolding remquo_quotient
    quotient = simp operands_divided

  pub special_operands : is_special f x y ≡ false → Operands f x y
  special_operands e =
      let h : (unsigned f x < infinity f) × (unsigned f y < infinity f) × (0 < unsigned f y) = finite_nonzero f x y e in
      record { finite_x = h.0; finite_y = h.1; nonzero = h.2 }
