-- Which steps have the whole mark and which do not, as document 02 states it (W-203), by the opcode; a and b are the operands' marks. Assumes
-- nothing.
use mathlib.Core.Path.{◌≡◌, refl, sym, ap, ◌∙◌}
use mathlib.Core.Bool.{Bool, true, false, not, ◌&&◌}
use Prim.Native.Nat.{ℕ}
use native.Mathlib.Omega.{arith}
use lib.IntN.{ℤ}
use borrow.Author.Tests.{eqb-true}
use Rattle.float_format.specs.Format.{binary64, infinity, unsigned, is_nan, is_infinite}
use Rattle.float_format.specs.Number.{magnitude, above, under, below, is_integral}
use Rattle.float_format.proofs.Patterns.{infinite_is}
use Rattle.float_format.proofs.Integers.{integer_beyond}
use Rattle.semantics.specs.Range.{doubles, wholes}
use Rattle.semantics.specs.Mark.{mark_rule}

module _ (a b : Bool) where
  -- Every step of whole kind has it, whatever its opcode, and so has 32.
  pub whole_marked : (k : ℕ) (l h : ℤ) → mark_rule k (wholes l h) a b ≡ true
  unfolding mark_rule
  whole_marked k l h = refl

  pub as_double_marked : (l h : ℕ) → mark_rule 0x32 (doubles l h) a b ≡ true
  unfolding mark_rule
  as_double_marked l h = refl

  -- 15 and 23: modf's fraction and ldexp never have it.
  pub fraction_unmarked : (l h : ℕ) → mark_rule 0x15 (doubles l h) a b ≡ false
  unfolding mark_rule
  fraction_unmarked l h = refl

  pub ldexp_unmarked : (l h : ℕ) → mark_rule 0x23 (doubles l h) a b ≡ false
  unfolding mark_rule
  ldexp_unmarked l h = refl

  -- 24: remainder has it when both operands do (W-204).
  pub remainder-marked : (l h : ℕ) → mark_rule 0x24 (doubles l h) a b ≡ (a && b)
  unfolding mark_rule
  remainder-marked l h = refl

  -- 40 to 42: add, subtract and multiply too (W-208).
  pub add_marked : (l h : ℕ) → mark_rule 0x40 (doubles l h) a b ≡ (a && b)
  unfolding mark_rule
  add_marked l h = refl

  pub subtract_marked : (l h : ℕ) → mark_rule 0x41 (doubles l h) a b ≡ (a && b)
  unfolding mark_rule
  subtract_marked l h = refl

  pub multiply_marked : (l h : ℕ) → mark_rule 0x42 (doubles l h) a b ≡ (a && b)
  unfolding mark_rule
  multiply_marked l h = refl

  -- 01: an input with P below Q does not have it.
  pub input_range_unmarked : (p q : ℕ) → below binary64 p q ≡ true → mark_rule 0x01 (doubles p q) a b ≡ false
  unfolding mark_rule
  input_range_unmarked p q e = ap (λ (t : Bool). not t && is_integral binary64 p) e

  -- 03: an infinite constant does not have it, and both zeros do.
  pub infinite_constant_unmarked : (p : ℕ) → is_infinite binary64 p ≡ true → mark_rule 0x03 (doubles p p) a b ≡ false
  unfolding mark_rule
  infinite_constant_unmarked p e =
      let i : unsigned binary64 p ≡ infinity binary64 = eqb-true (unsigned binary64 p) (infinity binary64) (sym (infinite_is binary64 p) ∙ e) in
      rw (integer_beyond binary64 p (omega arith)) (no_and (not (below binary64 p p)))
    where
      no_and : (t : Bool) → (t && false) ≡ false
      no_and true = refl
      no_and false = refl

  pub zero_constant_marked : (mark_rule 0x03 (doubles 0 0) a b ≡ true) × (mark_rule 0x03 (doubles 0x8000_0000_0000_0000 0x8000_0000_0000_0000) a b ≡ true)
  unfolding mark_rule is_integral is_nan is_infinite magnitude above under
  zero_constant_marked = (refl, refl)

  -- 01: the two zeros are one number, in either order.
  pub zero_input_marked : (mark_rule 0x01 (doubles 0 0x8000_0000_0000_0000) a b ≡ true) × (mark_rule 0x01 (doubles 0x8000_0000_0000_0000 0) a b ≡ true)
  unfolding mark_rule is_integral is_nan is_infinite magnitude above under
  zero_input_marked = (refl, refl)
