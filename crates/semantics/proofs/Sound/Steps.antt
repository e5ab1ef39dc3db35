-- One step: the range that the sheet's rule gives holds the value that the run's rule gives, and where the sheet's rule refuses nothing
-- the run's does not. By the opcode, one rule after the other. Assumes nothing.
use mathlib.Core.Path.{◌≡◌, sym}
use mathlib.Core.Bool.{false}
use mathlib.Core.List.{List}
use Prim.Native.Nat.{ℕ}
use lib.IntN.{pos}
use mir.Syntax.{w64}
use mir.Val.{to_z}
use Rattle.float_format.specs.declared.Direction.TheVariants.{Down, Up, TowardZero, HalfAway, HalfEven}
use Rattle.recipe.specs.declared.Step.{Step}
use Rattle.recipe.specs.Table.{row_of}
use Rattle.recipe.specs.Text.{bad_range}
use Rattle.recipe.specs.Answer.{Checked}
use Rattle.semantics.specs.Value.{Datum, as_double, as_whole, rule_of, step_value}
use Rattle.semantics.specs.Range.{Range, low, high, least, most, ranged, range_rule, step_range}
use Rattle.semantics.specs.Frame.{outside}
use Rattle.semantics.specs.Promise.{Lies, Proper}
use Rattle.semantics.proofs.Rules.{Unlisted, unlisted, range_unlisted, by_opcode}
use Rattle.semantics.proofs.Sound.Kept.{Held, Kept, Between, Inside, held_double, held_whole, between, inside}
use Rattle.semantics.proofs.Sound.Floats.{rounded, negate, smaller, larger, absolute_held}
use Rattle.semantics.proofs.Sound.Wholes.{sum, difference, whole_kept}
use Rattle.semantics.proofs.Sound.Fractions.{fraction_held, fmod_kept}
use Rattle.semantics.proofs.Sound.Inputs.{double_input, whole_input, double_constant, whole_constant}
use Rattle.semantics.proofs.Sound.Lround.{lround_kept}
use Rattle.semantics.proofs.Sound.Scaled.{ldexp_kept}
use Rattle.semantics.proofs.Sound.Nearest.{remainder_kept}
use Rattle.semantics.proofs.Sound.Doubles.{double_kept}
use Rattle.semantics.proofs.Sound.Arithmetic.{add_kept, subtract_kept, multiply_kept}

-- ---- by the opcode

module _ (t : Step) (w : ℕ) (r s : Range) (a b : Datum) (la : Lies r a) (lb : Lies s b) (pa : Proper r) (pb : Proper s) where
  x : Between (low r) (high r) (as_double a)
  x = between r a la pa

  y : Between (low s) (high s) (as_double b)
  y = between s b lb pb

  m : Inside (least r) (most r) (as_whole a)
  m = inside r a la

  n : Inside (least s) (most s) (as_whole b)
  n = inside s b lb

  -- what is to be shown of an opcode
  abbrev Good : ℕ → Type 0
  Good k =
      bad_range (row_of k) t ≡ false → outside (row_of k) t w ≡ false
      → Kept (range_rule k t.p t.q r s) (rule_of k t.p w (as_double a) (as_double b) (as_whole a) (as_whole b))

  good_other : (k : ℕ) → Unlisted k → Good k
  good_other k h e g =
      rw (sym (range_unlisted k t.p t.q r s h), sym (unlisted k t.p w (as_double a) (as_double b) (as_whole a) (as_whole b) h))
      (held_whole (whole_constant (pos 0)))

  good : (k : ℕ) → Good k
  unfolding range_rule rule_of row_of
  good k =
      by_opcode Good
      (λ e g. held_double (double_input t.p t.q w e g))
      (λ e g. held_whole (whole_input t.p t.q w g))
      (λ e g. held_double (double_constant t.p e))
      (λ e g. held_whole (whole_constant (to_z w64 t.p)))
      (λ e g. held_double (rounded Down x))
      (λ e g. held_double (rounded Up x))
      (λ e g. held_double (rounded TowardZero x))
      (λ e g. held_double (rounded HalfAway x))
      (λ e g. held_double (rounded HalfEven x))
      (λ e g. fraction_held x)
      (λ e g. absolute_held x)
      (λ e g. held_double (negate x))
      (λ e g. lround_kept x)
      (λ e g. held_double (smaller x y))
      (λ e g. held_double (larger x y))
      (λ e g. fmod_kept x y)
      (λ e g. ldexp_kept x n)
      (λ e g. remainder_kept x y)
      (λ e g. whole_kept (sum m n))
      (λ e g. whole_kept (difference m n))
      (λ e g. double_kept m)
      (λ e g. add_kept x y)
      (λ e g. subtract_kept x y)
      (λ e g. multiply_kept x y)
      good_other
      k

  pub step_kept : bad_range (row_of t.opcode) t ≡ false → outside (row_of t.opcode) t w ≡ false → Kept (step_range t r s) (step_value t w a b)
  unfolding step_range step_value
  step_kept e g = good t.opcode e g

-- ---- as a user would state it

-- A step t that was read, after the steps l: where its operands' values lie in their ranges, its input's word is not outside what is
-- declared, and the sheet's rule gives the range r and so refuses nothing, the run's rule refuses nothing either, gives a value, and
-- that lies in r.
pub step_sound : (l : List Step) (t : Step) (w : ℕ) (a b : Datum) (a' b' r : Range) → Checked l t → outside (row_of t.opcode) t w ≡ false
    → Lies a' a → Lies b' b → Proper a' → Proper b' → step_range t a' b' ≡ ranged r → Held r (step_value t w a b)
step_sound l t w a b a' b' r c o la lb pa pb e =
    let k : Kept (step_range t a' b') (step_value t w a b) = step_kept t w a' b' a b la lb pa pb c.range o in
    let h : Kept (ranged r) (step_value t w a b) = rw e at k in
    h
