-- What a user would state of each check, whatever order the definition works in: how a line ends, what an input that passes has for its ends, and
-- that a step's refusal is the first check that it fails. Each is one look at the definition's cases. Assumes nothing.
use mathlib.Core.Path.{◌≡◌, refl}
use mathlib.Core.Bool.{Bool, true, false, not, ◌&&◌, ◌||◌}
use mathlib.Core.List.{List}
use Prim.Native.Nat.{ℕ, ◌+◌, ◌*◌, ◌<◌}
use native.Mathlib.Omega.{arith}
use lib.Dec.{eqb, leb}
use lib.ListN.{length, get_or}
use lib.Signed.{le_z}
use mir.Syntax.{w64}
use mir.Val.{to_z}
use borrow.Author.Tests.{eqb-true, ltb-false, le-ltb}
use Rattle.float_format.specs.Format.{binary64, is_nan}
use Rattle.float_format.specs.Number.{AtMost}
use Rattle.hexadecimal.specs.Hex.{field_of}
use Rattle.std.specs.Prelude.{Option, Some, None}
use Rattle.recipe.specs.declared.Kind.TheVariants.{Double, Whole}
use Rattle.recipe.specs.declared.Row.TheVariants.{Input}
use Rattle.recipe.specs.declared.Step.{Step}
use Rattle.recipe.specs.Table.{row_of, is_input}
use Rattle.recipe.specs.Text.{Form, good, refused, is_unknown, unused_set, operand_ahead, wrong_kind, bad_range, inputs_in, from_fields, line_at, step_refusal, bad_length, read_text}
use Rattle.recipe.proofs.Counts.{never, or_false}

-- ---- refusal 10

-- A text of a bad length is refused with 10, at place 0.
pub bad_text : (f : Form) (s : List ℕ) → bad_length f (length s) ≡ true → read_text f s ≡ refused 10 0
unfolding read_text
bad_text f s e = rw e

-- ---- refusal 11

ended : (o a b p q : Option ℕ) (feed : Bool) (t : Step) → from_fields o a b p q feed ≡ good t → feed ≡ true
unfolding from_fields
ended (Some o) (Some a) (Some b) (Some p) (Some q) true t e = refl
ended (Some o) (Some a) (Some b) (Some p) (Some q) false t e = never (cc)
ended (Some o) (Some a) (Some b) (Some p) None feed t e = never (cc)
ended (Some o) (Some a) (Some b) None q feed t e = never (cc)
ended (Some o) (Some a) None p q feed t e = never (cc)
ended (Some o) None b p q feed t e = never (cc)
ended None a b p q feed t e = never (cc)

-- A line that is read ends with a line feed.
pub line_ends : (f : Form) (s : List ℕ) (at : ℕ) (t : Step) → line_at f s at ≡ good t → get_or s (at + 34 + 2 * f.operand) 0 ≡ 10
unfolding line_at
line_ends f s at t e =
    let o = f.operand in
    let b = get_or s (at + 34 + 2 * o) 0 in
    eqb-true b 10
    (ended
    (field_of s at 2 0)
    (field_of s (at + 2) o 0)
    (field_of s (at + 2 + o) o 0)
    (field_of s (at + 2 + 2 * o) 16 0)
    (field_of s (at + 18 + 2 * o) 16 0)
    (eqb b 10)
    t
    e)

-- ---- refusal 16

-- A double input passes check 16 where its ends are no NaN and P's number is at most Q's, and only there.
pub double_range_lem : (t : Step) → bad_range (Input Double) t ≡ false → (is_nan binary64 t.p ≡ false) × (is_nan binary64 t.q ≡ false) × AtMost binary64 t.p t.q
double_range_lem t e =
    let n = or_false (is_nan binary64 t.p || is_nan binary64 t.q) _ e in
    let m = or_false (is_nan binary64 t.p) (is_nan binary64 t.q) n.0 in
    (m.0, m.1, ltb-false _ _ n.1)

pub double_range_passes : (t : Step) → is_nan binary64 t.p ≡ false → is_nan binary64 t.q ≡ false → AtMost binary64 t.p t.q → bad_range (Input Double) t ≡ false
double_range_passes t ep eq h = rw (ep, eq, le-ltb _ _ h)

not_false : (b : Bool) → not b ≡ false → b ≡ true
not_false true e = refl
not_false false e = never (cc)

-- A whole input passes it where P is at most Q, and only there.
pub whole_range_lem : (t : Step) → bad_range (Input Whole) t ≡ false → le_z (to_z w64 t.p) (to_z w64 t.q) ≡ true
whole_range_lem t e = not_false (le_z (to_z w64 t.p) (to_z w64 t.q)) e

pub whole_range_passes : (t : Step) → le_z (to_z w64 t.p) (to_z w64 t.q) ≡ true → bad_range (Input Whole) t ≡ false
whole_range_passes t h = rw h

-- ---- the order of the checks

-- the step t, after the steps l, fails the check of this number
pub data Fails (l : List Step) (t : Step) : ℕ → Type 0 where
  unknown : is_unknown (row_of t.opcode) ≡ true → Fails l t 12
  unused : unused_set (row_of t.opcode) t ≡ true → Fails l t 13
  ahead : operand_ahead (row_of t.opcode) (length l) t ≡ true → Fails l t 14
  kinds : wrong_kind (row_of t.opcode) l t ≡ true → Fails l t 15
  range : bad_range (row_of t.opcode) t ≡ true → Fails l t 16
  inputs : (is_input (row_of t.opcode) && leb 16 (inputs_in l)) ≡ true → Fails l t 17

passes : (b : Bool) → (b ≡ true → ⊥) → b ≡ false
passes true h = absurd (h refl)
passes false h = refl

module _ (l : List Step) (t : Step) (n : ℕ) (h : (m : ℕ) → m < n → Fails l t m → ⊥) where
  past_12 : 12 < n → is_unknown (row_of t.opcode) ≡ false
  past_12 k = passes (is_unknown (row_of t.opcode)) (λ e. h 12 k (unknown e))

  past_13 : 13 < n → unused_set (row_of t.opcode) t ≡ false
  past_13 k = passes (unused_set (row_of t.opcode) t) (λ e. h 13 k (unused e))

  past_14 : 14 < n → operand_ahead (row_of t.opcode) (length l) t ≡ false
  past_14 k = passes (operand_ahead (row_of t.opcode) (length l) t) (λ e. h 14 k (ahead e))

  past_15 : 15 < n → wrong_kind (row_of t.opcode) l t ≡ false
  past_15 k = passes (wrong_kind (row_of t.opcode) l t) (λ e. h 15 k (kinds e))

  past_16 : 16 < n → bad_range (row_of t.opcode) t ≡ false
  past_16 k = passes (bad_range (row_of t.opcode) t) (λ e. h 16 k (range e))

  past_17 : 17 < n → (is_input (row_of t.opcode) && leb 16 (inputs_in l)) ≡ false
  past_17 k = passes (is_input (row_of t.opcode) && leb 16 (inputs_in l)) (λ e. h 17 k (inputs e))

module _ (l : List Step) (t : Step) where
  -- A step's refusal is the first check that it fails, whatever it is for the later ones ..
  pub first_refused : {n : ℕ} → Fails l t n → ((m : ℕ) → m < n → Fails l t m → ⊥) → step_refusal l t ≡ n
  unfolding step_refusal
  first_refused (unknown e) h = rw e
  first_refused (unused e) h = rw (past_12 l t 13 h (omega arith), e)
  first_refused (ahead e) h = rw (past_12 l t 14 h (omega arith), past_13 l t 14 h (omega arith), e)
  first_refused (kinds e) h = rw (past_12 l t 15 h (omega arith), past_13 l t 15 h (omega arith), past_14 l t 15 h (omega arith), e)
  first_refused (range e) h =
      rw (past_12 l t 16 h (omega arith), past_13 l t 16 h (omega arith), past_14 l t 16 h (omega arith), past_15 l t 16 h (omega arith), e)
  first_refused (inputs e) h =
      rw (
        past_12 l t 17 h (omega arith),
        past_13 l t 17 h (omega arith),
        past_14 l t 17 h (omega arith),
        past_15 l t 17 h (omega arith),
        past_16 l t 17 h (omega arith),
        e,
      )

  -- .. and 0 where it fails none.
  pub none_refused : ((m : ℕ) → Fails l t m → ⊥) → step_refusal l t ≡ 0
  unfolding step_refusal
  none_refused h =
      let g : (m : ℕ) → m < 18 → Fails l t m → ⊥ = λ m k. h m in
      rw (
        past_12 l t 18 g (omega arith),
        past_13 l t 18 g (omega arith),
        past_14 l t 18 g (omega arith),
        past_15 l t 18 g (omega arith),
        past_16 l t 18 g (omega arith),
        past_17 l t 18 g (omega arith),
      )
