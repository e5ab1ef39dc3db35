-- What it is for a range rule to keep its promise of a step, and a value's place in its range as facts about the ends. An operand of
-- the other kind counts as zero, in its value and in its range alike, so that no rule needs to know its operands' kinds. Assumes
-- nothing.
use mathlib.Core.Path.{◌≡◌, refl, sym, ◌∙◌}
use mathlib.Core.Bool.{Bool, true, false, ◌&&◌, ◌||◌}
use Prim.Native.Nat.{ℕ, ◌≤◌}
use native.Mathlib.Omega.{arith}
use lib.IntN.{ℤ}
use lib.Signed.{le_z}
use borrow.Author.Tests.{le-ltb, ltb-false}
use Rattle.float_format.specs.Format.{Valid, binary64, infinity, unsigned, is_nan}
use Rattle.float_format.specs.Number.{AtMost}
use Rattle.float_format.proofs.Patterns.{nan_is}
use Rattle.float_format.proofs.Order.{at_most_refl}
use Rattle.semantics.specs.Value.{Datum, double, whole, as_double, as_whole, Outcome, done}
use Rattle.semantics.specs.Range.{Range, doubles, wholes, low, high, least, most, Ranged, ranged}
use Rattle.semantics.specs.Range as range
use Rattle.semantics.specs.Promise.{Lies, Proper}

-- ---- two tests

pub never : {A : Type 0} → true ≡ false → A
never e = let z : ◌≡◌ {A = ℕ} 0 1 = cc in absurd (omega arith)

pub no_or : (s t : Bool) → (s || t) ≡ false → (s ≡ false) × (t ≡ false)
no_or true t e = never e
no_or false t e = (refl, e)

pub both : (s t : Bool) → (s && t) ≡ true → (s ≡ true) × (t ≡ true)
both true t e = (refl, e)
both false t e = never (sym e)

-- ---- the promise

-- the outcome is a value, it lies in r, and r is a range of numbers
pub record Held (r : Range) (o : Outcome) : Type 0 where
  pub value : Datum
  pub is : o ≡ done value
  pub lies : Lies r value
  pub proper : Proper r

-- a range that is refused promises nothing
abbrev pub Kept : Ranged → Outcome → Type 0
Kept (ranged r) o = Held r o
Kept (range.refused number) o = Unit {0}

-- ---- a double between two

pub record Between (l h x : ℕ) : Type 0 where
  pub low-number : is_nan binary64 l ≡ false
  pub high-number : is_nan binary64 h ≡ false
  pub number : is_nan binary64 x ≡ false
  pub from : AtMost binary64 l x
  pub upto : AtMost binary64 x h

pub valid : Valid binary64
valid = record { some_fraction = omega arith; some_exponent = omega arith; near = omega arith }

-- a number is a pattern not beyond infinity's
pub rest_of : (x : ℕ) → is_nan binary64 x ≡ false → unsigned binary64 x ≤ infinity binary64
rest_of x e = ltb-false (infinity binary64) (unsigned binary64 x) (sym (nan_is binary64 x) ∙ e)

pub number_of : (x : ℕ) → unsigned binary64 x ≤ infinity binary64 → is_nan binary64 x ≡ false
number_of x l = nan_is binary64 x ∙ le-ltb (infinity binary64) (unsigned binary64 x) l

pub zero_number : is_nan binary64 0 ≡ false
zero_number = nan_is binary64 0

pub held_double : {l h x : ℕ} → Between l h x → Held (doubles l h) (done (double x))
unfolding Lies Proper
held_double {l} {h} {x} b =
    record {
      value = double x;
      is = refl;
      lies = (b.number, b.from, b.upto);
      proper = (b.low-number, b.high-number);
    }

-- ---- a whole number between two

pub record Inside (l h z : ℤ) : Type 0 where
  pub from : le_z l z ≡ true
  pub upto : le_z z h ≡ true

pub held_whole : {l h z : ℤ} → Inside l h z → Held (wholes l h) (done (whole z))
unfolding Lies Proper
held_whole {l} {h} {z} i = record { value = whole z; is = refl; lies = (i.from, i.upto); proper = tt }

-- ---- an operand's value and range

pub between : (r : Range) (v : Datum) → Lies r v → Proper r → Between (low r) (high r) (as_double v)
unfolding Lies Proper
between (doubles l h) (double x) g p = record { low-number = p.0; high-number = p.1; number = g.0; from = g.1; upto = g.2 }
between (doubles l h) (whole z) g p = absurd g
between (wholes l h) (double x) g p = absurd g
between (wholes l h) (whole z) g p =
    record { low-number = zero_number; high-number = zero_number; number = zero_number; from = at_most_refl binary64 0; upto = at_most_refl binary64 0 }

pub inside : (r : Range) (v : Datum) → Lies r v → Inside (least r) (most r) (as_whole v)
unfolding Lies
inside (doubles l h) (double x) g = record { from = refl; upto = refl }
inside (doubles l h) (whole z) g = absurd g
inside (wholes l h) (double x) g = absurd g
inside (wholes l h) (whole z) g = record { from = g.0; upto = g.1 }
