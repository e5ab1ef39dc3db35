-- What a caller has of the reader's answer: the steps that it counts, or the text's refusal. Assumes nothing.
use mathlib.Core.Path.{◌≡◌, refl}
use mathlib.Core.List.{List}
use Prim.Native.Nat.{ℕ, ◌*◌, ◌≤◌}
use native.Mathlib.Omega.{arith}
use lib.ListN.{length, take}
use Rattle.std.specs.Prelude.{Ok, Err}
use Rattle.recipe.specs.declared.Fault.{Fault}
use Rattle.recipe.specs.declared.Fault.TheVariants.{Length, Malformed, UnknownOpcode, UnusedField, OperandAhead, WrongKind, BadRange, TooManyInputs}
use Rattle.recipe.specs.declared.Refusal.{Refusal}
use Rattle.recipe.specs.Fault.{number_of}
use Rattle.recipe.specs.Text.{most_steps, short, steps, refused, read_text}
use Rattle.recipe.specs.Packed.{steps_in}
use Rattle.recipe.specs.Answer.{Says, Holds}
use Rattle.recipe.proofs.Laws.{answer_steps, answer_count, answer_holds, answer_refused}
use Rattle.reader.specs.Checks.{reading_of}

-- No refusal has the number 0.
pub some_number : (fault : Fault) → number_of fault ≡ 0 → ⊥
some_number Length e = omega arith
some_number Malformed e = omega arith
some_number UnknownOpcode e = omega arith
some_number UnusedField e = omega arith
some_number OperandAhead e = omega arith
some_number WrongKind e = omega arith
some_number BadRange e = omega arith
some_number TooManyInputs e = omega arith

-- Err has the text's refusal.
pub read_refused : (s w : List ℕ) (r : Refusal) → Says (read_text short s) (reading_of (Err r)) w → read_text short s ≡ refused (number_of r.fault) r.place.0
read_refused s w r g = answer_refused s (reading_of (Err r)) w g (some_number r.fault)

-- Ok counts the text's steps: 1 to 128, which the first words hold.
module _ (s w : List ℕ) (n : ℕ) (g : Says (read_text short s) (reading_of (Ok n)) w) where
  pub read_steps : read_text short s ≡ steps (steps_in w n)
  read_steps = answer_steps s (reading_of (Ok n)) w g refl

  pub read_count : (1 ≤ n) × (n ≤ most_steps)
  read_count = answer_count s (reading_of (Ok n)) w g refl

  pub read_holds : 3 * n ≤ length w → Holds (steps_in w n) (take (3 * n) w)
  read_holds h = answer_holds s (reading_of (Ok n)) w g refl h
