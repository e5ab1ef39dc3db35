-- How far the code shifts, over every format that fits a word. Assumes nothing.
use mathlib.Core.Path.{◌≡◌, ap, ◌∙◌}
use mathlib.Core.Bool.{Bool, true, false, cond}
use mathlib.Core.Logic.{⊎_elim}
use Prim.Native.Nat.{ℕ, ◌+◌, ◌-◌, ◌%◌, ◌^◌, ◌≤◌, ◌<◌}
use native.Mathlib.Nat.{mod-eq_of_lt, mod-lt}
use native.Mathlib.Omega.{arith}
use lib.Dec.{ltb}
use lib.Pow.{pow_mono}
use borrow.Author.Tests.{lt-ltb, le-ltb}
use Rattle.float_format.specs.Format.{Format}
use Rattle.float_format.specs.Number.{bias}
use Rattle.float_format.proofs.Units.{lt_or_ge}
use Rattle.rounding.specs.Shape.{fraction_shift}

pub shift_is : (f : Format) (e : ℕ) → f.fraction < 64 → bias f ≤ e → fraction_shift f e ≡ bias f + f.fraction - e
shift_is f e n h = ⊎_elim (λ l. some l) (λ g. none g) (lt_or_ge e (bias f + f.fraction))
  where
    some : e < bias f + f.fraction → fraction_shift f e ≡ bias f + f.fraction - e
    some l = ap (λ (t : Bool). cond t ((bias f + f.fraction - e) % 64) 0) (lt-ltb e (bias f + f.fraction) l) ∙ mod-eq_of_lt (omega arith)

    none : bias f + f.fraction ≤ e → fraction_shift f e ≡ bias f + f.fraction - e
    none g = ap (λ (t : Bool). cond t ((bias f + f.fraction - e) % 64) 0) (le-ltb e (bias f + f.fraction) g) ∙ omega arith

pub shift_lt : (f : Format) (e : ℕ) → fraction_shift f e < 64
shift_lt f e = pick (ltb e (bias f + f.fraction))
  where
    pick : (t : Bool) → cond t ((bias f + f.fraction - e) % 64) 0 < 64
    pick true = mod-lt (bias f + f.fraction - e) (omega arith)
    pick false = omega arith

pub unit_le : (f : Format) (e : ℕ) → 2 ^ fraction_shift f e ≤ 2 ^ 63
unit_le f e = pow_mono {i = fraction_shift f e} {j = 63} (omega (arith, shift_lt f e))

pub unit_from_one : (f : Format) (e : ℕ) → f.fraction < 64 → bias f ≤ e → 2 ^ fraction_shift f e ≤ 2 ^ f.fraction
unit_from_one f e n h = pow_mono (omega (arith, shift_is f e n h))
