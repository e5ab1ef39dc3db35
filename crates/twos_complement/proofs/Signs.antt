-- The test of a number's sign, as the code has it. Assumes nothing.
use mathlib.Core.Path.{◌≡◌, refl, ◌∙◌, sym}
use mathlib.Core.Bool.{Bool}
use lib.Dec.{leb-zero}
use lib.IntN.{ℤ, pos, negsuc}
use lib.Signed.{non_neg, le_z}
use mir.Syntax.{w64}
use mir.Val.{of_z, to_z, SFits}
use mir.ValLaws.{to_z-of_z}

-- `z >= 0`
ge_zero : (z : ℤ) → le_z (pos 0) z ≡ non_neg z
ge_zero (pos n) = leb-zero n
ge_zero (negsuc n) = refl

pub ge_test : (z : ℤ) (t : Bool) → SFits w64 z → le_z (pos 0) (to_z w64 (of_z w64 z)) ≡ t → non_neg z ≡ t
ge_test z t h e = sym (ge_zero z) ∙ (rw (to_z-of_z w64 z h) at e)
