-- Range rules of inputs and constants. Assumes nothing.
use mathlib.Core.Path.{◌≡◌}
use mathlib.Core.Bool.{true, false, ◌||◌}
use Prim.Native.Nat.{ℕ, ◌+◌}
use native.Mathlib.Omega.{arith}
use lib.IntN.{ℤ, pos, negsuc}
use lib.Signed.{le_z}
use mir.Syntax.{w64}
use mir.Val.{to_z}
use borrow.Author.Tests.{ltb-false, not-false, le-leb}
use Rattle.float_format.specs.Format.{binary64, is_nan}
use Rattle.float_format.specs.Number.{above, under, AtMost}
use Rattle.float_format.proofs.Order.{at_most_refl}
use Rattle.recipe.specs.Text.{double_above, whole_above}
use Rattle.semantics.proofs.Sound.Kept.{no_or, Between, Inside}

not_above : (p q : ℕ) → double_above p q ≡ false → AtMost binary64 p q
not_above p q e = ltb-false (above binary64 q + under binary64 p) (above binary64 p + under binary64 q) e

-- 01: what refusals 16 and 32 leave
pub double_input : (p q w : ℕ) → (is_nan binary64 p || is_nan binary64 q || double_above p q) ≡ false
    → (is_nan binary64 w || double_above p w || double_above w q) ≡ false → Between p q w
double_input p q w e g =
    let pe : ((is_nan binary64 p || is_nan binary64 q) ≡ false) × (double_above p q ≡ false) = no_or (is_nan binary64 p || is_nan binary64 q) (double_above p q) e in
    let ge : ((is_nan binary64 w || double_above p w) ≡ false) × (double_above w q ≡ false) = no_or (is_nan binary64 w || double_above p w) (double_above w q) g in
    let pn : (is_nan binary64 p ≡ false) × (is_nan binary64 q ≡ false) = no_or (is_nan binary64 p) (is_nan binary64 q) pe.0 in
    let gn : (is_nan binary64 w ≡ false) × (double_above p w ≡ false) = no_or (is_nan binary64 w) (double_above p w) ge.0 in
    record { low-number = pn.0; high-number = pn.1; number = gn.0; from = not_above p w gn.1; upto = not_above w q ge.1 }

-- 02
pub whole_input : (p q w : ℕ) → (whole_above p w || whole_above w q) ≡ false → Inside (to_z w64 p) (to_z w64 q) (to_z w64 w)
whole_input p q w g =
    let ge : (whole_above p w ≡ false) × (whole_above w q ≡ false) = no_or (whole_above p w) (whole_above w q) g in
    record { from = not-false (le_z (to_z w64 p) (to_z w64 w)) ge.0; upto = not-false (le_z (to_z w64 w) (to_z w64 q)) ge.1 }

-- 03, 04
pub double_constant : (p : ℕ) → is_nan binary64 p ≡ false → Between p p p
double_constant p e = record { low-number = e; high-number = e; number = e; from = at_most_refl binary64 p; upto = at_most_refl binary64 p }

pub le_same : (z : ℤ) → le_z z z ≡ true
le_same (pos n) = le-leb n n (omega arith)
le_same (negsuc n) = le-leb n n (omega arith)

pub whole_constant : (z : ℤ) → Inside z z z
whole_constant z = record { from = le_same z; upto = le_same z }
