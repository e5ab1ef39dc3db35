-- A magnitude negated in a word of any size: 0 less it is its negation, and that fits. Assumes nothing.
use mathlib.Core.Path.{◌≡◌, ap, ◌∙◌}
use Prim.Native.Nat.{ℕ, zero, suc, ◌^◌, ◌<◌}
use native.Mathlib.Omega.{arith}
use lib.IntN.{ℤ, pos, neg_ℤ, ◌-ℤ◌, +ℤ_idl}
use mir.Syntax.{Width}
use mir.Val.{to_z, SFits, hbits}
use mir.ValLaws.{to_z_pos}

pub minus_is : (w : Width) (n : ℕ) → n < 2 ^ hbits w → pos 0 -ℤ to_z w n ≡ neg_ℤ (pos n)
minus_is w n h = ap (λ (z : ℤ). pos 0 -ℤ z) (to_z_pos w n h) ∙ +ℤ_idl (neg_ℤ (pos n))

pub minus_fits : (w : Width) (n : ℕ) → n < 2 ^ hbits w → SFits w (neg_ℤ (pos n))
minus_fits w zero h = record { sfits = h }
minus_fits w (suc n) h = record { sfits = omega arith }
