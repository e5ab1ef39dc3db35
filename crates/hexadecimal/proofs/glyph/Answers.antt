-- `glyph` meets its contract: (d + 6) / 16 is 0 of a figure and 1 of a letter. Assumes nothing.
use mathlib.Core.Path.{◌≡◌, refl}
use mathlib.Core.Bool.{Bool, true, false, cond}
use Prim.Native.Nat.{ℕ, ◌+◌, ◌*◌, ◌/◌, ◌<◌}
use native.Mathlib.Omega.{arith}
use lib.Dec.{ltb}
use borrow.Author.Tests.{ltb-true, ltb-false}
use Rattle.hexadecimal.proofs.glyph.Goals as goal

by-test : (d : ℕ) → d < 16 → (b : Bool) → ltb d 10 ≡ b → 48 + d + (d + 6) / 16 * 39 ≡ cond b (48 + d) (87 + d)
by-test d h true e = omega (arith, ltb-true d 10 e)
by-test d h false e = omega (arith, ltb-false d 10 e)

pub returns : goal.returns
returns c = by-test c.args.d c.requires (ltb c.args.d 10) refl
