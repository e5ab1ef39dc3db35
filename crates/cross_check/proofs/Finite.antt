-- The test of two operands, and what it says of them. Assumes nothing.
use mathlib.Core.Path.{◌≡◌, refl, sym, ap}
use mathlib.Core.Bool.{Bool, true, false, ◌&&◌, false≢true, cond}
use Prim.Native.Nat.{ℕ, ◌<◌}
use lib.Dec.{ltb}
use borrow.Author.Tests.{ltb-true}
use Rattle.float_format.specs.Format.{binary64, infinity, unsigned, default_nan}
use Rattle.cross_check.specs.Finite.{both_finite, on_finite}

both : (s t : Bool) → s && t ≡ true → (s ≡ true) × (t ≡ true)
both true true e = (refl, refl)
both true false e = absurd (false≢true e)
both false t e = absurd (false≢true e)

module _ (x y : ℕ) where
  pub finite : both_finite x y ≡ true → (unsigned binary64 x < infinity binary64) × (unsigned binary64 y < infinity binary64)
  finite e =
      let p = both (ltb (unsigned binary64 x) (infinity binary64)) (ltb (unsigned binary64 y) (infinity binary64)) e in
      (ltb-true (unsigned binary64 x) (infinity binary64) p.0, ltb-true (unsigned binary64 y) (infinity binary64) p.1)

  pub taken : (r : ℕ) → both_finite x y ≡ true → r ≡ on_finite x y r
  taken r e = sym (ap (λ (b : Bool). cond b r (default_nan binary64)) e)

  pub left : (r : ℕ) → both_finite x y ≡ false → default_nan binary64 ≡ on_finite x y r
  left r e = sym (ap (λ (b : Bool). cond b r (default_nan binary64)) e)
