-- The remainder of two numbers of units is one that the format has, so that its pattern stands for it exactly: it is a significand's worth of
-- units of y's scale. F is the number of fraction bits. Assumes nothing.
use mathlib.Core.Path.{◌≡◌, refl}
use mathlib.Core.Logic.{⊎_elim}
use Prim.Native.Nat.{ℕ, ◌-◌, ◌*◌, ◌%◌, ◌^◌, ◌≤◌, ◌<◌}
use native.Mathlib.Nat.{mod-eq_of_lt, mod-lt}
use native.Mathlib.Omega.{arith}
use Rattle.float_format.specs.Number.{magnitude, encode}
use Rattle.float_format.proofs.Units.{lt_or_ge, magnitude-encode, magnitude_mono, Held, held}
use Rattle.remainder.specs.Shape.{scale_of}
use Rattle.remainder.proofs.Split.{Split, split, scale_mono, remainder-scaled}

-- ---- the remainder

module _ (F a b : ℕ) (p : 0 < b) where
  remainder_held : Held F (magnitude F a % magnitude F b)
  remainder_held = ⊎_elim (λ l. less l) (λ g. more g) (lt_or_ge a b)
    where
      less : a < b → Held F (magnitude F a % magnitude F b)
      less l = record { pattern = a; units = mod-eq_of_lt (magnitude_mono F l) }

      more : b ≤ a → Held F (magnitude F a % magnitude F b)
      more g =
          let i : ℕ = scale_of F a in
          let j : ℕ = scale_of F b in
          let m : ℕ = a - scale_of F a * 2 ^ F in
          let w : ℕ = b - scale_of F b * 2 ^ F in
          let q : Split F b (scale_of F b) (b - scale_of F b * 2 ^ F) = split F b _ _ refl refl in
          rw (← remainder-scaled F a b i j m w _ (split F a _ _ refl refl) q p (scale_mono F g) refl)
          (held F (m * 2 ^ (i - j) % w) j (omega (arith, q.few, mod-lt (m * 2 ^ (i - j)) (q.some p))))

  pub remainder_exact : magnitude F (encode F (magnitude F a % magnitude F b)) ≡ magnitude F a % magnitude F b
  remainder_exact = magnitude-encode F (magnitude F a % magnitude F b) remainder_held.pattern remainder_held.units
