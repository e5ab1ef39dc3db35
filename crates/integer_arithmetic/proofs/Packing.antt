-- `packed` in the code's own steps: the digits that are kept, and the pattern that they make, are the answer. Assumes nothing.
use mathlib.Core.Path.{◌≡◌, refl, sym, ap, ◌∙◌}
use mathlib.Core.Bool.{Bool, false}
use mathlib.Core.Logic.{inl, inr, ⊎_elim}
use Prim.Native.Nat.{ℕ, suc, ◌+◌, ◌-◌, ◌*◌, ◌^◌, ◌≤◌, ◌<◌}
use native.Mathlib.Nat.{mul-le-mul_right, div-lt_iff_lt-mul}
use native.Mathlib.Omega.{arith}
use lib.Pow.{pow_pos, pow_mono}
use Rattle.float_format.specs.Format.{Format, Valid, sign_bit, top_field, infinity, signed}
use Rattle.float_format.specs.Number.{bias}
use Rattle.float_format.specs.Rounding.{parts, capped, rounded}
use Rattle.float_format.specs.declared.Direction.TheVariants.{HalfEven}
use Rattle.float_format.proofs.Units.{lt_or_ge}
use Rattle.float_format.proofs.Integral.{room}
use Rattle.float_format.proofs.Parts.{parts-most}
use Rattle.float_format.proofs.Powers.{powers, product_pos}
use Rattle.float_format.proofs.Rounded.{capped_in, capped_out, rest_zero}
use Rattle.integer_arithmetic.specs.Stands.{Fits, Stands}
use Rattle.integer_arithmetic.proofs.Standing.{placed}

-- ---- digits over a pattern's end

-- what `cut` answers where the field is beyond the last one
pub cut_beyond : (f : Format) (field digits : ℕ) → top_field f ≤ field → infinity f ≡ capped f (field * 2 ^ f.fraction + digits)
cut_beyond f field digits h = sym (capped_out f (omega (arith, mul-le-mul_right (2 ^ f.fraction) h)))

-- and where it is not, the pattern fits a word
pub cut_fits : (f : Format) (field digits : ℕ) → Fits f → field < top_field f → digits ≤ 2 * 2 ^ f.fraction → field * 2 ^ f.fraction + digits ≤ sign_bit f
cut_fits f field digits z h l =
    omega (arith, mul-le-mul_right {m = suc field} {n = top_field f} (2 ^ f.fraction) h, (room f (bias f) z.word.valid refl).top)

-- ---- the digits that are kept

-- w with its leading one moved up k places, in parts of 2 ^ d
abbrev pub digits : ℕ → ℕ → ℕ → ℕ
digits w k d = parts HalfEven false (w * 2 ^ k) (2 ^ d)

digits-most : (w k d e : ℕ) → w * 2 ^ k < 2 ^ 62 → 62 ≤ e + d → digits w k d ≤ 2 ^ e
digits-most w k d e l h =
    omega (arith, parts-most HalfEven false (w * 2 ^ k) (2 ^ d), (div-lt_iff_lt-mul {k = 2 ^ d} {x = w * 2 ^ k} {y = 2 ^ e} (pow_pos d)).1 (omega (arith, powers e d (e + d) refl, pow_mono {i = 62} {j = e + d} h)))

-- ---- what the code knows of its numbers

pub record Packing (f : Format) (w t b k place : ℕ) : Type 0 where
  pub fits : Fits f
  pub few : k ≤ 61
  pub low : 2 ^ 61 ≤ w * 2 ^ k
  pub high : w * 2 ^ k < 2 ^ 62
  pub at : place + k ≡ t + (61 - f.fraction)

module _ (f : Format) (w t b k place : ℕ) (g : Packing f w t b k place) where
  -- as the code drops them, for a normal answer and for a subnormal one
  abbrev pub kept : ℕ
  kept = digits w k (61 - f.fraction)

  abbrev pub low_kept : ℕ
  low_kept = digits w k (61 - f.fraction + (b - place))

  pub kept_most : kept ≤ 2 * 2 ^ f.fraction
  kept_most =
      omega (arith, digits-most w k (61 - f.fraction) (suc f.fraction) g.high (omega (arith, g.fits.short)), powers f.fraction 1 (suc f.fraction) (omega arith))

  low-most : place < b → low_kept ≤ 2 ^ f.fraction
  low-most l = digits-most w k (61 - f.fraction + (b - place)) f.fraction g.high (omega (arith, g.fits.short))

  pub low_finite : place < b → low_kept < infinity f
  low_finite l =
      let r = room f (bias f) g.fits.word.valid refl in
      omega (arith, low-most l, r.whole, pow_pos f.fraction, mul-le-mul_right {m = 2} {n = top_field f} (2 ^ f.fraction) (two g.fits.word.valid))
    where
      two : Valid f → 2 ≤ top_field f
      two v = omega (arith, pow_mono {i = 3} {j = f.exponent} v.some_exponent)

  module _ (s : Bool) (n u : ℕ) (z : Stands w t b n u) where
    pub normal_answer : b ≤ place → signed f s (capped f ((place - b) * 2 ^ f.fraction + kept)) ≡ rounded f s n u
    unfolding rounded
    normal_answer h =
        let e : 61 - f.fraction + (place - place) ≡ 61 - f.fraction = omega arith in
        ap (λ (a : ℕ). signed f s (capped f a))
        (sym (placed f.fraction w t b n u k place place s z g.fits.short g.few g.low g.high g.at h (omega arith) (inr refl)
        ∙ ap (λ (d : ℕ). (place - b) * 2 ^ f.fraction + digits w k d) e))

    pub subnormal_answer : place < b → signed f s low_kept ≡ rounded f s n u
    unfolding rounded
    subnormal_answer l =
        ap (signed f s)
        (sym (ap (capped f) (placed f.fraction w t b n u k place b s z g.fits.short g.few g.low g.high g.at (omega arith) (omega arith) (inl refl) ∙ none)
        ∙ capped_in f (low_finite l)))
      where
        none : (b - b) * 2 ^ f.fraction + low_kept ≡ low_kept
        none = let e : b - b ≡ 0 = omega arith in ap (λ (k : ℕ). k * 2 ^ f.fraction + low_kept) e ∙ omega arith

-- ---- nothing

-- nothing stands for nothing
pub zero_stands : (w t b n u : ℕ) → w ≡ 0 → Stands w t b n u → n ≡ 0
zero_stands w t b n u h z = ⊎_elim (λ e. omega (arith, ap (λ (y : ℕ). y * z.v) h)) (λ o. omega arith) z.near

pub stands_low : (w t b n u : ℕ) (z : Stands w t b n u) → w * z.v < n + z.v
stands_low w t b n u z = ⊎_elim (λ e. omega (arith, some)) (λ o. o.1) z.near
  where
    some : 0 < z.v
    some =
        ⊎_elim (λ l. l)
        (λ g. omega (arith, mul-le-mul_right {m = z.v} {n = 0} (2 ^ b) g, z.scale, product_pos z.some (pow_pos t)))
        (lt_or_ge 0 z.v)

pub zero_rounded : (f : Format) → Valid f → (s : Bool) (n u : ℕ) → 0 < u → n ≡ 0 → signed f s 0 ≡ rounded f s n u
unfolding rounded
zero_rounded f v s n u hu e = ap (signed f s) (sym (rest_zero f v u hu s n e))
