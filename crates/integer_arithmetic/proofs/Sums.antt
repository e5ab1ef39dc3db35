-- A sum in the code's own steps: the smaller number in parts of the larger one's scale, added or taken away, stands for the exact sum.
-- Assumes nothing.
use mathlib.Core.Path.{◌≡◌, refl, sym, ap, ◌∙◌}
use mathlib.Core.Bool.{Bool, false, not}
use mathlib.Core.Logic.{◌⊎◌, inl, inr, ⊎_elim}
use Prim.Native.Nat.{ℕ, suc, ◌+◌, ◌-◌, ◌*◌, ◌%◌, ◌^◌, ◌≤◌, ◌<◌}
use native.Mathlib.Nat.{mul_assoc, mul-le-mul_left, mul-le-mul_right, mul-lt-mul_of_pos_right}
use native.Mathlib.Omega.{arith}
use lib.Pow.{pow_pos, pow_mono}
use Rattle.float_format.specs.Format.{Format, negative, unsigned, signed, negated}
use Rattle.float_format.specs.Number.{units_of}
use Rattle.float_format.specs.Rounding.{rounded}
use Rattle.float_format.proofs.Units.{lt_or_ge, magnitude_mono_le}
use Rattle.float_format.proofs.Parts.{div_mono}
use Rattle.float_format.proofs.Powers.{swap, powers, cancel_lt, cancel_right}
use Rattle.float_format.proofs.Rounded.{rounded_scale}
use Rattle.arithmetic.specs.Arithmetic.{sum, difference}
use Rattle.arithmetic.proofs.Signs.{sum_same, sum_unlike, sum_opposite}
use Rattle.integer_arithmetic.specs.Stands.{Fits, Sticky, Stands, Scaled, Aligned, lift}
use Rattle.integer_arithmetic.proofs.Packing.{zero_stands, stands_low, zero_rounded}

-- ---- parts

pub sticky_scale : (n v w c : ℕ) → 0 < c → Sticky n v w → Sticky (n * c) (v * c) w
sticky_scale n v w c h (inl e) = inl (ap (λ (y : ℕ). y * c) e ∙ mul_assoc w v c)
sticky_scale n v w c h (inr o) =
    inr (o.0, omega (arith, mul-lt-mul_of_pos_right o.1 h, mul_assoc w v c), omega (arith, mul-lt-mul_of_pos_right o.2 h, mul_assoc w v c))

pub sticky_low : (n v w : ℕ) → 0 < v → Sticky n v w → w * v < n + v
sticky_low n v w h (inl e) = omega arith
sticky_low n v w h (inr o) = o.1

pub sticky_high : (n v w : ℕ) → 0 < v → Sticky n v w → n < w * v + v
sticky_high n v w h (inl e) = omega arith
sticky_high n v w h (inr o) = o.2

-- a whole number of parts is exact
sticky_whole : (c v w : ℕ) → Sticky (c * v) v w → c * v ≡ w * v
sticky_whole c v w (inl e) = e
sticky_whole c v w (inr o) =
    let l : w < suc c = cancel_lt v (omega (arith, o.1)) in
    let m : c < suc w = cancel_lt v (omega (arith, o.2)) in
    ap (λ (y : ℕ). y * v) (omega arith)

module _ (c n v w : ℕ) (even : c % 2 ≡ 0) where
  sticky_add : Sticky n v w → Sticky (c * v + n) v (c + w)
  sticky_add (inl e) = inl (omega arith)
  sticky_add (inr o) = inr (omega arith, omega (arith, o.1), omega (arith, o.2))

  sticky_sub : w ≤ c → Sticky n v w → Sticky (c * v - n) v (c - w)
  sticky_sub h s = go (ap (λ (y : ℕ). y * v) whole) s
    where
      whole : c ≡ (c - w) + w
      whole = omega arith

      go : c * v ≡ ((c - w) + w) * v → Sticky n v w → Sticky (c * v - n) v (c - w)
      go d (inl e) = inl (omega arith)
      go d (inr o) =
          let l : suc w ≤ c = omega arith in
          let m : w * v + v ≤ c * v = omega (arith, mul-le-mul_right v l) in
          inr (omega arith, omega (arith, o.2), omega (arith, o.1))

-- ---- a significand in its place

module _ (f : Format) (z : Fits f) where
  whole : 2 ^ f.fraction * lift f ≡ 2 ^ 60
  whole = powers f.fraction (60 - f.fraction) 60 (omega (arith, z.short))

  -- is short of 2 ^ 61
  pub lifted : (m : ℕ) → m < 2 * 2 ^ f.fraction → m * lift f < 2 ^ 61
  lifted m h = omega (arith, whole, mul-lt-mul_of_pos_right {k = lift f} h (pow_pos (60 - f.fraction)), mul_assoc 2 (2 ^ f.fraction) (lift f))

-- ---- the two numbers, x's units pm * 2 ^ ps and y's qm * 2 ^ qs

pub scales : (f : Format) (a b pm ps qm qs : ℕ) → Scaled f a pm ps → Scaled f b qm qs → b ≤ a → qs ≤ ps
scales f a b pm ps qm qs p q h = omega (arith, p.is, q.is, div_mono (2 ^ f.fraction) (pow_pos f.fraction) h)

module _ (f : Format) (z : Fits f) (x y pm ps qm qs small : ℕ) (p : Scaled f (unsigned f x) pm ps) (q : Scaled f (unsigned f y) qm qs)
    (smaller : unsigned f y ≤ unsigned f x) (st : Sticky (qm * lift f) (2 ^ (ps - qs)) small) where
  abbrev F : ℕ
  F = f.fraction

  abbrev L : ℕ
  L = lift f

  abbrev large : ℕ
  large = pm * lift f

  less : units_of f y ≤ units_of f x
  less = magnitude_mono_le f.fraction smaller

  order : qs ≤ ps
  order = scales f (unsigned f x) (unsigned f y) pm ps qm qs p q smaller

  even : large % 2 ≡ 0
  even =
      let twice : L ≡ 2 ^ (59 - F) * 2 = sym (powers (59 - F) 1 (60 - F) (omega (arith, z.short))) in
      let e : large ≡ pm * 2 ^ (59 - F) * 2 = ap (λ (y : ℕ). pm * y) twice ∙ sym (mul_assoc pm (2 ^ (59 - F)) 2) in
      omega arith

  head : units_of f x * L ≡ large * 2 ^ ps
  head = ap (λ (y : ℕ). y * L) p.units ∙ swap pm (2 ^ ps) L

  tail : units_of f y * L ≡ qm * L * 2 ^ qs
  tail = ap (λ (y : ℕ). y * L) q.units ∙ swap qm (2 ^ qs) L

  near : Sticky (units_of f y * L) (2 ^ ps) small
  near =
      rw (tail, sym (powers (ps - qs) qs ps (omega (arith, order))))
      (sticky_scale (qm * L) (2 ^ (ps - qs)) small (2 ^ qs) (pow_pos qs) st)

  -- exact, or the larger is far above
  far : units_of f y * L ≡ small * 2 ^ ps ⊎ (2 ^ 60 ≤ large) × (small ≤ 2 ^ 59)
  far = ⊎_elim (λ l. inl (close l)) (λ g. inr (apart g)) (lt_or_ge (ps - qs) 2)
    where
      close : ps - qs < 2 → units_of f y * L ≡ small * 2 ^ ps
      close l =
          let d : ℕ = ps - qs in
          let c : ℕ = qm * 2 ^ (60 - F - d) in
          let e : qm * L ≡ c * 2 ^ d =
          ap (λ (y : ℕ). qm * y) (sym (powers (60 - F - d) d (60 - F) (omega (arith, z.short)))) ∙ sym (mul_assoc qm (2 ^ (60 - F - d)) (2 ^ d)) in
          let x : c * 2 ^ d ≡ small * 2 ^ d = sticky_whole c (2 ^ d) small (rw e at st) in
          tail ∙ ap (λ (y : ℕ). y * 2 ^ qs) (e ∙ x) ∙ mul_assoc small (2 ^ d) (2 ^ qs) ∙ ap (λ (y : ℕ). small * y) (powers d qs ps (omega (arith, order)))

      apart : 2 ≤ ps - qs → (2 ^ 60 ≤ large) × (small ≤ 2 ^ 59)
      apart g =
          let d : ℕ = ps - qs in
          let up : 2 ^ F * L ≤ large = mul-le-mul_right L (p.from (omega arith)) in
          let four : 4 ≤ 2 ^ d = pow_mono {i = 2} {j = d} g in
          let l : small * 2 ^ d < qm * L + 2 ^ d = sticky_low (qm * L) (2 ^ d) small (pow_pos d) st in
          (omega (arith, whole f z), ⊎_elim (λ k. omega (arith, many k four l)) (λ k. k) (lt_or_ge (2 ^ 59) small))
        where
          many : 2 ^ 59 < small → 4 ≤ 2 ^ (ps - qs) → small * 2 ^ (ps - qs) < qm * L + 2 ^ (ps - qs) → small ≤ 2 ^ 59
          many k four l =
              let j : ℕ = small - 1 in
              let one : small ≡ j + 1 = omega arith in
              let e : small * 2 ^ (ps - qs) ≡ (j + 1) * 2 ^ (ps - qs) = ap (λ (y : ℕ). y * 2 ^ (ps - qs)) one in
              omega (arith, mul-le-mul_left j four, lifted f z qm q.below)

  pub aligns : Aligned f x y (pm * lift f) small ps
  aligns =
      record {
        fits = z;
        order = less;
        even = even;
        below = lifted f z pm p.below;
        smaller = small_le;
        head = head;
        near = near;
        far = far;
        upto = p.upto;
      }
    where
      small_le : small ≤ large
      small_le =
          let l : small < suc large =
          cancel_lt (2 ^ ps) (omega (arith, sticky_low (units_of f y * L) (2 ^ ps) small (pow_pos ps) near, mul-le-mul_right L less, head)) in
          omega arith

-- ---- the answers

module _ (f : Format) (x y large small scale : ℕ) (g : Aligned f x y large small scale) where
  abbrev part : ℕ
  part = 2 ^ scale

  up : 0 < lift f
  up = pow_pos (60 - f.fraction)

  weight : part * 2 ^ (121 - f.fraction) ≡ 1 * lift f * 2 ^ (scale + 61)
  weight =
      let F : ℕ = f.fraction in
      powers scale (121 - F) (scale + (121 - F)) refl
      ∙ sym (ap (λ (y : ℕ). y * 2 ^ (scale + 61)) (omega arith) ∙ powers (60 - F) (scale + 61) (scale + (121 - F)) (omega (arith, g.fits.short)))

  added : Stands (large + small) (scale + 61) (121 - f.fraction) ((units_of f x + units_of f y) * lift f) (1 * lift f)
  added =
      let e : (units_of f x + units_of f y) * lift f ≡ large * part + units_of f y * lift f = omega (arith, g.head) in
      record {
        v = part;
        some = omega (arith, up);
        near = rw e (sticky_add large (units_of f y * lift f) part small g.even g.near);
        long = ⊎_elim (λ k. inl (omega (arith, g.head, k))) (λ k. inr (omega arith)) g.far;
        scale = weight;
      }

  taken : Stands (large - small) (scale + 61) (121 - f.fraction) ((units_of f x - units_of f y) * lift f) (1 * lift f)
  taken =
      let ux : ℕ = units_of f x in
      let uy : ℕ = units_of f y in
      let split : ux ≡ (ux - uy) + uy = omega (arith, g.order) in
      let whole-x : ux * lift f ≡ ((ux - uy) + uy) * lift f = ap (λ (y : ℕ). y * lift f) split in
      let e : (ux - uy) * lift f ≡ large * part - uy * lift f = omega (arith, g.head) in
      let apart : large ≡ (large - small) + small = omega (arith, g.smaller) in
      let whole-l : large * part ≡ ((large - small) + small) * part = ap (λ (y : ℕ). y * part) apart in
      record {
        v = part;
        some = omega (arith, up);
        near = rw e (sticky_sub large (uy * lift f) part small g.even g.smaller g.near);
        long = ⊎_elim (λ k. inl (omega (arith, g.head, k))) (λ k. inr (omega arith)) g.far;
        scale = weight;
      }

  -- r is what the word w is packed to
  abbrev pub Packs : ℕ → ℕ → Type 0
  Packs w r = (s : Bool) (n u : ℕ) → Stands w (scale + 61) (121 - f.fraction) n u → signed f s r ≡ rounded f s n u

  pub same_answer : (s : Bool) (r : ℕ) → negative f x ≡ s → negative f y ≡ s → Packs (large + small) r → signed f s r ≡ sum f x y
  same_answer s r ex ey h =
      h s ((units_of f x + units_of f y) * lift f) (1 * lift f) added ∙ rounded_scale f s (units_of f x + units_of f y) 1 (lift f) (omega arith) up ∙ sym (sum_same f x y s ex ey)

  pub unlike_answer : (s : Bool) (r : ℕ) → negative f x ≡ s → negative f y ≡ not s → (large - small ≡ 0 → ⊥) → Packs (large - small) r → signed f s r ≡ sum f x y
  unlike_answer s r ex ey apart h =
      h s ((units_of f x - units_of f y) * lift f) (1 * lift f) taken ∙ rounded_scale f s (units_of f x - units_of f y) 1 (lift f) (omega arith) up
      ∙ sym (sum_unlike f x y s ex ey (⊎_elim (λ l. l) (λ k. absurd (never k)) (lt_or_ge (units_of f y) (units_of f x))))
    where
      never : units_of f x ≤ units_of f y → ⊥
      never k =
          let none : units_of f x - units_of f y ≡ 0 = omega arith in
          let z : (units_of f x - units_of f y) * lift f ≡ 0 = ap (λ (t : ℕ). t * lift f) none ∙ omega arith in
          let l : large - small < 1 =
          cancel_lt taken.v (omega (arith, stands_low (large - small) (scale + 61) (121 - f.fraction) ((units_of f x - units_of f y) * lift f) (1 * lift f) taken)) in
          apart (omega arith)

  -- a sum of nothing: of two zeros of one sign, and of opposite numbers
  pub same_zero : (s : Bool) → negative f x ≡ s → negative f y ≡ s → large + small ≡ 0 → signed f s 0 ≡ sum f x y
  same_zero s ex ey e =
      let none : (units_of f x + units_of f y) * lift f ≡ 0 =
      zero_stands (large + small) (scale + 61) (121 - f.fraction) ((units_of f x + units_of f y) * lift f) (1 * lift f) e added in
      zero_rounded f g.fits.word.valid s (units_of f x + units_of f y) 1 (omega arith) (cancel_right (lift f) up (none ∙ omega arith))
      ∙ sym (sum_same f x y s ex ey)

  pub opposite_zero : (s : Bool) → negative f x ≡ s → negative f y ≡ not s → large - small ≡ 0 → 0 ≡ sum f x y
  opposite_zero s ex ey e =
      let none : (units_of f x - units_of f y) * lift f ≡ 0 =
      zero_stands (large - small) (scale + 61) (121 - f.fraction) ((units_of f x - units_of f y) * lift f) (1 * lift f) e taken in
      let same : units_of f x - units_of f y ≡ 0 = cancel_right (lift f) up (none ∙ omega arith) in
      omega arith ∙ zero_rounded f g.fits.word.valid false 0 1 (omega arith) refl ∙ sym (sum_opposite f x y s ex ey (omega (arith, g.order)))

-- ---- differences

pub difference_is : (f : Format) (x y : ℕ) → sum f x (negated f y) ≡ difference f x y
unfolding difference
difference_is f x y = refl
