-- How the code rounds from one on: it adds some number below the unit to the pattern, then cuts the low bits off. The sum carries into
-- the unit exactly where the direction goes away from zero. Assumes nothing.
use mathlib.Core.Path.{◌≡◌, sym, ap, ◌∙◌}
use mathlib.Core.Bool.{Bool, true, false, cond}
use mathlib.Core.Logic.{⊎_elim}
use Prim.Native.Nat.{ℕ, suc, ◌+◌, ◌-◌, ◌*◌, ◌/◌, ◌%◌, ◌^◌, ◌≤◌, ◌<◌}
use native.Mathlib.Nat.{div-add-mod', mod-lt, mod-le, mul-add-mod_self_right}
use native.Mathlib.Omega.{arith}
use lib.Arith.{digits_mod}
use lib.Dec.{leb, ltb}
use lib.Pow.{pow-add}
use borrow.Author.Tests.{lt-ltb, le-ltb, le-leb, lt-leb, eq-eqb, ne_eqb}
use Rattle.float_format.specs.Format.{Format, sign_bit, top_field, negative, unsigned, signed}
use Rattle.float_format.specs.Number.{bias}
use Rattle.float_format.specs.Rounding.{goes_away, integral}
use Rattle.float_format.specs.declared.Direction.{Direction}
use Rattle.float_format.specs.declared.Direction.TheVariants.{Down, Up, TowardZero, HalfAway, HalfEven}
use Rattle.float_format.proofs.Units.{lt_or_ge, three_way}
use Rattle.float_format.proofs.Patterns.{signed_parts}
use Rattle.float_format.proofs.Whole.{Rounded, from_one, small}
use Rattle.float_format.proofs.Integral.{integral_finite}
use Rattle.float_format.specs.Width.{Finite}
use Rattle.rounding.specs.Shape.{fraction_shift}
use Rattle.float_format.proofs.Sizes.{Sizes, sizes, rest_below, rest_from}
use Rattle.rounding.proofs.Shifts.{shift_is}

cut : (a u add : ℕ) → 0 < u → add < u → (a + add) - (a + add) % u ≡ a - a % u + cond (leb u (a % u + add)) u 0
cut a u add p h = ⊎_elim (λ l. stays l) (λ g. carries g) (lt_or_ge (a % u + add) u)
  where
    stays : a % u + add < u → (a + add) - (a + add) % u ≡ a - a % u + cond (leb u (a % u + add)) u 0
    stays l =
        let e : a + add ≡ a / u * u + (a % u + add) = omega (arith, div-add-mod' a u) in
        let m : (a + add) % u ≡ a % u + add = ap (λ (n : ℕ). n % u) e ∙ digits_mod (a / u) l in
        omega (arith, div-add-mod' a u) ∙ sym (ap (λ (t : Bool). a - a % u + cond t u 0) (lt-leb u (a % u + add) l))

    carries : u ≤ a % u + add → (a + add) - (a + add) % u ≡ a - a % u + cond (leb u (a % u + add)) u 0
    carries g =
        let r : a % u < u = mod-lt a p in
        let e : a + add ≡ suc (a / u) * u + (a % u + add - u) = omega (arith, div-add-mod' a u) in
        let m : (a + add) % u ≡ a % u + add - u = ap (λ (n : ℕ). n % u) e ∙ digits_mod (suc (a / u)) (omega arith) in
        omega (arith, div-add-mod' a u) ∙ sym (ap (λ (t : Bool). a - a % u + cond t u 0) (le-leb u (a % u + add) g))

-- the sign's weight is a multiple of the unit, and stays out of it
cut_signed : (f : Format) (s : Bool) (y k : ℕ) → k ≤ f.fraction → signed f s y - signed f s y % 2 ^ k ≡ signed f s (y - y % 2 ^ k)
cut_signed f true y k h =
    let e : sign_bit f ≡ 2 ^ (f.exponent + f.fraction - k) * 2 ^ k = ap (λ (n : ℕ). 2 ^ n) (omega arith) ∙ pow-add 2 (f.exponent + f.fraction - k) k in
    let m : (sign_bit f + y) % 2 ^ k ≡ y % 2 ^ k = ap (λ (n : ℕ). (n + y) % 2 ^ k) e ∙ mul-add-mod_self_right (2 ^ (f.exponent + f.fraction - k)) (2 ^ k) y in
    omega (arith, mod-le y (2 ^ k))
cut_signed f false y k h =
    let e : 0 + y ≡ y = omega arith in
    ap (λ (n : ℕ). n - n % 2 ^ k) e ∙ sym (omega arith)

signed_add : (f : Format) (s : Bool) (a n : ℕ) → signed f s a + n ≡ signed f s (a + n)
signed_add f true a n = omega arith
signed_add f false a n = omega arith

-- a finite pattern x with the exponent field e, and u for the unit
module _ (f : Format) (d : Direction) (x e u : ℕ) (w : Finite f x e) (eu : u ≡ 2 ^ fraction_shift f e) where
  pub cut_is : (add : ℕ) → bias f ≤ e → add < u
      → goes_away d (negative f x) (unsigned f x / u) (unsigned f x % u) u ≡ leb u (unsigned f x % u + add)
      → (x + add) - (x + add) % u ≡ integral f d x
  cut_is add h l goes = go (sizes f w.word)
    where
      go : Sizes f → (x + add) - (x + add) % u ≡ integral f d x
      go z =
          let k : fraction_shift f e ≡ bias f + f.fraction - e = shift_is f e (omega (arith, z.fraction_lt)) h in
          let k' : fraction_shift f e ≡ bias f + f.fraction - unsigned f x / 2 ^ f.fraction = k ∙ ap (λ (m : ℕ). bias f + f.fraction - m) w.field in
          let r : Rounded d (negative f x) f.fraction (bias f) (unsigned f x) (unsigned f x - unsigned f x % u + cond (goes_away d (negative f x) (unsigned f x / u) (unsigned f x % u) u) u 0) =
          rw eu (from_one d (negative f x) f.fraction (bias f) (unsigned f x) (fraction_shift f e) z.room.two z.room.odd k' (rest_from f x e (bias f) w.field h)) in
          let c : signed f (negative f x) (unsigned f x + add) - signed f (negative f x) (unsigned f x + add) % u ≡ signed f (negative f x) (unsigned f x + add - (unsigned f x + add) % u) =
          rw eu (cut_signed f (negative f x) (unsigned f x + add) (fraction_shift f e) (omega arith)) in
          ap (λ (y : ℕ). y - y % u) (ap (λ (y : ℕ). y + add) (signed_parts f x w.pattern) ∙ signed_add f (negative f x) (unsigned f x) add)
          ∙ c
          ∙ ap (signed f (negative f x)) (cut (unsigned f x) u add (omega arith) l ∙ sym (ap (λ (t : Bool). unsigned f x - unsigned f x % u + cond t u 0) goes))
          ∙ sym (integral_finite f d x _ (rest_below f x e (top_field f) w.field w.finite) r)

-- ---- below one the answer is one or zero

module _ (f : Format) (d : Direction) (x e : ℕ) (w : Finite f x e) where
  pub small_is : (t : Bool) → e < bias f → goes_away d (negative f x) 0 (unsigned f x) ((bias f - 1) * 2 ^ f.fraction * 2) ≡ t
      → signed f (negative f x) (cond t (bias f * 2 ^ f.fraction) 0) ≡ integral f d x
  small_is t h g =
      ap (λ (b : Bool). signed f (negative f x) (cond b (bias f * 2 ^ f.fraction) 0)) (sym g)
      ∙ sym (integral_finite f d x _ (rest_below f x e (top_field f) w.field w.finite)
      (small d (negative f x) f.fraction (bias f) (unsigned f x) (sizes f w.word).room.two (rest_below f x e (bias f) w.field h)))

-- ---- by direction: the number to add, r being what is past the whole parts of u

module _ (q r u : ℕ) (h : r < u) where
  all_away : ltb 0 r ≡ leb u (r + (u - 1))
  all_away =
      ⊎_elim (λ l. lt-ltb 0 r l ∙ sym (le-leb u (r + (u - 1)) (omega arith))) (λ g. le-ltb 0 r g ∙ sym (lt-leb u (r + (u - 1)) (omega arith))) (lt_or_ge 0 r)

  none_away : false ≡ leb u (r + 0)
  none_away = sym (lt-leb u (r + 0) (omega arith))

  pub add_down : (s : Bool) → goes_away Down s q r u ≡ leb u (r + cond s (u - 1) 0)
  add_down true = all_away
  add_down false = none_away

  pub add_up : (s : Bool) → goes_away Up s q r u ≡ leb u (r + cond s 0 (u - 1))
  add_up true = none_away
  add_up false = all_away

  pub add_toward_zero : (s : Bool) → goes_away TowardZero s q r u ≡ leb u (r + 0)
  add_toward_zero s = none_away

  pub add_half_away : (s : Bool) (v : ℕ) → (u ≡ 1 → v ≡ 0) → (1 < u → u ≡ v * 2) → goes_away HalfAway s q r u ≡ leb u (r + v)
  add_half_away s v one more = ⊎_elim (λ l. many l) (λ g. single (omega arith)) (lt_or_ge 1 u)
    where
      many : 1 < u → leb u (r * 2) ≡ leb u (r + v)
      many l =
          let e : u ≡ v * 2 = more l in
          ⊎_elim (λ k. lt-leb u (r * 2) (omega arith) ∙ sym (lt-leb u (r + v) (omega arith))) (λ k. le-leb u (r * 2) (omega arith) ∙ sym (le-leb u (r + v) (omega arith))) (lt_or_ge r v)

      single : u ≡ 1 → leb u (r * 2) ≡ leb u (r + v)
      single e =
          let z : v ≡ 0 = one e in
          lt-leb u (r * 2) (omega arith) ∙ sym (lt-leb u (r + v) (omega arith))

  -- an odd whole part counts at a tie, q % 2 being 0 or 1
  pub add_half_even : (s : Bool) (v : ℕ) → u ≡ v * 2 → goes_away HalfEven s q r u ≡ leb u (r + (v - 1 + q % 2))
  add_half_even s v e = three_way r v (λ l. less l) (λ k. tie k) (λ l. more l)
    where
      less : r < v → goes_away HalfEven s q r u ≡ leb u (r + (v - 1 + q % 2))
      less l =
          simp (le-ltb u (r * 2) (omega arith), ne_eqb u (r * 2) (omega arith), lt-leb u (r + (v - 1 + q % 2)) (omega arith))

      more : v < r → goes_away HalfEven s q r u ≡ leb u (r + (v - 1 + q % 2))
      more l = simp (lt-ltb u (r * 2) (omega arith), le-leb u (r + (v - 1 + q % 2)) (omega arith))

      tie : r ≡ v → goes_away HalfEven s q r u ≡ leb u (r + (v - 1 + q % 2))
      tie k =
          simp (le-ltb u (r * 2) (omega arith), eq-eqb u (r * 2) (omega arith))
          (⊎_elim (λ o. simp (ne_eqb (q % 2) 1 (omega arith), lt-leb u (r + (v - 1 + q % 2)) (omega arith))) (λ o. simp (eq-eqb (q % 2) 1 (omega arith), le-leb u (r + (v - 1 + q % 2)) (omega arith))) (lt_or_ge (q % 2) 1))
