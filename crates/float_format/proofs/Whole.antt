-- A pattern without its sign, rounded to a whole number of ones, in three ranges: below one the answer is one or zero; from there on the
-- low k bits are cut off and perhaps one unit added, which may carry into the exponent; from (b + F) * 2 ^ F on every number is whole.
-- F is the number of fraction bits and b the bias, so that one is 2 ^ (b + F - 1) units. Assumes nothing.
use mathlib.Core.Path.{◌≡◌, refl, sym, ap, ◌∙◌}
use mathlib.Core.Bool.{Bool, true, false, not, ◌&&◌, ◌||◌, cond}
use mathlib.Core.Logic.{⊎_elim}
use Prim.Native.Nat.{ℕ, zero, suc, ◌+◌, ◌-◌, ◌*◌, ◌/◌, ◌%◌, ◌^◌, ◌≤◌, ◌<◌}
use native.Mathlib.Nat.{mod-lt, div-lt_iff_lt-mul, le-div_iff_mul-le, div-add-mod', div-eq_of_lt, mod-eq_of_lt, mul-le-mul_right, pow-suc, mul_assoc, mul-add-mod_self_right, le_of_eq, le_of_lt}
use native.Mathlib.Omega.{arith}
use lib.Arith.{digits_div}
use lib.Dec.{ltb, eqb}
use lib.Pow.{pow_pos, pow_mono, pow-add}
use borrow.Author.Tests.{eq-eqb, ne_eqb, lt-ltb, le-ltb, le-leb, lt-leb}
use Rattle.float_format.specs.Number.{magnitude, encode}
use Rattle.float_format.specs.Rounding.{goes_away, parts}
use Rattle.float_format.specs.declared.Direction.{Direction}
use Rattle.float_format.specs.declared.Direction.TheVariants.{Down, Up, TowardZero, HalfAway, HalfEven}
use Rattle.float_format.proofs.Units.{lt_or_ge, three_way, encode-magnitude, magnitude_at, magnitude-low, magnitude_mono, magnitude_mono_le, Normal, normal, field_at}
use Rattle.float_format.proofs.Parts.{parts_scale, parts_whole, parts_at, parts-least, parts-most, goes_nothing}

-- one, in units, for the bias b
abbrev pub ones : ℕ → ℕ → ℕ
ones F b = 2 ^ (b + F - 1)

-- a pattern r stands for the rounded number of units of the pattern a
pub record Rounded (d : Direction) (s : Bool) (F b a r : ℕ) : Type 0 where
  pub is : encode F (parts d s (magnitude F a) (ones F b) * ones F b) ≡ r
  pub units : magnitude F r ≡ parts d s (magnitude F a) (ones F b) * ones F b

-- the units alone tell: encode undoes magnitude
rounded : (d : Direction) (s : Bool) (F b a r : ℕ) → magnitude F r ≡ parts d s (magnitude F a) (ones F b) * ones F b → Rounded d s F b a r
rounded d s F b a r e = record { is = ap (encode F) (sym e) ∙ encode-magnitude F r; units = e }

suc_times : (n p : ℕ) → suc n * p ≡ n * p + p
suc_times n p = omega arith

lt_ne : {x y : ℕ} → x < y → y ≡ x → ⊥
lt_ne l e = omega arith

-- ---- below one

-- the pattern of 2 ^ -i is (b - i) * 2 ^ F
power_at : (F b i : ℕ) → i < b → magnitude F ((b - i) * 2 ^ F) * 2 ^ i ≡ ones F b
power_at F b i h =
    let e : (b - i) * 2 ^ F ≡ (b - i - 1) * 2 ^ F + 2 ^ F = ap (λ (n : ℕ). n * 2 ^ F) (omega arith) ∙ suc_times (b - i - 1) (2 ^ F) in
    let m : magnitude F ((b - i) * 2 ^ F) ≡ 2 ^ (F + (b - i - 1)) =
    ap (magnitude F) e ∙ magnitude_at F (b - i - 1) (2 ^ F) (omega arith) (omega arith) ∙ sym (pow-add 2 F (b - i - 1)) in
    ap (λ (n : ℕ). n * 2 ^ i) m ∙ sym (pow-add 2 (F + (b - i - 1)) i) ∙ ap (λ (n : ℕ). 2 ^ n) (omega arith)

pub one_at : (F b : ℕ) → 1 ≤ b → magnitude F (b * 2 ^ F) ≡ ones F b
one_at F b h =
    let e : b - 0 ≡ b = omega arith in
    omega (arith, power_at F b 0 h, ap (λ (n : ℕ). magnitude F (n * 2 ^ F)) e)

-- and that of 2 ^ i is (b + i) * 2 ^ F
pub power_up : (F b i : ℕ) → 1 ≤ b → magnitude F ((b + i) * 2 ^ F) ≡ 2 ^ i * ones F b
power_up F b i h =
    let e : (b + i) * 2 ^ F ≡ (b + i - 1) * 2 ^ F + 2 ^ F = ap (λ (n : ℕ). n * 2 ^ F) (omega arith) ∙ suc_times (b + i - 1) (2 ^ F) in
    ap (magnitude F) e ∙ magnitude_at F (b + i - 1) (2 ^ F) (omega arith) (omega arith)
    ∙ sym (pow-add 2 F (b + i - 1)) ∙ ap (λ (n : ℕ). 2 ^ n) (omega arith) ∙ pow-add 2 i (b + F - 1)

pub half_at_lem : (F b : ℕ) → 2 ≤ b → magnitude F ((b - 1) * 2 ^ F) * 2 ≡ ones F b
half_at_lem F b h = power_at F b 1 h

module _ (d : Direction) (s : Bool) (F b a : ℕ) (b2 : 2 ≤ b) (h : a < b * 2 ^ F) where
  below : magnitude F a < ones F b
  below = omega (arith, one_at F b (omega arith), magnitude_mono F h)

  zero_at : magnitude F 0 ≡ 0
  zero_at = magnitude-low F 0 (pow_pos F)

  -- against zero and against one half the pattern compares as its units do
  some_small : ltb 0 (magnitude F a) ≡ ltb 0 a
  some_small =
      ⊎_elim (λ l. lt-ltb 0 (magnitude F a) (omega (arith, magnitude_mono F l, zero_at)) ∙ sym (lt-ltb 0 a l))
      (λ g. le-ltb 0 (magnitude F a) (omega (arith, magnitude_mono_le F {a = a} {b = 0} g, zero_at)) ∙ sym (le-ltb 0 a g)) (lt_or_ge 0 a)

  half_less : a < (b - 1) * 2 ^ F → magnitude F a * 2 < ones F b
  half_less l = omega (arith, magnitude_mono F l, half_at_lem F b b2)

  half_same : a ≡ (b - 1) * 2 ^ F → magnitude F a * 2 ≡ ones F b
  half_same e = ap (λ (n : ℕ). magnitude F n * 2) e ∙ half_at_lem F b b2

  half_more : (b - 1) * 2 ^ F < a → ones F b < magnitude F a * 2
  half_more l = omega (arith, magnitude_mono F l, half_at_lem F b b2)

  twice_less : a < (b - 1) * 2 ^ F → a * 2 < (b - 1) * 2 ^ F * 2
  twice_less l = omega arith

  twice_more : (b - 1) * 2 ^ F < a → (b - 1) * 2 ^ F * 2 < a * 2
  twice_more l = omega arith

  twice_is : a ≡ (b - 1) * 2 ^ F → (b - 1) * 2 ^ F * 2 ≡ a * 2
  twice_is e = omega arith

  goes_small_at : (d : Direction) → goes_away d s 0 (magnitude F a) (ones F b) ≡ goes_away d s 0 a ((b - 1) * 2 ^ F * 2)
  goes_small_at Down = ap (λ (t : Bool). s && t) some_small
  goes_small_at Up = ap (λ (t : Bool). not s && t) some_small
  goes_small_at TowardZero = refl
  goes_small_at HalfAway =
      three_way a ((b - 1) * 2 ^ F)
      (λ l. simp (lt-leb (ones F b) (magnitude F a * 2) (half_less l), lt-leb ((b - 1) * 2 ^ F * 2) (a * 2) (twice_less l)))
      (λ e. simp (le-leb (ones F b) (magnitude F a * 2) (le_of_eq (sym (half_same e))), le-leb ((b - 1) * 2 ^ F * 2) (a * 2) (le_of_eq (twice_is e))))
      (λ l. simp (le-leb (ones F b) (magnitude F a * 2) (le_of_lt (half_more l)), le-leb ((b - 1) * 2 ^ F * 2) (a * 2) (le_of_lt (twice_more l))))
  goes_small_at HalfEven =
      three_way a ((b - 1) * 2 ^ F)
      (λ l. simp (le-ltb (ones F b) (magnitude F a * 2) (le_of_lt (half_less l)), ne_eqb (ones F b) (magnitude F a * 2) (lt_ne (half_less l)), le-ltb ((b - 1) * 2 ^ F * 2) (a * 2) (le_of_lt (twice_less l)), ne_eqb ((b - 1) * 2 ^ F * 2) (a * 2) (lt_ne (twice_less l))))
      (λ e. simp (le-ltb (ones F b) (magnitude F a * 2) (le_of_eq (half_same e)), eq-eqb (ones F b) (magnitude F a * 2) (sym (half_same e)), le-ltb ((b - 1) * 2 ^ F * 2) (a * 2) (le_of_eq (sym (twice_is e))), eq-eqb ((b - 1) * 2 ^ F * 2) (a * 2) (twice_is e)))
      (λ l. simp (lt-ltb (ones F b) (magnitude F a * 2) (half_more l), lt-ltb ((b - 1) * 2 ^ F * 2) (a * 2) (twice_more l)))

  parts_small : parts d s (magnitude F a) (ones F b) ≡ cond (goes_away d s 0 a ((b - 1) * 2 ^ F * 2)) 1 0
  unfolding parts
  parts_small =
      let q : magnitude F a / ones F b ≡ 0 = div-eq_of_lt below in
      let r : magnitude F a % ones F b ≡ magnitude F a = mod-eq_of_lt below in
      simp (q, r, goes_small_at d) (omega arith)

  -- the answer is one or zero
  pub small : Rounded d s F b a (cond (goes_away d s 0 a ((b - 1) * 2 ^ F * 2)) (b * 2 ^ F) 0)
  small = rounded d s F b a _ (pick (goes_away d s 0 a ((b - 1) * 2 ^ F * 2)) refl)
    where
      pick : (t : Bool) → goes_away d s 0 a ((b - 1) * 2 ^ F * 2) ≡ t
          → magnitude F (cond t (b * 2 ^ F) 0) ≡ parts d s (magnitude F a) (ones F b) * ones F b
      pick true e = one_at F b (omega arith) ∙ sym (ap (λ (n : ℕ). n * ones F b) (parts_small ∙ ap (λ (t : Bool). cond t 1 0) e) ∙ omega arith)
      pick false e = zero_at ∙ sym (ap (λ (n : ℕ). n * ones F b) (parts_small ∙ ap (λ (t : Bool). cond t 1 0) e) ∙ omega arith)

-- ---- from one up to where every number is whole

-- M units of 2 ^ j each, against ones of 2 ^ (k + j), where 2 ^ k divides 2 ^ F: F is i + k
module _ (d : Direction) (s : Bool) (i k j M : ℕ) (lo : 2 ^ (i + k) ≤ M) (hi : M < 2 * 2 ^ (i + k)) where
  whole_lo : 2 ^ i ≤ M / 2 ^ k
  whole_lo = (le-div_iff_mul-le (pow_pos k)).1 (rw pow-add at lo)

  whole_hi : M / 2 ^ k < 2 * 2 ^ i
  whole_hi = (div-lt_iff_lt-mul (pow_pos k)).1 (omega (arith, pow-add 2 i k))

  -- the significand rounded to a multiple of 2 ^ k keeps within one scale, its upper end included
  kept_lo : 2 ^ (i + k) ≤ parts d s M (2 ^ k) * 2 ^ k
  kept_lo = rw (pow-add 2 i k) (mul-le-mul_right (2 ^ k) (omega (arith, whole_lo, parts-least d s M (2 ^ k))))

  kept_hi : parts d s M (2 ^ k) * 2 ^ k ≤ 2 * 2 ^ (i + k)
  kept_hi =
      let most : parts d s M (2 ^ k) ≤ 2 * 2 ^ i = omega (arith, whole_hi, parts-most d s M (2 ^ k)) in
      omega (arith, pow-add 2 i k, mul-le-mul_right (2 ^ k) most)

  units_middle : magnitude (i + k) (j * 2 ^ (i + k) + parts d s M (2 ^ k) * 2 ^ k) ≡ parts d s (M * 2 ^ j) (2 ^ (k + j)) * 2 ^ (k + j)
  units_middle =
      magnitude_at (i + k) j (parts d s M (2 ^ k) * 2 ^ k) kept_lo kept_hi
      ∙ mul_assoc (parts d s M (2 ^ k)) (2 ^ k) (2 ^ j)
      ∙ rw (pow-add 2 k j) (ap (λ (n : ℕ). n * (2 ^ k * 2 ^ j)) (sym (parts_scale d s M (2 ^ k) (2 ^ j) (pow_pos k) (pow_pos j))))

  low_at : (j * 2 ^ (i + k) + M) % 2 ^ k ≡ M % 2 ^ k
  low_at =
      ap (λ (n : ℕ). (n + M) % 2 ^ k) (ap (λ (p : ℕ). j * p) (pow-add 2 i k) ∙ omega arith) ∙ mul-add-mod_self_right (j * 2 ^ i) (2 ^ k) M

  quotient_at : (j * 2 ^ (i + k) + M) / 2 ^ k ≡ j * 2 ^ i + M / 2 ^ k
  quotient_at =
      let m : M % 2 ^ k < 2 ^ k = mod-lt M (pow_pos k) in
      let e : j * 2 ^ (i + k) + M ≡ (j * 2 ^ i + M / 2 ^ k) * 2 ^ k + M % 2 ^ k =
      omega (arith, div-add-mod' M (2 ^ k), ap (λ (p : ℕ). j * p) (pow-add 2 i k)) in
      ap (λ (n : ℕ). n / 2 ^ k) e ∙ digits_div (j * 2 ^ i + M / 2 ^ k) m

-- only the last digit of the whole part counts
goes_parity : (d : Direction) (s : Bool) (q q' r u : ℕ) → q % 2 ≡ q' % 2 → goes_away d s q r u ≡ goes_away d s q' r u
goes_parity Down s q q' r u e = refl
goes_parity Up s q q' r u e = refl
goes_parity TowardZero s q q' r u e = refl
goes_parity HalfAway s q q' r u e = refl
goes_parity HalfEven s q q' r u e = ap (λ (n : ℕ). ltb u (r * 2) || (eqb u (r * 2) && eqb n 1)) e

even_times : (n : ℕ) → n * 2 % 2 ≡ 0
even_times n = omega arith

-- a scale j and 2 ^ i, one of them even
even_part : (i j : ℕ) → (i ≡ 0 → j % 2 ≡ 0) → j * 2 ^ i % 2 ≡ 0
even_part zero j h = ap (λ (n : ℕ). n % 2) (omega arith) ∙ h refl
even_part (suc i) j h = ap (λ (n : ℕ). n % 2) (ap (λ (p : ℕ). j * p) (pow-suc 2 i) ∙ sym (mul_assoc j (2 ^ i) 2)) ∙ even_times (j * 2 ^ i)

-- the code's own steps: k low bits, cut off, and the unit added where it goes away
middle_pattern : (d : Direction) (s : Bool) (F i k j M a : ℕ) → F ≡ i + k → a ≡ j * 2 ^ F + M → 2 ^ F ≤ M → M < 2 * 2 ^ F
    → (i ≡ 0 → j % 2 ≡ 0)
    → j * 2 ^ F + parts d s M (2 ^ k) * 2 ^ k ≡ a - a % 2 ^ k + cond (goes_away d s (a / 2 ^ k) (a % 2 ^ k) (2 ^ k)) (2 ^ k) 0
middle_pattern d s F i k j M a eF ea lo hi even =
    let lo' : 2 ^ (i + k) ≤ M = rw eF at lo in
    let hi' : M < 2 * 2 ^ (i + k) = rw eF at hi in
    let a' : a ≡ j * 2 ^ (i + k) + M = rw eF at ea in
    let l : a % 2 ^ k ≡ M % 2 ^ k = ap (λ (n : ℕ). n % 2 ^ k) a' ∙ low_at d s i k j M lo' hi' in
    let q : a / 2 ^ k ≡ j * 2 ^ i + M / 2 ^ k = ap (λ (n : ℕ). n / 2 ^ k) a' ∙ quotient_at d s i k j M lo' hi' in
    let odd : (a / 2 ^ k) % 2 ≡ (M / 2 ^ k) % 2 = omega (arith, even_part i j even) in
    let g : goes_away d s (a / 2 ^ k) (a % 2 ^ k) (2 ^ k) ≡ goes_away d s (M / 2 ^ k) (M % 2 ^ k) (2 ^ k) =
    goes_parity d s (a / 2 ^ k) (M / 2 ^ k) (a % 2 ^ k) (2 ^ k) odd ∙ ap (λ (r : ℕ). goes_away d s (M / 2 ^ k) r (2 ^ k)) l in
    pick (goes_away d s (M / 2 ^ k) (M % 2 ^ k) (2 ^ k)) refl ∙ sym (ap (λ (t : Bool). a - a % 2 ^ k + cond t (2 ^ k) 0) g ∙ ap (λ (n : ℕ). n + cond (goes_away d s (M / 2 ^ k) (M % 2 ^ k) (2 ^ k)) (2 ^ k) 0) (ap (λ (r : ℕ). a - r) l))
  where
    pick : (t : Bool) → goes_away d s (M / 2 ^ k) (M % 2 ^ k) (2 ^ k) ≡ t
        → j * 2 ^ F + parts d s M (2 ^ k) * 2 ^ k ≡ a - M % 2 ^ k + cond (goes_away d s (M / 2 ^ k) (M % 2 ^ k) (2 ^ k)) (2 ^ k) 0
    pick true e =
        ap (λ (n : ℕ). j * 2 ^ F + n * 2 ^ k) (parts_at d s M (2 ^ k) true e)
        ∙ omega (arith, div-add-mod' M (2 ^ k))
        ∙ sym (ap (λ (t : Bool). a - M % 2 ^ k + cond t (2 ^ k) 0) e)
    pick false e =
        ap (λ (n : ℕ). j * 2 ^ F + n * 2 ^ k) (parts_at d s M (2 ^ k) false e)
        ∙ omega (arith, div-add-mod' M (2 ^ k))
        ∙ sym (ap (λ (t : Bool). a - M % 2 ^ k + cond t (2 ^ k) 0) e)

-- what is known of the shift, from one on
pub record Shift (F b a k : ℕ) : Type 0 where
  pub is : k ≡ b + F - a / 2 ^ F
  pub from : b ≤ a / 2 ^ F
  pub upto : a / 2 ^ F < b + F
  pub some : 1 ≤ k
  pub most : k ≤ F
  pub unit : 2 ^ k ≤ 2 ^ F

pub shift : (F b a k : ℕ) → k ≡ b + F - a / 2 ^ F → b * 2 ^ F ≤ a → a < (b + F) * 2 ^ F → Shift F b a k
shift F b a k e l h =
    let from : b ≤ a / 2 ^ F = (le-div_iff_mul-le (pow_pos F)).1 l in
    let upto : a / 2 ^ F < b + F = (div-lt_iff_lt-mul (pow_pos F)).1 h in
    record { is = e; from = from; upto = upto; some = omega arith; most = omega arith; unit = pow_mono (omega arith) }

module _ (d : Direction) (s : Bool) (F b a k : ℕ) (b2 : 2 ≤ b) (odd : b % 2 ≡ 1) (e : k ≡ b + F - a / 2 ^ F) (l : b * 2 ^ F ≤ a) (h : a < (b + F) * 2 ^ F) where
  at_shift : Shift F b a k
  at_shift = shift F b a k e l h

  -- the low k bits cut off, and the unit added where it goes away
  pub middle : Rounded d s F b a (a - a % 2 ^ k + cond (goes_away d s (a / 2 ^ k) (a % 2 ^ k) (2 ^ k)) (2 ^ k) 0)
  middle = go (normal F a (omega (arith, mul-le-mul_right (2 ^ F) b1))) at_shift
    where
      b1 : 1 ≤ b
      b1 = omega arith

      go : Normal F a → Shift F b a k → Rounded d s F b a (a - a % 2 ^ k + cond (goes_away d s (a / 2 ^ k) (a % 2 ^ k) (2 ^ k)) (2 ^ k) 0)
      go n sh =
          let f : a / 2 ^ F ≡ suc n.j = ap (λ (x : ℕ). x / 2 ^ F) n.is ∙ field_at F n.j n.M n.lo n.hi in
          let eF : F ≡ (F - k) + k = omega (arith, sh.most) in
          let ev : k + n.j ≡ b + F - 1 = omega (arith, sh.from, sh.upto) in
          let p : n.j * 2 ^ F + parts d s n.M (2 ^ k) * 2 ^ k ≡ a - a % 2 ^ k + cond (goes_away d s (a / 2 ^ k) (a % 2 ^ k) (2 ^ k)) (2 ^ k) 0 =
          middle_pattern d s F (F - k) k n.j n.M a eF n.is n.lo n.hi (λ z. omega (arith, sh.from, sh.upto, sh.is)) in
          let u : magnitude F (n.j * 2 ^ F + parts d s n.M (2 ^ k) * 2 ^ k) ≡ parts d s (n.M * 2 ^ n.j) (2 ^ (k + n.j)) * 2 ^ (k + n.j) =
          rw (← eF) at (units_middle d s (F - k) k n.j n.M (rw eF at n.lo) (rw eF at n.hi)) in
          rounded d s F b a _
          (ap (magnitude F) (sym p) ∙ u ∙ ap (λ (v : ℕ). parts d s (n.M * 2 ^ n.j) (2 ^ v) * 2 ^ v) ev ∙ ap (λ (m : ℕ). parts d s m (ones F b) * ones F b) (sym n.units))

-- ---- every number is whole

pub large : (d : Direction) (s : Bool) (F b a : ℕ) → 1 ≤ b → (b + F) * 2 ^ F ≤ a → Rounded d s F b a a
large d s F b a b1 l = go (normal F a (omega (arith, mul-le-mul_right (2 ^ F) one_le)))
  where
    one_le : 1 ≤ b + F
    one_le = omega arith

    go : Normal F a → Rounded d s F b a a
    go n =
        let f : a / 2 ^ F ≡ suc n.j = ap (λ (x : ℕ). x / 2 ^ F) n.is ∙ field_at F n.j n.M n.lo n.hi in
        let from : b + F ≤ a / 2 ^ F = (le-div_iff_mul-le {k = 2 ^ F} {x = b + F} {y = a} (pow_pos F)).1 l in
        let e : n.M * 2 ^ n.j ≡ n.M * 2 ^ (n.j - (b + F - 1)) * ones F b =
        ap (λ (x : ℕ). n.M * 2 ^ x) (omega (arith, f)) ∙ ap (λ (x : ℕ). n.M * x) (pow-add 2 (n.j - (b + F - 1)) (b + F - 1)) ∙ sym (mul_assoc n.M (2 ^ (n.j - (b + F - 1))) (ones F b)) in
        let m : magnitude F a ≡ n.M * 2 ^ (n.j - (b + F - 1)) * ones F b = n.units ∙ e in
        rounded d s F b a a
        (m ∙ sym (ap (λ (x : ℕ). parts d s x (ones F b) * ones F b) m ∙ ap (λ (x : ℕ). x * ones F b) (parts_whole d s (n.M * 2 ^ (n.j - (b + F - 1))) (ones F b) (pow_pos (b + F - 1)))))

-- ---- from one on, in one piece: no bit is cut off where every number is whole

pub from_one : (d : Direction) (s : Bool) (F b a k : ℕ) → 2 ≤ b → b % 2 ≡ 1 → k ≡ b + F - a / 2 ^ F → b * 2 ^ F ≤ a
    → Rounded d s F b a (a - a % 2 ^ k + cond (goes_away d s (a / 2 ^ k) (a % 2 ^ k) (2 ^ k)) (2 ^ k) 0)
from_one d s F b a k b2 odd e l =
    ⊎_elim (λ h. middle d s F b a k b2 odd e l h) (λ g. whole (large d s F b a (omega arith) g) (k_zero g)) (lt_or_ge a ((b + F) * 2 ^ F))
  where
    k_zero : (b + F) * 2 ^ F ≤ a → k ≡ 0
    k_zero g = omega (arith, (le-div_iff_mul-le {k = 2 ^ F} {x = b + F} {y = a} (pow_pos F)).1 g)

    whole : Rounded d s F b a a → k ≡ 0 → Rounded d s F b a (a - a % 2 ^ k + cond (goes_away d s (a / 2 ^ k) (a % 2 ^ k) (2 ^ k)) (2 ^ k) 0)
    whole r z = rw z (rw (← same) r)
      where
        same : a ≡ a - a % 2 ^ 0 + cond (goes_away d s (a / 2 ^ 0) (a % 2 ^ 0) (2 ^ 0)) (2 ^ 0) 0
        same =
            let m : a % 1 ≡ 0 = omega arith in
            let g : goes_away d s (a / 1) (a % 1) 1 ≡ false = ap (λ (n : ℕ). goes_away d s (a / 1) n 1) m ∙ goes_nothing d s (a / 1) 1 (omega arith) in
            omega arith ∙ sym (ap (λ (t : Bool). a - a % 1 + cond t 1 0) g)
