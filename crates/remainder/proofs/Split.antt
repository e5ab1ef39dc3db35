-- A pattern without its sign as a significand and a scale, with no case for a subnormal, and the remainder of two such numbers: it is that
-- of the significands, once the larger scale is brought down to the smaller. F is the number of fraction bits. Assumes nothing.
use mathlib.Core.Path.{◌≡◌, sym, ap, ◌∙◌}
use mathlib.Core.Logic.{⊎_elim}
use Prim.Native.Nat.{ℕ, suc, ◌+◌, ◌-◌, ◌*◌, ◌/◌, ◌%◌, ◌^◌, ◌≤◌, ◌<◌}
use native.Mathlib.Nat.{mul_assoc, mul-div_cancel, div-eq_of_lt, div-lt_iff_lt-mul, mod-eq_of_lt, mod-lt}
use native.Mathlib.Omega.{arith}
use lib.Pow.{pow_pos, pow_mono, pow-add, shr_mono}
use Rattle.float_format.specs.Format.{Format, top_field, infinity, unsigned}
use Rattle.float_format.specs.Number.{magnitude}
use Rattle.float_format.proofs.Units.{lt_or_ge, magnitude-low, Normal, normal, field_at}
use Rattle.float_format.proofs.Parts.{mod_scale}
use Rattle.remainder.specs.Shape.{Turns, scale_of, Left}

-- ---- the scale i and the significand m

pub record Split (F a i m : ℕ) : Type 0 where
  pub under : i * 2 ^ F ≤ a
  pub few : m < 2 * 2 ^ F
  pub some : 0 < a → 0 < m
  pub units : magnitude F a ≡ m * 2 ^ i

pub split : (F a i m : ℕ) → i ≡ scale_of F a → m ≡ a - scale_of F a * 2 ^ F → Split F a i m
split F a i m ei em = ⊎_elim (λ l. low l) (λ g. high (normal F a g)) (lt_or_ge a (2 ^ F))
  where
    placed : i * 2 ^ F ≡ scale_of F a * 2 ^ F
    placed = ap (λ (k : ℕ). k * 2 ^ F) ei

    low : a < 2 ^ F → Split F a i m
    low l =
        let z : i ≡ 0 = omega (arith, div-eq_of_lt l) in
        let t : i * 2 ^ F ≡ 0 = ap (λ (k : ℕ). k * 2 ^ F) z ∙ omega arith in
        record {
          under = omega arith;
          few = omega arith;
          some = λ p. omega (arith, placed);
          units = magnitude-low F a l ∙ sym (ap (λ (k : ℕ). m * 2 ^ k) z ∙ omega (arith, placed));
        }

    high : Normal F a → Split F a i m
    high n =
        let q : i ≡ n.j = omega (arith, ap (λ (k : ℕ). k / 2 ^ F) n.is ∙ field_at F n.j n.M n.lo n.hi) in
        let t : i * 2 ^ F ≡ n.j * 2 ^ F = ap (λ (k : ℕ). k * 2 ^ F) q in
        let e : m ≡ n.M = omega (arith, n.is, placed) in
        record {
          under = omega (arith, n.is);
          few = omega (arith, n.hi);
          some = λ p. omega (arith, n.lo, pow_pos F);
          units = n.units ∙ sym (ap (λ (k : ℕ). k * 2 ^ i) e ∙ ap (λ (k : ℕ). n.M * 2 ^ k) q);
        }

pub scale_mono : (F : ℕ) {a b : ℕ} → b ≤ a → scale_of F b ≤ scale_of F a
scale_mono F h = omega (arith, shr_mono F h)

pub scale_lt : (f : Format) (a : ℕ) → a < infinity f → scale_of f.fraction a < top_field f
scale_lt f a h = omega (arith, (div-lt_iff_lt-mul (pow_pos f.fraction)).1 h)

-- ---- the remainder

-- in units of the smaller scale j
pub remainder-scaled : (F a b i j m w r : ℕ) → Split F a i m → Split F b j w → 0 < b → j ≤ i → r ≡ m * 2 ^ (i - j) % w
    → r * 2 ^ j ≡ magnitude F a % magnitude F b
remainder-scaled F a b i j m w r p q h l e =
    let t : m * 2 ^ i ≡ m * 2 ^ (i - j) * 2 ^ j =
    ap (λ (k : ℕ). m * 2 ^ k) (omega arith) ∙ ap (λ (k : ℕ). m * k) (pow-add 2 (i - j) j) ∙ sym (mul_assoc m (2 ^ (i - j)) (2 ^ j)) in
    ap (λ (k : ℕ). k * 2 ^ j) e ∙ sym (mod_scale (m * 2 ^ (i - j)) w (2 ^ j) (q.some h) (pow_pos j)) ∙ sym (rw (p.units, q.units, t))

-- as the code leaves it
pub left_scaled : (f : Format) (x y i j m w r : ℕ) → Split f.fraction (unsigned f x) i m → Split f.fraction (unsigned f y) j w
    → 0 < unsigned f y → j ≤ i → j ≡ scale_of f.fraction (unsigned f y) → r ≡ m * 2 ^ (i - j) % w → Left f x y r
left_scaled f x y i j m w r p q h l ej e =
    record {
      few = omega (arith, q.few, mod-lt (m * 2 ^ (i - j)) (q.some h));
      units = ap (λ (k : ℕ). r * 2 ^ k) (sym ej) ∙ remainder-scaled f.fraction (unsigned f x) (unsigned f y) i j m w r p q h l e;
    }

-- ---- a divisor brought to its leading one

pub record Brought (F w k : ℕ) : Type 0 where
  pub short : k ≤ F
  pub from : 2 ^ F ≤ w * 2 ^ k
  pub below : w * 2 ^ k < 2 * 2 ^ F

module _ (F m n w k : ℕ) (most : F ≤ 52) (b : Brought F w k) where
  -- nothing is shifted out
  pub brought_whole : w * 2 ^ k % 2 ^ 64 ≡ w * 2 ^ k
  brought_whole = mod-eq_of_lt (omega (arith, b.below, pow_mono {i = suc F} {j = 64} (omega arith)))

  pub turns : 19 ≤ F → m < 2 * 2 ^ F → Turns F m (w * 2 ^ k % 2 ^ 64)
  turns least few = rw brought_whole (record { least = least; most = most; few = few; from = b.from; below = b.below })

  -- the remainder by what was brought up, taken back down
  pub remainder_back : (r : ℕ) → 0 < w → r ≡ m * 2 ^ (n + k) % (w * 2 ^ k % 2 ^ 64) → r / 2 ^ k ≡ m * 2 ^ n % w
  remainder_back r p e =
      let t : m * 2 ^ (n + k) ≡ m * 2 ^ n * 2 ^ k = ap (λ (i : ℕ). m * i) (pow-add 2 n k) ∙ sym (mul_assoc m (2 ^ n) (2 ^ k)) in
      let d : r ≡ m * 2 ^ n % w * 2 ^ k =
      e ∙ ap (λ (i : ℕ). m * 2 ^ (n + k) % i) brought_whole ∙ ap (λ (i : ℕ). i % (w * 2 ^ k)) t ∙ mod_scale (m * 2 ^ n) w (2 ^ k) p (pow_pos k) in
      ap (λ (i : ℕ). i / 2 ^ k) d ∙ mul-div_cancel (m * 2 ^ n % w) (pow_pos k)
