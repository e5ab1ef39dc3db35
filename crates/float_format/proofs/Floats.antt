-- The language's floats and our patterns: a finite float's value is the units of its pattern, so an exact sum of two is the sum of their
-- units. lib.Ieee's two formats stand for ours by `format_of`; every law here is over lib.Ieee's format. Assumes nothing.
use mathlib.Core.Path.{◌≡◌, refl, sym, ap, ◌∙◌}
use mathlib.Core.Bool.{Bool, true, false, ◌&&◌, beq, cond}
use mathlib.Core.Logic.{⊎_elim}
use Prim.Native.Nat.{ℕ, zero, suc, ◌+◌, ◌-◌, ◌*◌, ◌/◌, ◌%◌, ◌^◌, ◌≤◌, ◌<◌}
use native.Mathlib.Nat.{mul-div_cancel, mul-mod_left, div-lt_iff_lt-mul, mul-pos, eq_of_mul-eq-mul_right, add_assoc}
use native.Mathlib.Omega.{arith}
use lib.Dec.{leb, ltb, eqb}
use lib.Pow.{pow_pos, pow-add, mod-mod-pow}
use lib.Ieee as Ieee
use lib.Ieee.{Float, nan, inf, fin, binary32, binary64, prec, emax, low, up, down, size, round, sum, add, hid, ones, top, of_fields, of_bits, nan_bits, to_bits}
use lib.Ieee.Exact.{HasValue, odd_sign, round_exact}
use lib.Ieee.Fits.{down_pos}
use lib.Ieee.Bits.{to_bits-of_bits, nan_bits_is, nan_bits_above}
use borrow.Author.Tests.{eq-eqb, ne_eqb, le-ltb}
use Rattle.float_format.specs.Format.{Format, Valid, sign_bit, top_field, infinity, negative, unsigned, signed, exponent_field, fraction_field}
use Rattle.float_format.specs.Number.{magnitude, encode, bias, units_of}
use Rattle.float_format.proofs.Units.{lt_or_ge, magnitude-low, magnitude_mono, Normal, normal}
use Rattle.float_format.proofs.Whole.{power_up}
use Rattle.float_format.proofs.Integral.{room}

-- ---- the formats

abbrev pub exponent_bits : Ieee.Format → ℕ
exponent_bits binary32 = 8
exponent_bits binary64 = 11

abbrev pub format_of : Ieee.Format → Format
format_of g = record { fraction = prec g - 1; exponent = exponent_bits g }

-- the one place where the two formats are looked at
pub record Agrees (g : Ieee.Format) : Type 0 where
  pub valid : Valid (format_of g)
  pub digits : prec g ≡ suc (format_of g).fraction
  pub largest : emax g ≡ bias (format_of g)
  pub unit : low g ≡ bias (format_of g) + (format_of g).fraction - 1
  pub field : ones g ≡ top_field (format_of g)
  pub twice : top_field (format_of g) ≡ bias (format_of g) + suc (bias (format_of g))
  pub sign : top g ≡ sign_bit (format_of g)

pub agrees : (g : Ieee.Format) → Agrees g
agrees binary32 =
    record {
      valid = record { some_fraction = omega arith; some_exponent = omega arith; near = omega arith };
      digits = refl;
      largest = refl;
      unit = refl;
      field = refl;
      twice = refl;
      sign = refl;
    }
agrees binary64 =
    record {
      valid = record { some_fraction = omega arith; some_exponent = omega arith; near = omega arith };
      digits = refl;
      largest = refl;
      unit = refl;
      field = refl;
      twice = refl;
      sign = refl;
    }

-- ---- a pattern read as a float

fields_finite : (g : Ieee.Format) (s : Bool) (e t : ℕ) → e < ones g
    → HasValue (of_fields g s e t) s (cond (eqb e 0) t ((hid g + t) * 2 ^ (e - 1))) (2 ^ low g)
unfolding of_fields
fields_finite g s zero t h = rw (one_times t) at (odd_sign (prec g) s t 0 (low g))
  where
    one_times : (t : ℕ) → t * 2 ^ 0 ≡ t
    one_times t = omega arith
fields_finite g s (suc e) t h =
    rw (ne_eqb (suc e) 0 (omega arith), ne_eqb (suc e) (ones g) (omega arith), less e) (odd_sign (prec g) s (hid g + t) e (low g))
  where
    less : (e : ℕ) → suc e - 1 ≡ e
    less e = omega arith

fields_infinite : (g : Ieee.Format) (s : Bool) (e t : ℕ) → e ≡ ones g → t ≡ 0 → of_fields g s e t ≡ inf s
unfolding of_fields
fields_infinite g s zero t h z = absurd (none (emax g) h)
  where
    none : (n : ℕ) → 0 ≡ 2 * n + 1 → ⊥
    none n p = omega arith
fields_infinite g s (suc e) t h z = simp (eq-eqb (suc e) (ones g) h, eq-eqb t 0 z)

module _ (g : Ieee.Format) (y : ℕ) where
  read : of_bits g y ≡ of_fields g (negative (format_of g) y) (exponent_field (format_of g) y) (fraction_field (format_of g) y)
  unfolding of_bits
  read =
      ap (λ (n : ℕ). of_fields g (leb n y) (y % n / hid g) (y % hid g)) (agrees g).sign
      ∙ ap (of_fields g (negative (format_of g) y) (exponent_field (format_of g) y)) (sym (mod-mod-pow y (exponent_bits g) (prec g - 1)))

  pub reads : unsigned (format_of g) y < infinity (format_of g)
      → HasValue (of_bits g y) (negative (format_of g) y) (units_of (format_of g) y) (2 ^ low g)
  unfolding magnitude
  reads h =
      rw read
      (fields_finite g (negative (format_of g) y) (exponent_field (format_of g) y) (fraction_field (format_of g) y)
      (rw (agrees g).field ((div-lt_iff_lt-mul (pow_pos (prec g - 1))).1 h)))

  pub reads_infinite : unsigned (format_of g) y ≡ infinity (format_of g) → of_bits g y ≡ inf (negative (format_of g) y)
  reads_infinite h =
      read
      ∙ fields_infinite g (negative (format_of g) y) (exponent_field (format_of g) y) (fraction_field (format_of g) y)
      (ap (λ (n : ℕ). n / 2 ^ (prec g - 1)) h ∙ mul-div_cancel (top_field (format_of g)) (pow_pos (prec g - 1)) ∙ sym (agrees g).field)
      (ap (λ (n : ℕ). n % 2 ^ (prec g - 1)) h ∙ mul-mod_left (top_field (format_of g)) (2 ^ (prec g - 1)))

  -- the pattern of a number is no NaN's, and is read and written back
  pub number : unsigned (format_of g) y ≤ infinity (format_of g) → nan_bits g y ≡ false
  number h =
      nan_bits_above g y ∙ ap (λ (n : ℕ). ltb (ones g * hid g) (y % n)) (agrees g).sign
      ∙ ap (λ (n : ℕ). ltb (n * hid g) (unsigned (format_of g) y)) (agrees g).field
      ∙ le-ltb (infinity (format_of g)) (unsigned (format_of g) y) h

  pub read_back : y < 2 * sign_bit (format_of g) → unsigned (format_of g) y ≤ infinity (format_of g) → to_bits g (of_bits g y) ≡ y
  read_back p h = to_bits-of_bits g y (rw (agrees g).sign p) (rw (← nan_bits_is g y, number h) tt)

-- ---- a float written as a pattern

pub writes : (g : Ieee.Format) (v : Float) (s : Bool) (n : ℕ) → HasValue v s n (2 ^ low g)
    → to_bits g v ≡ signed (format_of g) s (encode (format_of g).fraction n)
unfolding to_bits encode
writes g nan s n h = absurd h
writes g (inf t) s n h = absurd h
writes g (fin t m e) s n h =
    let d : m * up e * 2 ^ low g / down e ≡ n = ap (λ (k : ℕ). k / down e) h.1 ∙ mul-div_cancel n (down_pos e) in
    ap (λ (k : ℕ). cond t (top g) 0 + (size k - prec g) * hid g + k / 2 ^ (size k - prec g)) d
    ∙ ap (λ (p : ℕ). cond t (top g) 0 + (size n - p) * hid g + n / 2 ^ (size n - p)) (agrees g).digits
    ∙ ap (λ (p : ℕ). cond t p 0 + (size n - suc (prec g - 1)) * hid g + n / 2 ^ (size n - suc (prec g - 1))) (agrees g).sign
    ∙ ap (λ (b : Bool). cond b (sign_bit (format_of g)) 0 + (size n - suc (prec g - 1)) * hid g + n / 2 ^ (size n - suc (prec g - 1))) h.0
    ∙ add_assoc (cond s (sign_bit (format_of g)) 0) ((size n - suc (prec g - 1)) * hid g) (n / 2 ^ (size n - suc (prec g - 1)))

pub writes_infinite : (g : Ieee.Format) (s : Bool) → to_bits g (inf s) ≡ signed (format_of g) s (infinity (format_of g))
unfolding to_bits
writes_infinite g s = rw ((agrees g).sign, (agrees g).field)

pub finite_number : (v : Float) (s : Bool) (a c : ℕ) → HasValue v s a c → Ieee.is_nan v ≡ false
unfolding Ieee.is_nan
finite_number nan s a c h = absurd h
finite_number (inf t) s a c h = absurd h
finite_number (fin t m e) s a c h = refl

pub infinite_number : (s : Bool) → Ieee.is_nan (inf s) ≡ false
unfolding Ieee.is_nan
infinite_number s = refl

-- ---- sums

-- a value as another fraction of the same size
rescale : (v : Float) (s : Bool) (a c b d : ℕ) → 0 < c → b * c ≡ a * d → HasValue v s a c → HasValue v s b d
rescale nan s a c b d p h k = k
rescale (inf t) s a c b d p h k = k
rescale (fin t m e) s a c b d p h k = (
  k.0,
  eq_of_mul-eq-mul_right c p (m * up e * d) (b * down e) (omega (arith, ap (λ (n : ℕ). n * d) k.1, ap (λ (n : ℕ). n * down e) h)),
)

pub sum_infinite : (g : Ieee.Format) (s : Bool) (v : Float) (t : Bool) (a c : ℕ) → HasValue v t a c → add g (inf s) v ≡ inf s
unfolding add
sum_infinite g s nan t a c h = absurd h
sum_infinite g s (inf u) t a c h = absurd h
sum_infinite g s (fin u m e) t a c h = refl

-- of one sign, and a number of units that the format holds: q of 2 ^ j each
pub sum_exact : (g : Ieee.Format) (u v : Float) (s : Bool) (a b q j : ℕ) → HasValue u s a (2 ^ low g) → HasValue v s b (2 ^ low g)
    → a + b ≡ q * 2 ^ j → q < 2 ^ prec g → a + b < 2 ^ (low g + suc (emax g))
    → HasValue (add g u v) s (a + b) (2 ^ low g)
unfolding add sum
sum_exact g nan v s a b q j hu hv e small fine = absurd hu
sum_exact g (inf t) v s a b q j hu hv e small fine = absurd hu
sum_exact g (fin t m k) nan s a b q j hu hv e small fine = absurd hv
sum_exact g (fin t m k) (inf r) s a b q j hu hv e small fine = absurd hv
sum_exact g (fin t m k) (fin r n l) s a b q j hu hv e small fine =
    let A : ℕ = m * up k * down l in
    let B : ℕ = n * up l * down k in
    let C : ℕ = down k * down l in
    let P : ℕ = 2 ^ low g in
    let pos : 0 < C = mul-pos (down_pos k) (down_pos l) in
    let scaled : (A + B) * P ≡ (a + b) * C = omega (arith, ap (λ (i : ℕ). i * down l) hu.1, ap (λ (i : ℕ). i * down k) hv.1) in
    rescale (add g (fin t m k) (fin r n l)) s (A + B) C (a + b) P pos (sym scaled)
    (same A B C t r hu.0 hv.0 (round_exact g s (A + B) C q j pos small (rw (← e) fine) (scaled ∙ ap (λ (i : ℕ). i * C) e)))
  where
    -- two equal signs
    same : (A B C : ℕ) (t r : Bool) → t ≡ s → r ≡ s → HasValue (round g s (A + B) C) s (A + B) C
        → HasValue (cond (beq t r) (round g t (A + B) C) (cond (ltb A B) (round g r (B - A) C) (round g (t && ltb B A) (A - B) C))) s (A + B) C
    same A B C t r et er h = rw (et, er) (pick s h)
      where
        pick : (s' : Bool) → HasValue (round g s' (A + B) C) s (A + B) C
            → HasValue (cond (beq s' s') (round g s' (A + B) C) (cond (ltb A B) (round g s' (B - A) C) (round g (s' && ltb B A) (A - B) C))) s (A + B) C
        pick true h = h
        pick false h = h

-- a finite pattern's units are so held
pub record Held (g : Ieee.Format) (n : ℕ) : Type 0 where
  pub q : ℕ
  pub j : ℕ
  pub is : n ≡ q * 2 ^ j
  pub small : q < 2 ^ prec g
  pub fine : n < 2 ^ (low g + suc (emax g))

pub held : (g : Ieee.Format) (x : ℕ) → unsigned (format_of g) x < infinity (format_of g) → Held g (units_of (format_of g) x)
held g x h = ⊎_elim (λ l. subnormal l) (λ k. scaled (normal F (unsigned f x) k)) (lt_or_ge (unsigned f x) (2 ^ F))
  where
    f : Format
    f = format_of g

    F : ℕ
    F = (format_of g).fraction

    b : ℕ
    b = bias (format_of g)

    digits : 2 ^ prec g ≡ 2 * 2 ^ F
    digits = ap (λ (n : ℕ). 2 ^ n) (agrees g).digits ∙ omega arith

    -- infinity's pattern counts 2 ^ (emax + 1)
    most : magnitude F (infinity f) ≡ 2 ^ (low g + suc (emax g))
    most =
        ap (λ (n : ℕ). magnitude F (n * 2 ^ F)) (agrees g).twice ∙ power_up F b (suc b) (omega (arith, (room f b (agrees g).valid refl).two))
        ∙ sym (pow-add 2 (suc b) (b + F - 1))
        ∙ ap (λ (n : ℕ). 2 ^ n) (omega (arith, (agrees g).unit, (agrees g).largest))

    fine : units_of f x < 2 ^ (low g + suc (emax g))
    fine = omega (arith, magnitude_mono F h, most)

    subnormal : unsigned f x < 2 ^ F → Held g (units_of f x)
    subnormal l =
        let u : units_of f x ≡ unsigned f x = magnitude-low F (unsigned f x) l in
        record { q = unsigned f x; j = 0; is = u ∙ omega arith; small = omega (arith, digits); fine = fine }

    scaled : Normal F (unsigned f x) → Held g (units_of f x)
    scaled n = record { q = n.M; j = n.j; is = n.units; small = omega (arith, digits, n.hi); fine = fine }
