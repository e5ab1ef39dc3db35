-- The language's own rounding, sum and product, as patterns, are ours: over lib.Ieee's format g. Assumes nothing.
use mathlib.Core.Path.{◌≡◌, refl, sym, ap, ◌∙◌}
use mathlib.Core.Bool.{Bool, true, false, not, ◌&&◌, beq, cond}
use mathlib.Core.Logic.{⊎_elim}
use Prim.Native.Nat.{ℕ, suc, ◌+◌, ◌-◌, ◌*◌, ◌/◌, ◌%◌, ◌^◌, ◌≤◌, ◌<◌, compare, Ordering}
use native.Mathlib.Nat.{mul-pos, mul_comm, mul-sub, mul-mul-mul_comm}
use native.Mathlib.Omega.{arith}
use lib.Dec.{T, ltb, leb, eqb, is_le, compare_is_eq}
use lib.Pow.{pow_pos, pow-add}
use lib.Ieee as Ieee
use lib.Ieee.{Float, nan, inf, fin, prec, emax, low, up, down, size, units, round, add, sub, neg, mul, unlike, of_bits, nan_bits, to_bits}
use lib.Ieee.Exact.{HasValue, units_val}
use lib.Ieee.Fits.{round_is, down_pos}
use lib.Ieee.Scale.{round_same}
use borrow.Author.Tests.{lt-ltb, le-ltb, eq-eqb, ne_eqb, ltb-true, ltb-false, eqb-true, leb-true, leb-false, eqb-false}
use Rattle.float_format.specs.Format.{Format, infinity, negative, unsigned, signed}
use Rattle.float_format.specs.Number.{magnitude, encode, bias, units_of}
use Rattle.float_format.specs.Rounding.{parts, nearest, capped, rounded}
use Rattle.float_format.specs.declared.Direction.TheVariants.{HalfEven}
use Rattle.float_format.proofs.Units.{lt_or_ge, magnitude_cancel, magnitude_mono_le}
use Rattle.float_format.proofs.Parts.{parts_at, ltb_scale}
use Rattle.float_format.proofs.Whole.{power_up}
use Rattle.float_format.proofs.Integral.{room}
use Rattle.float_format.proofs.Order.{above_at, under_at, negative-negated, above-negated, under-negated}
use Rattle.float_format.proofs.Nearby.{nearest_units}
use Rattle.float_format.proofs.Floats.{format_of, agrees, number, reads, writes, writes_infinite, finite_number, infinite_number}
use Rattle.arithmetic.specs.Arithmetic.{sum_at, sum, difference, product}
use Rattle.float_format.proofs.Rounded.{capped_in, capped_out, rounded_scale}

-- ---- one rounding rule: lib.Ieee's choice by `compare`, and ours by tests

odd_or_not : (q : ℕ) → (q % 2 ≡ 1 → ⊥) → q + 0 ≡ q + q % 2
odd_or_not q h = ⊎_elim (λ l. omega arith) (λ g. absurd (h (omega arith))) (lt_or_ge (q % 2) 1)

tie : (s : Bool) (n u : ℕ) → Ieee.nearest (n / u) (compare (n % u * 2) u) ≡ parts HalfEven s n u
tie s n u = go (compare (n % u * 2) u) refl
  where
    go : (o : Ordering) → compare (n % u * 2) u ≡ o → Ieee.nearest (n / u) o ≡ parts HalfEven s n u
    go Ordering.lt e =
        let a : leb (n % u * 2) u ≡ true = ap is_le e in
        let b : eqb (n % u * 2) u ≡ false = ap compare_is_eq e in
        let c : n % u * 2 < u = ⊎_elim (λ l. l) (λ g. absurd (eqb-false (n % u * 2) u b (omega (arith, leb-true (n % u * 2) u a)))) (lt_or_ge (n % u * 2) u) in
        sym (parts_at HalfEven s n u false (simp (le-ltb u (n % u * 2) (omega arith), ne_eqb u (n % u * 2) (omega arith))) ∙ omega arith)
    go Ordering.eq e =
        let b : n % u * 2 ≡ u = eqb-true (n % u * 2) u (ap compare_is_eq e) in
        sym (half b (eqb (n / u % 2) 1) refl)
      where
        half : n % u * 2 ≡ u → (t : Bool) → eqb (n / u % 2) 1 ≡ t → parts HalfEven s n u ≡ n / u + n / u % 2
        half b t c =
            parts_at HalfEven s n u t (simp (le-ltb u (n % u * 2) (omega arith), eq-eqb u (n % u * 2) (sym b)) c) ∙ last t c
          where
            last : (t : Bool) → eqb (n / u % 2) 1 ≡ t → n / u + cond t 1 0 ≡ n / u + n / u % 2
            last true c = omega (arith, eqb-true (n / u % 2) 1 c)
            last false c = odd_or_not (n / u) (eqb-false (n / u % 2) 1 c)
    go Ordering.gt e =
        let c : u < n % u * 2 = leb-false (n % u * 2) u (ap is_le e) in
        sym (parts_at HalfEven s n u true (simp (lt-ltb u (n % u * 2) c)) ∙ omega arith)

-- ---- the end of the range, in units

top_units : (g : Ieee.Format) → magnitude (format_of g).fraction (infinity (format_of g)) ≡ 2 ^ (low g + suc (emax g))
top_units g =
    let b : ℕ = bias (format_of g) in
    let F : ℕ = (format_of g).fraction in
    ap (λ (n : ℕ). magnitude F (n * 2 ^ F)) (agrees g).twice ∙ power_up F b (suc b) (omega (arith, (room (format_of g) b (agrees g).valid refl).two))
    ∙ sym (pow-add 2 (suc b) (b + F - 1))
    ∙ ap (λ (n : ℕ). 2 ^ n) (omega (arith, (agrees g).unit, (agrees g).largest))

units_out : (g : Ieee.Format) (s : Bool) (q k : ℕ) → 2 ^ (low g + suc (emax g)) ≤ q * 2 ^ k → units g s q k ≡ inf s
unfolding units
units_out g s q k h = simp (le-ltb (q * 2 ^ k) (2 ^ (low g + suc (emax g))) h)

-- ---- `round`

pub bits_of_round : (g : Ieee.Format) (s : Bool) (num den : ℕ) → 0 < den → to_bits g (round g s num den) ≡ rounded (format_of g) s (num * 2 ^ low g) den
unfolding rounded nearest
bits_of_round g s num den h =
    ap (to_bits g) (round_is g s num den ∙ ap (λ (q : ℕ). units g s q (size (N / den) - prec g)) (tie s N (den * 2 ^ (size (N / den) - prec g))))
    ∙ ap (λ (p : ℕ). to_bits g (units g s (parts HalfEven s N (den * 2 ^ (size (N / den) - p))) (size (N / den) - p))) (agrees g).digits
    ∙ ⊎_elim inside outside (lt_or_ge (Q * 2 ^ K) (2 ^ (low g + suc (emax g))))
  where
    f : Format
    f = format_of g

    F : ℕ
    F = (format_of g).fraction

    N : ℕ
    N = num * 2 ^ low g

    K : ℕ
    K = size (num * 2 ^ low g / den) - suc (format_of g).fraction

    Q : ℕ
    Q = parts HalfEven s (num * 2 ^ low g) (den * 2 ^ (size (num * 2 ^ low g / den) - suc (format_of g).fraction))

    back : magnitude F (encode F (Q * 2 ^ K)) ≡ Q * 2 ^ K
    back = nearest_units F s N den h

    inside : Q * 2 ^ K < 2 ^ (low g + suc (emax g)) → to_bits g (units g s Q K) ≡ signed f s (capped f (encode F (Q * 2 ^ K)))
    inside l =
        let small : encode F (Q * 2 ^ K) < infinity f =
        ⊎_elim (λ k. k) (λ k. omega (arith, back, top_units g, magnitude_mono_le F k)) (lt_or_ge (encode F (Q * 2 ^ K)) (infinity f)) in
        writes g (units g s Q K) s (Q * 2 ^ K) (units_val g s Q K l) ∙ ap (signed f s) (sym (capped_in f small))

    outside : 2 ^ (low g + suc (emax g)) ≤ Q * 2 ^ K → to_bits g (units g s Q K) ≡ signed f s (capped f (encode F (Q * 2 ^ K)))
    outside l =
        let big : infinity f ≤ encode F (Q * 2 ^ K) = magnitude_cancel F (omega (arith, back, top_units g)) in
        ap (to_bits g) (units_out g s Q K l) ∙ writes_infinite g s ∙ ap (signed f s) (sym (capped_out f big))

-- of n units
pub bits_of_units : (g : Ieee.Format) (s : Bool) (n : ℕ) → to_bits g (round g s n (2 ^ low g)) ≡ rounded (format_of g) s n 1
bits_of_units g s n =
    bits_of_round g s n (2 ^ low g) (pow_pos (low g))
    ∙ ap (rounded (format_of g) s (n * 2 ^ low g)) (omega arith)
    ∙ rounded_scale (format_of g) s n 1 (2 ^ low g) (omega arith) (pow_pos (low g))

-- ---- the sum of two values, by any fractions of one denominator that they equal

sum_at_lem : (g : Ieee.Format) (u v : Float) (s t : Bool) (a b P : ℕ) → 0 < P → HasValue u s a P → HasValue v t b P → add g u v ≡ Ieee.sum g s a t b P
unfolding add Ieee.sum
sum_at_lem g nan v s t a b P h hu hv = absurd hu
sum_at_lem g (inf r) v s t a b P h hu hv = absurd hu
sum_at_lem g (fin r m e) nan s t a b P h hu hv = absurd hv
sum_at_lem g (fin r m e) (inf q) s t a b P h hu hv = absurd hv
sum_at_lem g (fin r m e) (fin q n d) s t a b P h hu hv = rw (hu.0, hv.0) (same (ltb A B) refl (ltb B A) refl)
  where
    A : ℕ
    A = m * up e * down d

    B : ℕ
    B = n * up d * down e

    C : ℕ
    C = down e * down d

    C_pos : 0 < C
    C_pos = mul-pos (down_pos e) (down_pos d)

    ea : A * P ≡ a * C
    ea = omega (arith, ap (λ (i : ℕ). i * down d) hu.1)

    eb : B * P ≡ b * C
    eb = omega (arith, ap (λ (i : ℕ). i * down e) hv.1)

    less : ltb A B ≡ ltb a b
    less = sym (ltb_scale A B P h) ∙ ap (λ (i : ℕ). ltb i (B * P)) ea ∙ ap (ltb (a * C)) eb ∙ ltb_scale a b C C_pos

    more : ltb B A ≡ ltb b a
    more = sym (ltb_scale B A P h) ∙ ap (λ (i : ℕ). ltb i (A * P)) eb ∙ ap (ltb (b * C)) ea ∙ ltb_scale b a C C_pos

    difference : (i j k l : ℕ) → i * P ≡ k * C → j * P ≡ l * C → (i - j) * P ≡ (k - l) * C
    difference i j k l x y = times i j P ∙ ap (λ (z : ℕ). z - j * P) x ∙ ap (λ (z : ℕ). k * C - z) y ∙ sym (times k l C)
      where
        times : (i j q : ℕ) → (i - j) * q ≡ i * q - j * q
        times i j q = mul_comm (i - j) q ∙ mul-sub q i j ∙ omega arith

    same : (x : Bool) → ltb A B ≡ x → (y : Bool) → ltb B A ≡ y
        → cond (beq s t) (round g s (A + B) C) (cond (ltb A B) (round g t (B - A) C) (round g (s && ltb B A) (A - B) C))
        ≡ cond (beq s t) (round g s (a + b) P) (cond (ltb a b) (round g t (b - a) P) (round g (s && ltb b a) (a - b) P))
    same x ex y ey =
        rw (less, more, round_same g s (A + B) C (a + b) P C_pos h (omega (arith, ea, eb)), round_same g t (B - A) C (b - a) P C_pos h (difference B A b a eb ea), round_same g (s && ltb b a) (A - B) C (a - b) P C_pos h (difference A B a b ea eb))

-- lib.Ieee's sum by signs, and ours by the units above and below zero
bits_by_signs : (g : Ieee.Format) (s t : Bool) (a b : ℕ) → to_bits g (Ieee.sum g s a t b (2 ^ low g))
    ≡ sum_at (format_of g) (s && t) (cond s 0 a + cond t 0 b) (cond s a 0 + cond t b 0)
unfolding Ieee.sum
bits_by_signs g true true a b = bits_of_units g true (a + b) ∙ ap (λ (n : ℕ). rounded (format_of g) true n 1) (omega arith)
bits_by_signs g false false a b =
    bits_of_units g false (a + b) ∙ ap (λ (n : ℕ). rounded (format_of g) false n 1) (omega arith)
    ∙ ap (λ (r : Bool). rounded (format_of g) r ((a + b - 0) + (0 - (a + b))) 1) (sym (le-ltb (a + b) 0 (omega arith)))
bits_by_signs g false true a b = go (ltb a b) refl
  where
    goal : Bool → Type 0
    goal r = to_bits g (cond r (round g true (b - a) (2 ^ low g)) (round g false (a - b) (2 ^ low g)))
        ≡ rounded (format_of g) (ltb (a + 0) (0 + b)) (((a + 0) - (0 + b)) + ((0 + b) - (a + 0))) 1

    go : (r : Bool) → ltb a b ≡ r → goal r
    go true e =
        bits_of_units g true (b - a)
        ∙ ap (λ (n : ℕ). rounded (format_of g) true n 1) (omega (arith, ltb-true a b e))
        ∙ ap (λ (r : Bool). rounded (format_of g) r (((a + 0) - (0 + b)) + ((0 + b) - (a + 0))) 1) (sym (lt-ltb (a + 0) (0 + b) (omega (arith, ltb-true a b e))))
    go false e =
        bits_of_units g false (a - b)
        ∙ ap (λ (n : ℕ). rounded (format_of g) false n 1) (omega (arith, ltb-false a b e))
        ∙ ap (λ (r : Bool). rounded (format_of g) r (((a + 0) - (0 + b)) + ((0 + b) - (a + 0))) 1) (sym (le-ltb (a + 0) (0 + b) (omega (arith, ltb-false a b e))))
bits_by_signs g true false a b = go (ltb a b) refl (ltb b a) refl
  where
    goal : Bool → Bool → Type 0
    goal r q = to_bits g (cond r (round g false (b - a) (2 ^ low g)) (round g q (a - b) (2 ^ low g)))
        ≡ rounded (format_of g) (ltb (0 + b) (a + 0)) (((0 + b) - (a + 0)) + ((a + 0) - (0 + b))) 1

    at : (s : Bool) (n : ℕ) → n ≡ ((0 + b) - (a + 0)) + ((a + 0) - (0 + b)) → ltb (0 + b) (a + 0) ≡ s
        → to_bits g (round g s n (2 ^ low g)) ≡ rounded (format_of g) (ltb (0 + b) (a + 0)) (((0 + b) - (a + 0)) + ((a + 0) - (0 + b))) 1
    at s n e z =
        bits_of_units g s n
        ∙ ap (λ (n : ℕ). rounded (format_of g) s n 1) e
        ∙ ap (λ (r : Bool). rounded (format_of g) r (((0 + b) - (a + 0)) + ((a + 0) - (0 + b))) 1) (sym z)

    go : (r : Bool) → ltb a b ≡ r → (q : Bool) → ltb b a ≡ q → goal r q
    go true e q z = at false (b - a) (omega (arith, ltb-true a b e)) (le-ltb (0 + b) (a + 0) (omega (arith, ltb-true a b e)))
    go false e true z = at true (a - b) (omega (arith, ltb-false a b e)) (lt-ltb (0 + b) (a + 0) (omega (arith, ltb-true b a z)))
    go false e false z = at false (a - b) (omega (arith, ltb-false a b e)) (le-ltb (0 + b) (a + 0) (omega (arith, ltb-false b a z)))

-- The language's sum of two finite numbers, as a pattern.
pub sum_bits : (g : Ieee.Format) (x y : ℕ) → unsigned (format_of g) x < infinity (format_of g) → unsigned (format_of g) y < infinity (format_of g)
    → to_bits g (add g (of_bits g x) (of_bits g y)) ≡ sum (format_of g) x y
unfolding sum
sum_bits g x y hx hy =
    ap (to_bits g) (sum_at_lem g (of_bits g x) (of_bits g y) (negative f x) (negative f y) (units_of f x) (units_of f y) (2 ^ low g) (pow_pos (low g)) (reads g x hx) (reads g y hy))
    ∙ bits_by_signs g (negative f x) (negative f y) (units_of f x) (units_of f y)
    ∙ rw (above_at f x (negative f x) refl, above_at f y (negative f y) refl, under_at f x (negative f x) refl, under_at f y (negative f y) refl) refl
  where
    f : Format
    f = format_of g

-- ---- the product

mul_at : (g : Ieee.Format) (u v : Float) (s t : Bool) (a b P : ℕ) → 0 < P → HasValue u s a P → HasValue v t b P → mul g u v ≡ round g (unlike s t) (a * b) (P * P)
unfolding mul
mul_at g nan v s t a b P h hu hv = absurd hu
mul_at g (inf r) v s t a b P h hu hv = absurd hu
mul_at g (fin r m e) nan s t a b P h hu hv = absurd hv
mul_at g (fin r m e) (inf q) s t a b P h hu hv = absurd hv
mul_at g (fin r m e) (fin q n d) s t a b P h hu hv =
    rw (hu.0, hv.0)
    (round_same g (unlike s t) (m * up e * (n * up d)) (down e * down d) (a * b) (P * P) (mul-pos (down_pos e) (down_pos d)) (mul-pos h h)
    (mul-mul-mul_comm (m * up e) (n * up d) P P ∙ ap (λ (z : ℕ). z * (n * up d * P)) hu.1 ∙ ap (λ (z : ℕ). a * down e * z) hv.1 ∙ mul-mul-mul_comm a (down e) b (down d)))

-- The language's product of two finite numbers, as a pattern.
pub product_bits : (g : Ieee.Format) (x y : ℕ) → unsigned (format_of g) x < infinity (format_of g) → unsigned (format_of g) y < infinity (format_of g)
    → to_bits g (mul g (of_bits g x) (of_bits g y)) ≡ product (format_of g) x y
unfolding product
product_bits g x y hx hy =
    let f : Format = format_of g in
    let P : ℕ = 2 ^ low g in
    let s : Bool = unlike (negative f x) (negative f y) in
    ap (to_bits g) (mul_at g (of_bits g x) (of_bits g y) (negative f x) (negative f y) (units_of f x) (units_of f y) P (pow_pos (low g)) (reads g x hx) (reads g y hy))
    ∙ bits_of_round g s (units_of f x * units_of f y) (P * P) (mul-pos (pow_pos (low g)) (pow_pos (low g)))
    ∙ rounded_scale f s (units_of f x * units_of f y) P P (pow_pos (low g)) (pow_pos (low g))
    ∙ ap (λ (n : ℕ). rounded f s (units_of f x * units_of f y) (2 ^ n)) (agrees g).unit

-- ---- the difference

turned : (v : Float) (s : Bool) (a P : ℕ) → HasValue v s a P → HasValue (neg v) (not s) a P
unfolding neg
turned nan s a P h = h
turned (inf t) s a P h = h
turned (fin t m e) s a P h = (ap not h.0, h.1)

-- The language's difference of two finite numbers, as a pattern: the sum with the second negated.
pub difference_bits : (g : Ieee.Format) (x y : ℕ) → unsigned (format_of g) x < infinity (format_of g) → unsigned (format_of g) y < infinity (format_of g)
    → to_bits g (sub g (of_bits g x) (of_bits g y)) ≡ difference (format_of g) x y
unfolding sum difference sub
difference_bits g x y hx hy =
    ap (to_bits g) (sum_at_lem g (of_bits g x) (neg (of_bits g y)) (negative f x) (not (negative f y)) (units_of f x) (units_of f y) (2 ^ low g) (pow_pos (low g)) (reads g x hx) (turned (of_bits g y) (negative f y) (units_of f y) (2 ^ low g) (reads g y hy)))
    ∙ bits_by_signs g (negative f x) (not (negative f y)) (units_of f x) (units_of f y)
    ∙ rw (above_at f x (negative f x) refl, under_at f x (negative f x) refl, negative-negated f y, above-negated f y ∙ under_at f y (negative f y) refl, under-negated f y ∙ above_at f y (negative f y) refl, cond_not (negative f y) 0 (units_of f y), cond_not (negative f y) (units_of f y) 0) refl
  where
    f : Format
    f = format_of g

    cond_not : (t : Bool) (a b : ℕ) → cond (not t) a b ≡ cond t b a
    cond_not true a b = refl
    cond_not false a b = refl

-- ---- no NaN comes of numbers

round_number : (g : Ieee.Format) (s : Bool) (num den : ℕ) → T (not (Ieee.is_nan (round g s num den)))
round_number g s num den = rw (round_is g s num den) (⊎_elim inside outside (lt_or_ge (q * 2 ^ k) (2 ^ (low g + suc (emax g)))))
  where
    n : ℕ
    n = num * 2 ^ low g

    k : ℕ
    k = size (num * 2 ^ low g / den) - prec g

    q : ℕ
    q = Ieee.nearest (n / (den * 2 ^ k)) (compare (n % (den * 2 ^ k) * 2) (den * 2 ^ k))

    inside : q * 2 ^ k < 2 ^ (low g + suc (emax g)) → T (not (Ieee.is_nan (units g s q k)))
    inside l = rw (finite_number (units g s q k) s (q * 2 ^ k) (2 ^ low g) (units_val g s q k l)) tt

    outside : 2 ^ (low g + suc (emax g)) ≤ q * 2 ^ k → T (not (Ieee.is_nan (units g s q k)))
    outside l = rw (units_out g s q k l, infinite_number s) tt

either : (b : Bool) (x y : Float) → T (not (Ieee.is_nan x)) → T (not (Ieee.is_nan y)) → T (not (Ieee.is_nan (cond b x y)))
either true x y h k = h
either false x y h k = k

-- a sum's, by the values of its terms
sum_at_number : (g : Ieee.Format) (u v : Float) (s t : Bool) (a b P : ℕ) → 0 < P → HasValue u s a P → HasValue v t b P → T (not (Ieee.is_nan (add g u v)))
unfolding Ieee.sum
sum_at_number g u v s t a b P h hu hv =
    rw (sum_at_lem g u v s t a b P h hu hv)
    (either (beq s t) (round g s (a + b) P) (cond (ltb a b) (round g t (b - a) P) (round g (s && ltb b a) (a - b) P)) (round_number g s (a + b) P)
    (either (ltb a b) (round g t (b - a) P) (round g (s && ltb b a) (a - b) P) (round_number g t (b - a) P) (round_number g (s && ltb b a) (a - b) P)))

module _ (g : Ieee.Format) (x y : ℕ) (hx : unsigned (format_of g) x < infinity (format_of g)) (hy : unsigned (format_of g) y < infinity (format_of g)) where
  pub readable : T (not (nan_bits g x))
  readable = rw (number g x (omega arith)) tt

  pub sum_no_nan : T (not (Ieee.is_nan (add g (of_bits g x) (of_bits g y))))
  sum_no_nan =
      let f : Format = format_of g in
      sum_at_number g (of_bits g x) (of_bits g y) (negative f x) (negative f y) (units_of f x) (units_of f y) (2 ^ low g) (pow_pos (low g)) (reads g x hx) (reads g y hy)

  pub difference_no_nan : T (not (Ieee.is_nan (sub g (of_bits g x) (of_bits g y))))
  unfolding sub
  difference_no_nan =
      let f : Format = format_of g in
      sum_at_number g (of_bits g x) (neg (of_bits g y)) (negative f x) (not (negative f y)) (units_of f x) (units_of f y) (2 ^ low g) (pow_pos (low g)) (reads g x hx)
      (turned (of_bits g y) (negative f y) (units_of f y) (2 ^ low g) (reads g y hy))

  pub product_no_nan : T (not (Ieee.is_nan (mul g (of_bits g x) (of_bits g y))))
  product_no_nan =
      let f : Format = format_of g in
      let P : ℕ = 2 ^ low g in
      rw (mul_at g (of_bits g x) (of_bits g y) (negative f x) (negative f y) (units_of f x) (units_of f y) P (pow_pos (low g)) (reads g x hx) (reads g y hy))
      (round_number g (unlike (negative f x) (negative f y)) (units_of f x * units_of f y) (P * P))
