-- What modf does to every pattern, over every valid format: the whole part is trunc(x), the fraction lies below one, both have x's sign,
-- and together they are x, bit for bit, also where the language's own addition joins them. Assumes nothing.
use mathlib.Core.Path.{◌≡◌, refl, sym, ap, ◌∙◌}
use mathlib.Core.Bool.{Bool, false, not}
use mathlib.Core.Logic.{⊎_elim}
use Prim.Native.Nat.{ℕ, ◌+◌, ◌*◌, ◌/◌, ◌%◌, ◌^◌, ◌≤◌, ◌<◌}
use native.Mathlib.Nat.{mod-lt, div-add-mod', eq-or-lt_of_le}
use native.Mathlib.Omega.{arith}
use lib.Dec.{T}
use lib.Pow.{pow_pos}
use lib.Ieee as Ieee
use lib.Ieee.{Float, inf, add, to_bits, of_bits, low}
use lib.Ieee.Exact.{HasValue}
use Rattle.float_format.specs.Format.{Format, Valid, sign_bit, infinity, negative, unsigned, signed, is_nan, quieted}
use Rattle.float_format.specs.Number.{magnitude, encode, bias, one, units_of}
use Rattle.float_format.specs.Rounding.{whole_part, integral}
use Rattle.float_format.specs.declared.Direction.TheVariants.{TowardZero}
use Rattle.float_format.proofs.Units.{encode-magnitude}
use Rattle.float_format.proofs.Parts.{parts_at}
use Rattle.float_format.proofs.Patterns.{below_sign, negative-signed, unsigned_signed, signed_parts}
use Rattle.float_format.proofs.Integral.{integral_nan, integral_infinite, room}
use Rattle.float_format.proofs.Laws.{result, result_finite, integral_sign, one_pos}
use Rattle.splitting.specs.Splitting.{modf_whole, modf_fraction}
use Rattle.splitting.proofs.Fraction.{whole_trunc, fraction_of_nan, fraction_of_infinity, fraction_of_finite, is_number, Rest, rest}
use Rattle.float_format.proofs.Floats.{format_of, agrees, reads, reads_infinite, writes, writes_infinite, finite_number, infinite_number, sum_infinite, sum_exact, Held, held}

-- ---- by class

-- the whole part is trunc(x)
pub whole_is_trunc : (f : Format) (x : ℕ) → modf_whole f x ≡ integral f TowardZero x
whole_is_trunc f x = whole_trunc f x

-- NaN gives two quieted copies
pub nan_parts : (f : Format) (x : ℕ) → infinity f < unsigned f x → (modf_whole f x ≡ quieted f x) × (modf_fraction f x ≡ quieted f x)
nan_parts f x l = (whole_trunc f x ∙ integral_nan f TowardZero x l, fraction_of_nan f x l)

-- an infinity gives itself and the zero of its sign
pub infinity-parts : (f : Format) (x : ℕ) → unsigned f x ≡ infinity f → (modf_whole f x ≡ x) × (modf_fraction f x ≡ signed f (negative f x) 0)
infinity-parts f x e = (whole_trunc f x ∙ integral_infinite f TowardZero x e, fraction_of_infinity f x e)

-- ---- a finite number's fraction

record Finite (f : Format) (x : ℕ) : Type 0 where
  pub sign : negative f (modf_fraction f x) ≡ negative f x
  pub within : unsigned f (modf_fraction f x) ≤ unsigned f x
  pub units : units_of f (modf_fraction f x) ≡ units_of f x % one f

finite : (f : Format) (x : ℕ) → unsigned f x < infinity f → Finite f x
finite f x h = go (rest f x)
  where
    go : Rest f x (encode f.fraction (units_of f x % one f)) → Finite f x
    go r =
        let a : ℕ = encode f.fraction (units_of f x % one f) in
        let l : a < sign_bit f = omega (arith, r.within, below_sign f x) in
        let e : modf_fraction f x ≡ signed f (negative f x) a = fraction_of_finite f x h in
        let u : unsigned f (modf_fraction f x) ≡ a = ap (unsigned f) e ∙ unsigned_signed f a l (negative f x) in
        record {
          sign = ap (negative f) e ∙ negative-signed f a l (negative f x);
          within = omega (arith, r.within);
          units = ap (magnitude f.fraction) u ∙ r.units;
        }

zero_unsigned : (f : Format) (s : Bool) → unsigned f (signed f s 0) ≡ 0
zero_unsigned f s = unsigned_signed f 0 (pow_pos (f.exponent + f.fraction)) s

module _ (f : Format) (x : ℕ) (v : Valid f) where
  -- ---- each part has x's sign, a zero too

  pub whole_sign : unsigned f x ≤ infinity f → negative f (modf_whole f x) ≡ negative f x
  whole_sign h = ap (negative f) (whole_trunc f x) ∙ integral_sign f TowardZero x v h

  pub fraction_sign : unsigned f x ≤ infinity f → negative f (modf_fraction f x) ≡ negative f x
  fraction_sign h =
      ⊎_elim (λ e. ap (negative f) (fraction_of_infinity f x e) ∙ negative-signed f 0 (pow_pos (f.exponent + f.fraction)) (negative f x)) (λ l. (finite f x l).sign) (eq-or-lt_of_le h)

  -- ---- neither part of a number is a NaN, and of a finite one neither is infinite

  pub whole_finite : unsigned f x < infinity f → unsigned f (modf_whole f x) < infinity f
  whole_finite h = rw (whole_trunc f x) (result_finite f TowardZero x v h)

  pub fraction_finite : unsigned f x < infinity f → unsigned f (modf_fraction f x) < infinity f
  fraction_finite h = omega (arith, (finite f x h).within)

  pub whole_number : unsigned f x ≤ infinity f → unsigned f (modf_whole f x) ≤ infinity f
  whole_number h = ⊎_elim (λ e. omega (arith, ap (unsigned f) (infinity-parts f x e).0)) (λ l. omega (arith, whole_finite l)) (eq-or-lt_of_le h)

  pub fraction_number : unsigned f x ≤ infinity f → unsigned f (modf_fraction f x) ≤ infinity f
  fraction_number h =
      ⊎_elim (λ e. omega (arith, ap (unsigned f) (fraction_of_infinity f x e), zero_unsigned f (negative f x))) (λ l. omega (arith, fraction_finite l)) (eq-or-lt_of_le h)

  -- ---- the units of a finite number's parts

  -- the whole part is the most ones that x has
  pub whole_units : unsigned f x < infinity f → units_of f (modf_whole f x) ≡ units_of f x / one f * one f
  unfolding whole_part
  whole_units h =
      ap (units_of f) (whole_trunc f x) ∙ (result f TowardZero x v h).units
      ∙ ap (λ (n : ℕ). n * one f) (parts_at TowardZero (negative f x) (units_of f x) (one f) false refl ∙ omega arith)

  -- the fraction is what is past them
  pub fraction_units : unsigned f x < infinity f → units_of f (modf_fraction f x) ≡ units_of f x % one f
  fraction_units h = (finite f x h).units

  pub fraction_below-one : unsigned f x < infinity f → units_of f (modf_fraction f x) < one f
  fraction_below-one h = omega (arith, fraction_units h, mod-lt (units_of f x) (one_pos f))

  -- together they are x's
  pub parts_add : unsigned f x < infinity f → units_of f (modf_whole f x) + units_of f (modf_fraction f x) ≡ units_of f x
  parts_add h = omega (arith, whole_units h, fraction_units h, div-add-mod' (units_of f x) (one f))

-- ---- the two parts, added by the language's own addition

-- a sum that is no NaN, with x's bits
pub record Joined (g : Ieee.Format) (x : ℕ) (v : Float) : Type 0 where
  pub number : T (not (Ieee.is_nan v))
  pub bits : to_bits g v ≡ x

joined : (g : Ieee.Format) (x : ℕ) (v : Float) → Ieee.is_nan v ≡ false → to_bits g v ≡ x → Joined g x v
joined g x v n b = record { number = rw n tt; bits = b }

-- modf's two parts added give x's bits, for every x that isn't a NaN
pub added_back : (g : Ieee.Format) (x : ℕ) → x < 2 * sign_bit (format_of g) → is_nan (format_of g) x ≡ false
    → Joined g x (add g (of_bits g (modf_whole (format_of g) x)) (of_bits g (modf_fraction (format_of g) x)))
added_back g x p n = ⊎_elim (λ e. infinite e) (λ l. sum l (held g x l)) (eq-or-lt_of_le h)
  where
    h : unsigned (format_of g) x ≤ infinity (format_of g)
    h = is_number (format_of g) x n

    infinite : unsigned (format_of g) x ≡ infinity (format_of g)
        → Joined g x (add g (of_bits g (modf_whole (format_of g) x)) (of_bits g (modf_fraction (format_of g) x)))
    infinite e =
        let f : Format = format_of g in
        let s : Bool = negative f x in
        let z : unsigned f (modf_fraction f x) < infinity f =
        omega (arith, ap (unsigned f) (fraction_of_infinity f x e), zero_unsigned f s, (room f (bias f) (agrees g).valid refl).whole, pow_pos f.fraction) in
        let v : add g (of_bits g (modf_whole f x)) (of_bits g (modf_fraction f x)) ≡ inf s =
        ap (λ (u : Float). add g u (of_bits g (modf_fraction f x))) (ap (of_bits g) (infinity-parts f x e).0 ∙ reads_infinite g x e)
        ∙ sum_infinite g s (of_bits g (modf_fraction f x)) _ _ _ (reads g (modf_fraction f x) z) in
        joined g x (add g (of_bits g (modf_whole f x)) (of_bits g (modf_fraction f x)))
        (ap Ieee.is_nan v ∙ infinite_number s)
        (ap (to_bits g) v ∙ writes_infinite g s ∙ ap (signed f s) (sym e) ∙ sym (signed_parts f x p))

    sum : unsigned (format_of g) x < infinity (format_of g) → Held g (units_of (format_of g) x)
        → Joined g x (add g (of_bits g (modf_whole (format_of g) x)) (of_bits g (modf_fraction (format_of g) x)))
    sum l k =
        let f : Format = format_of g in
        let s : Bool = negative f x in
        let e : units_of f (modf_whole f x) + units_of f (modf_fraction f x) ≡ units_of f x = parts_add f x (agrees g).valid l in
        let w : HasValue (of_bits g (modf_whole f x)) s (units_of f (modf_whole f x)) (2 ^ low g) =
        rw (whole_sign f x (agrees g).valid h) at (reads g (modf_whole f x) (whole_finite f x (agrees g).valid l)) in
        let r : HasValue (of_bits g (modf_fraction f x)) s (units_of f (modf_fraction f x)) (2 ^ low g) =
        rw (fraction_sign f x (agrees g).valid h) at (reads g (modf_fraction f x) (fraction_finite f x (agrees g).valid l)) in
        let v : HasValue (add g (of_bits g (modf_whole f x)) (of_bits g (modf_fraction f x))) s (units_of f x) (2 ^ low g) =
        rw e at (sum_exact g (of_bits g (modf_whole f x)) (of_bits g (modf_fraction f x)) s (units_of f (modf_whole f x)) (units_of f (modf_fraction f x)) k.q k.j w r (e ∙ k.is) k.small (rw e k.fine)) in
        joined g x (add g (of_bits g (modf_whole f x)) (of_bits g (modf_fraction f x)))
        (finite_number (add g (of_bits g (modf_whole f x)) (of_bits g (modf_fraction f x))) s (units_of f x) (2 ^ low g) v)
        (writes g (add g (of_bits g (modf_whole f x)) (of_bits g (modf_fraction f x))) s (units_of f x) v ∙ ap (signed f s) (encode-magnitude f.fraction (unsigned f x)) ∙ sym (signed_parts f x p))
