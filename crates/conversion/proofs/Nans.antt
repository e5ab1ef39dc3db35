-- A NaN taken to another format: its sign, the top of its payload, the quiet bit set, further bits zero; and through a wider format and back
-- it is quieted, whatever rounding was done there. The one idea: quieting changes the fraction alone, which becomes the quiet bit and what
-- stands below it. Over any two formats. Assumes nothing.
use mathlib.Core.Path.{◌≡◌, refl, sym, ap, ◌∙◌}
use mathlib.Core.Bool.{Bool, true, false, cond}
use Prim.Native.Nat.{ℕ, zero, suc, ◌+◌, ◌-◌, ◌*◌, ◌/◌, ◌%◌, ◌^◌, ◌<◌}
use native.Mathlib.Nat.{add-mod_left, mul_assoc, mul_comm, mul-div_cancel, mod-lt, mod-eq_of_lt, div-add-mod', div-lt_iff_lt-mul, mul-lt-mul_of_pos_right, mul-add-mod_self_right, pow-suc}
use native.Mathlib.Omega.{arith}
use lib.Bits.{bit_or, or_block, or_zero_r}
use lib.Pow.{pow_pos, pow-add}
use Rattle.float_format.specs.Format.{Format, Valid, sign_bit, top_field, infinity, quiet_bit, negative, unsigned, signed, fraction_field, quieted}
use Rattle.float_format.specs.Number.{bias}
use Rattle.float_format.specs.Rounding.{integral}
use Rattle.float_format.specs.declared.Direction.{Direction}
use Rattle.float_format.proofs.Parts.{mod_scale}
use Rattle.float_format.proofs.Patterns.{negative-signed, unsigned_signed, signed_parts}
use Rattle.float_format.proofs.Integral.{room, integral_nan}
use Rattle.conversion.specs.Conversion.{converted}
use Rattle.conversion.proofs.Conversion.{converted_nan_lem}

-- ---- quieting changes the fraction alone

-- the fraction m with the quiet bit set: that bit, and what stands below it
abbrev pub quiet : Format → ℕ → ℕ
quiet f m = quiet_bit f + m % quiet_bit f

one_set : (a : ℕ) → a < 2 → bit_or a 1 ≡ 1
one_set zero h = refl
one_set (suc zero) h = refl
one_set (suc (suc a)) h = absurd (omega arith)

module _ (f : Format) (v : Valid f) where
  twice : 2 ^ f.fraction ≡ 2 * quiet_bit f
  twice = ap (λ (k : ℕ). 2 ^ k) (omega (arith, v.some_fraction)) ∙ pow-suc 2 (f.fraction - 1) ∙ omega arith

  quiet_lt : (m : ℕ) → quiet f m < 2 ^ f.fraction
  quiet_lt m = omega (arith, twice, mod-lt m (pow_pos (f.fraction - 1)))

  quiet_is : (m : ℕ) → m < 2 ^ f.fraction → bit_or m (quiet_bit f) ≡ quiet f m
  quiet_is m l =
      let k : ℕ = f.fraction - 1 in
      let a : ℕ = m / 2 ^ k in
      let few : a < 2 = (div-lt_iff_lt-mul {k = 2 ^ k} {x = m} {y = 2} (pow_pos k)).1 (omega (arith, twice)) in
      let whole : m ≡ a * 2 ^ k + m % 2 ^ k = sym (div-add-mod' m (2 ^ k)) in
      let one : quiet_bit f ≡ 1 * 2 ^ k + 0 = omega arith in
      ap (λ (n : ℕ). bit_or n (quiet_bit f)) whole
      ∙ ap (bit_or (a * 2 ^ k + m % 2 ^ k)) one
      ∙ or_block k a 1 (m % 2 ^ k) 0 (mod-lt m (pow_pos k)) (pow_pos k)
      ∙ ap (λ (n : ℕ). n * 2 ^ k + bit_or (m % 2 ^ k) 0) (one_set a few)
      ∙ ap (λ (n : ℕ). 1 * 2 ^ k + n) (or_zero_r (m % 2 ^ k))
      ∙ omega arith

  quiet_twice : (m : ℕ) → quiet f (quiet f m) ≡ quiet f m
  quiet_twice m =
      ap (λ (n : ℕ). quiet_bit f + n) (add-mod_left (quiet_bit f) (m % quiet_bit f) ∙ mod-eq_of_lt (mod-lt m (pow_pos (f.fraction - 1))))

  quieted_at : (h m : ℕ) → m < 2 ^ f.fraction → quieted f (h * 2 ^ f.fraction + m) ≡ h * 2 ^ f.fraction + quiet f m
  unfolding quieted
  quieted_at h m l =
      ap (bit_or (h * 2 ^ f.fraction + m)) (omega arith)
      ∙ or_block f.fraction h 0 m (quiet_bit f) l (omega (arith, twice, pow_pos (f.fraction - 1)))
      ∙ ap (λ (k : ℕ). k * 2 ^ f.fraction + bit_or m (quiet_bit f)) (or_zero_r h)
      ∙ ap (λ (k : ℕ). h * 2 ^ f.fraction + k) (quiet_is m l)

  -- a NaN of the sign s and the fraction m
  abbrev pub nan_of : Bool → ℕ → ℕ
  nan_of s m = signed f s (infinity f + m)

  nan_split : (s : Bool) (m : ℕ) → nan_of s m ≡ (cond s (2 ^ f.exponent) 0 + top_field f) * 2 ^ f.fraction + m
  nan_split true m = omega (arith, pow-add 2 f.exponent f.fraction)
  nan_split false m = omega arith

  pub quieted_nan : (s : Bool) (m : ℕ) → m < 2 ^ f.fraction → quieted f (nan_of s m) ≡ nan_of s (quiet f m)
  quieted_nan s m l =
      ap (quieted f) (nan_split s m) ∙ quieted_at (cond s (2 ^ f.exponent) 0 + top_field f) m l ∙ sym (nan_split s (quiet f m))

  -- it is a NaN, with its sign and its fraction
  module _ (s : Bool) (m : ℕ) (some : 0 < m) (l : m < 2 ^ f.fraction) where
    below : infinity f + m < sign_bit f
    below = omega (arith, (room f (bias f) v refl).top)

    pub nan_sign : negative f (nan_of s m) ≡ s
    nan_sign = negative-signed f (infinity f + m) below s

    pub nan_rest : unsigned f (nan_of s m) ≡ infinity f + m
    nan_rest = unsigned_signed f (infinity f + m) below s

    pub nan_above : infinity f < unsigned f (nan_of s m)
    nan_above = omega (arith, nan_rest)

    pub nan_fraction : fraction_field f (nan_of s m) ≡ m
    nan_fraction = ap (λ (n : ℕ). n % 2 ^ f.fraction) nan_rest ∙ mul-add-mod_self_right (top_field f) (2 ^ f.fraction) m ∙ mod-eq_of_lt l

  -- every NaN is so
  pub nan_parts : (x : ℕ) → x < 2 * sign_bit f → infinity f < unsigned f x → x ≡ nan_of (negative f x) (fraction_field f x)
  nan_parts x p l =
      let a : ℕ = unsigned f x in
      let t : infinity f + 2 ^ f.fraction ≡ sign_bit f = (room f (bias f) v refl).top in
      let b : a < sign_bit f = mod-lt x (pow_pos (f.exponent + f.fraction)) in
      let m : ℕ = a - infinity f in
      let e : a ≡ top_field f * 2 ^ f.fraction + m = omega arith in
      let r : a % 2 ^ f.fraction ≡ m = ap (λ (n : ℕ). n % 2 ^ f.fraction) e ∙ mul-add-mod_self_right (top_field f) (2 ^ f.fraction) m ∙ mod-eq_of_lt (omega arith) in
      signed_parts f x p ∙ ap (signed f (negative f x)) (omega (arith, r))

  pub fraction_some : (x : ℕ) → infinity f < unsigned f x → 0 < fraction_field f x
  fraction_some x l =
      let t : infinity f + 2 ^ f.fraction ≡ sign_bit f = (room f (bias f) v refl).top in
      let b : unsigned f x < sign_bit f = mod-lt x (pow_pos (f.exponent + f.fraction)) in
      let e : unsigned f x ≡ top_field f * 2 ^ f.fraction + (unsigned f x - infinity f) = omega arith in
      let r : fraction_field f x ≡ unsigned f x - infinity f = ap (λ (n : ℕ). n % 2 ^ f.fraction) e ∙ mul-add-mod_self_right (top_field f) (2 ^ f.fraction) (unsigned f x - infinity f) ∙ mod-eq_of_lt (omega arith) in
      omega arith

-- ---- taken to another format

-- the top of a fraction of f, in g's place
abbrev pub moved : Format → Format → ℕ → ℕ
moved f g m = m * 2 ^ g.fraction / 2 ^ f.fraction

module _ (f g : Format) (v : Valid f) (w : Valid g) where
  moved_lt : (m : ℕ) → m < 2 ^ f.fraction → moved f g m < 2 ^ g.fraction
  moved_lt m l =
      (div-lt_iff_lt-mul {k = 2 ^ f.fraction} {x = m * 2 ^ g.fraction} {y = 2 ^ g.fraction} (pow_pos f.fraction)).1
      (omega (arith, mul-lt-mul_of_pos_right l (pow_pos g.fraction), mul_comm (2 ^ f.fraction) (2 ^ g.fraction)))

  -- sign, top of the payload, quieted
  pub converted_nan_is : (x : ℕ) → infinity f < unsigned f x → converted f g x ≡ nan_of g w (negative f x) (quiet g (moved f g (fraction_field f x)))
  converted_nan_is x l =
      converted_nan_lem f g x l
      ∙ quieted_nan g w (negative f x) (moved f g (fraction_field f x)) (moved_lt (fraction_field f x) (mod-lt (unsigned f x) (pow_pos f.fraction)))

  module _ (x : ℕ) (l : infinity f < unsigned f x) where
    pub nan_stays : infinity g < unsigned g (converted f g x)
    nan_stays = rw (converted_nan_is x l) (nan_above g w (negative f x) (quiet g (moved f g (fraction_field f x))) (omega (arith, pow_pos (g.fraction - 1))) (quiet_lt g w (moved f g (fraction_field f x))))

    pub nan_keeps_sign : negative g (converted f g x) ≡ negative f x
    nan_keeps_sign = rw (converted_nan_is x l) (nan_sign g w (negative f x) (quiet g (moved f g (fraction_field f x))) (omega (arith, pow_pos (g.fraction - 1))) (quiet_lt g w (moved f g (fraction_field f x))))

    pub nan_payload : fraction_field g (converted f g x) ≡ quiet g (moved f g (fraction_field f x))
    nan_payload = rw (converted_nan_is x l) (nan_fraction g w (negative f x) (quiet g (moved f g (fraction_field f x))) (omega (arith, pow_pos (g.fraction - 1))) (quiet_lt g w (moved f g (fraction_field f x))))

-- ---- through a format with k digits more, and back

module _ (f g : Format) (k : ℕ) (v : Valid f) (w : Valid g) (e : g.fraction ≡ f.fraction + k) where
  split : 2 ^ g.fraction ≡ 2 ^ f.fraction * 2 ^ k
  split = ap (λ (n : ℕ). 2 ^ n) e ∙ pow-add 2 f.fraction k

  quiet_split : quiet_bit g ≡ quiet_bit f * 2 ^ k
  quiet_split = ap (λ (n : ℕ). 2 ^ n) (omega (arith, v.some_fraction)) ∙ pow-add 2 (f.fraction - 1) k

  moved_up : (m : ℕ) → moved f g m ≡ m * 2 ^ k
  moved_up m =
      ap (λ (n : ℕ). m * n / 2 ^ f.fraction) (split ∙ mul_comm (2 ^ f.fraction) (2 ^ k))
      ∙ ap (λ (n : ℕ). n / 2 ^ f.fraction) (sym (mul_assoc m (2 ^ k) (2 ^ f.fraction)))
      ∙ mul-div_cancel (m * 2 ^ k) (pow_pos f.fraction)

  moved_down : (m : ℕ) → moved g f (m * 2 ^ k) ≡ m
  moved_down m =
      ap (λ (n : ℕ). m * 2 ^ k * 2 ^ f.fraction / n) split
      ∙ ap (λ (n : ℕ). n / (2 ^ f.fraction * 2 ^ k)) (mul_assoc m (2 ^ k) (2 ^ f.fraction) ∙ ap (λ (n : ℕ). m * n) (mul_comm (2 ^ k) (2 ^ f.fraction)))
      ∙ mul-div_cancel m (omega (arith, sym split, pow_pos g.fraction))

  quiet_up : (m : ℕ) → quiet g (m * 2 ^ k) ≡ quiet f m * 2 ^ k
  quiet_up m =
      ap (λ (n : ℕ). n + (m * 2 ^ k) % n) quiet_split
      ∙ ap (λ (n : ℕ). quiet_bit f * 2 ^ k + n) (mod_scale m (quiet_bit f) (2 ^ k) (pow_pos (f.fraction - 1)) (pow_pos k))
      ∙ omega arith

  module _ (x : ℕ) (l : infinity f < unsigned f x) where
    -- the payload is kept, quieted, and further bits are zero
    pub nan_widened : fraction_field g (converted f g x) ≡ quiet f (fraction_field f x) * 2 ^ k
    nan_widened = nan_payload f g v w x l ∙ ap (quiet g) (moved_up (fraction_field f x)) ∙ quiet_up (fraction_field f x)

    -- it is quiet there
    pub nan_quiet : quieted g (converted f g x) ≡ converted f g x
    nan_quiet =
        let q : ℕ = moved f g (fraction_field f x) in
        rw (converted_nan_is f g v w x l) (quieted_nan g w (negative f x) (quiet g q) (quiet_lt g w q) ∙ ap (nan_of g w (negative f x)) (quiet_twice g w q))

    -- and back it is quieted
    pub nan_returns : x < 2 * sign_bit f → converted g f (converted f g x) ≡ quieted f x
    nan_returns p =
        converted_nan_is g f w v (converted f g x) (nan_stays f g v w x l)
        ∙ ap (λ (s : Bool). nan_of f v s (quiet f (moved g f (fraction_field g (converted f g x))))) (nan_keeps_sign f g v w x l)
        ∙ ap (λ (n : ℕ). nan_of f v (negative f x) (quiet f (moved g f n))) nan_widened
        ∙ ap (λ (n : ℕ). nan_of f v (negative f x) (quiet f n)) (moved_down (quiet f (fraction_field f x)))
        ∙ ap (nan_of f v (negative f x)) (quiet_twice f v (fraction_field f x))
        ∙ sym (ap (quieted f) (nan_parts f v x p l) ∙ quieted_nan f v (negative f x) (fraction_field f x) (mod-lt (unsigned f x) (pow_pos f.fraction)))

    -- whatever rounding was done there
    pub nan_rounds_through : x < 2 * sign_bit f → (d : Direction) → converted g f (integral g d (converted f g x)) ≡ integral f d x
    nan_rounds_through p d =
        ap (converted g f) (integral_nan g d (converted f g x) (nan_stays f g v w x l) ∙ nan_quiet) ∙ nan_returns p ∙ sym (integral_nan f d x l)
