-- Each direction in the code's own steps: x a finite pattern with the exponent field e, u the unit, one the pattern of one. From one on
-- the code adds a number and cuts (`Carry`); below one it takes one or zero, with x's sign. Assumes nothing.
use mathlib.Core.Path.{◌≡◌, refl, sym, ap, ◌∙◌}
use mathlib.Core.Bool.{Bool, true, false, ◌&&◌, cond}
use mathlib.Core.Logic.{⊎_elim}
use Prim.Native.Nat.{ℕ, zero, suc, ◌+◌, ◌-◌, ◌*◌, ◌/◌, ◌%◌, ◌^◌, ◌≤◌, ◌<◌}
use native.Mathlib.Nat.{mod-lt, pow-suc, div-add-mod', eq-or-lt_of_le}
use native.Mathlib.Omega.{arith}
use lib.Arith.{digits_div}
use lib.Dec.{leb, ltb, eqb}
use lib.Pow.{pow_pos, pow-add}
use borrow.Author.Tests.{lt-ltb, le-ltb, le-leb, lt-leb, ne_eqb}
use Rattle.float_format.specs.Format.{Format, sign_bit, top_field, infinity, exponent_field, negative, unsigned, signed, propagated}
use Rattle.float_format.specs.Number.{bias}
use Rattle.float_format.specs.Rounding.{goes_away, integral}
use Rattle.float_format.specs.declared.Direction.{Direction}
use Rattle.float_format.specs.declared.Direction.TheVariants.{Down, Up, TowardZero, HalfAway, HalfEven}
use Rattle.float_format.proofs.Units.{lt_or_ge}
use Rattle.float_format.proofs.Sizes.{minus, plus, zero_is, Sizes, sizes, rest_below, rest_from, field_from, from_infinity}
use Rattle.float_format.proofs.Patterns.{propagated_nan, propagated-number}
use Rattle.float_format.proofs.Integral.{integral_nan, integral_infinite, integral_lt}
use Rattle.float_format.specs.Width.{InWord, Finite}
use Rattle.rounding.specs.Shape.{fraction_shift}
use Rattle.rounding.proofs.Shifts.{shift_is, unit_le, unit_from_one}
use Rattle.rounding.proofs.Carry.{cut_is, small_is, add_down, add_up, add_toward_zero, add_half_away, add_half_even}

-- an answer is a pattern of the format
pub answered : (f : Format) (d : Direction) (x r : ℕ) → InWord f → x < 2 * sign_bit f → r ≡ integral f d x
    → (r ≡ integral f d x) × (r < 2 * sign_bit f)
answered f d x r w p e = (e, rw e (integral_lt f d x w.valid p))

-- what is not finite is answered alike in every direction
pub not_finite_is : (f : Format) (d : Direction) (x r : ℕ) → exponent_field f x ≡ top_field f → r ≡ propagated f x → r ≡ integral f d x
not_finite_is f d x r h e =
    ⊎_elim
    (λ i. e ∙ propagated-number f x (omega arith) ∙ sym (integral_infinite f d x (sym i)))
    (λ l. e ∙ propagated_nan f x l ∙ sym (integral_nan f d x l))
    (eq-or-lt_of_le (from_infinity f x h))

-- ---- from one on

-- the number to add leaves the sum in a word, and the cut is right
pub record Sum (f : Format) (d : Direction) (x e u add : ℕ) : Type 0 where
  pub fits : x + add < 2 ^ 64
  pub is : bias f ≤ e → (x + add) - (x + add) % u ≡ integral f d x

module _ (f : Format) (x e u : ℕ) (w : Finite f x e) (eu : u ≡ 2 ^ fraction_shift f e) where
  pub unit_pos : 0 < u
  unit_pos = omega (arith, pow_pos (fraction_shift f e))

  unit_word : u ≤ 2 ^ 63
  unit_word = omega (arith, unit_le f e)

  unit_one : bias f ≤ e → u ≤ 2 ^ f.fraction
  unit_one h = go (sizes f w.word)
    where
      go : Sizes f → u ≤ 2 ^ f.fraction
      go z = omega (arith, unit_from_one f e (omega (arith, z.fraction_lt)) h)

  below-infinity : unsigned f x < infinity f
  below-infinity = rest_below f x e (top_field f) w.field w.finite

  -- a number up to the fraction's weight does not carry out of the pattern, let alone the word
  pub stays_pattern : (add : ℕ) → add ≤ 2 ^ f.fraction → x + add < 2 * sign_bit f
  stays_pattern add h = go (sizes f w.word)
    where
      go : Sizes f → x + add < 2 * sign_bit f
      go z =
          ⊎_elim (λ l. omega (arith, (plus f x w.pattern l).1, below-infinity, z.room.top)) (λ g. omega (arith, (minus f x w.pattern g).1, below-infinity, z.room.top)) (lt_or_ge x (sign_bit f))

  room_for : (add : ℕ) → add ≤ 2 ^ f.fraction → x + add < 2 ^ 64
  room_for add h = omega (arith, stays_pattern add h, (sizes f w.word).sign_le)

  rest : unsigned f x % u < u
  rest = mod-lt (unsigned f x) unit_pos

  -- with a known sign
  sum_at_lem : (d : Direction) (add : ℕ) (s : Bool) → (bias f ≤ e → negative f x ≡ s) → add < u
      → goes_away d s (unsigned f x / u) (unsigned f x % u) u ≡ leb u (unsigned f x % u + add)
      → bias f ≤ e → (x + add) - (x + add) % u ≡ integral f d x
  sum_at_lem d add s n l goes h =
      cut_is f d x e u w eu add h l (ap (λ (t : Bool). goes_away d t (unsigned f x / u) (unsigned f x % u) u) (n h) ∙ goes)

  module _ (add least : ℕ) (el : least ≡ sign_bit f + bias f * 2 ^ f.fraction) where
    pub floor_away : least ≤ x → add ≡ u - 1 → Sum f Down x e u add
    floor_away h ea =
        let m : (negative f x ≡ true) × (x ≡ sign_bit f + unsigned f x) = minus f x w.pattern (omega arith) in
        let b : bias f ≤ e = field_from f x e (bias f) w.field (omega (arith, m.1)) in
        record {
          fits = room_for add (omega (arith, unit_one b));
          is = sum_at_lem Down add true (λ k. m.0) (omega (arith, unit_pos)) (add_down (unsigned f x / u) (unsigned f x % u) u rest true ∙ ap (λ (n : ℕ). leb u (unsigned f x % u + n)) (sym ea));
        }

    pub floor_stays : x < least → add ≡ 0 → Sum f Down x e u add
    floor_stays h ea =
        record {
          fits = omega (arith, w.pattern, (sizes f w.word).sign_le);
          is = sum_at_lem Down add false sign (omega (arith, unit_pos)) (add_down (unsigned f x / u) (unsigned f x % u) u rest false ∙ ap (λ (n : ℕ). leb u (unsigned f x % u + n)) (sym ea));
        }
      where
        sign : bias f ≤ e → negative f x ≡ false
        sign b = ⊎_elim (λ l. (plus f x w.pattern l).0) (λ g. never (minus f x w.pattern g)) (lt_or_ge x (sign_bit f))
          where
            never : (negative f x ≡ true) × (x ≡ sign_bit f + unsigned f x) → negative f x ≡ false
            never m = absurd (none m)
              where
                none : (negative f x ≡ true) × (x ≡ sign_bit f + unsigned f x) → ⊥
                none m = omega (arith, rest_from f x e (bias f) w.field b, m.1)

  module _ (add : ℕ) where
    pub ceil_away : x < sign_bit f → add ≡ u - 1 → Sum f Up x e u add
    ceil_away h ea =
        record {
          fits = omega (arith, unit_word, unit_pos, (sizes f w.word).sign_le);
          is = sum_at_lem Up add false (λ k. (plus f x w.pattern h).0) (omega (arith, unit_pos)) (add_up (unsigned f x / u) (unsigned f x % u) u rest false ∙ ap (λ (n : ℕ). leb u (unsigned f x % u + n)) (sym ea));
        }

    pub ceil_stays : sign_bit f ≤ x → add ≡ 0 → Sum f Up x e u add
    ceil_stays h ea =
        record {
          fits = omega (arith, w.pattern, (sizes f w.word).sign_le);
          is = sum_at_lem Up add true (λ k. (minus f x w.pattern h).0) (omega (arith, unit_pos)) (add_up (unsigned f x / u) (unsigned f x % u) u rest true ∙ ap (λ (n : ℕ). leb u (unsigned f x % u + n)) (sym ea));
        }

  pub trunc_sum : bias f ≤ e → x - x % u ≡ integral f TowardZero x
  trunc_sum h =
      ap (λ (y : ℕ). y - y % u) (omega arith)
      ∙ sum_at_lem TowardZero 0 (negative f x) (λ k. refl) unit_pos (add_toward_zero (unsigned f x / u) (unsigned f x % u) u rest (negative f x)) h

  -- a power of two is 1 or even
  unit_half : (u ≡ 1 → u / 2 ≡ 0) × (1 < u → u ≡ u / 2 * 2)
  unit_half = (λ o. omega arith, λ m. even (fraction_shift f e) eu m)
    where
      even : (k : ℕ) → u ≡ 2 ^ k → 1 < u → u ≡ u / 2 * 2
      even zero e m = omega arith
      even (suc k) e m = omega (arith, pow-suc 2 k)

  -- below one the unit may be as large as a word, but then the pattern is small
  half_room : (add : ℕ) → add * 2 ≤ u → x + add < 2 ^ 64
  half_room add h = ⊎_elim (λ l. low l (sizes f w.word)) (λ g. room_for add (omega (arith, unit_one g))) (lt_or_ge e (bias f))
    where
      low : e < bias f → Sizes f → x + add < 2 ^ 64
      low l z =
          let r : unsigned f x < bias f * 2 ^ f.fraction = rest_below f x e (bias f) w.field l in
          ⊎_elim (λ k. omega (arith, unit_word, (plus f x w.pattern k).1, z.one_half, z.sign_le)) (λ k. omega (arith, unit_word, (minus f x w.pattern k).1, z.one_half, z.sign_le, pow_pos f.fraction)) (lt_or_ge x (sign_bit f))

  pub round_sum : Sum f HalfAway x e u (u / 2)
  round_sum =
      record {
        fits = half_room (u / 2) (omega arith);
        is = sum_at_lem HalfAway (u / 2) (negative f x) (λ k. refl) (omega (arith, unit_pos)) (add_half_away (unsigned f x / u) (unsigned f x % u) u rest (negative f x) (u / 2) unit_half.0 unit_half.1);
      }

  -- the whole part's last digit, read off the pattern with its sign
  odd_at : bias f ≤ e → x / u % 2 ≡ unsigned f x / u % 2
  odd_at h = go (sizes f w.word)
    where
      go : Sizes f → x / u % 2 ≡ unsigned f x / u % 2
      go z = ⊎_elim (λ l. ap (λ (n : ℕ). n / u % 2) (plus f x w.pattern l).1) (λ g. below (minus f x w.pattern g).1) (lt_or_ge x (sign_bit f))
        where
          small_k : fraction_shift f e ≤ f.fraction
          small_k = omega (arith, shift_is f e (omega (arith, z.fraction_lt)) h)

          some_e : 1 ≤ f.exponent
          some_e = omega (arith, w.word.valid.some_exponent)

          below : x ≡ sign_bit f + unsigned f x → x / u % 2 ≡ unsigned f x / u % 2
          below ex =
              let s : sign_bit f ≡ 2 ^ suc (f.exponent + f.fraction - fraction_shift f e - 1) * u =
              ap (λ (m : ℕ). 2 ^ m) (omega (arith, small_k, some_e)) ∙ pow-add 2 (suc (f.exponent + f.fraction - fraction_shift f e - 1)) (fraction_shift f e)
              ∙ ap (λ (m : ℕ). 2 ^ suc (f.exponent + f.fraction - fraction_shift f e - 1) * m) (sym eu) in
              let d : x ≡ (2 ^ suc (f.exponent + f.fraction - fraction_shift f e - 1) + unsigned f x / u) * u + unsigned f x % u = omega (arith, div-add-mod' (unsigned f x) u) in
              let q : x / u ≡ 2 ^ suc (f.exponent + f.fraction - fraction_shift f e - 1) + unsigned f x / u = ap (λ (m : ℕ). m / u) d ∙ digits_div (2 ^ suc (f.exponent + f.fraction - fraction_shift f e - 1) + unsigned f x / u) rest in
              omega (arith, pow-suc 2 (f.exponent + f.fraction - fraction_shift f e - 1))

  pub nearbyint_sum : (add : ℕ) → add ≡ (u - 1 + x / u % 2) / 2 → Sum f HalfEven x e u add
  nearbyint_sum add ea =
      record {
        fits = half_room add (omega (arith, unit_pos));
        is = λ h. ⊎_elim (λ m. many h m) (λ o. single h (omega (arith, unit_pos))) (lt_or_ge 1 u);
      }
    where
      single : bias f ≤ e → u ≡ 1 → (x + add) - (x + add) % u ≡ integral f HalfEven x
      single h o =
          let z : add ≡ 0 = omega arith in
          let r : unsigned f x % u ≡ 0 = omega (arith, rest) in
          let stays : goes_away HalfEven (negative f x) (unsigned f x / u) (unsigned f x % u) u ≡ leb u (unsigned f x % u + add) =
          simp (le-ltb u (unsigned f x % u * 2) (omega arith), ne_eqb u (unsigned f x % u * 2) (omega arith), lt-leb u (unsigned f x % u + add) (omega arith)) in
          sum_at_lem HalfEven add (negative f x) (λ k. refl) (omega arith) stays h

      many : bias f ≤ e → 1 < u → (x + add) - (x + add) % u ≡ integral f HalfEven x
      many h m =
          let v : u ≡ u / 2 * 2 = unit_half.1 m in
          let o : x / u % 2 ≡ unsigned f x / u % 2 = odd_at h in
          let a : add ≡ u / 2 - 1 + unsigned f x / u % 2 = omega arith in
          sum_at_lem HalfEven add (negative f x) (λ k. refl) (omega arith)
          (add_half_even (unsigned f x / u) (unsigned f x % u) u rest (negative f x) (u / 2) v ∙ ap (λ (n : ℕ). leb u (unsigned f x % u + n)) (sym a)) h

-- ---- below one

module _ (f : Format) (x e one : ℕ) (w : Finite f x e) (eo : one ≡ bias f * 2 ^ f.fraction) where
  -- one or zero, with x's sign s
  small_at : (d : Direction) (s t : Bool) → negative f x ≡ s → goes_away d s 0 (unsigned f x) ((bias f - 1) * 2 ^ f.fraction * 2) ≡ t → e < bias f
      → signed f s (cond t one 0) ≡ integral f d x
  small_at d s t n g h =
      ap (λ (m : ℕ). signed f s (cond t m 0)) eo ∙ ap (λ (b : Bool). signed f b (cond t (bias f * 2 ^ f.fraction) 0)) (sym n)
      ∙ small_is f d x e w t h (ap (λ (b : Bool). goes_away d b 0 (unsigned f x) ((bias f - 1) * 2 ^ f.fraction * 2)) n ∙ g)

  pub floor_minus_one : sign_bit f < x → e < bias f → sign_bit f + one ≡ integral f Down x
  floor_minus_one h =
      let m : (negative f x ≡ true) × (x ≡ sign_bit f + unsigned f x) = minus f x w.pattern (omega arith) in
      small_at Down true true m.0 (lt-ltb 0 (unsigned f x) (omega (arith, m.1)))

  -- where nothing goes away, the zero of x's sign
  zero_at : (d : Direction) → goes_away d (negative f x) 0 (unsigned f x) ((bias f - 1) * 2 ^ f.fraction * 2) ≡ false → e < bias f
      → x - x % sign_bit f ≡ integral f d x
  zero_at d g h = zero_is f x w.pattern ∙ small_at d (negative f x) false refl g h

  -- and where it does, one more than that
  one_at : (d : Direction) → goes_away d (negative f x) 0 (unsigned f x) ((bias f - 1) * 2 ^ f.fraction * 2) ≡ true → e < bias f
      → x - x % sign_bit f + one ≡ integral f d x
  one_at d g h = ap (λ (n : ℕ). n + one) (zero_is f x w.pattern) ∙ plus_zero_lem (negative f x) ∙ small_at d (negative f x) true refl g h
    where
      plus_zero_lem : (s : Bool) → signed f s 0 + one ≡ signed f s one
      plus_zero_lem true = omega arith
      plus_zero_lem false = omega arith

  pub floor_zero : x ≤ sign_bit f → e < bias f → x - x % sign_bit f ≡ integral f Down x
  floor_zero h = zero_at Down (⊎_elim (λ l. positive (plus f x w.pattern l)) (λ g. zero (minus f x w.pattern g)) (lt_or_ge x (sign_bit f)))
    where
      positive : (negative f x ≡ false) × (x ≡ unsigned f x) → (negative f x && ltb 0 (unsigned f x)) ≡ false
      positive m = ap (λ (b : Bool). b && ltb 0 (unsigned f x)) m.0

      zero : (negative f x ≡ true) × (x ≡ sign_bit f + unsigned f x) → (negative f x && ltb 0 (unsigned f x)) ≡ false
      zero m = ap (λ (b : Bool). b && ltb 0 (unsigned f x)) m.0 ∙ le-ltb 0 (unsigned f x) (omega (arith, m.1))

  pub ceil_negative : sign_bit f ≤ x → e < bias f → sign_bit f ≡ integral f Up x
  ceil_negative h k = omega arith ∙ small_at Up true false (minus f x w.pattern h).0 refl k

  pub ceil_zero : x ≡ 0 → e < bias f → 0 ≡ integral f Up x
  ceil_zero z k =
      let p : (negative f x ≡ false) × (x ≡ unsigned f x) = plus f x w.pattern (omega (arith, pow_pos (f.exponent + f.fraction))) in
      omega arith ∙ small_at Up false false p.0 (le-ltb 0 (unsigned f x) (omega (arith, p.1))) k

  pub ceil_one : x < sign_bit f → (x ≡ 0 → ⊥) → e < bias f → one ≡ integral f Up x
  ceil_one h n k =
      let p : (negative f x ≡ false) × (x ≡ unsigned f x) = plus f x w.pattern h in
      omega arith ∙ small_at Up false true p.0 (lt-ltb 0 (unsigned f x) (omega (arith, p.1))) k

  pub trunc_zero : e < bias f → x - x % sign_bit f ≡ integral f TowardZero x
  trunc_zero = zero_at TowardZero refl

  -- from one half on is one exponent field
  pub round_one : e + 1 ≡ bias f → e < bias f → x - x % sign_bit f + one ≡ integral f HalfAway x
  round_one h = one_at HalfAway (le-leb ((bias f - 1) * 2 ^ f.fraction * 2) (unsigned f x * 2) (omega (arith, rest_from f x e (bias f - 1) w.field (omega arith))))

  pub round_zero : (e + 1 ≡ bias f → ⊥) → e < bias f → x - x % sign_bit f ≡ integral f HalfAway x
  round_zero n h = zero_at HalfAway (lt-leb ((bias f - 1) * 2 ^ f.fraction * 2) (unsigned f x * 2) (omega (arith, rest_below f x e (bias f - 1) w.field (omega arith)))) h

  module _ (h : ℕ) (eh : h ≡ one - 2 ^ f.fraction) where
    half_is : h ≡ (bias f - 1) * 2 ^ f.fraction
    half_is = omega (arith, (sizes f w.word).room.half_one)

    pub nearbyint_one : h < x % sign_bit f → e < bias f → x - x % sign_bit f + one ≡ integral f HalfEven x
    nearbyint_one l = one_at HalfEven (simp (lt-ltb ((bias f - 1) * 2 ^ f.fraction * 2) (unsigned f x * 2) (omega (arith, half_is))))

    pub nearbyint_zero : x % sign_bit f ≤ h → e < bias f → x - x % sign_bit f ≡ integral f HalfEven x
    nearbyint_zero g =
        zero_at HalfEven (simp (le-ltb ((bias f - 1) * 2 ^ f.fraction * 2) (unsigned f x * 2) (omega (arith, half_is))) (both (eqb ((bias f - 1) * 2 ^ f.fraction * 2) (unsigned f x * 2))))
      where
        both : (t : Bool) → (t && false) ≡ false
        both true = refl
        both false = refl
