-- What a user would state of remainder and remquo, with no rounding in it: for finite x and y, y not zero, x is a whole number n of ys and the answer,
-- which is at most half of y in magnitude, with n even where it is half, and nothing else is; it is not above x in magnitude; it is odd in x and even
-- in y; fmod differs from it by y at most; remquo's quotient is n modulo 8; of whole numbers it is whole. Then infinite y, NaNs and refusal 2. Units are
-- those of `float_format`: a finite number is its sign and its units, exactly. Over every format. Assumes nothing.
use mathlib.Core.Path.{◌≡◌, refl, sym, ap, ap₂, ◌∙◌}
use mathlib.Core.Bool.{Bool, true, false, not, cond}
use mathlib.Core.Logic.{◌⊎◌, ⊎_elim}
use Prim.Native.Nat.{ℕ, ◌+◌, ◌*◌, ◌/◌, ◌%◌, ◌≤◌, ◌<◌}
use native.Mathlib.Nat.{div-add-mod', mul_assoc, mul-add-mod_self_right, mul-mod_left, mul-le-mul_right, le_antisymm}
use native.Mathlib.Omega.{arith}
use lib.Dec.{ltb}
use lib.IntN.{pos}
use lib.Ieee.{unlike}
use borrow.Author.Tests.{lt-ltb, le-ltb, ltb-true, le-leb, lt-leb}
use Rattle.float_format.specs.Format.{Format, Valid, sign_bit, infinity, default_nan, negative, unsigned, signed, negated, is_nan, is_infinite, is_zero, quieted}
use Rattle.float_format.specs.Number.{magnitude, encode, one, above, under, units_of, distance, is_integral}
use Rattle.float_format.specs.Rounding.{with_sign}
use Rattle.float_format.proofs.Bounds.{step}
use Rattle.float_format.proofs.Units.{lt_or_ge, three_way, magnitude_mono, magnitude_cancel}
use Rattle.float_format.proofs.Patterns.{negative-signed, unsigned_signed, signed_lt, signed_parts}
use Rattle.float_format.proofs.Order.{magnitude_zero, infinity-below_sign, above_at, under_at, negative-negated, unsigned-negated, negated_is}
use Rattle.float_format.proofs.Integers.{integer_units}
use Rattle.remainder.specs.Remainder.{fmod, fmod_refusal}
use Rattle.remainder.specs.Shape.{is_special}
use Rattle.remainder.proofs.Cases.{different, either}
use Rattle.remainder.proofs.Laws.{Operands, fmod_sign, fmod-below, fmod_exact, fmod-infinity, fmod_refuses, fmod_refused, fmod_lt}
use Rattle.nearest_remainder.specs.Nearest.{nearest_quotient, less_nearest, remainder, remquo_quotient}
use Rattle.nearest_remainder.proofs.Cases.{undivided, as_fmod, no_quotient, special_undivided, special_operands, divided, quotient}
use Rattle.nearest_remainder.proofs.Exact.{left_exact, left_half, left_even, left_at_most}
use Rattle.nearest_remainder.proofs.Only.{only}

-- x - r is p - q times y, above - under being a number by its sign; r is at most half of y, and p - q is even where it is half; a zero has x's sign
pub record Nearest (f : Format) (x y r p q : ℕ) : Type 0 where
  pub exact : above f x + under f r + p * under f y + q * above f y ≡ above f r + under f x + p * above f y + q * under f y
  pub half : units_of f r * 2 ≤ units_of f y
  pub even : units_of f r * 2 ≡ units_of f y → (p + q) % 2 ≡ 0
  pub zero : units_of f r ≡ 0 → negative f r ≡ negative f x

-- ---- numbers by their signs: s is x's, t is y's; u says that r has the other sign than x's

abbrev turned : Bool → Bool → Bool
turned u s = cond u (not s) s

-- X units and R of the same sign, or of two signs, make C
abbrev Makes : Bool → ℕ → ℕ → ℕ → Type 0
Makes u X R C = cond u (X + R) X ≡ cond u C (C + R)

-- p and q as the signs of x and y have them
abbrev first : Bool → Bool → ℕ → ℕ → ℕ
first s t p q = cond (unlike s t) q p

by_signs : (X R Y P Q : ℕ) (s t u : Bool) → Makes u (X + Q * Y) R (P * Y)
    → cond s 0 X + cond (turned u s) R 0 + first s t P Q * cond t Y 0 + first s t Q P * cond t 0 Y
    ≡ cond (turned u s) 0 R + cond s X 0 + first s t P Q * cond t 0 Y + first s t Q P * cond t Y 0
by_signs X R Y P Q true true true e = omega arith
by_signs X R Y P Q true true false e = omega arith
by_signs X R Y P Q true false true e = omega arith
by_signs X R Y P Q true false false e = omega arith
by_signs X R Y P Q false true true e = omega arith
by_signs X R Y P Q false true false e = omega arith
by_signs X R Y P Q false false true e = omega arith
by_signs X R Y P Q false false false e = omega arith

from_signs : (X R Y p q : ℕ) (s t u : Bool)
    → cond s 0 X + cond (turned u s) R 0 + p * cond t Y 0 + q * cond t 0 Y
    ≡ cond (turned u s) 0 R + cond s X 0 + p * cond t 0 Y + q * cond t Y 0
    → Makes u (X + first s t q p * Y) R (first s t p q * Y)
from_signs X R Y p q true true true e = omega arith
from_signs X R Y p q true true false e = omega arith
from_signs X R Y p q true false true e = omega arith
from_signs X R Y p q true false false e = omega arith
from_signs X R Y p q false true true e = omega arith
from_signs X R Y p q false true false e = omega arith
from_signs X R Y p q false false true e = omega arith
from_signs X R Y p q false false false e = omega arith

both_counts : (s t : Bool) (P Q : ℕ) → first s t P Q + first s t Q P ≡ P + Q
both_counts true true P Q = refl
both_counts true false P Q = omega arith
both_counts false true P Q = omega arith
both_counts false false P Q = refl

counts_apart : (s t : Bool) (p q n : ℕ) → first s t p q ≡ n + first s t q p → distance p q ≡ n
counts_apart true true p q n e = omega arith
counts_apart true false p q n e = omega arith
counts_apart false true p q n e = omega arith
counts_apart false false p q n e = omega arith

-- which of the two a sign is
other_sign : (v s : Bool) → v ≡ turned (unlike v s) s
other_sign true true = refl
other_sign true false = refl
other_sign false true = refl
other_sign false false = refl

turned_not : (u s : Bool) → not (turned u (not s)) ≡ turned u s
turned_not true true = refl
turned_not true false = refl
turned_not false true = refl
turned_not false false = refl

apart : (u : Bool) (X R C : ℕ) → Makes u X R C → distance X C ≡ R
apart true X R C e = omega arith
apart false X R C e = omega arith

less_both : (u : Bool) (X R Y n P Q : ℕ) → P ≡ n + Q → Makes u (X + Q * Y) R (P * Y) → Makes u X R (n * Y)
less_both true X R Y n P Q c e = let t : P * Y ≡ (n + Q) * Y = ap (λ (k : ℕ). k * Y) c in omega arith
less_both false X R Y n P Q c e = let t : P * Y ≡ (n + Q) * Y = ap (λ (k : ℕ). k * Y) c in omega arith

-- ---- finite x and y, y not zero

module _ (f : Format) (x y : ℕ) (o : Operands f x y) where
  abbrev a : ℕ
  a = units_of f x

  abbrev b : ℕ
  b = units_of f y

  abbrev n : ℕ
  n = nearest_quotient a b

  abbrev s : Bool
  s = negative f x

  abbrev t : Bool
  t = negative f y

  -- the multiple of y is the larger, and the sign turns
  abbrev past : Bool
  past = ltb a (n * b)

  abbrev left : ℕ
  left = distance a (n * b)

  some_units : 0 < b
  some_units = omega (arith, magnitude_zero f.fraction, magnitude_mono f.fraction o.nonzero)

  made : Makes past a left (n * b)
  made = ⊎_elim (λ l. rw (lt-ltb a (n * b) l) (omega arith)) (λ g. rw (le-ltb a (n * b) g) (omega arith)) (lt_or_ge a (n * b))

  rest : ℕ
  rest = encode f.fraction left

  rest_units : magnitude f.fraction rest ≡ left
  unfolding rest
  rest_units = left_exact f.fraction (unsigned f x) (unsigned f y) o.nonzero

  rest_lt : rest < infinity f
  rest_lt =
      let l : rest ≤ unsigned f x = magnitude_cancel f.fraction (omega (arith, rest_units, left_at_most f.fraction (unsigned f x) (unsigned f y) o.nonzero)) in
      omega (arith, o.finite_x)

  rest_fits : rest < sign_bit f
  rest_fits = omega (arith, rest_lt, infinity-below_sign f)

  is : remainder f x y ≡ signed f (turned past s) rest
  unfolding rest
  is = divided f x y o

  units : units_of f (remainder f x y) ≡ left
  units = ap (units_of f) is ∙ ap (magnitude f.fraction) (unsigned_signed f rest rest_fits (turned past s)) ∙ rest_units

  sign : negative f (remainder f x y) ≡ turned past s
  sign = ap (negative f) is ∙ negative-signed f rest rest_fits (turned past s)

  -- the answer is finite
  pub remainder_finite : unsigned f (remainder f x y) < infinity f
  remainder_finite = omega (arith, rest_lt, ap (unsigned f) is ∙ unsigned_signed f rest rest_fits (turned past s))

  -- its magnitude is at most half of y's
  pub remainder_half : units_of f (remainder f x y) * 2 ≤ units_of f y
  remainder_half = omega (arith, units, left_half f.fraction (unsigned f x) (unsigned f y) o.nonzero)

  -- and not above x's
  pub remainder_at_most : units_of f (remainder f x y) ≤ units_of f x
  remainder_at_most = omega (arith, units, left_at_most f.fraction (unsigned f x) (unsigned f y) o.nonzero)

  -- x is the nearest whole number of ys, halves to even, and the answer
  pub remainder-nearest : (p : ℕ) × (q : ℕ) × Nearest f x y (remainder f x y) p q
  remainder-nearest = (first s t n 0, first s t 0 n, record { exact = exactly; half = remainder_half; even = evenly; zero = zero_sign })
    where
      exactly : above f x + under f (remainder f x y) + first s t n 0 * under f y + first s t 0 n * above f y
          ≡ above f (remainder f x y) + under f x + first s t n 0 * above f y + first s t 0 n * under f y
      exactly =
          rw (above_at f x s refl, under_at f x s refl, above_at f (remainder f x y) (turned past s) sign, under_at f (remainder f x y) (turned past s) sign, above_at f y t refl, under_at f y t refl, units)
          (by_signs a left b n 0 s t past (less past made))
        where
          less : (u : Bool) → Makes u a left (n * b) → Makes u (a + 0 * b) left (n * b)
          less true e = omega arith
          less false e = omega arith

      evenly : units_of f (remainder f x y) * 2 ≡ units_of f y → (first s t n 0 + first s t 0 n) % 2 ≡ 0
      evenly e = rw (both_counts s t n 0) (omega (arith, left_even f.fraction (unsigned f x) (unsigned f y) o.nonzero (omega (arith, units))))

      zero_sign : units_of f (remainder f x y) ≡ 0 → negative f (remainder f x y) ≡ negative f x
      zero_sign e = sign ∙ ap (λ (u : Bool). turned u s) (le-ltb a (n * b) (omega (arith, units)))

  -- ---- the other way: nothing else is so

  module _ (r p q : ℕ) (w : Nearest f x y r p q) where
    v : Bool
    v = negative f r

    -- whether r has the other sign than x's
    u : Bool
    u = unlike v s

    signs : negative f r ≡ turned u s
    unfolding u v
    signs = other_sign (negative f r) s

    made_both : Makes u (a + first s t q p * b) (units_of f r) (first s t p q * b)
    made_both =
        from_signs a (units_of f r) b p q s t u
        (rw (above_at f x s refl, under_at f x s refl, above_at f r (turned u s) signs, under_at f r (turned u s) signs, above_at f y t refl, under_at f y t refl) at w.exact)

    counted : first s t p q ≡ n + first s t q p
    counted =
        only a b (units_of f r) (first s t p q) (first s t q p) some_units (apart u _ _ _ made_both) w.half (λ e. rw (both_counts s t p q) (w.even e))

    made_one : Makes u a (units_of f r) (n * b)
    made_one = less_both u a (units_of f r) b n (first s t p q) (first s t q p) counted made_both

    left_same : left ≡ units_of f r
    left_same = apart u _ _ _ made_one

    -- p - q is the nearest quotient, its sign apart
    pub counts_nearest : distance p q ≡ n
    counts_nearest = counts_apart s t p q n counted

    turns : past ≡ u
    turns = pick u refl made_one
      where
        pick : (k : Bool) → u ≡ k → Makes k a (units_of f r) (n * b) → past ≡ k
        pick false e m = le-ltb a (n * b) (omega arith)
        pick true e m = ⊎_elim (λ l. lt-ltb a (n * b) l) (λ g. same g) (lt_or_ge a (n * b))
          where
            never : (k : Bool) → k ≡ turned true k → past ≡ true
            never true k = different k
            never false k = different (sym k)

            same : n * b ≤ a → past ≡ true
            same g = never s (sym (w.zero (omega arith)) ∙ signs ∙ ap (λ (k : Bool). turned k s) e)

    -- no other pattern is so
    pub remainder_only : r < 2 * sign_bit f → r ≡ remainder f x y
    remainder_only h =
        let m : magnitude f.fraction (unsigned f r) ≡ magnitude f.fraction rest = sym (rest_units ∙ left_same) in
        let e : unsigned f r ≡ rest = le_antisymm (magnitude_cancel f.fraction (omega arith)) (magnitude_cancel f.fraction (omega arith)) in
        signed_parts f r h ∙ ap₂ (signed f) (signs ∙ ap (λ (k : Bool). turned k s) (sym turns)) e ∙ sym is

    -- remquo's quotient is p - q modulo 8, by its magnitude, with the sign of x / y
    pub remquo_congruent : remquo_quotient f x y ≡ with_sign (unlike s t) (distance p q % 8)
    remquo_congruent = quotient f x y o ∙ ap (λ (k : ℕ). with_sign (unlike s t) (k % 8)) (sym counts_nearest)

-- ---- what follows

module _ (f : Format) (x y : ℕ) (o : Operands f x y) where
  -- odd in x
  pub remainder_odd : remainder f (negated f x) y ≡ negated f (remainder f x y)
  unfolding rest
  remainder_odd =
      let o' : Operands f (negated f x) y = record { finite_x = omega (arith, unsigned-negated f x, o.finite_x); finite_y = o.finite_y; nonzero = o.nonzero } in
      let e : less_nearest f (negative f (negated f x)) (units_of f (negated f x)) (units_of f y) ≡ less_nearest f (not (negative f x)) (units_of f x) (units_of f y) = rw (negative-negated f x, unsigned-negated f x) in
      let r : unsigned f (remainder f x y) ≡ rest f x y o = ap (unsigned f) (is f x y o) ∙ unsigned_signed f (rest f x y o) (rest_fits f x y o) (turned (past f x y o) (negative f x)) in
      divided f (negated f x) y o' ∙ e
      ∙ sym (negated_is f (remainder f x y) (turned (past f x y o) (not (negative f x))) (rest f x y o) (sign f x y o ∙ sym (turned_not (past f x y o) (negative f x))) r)

  -- even in y
  pub remainder_even : remainder f x (negated f y) ≡ remainder f x y
  remainder_even =
      let o' : Operands f x (negated f y) = record { finite_x = o.finite_x; finite_y = omega (arith, unsigned-negated f y, o.finite_y); nonzero = omega (arith, unsigned-negated f y, o.nonzero) } in
      let e : less_nearest f (negative f x) (units_of f x) (units_of f (negated f y)) ≡ less_nearest f (negative f x) (units_of f x) (units_of f y) = rw (unsigned-negated f y) in
      divided f x (negated f y) o' ∙ e ∙ sym (divided f x y o)

  -- x itself, where it is less than half of y, and the quotient is 0
  module _ (l : units_of f x * 2 < units_of f y) where
    itself : Nearest f x y x 0 0
    itself = record { exact = omega arith; half = omega arith; even = λ e. refl; zero = λ e. refl }

    pub remainder_smaller : x < 2 * sign_bit f → remainder f x y ≡ x
    remainder_smaller h = sym (remainder_only f x y o x 0 0 itself h)

    pub remquo_smaller : remquo_quotient f x y ≡ with_sign (unlike (negative f x) (negative f y)) 0
    remquo_smaller = remquo_congruent f x y o x 0 0 itself

  -- and a second time nothing more comes off
  pub remainder_again : remainder f (remainder f x y) y ≡ remainder f x y
  remainder_again =
      sym
      (remainder_only f (remainder f x y) y (record { finite_x = remainder_finite f x y o; finite_y = o.finite_y; nonzero = o.nonzero }) (remainder f x y) 0 0
      (record { exact = omega arith; half = remainder_half f x y o; even = λ e. refl; zero = λ e. refl })
      (rw (is f x y o) (signed_lt f (rest f x y o) (rest_fits f x y o) (turned (past f x y o) (negative f x)))))

  -- ---- beside fmod

  -- the cut quotient's rest C and the nearest one's, by the same divisor
  cut_and_nearest : (C L N n b : ℕ) (k : Bool) → 0 < b → L * 2 ≤ b → C < b → N * b + C ≡ units_of f x → Makes k (units_of f x) L (n * b)
      → (k ≡ true → 0 < L) → Makes k (C + 0 * b) L (cond k 1 0 * b)
  cut_and_nearest C L N n b false some half l e m g = three_way N n (λ h. omega (arith, step b h)) (λ h. same h) (λ h. omega (arith, step b h))
    where
      same : N ≡ n → C + 0 * b ≡ 0 * b + L
      same h = omega (arith, ap (λ (i : ℕ). i * b) h)
  cut_and_nearest C L N n b true some half l e m g =
      three_way (N + 1) n (λ h. omega (arith, step b h)) (λ h. next h) (λ h. absurd (below h))
    where
      next : N + 1 ≡ n → C + 0 * b + L ≡ 1 * b
      next h = let i : (N + 1) * b ≡ n * b = ap (λ (i : ℕ). i * b) h in omega arith

      below : n < N + 1 → ⊥
      below h = omega (arith, mul-le-mul_right {m = n} {n = N} b (omega arith), g refl)

  -- fmod less remainder is p - q times y, and that is y once or not at all
  pub remainder-fmod : (p : ℕ) × (q : ℕ) × (p + q ≤ 1) ×
      (above f (fmod f x y) + under f (remainder f x y) + p * under f y + q * above f y
      ≡ above f (remainder f x y) + under f (fmod f x y) + p * above f y + q * under f y)
  remainder-fmod =
      (first (s f x y o) (t f x y o) (cond (past f x y o) 1 0) 0, first (s f x y o) (t f x y o) 0 (cond (past f x y o) 1 0), rw (both_counts (s f x y o) (t f x y o) (cond (past f x y o) 1 0) 0) (most (past f x y o)), exactly)
    where
      most : (k : Bool) → cond k 1 0 + 0 ≤ 1
      most true = omega arith
      most false = omega arith

      turning : past f x y o ≡ true → 0 < left f x y o
      turning e = omega (arith, ltb-true (units_of f x) (n f x y o * units_of f y) e)

      makes : Makes (past f x y o) (units_of f (fmod f x y) + 0 * units_of f y) (left f x y o) (cond (past f x y o) 1 0 * units_of f y)
      makes =
          cut_and_nearest (units_of f (fmod f x y)) (left f x y o) (fmod_exact f x y o).0 (n f x y o) (units_of f y) (past f x y o) (some_units f x y o) (omega (arith, units f x y o, remainder_half f x y o)) (fmod-below f x y o) (sym (fmod_exact f x y o).1) (made f x y o) turning

      exactly : above f (fmod f x y) + under f (remainder f x y) + first (s f x y o) (t f x y o) (cond (past f x y o) 1 0) 0 * under f y + first (s f x y o) (t f x y o) 0 (cond (past f x y o) 1 0) * above f y
          ≡ above f (remainder f x y) + under f (fmod f x y) + first (s f x y o) (t f x y o) (cond (past f x y o) 1 0) 0 * above f y + first (s f x y o) (t f x y o) 0 (cond (past f x y o) 1 0) * under f y
      exactly =
          rw (above_at f (fmod f x y) (s f x y o) (fmod_sign f x y o), under_at f (fmod f x y) (s f x y o) (fmod_sign f x y o), above_at f (remainder f x y) (turned (past f x y o) (s f x y o)) (sign f x y o), under_at f (remainder f x y) (turned (past f x y o) (s f x y o)) (sign f x y o), above_at f y (t f x y o) refl, under_at f y (t f x y o) refl, units f x y o)
          (by_signs (units_of f (fmod f x y)) (left f x y o) (units_of f y) (cond (past f x y o) 1 0) 0 (s f x y o) (t f x y o) (past f x y o) makes)

-- ---- whole numbers

-- what makes a multiple of u with a multiple of u is one
over : (k : Bool) (X R Y n u : ℕ) → Makes k X R (n * Y) → X % u ≡ 0 → Y % u ≡ 0 → R % u ≡ 0
over k X R Y n u m x y =
    let e : n * Y ≡ n * (Y / u) * u = ap (λ (i : ℕ). n * i) (omega (arith, div-add-mod' Y u)) ∙ sym (mul_assoc n (Y / u) u) in
    pick k m (ap (λ (i : ℕ). i % u) e ∙ mul-mod_left (n * (Y / u)) u) e
  where
    rests : (A B : ℕ) → A % u ≡ 0 → (A + B) % u ≡ B % u
    rests A B h = ap (λ (i : ℕ). i % u) (omega (arith, div-add-mod' A u)) ∙ mul-add-mod_self_right (A / u) u B

    pick : (k : Bool) → Makes k X R (n * Y) → n * Y % u ≡ 0 → n * Y ≡ n * (Y / u) * u → R % u ≡ 0
    pick true m z e = sym (rests X R x) ∙ ap (λ (i : ℕ). i % u) m ∙ z
    pick false m z e = sym (rests (n * Y) R z) ∙ ap (λ (i : ℕ). i % u) (sym m) ∙ x

-- Of two whole numbers, the divisor not zero, the answer is whole.
pub remainder-integral : (f : Format) (x y : ℕ) → is_integral f x ≡ true → is_integral f y ≡ true → 0 < unsigned f y
    → is_integral f (remainder f x y) ≡ true
remainder-integral f x y hx hy some =
    let wx : (unsigned f x < infinity f) × (units_of f x % one f ≡ 0) = (integer_units f x).0 hx in
    let wy : (unsigned f y < infinity f) × (units_of f y % one f ≡ 0) = (integer_units f y).0 hy in
    let o : Operands f x y = record { finite_x = wx.0; finite_y = wy.0; nonzero = some } in
    (integer_units f (remainder f x y)).1
    (remainder_finite f x y o, ap (λ (i : ℕ). i % one f) (units f x y o) ∙ over (past f x y o) (units_of f x) (left f x y o) (units_of f y) (n f x y o) (one f) (made f x y o) wx.1 wy.1)

-- ---- the other operands

module _ (f : Format) (x y : ℕ) where
  -- remainder(x, infinity) is x for finite x, and the quotient is 0
  module _ (h : unsigned f x < infinity f) (e : unsigned f y ≡ infinity f) where
    infinite : undivided f x y ≡ true
    infinite = special_undivided f x y (simp (lt-leb (infinity f) (unsigned f x) h, le-leb (infinity f) (unsigned f y) (omega arith)))

    pub remainder-infinity : remainder f x y ≡ x
    remainder-infinity = as_fmod f x y infinite ∙ fmod-infinity f x y h e

    pub remquo_infinity : remquo_quotient f x y ≡ pos 0
    remquo_infinity = no_quotient f x y infinite

  -- the first NaN, quieted, and the quotient is 0
  pub remainder-first_nan : is_nan f x ≡ true → (remainder f x y ≡ quieted f x) × (remquo_quotient f x y ≡ pos 0)
  unfolding remainder remquo_quotient
  remainder-first_nan e = (simp e, simp e)

  pub remainder-second_nan : is_nan f x ≡ false → is_nan f y ≡ true → (remainder f x y ≡ quieted f y) × (remquo_quotient f x y ≡ pos 0)
  unfolding remainder remquo_quotient
  remainder-second_nan e g = (simp (e, g), simp (e, g))

  -- where refusal 2 is fmod's, the answer is the default NaN and the quotient is 0
  pub remainder_refused : fmod_refusal f x y ≡ 2 → (remainder f x y ≡ default_nan f) × (remquo_quotient f x y ≡ pos 0)
  remainder_refused e =
      let h : (is_nan f x ≡ false) × (is_nan f y ≡ false) × ((is_infinite f x ≡ true) ⊎ (is_zero f y ≡ true)) = (fmod_refuses f x y).0 e in
      let u : undivided f x y ≡ true = simp (h.0, h.1, either (is_infinite f x) (is_zero f y) h.2) in
      (as_fmod f x y u ∙ fmod_refused f x y e, no_quotient f x y u)

  -- of patterns the answer is a pattern
  pub remainder_lt : Valid f → x < 2 * sign_bit f → y < 2 * sign_bit f → remainder f x y < 2 * sign_bit f
  remainder_lt v p q = pick (is_special f x y) refl
    where
      pick : (k : Bool) → is_special f x y ≡ k → remainder f x y < 2 * sign_bit f
      pick true e = rw (as_fmod f x y (special_undivided f x y e)) (fmod_lt f x y v p q)
      pick false e =
          let o : Operands f x y = special_operands f x y e in
          rw (is f x y o) (signed_lt f (rest f x y o) (rest_fits f x y o) (turned (past f x y o) (negative f x)))
