-- Rounding to a format without an upper end, as a pattern: of all patterns the answer is nearest to n / u units, and where another is as
-- near the answer is even. From that alone follow that a number which the format holds is its own answer, and that the order is kept.
-- The one idea: the answer is a multiple of 2 ^ k units, k digits being dropped, and so is every pattern from there on; a pattern below
-- is farther off than the least of them. F is the number of fraction bits. Assumes nothing.
use mathlib.Core.Path.{◌≡◌, refl, sym, ap, ◌∙◌}
use mathlib.Core.Bool.{Bool}
use mathlib.Core.Logic.{◌⊎◌, inl, inr, ⊎_elim, ◌↔◌}
use Prim.Native.Nat.{ℕ, suc, ◌+◌, ◌-◌, ◌*◌, ◌/◌, ◌%◌, ◌^◌, ◌≤◌, ◌<◌}
use native.Mathlib.Nat.{le_antisymm, mul_assoc, mul_comm, mul-div-mul_right, mul-le-mul_right, mul-lt-mul_of_pos_right, le-div_iff_mul-le, div-lt_iff_lt-mul, lt_of_not-le, pow-suc, lt_irrefl, lt_of_lt_of_le}
use native.Mathlib.Omega.{arith}
use lib.Pow.{pow_pos, pow_mono, pow-add}
use lib.Ieee.{size}
use lib.Ieee.Digits.{size-lt, size-le, size_reaches}
use Rattle.float_format.specs.Number.{magnitude, encode, distance}
use Rattle.float_format.specs.Rounding.{parts, nearest}
use Rattle.float_format.specs.declared.Direction.{Direction}
use Rattle.float_format.specs.declared.Direction.TheVariants.{HalfEven}
use Rattle.float_format.proofs.Units.{lt_or_ge, encode_at, encode-low, magnitude_at, magnitude-low, magnitude_mono, magnitude_mono_le, magnitude_cancel, Normal, normal}
use Rattle.float_format.proofs.Parts.{parts-least, parts-most, parts_scale}
use Rattle.float_format.proofs.Bounds.{Near, Nearer, half_even_near, near_nearest, near_only}
use Rattle.float_format.proofs.Powers.{swap, product_pos, cancel_right}

-- ---- patterns

-- up to twice the weight of the fraction a pattern is its own number of units
pub encode_small : (F n : ℕ) → n ≤ 2 * 2 ^ F → encode F n ≡ n
encode_small F n h = ⊎_elim (λ l. encode-low F n l) (λ g. from g) (lt_or_ge n (2 ^ F))
  where
    from : 2 ^ F ≤ n → encode F n ≡ n
    from g = ap (encode F) (omega arith) ∙ encode_at F 0 n g h ∙ omega arith

pub magnitude_small : (F a : ℕ) → a ≤ 2 * 2 ^ F → magnitude F a ≡ a
magnitude_small F a h = ⊎_elim (λ l. magnitude-low F a l) (λ g. from g) (lt_or_ge a (2 ^ F))
  where
    from : 2 ^ F ≤ a → magnitude F a ≡ a
    from g = ap (magnitude F) (omega arith) ∙ magnitude_at F 0 a g h ∙ omega arith

pub magnitude-same : (F : ℕ) {a b : ℕ} → magnitude F a ≡ magnitude F b → a ≡ b
magnitude-same F e = le_antisymm (magnitude_cancel F (omega arith)) (magnitude_cancel F (omega arith))

-- ---- the answer does not depend on how the fraction n / u is written

pub nearest_scale : (F : ℕ) (d : Direction) (s : Bool) (n u t : ℕ) → 0 < u → 0 < t → nearest F d s (n * t) (u * t) ≡ nearest F d s n u
unfolding nearest
nearest_scale F d s n u t hu ht = ap (λ (q : ℕ). parts d s (n * t) (u * t * 2 ^ (size q - suc F)) * 2 ^ (size q - suc F)) (mul-div-mul_right {m = t} n u ht) ∙ at (size (n / u) - suc F)
  where
    at : (k : ℕ) → parts d s (n * t) (u * t * 2 ^ k) * 2 ^ k ≡ parts d s n (u * 2 ^ k) * 2 ^ k
    at k =
        ap (λ (y : ℕ). y * 2 ^ k)
        (ap (parts d s (n * t)) (swap u t (2 ^ k)) ∙ parts_scale d s n (u * 2 ^ k) t (product_pos hu (pow_pos k)) ht)

-- ---- how many digits are dropped

-- none, where the whole part has no more than are kept
pub nearest-low : (F : ℕ) (d : Direction) (s : Bool) (n u : ℕ) → n / u < 2 * 2 ^ F → nearest F d s n u ≡ parts d s n u
unfolding nearest
nearest-low F d s n u l =
    ap (λ (k : ℕ). parts d s n (u * 2 ^ k) * 2 ^ k) z ∙ times_one (parts d s n (u * 1)) ∙ ap (parts d s n) (times_one u)
  where
    z : size (n / u) - suc F ≡ 0
    z = omega (arith, size-le (n / u) (suc F) (omega arith))

    times_one : (a : ℕ) → a * 1 ≡ a
    times_one a = omega arith

-- The answer's pattern r: of U, 2 ^ k times u, the nearest multiple is p U.
record Kept (F : ℕ) (s : Bool) (n u : ℕ) : Type 0 where
  k : ℕ
  p : ℕ
  U : ℕ
  unit : U ≡ u * 2 ^ k
  some : 0 < U
  value : nearest F HalfEven s n u ≡ p * 2 ^ k
  is : encode F (nearest F HalfEven s n u) ≡ k * 2 ^ F + p
  units : magnitude F (k * 2 ^ F + p) ≡ p * 2 ^ k
  near : Near n (p * U) U
  tie : p % 2 ≡ 0 ⊎ Nearer n (p * U) U
  leads : k ≡ 0 ⊎ 2 ^ F * U ≤ n

kept : (F : ℕ) (s : Bool) (n u : ℕ) → 0 < u → Kept F s n u
unfolding nearest
kept F s n u hu = ⊎_elim low high (lt_or_ge (n / u) (2 * 2 ^ F))
  where
    low : n / u < 2 * 2 ^ F → Kept F s n u
    low l =
        let p : ℕ = parts HalfEven s n u in
        let few : p ≤ 2 * 2 ^ F = omega (arith, parts-most HalfEven s n u) in
        let w : Near n (p * u) u × (p % 2 ≡ 0 ⊎ Nearer n (p * u) u) = half_even_near s n u hu in
        record {
          k = 0;
          p = p;
          U = u;
          unit = omega arith;
          some = hu;
          value = nearest-low F HalfEven s n u l ∙ omega arith;
          is = ap (encode F) (nearest-low F HalfEven s n u l) ∙ encode_small F p few ∙ omega arith;
          units = ap (magnitude F) (omega arith) ∙ magnitude_small F p few ∙ omega arith;
          near = w.0;
          tie = w.1;
          leads = inl refl;
        }

    high : 2 * 2 ^ F ≤ n / u → Kept F s n u
    high g =
        let q : ℕ = n / u in
        let k : ℕ = size q - suc F in
        let U : ℕ = u * 2 ^ k in
        let long : suc F < size q = lt_of_not-le (λ h. omega (arith, size-lt q, pow_mono {i = size q} {j = suc F} h)) in
        let lo : 2 ^ F * 2 ^ k ≤ q = rw (sym (pow-add 2 F k)) (size_reaches q (F + k) (omega arith)) in
        let top : 2 ^ size q ≡ 2 * 2 ^ F * 2 ^ k = ap (λ (y : ℕ). 2 ^ y) (omega arith) ∙ pow-add 2 (suc F) k ∙ ap (λ (y : ℕ). y * 2 ^ k) (omega arith) in
        let hi : q < 2 * 2 ^ F * 2 ^ k = omega (arith, size-lt q) in
        let some : 0 < U = product_pos hu (pow_pos k) in
        let from : 2 ^ F * U ≤ n = omega (arith, (le-div_iff_mul-le {k = u} {x = 2 ^ F * 2 ^ k} {y = n} hu).0 lo) in
        let upto : n < 2 * 2 ^ F * U = omega (arith, (div-lt_iff_lt-mul {k = u} {x = n} {y = 2 * 2 ^ F * 2 ^ k} hu).0 hi) in
        let Q : 2 ^ F ≤ n / U = (le-div_iff_mul-le {k = U} some).1 from in
        let R : n / U < 2 * 2 ^ F = (div-lt_iff_lt-mul {k = U} some).1 upto in
        let p : ℕ = parts HalfEven s n U in
        let pl : 2 ^ F ≤ p = omega (arith, parts-least HalfEven s n U) in
        let pm : p ≤ 2 * 2 ^ F = omega (arith, parts-most HalfEven s n U) in
        let w : Near n (p * U) U × (p % 2 ≡ 0 ⊎ Nearer n (p * U) U) = half_even_near s n U some in
        record {
          k = k;
          p = p;
          U = U;
          unit = refl;
          some = some;
          value = refl;
          is = encode_at F k p pl pm;
          units = magnitude_at F k p pl pm;
          near = w.0;
          tie = w.1;
          leads = inr from;
        }

-- ---- nearest of all patterns

pub record NearestPattern (F n u r : ℕ) : Type 0 where
  pub nearest : (z : ℕ) → distance n (magnitude F r * u) ≤ distance n (magnitude F z * u)
  pub even : (z : ℕ) → distance n (magnitude F z * u) ≡ distance n (magnitude F r * u) → z ≡ r ⊎ r % 2 ≡ 0

-- a pattern against the nearest multiple p U, where U is 2 ^ k times u
module _ (F n u k p U : ℕ) (hu : 0 < u) (eU : U ≡ u * 2 ^ k) (w : Near n (p * U) U) (z : ℕ) where
  -- one that stands for a multiple of 2 ^ k units
  module _ (c : ℕ) (e : magnitude F z ≡ c * 2 ^ k) where
    multiple : magnitude F z * u ≡ c * U
    multiple = ap (λ (y : ℕ). y * u) e ∙ mul_assoc c (2 ^ k) u ∙ ap (λ (y : ℕ). c * y) (mul_comm (2 ^ k) u ∙ sym eU)

    multiple_near : distance n (p * U) ≤ distance n (magnitude F z * u)
    multiple_near = omega (arith, near_nearest n p U 0 c w, multiple)

    multiple_only : distance n (magnitude F z * u) ≡ distance n (p * U) → Nearer n (p * U) U → magnitude F z ≡ p * 2 ^ k
    multiple_only t l =
        let same : c ≡ p = omega (arith, near_only n p U 0 c w (omega (arith, multiple)) l) in
        e ∙ ap (λ (y : ℕ). y * 2 ^ k) same

  -- one below the least number whose digits are dropped
  below_near : 2 ^ F * U ≤ n → magnitude F z < 2 ^ F * 2 ^ k → distance n (p * U) < distance n (magnitude F z * u)
  below_near g l =
      let b : magnitude F z * u + u ≤ 2 ^ F * U =
      omega (arith, mul-le-mul_right u l, mul_assoc (2 ^ F) (2 ^ k) u, ap (λ (y : ℕ). 2 ^ F * y) (mul_comm (2 ^ k) u ∙ sym eU)) in
      omega (arith, near_nearest n p U 0 (2 ^ F) w)

-- which of the two a pattern is
multiple_or_below : (F k z : ℕ) → ((c : ℕ) × magnitude F z ≡ c * 2 ^ k) ⊎ magnitude F z < 2 ^ F * 2 ^ k
multiple_or_below F k z = ⊎_elim (λ l. inr (less l)) (λ g. inl (more (normal F z (omega arith)) g)) (lt_or_ge z (k * 2 ^ F + 2 ^ F))
  where
    less : z < k * 2 ^ F + 2 ^ F → magnitude F z < 2 ^ F * 2 ^ k
    less l = omega (arith, magnitude_mono F l, magnitude_at F k (2 ^ F) (omega arith) (omega arith))

    more : Normal F z → k * 2 ^ F + 2 ^ F ≤ z → (c : ℕ) × magnitude F z ≡ c * 2 ^ k
    more o g =
        let h : k ≤ o.j = ⊎_elim (λ l. absurd (never l)) (λ y. y) (lt_or_ge o.j k) in
        let e : 2 ^ o.j ≡ 2 ^ (o.j - k) * 2 ^ k = ap (λ (y : ℕ). 2 ^ y) (omega arith) ∙ pow-add 2 (o.j - k) k in
        (o.M * 2 ^ (o.j - k), o.units ∙ ap (λ (y : ℕ). o.M * y) e ∙ sym (mul_assoc o.M (2 ^ (o.j - k)) (2 ^ k)))
      where
        never : o.j < k → ⊥
        never l = omega (arith, o.is, o.hi, mul-le-mul_right (2 ^ F) l)

-- the fraction's weight is even, so a pattern is as its significand is
even_pattern : (F k p : ℕ) → 1 ≤ F → p % 2 ≡ 0 → (k * 2 ^ F + p) % 2 ≡ 0
even_pattern F k p h e =
    let t : 2 ^ F ≡ 2 ^ suc (F - 1) = ap (λ (y : ℕ). 2 ^ y) (omega arith) in
    let d : k * 2 ^ F ≡ k * 2 ^ (F - 1) * 2 = ap (λ (y : ℕ). k * y) (t ∙ pow-suc 2 (F - 1)) ∙ sym (mul_assoc k (2 ^ (F - 1)) 2) in
    omega arith

pub rounds_nearest : (F : ℕ) (s : Bool) (n u : ℕ) → 1 ≤ F → 0 < u → NearestPattern F n u (encode F (nearest F HalfEven s n u))
rounds_nearest F s n u hF hu = go (kept F s n u hu)
  where
    go : Kept F s n u → NearestPattern F n u (encode F (nearest F HalfEven s n u))
    go t = rw t.is record { nearest = near; even = even }
      where
        r : ℕ
        r = t.k * 2 ^ F + t.p

        here : magnitude F r * u ≡ t.p * t.U
        here = multiple F n u t.k t.p t.U hu t.unit t.near r t.p t.units

        -- every pattern is a multiple, or farther off
        cases : (z : ℕ) → ((c : ℕ) × magnitude F z ≡ c * 2 ^ t.k) ⊎ distance n (t.p * t.U) < distance n (magnitude F z * u)
        cases z = ⊎_elim (λ e. inl (all e)) (λ g. ⊎_elim inl (λ l. inr (below_near F n u t.k t.p t.U hu t.unit t.near z g l)) (multiple_or_below F t.k z)) t.leads
          where
            all : t.k ≡ 0 → (c : ℕ) × magnitude F z ≡ c * 2 ^ t.k
            all e = (magnitude F z, sym (ap (λ (y : ℕ). magnitude F z * 2 ^ y) e ∙ omega arith))

        near : (z : ℕ) → distance n (magnitude F r * u) ≤ distance n (magnitude F z * u)
        near z =
            ⊎_elim
            (λ c. omega (arith, here, multiple_near F n u t.k t.p t.U hu t.unit t.near z c.0 c.1))
            (λ l. omega (arith, here))
            (cases z)

        even : (z : ℕ) → distance n (magnitude F z * u) ≡ distance n (magnitude F r * u) → z ≡ r ⊎ r % 2 ≡ 0
        even z e = ⊎_elim (λ a. inr (even_pattern F t.k t.p hF a)) (λ a. inl (only a)) t.tie
          where
            only : Nearer n (t.p * t.U) t.U → z ≡ r
            only a =
                ⊎_elim
                (λ c. magnitude-same F (multiple_only F n u t.k t.p t.U hu t.unit t.near z c.0 c.1 (omega (arith, here)) a ∙ sym t.units))
                (λ l. omega (arith, here))
                (cases z)

-- the answer's pattern stands for the answer
pub nearest_units : (F : ℕ) (s : Bool) (n u : ℕ) → 0 < u → magnitude F (encode F (nearest F HalfEven s n u)) ≡ nearest F HalfEven s n u
nearest_units F s n u hu = go (kept F s n u hu)
  where
    go : Kept F s n u → magnitude F (encode F (nearest F HalfEven s n u)) ≡ nearest F HalfEven s n u
    go t = ap (magnitude F) t.is ∙ t.units ∙ sym t.value

-- ---- what follows from that alone

-- a number that the format holds is its own answer
pub exact : (F n u r z : ℕ) → 0 < u → NearestPattern F n u r → n ≡ magnitude F z * u → r ≡ z
exact F n u r z hu h e =
    magnitude-same F (cancel_right u hu (omega (arith, h.nearest z)))

-- which side of the middle of a and b is nearer to a
upper_half : (n a b : ℕ) → b < a → distance n a ≤ distance n b → a + b ≤ n * 2
upper_half n a b g h = omega arith

lower_half : (n a b : ℕ) → a < b → distance n a ≤ distance n b → n * 2 ≤ a + b
lower_half n a b g h = omega arith

middle : (n a b : ℕ) → n * 2 ≡ a + b → distance n b ≡ distance n a
middle n a b e = omega arith

nearer_between : (n a b c : ℕ) → n * 2 ≡ a + b → b < c → c < a → distance n c < distance n a
nearer_between n a b c e g h = omega arith

-- the order is kept
pub keeps_order : (F n n' u r r' : ℕ) → 0 < u → NearestPattern F n u r → NearestPattern F n' u r' → n ≤ n' → r ≤ r'
keeps_order F n n' u r r' hu h h' l = ⊎_elim (λ g. absurd (crossed g)) (λ g. g) (lt_or_ge r' r)
  where
    -- both stand halfway between the two answers, which are then even, and one between them is nearer
    crossed : r' < r → ⊥
    crossed g =
        let A : ℕ = magnitude F r * u in
        let B : ℕ = magnitude F r' * u in
        let a : B < A = mul-lt-mul_of_pos_right (magnitude_mono F g) hu in
        let up : A + B ≤ n * 2 = upper_half n A B a (h.nearest r') in
        let low : n' * 2 ≤ B + A = lower_half n' B A a (h'.nearest r) in
        let half : n * 2 ≡ A + B = omega (arith, up, low) in
        let half' : n' * 2 ≡ B + A = omega (arith, up, low) in
        ⊎_elim (λ e. omega arith)
        (λ e. ⊎_elim (λ e'. omega arith) (λ e'. between e e' half) (h'.even r (middle n' B A half')))
        (h.even r' (middle n A B half))
      where
        between : r % 2 ≡ 0 → r' % 2 ≡ 0 → n * 2 ≡ magnitude F r * u + magnitude F r' * u → ⊥
        between e e' half =
            let b : magnitude F r' * u < magnitude F (suc r') * u = mul-lt-mul_of_pos_right (magnitude_mono F (omega arith)) hu in
            let c : magnitude F (suc r') * u < magnitude F r * u = mul-lt-mul_of_pos_right (magnitude_mono F (omega arith)) hu in
            lt_irrefl _ (lt_of_lt_of_le (nearer_between n (magnitude F r * u) (magnitude F r' * u) (magnitude F (suc r') * u) half b c) (h.nearest (suc r')))

-- The answer is suc b or more exactly where n / u is at least halfway from b to suc b, for an odd b.
pub reaches : (F n u r b : ℕ) → 0 < u → NearestPattern F n u r → b % 2 ≡ 1
    → suc b ≤ r ↔ magnitude F b * u + magnitude F (suc b) * u ≤ n * 2
reaches F n u r b hu h odd = (forth, λ l. ⊎_elim (λ g. absurd (back l g)) (λ g. g) (lt_or_ge r (suc b)))
  where
    forth : suc b ≤ r → magnitude F b * u + magnitude F (suc b) * u ≤ n * 2
    forth g =
        let l : magnitude F b * u < magnitude F r * u = mul-lt-mul_of_pos_right (magnitude_mono F (omega arith)) hu in
        let m : magnitude F (suc b) * u ≤ magnitude F r * u = mul-le-mul_right u (magnitude_mono_le F g) in
        omega (arith, upper_half n (magnitude F r * u) (magnitude F b * u) l (h.nearest b))

    back : magnitude F b * u + magnitude F (suc b) * u ≤ n * 2 → r < suc b → ⊥
    back l g =
        let R : ℕ = magnitude F r * u in
        let S : ℕ = magnitude F (suc b) * u in
        let m : R < S = mul-lt-mul_of_pos_right (magnitude_mono F g) hu in
        let most : R ≤ magnitude F b * u = mul-le-mul_right u (magnitude_mono_le F (omega arith)) in
        let half : n * 2 ≡ R + S = omega (arith, lower_half n R S m (h.nearest (suc b))) in
        let same : r ≡ b = magnitude-same F (cancel_right u hu (omega arith)) in
        ⊎_elim (λ e. omega arith) (λ e. omega arith) (h.even (suc b) (middle n R S half))
