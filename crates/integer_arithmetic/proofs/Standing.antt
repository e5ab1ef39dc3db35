-- Rounding a word that stands for an exact number is rounding the number. F is the number of fraction bits. Assumes nothing.
use mathlib.Core.Path.{◌≡◌, refl, sym, ap, ◌∙◌}
use mathlib.Core.Bool.{Bool, false}
use mathlib.Core.Logic.{◌⊎◌, inl, inr, ⊎_elim}
use Prim.Native.Nat.{ℕ, suc, ◌+◌, ◌-◌, ◌*◌, ◌/◌, ◌%◌, ◌^◌, ◌≤◌, ◌<◌}
use native.Mathlib.Nat.{mod-lt, div-add-mod', mul_assoc, mul_comm, mul-le-mul_left, mul-le-mul_right, mul-lt-mul_of_pos_right, div-lt_iff_lt-mul, le-div_iff_mul-le}
use native.Mathlib.Omega.{arith}
use lib.Arith.{digits_div, digits_mod}
use lib.Pow.{pow_pos, pow_mono, pow-add}
use lib.Ieee.{size}
use borrow.Author.Tests.{lt-ltb, le-ltb, ne_eqb}
use Rattle.float_format.specs.Number.{encode}
use Rattle.float_format.specs.Rounding.{parts, nearest}
use Rattle.float_format.specs.declared.Direction.TheVariants.{HalfEven}
use Rattle.float_format.proofs.Units.{lt_or_ge, encode_at, size_is}
use Rattle.float_format.proofs.Parts.{parts_scale, parts-least, parts-most}
use Rattle.float_format.proofs.Powers.{swap, powers, gather, product_pos, cancel_le, cancel_lt, cancel_right}
use Rattle.float_format.proofs.Nearby.{encode_small, nearest-low}
use Rattle.integer_arithmetic.specs.Stands.{Stands}

-- ---- an odd w, less than one part off

-- h is half of what w is divided by, and even
module _ (n v w h : ℕ) (odd : w % 2 ≡ 1) (lo : w * v < n + v) (hi : n < w * v + v) (even : h % 2 ≡ 0) (some : 0 < h) where
  abbrev pub D : ℕ
  D = h * 2

  abbrev q : ℕ
  q = w / D

  abbrev r : ℕ
  r = w % D

  whole : q * D + r ≡ w
  whole = div-add-mod' w D

  r_lt : r < D
  r_lt = mod-lt w (omega arith)

  r_odd : r % 2 ≡ 1
  r_odd = let e : q * D ≡ q * h * 2 = sym (mul_assoc q h 2) in omega (arith, whole)

  -- what is left of n
  abbrev ρ : ℕ
  ρ = n - q * (v * D)

  times : w * v ≡ q * (v * D) + r * v
  times = ap (λ (y : ℕ). y * v) (sym whole) ∙ omega (arith, mul_comm D v, mul_assoc q D v)

  rest : n ≡ q * (v * D) + ρ
  rest = let m : v ≤ r * v = omega (arith, mul-le-mul_right {m = 1} {n = r} v (omega (arith, r_odd))) in omega (arith, times)

  low : r * v < ρ + v
  low = omega (arith, times, rest)

  high : ρ < r * v + v
  high = omega (arith, times, rest)

  within : ρ < v * D
  within = omega (arith, high, mul-le-mul_right {m = suc r} {n = D} v (omega (arith, r_lt)), mul_comm D v)

  div_is : n / (v * D) ≡ q
  div_is = ap (λ (y : ℕ). y / (v * D)) rest ∙ digits_div q within

  mod_is : n % (v * D) ≡ ρ
  mod_is = ap (λ (y : ℕ). y % (v * D)) rest ∙ digits_mod q within

  pub odd_parts : parts HalfEven false n (v * D) ≡ parts HalfEven false w D
  unfolding parts
  odd_parts = ⊎_elim less more (lt_or_ge r h)
    where
      double : v * D ≡ h * v * 2
      double = omega (arith, mul_assoc v h 2, mul_comm v h)

      less : r < h → parts HalfEven false n (v * D) ≡ parts HalfEven false w D
      less l =
          let g : ρ * 2 < v * D = omega (arith, double, high, mul-le-mul_right {m = suc r} {n = h} v l) in
          simp (div_is, mod_is, le-ltb (v * D) (ρ * 2) (omega arith), ne_eqb (v * D) (ρ * 2) (omega arith), le-ltb D (r * 2) (omega arith), ne_eqb D (r * 2) (omega arith))

      more : h ≤ r → parts HalfEven false n (v * D) ≡ parts HalfEven false w D
      more l =
          let k : suc h ≤ r = omega (arith, r_odd) in
          let g : v * D < ρ * 2 = omega (arith, double, low, mul-le-mul_right {m = suc h} {n = r} v k) in
          simp (div_is, mod_is, lt-ltb (v * D) (ρ * 2) g, lt-ltb D (r * 2) (omega arith))

-- ---- where the leading one's place is known

pub encode-nearest : (F K n u : ℕ) (s : Bool) → 0 < u → K ≡ 0 ⊎ 2 ^ F * (u * 2 ^ K) ≤ n → n < 2 * 2 ^ F * (u * 2 ^ K)
    → encode F (nearest F HalfEven s n u) ≡ K * 2 ^ F + parts HalfEven s n (u * 2 ^ K)
unfolding nearest
encode-nearest F K n u s hu (inl e) hi =
    let one : u * 2 ^ K ≡ u = ap (λ (y : ℕ). u * 2 ^ y) e ∙ omega arith in
    let few : n / u < 2 * 2 ^ F = (div-lt_iff_lt-mul {k = u} {x = n} {y = 2 * 2 ^ F} hu).1 (rw one at hi) in
    let p : ℕ = parts HalfEven s n u in
    ap (encode F) (nearest-low F HalfEven s n u few) ∙ encode_small F p (omega (arith, parts-most HalfEven s n u))
    ∙ omega (arith, ap (λ (y : ℕ). y * 2 ^ F) e, ap (parts HalfEven s n) one)
encode-nearest F K n u s hu (inr lo) hi = at short
  where
    q : ℕ
    q = n / u

    U : ℕ
    U = u * 2 ^ K

    from : 2 ^ (F + K) ≤ q
    from = rw (pow-add 2 F K) ((le-div_iff_mul-le {k = u} {x = 2 ^ F * 2 ^ K} {y = n} hu).1 (omega (arith, lo)))

    upto : q < 2 ^ suc (F + K)
    upto = omega (arith, (div-lt_iff_lt-mul {k = u} {x = n} {y = 2 * 2 ^ F * 2 ^ K} hu).1 (omega (arith, hi)), pow-add 2 F K)

    short : size q - suc F ≡ K
    short = omega (arith, size_is q (F + K) from upto)

    at : size (n / u) - suc F ≡ K → encode F (nearest F HalfEven s n u) ≡ K * 2 ^ F + parts HalfEven s n (u * 2 ^ K)
    at e =
        let some : 0 < u * 2 ^ K = product_pos hu (pow_pos K) in
        let Q : 2 ^ F ≤ n / (u * 2 ^ K) = (le-div_iff_mul-le {k = u * 2 ^ K} some).1 lo in
        let R : n / (u * 2 ^ K) < 2 * 2 ^ F = (div-lt_iff_lt-mul {k = u * 2 ^ K} some).1 hi in
        let p : ℕ = parts HalfEven s n (u * 2 ^ K) in
        ap (λ (y : ℕ). encode F (parts HalfEven s n (u * 2 ^ y) * 2 ^ y)) e
        ∙ encode_at F K p (omega (arith, parts-least HalfEven s n (u * 2 ^ K))) (omega (arith, parts-most HalfEven s n (u * 2 ^ K)))

even_sign : (s : Bool) (m u : ℕ) → parts HalfEven s m u ≡ parts HalfEven false m u
unfolding parts
even_sign s m u = refl

-- ---- a word that stands for n / u units, its leading one moved up k places

-- exact, or odd with digits enough
data Kind (n v w k : ℕ) : Type 0 where
  exact : n ≡ w * v → Kind n v w k
  close : w % 2 ≡ 1 → w * v < n + v → n < w * v + v → k < 8 → Kind n v w k

module _ (w t b n u : ℕ) (z : Stands w t b n u) (k : ℕ) where
  abbrev v : ℕ
  v = z.v

  v_some : 0 < v
  v_some =
      ⊎_elim (λ l. l)
      (λ g. omega (arith, mul-le-mul_right {m = v} {n = 0} (2 ^ b) g, z.scale, product_pos z.some (pow_pos t)))
      (lt_or_ge 0 v)

  kind : w * 2 ^ k < 2 ^ 62 → Kind n v w k
  kind hi = ⊎_elim exact (λ o. ⊎_elim exact (λ l. close o.0 o.1 o.2 (few l)) z.long) z.near
    where
      few : 2 ^ 54 ≤ w → k < 8
      few l =
          ⊎_elim (λ y. y)
          (λ g. omega (arith, mul-le-mul_right {m = 2 ^ 54} {n = w} (2 ^ k) l, mul-le-mul_left (2 ^ 54) (pow_mono {i = 8} {j = k} g)))
          (lt_or_ge k 8)

  module _ (d K : ℕ) (place : K + k + b ≡ t + d) (most : 9 ≤ d) (g : Kind n v w k) where
    unit : u * 2 ^ K * 2 ^ k ≡ 2 ^ d * v
    unit = cancel_right (2 ^ t) (pow_pos t) (left ∙ sym right)
      where
        left : u * 2 ^ K * 2 ^ k * 2 ^ t ≡ v * 2 ^ (d + t)
        left =
            ap (λ (y : ℕ). y * 2 ^ t) (gather u K k (K + k) refl) ∙ gather u (K + k) t (t + (K + k)) (omega arith)
            ∙ sym (gather u t (K + k) (t + (K + k)) refl)
            ∙ ap (λ (y : ℕ). y * 2 ^ (K + k)) (sym z.scale)
            ∙ gather v b (K + k) (d + t) (omega arith)

        right : 2 ^ d * v * 2 ^ t ≡ v * 2 ^ (d + t)
        right = ap (λ (y : ℕ). y * 2 ^ t) (mul_comm (2 ^ d) v) ∙ gather v d t (d + t) refl

    same_parts : parts HalfEven false n (u * 2 ^ K) ≡ parts HalfEven false (w * 2 ^ k) (2 ^ d)
    same_parts = go g
      where
        U_some : 0 < u * 2 ^ K
        U_some = product_pos z.some (pow_pos K)

        go : Kind n v w k → parts HalfEven false n (u * 2 ^ K) ≡ parts HalfEven false (w * 2 ^ k) (2 ^ d)
        go (exact e) =
            sym (parts_scale HalfEven false n (u * 2 ^ K) (2 ^ k) U_some (pow_pos k))
            ∙ ap (λ (y : ℕ). parts HalfEven false y (u * 2 ^ K * 2 ^ k)) (ap (λ (y : ℕ). y * 2 ^ k) e ∙ swap w v (2 ^ k))
            ∙ ap (parts HalfEven false (w * 2 ^ k * v)) unit
            ∙ parts_scale HalfEven false (w * 2 ^ k) (2 ^ d) v (pow_pos d) v_some
        go (close odd lo hi s) =
            let h : ℕ = 2 ^ (d - k - 1) in
            let twice : h * 2 ≡ 2 ^ (d - k) = powers (d - k - 1) 1 (d - k) (omega arith) in
            let even : h ≡ 2 ^ (d - k - 2) * 2 = sym (powers (d - k - 2) 1 (d - k - 1) (omega arith)) in
            let U : u * 2 ^ K ≡ v * (h * 2) =
            cancel_right (2 ^ k) (pow_pos k) (unit ∙ mul_comm (2 ^ d) v ∙ sym (ap (λ (y : ℕ). v * y * 2 ^ k) twice ∙ gather v (d - k) k d (omega arith))) in
            ap (parts HalfEven false n) U
            ∙ odd_parts n v w h odd lo hi (omega arith) (pow_pos (d - k - 1))
            ∙ ap (parts HalfEven false w) twice
            ∙ sym (parts_scale HalfEven false w (2 ^ (d - k)) (2 ^ k) (pow_pos (d - k)) (pow_pos k))
            ∙ ap (parts HalfEven false (w * 2 ^ k)) (powers (d - k) k d (omega arith))

    reaches : 2 ^ 61 ≤ w * 2 ^ k → 2 ^ 61 * v ≤ n * 2 ^ k
    reaches l = go g
      where
        go : Kind n v w k → 2 ^ 61 * v ≤ n * 2 ^ k
        go (exact e) = omega (arith, mul-le-mul_right v l, swap w v (2 ^ k), ap (λ (y : ℕ). y * 2 ^ k) e)
        go (close odd lo hi f) =
            let c : ℕ = 2 ^ (61 - k) in
            let even : c ≡ 2 ^ (60 - k) * 2 = sym (powers (60 - k) 1 (61 - k) (omega arith)) in
            let up : c * 2 ^ k ≡ 2 ^ 61 = powers (61 - k) k 61 (omega arith) in
            let le : c ≤ w = cancel_le (2 ^ k) (pow_pos k) (omega arith) in
            let lt : suc c ≤ w = omega arith in
            let m : c * v ≤ n = omega (arith, mul-le-mul_right v lt) in
            omega (arith, mul-le-mul_right (2 ^ k) m, swap c v (2 ^ k), ap (λ (y : ℕ). y * v) up)

    stays : w * 2 ^ k < 2 ^ 62 → n * 2 ^ k < 2 ^ 62 * v
    stays l = go g
      where
        go : Kind n v w k → n * 2 ^ k < 2 ^ 62 * v
        go (exact e) = omega (arith, mul-lt-mul_of_pos_right l v_some, swap w v (2 ^ k), ap (λ (y : ℕ). y * 2 ^ k) e)
        go (close odd lo hi f) =
            let c : ℕ = 2 ^ (62 - k) in
            let up : c * 2 ^ k ≡ 2 ^ 62 = powers (62 - k) k 62 (omega arith) in
            let lt : suc w ≤ c = cancel_lt (2 ^ k) (omega arith) in
            let m : n < c * v = omega (arith, mul-le-mul_right v lt) in
            omega (arith, mul-lt-mul_of_pos_right m (pow_pos k), swap c v (2 ^ k), ap (λ (y : ℕ). y * v) up)

-- The pattern that the code makes, before it is cut at infinity's: `from` is the larger of b and of the place to which the digits that
-- are kept would go.
pub placed : (F w t b n u k place from : ℕ) (s : Bool) → Stands w t b n u → F ≤ 52 → k ≤ 61 → 2 ^ 61 ≤ w * 2 ^ k → w * 2 ^ k < 2 ^ 62
    → place + k ≡ t + (61 - F) → b ≤ from → place ≤ from → from ≡ b ⊎ from ≡ place
    → encode F (nearest F HalfEven s n u) ≡ (from - b) * 2 ^ F + parts HalfEven false (w * 2 ^ k) (2 ^ (61 - F + (from - place)))
placed F w t b n u k place from s z short few lo hi at hb hp which =
    encode-nearest F K n u s z.some (⊎_elim (λ e. inl (omega arith)) (λ e. inr (leads e)) which) upto
    ∙ ap (λ (y : ℕ). K * 2 ^ F + y) (even_sign s n (u * 2 ^ K) ∙ same_parts w t b n u z k d K sums (omega arith) g)
  where
    K : ℕ
    K = from - b

    d : ℕ
    d = 61 - F + (from - place)

    g : Kind n z.v w k
    g = kind w t b n u z k hi

    sums : K + k + b ≡ t + d
    sums = omega arith

    -- 2 ^ F parts of u * 2 ^ K, times 2 ^ k
    weight : 2 ^ F * (u * 2 ^ K) * 2 ^ k ≡ 2 ^ (F + d) * z.v
    weight =
        mul_assoc (2 ^ F) (u * 2 ^ K) (2 ^ k) ∙ ap (λ (y : ℕ). 2 ^ F * y) (unit w t b n u z k d K sums (omega arith) g)
        ∙ sym (mul_assoc (2 ^ F) (2 ^ d) z.v)
        ∙ ap (λ (y : ℕ). y * z.v) (powers F d (F + d) refl)

    leads : from ≡ place → 2 ^ F * (u * 2 ^ K) ≤ n
    leads e =
        let all : F + d ≡ 61 = omega arith in
        let same : 2 ^ (F + d) ≡ 2 ^ 61 = ap (λ (y : ℕ). 2 ^ y) all in
        cancel_le (2 ^ k) (pow_pos k) (omega (arith, weight, ap (λ (y : ℕ). y * z.v) same, reaches w t b n u z k d K sums (omega arith) g lo))

    upto : n < 2 * 2 ^ F * (u * 2 ^ K)
    upto =
        let more : 2 ^ 61 * z.v ≤ 2 ^ (F + d) * z.v = mul-le-mul_right z.v (pow_mono {i = 61} {j = F + d} (omega arith)) in
        let two : 2 * 2 ^ F * (u * 2 ^ K) * 2 ^ k ≡ 2 * (2 ^ F * (u * 2 ^ K) * 2 ^ k) = omega arith in
        cancel_lt (2 ^ k) (omega (arith, weight, stays w t b n u z k d K sums (omega arith) g hi))
