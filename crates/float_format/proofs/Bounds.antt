-- Between which multiples of u a rounded magnitude lies, direction by direction, and that the nearest multiple is nearest. The one idea:
-- two multiples of u differ by u or are the same, so a bound of less than u decides between them. Plain arithmetic; no format here.
-- Assumes nothing.
use mathlib.Core.Path.{◌≡◌, refl, ap, ◌∙◌}
use mathlib.Core.Bool.{Bool, true, false, not, cond}
use mathlib.Core.Logic.{◌⊎◌, inl, inr, ⊎_elim}
use Prim.Native.Nat.{ℕ, ◌+◌, ◌*◌, ◌/◌, ◌%◌, ◌≤◌, ◌<◌}
use native.Mathlib.Nat.{mod-lt, div-add-mod', mul-le-mul_right}
use native.Mathlib.Omega.{arith}
use lib.Dec.{leb, ltb, eqb}
use borrow.Author.Tests.{eq-eqb, ne_eqb, lt-ltb, le-ltb, ltb-true, ltb-false, leb-true, leb-false, eqb-true, eqb-false}
use Rattle.float_format.specs.Number.{distance}
use Rattle.float_format.specs.Rounding.{goes_away, parts}
use Rattle.float_format.specs.declared.Direction.{Direction}
use Rattle.float_format.specs.declared.Direction.TheVariants.{Down, Up, HalfAway, HalfEven}
use Rattle.float_format.proofs.Units.{lt_or_ge, three_way}
use Rattle.float_format.proofs.Parts.{parts_at}

-- ---- multiples of u

pub step : {k m : ℕ} (u : ℕ) → k < m → k * u + u ≤ m * u
step {k} {m} u l = omega (arith, mul-le-mul_right u l)

-- a multiple not a whole u beyond another is not beyond it
pub multiple_le : (k m u : ℕ) → k * u < m * u + u → k * u ≤ m * u
multiple_le k m u h = ⊎_elim (λ l. more l) (λ g. mul-le-mul_right u g) (lt_or_ge m k)
  where
    more : m < k → k * u ≤ m * u
    more l = omega (arith, step u l)

-- ---- one direction at a time

-- what is known where it is known whether a magnitude goes away: t
record Split (d : Direction) (s : Bool) (n u : ℕ) (t : Bool) : Type 0 where
  count : parts d s n u ≡ n / u + cond t 1 0
  times : parts d s n u * u ≡ n / u * u + cond t u 0
  whole : n / u * u + n % u ≡ n
  rest : n % u < u

split : (d : Direction) (s : Bool) (n u : ℕ) (t : Bool) → 0 < u → goes_away d s (n / u) (n % u) u ≡ t → Split d s n u t
split d s n u t h e =
    record {
      count = parts_at d s n u t e;
      times = ap (λ (p : ℕ). p * u) (parts_at d s n u t e) ∙ pick t;
      whole = div-add-mod' n u;
      rest = mod-lt n h;
    }
  where
    pick : (t : Bool) → (n / u + cond t 1 0) * u ≡ n / u * u + cond t u 0
    pick true = omega arith
    pick false = omega arith

-- a, and b from it on and less than u beyond it
pub record Within (u a b : ℕ) : Type 0 where
  pub from : a ≤ b
  pub upto : b < a + u

-- where it does not go away, the greatest multiple not above
pub parts_cut : (d : Direction) (s : Bool) (n u : ℕ) → 0 < u → goes_away d s (n / u) (n % u) u ≡ false → Within u (parts d s n u * u) n
parts_cut d s n u h e = go (split d s n u false h e)
  where
    go : Split d s n u false → Within u (parts d s n u * u) n
    go w = omega arith

-- the least multiple not below, which a negative number goes down to
pub parts_cover : (n u : ℕ) → 0 < u → Within u n (parts Down true n u * u)
parts_cover n u h = go (ltb 0 (n % u)) refl (split Down true n u (ltb 0 (n % u)) h refl)
  where
    go : (t : Bool) → ltb 0 (n % u) ≡ t → Split Down true n u t → Within u n (parts Down true n u * u)
    go true e w = omega (arith, ltb-true 0 (n % u) e)
    go false e w = omega (arith, ltb-false 0 (n % u) e)

-- up and down change places with the sign
pub parts_turned : (s : Bool) (n u : ℕ) → parts Up s n u ≡ parts Down (not s) n u
unfolding parts
parts_turned true n u = refl
parts_turned false n u = refl

-- ---- nearest

-- m is at most half of u from n
pub record Near (n m u : ℕ) : Type 0 where
  pub lo : m * 2 ≤ n * 2 + u
  pub hi : n * 2 ≤ m * 2 + u

-- m is nearer than that
pub record Nearer (n m u : ℕ) : Type 0 where
  pub lo : m * 2 < n * 2 + u
  pub hi : n * 2 < m * 2 + u

-- a half is always below the answer
pub half_away_near : (s : Bool) (n u : ℕ) → 0 < u → Near n (parts HalfAway s n u * u) u × n * 2 < parts HalfAway s n u * u * 2 + u
half_away_near s n u h = go (leb u (n % u * 2)) refl (split HalfAway s n u (leb u (n % u * 2)) h refl)
  where
    go : (t : Bool) → leb u (n % u * 2) ≡ t → Split HalfAway s n u t
        → Near n (parts HalfAway s n u * u) u × n * 2 < parts HalfAway s n u * u * 2 + u
    go true e w = omega (arith, leb-true u (n % u * 2) e)
    go false e w = omega (arith, leb-false u (n % u * 2) e)

-- a half goes to the even answer
pub half_even_near : (s : Bool) (n u : ℕ) → 0 < u
    → Near n (parts HalfEven s n u * u) u × (parts HalfEven s n u % 2 ≡ 0 ⊎ Nearer n (parts HalfEven s n u * u) u)
half_even_near s n u h =
    three_way u (n % u * 2)
    (λ l. beyond l (split HalfEven s n u true h (simp (lt-ltb u (n % u * 2) l))))
    (λ e. half e (eqb (n / u % 2) 1) refl (split HalfEven s n u _ h (simp (le-ltb u (n % u * 2) (omega arith), eq-eqb u (n % u * 2) e))))
    (λ l. short l (split HalfEven s n u false h (simp (le-ltb u (n % u * 2) (omega arith), ne_eqb u (n % u * 2) (omega arith)))))
  where
    Answer : Type 0
    Answer = Near n (parts HalfEven s n u * u) u × (parts HalfEven s n u % 2 ≡ 0 ⊎ Nearer n (parts HalfEven s n u * u) u)

    beyond : u < n % u * 2 → Split HalfEven s n u true → Answer
    beyond l w = (omega arith, inr (omega arith))

    short : n % u * 2 < u → Split HalfEven s n u false → Answer
    short l w = (omega arith, inr (omega arith))

    half : u ≡ n % u * 2 → (t : Bool) → eqb (n / u % 2) 1 ≡ t → Split HalfEven s n u t → Answer
    half e true g w = (omega arith, inl (omega (arith, eqb-true (n / u % 2) 1 g)))
    half e false g w = (omega arith, inl (omega (arith, eqb-false (n / u % 2) 1 g)))

module _ (n p u j k : ℕ) (w : Near n (p * u) u) where
  -- the multiple k - j of u is no nearer
  pub near_nearest : distance n (p * u) ≤ distance (n + j * u) (k * u)
  near_nearest = three_way k (p + j) less same more
    where
      less : k < p + j → distance n (p * u) ≤ distance (n + j * u) (k * u)
      less l = omega (arith, step u l)

      same : k ≡ p + j → distance n (p * u) ≤ distance (n + j * u) (k * u)
      same e = omega (arith, ap (λ (x : ℕ). x * u) e)

      more : p + j < k → distance n (p * u) ≤ distance (n + j * u) (k * u)
      more l = omega (arith, step u l)

  module _ (e : distance (n + j * u) (k * u) ≡ distance n (p * u)) where
    -- where it is as near, it has no larger magnitude, if n is less than a half above p
    pub near_away : 0 < u → n * 2 < p * u * 2 + u → (k ≤ p + j) × (j ≤ p + k)
    near_away h l = (⊎_elim (λ g. beyond g) (λ g. g) (lt_or_ge (p + j) k), ⊎_elim (λ g. below g) (λ g. g) (lt_or_ge (p + k) j))
      where
        beyond : p + j < k → k ≤ p + j
        beyond g = omega (arith, step u g)

        below : p + k < j → j ≤ p + k
        below g = omega (arith, step u g)

    -- and it is p itself, if n is no half
    pub near_only : Nearer n (p * u) u → k ≡ p + j
    near_only l = three_way k (p + j) less (λ g. g) more
      where
        less : k < p + j → k ≡ p + j
        less g = omega (arith, step u g)

        more : p + j < k → k ≡ p + j
        more g = omega (arith, step u g)
