-- Document 01, "Marked cases, f64": what the definitions give, beside the answer that the document states. `proofs/Marked.antt` has the
-- one claim about the list. Definitions only; assumes nothing.
use Rattle.std.specs.Prelude.{cond, List, [], ◌∷◌, ℕ, ◌^◌, eqb, ℤ, pos, negsuc, neg_ℤ}
use Rattle.float_format.specs.Format.{binary64}
use Rattle.float_format.specs.Rounding.{integral, lround_refusal, lround_value}
use Rattle.float_format.specs.declared.Direction.{Direction}
use Rattle.float_format.specs.declared.Direction.TheVariants.{Down, Up, TowardZero, HalfAway, HalfEven}
use Rattle.splitting.specs.Splitting.{modf_whole, modf_fraction}
use Rattle.scaling.specs.Scaling.{frexp_fraction, frexp_exponent, ldexp, ldexp_refusal}
use Rattle.remainder.specs.Remainder.{fmod, fmod_refusal}
use Rattle.ordering.specs.Ordering.{nextafter, nextafter_refusal}

-- what a function answers: a pattern, two of them, a pattern and an exponent, a whole number, or a refusal by its number
pub data Outcome : Type 0 where
  pattern : ℕ → Outcome
  parts : ℕ → ℕ → Outcome
  scaled : ℕ → ℤ → Outcome
  whole : ℤ → Outcome
  refused : ℕ → Outcome

pub record Case : Type 0 where
  pub given : Outcome
  pub stated : Outcome

-- an answer, or the refusal where its number is not 0
answered : ℕ → Outcome → Outcome
answered refusal answer = cond (eqb refusal 0) answer (refused refusal)

rounds : Direction → ℕ → Outcome
rounds d x = pattern (integral binary64 d x)

lround : ℕ → Outcome
lround x = answered (lround_refusal binary64 x) (whole (lround_value binary64 x))

modf : ℕ → Outcome
modf x = parts (modf_whole binary64 x) (modf_fraction binary64 x)

frexp : ℕ → Outcome
frexp x = scaled (frexp_fraction binary64 x) (frexp_exponent binary64 x)

scale : ℕ → ℤ → Outcome
scale x n = answered (ldexp_refusal binary64 x n) (pattern (ldexp binary64 x n))

remainder : ℕ → ℕ → Outcome
remainder x y = answered (fmod_refusal binary64 x y) (pattern (fmod binary64 x y))

neighbour : ℕ → ℕ → Outcome
neighbour x y = answered (nextafter_refusal binary64 x y) (pattern (nextafter binary64 x y))

infix 5 ◌gives◌
abbrev pub ◌gives◌ : Outcome → Outcome → Case
a gives b = record { given = a; stated = b }

unfoldable pub marked : List Case
unfolding answered rounds lround modf frexp scale remainder neighbour
marked =
    -- floor(-0.5) = -1; ceil(-0.5) = -0
    (rounds Down 0xbfe0_0000_0000_0000 gives pattern 0xbff0_0000_0000_0000)
    ∷ (rounds Up 0xbfe0_0000_0000_0000 gives pattern 0x8000_0000_0000_0000)
    -- round(0.5) = 1; round(3fdfffffffffffff) = +0
    ∷ (rounds HalfAway 0x3fe0_0000_0000_0000 gives pattern 0x3ff0_0000_0000_0000)
    ∷ (rounds HalfAway 0x3fdf_ffff_ffff_ffff gives pattern 0)
    -- nearbyint(2.5) = 2; round(-2.5) = -3
    ∷ (rounds HalfEven 0x4004_0000_0000_0000 gives pattern 0x4000_0000_0000_0000)
    ∷ (rounds HalfAway 0xc004_0000_0000_0000 gives pattern 0xc008_0000_0000_0000)
    -- trunc(-0) = -0; floor(4330000000000001) is itself
    ∷ (rounds TowardZero 0x8000_0000_0000_0000 gives pattern 0x8000_0000_0000_0000)
    ∷ (rounds Down 0x4330_0000_0000_0001 gives pattern 0x4330_0000_0000_0001)
    -- lround(c3e0000000000000) = -2^63; lround(43e0000000000000) refuses 3
    ∷ (lround 0xc3e0_0000_0000_0000 gives whole (neg_ℤ (pos (2 ^ 63))))
    ∷ (lround 0x43e0_0000_0000_0000 gives refused 3)
    -- modf(-3.25) = -3, -0.25; frexp(pattern 1) = 0.5, -1073
    ∷ (modf 0xc00a_0000_0000_0000 gives parts 0xc008_0000_0000_0000 0xbfd0_0000_0000_0000)
    ∷ (frexp 1 gives scaled 0x3fe0_0000_0000_0000 (negsuc 1072))
    -- ldexp(1, -1075) = +0; ldexp(1, 1024) refuses 3
    ∷ (scale 0x3ff0_0000_0000_0000 (negsuc 1074) gives pattern 0)
    ∷ (scale 0x3ff0_0000_0000_0000 (pos 1024) gives refused 3)
    -- fmod(-7.5, 2) = -1.5; nextafter(+0, -1) = 8000000000000001
    ∷ (remainder 0xc01e_0000_0000_0000 0x4000_0000_0000_0000 gives pattern 0xbff8_0000_0000_0000)
    ∷ (neighbour 0 0xbff0_0000_0000_0000 gives pattern 0x8000_0000_0000_0001)
    ∷ []
