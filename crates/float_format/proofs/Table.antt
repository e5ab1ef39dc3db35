-- Where each direction goes from an even and an odd number of whole parts, with nothing past them, less than a half, a half, and more:
-- the rounding rule at all its corners, as one table that antt computes, so that a wrong rule is refused by a number.
-- Assumes nothing.
use mathlib.Core.Path.{◌≡◌, refl}
use mathlib.Core.Bool.{Bool, true, false}
use mathlib.Core.List.{List, [], ◌∷◌, map}
use Prim.Native.Nat.{ℕ}
use Rattle.float_format.specs.Rounding.{goes_away}
use Rattle.float_format.specs.declared.Direction.{Direction}
use Rattle.float_format.specs.declared.Direction.TheVariants.{Down, Up, TowardZero, HalfAway, HalfEven}

-- from q parts of 4, with 0, 1, 2 and 3 past them
abbrev pub row : Direction → Bool → ℕ → List Bool
row d s q = map (λ (r : ℕ). goes_away d s q r 4) (0 ∷ 1 ∷ 2 ∷ 3 ∷ [])

abbrev pub never : List Bool
never = false ∷ false ∷ false ∷ false ∷ []

abbrev pub any : List Bool
any = false ∷ true ∷ true ∷ true ∷ []

abbrev pub from_half : List Bool
from_half = false ∷ false ∷ true ∷ true ∷ []

abbrev pub past_half : List Bool
past_half = false ∷ false ∷ false ∷ true ∷ []

-- each direction above zero and below it, from 6 and from 7
abbrev pub rows : Direction → List (List Bool)
rows d = row d false 6 ∷ row d false 7 ∷ row d true 6 ∷ row d true 7 ∷ []

pub table : map rows (Down ∷ Up ∷ TowardZero ∷ HalfAway ∷ HalfEven ∷ [])
    ≡ (never ∷ never ∷ any ∷ any ∷ [])
    ∷ (any ∷ any ∷ never ∷ never ∷ [])
    ∷ (never ∷ never ∷ never ∷ never ∷ [])
    ∷ (from_half ∷ from_half ∷ from_half ∷ from_half ∷ [])
    ∷ (past_half ∷ from_half ∷ past_half ∷ from_half ∷ [])
    ∷ []
table = refl
