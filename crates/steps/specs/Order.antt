-- How the code compares whole numbers. Definitions only; assumes nothing.
use Rattle.std.specs.Prelude.{cond, ℕ, ◌+◌, ◌-◌, ◌^◌, ltb}

-- the distance of p's whole number from -2^63
abbrev pub biased : ℕ → ℕ
biased p = cond (ltb p (2 ^ 63)) (p + 2 ^ 63) (p - 2 ^ 63)
