-- A remainder from an estimate of the quotient. S cuts n and d to their leading bits, high and top, top rounded up: a quotient q of those
-- that is right, or one too small, is right for n and d, or one too small. Plain arithmetic; no format here. Assumes nothing.
use mathlib.Core.Path.{◌≡◌, ap, ◌∙◌}
use mathlib.Core.Logic.{⊎_elim}
use Prim.Native.Nat.{ℕ, ◌+◌, ◌*◌, ◌/◌, ◌%◌, ◌≤◌, ◌<◌}
use native.Mathlib.Nat.{div-add-mod', mod-lt, div-mul-le_self, lt-div-mul-add, le-div_iff_mul-le, mul-le-mul_left, mul-le-mul_right, mul-le-mul}
use native.Mathlib.Omega.{arith}
use Rattle.float_format.proofs.Units.{lt_or_ge}

-- ---- the certificate

-- q is n's quotient by d, or one too small
pub record Near (n d q : ℕ) : Type 0 where
  pub under : q * d ≤ n
  pub over : n < q * d + 2 * d

-- ---- what an estimate by the leading bits gives

-- q is high's quotient by top, or one too small, or exactly one too small with nothing left
pub record Quotient (high top q : ℕ) : Type 0 where
  pub under : q * top ≤ high
  pub over : high ≤ q * top + top

-- d has 20 leading bits or more above S, and high at most 31: then what top and high leave out is less than d
pub near : (S n d high top q : ℕ) → 0 < S → 524288 * S ≤ d → high ≡ n / S → top ≡ d / S + 1 → high < 2147483648
    → Quotient high top q → Near n d q
near S n d high top q p lo eh et small w =
    let least : 524288 ≤ d / S = (le-div_iff_mul-le p).1 lo in
    let d-split : d / S * S + d % S ≡ d = div-add-mod' d S in
    let d-rest : d % S < S = mod-lt d p in
    let n-split : n / S * S + n % S ≡ n = div-add-mod' n S in
    let n-rest : n % S < S = mod-lt n p in
    let tops : top * S ≡ d / S * S + S = ap (λ (k : ℕ). k * S) et ∙ omega arith in
    let highs : high * S ≡ n / S * S = ap (λ (k : ℕ). k * S) eh in
    let few : q < 4096 = ⊎_elim (λ l. l) (λ g. omega (arith, w.under, mul-le-mul_right top g)) (lt_or_ge q 4096) in
    let a : q * d ≤ q * (top * S) = mul-le-mul_left q (omega arith) in
    let b : q * top * S ≤ high * S = mul-le-mul_right S w.under in
    let e : high * S ≤ (q * top + top) * S = mul-le-mul_right S w.over in
    let g : q * (top * S) ≤ q * (d + S) = mul-le-mul_left q (omega arith) in
    let h : q * S ≤ 4095 * S = mul-le-mul_right S (omega arith) in
    record { under = omega (arith, a, b, highs, n-split); over = omega (arith, e, g, h, highs, tops, n-split, n-rest, d-split, lo) }

-- ---- the two estimates

pub by_division : (high top q : ℕ) → 0 < top → q ≡ high / top → Quotient high top q
by_division high top q p e =
    let t : q * top ≡ high / top * top = ap (λ (k : ℕ). k * top) e in
    record { under = omega (arith, div-mul-le_self high top); over = omega (arith, lt-div-mul-add {a = high} {b = top} p) }

-- by the reciprocal of top in units of 2^-51: it is too small by less than one unit, which high times top do not bring up to one
pub by_reciprocal : (high top inverse q : ℕ) → 0 < top → top ≤ 1048576 → high < 2147483648 → inverse ≡ 2251799813685248 / top
    → q ≡ high * inverse / 2251799813685248 → Quotient high top q
by_reciprocal high top inverse q p most small ei eq =
    let i : inverse * top ≡ 2251799813685248 / top * top = ap (λ (k : ℕ). k * top) ei in
    let i-under : inverse * top ≤ 2251799813685248 = omega (arith, div-mul-le_self 2251799813685248 top) in
    let i-over : 2251799813685248 ≤ inverse * top + top = omega (arith, lt-div-mul-add {a = 2251799813685248} {b = top} p) in
    let q-under : q * 2251799813685248 ≤ high * inverse = omega (arith, ap (λ (k : ℕ). k * 2251799813685248) eq, div-mul-le_self (high * inverse) 2251799813685248) in
    let q-over : high * inverse ≤ q * 2251799813685248 + 2251799813685248 = omega (arith, ap (λ (k : ℕ). k * 2251799813685248) eq, lt-div-mul-add {a = high * inverse} {b = 2251799813685248} (omega arith)) in
    let a : q * 2251799813685248 * top ≤ high * inverse * top = mul-le-mul_right top q-under in
    let b : high * (inverse * top) ≤ high * 2251799813685248 = mul-le-mul_left high i-under in
    let e : high * inverse * top ≤ (q * 2251799813685248 + 2251799813685248) * top = mul-le-mul_right top q-over in
    let g : high * 2251799813685248 ≤ high * (inverse * top + top) = mul-le-mul_left high i-over in
    let h : high * top ≤ 2147483647 * 1048576 = mul-le-mul {n₁ = high} {m₁ = top} {n₂ = 2147483647} {m₂ = 1048576} (omega arith) most in
    record { under = omega (arith, a, b); over = omega (arith, e, g, h) }
