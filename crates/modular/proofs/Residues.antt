-- Residues: a sum and a product have the remainder that the sum and the product of remainders have; a number has it without a multiple of d too; a
-- difference is known from its low words. d is the modulus, c cuts a factor into halves. Assumes nothing.
use Rattle.std.proofs.Common.{◌≡◌, ℕ, ◌+◌, ◌-◌, ◌*◌, ◌/◌, ◌%◌, ◌^◌, ◌<◌, ◌≤◌, sym, ap, ◌∙◌, mod-eq_of_lt, mul_comm, mul-le-mul_left, div-add-mod', arith, pow_mono}
use native.Mathlib.Nat.{mul-add-mod_self_right}
use Rattle.remainder.proofs.Turn.{rem_rem}

-- ---- multiples taken away

pub without : (n q d : ℕ) → q * d ≤ n → (n - q * d) % d ≡ n % d
without n q d h = sym (ap (λ (k : ℕ). k % d) {x = n} {y = q * d + (n - q * d)} (omega arith) ∙ mul-add-mod_self_right q d (n - q * d))

-- ---- sums and products of remainders

pub sum_left : (a b d : ℕ) → (a % d + b) % d ≡ (a + b) % d
sum_left a b d =
    let e : a + b ≡ a / d * d + (a % d + b) = omega (arith, div-add-mod' a d) in
    sym (ap (λ (k : ℕ). k % d) e ∙ mul-add-mod_self_right (a / d) d (a % d + b))

pub sums : (a b d : ℕ) → (a % d + b % d) % d ≡ (a + b) % d
sums a b d =
    sum_left a (b % d) d
    ∙ ap (λ (k : ℕ). k % d) {x = a + b % d} {y = b % d + a} (omega arith)
    ∙ sum_left b a d
    ∙ ap (λ (k : ℕ). k % d) {x = b + a} {y = a + b} (omega arith)

pub products : (a b d : ℕ) → a % d * (b % d) % d ≡ a * b % d
products a b d =
    rem_rem a (b % d) d ∙ ap (λ (k : ℕ). k % d) (mul_comm a (b % d)) ∙ rem_rem b a d ∙ ap (λ (k : ℕ). k % d) (mul_comm b a)

-- the halves of y together
pub halves : (x y c : ℕ) → x * (y / c) * c + x * (y % c) ≡ x * y
halves x y c = omega (arith, ap (λ (k : ℕ). x * k) (div-add-mod' y c))

-- h and l are the products by the halves, t is the upper one in its place
pub halves_product : (x y c d h l t : ℕ) → h ≡ x * (y / c) % d → l ≡ x * (y % c) % d → t ≡ h * c % d → (t + l) % d ≡ x * y % d
halves_product x y c d h l t eh el et =
    let u : t ≡ x * (y / c) * c % d = et ∙ ap (λ (k : ℕ). k * c % d) eh ∙ rem_rem (x * (y / c)) c d in
    ap (λ (k : ℕ). (k + l) % d) u
    ∙ ap (λ (k : ℕ). (x * (y / c) * c % d + k) % d) el
    ∙ sums (x * (y / c) * c) (x * (y % c)) d
    ∙ ap (λ (k : ℕ). k % d) (halves x y c)

-- ---- low words

-- n - p from the low words of n and p
pub difference : (n p : ℕ) → p ≤ n → n - p < 2 ^ 64 → (n % 2 ^ 64 + (2 ^ 64 - p % 2 ^ 64)) % 2 ^ 64 ≡ n - p
difference n p h few = omega arith

-- ---- a binary digit more

module _ (x digit d : ℕ) (h : x < d) (one : digit < 2) (below : d < 2 ^ 56) where
  doubled : x * 2 ^ digit ≤ x * 2
  doubled = mul-le-mul_left x (pow_mono {i = digit} {j = 1} (omega arith))

  -- nothing is shifted out
  pub moved_whole : x * 2 ^ digit % 2 ^ 64 ≡ x * 2 ^ digit
  moved_whole = mod-eq_of_lt (omega (arith, doubled))

  pub moved_lt : x * 2 ^ digit < 2 * d
  moved_lt = omega (arith, doubled)
