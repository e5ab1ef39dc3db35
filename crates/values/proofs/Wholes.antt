-- The double of a whole number of magnitude at most 2^53. Assumes nothing.
use mathlib.Core.Path.{◌≡◌, sym, ap, ◌∙◌}
use mathlib.Core.Bool.{Bool, true, false, not}
use Prim.Native.Nat.{ℕ, ◌+◌, ◌*◌, ◌^◌}
use native.Mathlib.Omega.{arith}
use lib.IntN.{ℤ, nat_abs}
use lib.Signed.{non_neg}
use Rattle.float_format.specs.Format.{binary64, signed}
use Rattle.float_format.specs.Number.{encode}
use Rattle.float_format.proofs.Units.{encode_at}
use Rattle.semantics.specs.Value.{of_whole}

-- 2^53 has one digit more than a significand: it is 2^52 one scale up
pub largest : encode 52 (2 ^ 53 * 2 ^ 1074) ≡ 0x4340_0000_0000_0000
largest = encode_at 52 1074 (2 ^ 53) (omega arith) (omega arith) ∙ omega arith

pub pattern_up : (z : ℤ) (r : ℕ) → non_neg z ≡ true → r ≡ encode 52 (nat_abs z * 2 ^ 1074) → r ≡ of_whole z
pattern_up z r n e = e ∙ sym (ap (λ (t : Bool). signed binary64 (not t) (encode 52 (nat_abs z * 2 ^ 1074))) n ∙ omega arith)

pub pattern_down : (z : ℤ) (r : ℕ) → non_neg z ≡ false → r ≡ encode 52 (nat_abs z * 2 ^ 1074) → 0x8000_0000_0000_0000 + r ≡ of_whole z
pattern_down z r n e =
    ap (λ (k : ℕ). 0x8000_0000_0000_0000 + k) e ∙ sym (ap (λ (t : Bool). signed binary64 (not t) (encode 52 (nat_abs z * 2 ^ 1074))) n)
