-- What a user would state of halves: import loses nothing, import and export give a half its own bits back, and rounding a half is import,
-- the same rounding of f32, export. Assumes nothing.
use mathlib.Core.Path.{◌≡◌, refl}
use mathlib.Core.Bool.{cond}
use mathlib.Core.Logic.{⊎_elim, ◌↔◌}
use Prim.Native.Nat.{ℕ, ◌-◌, ◌*◌, ◌/◌, ◌%◌, ◌^◌, ◌≤◌, ◌<◌}
use native.Mathlib.Nat.{mul-le-mul_right}
use native.Mathlib.Omega.{arith}
use lib.Dec.{lit≤}
use lib.Pow.{pow_pos}
use Rattle.float_format.specs.Format.{Valid, binary16, binary32, sign_bit, infinity, negative, unsigned, fraction_field}
use Rattle.float_format.specs.Number.{magnitude, one, AtMost, units_of}
use Rattle.float_format.specs.Rounding.{integral}
use Rattle.float_format.specs.declared.Direction.{Direction}
use Rattle.float_format.proofs.Powers.{cancel_le}
use Rattle.float_format.proofs.Units.{lt_or_ge}
use Rattle.float_format.proofs.Sizes.{minus, plus}
use Rattle.conversion.specs.Conversion.{converted, converted_refusal}
use Rattle.conversion.proofs.Conversion.{Same, Wider, widened}
use Rattle.conversion.proofs.Once.{refused_from_halfway, converted_monotone}
use Rattle.conversion.proofs.Nans.{quiet, nan_payload, nan_widened}
use Rattle.conversion.proofs.Wider.{widened_not_refused, widened_back, rounds_there}

pub valid16 : Valid binary16
valid16 = record { some_fraction = omega arith; some_exponent = omega arith; near = omega arith }

pub valid32 : Valid binary32
valid32 = record { some_fraction = omega arith; some_exponent = omega arith; near = omega arith }

pub wider : Wider binary16 binary32 13 125
unfolding magnitude
wider = record { digits = refl; ones = refl; reach = lit≤ tt }

-- ---- import

module _ (x : ℕ) where
  -- it is exact: sign and value are kept ..
  pub import_exact : unsigned binary16 x < infinity binary16 → Same binary16 binary32 x (converted binary16 binary32 x)
  import_exact l = widened binary16 binary32 13 125 x wider valid32 l

  -- .. and never refuses
  pub import_never_refuses : converted_refusal binary16 binary32 x ≡ 0
  import_never_refuses = widened_not_refused binary16 binary32 13 125 valid16 valid32 wider x

  -- a half that isn't a NaN comes back with its own bits
  pub round_trip : x < 2 * sign_bit binary16 → unsigned binary16 x ≤ infinity binary16 → converted binary32 binary16 (converted binary16 binary32 x) ≡ x
  round_trip p n = widened_back binary16 binary32 13 125 valid16 valid32 wider x p n

  -- rounding a half is import, the same rounding of f32, export: for every pattern
  pub rounds_as_single : x < 2 * sign_bit binary16 → (d : Direction) → converted binary32 binary16 (integral binary32 d (converted binary16 binary32 x)) ≡ integral binary16 d x
  rounds_as_single p d = rounds_there binary16 binary32 13 125 valid16 valid32 wider x p d

  -- a NaN keeps its sign and its payload, quieted, and the thirteen further bits are zero
  pub import_nan_payload : infinity binary16 < unsigned binary16 x → fraction_field binary32 (converted binary16 binary32 x) ≡ quiet binary16 (fraction_field binary16 x) * 2 ^ 13
  import_nan_payload l = nan_widened binary16 binary32 13 valid16 valid32 refl x l

-- ---- export

module _ (x : ℕ) where
  -- a NaN keeps its sign and the top ten bits of its payload, quieted
  pub export_nan_payload : infinity binary32 < unsigned binary32 x → fraction_field binary16 (converted binary32 binary16 x) ≡ quiet binary16 (fraction_field binary32 x * 2 ^ 10 / 2 ^ 23)
  export_nan_payload l = nan_payload binary32 binary16 valid32 valid16 x l

  module _ (h : unsigned binary32 x < infinity binary32) where
    -- refusal 3 exactly from 65,520 on
    pub export_refuses : converted_refusal binary32 binary16 x ≡ 3 ↔ 65520 * one binary32 ≤ units_of binary32 x
    unfolding magnitude
    export_refuses =
        let r = refused_from_halfway binary32 binary16 x valid16 h in (
          λ e. cancel_le (one binary16) {a = 65520 * one binary32} {b = units_of binary32 x} (pow_pos 24) (cancel_le 2 {a = 65520 * one binary32 * one binary16} {b = units_of binary32 x * one binary16} (omega arith) (r.0 e)),
          λ l. r.1 (mul-le-mul_right 2 (mul-le-mul_right (one binary16) l)),
        )

-- the order is kept
pub export_monotone : (x y : ℕ) → unsigned binary32 x ≤ infinity binary32 → unsigned binary32 y ≤ infinity binary32 → AtMost binary32 x y
    → AtMost binary16 (converted binary32 binary16 x) (converted binary32 binary16 y)
export_monotone x y = converted_monotone binary32 binary16 valid16 valid32 x y

-- ---- import in the code's steps

pub sign_moved : (x : ℕ) → x < 2 * sign_bit binary16 → (x - x % 0x8000) * 0x1_0000 ≡ cond (negative binary16 x) (sign_bit binary32) 0
sign_moved x p = ⊎_elim (λ l. low l) (λ g. high g) (lt_or_ge x (sign_bit binary16))
  where
    low : x < sign_bit binary16 → (x - x % 0x8000) * 0x1_0000 ≡ cond (negative binary16 x) (sign_bit binary32) 0
    low l = rw (plus binary16 x p l).0 (omega (arith, (plus binary16 x p l).1))

    high : sign_bit binary16 ≤ x → (x - x % 0x8000) * 0x1_0000 ≡ cond (negative binary16 x) (sign_bit binary32) 0
    high g = rw (minus binary16 x p g).0 (omega (arith, (minus binary16 x p g).1))
