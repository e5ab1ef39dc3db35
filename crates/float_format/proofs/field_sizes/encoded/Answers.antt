-- `encoded` meets its contract. Assumes nothing.
use mathlib.Core.Path.{sym, ap, ◌∙◌}
use mathlib.Core.Logic.{inl, inr}
use Prim.Native.Nat.{ℕ, ◌+◌, ◌*◌, ◌^◌}
use native.Mathlib.Omega.{arith}
use lib.Pow.{pow_pos}
use Rattle.float_format.specs.Number.{encode}
use Rattle.float_format.specs.Width.{format}
use Rattle.float_format.proofs.Units.{encode-low}
use Rattle.float_format.proofs.Sizes.{sizes}
use Rattle.float_format.proofs.Lead.{Encoded, encoded}
use Rattle.float_format.proofs.field_sizes.encoded.Goals.{After-row_known-1, else-k-scale, then-k-scale}
use Rattle.float_format.proofs.field_sizes.encoded.Goals as goal

-- at the merge of the two shifts
at : (c : After-row_known-1) → Encoded (format c.args.fraction c.args.exponent) c.args.m c.args.scale c.if-k-scale.shift
at c =
    let a = c.args in
    let p = c.requires in
    let k = c.leading_shift-k in
    encoded (format a.fraction a.exponent) a.m a.scale k.result c.if-k-scale.shift p.0 p.2 k.ensures.0 k.ensures.1 k.ensures.2
    (elim c.if-k-scale.branch [ then-k-scale w ↦ inl (w.if-k-scale.true, w.shift-is) | else-k-scale w ↦ inr (w.if-k-scale.false, w.shift-is) ])

pub returns-then-m-eq0 : goal.returns-then-m-eq0
returns-then-m-eq0 c = (sym (ap (encode c.args.fraction) (omega (arith, ap (λ (n : ℕ). n * 2 ^ c.args.scale) c.if-m-eq0.true)) ∙ encode-low c.args.fraction 0 (pow_pos c.args.fraction)), pow_pos (c.args.exponent + c.args.fraction))

pub overflow_sub-result : goal.overflow_sub-result
overflow_sub-result c = (at (goal.at.overflow_sub-result c).After-row_known-1).within

pub overflow_mul-result : goal.overflow_mul-result
overflow_mul-result c = rw c.power.ensures (omega (arith, (at (goal.at.overflow_mul-result c).After-row_known-1).fits, sizes (format c.args.fraction c.args.exponent) c.requires.0))

pub power-requires-2 : goal.power-requires-2
power-requires-2 c = (at (goal.at.power-requires-2 c).After-row_known-1).narrow

pub overflow_mul-result-2 : goal.overflow_mul-result-2
overflow_mul-result-2 c = rw c.power-2.ensures (omega (arith, (at (goal.at.overflow_mul-result-2 c).After-row_known-1).fits, sizes (format c.args.fraction c.args.exponent) c.requires.0))

pub overflow_add-result : goal.overflow_add-result
overflow_add-result c = rw (c.power.ensures, c.power-2.ensures) (omega (arith, (at (goal.at.overflow_add-result c).After-row_known-1).fits, sizes (format c.args.fraction c.args.exponent) c.requires.0))

pub returns : goal.returns
returns c = rw (c.power.ensures, c.power-2.ensures) ((at (goal.at.returns c).After-row_known-1).is, (at (goal.at.returns c).After-row_known-1).fits)
