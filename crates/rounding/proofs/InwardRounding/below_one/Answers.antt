-- `InwardRounding::below_one` meets its contract. Assumes nothing.
use mathlib.Core.Path.{refl, ◌∙◌}
use Prim.Native.Nat.{◌*◌, ◌^◌}
use Rattle.float_format.specs.Number.{bias}
use Rattle.rounding.proofs.Directions.{trunc_zero}
use Rattle.rounding.proofs.InwardRounding.below_one.Goals.{Start}
use Rattle.rounding.proofs.InwardRounding.below_one.Goals as goal

pub returns : goal.returns
returns g c = λ h. c.signed_zero.ensures ∙ trunc_zero g.P.Pattern.format c.args.x c.args.e (bias g.P.Pattern.format * 2 ^ g.P.Pattern.format.fraction) c.requires refl h
