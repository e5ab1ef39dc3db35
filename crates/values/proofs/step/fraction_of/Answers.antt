-- `fraction_of` meets its contract: of a number the float of modf's pair holds the fraction, which is no NaN. Assumes nothing.
use mathlib.Core.Path.{◌≡◌, sym, ap, ◌∙◌}
use mathlib.Core.Bool.{false}
use Prim.Native.Nat.{ℕ}
use lib.Ieee as Ieee
use Rattle.float_format.specs.Format.{binary64, is_nan}
use Rattle.splitting.specs.Splitting.{modf_whole, modf_fraction}
use Rattle.splitting.specs.Answer.{whole_of, fraction_of, is_nan_of}
use Rattle.splitting.proofs.Laws.{whole_number, fraction_number}
use Rattle.semantics.specs.Value.{done, double}
use Rattle.semantics.proofs.Sound.Kept.{valid, rest_of, number_of}
use Rattle.values.specs.Carried.{real}
use Rattle.values.proofs.Floats.{held_number, held_is}
use borrow.Author.Rules.{rules}
use Rattle.values.proofs.step.fraction_of.Goals.{In-Ok}
use Rattle.values.proofs.step.fraction_of.Goals as goal

-- the case tells that x is no NaN, so that neither of its parts is one
x_number : (c : In-Ok) → is_nan binary64 c.args.x ≡ false
x_number c = sym c.modf.ensures.2 ∙ ap is_nan_of c.in-Ok.is

number : (c : In-Ok) → is_nan binary64 (modf_fraction binary64 c.args.x) ≡ false
number c =
    let x = c.args.x in
    number_of (modf_fraction binary64 x) (fraction_number binary64 x valid (rest_of x (x_number c)))

whole_part_number : (c : In-Ok) → is_nan binary64 (modf_whole binary64 c.args.x) ≡ false
whole_part_number c =
    let x = c.args.x in
    number_of (modf_whole binary64 x) (whole_number binary64 x valid (rest_of x (x_number c)))

-- of either part, so that the value alone tells which of them is taken
pub of_float-requires : goal.of_float-requires
of_float-requires c =
    let x = c.args.x in
    let p = c.in-Ok.parts in
    let e = sym (ap (fraction_of Ieee.binary64 (λ (v : Ieee.Float). v) (λ (n : ℕ). n)) c.in-Ok.is) ∙ c.modf.ensures.1 in
    let d = sym (ap (whole_of Ieee.binary64 (λ (v : Ieee.Float). v) (λ (n : ℕ). n)) c.in-Ok.is) ∙ c.modf.ensures.0 in
    let numbers : (Ieee.is_nan p.fraction ≡ false) × (Ieee.is_nan p.whole ≡ false) = (
      held_number p.fraction (modf_fraction binary64 x) (search rules) e (number (goal.at.of_float-requires c).In-Ok),
      held_number p.whole (modf_whole binary64 x) (search rules) d (whole_part_number (goal.at.of_float-requires c).In-Ok),
    ) in
    assumption numbers

pub returns-in-Ok : goal.returns-in-Ok
returns-in-Ok c =
    let x = c.args.x in
    let e = sym (ap (fraction_of Ieee.binary64 (λ (v : Ieee.Float). v) (λ (n : ℕ). n)) c.in-Ok.is) ∙ c.modf.ensures.1 in
    ap (λ (v : Ieee.Float). done (double (Ieee.to_bits Ieee.binary64 v))) c.of_float.ensures
    ∙ ap done (held_is c.in-Ok.parts.fraction (modf_fraction binary64 x) (search rules) e (number (goal.at.returns-in-Ok c).In-Ok))

pub returns-in-Err : goal.returns-in-Err
returns-in-Err c =
    let e = sym (ap (fraction_of Ieee.binary64 (λ (v : Ieee.Float). v) (λ (n : ℕ). n)) c.in-Err.is) ∙ c.modf.ensures.1 in
    c.real_of.ensures ∙ ap (λ (v : ℕ). done (real v)) e
