-- `split` meets its contract: what lies between one and the numbers that are all whole has both parts, all else one. Assumes nothing.
use Prim.Native.Nat.{ℕ, ◌*◌, ◌<◌}
use mathlib.Core.Path.{◌≡◌}
use Rattle.float_format.specs.Format.{sign_bit}
use Rattle.splitting.specs.Splitting.{modf_whole, modf_fraction}
use Rattle.splitting.proofs.Fraction.{whole_lt, fraction_lt}
use Rattle.splitting.proofs.split.Goals.{Start}
use Rattle.splitting.proofs.split.Goals as goal

-- both parts are patterns of the format
answered : (g : _) (c : Start g) (w p : ℕ) → (w ≡ modf_whole g.P.Pattern.format c.args.x) × (p ≡ modf_fraction g.P.Pattern.format c.args.x)
    → (w ≡ modf_whole g.P.Pattern.format c.args.x)
    × (p ≡ modf_fraction g.P.Pattern.format c.args.x)
    × (w < 2 * sign_bit g.P.Pattern.format)
    × (p < 2 * sign_bit g.P.Pattern.format)
answered g c w p e =
    let f = g.P.Pattern.format in
    let v = g.met.P.Pattern.fits.valid in
    (e.0, e.1, rw e.0 (whole_lt f c.args.x v c.requires), rw e.1 (fraction_lt f c.args.x v c.requires))

pub returns-then-above-fraction_bits : goal.returns-then-above-fraction_bits
returns-then-above-fraction_bits g c = answered g (goal.at.returns-then-above-fraction_bits g c).Start _ _ c.both.ensures

pub returns : goal.returns
returns g c = answered g (goal.at.returns g c).Start _ _ c.one_part.ensures
