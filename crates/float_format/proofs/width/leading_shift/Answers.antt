-- `leading_shift` meets its contract: the leading zeros of a word, less those that a normal number's significand has. Assumes nothing.
use mathlib.Core.Path.{refl}
use native.Mathlib.Omega.{arith}
use lib.Count.{count_leading_zeros, leading_le}
use Rattle.float_format.proofs.Lead.{Lead, lead}
use Rattle.float_format.proofs.width.leading_shift.Goals.{Start}
use Rattle.float_format.proofs.width.leading_shift.Goals as goal

at : (c : Start) → Lead c.args.fraction c.args.m (count_leading_zeros 64 c.args.m)
at c = lead c.args.fraction c.args.m (count_leading_zeros 64 c.args.m) c.requires.0 c.requires.1 c.requires.2 refl

pub overflow_cast-result : goal.overflow_cast-result
overflow_cast-result c = omega (arith, leading_le 64 c.args.m)

pub overflow_sub-result-2 : goal.overflow_sub-result-2
overflow_sub-result-2 c = (at (goal.at.overflow_sub-result-2 c).Start).past

pub returns : goal.returns
returns c = ((at (goal.at.returns c).Start).short, (at (goal.at.returns c).Start).from, (at (goal.at.returns c).Start).below, refl)
