-- `placed` meets its contract, by where the exponent field comes to stand. Assumes nothing.
use Rattle.std.proofs.Common.{◌≡◌, ℕ, ◌+◌, ◌-◌, ◌*◌, ◌%◌, ◌^◌, ◌≤◌, inl, inr, arith, w64, to_z, of_z, rules}
use Rattle.float_format.specs.Format.{sign_bit}
use Rattle.float_format.proofs.Sizes.{sizes}
use Rattle.scaling.proofs.Exponents.{below_zero, from_zero}
use Rattle.scaling.proofs.Places.{Outside, Distance, Answered, placed_normal, placed_below, placed_none, placed_above}
use Rattle.scaling.proofs.placed.Goals.{After-infinity_of, After-unit, After-shifted, Joined-else-t-gt0, Start, else-t-gt0-via-then-t-gt0+else-t-top_field, else-t-gt0-via-else-t-gt0}
use Rattle.scaling.proofs.placed.Goals as goal

-- n is what its 64 bits stand for
read : (g : _) (s : Start g) → to_z w64 (of_z w64 s.args.n) ≡ s.args.n
read g s = search rules

sign-most : (g : _) (s : Start g) → sign_bit g.P.Pattern.format ≤ 2 ^ 63
sign-most g s = (sizes g.P.Pattern.format g.met.P.Pattern.fits).sign_le

normal : (g : _) (c : After-unit g) → Answered g.P.Pattern.format c.args.x c.args.m c.args.t c.args.n c.signed_zero-zero.result g.met.P.Pattern.fits c.requires.0 c.requires.1 c.signed_zero-zero.ensures (c.signed_zero-zero.result + ((c.args.t - 1) * c.unit.result + c.args.m)) 0
normal g c =
    placed_normal g.P.Pattern.format c.args.x c.args.m c.args.t c.args.n c.signed_zero-zero.result g.met.P.Pattern.fits c.requires.0 c.requires.1 c.signed_zero-zero.ensures
    c.unit.result c.unit.ensures c.if-t-gt0.true (omega (arith, c.if-t-top_field.true, c.top_field.ensures))

outside : (g : _) (c : Joined-else-t-gt0 g) → Outside g.P.Pattern.format c.args.t
outside g c =
    elim c.else-t-gt0.branch [
      | else-t-gt0-via-then-t-gt0+else-t-top_field w ↦ inr (omega (arith, w.if-t-top_field.false, w.top_field.ensures))
      | else-t-gt0-via-else-t-gt0 w ↦ inl (omega (arith, w.if-t-gt0.false))
    ]

-- 1 - t, as a word
abbrev down : (g : _) (s : Start g) → ℕ
down g s = (1 + (18446744073709551616 - s.args.t)) % 18446744073709551616

distance : (g : _) (s : Start g) → Distance (down g s) s.args.t
distance g s = record { word = omega arith; sum = omega (arith, s.requires.1.word) }

low : (g : _) (c : After-shifted g) → Answered g.P.Pattern.format c.args.x c.args.m c.args.t c.args.n c.signed_zero-zero.result g.met.P.Pattern.fits c.requires.0 c.requires.1 c.signed_zero-zero.ensures (c.signed_zero-zero.result + c.shifted.result) 0
low g c =
    let s = (goal.at.After-shifted g c).Start in
    placed_below g.P.Pattern.format c.args.x c.args.m c.args.t c.args.n c.signed_zero-zero.result g.met.P.Pattern.fits c.requires.0 c.requires.1 c.signed_zero-zero.ensures
    (outside g (goal.at.After-shifted g c).Joined-else-t-gt0) (down g s) (distance g s) c.shifted.result c.shifted.ensures.0 (rw c.fraction_bits-fraction.ensures at c.shifted.ensures.1) (omega (arith, c.if-d-fraction.true, c.fraction_bits-fraction.ensures))

above : (g : _) (c : After-infinity_of g) → Answered g.P.Pattern.format c.args.x c.args.m c.args.t c.args.n c.signed_zero-zero.result g.met.P.Pattern.fits c.requires.0 c.requires.1 c.signed_zero-zero.ensures (c.signed_zero-zero.result + c.infinity_of.result) 3
above g c =
    let s = (goal.at.After-infinity_of g c).Start in
    placed_above g.P.Pattern.format c.args.x c.args.m c.args.t c.args.n c.signed_zero-zero.result g.met.P.Pattern.fits c.requires.0 c.requires.1 c.signed_zero-zero.ensures
    (outside g (goal.at.After-infinity_of g c).Joined-else-t-gt0) (down g s) (distance g s) c.infinity_of.result c.infinity_of.ensures (omega (arith, c.if-d-fraction.false, c.fraction_bits-fraction.ensures)) (from_zero c.args.n (rw (read g s) at c.if-n-lt0.false))

pub overflow_mul-t : goal.overflow_mul-t
overflow_mul-t g c = omega (arith, (normal g (goal.at.overflow_mul-t g c).After-unit).2, sign-most g (goal.at.overflow_mul-t g c).Start)

pub overflow_add-t : goal.overflow_add-t
overflow_add-t g c = omega (arith, (normal g (goal.at.overflow_add-t g c).After-unit).2, sign-most g (goal.at.overflow_add-t g c).Start)

pub overflow_add-zero : goal.overflow_add-zero
overflow_add-zero g c = omega (arith, (normal g (goal.at.overflow_add-zero g c).After-unit).2, sign-most g (goal.at.overflow_add-zero g c).Start)

pub from_word-requires : goal.from_word-requires
from_word-requires g c = (normal g (goal.at.from_word-requires g c).After-unit).2

pub returns-then-t-top_field : goal.returns-then-t-top_field
returns-then-t-top_field g c =
    let a = normal g (goal.at.returns-then-t-top_field g c).After-unit in
    (rw (c.of.ensures.0, c.from_word.ensures) a.0, rw c.of.ensures.1 a.1)

pub overflow_add-zero-then-d-fraction : goal.overflow_add-zero-then-d-fraction
overflow_add-zero-then-d-fraction g c = omega (arith, (low g (goal.at.overflow_add-zero-then-d-fraction g c).After-shifted).2, sign-most g (goal.at.overflow_add-zero-then-d-fraction g c).Start)

pub from_word-requires-then-d-fraction : goal.from_word-requires-then-d-fraction
from_word-requires-then-d-fraction g c = (low g (goal.at.from_word-requires-then-d-fraction g c).After-shifted).2

pub returns-then-d-fraction : goal.returns-then-d-fraction
returns-then-d-fraction g c =
    let a = low g (goal.at.returns-then-d-fraction g c).After-shifted in
    (rw (c.of-then-d-fraction.ensures.0, c.from_word-then-d-fraction.ensures) a.0, rw c.of-then-d-fraction.ensures.1 a.1)

pub returns-then-n-lt0 : goal.returns-then-n-lt0
returns-then-n-lt0 g c =
    let s = (goal.at.returns-then-n-lt0 g c).Start in
    let z = below_zero c.args.n (rw (read g s) at c.if-n-lt0.true) in
    let a =
    placed_none g.P.Pattern.format c.args.x c.args.m c.args.t c.args.n c.signed_zero-zero.result g.met.P.Pattern.fits c.requires.0 c.requires.1 c.signed_zero-zero.ensures
    (outside g (goal.at.returns-then-n-lt0 g c).Joined-else-t-gt0) (down g s) (distance g s) (omega (arith, c.if-d-fraction.false, c.fraction_bits-fraction.ensures)) z.0 z.1 in
    (rw (c.of-then-n-lt0.ensures.0, c.from_word-then-n-lt0.ensures) a.0, rw c.of-then-n-lt0.ensures.1 a.1)

pub overflow_add-zero-2 : goal.overflow_add-zero-2
overflow_add-zero-2 g c = omega (arith, (above g (goal.at.overflow_add-zero-2 g c).After-infinity_of).2, sign-most g (goal.at.overflow_add-zero-2 g c).Start)

pub from_word-requires-2 : goal.from_word-requires-2
from_word-requires-2 g c = (above g (goal.at.from_word-requires-2 g c).After-infinity_of).2

pub returns : goal.returns
returns g c =
    let a = above g (goal.at.returns g c).After-infinity_of in
    (rw c.from_word-2.ensures a.0, a.1)
