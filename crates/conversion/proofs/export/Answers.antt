-- `export` meets its contract: a law for each class, and for a finite number the rounded pattern by its place. Assumes nothing.
use mathlib.Core.Path.{refl, sym, ◌∙◌}
use Prim.Native.Nat.{ℕ, ◌+◌, ◌-◌, ◌/◌, ◌%◌, ◌^◌, ◌≤◌}
use native.Mathlib.Omega.{arith}
use lib.Arith.{lt_of_le-ne}
use Rattle.float_format.proofs.Shifting.{shifted_most}
use Rattle.conversion.proofs.Narrowed.{export_infinite, export_nan, export_in, export_out, rounds_normal, rounds_small, rounds_tiny, past_end}
use Rattle.conversion.proofs.export.Goals.{After-shifted-small}
use Rattle.conversion.proofs.export.Goals as goal

pub returns-then-a-gt2139095040 : goal.returns-then-a-gt2139095040
returns-then-a-gt2139095040 c = rw (c.of.ensures.0, c.of.ensures.1) (export_nan c.args.x (c.args.x % 0x8000_0000) (omega arith) refl (omega arith))

pub returns-then-a-eq2139095040 : goal.returns-then-a-eq2139095040
returns-then-a-eq2139095040 c =
    let o = c.of-then-a-eq2139095040.ensures in
    rw (o.0, o.1) (export_infinite c.args.x (c.args.x % 0x8000_0000) (omega arith) refl (omega arith))

pub returns-then-a-ge1199566848 : goal.returns-then-a-ge1199566848
returns-then-a-ge1199566848 c =
    let x : ℕ = c.args.x in
    export_out x (x % 0x8000_0000) (omega arith) refl (lt_of_le-ne (omega arith) c.if-a-eq2139095040.false) ((x % 0x8000_0000 - 0x3800_0000 + (0xfff + x % 0x8000_0000 / 0x2000 % 2)) / 0x2000)
    (rounds_normal x (x % 0x8000_0000) (omega arith) refl (omega arith)) (past_end (x % 0x8000_0000) (omega arith))

pub returns-then-a-ge947912704 : goal.returns-then-a-ge947912704
returns-then-a-ge947912704 c =
    let x : ℕ = c.args.x in
    let o = c.of-then-a-ge947912704.ensures in
    rw (o.0, o.1)
    (export_in x (x % 0x8000_0000) (omega arith) refl (omega arith) ((x % 0x8000_0000 - 0x3800_0000 + (0xfff + x % 0x8000_0000 / 0x2000 % 2)) / 0x2000)
    (rounds_normal x (x % 0x8000_0000) (omega arith) refl (omega arith)) (omega arith))

pub returns-then-a-lt855638016 : goal.returns-then-a-lt855638016
returns-then-a-lt855638016 c =
    let x : ℕ = c.args.x in
    let w = export_in x (x % 0x8000_0000) (omega arith) refl (omega arith) 0 (rounds_tiny x (x % 0x8000_0000) (omega arith) refl (omega arith)) (omega arith) in
    let o = c.of-then-a-lt855638016.ensures in
    rw (o.0, o.1) (omega (arith, w.0), w.1)

-- the significand's 24 digits less the 14 to 24 that go
small-most : (c : After-shifted-small) → c.shifted-small.result ≤ 2 ^ 10
small-most c =
    let x : ℕ = c.args.x in
    let a : ℕ = x % 0x8000_0000 in
    omega (arith, c.shifted-small.ensures.0, shifted_most 23 10 (0x80_0000 + a % 0x80_0000) (126 - a / 0x80_0000) (omega arith) (omega arith))

pub overflow_cast-small : goal.overflow_cast-small
overflow_cast-small c = record { fits = omega (arith, small-most (goal.at.overflow_cast-small c).After-shifted-small) }

pub overflow_add-sign-2 : goal.overflow_add-sign-2
overflow_add-sign-2 c = record { fits = omega (arith, small-most (goal.at.overflow_add-sign-2 c).After-shifted-small) }

pub returns : goal.returns
returns c =
    let x : ℕ = c.args.x in
    let r : ℕ = c.shifted-small.result in
    rw (c.of-2.ensures.0, c.of-2.ensures.1)
    (export_in x (x % 0x8000_0000) (omega arith) refl (omega arith) r
    (rounds_small x (x % 0x8000_0000) (omega arith) refl (omega arith) (omega arith) ∙ sym c.shifted-small.ensures.0) (omega (arith, small-most (goal.at.returns c).After-shifted-small)))
