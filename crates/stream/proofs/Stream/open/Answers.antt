-- `Stream::open` meets its contract, by the recipe's refusal. Assumes nothing.
use mathlib.Core.Path.{◌≡◌, refl, sym, ◌∙◌}
use mathlib.Core.List.{[]}
use native.Mathlib.Omega.{arith}
use lib.ListN.{length, take}
use borrow.Author.Rules.{rules}
use Rattle.std.specs.Prelude.{Ok, Err}
use Rattle.programs.specs.declared.End.TheVariants.{Empty}
use Rattle.programs.proofs.Stages.{read_refused, read_passed, fed_refused, fed_opened}
use Rattle.reader.specs.Checks.{reading_of}
use Rattle.reader.proofs.Laws.{some_number, read_count}
use Rattle.stream.proofs.Stream.open.Goals as goal

pub invariant_of-self : goal.invariant_of-self
invariant_of-self c =
    let r = read_count (take c.args.n c.args.self.now.buffer) c.read.new.steps c.in-Ok.steps c.in-Ok.ensures.1 in
    record { few = (omega arith, omega (arith, r.1), omega arith) }

pub returns-in-Ok : goal.returns-in-Ok
returns-in-Ok c =
    let a = c.args in
    let t = take a.n a.self.now.buffer in
    let r = reading_of (Ok c.in-Ok.steps) in
    let w = c.read.new.steps in
    let e = c.in-Ok.ensures.1 in
    let n : length a.self.now.words ≡ 384 = search rules in
    let x = sym (read_passed t r w e (λ l. []) refl) in
    (omega arith, x, λ u piece f. fed_opened u piece a.n a.self.now.buffer w Empty c.requires.0 f r [] refl e x (omega (arith, c.in-Ok.ensures.0)) refl, refl, refl)

pub returns-in-Err : goal.returns-in-Err
returns-in-Err c =
    let a = c.args in
    let t = take a.n a.self.now.buffer in
    let r = reading_of (Err c.in-Err.refusal) in
    let w = c.read.new.steps in
    let e = c.in-Err.ensures.1 in
    let z = some_number c.in-Err.refusal.fault in
    let x = rw (c.fault_number.ensures, c.from.ensures) at c.refusal_line.ensures.1 ∙ sym (read_refused t r w e (λ l. []) z) in
    (c.refusal_line.ensures.0, x, λ u piece f. fed_refused u piece a.n a.self.now.buffer w Empty c.requires.0 f r _ refl e x z, c.refusal_line.ensures.2, refl)
