-- `Stream::finish` meets its contract, by the stage. Assumes nothing.
use mathlib.Core.Path.{◌≡◌, refl, sym}
use native.Mathlib.Omega.{arith}
use lib.ListN.{length}
use borrow.Author.Rules.{rules}
use Rattle.std.specs.Prelude.{Some}
use Rattle.programs.proofs.Stages.{finished_recipe, finished_between, finished_line, finished_done}
use Rattle.stream.proofs.Stream.finish.Goals.{in-Some-eq0, in_default, in_default-2}
use Rattle.stream.proofs.Stream.finish.Goals as goal

pub returns-then-matches : goal.returns-then-matches
returns-then-matches c =
    let s = c.args.self.now in
    let z : c.in-Frames.kept ≡ Some 0 = elim c.match-matches.branch [ in-Some-eq0 w ↦ search rules | in_default w ↦ search rules | in_default-2 w ↦ search rules ] in
    (omega arith, λ g h. finished_between s.stage s.buffer s.words c.in-Frames.steps c.in-Frames.kept g h c.in-Frames.is z, refl, (refl, refl))

pub returns-else-matches : goal.returns-else-matches
returns-else-matches c =
    let s = c.args.self.now in
    let e = c.kept_line.ensures in
    let n : length s.buffer ≡ 4993 = search rules in
    let z : c.in-Frames.kept ≡ Some 0 → ⊥ = λ q. elim c.match-matches.branch [ in-Some-eq0 w ↦ search rules | in_default w ↦ search rules | in_default-2 w ↦ search rules ] in
    (omega (arith, e.0), λ g h. finished_line s.stage s.buffer s.words c.in-Frames.steps c.in-Frames.kept _ g h c.in-Frames.is z (omega arith) e.1, e.2, (refl, refl))

pub returns-in-Recipe : goal.returns-in-Recipe
returns-in-Recipe c =
    let s = c.args.self.now in
    let e = c.open-put.ensures in
    (omega (arith, e.0), λ g h. finished_recipe s.stage s.buffer s.words c.in-Recipe.count _ g h c.in-Recipe.is e.1, e.3, (sym c.in-Recipe.is, e.4))

pub returns-in-Done : goal.returns-in-Done
returns-in-Done c =
    let s = c.args.self.now in
    (omega arith, λ g h. finished_done s.stage s.buffer s.words g h c.in-Done.is, refl, (refl, refl))
