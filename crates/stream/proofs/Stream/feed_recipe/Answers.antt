-- `Stream::feed_recipe` meets its contract, by the recipe's end. Assumes nothing.
use mathlib.Core.Path.{refl}
use native.Mathlib.Omega.{arith}
use lib.ListN.{take}
use Rattle.programs.proofs.Stages.{fed_missing, fed_endless}
use Rattle.stream.proofs.Stream.feed_recipe.Goals as goal

pub returns-in-Missing : goal.returns-in-Missing
returns-in-Missing c =
    let a = c.args in
    let h = c.take_recipe-head.result in
    let e = c.take_recipe-head.ensures in
    (e.0, e.1, omega arith, fed_missing (take a.count a.self.now.buffer) (take h.at a.chunk.now) h.count c.take_recipe-head.new.buffer a.self.now.words h.end e.2 e.3 c.in-Missing.is, refl)

pub returns-in-Endless : goal.returns-in-Endless
returns-in-Endless c =
    let a = c.args in
    let h = c.take_recipe-head.result in
    let e = c.take_recipe-head.ensures in
    let r = c.refusal_line-put.ensures in
    (e.0, e.1, r.0, fed_endless (take a.count a.self.now.buffer) (take h.at a.chunk.now) h.count c.take_recipe-head.new.buffer a.self.now.words h.end e.2 e.3 _ c.in-Endless.is r.1, r.2)
