-- `respond_all` meets its contract. The invariant: the first i lines of output are the answers to the first i of input. The measure is the
-- lines left. Assumes nothing.
use mathlib.Core.Path.{◌≡◌, refl, ◌∙◌, sym, ap}
use mathlib.Core.List.{◌++◌}
use Prim.Native.Nat.{ℕ, ◌+◌, ◌-◌, ◌*◌}
use native.Mathlib.Omega.{arith}
use lib.ListN.{take, drop}
use Rattle.vectors.specs.Line.{response_of, responses}
use Rattle.hexadecimal.proofs.Parts.{put_next}
use Rattle.vectors.proofs.Lines.{none, more}
use Rattle.vectors.proofs.respond_all.Goals as goal

pub loop-i-init : goal.loop-i-init
loop-i-init c = (omega arith, refl, none _)

pub respond-requires : goal.respond-requires
respond-requires c = (c.respond-arg-1.given.1 ∙ omega arith, sym c.respond-arg-in-loop-i-1.given.1 ∙ omega arith)

pub loop-i-preserved : goal.loop-i-preserved
loop-i-preserved c =
    let input = c.args.input.now in
    let l = c.loop-i in
    let last = c.respond.new.output in
    let k = l.i * 37 + 37 - l.i * 37 in
    let m : (l.i + 1) * 37 ≡ l.i * 37 + k = omega arith in
    let j : l.i * 40 + 40 - l.i * 40 ≡ 40 = omega arith in (
      omega arith,
      c.output-1.given.1 ∙ l.invariant.1,
      rw m
          (put_next l.output (responses input l.i) last (l.i * 37) k (omega (arith, l.invariant.1)) (c.output-1.given.0 ∙ sym c.respond-arg-in-loop-i-1.given.1) l.invariant.2
          ∙ ap (λ x. responses input l.i ++ x) (c.respond.ensures ∙ ap (λ (n : ℕ). response_of (take n (drop (l.i * 40) input))) j)
          ∙ sym (more input l.i)),
    )

pub returns : goal.returns
returns c =
    let l = c.loop-i in
    let e : c.args.n ≡ l.i = omega arith in
    rw e l.invariant.2
