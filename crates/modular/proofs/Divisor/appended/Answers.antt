-- `appended` meets its contract. Assumes nothing.
use Rattle.std.proofs.Common.{ℕ, ◌%◌, ap, ◌∙◌}
use Rattle.modular.proofs.Residues.{moved_whole, moved_lt}
use Rattle.modular.proofs.Divisor.appended.Goals as goal

pub less_once-requires : goal.less_once-requires
less_once-requires c =
    let a = c.args in
    rw (moved_whole a.x a.digit a.self.number c.requires.0 c.requires.1 a.self.formed.below) (moved_lt a.x a.digit a.self.number c.requires.0 c.requires.1 a.self.formed.below)

pub returns : goal.returns
returns c =
    let a = c.args in
    c.less_once.ensures ∙ ap (λ (k : ℕ). k % a.self.number) (moved_whole a.x a.digit a.self.number c.requires.0 c.requires.1 a.self.formed.below)
