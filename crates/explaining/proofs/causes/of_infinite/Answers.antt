-- `of_infinite` meets its contract. Assumes nothing.
use Rattle.explaining.proofs.causes.of_infinite.Goals as goal

pub returns : goal.returns
returns c = λ t names n l e h. rw (c.is_infinite-low.ensures, c.is_infinite-high.ensures) at (c.of_ends.ensures t names n l e h)
