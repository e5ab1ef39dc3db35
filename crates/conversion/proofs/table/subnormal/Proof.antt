-- `subnormal` meets its contract: antt works out all 1,024 entries from the rule, and finds the source's arms. Assumes nothing.
use mathlib.Core.Path.{refl}
use lib.Ieee.{size, span, climb}
use contract.Running.{tables_of}
use borrow.Fn.World.{World}
use borrow.Fn.Run.{Over}
use borrow.Fn.Written.{close}
use Rattle.float_format.specs.Number.{encode}
use Rattle.conversion.specs.Conversion.{table_rule}
use Rattle.conversion.proofs.Lookup.{answers}
use Rattle.conversion.proofs.table.subnormal.Statement.{statement}
use Rattle.conversion.specs.contracts.table.subnormal.Key.{name}
use Rattle.conversion.proofs.table.subnormal.Code as code
use Rattle.conversion.proofs.table.subnormal.Kinds.{ps, r}
use Rattle.conversion.proofs.table.subnormal.Reads.{Ghost, requires, ensures, pre_read, post_read, Pinned, Owned, owns, passes, Pre, Post}

pub subnormal_spec : {M : Type 1} → statement M
unfolding tables_of encode size span climb
subnormal_spec {M} 𝓤 𝓛 𝓜 𝓡 wired =
    let w : World = record { M = M; 𝓤 = 𝓤; 𝓛 = 𝓛; 𝓜 = 𝓜; 𝓡 = 𝓡 } in
    close 0 ps r Ghost requires ensures pre_read Pinned Owned post_read w 𝓡.env name code.function (code.unfolded 𝓤 𝓛.H 𝓜 𝓡 wired) (λ κs a g. tt) (λ κs. owns κs w) (passes w)
    (λ g. answers table_rule 𝓛 (Over 𝓛 𝓜 𝓡 𝓡.env) 1023 tt Pre Post (λ κs a pre. (pre, λ e. refl)))
