-- `import` meets its contract: a law for each class. Assumes nothing.
use mathlib.Core.Path.{refl, ap, ◌∙◌, sym}
use Prim.Native.Nat.{ℕ, ◌+◌, ◌*◌, ◌%◌, ◌-◌}
use lib.Arith.{lt_of_le-ne}
use native.Mathlib.Omega.{arith}
use Rattle.conversion.proofs.Steps.{table_lt, import_subnormal, import_normal, import_infinite, import_nan}
use Rattle.conversion.proofs.import.Goals as goal

pub overflow_add-result : goal.overflow_add-result
overflow_add-result c = record { fits = omega (arith, c.subnormal.ensures, table_lt (c.args.x % 0x8000) (omega arith)) }

pub returns-then-a-lt1024 : goal.returns-then-a-lt1024
returns-then-a-lt1024 c =
    let x : ℕ = c.args.x in
    ap (λ (n : ℕ). (x - x % 0x8000) * 0x1_0000 + n) c.subnormal.ensures ∙ import_subnormal x (x % 0x8000) (omega arith) refl (omega arith)

pub returns-then-a-lt31744 : goal.returns-then-a-lt31744
returns-then-a-lt31744 c = import_normal c.args.x (c.args.x % 0x8000) (omega arith) refl (omega arith) (omega arith)

pub returns-then-a-eq31744 : goal.returns-then-a-eq31744
returns-then-a-eq31744 c = import_infinite c.args.x (c.args.x % 0x8000) (omega arith) refl (omega arith)

pub returns : goal.returns
returns c = import_nan c.args.x (c.args.x % 0x8000) (omega arith) refl (lt_of_le-ne (omega arith) (λ e. c.if-a-eq31744.false (sym e)))
