-- The step table between its single opcodes: which row a range of opcodes has, and that the gaps have none. From opcode 10 on the table has
-- three blocks, each a range and one opcode after it, 24 between the last two, and 40 to 42 after them; a block is passed over, before or after it, or
-- entered. Assumes nothing.
use mathlib.Core.Path.{◌≡◌, ◌∙◌}
use mathlib.Core.Bool.{cond}
use Prim.Native.Nat.{ℕ, ◌≤◌, ◌<◌}
use native.Mathlib.Omega.{arith}
use lib.Dec.{eqb}
use borrow.Author.Tests.{ne_eqb, le-leb, lt-leb}
use Rattle.recipe.specs.declared.Row.{Row}
use Rattle.recipe.specs.declared.Row.TheVariants.{Unknown, Unary, Binary}
use Rattle.recipe.specs.declared.Kind.TheVariants.{Double, Whole}
use Rattle.recipe.specs.Table.{within, row_of}

-- a row from low to high, and one at the opcode after them
record Block : Type 0 where
  low : ℕ
  high : ℕ
  next : ℕ
  many : Row
  one : Row

abbrev tens : Block
tens = record { low = 0x10; high = 0x17; next = 0x18; many = Unary Double Double; one = Unary Double Whole }

abbrev twenties : Block
twenties = record { low = 0x20; high = 0x22; next = 0x23; many = Binary Double Double Double; one = Binary Double Whole Double }

abbrev thirties : Block
thirties = record { low = 0x30; high = 0x31; next = 0x32; many = Binary Whole Whole Whole; one = Unary Whole Double }

-- n's row of the block, and z where it has none
abbrev look : Block → ℕ → Row → Row
look b n z = cond (within b.low b.high n) b.many (cond (eqb n b.next) b.one z)

module _ (b : Block) (n : ℕ) (z : Row) where
  before : n < b.low → (n ≡ b.next → ⊥) → look b n z ≡ z
  before l e = rw (lt-leb b.low n l, ne_eqb n b.next e)

  inside : b.low ≤ n → n ≤ b.high → look b n z ≡ b.many
  inside l h = rw (le-leb b.low n l, le-leb n b.high h)

  after : b.low ≤ n → b.high < n → (n ≡ b.next → ⊥) → look b n z ≡ z
  after l h e = rw (le-leb b.low n l, lt-leb n b.high h, ne_eqb n b.next e)

-- ---- the rows of ranges and gaps

-- after the inputs and constants the table is the three blocks, with 24 alone before the last, and 40 to 42
abbrev from40 : ℕ → Row
from40 n = cond (within 0x40 0x42 n) (Binary Double Double Double) Unknown

abbrev from30 : ℕ → Row
from30 n = look thirties n (from40 n)

abbrev from24 : ℕ → Row
from24 n = cond (eqb n 0x24) (Binary Double Double Double) (from30 n)

abbrev from20 : ℕ → Row
from20 n = look twenties n (from24 n)

not_24 : (n : ℕ) → (n ≡ 0x24 → ⊥) → from24 n ≡ from30 n
not_24 n e = rw (ne_eqb n 0x24 e)

under_40 : (n : ℕ) → n < 0x40 → from40 n ≡ Unknown
under_40 n h = rw (lt-leb 0x40 n h)

-- from 25 to 2f
under_30 : (n : ℕ) → n < 0x30 → from30 n ≡ Unknown
under_30 n h = before thirties n (from40 n) h (λ e. omega arith) ∙ under_40 n (omega arith)

blocks : (n : ℕ) → (n ≡ 1 → ⊥) → (n ≡ 2 → ⊥) → (n ≡ 3 → ⊥) → (n ≡ 4 → ⊥) → row_of n ≡ look tens n (from20 n)
unfolding row_of
blocks n not1 not2 not3 not4 = rw (ne_eqb n 1 not1, ne_eqb n 2 not2, ne_eqb n 3 not3, ne_eqb n 4 not4)

pub before_10 : (n : ℕ) → n < 0x10 → (n ≡ 1 → ⊥) → (n ≡ 2 → ⊥) → (n ≡ 3 → ⊥) → (n ≡ 4 → ⊥) → row_of n ≡ Unknown
before_10 n h not1 not2 not3 not4 =
    blocks n not1 not2 not3 not4
    ∙ before tens n (from20 n) h (λ e. omega arith)
    ∙ before twenties n (from24 n) (omega arith) (λ e. omega arith)
    ∙ not_24 n (λ e. omega arith)
    ∙ under_30 n (omega arith)

module _ (n : ℕ) where
  from_10_on : 0x10 ≤ n → row_of n ≡ look tens n (from20 n)
  from_10_on l = blocks n (λ e. omega arith) (λ e. omega arith) (λ e. omega arith) (λ e. omega arith)

  pub from_10 : 0x10 ≤ n → n < 0x18 → row_of n ≡ Unary Double Double
  from_10 l h = from_10_on l ∙ inside tens n (from20 n) l (omega arith)

  after_18 : 0x18 < n → row_of n ≡ from20 n
  after_18 l = from_10_on (omega arith) ∙ after tens n (from20 n) (omega arith) (omega arith) (λ e. omega arith)

  pub before_20 : 0x18 < n → n < 0x20 → row_of n ≡ Unknown
  before_20 l h = after_18 l ∙ before twenties n (from24 n) h (λ e. omega arith) ∙ not_24 n (λ e. omega arith) ∙ under_30 n (omega arith)

  pub from_20 : 0x20 ≤ n → n < 0x23 → row_of n ≡ Binary Double Double Double
  from_20 l h = after_18 (omega arith) ∙ inside twenties n (from24 n) l (omega arith)

  after_24 : 0x24 < n → row_of n ≡ from30 n
  after_24 l = after_18 (omega arith) ∙ after twenties n (from24 n) (omega arith) (omega arith) (λ e. omega arith) ∙ not_24 n (λ e. omega arith)

  pub before_30 : 0x24 < n → n < 0x30 → row_of n ≡ Unknown
  before_30 l h = after_24 l ∙ under_30 n h

  pub from_30 : 0x30 ≤ n → n < 0x32 → row_of n ≡ Binary Whole Whole Whole
  from_30 l h = after_24 (omega arith) ∙ inside thirties n (from40 n) l (omega arith)

  after_32 : 0x32 < n → row_of n ≡ from40 n
  after_32 l = after_24 (omega arith) ∙ after thirties n (from40 n) (omega arith) (omega arith) (λ e. omega arith)

  pub before_40 : 0x32 < n → n < 0x40 → row_of n ≡ Unknown
  before_40 l h = after_32 l ∙ under_40 n h

  pub from_40 : 0x40 ≤ n → n < 0x43 → row_of n ≡ Binary Double Double Double
  from_40 l h = after_32 (omega arith) ∙ rw (le-leb 0x40 n l, le-leb n 0x42 (omega arith))

  pub after_42 : 0x42 < n → row_of n ≡ Unknown
  after_42 l = after_32 (omega arith) ∙ rw (le-leb 0x40 n (omega arith), lt-leb n 0x42 l)
