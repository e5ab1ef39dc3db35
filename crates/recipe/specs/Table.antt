-- The step table (document 01, "Recipe text"; steps 24 and 40 to 42: document 02, W-204 and W-208): what each opcode takes and gives. The reader goes
-- by it, and the run to tell its inputs; the step and range rules go by the opcode itself. Definitions only; assumes nothing.
use Rattle.std.specs.Prelude.{Bool, true, false, ◌&&◌, cond, ℕ, eqb, leb}
use Rattle.recipe.specs.declared.Kind.{Kind}
use Rattle.recipe.specs.declared.Kind.TheVariants.{Double, Whole}
use Rattle.recipe.specs.declared.Row.{Row}
use Rattle.recipe.specs.declared.Row.TheVariants.{Unknown, Input, Constant, Unary, Binary}

-- low to high, both included
abbrev pub within : ℕ → ℕ → ℕ → Bool
within low high n = leb low n && leb n high

unfoldable pub row_of : ℕ → Row
row_of opcode =
    -- 01, 02 double and whole input; 03, 04 double and whole constant
    cond (eqb opcode 0x01) (Input Double)
    (cond (eqb opcode 0x02) (Input Whole)
    (cond (eqb opcode 0x03) (Constant Double)
    (cond (eqb opcode 0x04) (Constant Whole)
    -- 10 to 14 the roundings, 15 modf's fraction, 16 fabs, 17 negate; 18 lround
    (cond (within 0x10 0x17 opcode) (Unary Double Double)
    (cond (eqb opcode 0x18) (Unary Double Whole)
    -- 20, 21 fmin, fmax; 22 fmod; 23 ldexp; 24 remainder
    (cond (within 0x20 0x22 opcode) (Binary Double Double Double)
    (cond (eqb opcode 0x23) (Binary Double Whole Double)
    (cond (eqb opcode 0x24) (Binary Double Double Double)
    -- 30, 31 whole sum and difference; 32 whole to double
    (cond (within 0x30 0x31 opcode) (Binary Whole Whole Whole)
    (cond (eqb opcode 0x32) (Unary Whole Double)
    -- 40 add, 41 subtract, 42 multiply
    (cond (within 0x40 0x42 opcode) (Binary Double Double Double) Unknown)))))))))))

-- the kind of a step's value
abbrev pub answer_kind : Row → Kind
answer_kind Unknown = Double
answer_kind (Input k) = k
answer_kind (Constant k) = k
answer_kind (Unary a k) = k
answer_kind (Binary a b k) = k

abbrev pub is_input : Row → Bool
is_input Unknown = false
is_input (Input k) = true
is_input (Constant k) = false
is_input (Unary a k) = false
is_input (Binary a b k) = false

abbrev pub same_kind : Kind → Kind → Bool
same_kind Double Double = true
same_kind Double Whole = false
same_kind Whole Double = false
same_kind Whole Whole = true

-- 01 double, 02 whole
abbrev pub kind_number : Kind → ℕ
kind_number Double = 1
kind_number Whole = 2
