-- The whole mark (document 02, W-203; W-204 for step 24, W-208 for 40 to 42): which steps have values without a fraction, as far as their sheet
-- tells. The marks are a list beside the ranges. Definitions only; assumes nothing.
use Rattle.std.specs.Prelude.{Bool, true, false, not, ◌&&◌, ◌||◌, cond, List, [], ◌∷◌, ◌++◌, ℕ, eqb, get_or}
use Rattle.float_format.specs.Format.{binary64}
use Rattle.float_format.specs.Number.{below, is_integral}
use Rattle.recipe.specs.declared.Step.{Step}
use Rattle.recipe.specs.Table.{within}
use Rattle.recipe.specs.Text.{first, second}
use Rattle.semantics.specs.Range.{Range, doubles, wholes, low, high, infinite_end}

-- ---- a step's mark

abbrev pub is_whole : Range → Bool
is_whole (doubles l h) = false
is_whole (wholes l h) = true

-- low and high are one number; the two zeros are
abbrev pub one_number : Range → Bool
one_number r = not (below binary64 (low r) (high r))

-- by the opcode: r is the step's own range, a and b are its operands' marks
unfoldable pub mark_rule : ℕ → Range → Bool → Bool → Bool
mark_rule opcode r a b =
    -- every step of whole kind; 32, a whole number as a double
    cond (is_whole r || eqb opcode 0x32) true
    -- 01, 03: an input of one number, and a constant, where that is finite and integral
    (cond (eqb opcode 0x01 || eqb opcode 0x03) (one_number r && is_integral binary64 (low r))
    -- 10 to 14, the roundings: where both ends are finite
    (cond (within 0x10 0x14 opcode) (not (infinite_end r))
    -- 16, 17: fabs and negate keep it
    (cond (within 0x16 0x17 opcode) a
    -- 20 to 22, 24 and 40 to 42: fmin, fmax, fmod, remainder, add, subtract and multiply have it when both operands do; all others lack it
    (cond (within 0x20 0x22 opcode || eqb opcode 0x24 || within 0x40 0x42 opcode) (a && b) false))))

-- ---- the marks of a recipe

-- the start element of the marks: that of the ranges is whole (`no_range`)
abbrev pub no_mark : Bool
no_mark = true

abbrev pub mark_on : Step → Range → List Bool → Bool
mark_on t r l = mark_rule t.opcode r (get_or l (first t) no_mark) (get_or l (second t) no_mark)

-- of the steps that have the ranges rs, after steps of the marks l
unfoldable pub marks_from : List Step → List Range → List Bool → List Bool
marks_from [] rs l = l
marks_from (t ∷ ts) [] l = l
marks_from (t ∷ ts) (r ∷ rs) l = marks_from ts rs (l ++ (mark_on t r l ∷ []))

abbrev pub marks_of : List Step → List Range → List Bool
marks_of ts rs = marks_from ts rs []
