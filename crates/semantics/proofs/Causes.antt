-- A step's causes and the sheet's rule: a cause holds exactly where the rule refuses, and the first one that holds has the rule's number. What
-- codes there are, in which order, and which operand each names. Assumes nothing.
use mathlib.Core.Path.{◌≡◌, refl, sym, ap, ◌∙◌}
use mathlib.Core.Bool.{Bool, true, false, not, ◌&&◌, ◌||◌, cond}
use mathlib.Core.List.{List, [], ◌∷◌, ◌++◌, map}
use Prim.Native.Nat.{ℕ, ◌^◌, ◌≤◌, ◌<◌}
use native.Mathlib.Omega.{arith}
use lib.Dec.{eqb, leb, ltb}
use lib.IntN.{nat_abs, ◌+ℤ◌, ◌-ℤ◌}
use borrow.Author.Tests.{ltb-true}
use Rattle.float_format.specs.Format.{binary64, is_infinite}
use Rattle.float_format.specs.Rounding.{lround_refusal}
use Rattle.recipe.specs.declared.Step.{Step}
use Rattle.semantics.specs.Value.{fits_word}
use Rattle.semantics.specs.Range.{Range, doubles, Ranged, ranged, low, high, least, most, holds_zero, infinite_end, low_power, high_power, sum_low, sum_high, difference_low, difference_high, product_low, product_high, worked_range, infinite_sum, infinite_difference, infinite_product, range_rule, step_range}
use Rattle.semantics.specs.Range as range
use Rattle.semantics.specs.Cause.{Named, of_a, of_b, Cause, cause, Found, none, found, overflows, arithmetic_causes, first_cause, causes_of, cause_of}
use Rattle.semantics.proofs.Sound.Kept.{both}
use Rattle.semantics.proofs.Sound.Products.{infinite_products}
use Rattle.semantics.proofs.Rules.{Unlisted, absent, range_unlisted, by_opcode}

-- ---- the first of a list that holds

-- none of them holds
pub data Quiet : List Cause → Type 0 where
  nothing : Quiet []
  still : (c : Cause) (l : List Cause) → c.holds ≡ false → Quiet l → Quiet (c ∷ l)

-- the list is what stands before c, of which nothing holds, c, which holds, and the rest
pub record First (l : List Cause) (c : Cause) : Type 0 where
  pub before : List Cause
  pub after : List Cause
  pub parts : l ≡ before ++ (c ∷ after)
  pub holds : c.holds ≡ true
  pub quiet : Quiet before

-- what was looked for
pub data Looked (l : List Cause) : Found → Type 0 where
  missing : Quiet l → Looked l none
  there : (c : Cause) → First l c → Looked l (found c)

later : (d : Cause) (l : List Cause) {x : Found} → d.holds ≡ false → Looked l x → Looked (d ∷ l) x
later d l e (missing q) = missing (still d l e q)
later d l e (there c f) =
    there c (record { before = d ∷ f.before; after = f.after; parts = ap (λ (m : List Cause). d ∷ m) f.parts; holds = f.holds; quiet = still d f.before e f.quiet })

pub looked : (l : List Cause) → Looked l (first_cause l)
unfolding first_cause
looked [] = missing nothing
looked (d ∷ l) = pick d.holds refl (looked l)
  where
    pick : (t : Bool) → d.holds ≡ t → Looked l (first_cause l) → Looked (d ∷ l) (elim t [ true ↦ found d | false ↦ first_cause l ])
    pick true e g = there d (record { before = []; after = l; parts = refl; holds = e; quiet = nothing })
    pick false e g = later d l e g

-- ---- facts in a row against one refusal

abbrev pub number_of : Found → ℕ
number_of none = 0
number_of (found c) = c.number

abbrev pub refusal_of : Ranged → ℕ
refusal_of (ranged r) = 0
refusal_of (range.refused number) = number

two : (s u : Bool) (c d n : ℕ) (r : Range) → number_of (first_cause (cause c of_a n (not s) ∷ cause d of_a n (not u) ∷ [])) ≡ refusal_of (cond (s && u) (ranged r) (range.refused n))
unfolding first_cause
two true true c d n r = refl
two true false c d n r = refl
two false u c d n r = refl

three : (z l h : Bool) (r : Range) → number_of (first_cause (cause 1 of_b 20 z ∷ cause 2 of_a 20 l ∷ cause 3 of_a 20 h ∷ [])) ≡ refusal_of (cond ((l || h) || z) (range.refused 20) (ranged r))
unfolding first_cause
three true true h r = refl
three true false true r = refl
three true false false r = refl
three false true h r = refl
three false false true r = refl
three false false false r = refl

four : (l h x y : Bool) (r : Range)
    → number_of (first_cause (cause 8 of_a 21 l ∷ cause 9 of_a 21 h ∷ cause 10 of_a 21 x ∷ cause 11 of_a 21 y ∷ [])) ≡ refusal_of (cond (((l || h) || x) || y) (range.refused 21) (ranged r))
unfolding first_cause
four true h x y r = refl
four false true x y r = refl
four false false true y r = refl
four false false false true r = refl
four false false false false r = refl

-- two numbers in a row: any of the first four facts is refused with 20, then any of the last two with 21
six : (l h k m x y : Bool) (r : Range)
    → number_of (first_cause (cause 14 of_a 20 l ∷ cause 15 of_a 20 h ∷ cause 16 of_b 20 k ∷ cause 17 of_b 20 m ∷ cause 18 of_a 21 x ∷ cause 19 of_a 21 y ∷ []))
    ≡ refusal_of (cond ((l || h) || (k || m)) (range.refused 20) (cond (x || y) (range.refused 21) (ranged r)))
unfolding first_cause
six true h k m x y r = refl
six false true k m x y r = refl
six false false true m x y r = refl
six false false false true x y r = refl
six false false false false true y r = refl
six false false false false false true r = refl
six false false false false false false r = refl

-- ---- by the opcode

-- an opcode that the table has not has no cause
pub none_unlisted : (k : ℕ) (a b : Range) → Unlisted k → causes_of k a b ≡ []
unfolding causes_of
none_unlisted k a b h =
    let g = absent k h in
    simp (g.no_18, g.no_22, g.no_23, g.no_24, g.no_30, g.no_31, g.no_32, g.no_40, g.no_41, g.no_42)

module _ (p q : ℕ) (a b : Range) where
  abbrev Exact : ℕ → Type 0
  Exact k = number_of (first_cause (causes_of k a b)) ≡ refusal_of (range_rule k p q a b)

  other : (k : ℕ) → Unlisted k → Exact k
  unfolding first_cause
  other k h = simp (← range_unlisted k p q a b h, none_unlisted k a b h)

  -- the two causes that follow from the answer's ends l and h, where over says that one of them is infinite
  worked_exact : (over : Bool) (l h : ℕ) → over ≡ (is_infinite binary64 l || is_infinite binary64 h)
      → number_of (first_cause (arithmetic_causes a b l h)) ≡ refusal_of (worked_range a b over l h)
  worked_exact over l h e =
      six (is_infinite binary64 (low a)) (is_infinite binary64 (high a)) (is_infinite binary64 (low b)) (is_infinite binary64 (high b)) (is_infinite binary64 l) (is_infinite binary64 h) (doubles l h)
      ∙ ap (λ (t : Bool). refusal_of (worked_range a b t l h)) (sym e)

  exact : (k : ℕ) → Exact k
  unfolding range_rule causes_of first_cause
  exact =
      by_opcode Exact refl refl refl refl refl refl refl refl refl refl refl refl
      (two (eqb (lround_refusal binary64 (low a)) 0) (eqb (lround_refusal binary64 (high a)) 0) 4 5 21 _)
      refl refl
      (three (holds_zero b) (is_infinite binary64 (low a)) (is_infinite binary64 (high a)) _)
      (four (is_infinite binary64 (low a)) (is_infinite binary64 (high a)) (overflows (low a) (low_power a b)) (overflows (high a) (high_power a b)) _)
      (three (holds_zero b) (is_infinite binary64 (low a)) (is_infinite binary64 (high a)) _)
      (two (fits_word (least a +ℤ least b)) (fits_word (most a +ℤ most b)) 6 7 21 _)
      (two (fits_word (least a -ℤ most b)) (fits_word (most a -ℤ least b)) 6 7 21 _)
      (two (leb (nat_abs (least a)) (2 ^ 53)) (leb (nat_abs (most a)) (2 ^ 53)) 12 13 22 _)
      (worked_exact (infinite_sum a b) (sum_low a b) (sum_high a b) refl)
      (worked_exact (infinite_difference a b) (difference_low a b) (difference_high a b) refl)
      (worked_exact (infinite_product a b) (product_low a b) (product_high a b) (infinite_products a b))
      other

-- There is a cause exactly where the sheet's rule refuses, and the first has its number.
pub cause_exact : (t : Step) (a b : Range) → number_of (cause_of t a b) ≡ refusal_of (step_range t a b)
unfolding cause_of step_range
cause_exact t a b = exact t.p t.q a b t.opcode

-- ---- the numbers of the sheet's refusals

-- a range, or a refusal numbered 20 to 22
pub data RangeNumbered : Ranged → Type 0 where
  shown : (r : Range) → RangeNumbered (ranged r)
  turned : (number : ℕ) → 20 ≤ number → number ≤ 22 → RangeNumbered (range.refused number)

either : (t : Bool) (x y : Ranged) → RangeNumbered x → RangeNumbered y → RangeNumbered (cond t x y)
either true x y p q = p
either false x y p q = q

pub range_numbered : (t : Step) (a b : Range) → RangeNumbered (step_range t a b)
unfolding step_range range_rule
range_numbered t a b =
    by_opcode (λ (k : ℕ). RangeNumbered (range_rule k t.p t.q a b))
    (shown _) (shown _) (shown _) (shown _) (shown _) (shown _) (shown _) (shown _) (shown _) (shown _) (shown _) (shown _)
    (either (eqb (lround_refusal binary64 (low a)) 0 && eqb (lround_refusal binary64 (high a)) 0) _ _ (shown _) overflow)
    (shown _) (shown _)
    (either (infinite_end a || holds_zero b) _ _ domain (shown _))
    (either (infinite_end a || overflows (low a) (low_power a b) || overflows (high a) (high_power a b)) _ _ overflow (shown _))
    (either (infinite_end a || holds_zero b) _ _ domain (shown _))
    (either (fits_word (least a +ℤ least b) && fits_word (most a +ℤ most b)) _ _ (shown _) overflow)
    (either (fits_word (least a -ℤ most b) && fits_word (most a -ℤ least b)) _ _ (shown _) overflow)
    (either (leb (nat_abs (least a)) (2 ^ 53) && leb (nat_abs (most a)) (2 ^ 53)) _ _ (shown _) (turned 22 (omega arith) (omega arith)))
    (computed (infinite_sum a b) (sum_low a b) (sum_high a b))
    (computed (infinite_difference a b) (difference_low a b) (difference_high a b))
    (computed (infinite_product a b) (product_low a b) (product_high a b))
    (λ k h. rw (sym (range_unlisted k t.p t.q a b h)) (shown _))
    t.opcode
  where
    domain : RangeNumbered (range.refused 20)
    domain = turned 20 (omega arith) (omega arith)

    overflow : RangeNumbered (range.refused 21)
    overflow = turned 21 (omega arith) (omega arith)

    computed : (over : Bool) (l h : ℕ) → RangeNumbered (worked_range a b over l h)
    computed over l h = either (infinite_end a || infinite_end b) _ _ domain (either over _ _ overflow (shown (doubles l h)))

-- ---- no code is 0

unfoldable all_coded : List Cause → Bool
all_coded [] = true
all_coded (c ∷ l) = ltb 0 c.code && all_coded l

coded : (k : ℕ) (a b : Range) → all_coded (causes_of k a b) ≡ true
unfolding causes_of all_coded
coded k a b =
    by_opcode (λ (k : ℕ). all_coded (causes_of k a b) ≡ true) refl refl refl refl refl refl refl refl refl refl refl refl refl refl refl refl refl refl refl refl refl refl refl refl
    (λ k h. rw (none_unlisted k a b h)) k

coded_at : (before : List Cause) (c : Cause) (after : List Cause) → all_coded (before ++ (c ∷ after)) ≡ true → 0 < c.code
unfolding all_coded
coded_at [] c after e = ltb-true 0 c.code (both (ltb 0 c.code) (all_coded after) e).0
coded_at (d ∷ l) c after e = coded_at l c after (both (ltb 0 d.code) (all_coded (l ++ (c ∷ after))) e).1

pub code_positive : (k : ℕ) (a b : Range) (c : Cause) → First (causes_of k a b) c → 0 < c.code
code_positive k a b c f = coded_at f.before c f.after (ap all_coded (sym f.parts) ∙ coded k a b)

-- ---- a step that is turned down

-- it has a first cause, with the refusal's number
pub record Turned (t : Step) (a b : Range) (number : ℕ) : Type 0 where
  pub why : Cause
  pub is : cause_of t a b ≡ found why
  pub first : First (causes_of t.opcode a b) why
  pub same : why.number ≡ number
  pub coded : 0 < why.code
  pub from_20 : 20 ≤ number
  pub to_22 : number ≤ 22

pub turned_down : (t : Step) (a b : Range) (number : ℕ) → step_range t a b ≡ range.refused number → Turned t a b number
unfolding cause_of
turned_down t a b number e = go (range_numbered t a b) e
  where
    number_is : (x : Found) → first_cause (causes_of t.opcode a b) ≡ x → number_of x ≡ number
    number_is x f = ap number_of (sym f) ∙ cause_exact t a b ∙ ap refusal_of e

    at : {x : Found} → Looked (causes_of t.opcode a b) x → first_cause (causes_of t.opcode a b) ≡ x → 20 ≤ number → number ≤ 22 → Turned t a b number
    at (missing q) f l h = absurd (omega (arith, number_is none f))
    at (there c g) f l h = record { why = c; is = f; first = g; same = number_is (found c) f; coded = code_positive t.opcode a b c g; from_20 = l; to_22 = h }

    go : {x : Ranged} → RangeNumbered x → x ≡ range.refused number → Turned t a b number
    go (shown r) q = let z : ◌≡◌ {A = ℕ} 0 1 = cc in absurd (omega arith)
    go (turned n l h) q = at (looked (causes_of t.opcode a b)) refl (omega (arith, ap refusal_of q)) (omega (arith, ap refusal_of q))

-- ---- the codes of an opcode, and the operands that they name, whatever the ranges

abbrev pub codes : List Cause → List ℕ
codes l = map (λ (c : Cause). c.code) l

abbrev pub operands : List Cause → List Named
operands l = map (λ (c : Cause). c.names) l

module _ (a b : Range) where
  pub remainder_codes : (codes (causes_of 0x22 a b) ≡ 1 ∷ 2 ∷ 3 ∷ []) × (operands (causes_of 0x22 a b) ≡ of_b ∷ of_a ∷ of_a ∷ [])
  unfolding causes_of
  remainder_codes = (refl, refl)

  -- 24 has the causes of 22
  pub nearest_codes : causes_of 0x24 a b ≡ causes_of 0x22 a b
  unfolding causes_of
  nearest_codes = refl

  pub lround_codes : (codes (causes_of 0x18 a b) ≡ 4 ∷ 5 ∷ []) × (operands (causes_of 0x18 a b) ≡ of_a ∷ of_a ∷ [])
  unfolding causes_of
  lround_codes = (refl, refl)

  pub sum_codes : (codes (causes_of 0x30 a b) ≡ 6 ∷ 7 ∷ []) × (operands (causes_of 0x30 a b) ≡ of_a ∷ of_a ∷ [])
  unfolding causes_of
  sum_codes = (refl, refl)

  pub difference_codes : (codes (causes_of 0x31 a b) ≡ 6 ∷ 7 ∷ []) × (operands (causes_of 0x31 a b) ≡ of_a ∷ of_a ∷ [])
  unfolding causes_of
  difference_codes = (refl, refl)

  pub ldexp_codes : (codes (causes_of 0x23 a b) ≡ 8 ∷ 9 ∷ 10 ∷ 11 ∷ []) × (operands (causes_of 0x23 a b) ≡ of_a ∷ of_a ∷ of_a ∷ of_a ∷ [])
  unfolding causes_of
  ldexp_codes = (refl, refl)

  pub double_codes : (codes (causes_of 0x32 a b) ≡ 12 ∷ 13 ∷ []) × (operands (causes_of 0x32 a b) ≡ of_a ∷ of_a ∷ [])
  unfolding causes_of
  double_codes = (refl, refl)

  -- 40 to 42 have the same codes, which name the same operands
  pub add_codes : (codes (causes_of 0x40 a b) ≡ 14 ∷ 15 ∷ 16 ∷ 17 ∷ 18 ∷ 19 ∷ []) × (operands (causes_of 0x40 a b) ≡ of_a ∷ of_a ∷ of_b ∷ of_b ∷ of_a ∷ of_a ∷ [])
  unfolding causes_of
  add_codes = (refl, refl)

  pub subtract_codes : (codes (causes_of 0x41 a b) ≡ codes (causes_of 0x40 a b)) × (operands (causes_of 0x41 a b) ≡ operands (causes_of 0x40 a b))
  unfolding causes_of
  subtract_codes = (refl, refl)

  pub multiply_codes : (codes (causes_of 0x42 a b) ≡ codes (causes_of 0x40 a b)) × (operands (causes_of 0x42 a b) ≡ operands (causes_of 0x40 a b))
  unfolding causes_of
  multiply_codes = (refl, refl)
