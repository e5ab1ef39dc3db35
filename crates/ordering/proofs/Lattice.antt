-- fmin and fmax to the bit, on numbers: in whichever order the operands come, and however three are taken together, the answer is the same;
-- each absorbs the other, and is the other's mirror; no operand comes before fmin's answer nor after fmax's; of the two zeros fmin gives -0
-- and fmax +0. The one idea: the key of the answer is the lesser, or the greater, of the operands' keys, and no two patterns share a key, so that
-- each law is one of whole numbers. Over every format. Assumes nothing.
use mathlib.Core.Path.{◌≡◌, sym, ap, ◌∙◌}
use mathlib.Core.Bool.{Bool, true, false, not}
use mathlib.Core.Logic.{◌⊎◌, ⊎_elim}
use Prim.Native.Nat.{ℕ, min, max, ◌+◌, ◌*◌, ◌<◌}
use native.Mathlib.Nat.{min_comm, max_comm}
use native.Mathlib.Omega.{arith}
use lib.Pow.{pow_pos}
use borrow.Author.Tests.{le-ltb}
use Rattle.float_format.specs.Format.{Format, sign_bit, negative, unsigned, signed, negated, is_nan}
use Rattle.float_format.proofs.Patterns.{negative-signed, unsigned_signed, signed_lt, below_sign}
use Rattle.float_format.proofs.Order.{unsigned-negated}
use Rattle.ordering.specs.Ordering.{before, earlier, later, fmin, fmax}
use Rattle.ordering.proofs.Ranks.{number_where, number_rest}
use Rattle.ordering.proofs.Firsts.{key, key_at, key_negated, key_same, before_is, earlier_key, later_key}
use Rattle.ordering.proofs.MinMax.{fmin-first, fmax-first, past_none}

-- a pattern that is no NaN
pub record Number (f : Format) (x : ℕ) : Type 0 where
  pub pattern : x < 2 * sign_bit f
  pub number : is_nan f x ≡ false

-- numbers of one key are one number, to the bit
one_key : (f : Format) (x y : ℕ) → Number f x → Number f y → key f x ≡ key f y → x ≡ y
one_key f x y n k e = key_same f x y n.pattern k.pattern e

-- ---- both at once: a choice g by which the answer has the key that m gives of the operands' keys

record Keyed (f : Format) (g m : ℕ → ℕ → ℕ) : Type 0 where
  pub closed : (x y : ℕ) → Number f x → Number f y → Number f (g x y)
  pub keyed : (x y : ℕ) → Number f x → Number f y → key f (g x y) ≡ m (key f x) (key f y)

module _ (f : Format) (g m : ℕ → ℕ → ℕ) (c : Keyed f g m) where
  commutes : ((a b : ℕ) → m a b ≡ m b a) → (x y : ℕ) → Number f x → Number f y → g x y ≡ g y x
  commutes law x y n k =
      one_key f (g x y) (g y x) (c.closed x y n k) (c.closed y x k n)
      (c.keyed x y n k ∙ law (key f x) (key f y) ∙ sym (c.keyed y x k n))

  associates : ((a b d : ℕ) → m (m a b) d ≡ m a (m b d)) → (x y z : ℕ) → Number f x → Number f y → Number f z
      → g (g x y) z ≡ g x (g y z)
  associates law x y z n k l =
      one_key f (g (g x y) z) (g x (g y z)) (c.closed (g x y) z (c.closed x y n k) l) (c.closed x (g y z) n (c.closed y z k l))
      (c.keyed (g x y) z (c.closed x y n k) l
      ∙ ap (λ (a : ℕ). m a (key f z)) (c.keyed x y n k)
      ∙ law (key f x) (key f y) (key f z)
      ∙ sym (ap (m (key f x)) (c.keyed y z k l))
      ∙ sym (c.keyed x (g y z) n (c.closed y z k l)))

  -- with a second choice h
  absorbs : (h n : ℕ → ℕ → ℕ) → Keyed f h n → ((a b : ℕ) → m a (n a b) ≡ a) → (x y : ℕ) → Number f x → Number f y → g x (h x y) ≡ x
  absorbs h n d law x y k l =
      one_key f (g x (h x y)) x (c.closed x (h x y) k (d.closed x y k l)) k
      (c.keyed x (h x y) k (d.closed x y k l) ∙ ap (m (key f x)) (d.keyed x y k l) ∙ law (key f x) (key f y))

  -- z in either order, where m gives z's key
  gives : ((a b : ℕ) → m a b ≡ m b a) → (x y z : ℕ) → Number f x → Number f y → Number f z → m (key f x) (key f y) ≡ key f z
      → (g x y ≡ z) × (g y x ≡ z)
  gives law x y z n k l e =
      let h : g x y ≡ z = one_key f (g x y) z (c.closed x y n k) l (c.keyed x y n k ∙ e) in
      (h, commutes law y x k n ∙ h)

-- one of two numbers is a number
one_number_lem : (f : Format) (x y r : ℕ) → Number f x → Number f y → (r ≡ x) ⊎ (r ≡ y) → Number f r
one_number_lem f x y r n k w = ⊎_elim (λ e. rw e n) (λ e. rw e k) w

fmin_keyed : (f : Format) → Keyed f (fmin f) min
unfolding fmin
fmin_keyed f =
    record {
      closed = λ x y n k. one_number_lem f x y (fmin f x y) n k ((fmin-first f x y).operand n.number k.number);
      keyed = λ x y n k. ap (key f) (past_none f x y (earlier f x y) n.number k.number) ∙ earlier_key f x y;
    }

fmax_keyed : (f : Format) → Keyed f (fmax f) max
unfolding fmax
fmax_keyed f =
    record {
      closed = λ x y n k. one_number_lem f x y (fmax f x y) n k ((fmax-first f x y).operand n.number k.number);
      keyed = λ x y n k. ap (key f) (past_none f x y (later f x y) n.number k.number) ∙ later_key f x y;
    }

-- ---- what a user would state

-- in whichever order they come
pub fmin_commutes : (f : Format) (x y : ℕ) → Number f x → Number f y → fmin f x y ≡ fmin f y x
fmin_commutes f = commutes f (fmin f) min (fmin_keyed f) min_comm

pub fmax_commutes : (f : Format) (x y : ℕ) → Number f x → Number f y → fmax f x y ≡ fmax f y x
fmax_commutes f = commutes f (fmax f) max (fmax_keyed f) max_comm

-- however three are taken together
pub fmin_associates : (f : Format) (x y z : ℕ) → Number f x → Number f y → Number f z → fmin f (fmin f x y) z ≡ fmin f x (fmin f y z)
fmin_associates f = associates f (fmin f) min (fmin_keyed f) (λ a b d. omega arith)

pub fmax_associates : (f : Format) (x y z : ℕ) → Number f x → Number f y → Number f z → fmax f (fmax f x y) z ≡ fmax f x (fmax f y z)
fmax_associates f = associates f (fmax f) max (fmax_keyed f) (λ a b d. omega arith)

-- the lesser of x and something no less is x, and the other way round
pub fmin_absorbs : (f : Format) (x y : ℕ) → Number f x → Number f y → fmin f x (fmax f x y) ≡ x
fmin_absorbs f = absorbs f (fmin f) min (fmin_keyed f) (fmax f) max (fmax_keyed f) (λ a b. omega arith)

pub fmax_absorbs : (f : Format) (x y : ℕ) → Number f x → Number f y → fmax f x (fmin f x y) ≡ x
fmax_absorbs f = absorbs f (fmax f) max (fmax_keyed f) (fmin f) min (fmin_keyed f) (λ a b. omega arith)

-- no operand comes before the answer of fmin, and the answer of fmax comes before no operand
pub fmin_none_before : (f : Format) (x y : ℕ) → Number f x → Number f y → (before f x (fmin f x y) ≡ false) × (before f y (fmin f x y) ≡ false)
fmin_none_before f x y n k =
    let e : key f (fmin f x y) ≡ min (key f x) (key f y) = (fmin_keyed f).keyed x y n k in (
      before_is f x (fmin f x y) ∙ le-ltb (key f x) (key f (fmin f x y)) (omega arith),
      before_is f y (fmin f x y) ∙ le-ltb (key f y) (key f (fmin f x y)) (omega arith),
    )

pub fmax-before_none : (f : Format) (x y : ℕ) → Number f x → Number f y → (before f (fmax f x y) x ≡ false) × (before f (fmax f x y) y ≡ false)
fmax-before_none f x y n k =
    let e : key f (fmax f x y) ≡ max (key f x) (key f y) = (fmax_keyed f).keyed x y n k in (
      before_is f (fmax f x y) x ∙ le-ltb (key f (fmax f x y)) (key f x) (omega arith),
      before_is f (fmax f x y) y ∙ le-ltb (key f (fmax f x y)) (key f y) (omega arith),
    )

-- ---- the mirror

negated-number : (f : Format) (x : ℕ) → Number f x → Number f (negated f x)
unfolding negated
negated-number f x n =
    record {
      pattern = signed_lt f (unsigned f x) (below_sign f x) (not (negative f x));
      number = number_where f (negated f x) (omega (arith, unsigned-negated f x, number_rest f x n.number));
    }

-- the greater of two is the lesser of the two negated, negated again
pub fmax_mirror : (f : Format) (x y : ℕ) → Number f x → Number f y → fmax f x y ≡ negated f (fmin f (negated f x) (negated f y))
fmax_mirror f x y n k =
    let r : ℕ = fmin f (negated f x) (negated f y) in
    let nx : Number f (negated f x) = negated-number f x n in
    let ny : Number f (negated f y) = negated-number f y k in
    let nr : Number f r = (fmin_keyed f).closed (negated f x) (negated f y) nx ny in
    one_key f (fmax f x y) (negated f r) ((fmax_keyed f).closed x y n k) (negated-number f r nr)
    (omega (arith, (fmax_keyed f).keyed x y n k, (fmin_keyed f).keyed (negated f x) (negated f y) nx ny, key_negated f x, key_negated f y, key_negated f r))

-- ---- the two zeros

abbrev pub minus_zero : Format → ℕ
minus_zero f = signed f true 0

abbrev pub plus_zero : Format → ℕ
plus_zero f = signed f false 0

module _ (f : Format) where
  weight : 0 < sign_bit f
  weight = pow_pos (f.exponent + f.fraction)

  zero_number : (s : Bool) → Number f (signed f s 0)
  zero_number s = record { pattern = signed_lt f 0 weight s; number = number_where f (signed f s 0) (omega (arith, unsigned_signed f 0 weight s)) }

  minus_before_plus : key f (minus_zero f) < key f (plus_zero f)
  minus_before_plus =
      omega (
        arith,
        weight,
        key_at f (minus_zero f) true (negative-signed f 0 weight true),
        key_at f (plus_zero f) false (negative-signed f 0 weight false),
        unsigned_signed f 0 weight true,
        unsigned_signed f 0 weight false,
      )

  pub fmin_zeros : (fmin f (minus_zero f) (plus_zero f) ≡ minus_zero f) × (fmin f (plus_zero f) (minus_zero f) ≡ minus_zero f)
  fmin_zeros =
      gives f (fmin f) min (fmin_keyed f) min_comm (minus_zero f) (plus_zero f) (minus_zero f) (zero_number true) (zero_number false) (zero_number true)
      (omega (arith, minus_before_plus))

  pub fmax_zeros : (fmax f (minus_zero f) (plus_zero f) ≡ plus_zero f) × (fmax f (plus_zero f) (minus_zero f) ≡ plus_zero f)
  fmax_zeros =
      gives f (fmax f) max (fmax_keyed f) max_comm (minus_zero f) (plus_zero f) (plus_zero f) (zero_number true) (zero_number false) (zero_number false)
      (omega (arith, minus_before_plus))
