-- fmin and fmax: of two numbers they give one, bit for bit, that bounds both; a NaN gives way to the other operand; both are monotone, and
-- of whole numbers both give a whole one.
-- The one idea: past the NaNs both choose by one order, fmax the other way round, so that each law is proved once for both. What holds of
-- them to the bit, the two zeros among it, stands in `Lattice`. Over every format. Assumes nothing.
use mathlib.Core.Path.{◌≡◌, ap, ◌∙◌}
use mathlib.Core.Bool.{true, false}
use mathlib.Core.Logic.{◌⊎◌, ⊎_elim}
use Prim.Native.Nat.{ℕ}
use native.Mathlib.Omega.{arith}
use Rattle.float_format.specs.Format.{Format, is_nan, quieted}
use Rattle.float_format.specs.Number.{AtMost, is_integral}
use Rattle.float_format.proofs.Order.{at_most_trans}
use Rattle.float_format.proofs.Integers.{integer_number}
use Rattle.ordering.specs.Ordering.{before, earlier, later, past_nans, fmin, fmax}
use Rattle.ordering.proofs.Firsts.{key_order, earlier_key, later_key, either}

-- ---- what a user would state

-- an answer r by which the one of x and y is given that comes first in the order R
pub record First (f : Format) (R : ℕ → ℕ → Type 0) (x y r : ℕ) : Type 0 where
  -- two NaNs give the first quieted
  pub nans : is_nan f x ≡ true → is_nan f y ≡ true → r ≡ quieted f x
  -- one NaN gives the other operand
  pub first_nan : is_nan f x ≡ true → is_nan f y ≡ false → r ≡ y
  pub second_nan : is_nan f x ≡ false → is_nan f y ≡ true → r ≡ x
  -- of two numbers, r is one of them, bit for bit
  pub operand : is_nan f x ≡ false → is_nan f y ≡ false → (r ≡ x) ⊎ (r ≡ y)
  -- and is before both
  pub bound : is_nan f x ≡ false → is_nan f y ≡ false → R r x × R r y

-- y's number is at most x's
abbrev pub AtLeast : Format → ℕ → ℕ → Type 0
AtLeast f x y = AtMost f y x

-- ---- past the NaNs

module _ (f : Format) (x y r : ℕ) where
  pub past_both : is_nan f x ≡ true → is_nan f y ≡ true → past_nans f x y r ≡ quieted f x
  past_both e g = simp (e, g)

  pub past_first : is_nan f x ≡ true → is_nan f y ≡ false → past_nans f x y r ≡ y
  past_first e g = simp (e, g)

  pub past_second : is_nan f x ≡ false → is_nan f y ≡ true → past_nans f x y r ≡ x
  past_second e g = simp (e, g)

  pub past_none : is_nan f x ≡ false → is_nan f y ≡ false → past_nans f x y r ≡ r
  past_none e g = simp (e, g)

  -- r one of x and y that bounds both
  first_of_two : (R : ℕ → ℕ → Type 0) → (r ≡ x) ⊎ (r ≡ y) → R r x × R r y → First f R x y (past_nans f x y r)
  first_of_two R one both =
      record {
        nans = past_both;
        first_nan = past_first;
        second_nan = past_second;
        operand = λ e g. rw (past_none e g) one;
        bound = λ e g. rw (past_none e g) both;
      }

-- a word that equals another goes past them as that one does
pub past_by : (f : Format) (x y v w r : ℕ) → v ≡ w → r ≡ past_nans f x y v → r ≡ past_nans f x y w
past_by f x y v w r e g = g ∙ ap (past_nans f x y) e

pub fmin-first : (f : Format) (x y : ℕ) → First f (AtMost f) x y (fmin f x y)
unfolding fmin
fmin-first f x y =
    let e = earlier f x y in
    first_of_two f x y e (AtMost f) (either (before f y x) x y)
    (key_order f e x (omega (arith, earlier_key f x y)), key_order f e y (omega (arith, earlier_key f x y)))

pub fmax-first : (f : Format) (x y : ℕ) → First f (AtLeast f) x y (fmax f x y)
unfolding fmax
fmax-first f x y =
    let l = later f x y in
    first_of_two f x y l (AtLeast f) (either (before f x y) x y)
    (key_order f x l (omega (arith, later_key f x y)), key_order f y l (omega (arith, later_key f x y)))

-- ---- monotone: larger operands give no smaller answer

-- no operand is a NaN
pub record Numbers (f : Format) (x y : ℕ) : Type 0 where
  pub first : is_nan f x ≡ false
  pub second : is_nan f y ≡ false

module _ (f : Format) (x y x' y' : ℕ) (n : Numbers f x y) (n' : Numbers f x' y') where
  first_mono : (R : ℕ → ℕ → Type 0) → ((a b c : ℕ) → R a b → R b c → R a c) → (r r' : ℕ)
      → First f R x y r → First f R x' y' r' → R x x' → R y y' → R r r'
  first_mono R trans r r' c c' h k =
      ⊎_elim
      (λ e. rw e (trans r x x' (c.bound n.first n.second).0 h))
      (λ e. rw e (trans r y y' (c.bound n.first n.second).1 k))
      (c'.operand n'.first n'.second)

pub fmin_mono : (f : Format) (x y x' y' : ℕ) → Numbers f x y → Numbers f x' y' → AtMost f x x' → AtMost f y y'
    → AtMost f (fmin f x y) (fmin f x' y')
fmin_mono f x y x' y' n n' h k =
    first_mono f x y x' y' n n' (AtMost f) (at_most_trans f) (fmin f x y) (fmin f x' y') (fmin-first f x y) (fmin-first f x' y') h k

pub fmax_mono : (f : Format) (x y x' y' : ℕ) → Numbers f x y → Numbers f x' y' → AtMost f x x' → AtMost f y y'
    → AtMost f (fmax f x y) (fmax f x' y')
fmax_mono f x y x' y' n n' h k =
    first_mono f x' y' x y n' n (AtLeast f) (λ a b c l m. at_most_trans f c b a m l) (fmax f x' y') (fmax f x y) (fmax-first f x' y') (fmax-first f x y) h k

-- ---- of two whole numbers, a whole number

module _ (f : Format) (x y : ℕ) (hx : is_integral f x ≡ true) (hy : is_integral f y ≡ true) where
  first-integral : (R : ℕ → ℕ → Type 0) (r : ℕ) → First f R x y r → is_integral f r ≡ true
  first-integral R r c = ⊎_elim (λ e. rw e hx) (λ e. rw e hy) (c.operand (integer_number f x hx) (integer_number f y hy))

  pub fmin-integral : is_integral f (fmin f x y) ≡ true
  fmin-integral = first-integral (AtMost f) (fmin f x y) (fmin-first f x y)

  pub fmax-integral : is_integral f (fmax f x y) ≡ true
  fmax-integral = first-integral (AtLeast f) (fmax f x y) (fmax-first f x y)
