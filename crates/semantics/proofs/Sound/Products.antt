-- The four end products of multiply. Each is a number, so the low answer is one of them and not above any, and the high answer is one of them and not
-- below any. Hence one of the four is infinite exactly where the low or the high answer is: what the sheet refuses with 21 always has cause 12 or 13.
-- Assumes nothing.
use mathlib.Core.Path.{◌≡◌, refl, sym, ap, ◌∙◌}
use mathlib.Core.Bool.{Bool, true, false, ◌||◌}
use mathlib.Core.Logic.{◌⊎◌, ⊎_elim}
use Prim.Native.Nat.{ℕ, ◌<◌}
use native.Mathlib.Omega.{arith}
use borrow.Author.Tests.{ne_eqb}
use Rattle.float_format.specs.Format.{binary64, infinity, unsigned, is_nan, is_infinite}
use Rattle.float_format.specs.Number.{AtMost}
use Rattle.float_format.proofs.Order.{at_most_trans}
use Rattle.float_format.proofs.Patterns.{infinite_is}
use Rattle.ordering.specs.Ordering.{fmin, fmax}
use Rattle.ordering.proofs.MinMax.{fmin-first, fmax-first}
use Rattle.arithmetic.specs.Arithmetic.{product}
use Rattle.arithmetic.proofs.Laws.{OneOf, is_p, is_q, is_r, is_s, product-number}
use Rattle.semantics.specs.Range.{Range, low, high, product_low, product_high, infinite_product}
use Rattle.semantics.proofs.Sound.Kept.{number_of}
use Rattle.semantics.proofs.Sound.Floats.{between_finite, fmin-number, fmax-number}
use Rattle.semantics.proofs.Sound.Fractions.{finite_end}

pub not_infinite : (x : ℕ) → unsigned binary64 x < infinity binary64 → is_infinite binary64 x ≡ false
not_infinite x l = infinite_is binary64 x ∙ ne_eqb (unsigned binary64 x) (infinity binary64) (omega arith)

-- ---- the least and the greatest of four numbers

-- l and h are among p, q, r and s, and these lie from l to h
pub record Spans (p q r s l h : ℕ) : Type 0 where
  pub low-number : is_nan binary64 l ≡ false
  pub high-number : is_nan binary64 h ≡ false
  pub low_is : OneOf (λ w. l ≡ w) p q r s
  pub high_is : OneOf (λ w. h ≡ w) p q r s
  pub at_p : AtMost binary64 l p × AtMost binary64 p h
  pub at_q : AtMost binary64 l q × AtMost binary64 q h
  pub at_r : AtMost binary64 l r × AtMost binary64 r h
  pub at_s : AtMost binary64 l s × AtMost binary64 s h

module _ (p q r s : ℕ) where
  first_two : {x l : ℕ} → l ≡ x → (x ≡ p) ⊎ (x ≡ q) → OneOf (λ w. l ≡ w) p q r s
  first_two e w = ⊎_elim (λ g. is_p (e ∙ g)) (λ g. is_q (e ∙ g)) w

  last_two : {x l : ℕ} → l ≡ x → (x ≡ r) ⊎ (x ≡ s) → OneOf (λ w. l ≡ w) p q r s
  last_two e w = ⊎_elim (λ g. is_r (e ∙ g)) (λ g. is_s (e ∙ g)) w

module _ (p q r s : ℕ) (np : is_nan binary64 p ≡ false) (nq : is_nan binary64 q ≡ false) (nr : is_nan binary64 r ≡ false) (ns : is_nan binary64 s ≡ false) where
  abbrev a : ℕ
  a = fmin binary64 p q

  abbrev b : ℕ
  b = fmin binary64 r s

  abbrev c : ℕ
  c = fmax binary64 p q

  abbrev d : ℕ
  d = fmax binary64 r s

  na : is_nan binary64 a ≡ false
  na = fmin-number p q np nq

  nb : is_nan binary64 b ≡ false
  nb = fmin-number r s nr ns

  nc : is_nan binary64 c ≡ false
  nc = fmax-number p q np nq

  nd : is_nan binary64 d ≡ false
  nd = fmax-number r s nr ns

  pub spans : Spans p q r s (fmin binary64 a b) (fmax binary64 c d)
  spans =
      let l = fmin binary64 a b in
      let h = fmax binary64 c d in
      let low = (fmin-first binary64 a b).bound na nb in
      let high = (fmax-first binary64 c d).bound nc nd in
      let la = (fmin-first binary64 p q).bound np nq in
      let lb = (fmin-first binary64 r s).bound nr ns in
      let hc = (fmax-first binary64 p q).bound np nq in
      let hd = (fmax-first binary64 r s).bound nr ns in
      record {
        low-number = fmin-number a b na nb;
        high-number = fmax-number c d nc nd;
        low_is = ⊎_elim (λ e. first_two p q r s e ((fmin-first binary64 p q).operand np nq)) (λ e. last_two p q r s e ((fmin-first binary64 r s).operand nr ns)) ((fmin-first binary64 a b).operand na nb);
        high_is = ⊎_elim (λ e. first_two p q r s e ((fmax-first binary64 p q).operand np nq)) (λ e. last_two p q r s e ((fmax-first binary64 r s).operand nr ns)) ((fmax-first binary64 c d).operand nc nd);
        at_p = (at_most_trans binary64 l a p low.0 la.0, at_most_trans binary64 p c h hc.0 high.0);
        at_q = (at_most_trans binary64 l a q low.0 la.1, at_most_trans binary64 q c h hc.1 high.0);
        at_r = (at_most_trans binary64 l b r low.1 lb.0, at_most_trans binary64 r d h hd.0 high.1);
        at_s = (at_most_trans binary64 l b s low.1 lb.1, at_most_trans binary64 s d h hd.1 high.1);
      }

-- ---- one of them is infinite

or_true : (t : Bool) → (t || true) ≡ true
or_true true = refl
or_true false = refl

module _ {p q r s l h : ℕ} (b : Spans p q r s l h) where
  abbrev any : Bool
  any = is_infinite binary64 p || is_infinite binary64 q || is_infinite binary64 r || is_infinite binary64 s

  infinite_end_lem : {e : ℕ} → OneOf (λ w. e ≡ w) p q r s → is_infinite binary64 e ≡ true → any ≡ true
  infinite_end_lem (is_p g) i = rw (sym (ap (is_infinite binary64) g) ∙ i)
  infinite_end_lem (is_q g) i = rw (sym (ap (is_infinite binary64) g) ∙ i, or_true (is_infinite binary64 p))
  infinite_end_lem (is_r g) i = rw (sym (ap (is_infinite binary64) g) ∙ i, or_true (is_infinite binary64 p || is_infinite binary64 q))
  infinite_end_lem (is_s g) i =
      rw (sym (ap (is_infinite binary64) g) ∙ i, or_true (is_infinite binary64 p || is_infinite binary64 q || is_infinite binary64 r))

  -- between finite ends
  finite_inside : is_infinite binary64 l ≡ false → is_infinite binary64 h ≡ false → (w : ℕ) → AtMost binary64 l w × AtMost binary64 w h → is_infinite binary64 w ≡ false
  finite_inside e g w i = not_infinite w (between_finite l h w (finite_end l b.low-number e) (finite_end h b.high-number g) i.0 i.1)

  pub infinite_spans : any ≡ (is_infinite binary64 l || is_infinite binary64 h)
  infinite_spans = pick (is_infinite binary64 l) (is_infinite binary64 h) refl refl
    where
      pick : (u v : Bool) → is_infinite binary64 l ≡ u → is_infinite binary64 h ≡ v → any ≡ (u || v)
      pick true v e g = infinite_end_lem b.low_is e
      pick false true e g = infinite_end_lem b.high_is g
      pick false false e g =
          rw (finite_inside e g p b.at_p, finite_inside e g q b.at_q, finite_inside e g r b.at_r, finite_inside e g s b.at_s)

-- ---- the four end products

pub product-real : (x y : ℕ) → is_nan binary64 (product binary64 x y) ≡ false
product-real x y = number_of (product binary64 x y) (product-number binary64 x y)

module _ (a b : Range) where
  pub end_products : Spans (product binary64 (low a) (low b)) (product binary64 (low a) (high b)) (product binary64 (high a) (low b)) (product binary64 (high a) (high b)) (product_low a b) (product_high a b)
  end_products =
      spans (product binary64 (low a) (low b)) (product binary64 (low a) (high b)) (product binary64 (high a) (low b)) (product binary64 (high a) (high b))
      (product-real (low a) (low b)) (product-real (low a) (high b)) (product-real (high a) (low b)) (product-real (high a) (high b))

  -- One of the four end products is infinite exactly where the low or the high answer is.
  pub infinite_products : infinite_product a b ≡ (is_infinite binary64 (product_low a b) || is_infinite binary64 (product_high a b))
  infinite_products = infinite_spans end_products
