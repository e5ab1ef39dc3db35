-- Laws of `parts`, a magnitude rounded to parts of u, in every direction: it scales, it leaves whole parts alone, it keeps the order.
-- Plain arithmetic; no format here. Assumes nothing.
use mathlib.Core.Path.{◌≡◌, refl, sym, ap, ◌∙◌}
use mathlib.Core.Bool.{Bool, true, false, not, ◌&&◌, cond}
use mathlib.Core.Logic.{⊎_elim}
use Prim.Native.Nat.{ℕ, suc, ◌+◌, ◌-◌, ◌*◌, ◌/◌, ◌%◌, ◌≤◌, ◌<◌}
use native.Mathlib.Nat.{mod-lt, mul-div-mul_right, div-add-mod', mul-mod_left, mul-div_cancel, mul-lt-mul_of_pos_right, mul-le-mul_right, eq-or-lt_of_le, le-div_iff_mul-le}
use native.Mathlib.Omega.{arith}
use lib.Arith.{digits_div, digits_mod}
use lib.Dec.{leb, ltb, eqb}
use borrow.Author.Tests.{eq-eqb, ne_eqb, lt-ltb, le-ltb, le-leb, lt-leb, ltb-true, leb-true}
use Rattle.float_format.specs.Rounding.{goes_away, parts}
use Rattle.float_format.specs.declared.Direction.{Direction}
use Rattle.float_format.specs.declared.Direction.TheVariants.{Down, Up, TowardZero, HalfAway, HalfEven}
use Rattle.float_format.proofs.Units.{lt_or_ge}

-- ---- scaling

pub mod_scale : (x y t : ℕ) → 0 < y → 0 < t → (x * t) % (y * t) ≡ x % y * t
mod_scale x y t hy ht =
    let e : x * t ≡ x / y * (y * t) + x % y * t = omega (arith, ap (λ (n : ℕ). n * t) (div-add-mod' x y)) in
    ap (λ (n : ℕ). n % (y * t)) e ∙ digits_mod (x / y) (mul-lt-mul_of_pos_right (mod-lt x hy) ht)

module _ (a b t : ℕ) (h : 0 < t) where
  pub ltb_scale : ltb (a * t) (b * t) ≡ ltb a b
  ltb_scale =
      ⊎_elim
      (λ l. lt-ltb (a * t) (b * t) (mul-lt-mul_of_pos_right l h) ∙ sym (lt-ltb a b l))
      (λ g. le-ltb (a * t) (b * t) (mul-le-mul_right t g) ∙ sym (le-ltb a b g))
      (lt_or_ge a b)

  pub leb_scale : leb (a * t) (b * t) ≡ leb a b
  leb_scale =
      ⊎_elim
      (λ l. lt-leb (a * t) (b * t) (mul-lt-mul_of_pos_right l h) ∙ sym (lt-leb a b l))
      (λ g. le-leb (a * t) (b * t) (mul-le-mul_right t g) ∙ sym (le-leb a b g))
      (lt_or_ge b a)

  pub eqb_scale : eqb (a * t) (b * t) ≡ eqb a b
  eqb_scale =
      ⊎_elim
      (λ l. less l)
      (λ g. ⊎_elim (λ e. eq-eqb (a * t) (b * t) (ap (λ (n : ℕ). n * t) (sym e)) ∙ sym (eq-eqb a b (sym e))) (λ l. more l) (eq-or-lt_of_le g))
      (lt_or_ge a b)
    where
      less : a < b → eqb (a * t) (b * t) ≡ eqb a b
      less l = ne_eqb (a * t) (b * t) (λ e. omega (arith, mul-lt-mul_of_pos_right l h)) ∙ sym (ne_eqb a b (λ e. omega arith))

      more : b < a → eqb (a * t) (b * t) ≡ eqb a b
      more l = ne_eqb (a * t) (b * t) (λ e. omega (arith, mul-lt-mul_of_pos_right l h)) ∙ sym (ne_eqb a b (λ e. omega arith))

some_scale : (r t : ℕ) → 0 < t → ltb 0 (r * t) ≡ ltb 0 r
some_scale r t h = ap (λ (n : ℕ). ltb n (r * t)) (omega arith) ∙ ltb_scale 0 r t h

pub goes_scale : (d : Direction) (s : Bool) (q r u t : ℕ) → 0 < t → goes_away d s q (r * t) (u * t) ≡ goes_away d s q r u
goes_scale Down s q r u t h = ap (λ (b : Bool). s && b) (some_scale r t h)
goes_scale Up s q r u t h = ap (λ (b : Bool). not s && b) (some_scale r t h)
goes_scale TowardZero s q r u t h = refl
goes_scale HalfAway s q r u t h =
    let e : r * t * 2 ≡ r * 2 * t = omega arith in
    ap (leb (u * t)) e ∙ leb_scale u (r * 2) t h
goes_scale HalfEven s q r u t h =
    let e : r * t * 2 ≡ r * 2 * t = omega arith in
    rw (e, ltb_scale u (r * 2) t h, eqb_scale u (r * 2) t h)

pub parts_scale : (d : Direction) (s : Bool) (n u t : ℕ) → 0 < u → 0 < t → parts d s (n * t) (u * t) ≡ parts d s n u
unfolding parts
parts_scale d s n u t hu ht =
    simp (mul-div-mul_right {m = t} n u ht, mod_scale n u t hu ht, goes_scale d s (n / u) (n % u) u t ht)

-- ---- whole parts

pub goes_nothing : (d : Direction) (s : Bool) (q u : ℕ) → 0 < u → goes_away d s q 0 u ≡ false
goes_nothing Down true q u h = refl
goes_nothing Down false q u h = refl
goes_nothing Up true q u h = refl
goes_nothing Up false q u h = refl
goes_nothing TowardZero s q u h = refl
goes_nothing HalfAway s q u h = lt-leb u 0 h
goes_nothing HalfEven s q u h = simp (le-ltb u 0 (omega arith), ne_eqb u 0 (omega arith))

pub parts_whole : (d : Direction) (s : Bool) (q u : ℕ) → 0 < u → parts d s (q * u) u ≡ q
unfolding parts
parts_whole d s q u h =
    simp (mul-div_cancel q h, mul-mod_left q u, goes_nothing d s q u h) (omega arith)

-- ---- bounds, and the order

one_or_none : (t : Bool) → cond t 1 0 ≤ 1
one_or_none true = omega arith
one_or_none false = omega arith

pub parts-least : (d : Direction) (s : Bool) (n u : ℕ) → n / u ≤ parts d s n u
unfolding parts
parts-least d s n u = omega arith

pub parts-most : (d : Direction) (s : Bool) (n u : ℕ) → parts d s n u ≤ n / u + 1
unfolding parts
parts-most d s n u = omega (arith, one_or_none (goes_away d s (n / u) (n % u) u))

-- more past the whole parts goes away at least as readily
pub goes_mono : (d : Direction) (s : Bool) (q r r' u : ℕ) → r ≤ r' → goes_away d s q r u ≡ true → goes_away d s q r' u ≡ true
goes_mono Down true q r r' u h e = lt-ltb 0 r' (omega (arith, ltb-true 0 r e))
goes_mono Down false q r r' u h e = e
goes_mono Up true q r r' u h e = e
goes_mono Up false q r r' u h e = lt-ltb 0 r' (omega (arith, ltb-true 0 r e))
goes_mono TowardZero s q r r' u h e = e
goes_mono HalfAway s q r r' u h e = le-leb u (r' * 2) (omega (arith, leb-true u (r * 2) e))
goes_mono HalfEven s q r r' u h e = ⊎_elim (λ l. beyond l) (λ g. ⊎_elim (λ k. same k) (λ k. more k) (eq-or-lt_of_le h)) (lt_or_ge u (r * 2))
  where
    beyond : u < r * 2 → goes_away HalfEven s q r' u ≡ true
    beyond l = simp (lt-ltb u (r' * 2) (omega arith))

    same : r ≡ r' → goes_away HalfEven s q r' u ≡ true
    same k = rw k at e

    -- at the tie r is u / 2, and r' is beyond it; below the tie nothing goes away
    more : r < r' → goes_away HalfEven s q r' u ≡ true
    more k = ⊎_elim (λ l. beyond' l) (λ z. never z) (lt_or_ge u (r' * 2))
      where
        beyond' : u < r' * 2 → goes_away HalfEven s q r' u ≡ true
        beyond' l = simp (lt-ltb u (r' * 2) l)

        never : r' * 2 ≤ u → goes_away HalfEven s q r' u ≡ true
        never z =
            let no : goes_away HalfEven s q r u ≡ false = simp (le-ltb u (r * 2) (omega arith), ne_eqb u (r * 2) (omega arith)) in
            cc

pub div_mono : {n n' : ℕ} (u : ℕ) → 0 < u → n ≤ n' → n / u ≤ n' / u
div_mono {n} {n'} u p h = (le-div_iff_mul-le {k = u} {x = n / u} {y = n'} p).1 (omega (arith, div-add-mod' n u))

-- where it is known whether it goes away
pub parts_at : (d : Direction) (s : Bool) (n u : ℕ) (t : Bool) → goes_away d s (n / u) (n % u) u ≡ t → parts d s n u ≡ n / u + cond t 1 0
unfolding parts
parts_at d s n u t e = ap (λ (b : Bool). n / u + cond b 1 0) e

pub parts_mono : (d : Direction) (s : Bool) {n n' : ℕ} (u : ℕ) → 0 < u → n ≤ n' → parts d s n u ≤ parts d s n' u
parts_mono d s {n} {n'} u p h =
    ⊎_elim (λ e. same (goes_away d s (n / u) (n % u) u) refl e) (λ l. omega (arith, parts-most d s n u, parts-least d s n' u)) (eq-or-lt_of_le (div_mono u p h))
  where
    same : (t : Bool) → goes_away d s (n / u) (n % u) u ≡ t → n / u ≡ n' / u → parts d s n u ≤ parts d s n' u
    same false t e = omega (arith, parts_at d s n u false t, parts-least d s n' u)
    same true t e =
        let r : n % u ≤ n' % u = omega (arith, div-add-mod' n u, div-add-mod' n' u, ap (λ (q : ℕ). q * u) e) in
        let g : goes_away d s (n / u) (n' % u) u ≡ true = goes_mono d s (n / u) (n % u) (n' % u) u r t in
        let g' : goes_away d s (n' / u) (n' % u) u ≡ true = rw e at g in
        omega (arith, parts_at d s n u true t, parts_at d s n' u true g')

-- ---- halves away from zero, as the code counts them: twice the magnitude, cut, and half of that rounded up

pub parts_half_away : (s : Bool) (n u : ℕ) → 0 < u → parts HalfAway s n u ≡ (n * 2 / u + 1) / 2
parts_half_away s n u p = ⊎_elim (λ l. below l) (λ g. above g) (lt_or_ge (n % u * 2) u)
  where
    m : n % u < u
    m = mod-lt n p

    below : n % u * 2 < u → parts HalfAway s n u ≡ (n * 2 / u + 1) / 2
    below l =
        let e : n * 2 ≡ n / u * 2 * u + n % u * 2 = omega (arith, div-add-mod' n u) in
        let q : n * 2 / u ≡ n / u * 2 = ap (λ (k : ℕ). k / u) e ∙ digits_div (n / u * 2) l in
        parts_at HalfAway s n u false (lt-leb u (n % u * 2) l) ∙ omega arith

    above : u ≤ n % u * 2 → parts HalfAway s n u ≡ (n * 2 / u + 1) / 2
    above g =
        let e : n * 2 ≡ suc (n / u * 2) * u + (n % u * 2 - u) = omega (arith, div-add-mod' n u) in
        let q : n * 2 / u ≡ suc (n / u * 2) = ap (λ (k : ℕ). k / u) e ∙ digits_div (suc (n / u * 2)) (omega (arith, m)) in
        parts_at HalfAway s n u true (le-leb u (n % u * 2) g) ∙ omega arith
