-- modf's parts carried as floats, in the code's steps: a part's pattern is read as a float that holds it, and floats that hold both parts
-- add up to x. Over lib.Ieee's format g. Assumes nothing.
use mathlib.Core.Path.{◌≡◌, sym, ap, subst, ◌∙◌}
use mathlib.Core.Bool.{Bool, true, false, not, cond}
use Prim.Native.Nat.{ℕ, ◌*◌, ◌≤◌, ◌<◌}
use lib.Dec.{T}
use lib.Ieee as Ieee
use lib.Ieee.{Float, add, fits, to_bits, of_bits, nan_bits}
use Rattle.float_format.specs.Format.{Format, Valid, sign_bit, infinity, unsigned, is_nan, quieted}
use Rattle.splitting.specs.Splitting.{modf_whole, modf_fraction}
use Rattle.splitting.proofs.Fraction.{is_nan_lem, is_number, whole_lt, fraction_lt}
use Rattle.float_format.proofs.Floats.{format_of, number, read_back}
use Rattle.splitting.proofs.Laws.{nan_parts, whole_number, fraction_number, Joined, added_back}

-- a NaN's parts are one pattern
pub nan_same : (f : Format) (x : ℕ) → is_nan f x ≡ true → modf_whole f x ≡ modf_fraction f x
nan_same f x e = (nan_parts f x (is_nan_lem f x e)).0 ∙ sym (nan_parts f x (is_nan_lem f x e)).1

-- a part y of x, read from its pattern w
pub record Part (g : Ieee.Format) (y w : ℕ) : Type 0 where
  pub number : T (not (nan_bits g w))
  pub back : to_bits g (of_bits g w) ≡ y

module _ (g : Ieee.Format) (f : Format) (same : format_of g ≡ f) where
  part : (y w : ℕ) → y < 2 * sign_bit f → unsigned f y ≤ infinity f → w ≡ y → Part g y w
  part y w p n e =
      let p' : y < 2 * sign_bit (format_of g) = subst (λ (h : Format). y < 2 * sign_bit h) (sym same) p in
      let n' : unsigned (format_of g) y ≤ infinity (format_of g) = subst (λ (h : Format). unsigned h y ≤ infinity h) (sym same) n in
      rw e (record { number = rw (number g y n') tt; back = read_back g y p' n' })

  module _ (x : ℕ) (v : Valid f) (p : x < 2 * sign_bit f) (n : is_nan f x ≡ false) where
    pub whole_part_lem : (w : ℕ) → w ≡ modf_whole f x → Part g (modf_whole f x) w
    whole_part_lem w = part (modf_whole f x) w (whole_lt f x v p) (whole_number f x v (is_number f x n))

    pub fraction_part : (w : ℕ) → w ≡ modf_fraction f x → Part g (modf_fraction f x) w
    fraction_part w = part (modf_fraction f x) w (fraction_lt f x v p) (fraction_number f x v (is_number f x n))

-- what rejoining answers: x's bits, and a NaN quieted
abbrev pub Rejoined : Format → ℕ → ℕ → Type 0
Rejoined f x r = r ≡ cond (is_nan f x) (quieted f x) x

pub joins : (g : Ieee.Format) (f : Format) → format_of g ≡ f → (x : ℕ) (u v r : Float) → x < 2 * sign_bit f → is_nan f x ≡ false
    → u ≡ of_bits g (modf_whole f x) → v ≡ of_bits g (modf_fraction f x) → r ≡ add g u v → Joined g x r
joins g f same x u v r p n eu ev er =
    rw (er, eu, ev)
    (subst (λ (h : Format). x < 2 * sign_bit h → is_nan h x ≡ false → Joined g x (add g (of_bits g (modf_whole h x)) (of_bits g (modf_fraction h x)))) same (added_back g x) p n)

pub joins_bits : (g : Ieee.Format) (f : Format) (x : ℕ) (v : Float) → is_nan f x ≡ false → Joined g x v → Rejoined f x (to_bits g v)
joins_bits g f x v n j = j.bits ∙ sym (ap (λ (b : Bool). cond b (quieted f x) x) n)

pub rejoins_nan : (f : Format) (x r : ℕ) → is_nan f x ≡ true → r ≡ modf_whole f x → Rejoined f x r
rejoins_nan f x r n e = e ∙ (nan_parts f x (is_nan_lem f x n)).0 ∙ sym (ap (λ (b : Bool). cond b (quieted f x) x) n)
