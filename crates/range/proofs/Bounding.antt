-- The ends of the numbers within two bounds. Assumes nothing.
use Rattle.std.proofs.Common.{◌≡◌, Bool, true, false, not, ℤ, is_some, Some, None, Option, sym, ap, ◌∙◌, subst}
use Rattle.number.specs.declared.Fraction.{Fraction}
use Rattle.number.specs.Number.{Number, fraction, nought, below}
use Rattle.number.specs.Place.{Place, −∞, at, +∞, ◌⊑◌, Inhabited, Between}
use Rattle.number.specs.Fraction.{value, higher}
use Rattle.number.proofs.Fractions.{≼_refl, ≼_trans, ≺_not_≼}
use Rattle.number.proofs.Places.{−∞_least, +∞_greatest, at_⊑, ⊑_at}
use Rattle.number.proofs.Ends.{range_inf, range_sup}
use Rattle.number.proofs.Written.{value_some, below_true, below_false}
use Rattle.scale.specs.declared.rounding.Rounding.TheVariants.{Down, Up}
use Rattle.scale.specs.Scale.{Floor, Ceiling}
use Rattle.scale.specs.Rounded.{Rounded}
use Rattle.range.specs.Bounds.{NotBelow, NotAbove, Within, bound_value}
use Rattle.range.specs.Hull.{Hull, ends}
use Rattle.range.proofs.Codes.{lowest_by, highest_by, hull_same}

-- ---- which bounds admit a number
unturned : {a b : Bool} → not a ≡ b → a ≡ not b
unturned {a} {b} e = elim a as (λ v. not v ≡ b → v ≡ not b) [ true ↦ λ h. ap not h | false ↦ λ h. ap not h ] e

pub valued : (f : Fraction) → is_some (value f) ≡ true → (x : Number) × (value f ≡ Some x)
valued f e = let v = value_some f.p f.q e in (fraction f.p f.q v.0, v.2)

module _ (f : Fraction) where
  pub low_admits : is_some (value f) ≡ true → Inhabited (Within (Some f) None)
  low_admits e = let v = valued f e in (v.0, ((v.0, v.1, ≼_refl), tt))

  pub high_admits : is_some (value f) ≡ true → Inhabited (Within None (Some f))
  high_admits e = let v = valued f e in (v.0, (tt, (v.0, v.1, ≼_refl)))

pub free_admits : Inhabited (Within None None)
free_admits = (nought, (tt, tt))

module _ (f g : Fraction) where
  pub both_admit : is_some (value f) ≡ true → is_some (value g) ≡ true → not (higher (value f) (value g)) ≡ true → Inhabited (Within (Some f) (Some g))
  both_admit e h n =
      let v = valued f e in
      let w = valued g h in
      let k : not (below w.0 v.0) ≡ true = (λ i. not (higher (sym v.1 i) (sym w.1 i))) ∙ n in
      (v.0, ((v.0, v.1, ≼_refl), (w.0, w.1, below_false (unturned k))))

  pub crossed : not (higher (value f) (value g)) ≡ false → (x : Number) → Within (Some f) (Some g) x → ⊥
  crossed a x h =
      let k : not (below h.1.0 h.0.0) ≡ false = (λ i. not (higher (sym h.0.1 i) (sym h.1.1 i))) ∙ a in
      ≺_not_≼ (below_true (unturned k)) (≼_trans h.0.2 h.1.2)

-- ---- the range of the bounds
lower_place : Option Number → Place
lower_place None = −∞
lower_place (Some x) = at x

upper_place : Option Number → Place
upper_place None = +∞
upper_place (Some x) = at x

low_to : (l : Option Fraction) (x : Number) → NotBelow l x → lower_place (bound_value l) ⊑ at x
unfolding lower_place
low_to None x h = −∞_least
low_to (Some f) x h = subst (λ o. lower_place o ⊑ at x) (sym h.1) (at_⊑ h.2)

high_to : (u : Option Fraction) (x : Number) → NotAbove u x → at x ⊑ upper_place (bound_value u)
unfolding upper_place
high_to None x h = +∞_greatest
high_to (Some f) x h = subst (λ o. at x ⊑ upper_place o) (sym h.1) (at_⊑ h.2)

-- back again, where some number is within
low_from : (l : Option Fraction) (y : Number) → NotBelow l y → (x : Number) → lower_place (bound_value l) ⊑ at x → NotBelow l x
unfolding lower_place
low_from None y k x h = tt
low_from (Some f) y k x h = (k.0, k.1, ⊑_at (subst (λ o. lower_place o ⊑ at x) k.1 h))

high_from : (u : Option Fraction) (y : Number) → NotAbove u y → (x : Number) → at x ⊑ upper_place (bound_value u) → NotAbove u x
unfolding upper_place
high_from None y k x h = tt
high_from (Some f) y k x h = (k.0, k.1, ⊑_at (subst (λ o. at x ⊑ upper_place o) k.1 h))

floor_of : {p : ℤ → Place} (o : Option Number) {c : ℤ} → Rounded p Down o c → Floor p (lower_place o) c
unfolding lower_place
floor_of None f = f
floor_of (Some x) f = f

ceiling_of : {p : ℤ → Place} (o : Option Number) {c : ℤ} → Rounded p Up o c → Ceiling p (upper_place o) c
unfolding upper_place
ceiling_of None f = f
ceiling_of (Some x) f = f

-- THE HULL OF THE NUMBERS WITHIN TWO BOUNDS
pub bounds_hull : {p : ℤ → Place} (l u : Option Fraction) → Inhabited (Within l u) → {c d : ℤ} → Rounded p Down (bound_value l) c → Rounded p Up (bound_value u) d → Hull p (Within l u) (record { lower = c; upper = d })
bounds_hull {p} l u s {c} {d} f g =
    let a = lower_place (bound_value l) in
    let b = upper_place (bound_value u) in
    let m : Inhabited (Between a b) = (s.0, (low_to l s.0 s.1.0, high_to u s.0 s.1.1)) in
    hull_same {S = Between a b} {R = Within l u}
    (λ x h. (low_from l s.0 s.1.0 x h.0, high_from u s.0 s.1.1 x h.1))
    (λ x h. (low_to l x h.0, high_to u x h.1))
    (ends m.0 m.1 (lowest_by (range_inf m) (floor_of (bound_value l) f)) (highest_by (range_sup m) (ceiling_of (bound_value u) g)))
