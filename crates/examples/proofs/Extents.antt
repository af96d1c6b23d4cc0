-- The extents of sets, from the laws of their ends. Assumes nothing.
--     Extends S o      the set S has the extent o, and no member where there is none
use Rattle.std.proofs.Common.{◌≡◌, ℕ, Bool, true, false, not, ◌&&◌, ◌⊎◌, ◌↔◌, List, [], ◌∷◌, ◌++◌, Some, None, Option, sym, refl, ◌∙◌, subst, inl, inr, ⊎_elim, arith}
use mathlib.Core.Logic.Iff
use Rattle.number.specs.declared.Fraction.{Fraction}
use Rattle.number.specs.Number.{Number, ◌≼◌, below, nought}
use Rattle.number.specs.Place.{Place, −∞, at, +∞, ◌⊑◌, IsLowerBound, IsUpperBound, Inhabited, Between, PositivePart, NegativePart, Outcomes, Sums, Products, Quotients}
use Rattle.number.specs.Ends.{◌⊹◌, ◌⊙◌, Corners, Corners⁺, recip⁺, recip⁻}
use Rattle.number.specs.Fraction.{value}
use Rattle.number.proofs.Fractions.{≺_not_≼, ≃_refl, ≃_sym, ≺_not_≃, ≄-≺}
use Rattle.number.proofs.Places.{−∞_least, +∞_greatest, at_⊑, ⊑_at, at_not_⊑-−∞, +∞_not_⊑_at, +∞_not_⊑-−∞}
use Rattle.number.proofs.Ends.{range_inf, range_sup, sum_ends, product_ends}
use Rattle.number.proofs.Quotients.{quotient_ends⁺, quotient_ends⁻}
use Rattle.number.proofs.Ranges.{range_inhabited, range_positive, range_negative}
use Rattle.number.proofs.Written.{below_true, below_false}
use Rattle.range.specs.declared.entry.Entry.{Entry}
use Rattle.range.specs.declared.entry.Entry.TheVariants.{Blank, Bounds}
use Rattle.range.specs.Bounds.{NotBelow, NotAbove}
use Rattle.range.specs.Entries.{Admitted}
use Rattle.range.specs.Outcomes.{Quotients⁻, Quotients⁺}
use Rattle.examples.specs.declared.Operation.{Operation}
use Rattle.examples.specs.declared.Operation.TheVariants.{Added, Multiplied, Squared, Divided, DividedNegative, DividedPositive}
use Rattle.examples.specs.Claims.{outcomes}
use Rattle.examples.proofs.Tests.{not_above, every, holds, holds⁺, holds⁻, Extent, one, corners, joined, given, products, quotients⁻, quotients⁺, extent, place_of, bound_place, within, entry_extent, bounds_low, bounds_high}

-- ---- tests
pub false_true : false ≡ true → ⊥
false_true e = let z : ◌≡◌ {A = ℕ} 0 1 = cc in omega arith

pub both : (a b : Bool) → (a && b ≡ true) ↔ ((a ≡ true) × (b ≡ true))
both true b = (λ e. (refl, e), λ e. e.1)
both false b = (λ e. absurd (false_true e), λ e. e.0)

pub both_tell : {a b : Bool} {A B : Type 0} → ((a ≡ true) ↔ A) → ((b ≡ true) ↔ B) → ((a && b ≡ true) ↔ (A × B))
both_tell {a} {b} h k = (λ e. let s = (both a b).0 e in (h.0 s.0, k.0 s.1), λ s. (both a b).1 (h.1 s.0, k.1 s.1))

pub not_tells : (a : Bool) {A : Type 0} → ((a ≡ true) ↔ A) → ((not a ≡ true) ↔ ¬ A)
not_tells true h = (λ e. absurd (false_true e), λ n. absurd (n (h.0 refl)))
not_tells false h = (λ e s. false_true (h.1 s), λ n. refl)

pub not_above_tells : (p q : Place) → (not_above p q ≡ true) ↔ (p ⊑ q)
not_above_tells −∞ q = (λ e. −∞_least, λ h. refl)
not_above_tells (at x) −∞ = (λ e. absurd (false_true e), λ h. absurd (at_not_⊑-−∞ h))
not_above_tells (at x) (at y) = by (below y x) refl
  where
    by : (t : Bool) → below y x ≡ t → (not t ≡ true) ↔ (at x ⊑ at y)
    by true e = (λ f. absurd (false_true f), λ h. absurd (≺_not_≼ (below_true e) (⊑_at h)))
    by false e = (λ f. at_⊑ (below_false e), λ h. refl)
not_above_tells (at x) +∞ = (λ e. +∞_greatest, λ h. refl)
not_above_tells +∞ −∞ = (λ e. absurd (false_true e), λ h. absurd (+∞_not_⊑-−∞ h))
not_above_tells +∞ (at y) = (λ e. absurd (false_true e), λ h. absurd (+∞_not_⊑_at h))
not_above_tells +∞ +∞ = (λ e. +∞_greatest, λ h. refl)

module _ (a b : Place) where
  pub holds_tells : (holds a b ≡ true) ↔ Inhabited (Between a b)
  holds_tells =
      let t = both_tell (not_above_tells a b) (both_tell (not_tells (not_above +∞ a) (not_above_tells +∞ a)) (not_tells (not_above b −∞) (not_above_tells b −∞))) in
      let r = range_inhabited a b in
      (λ e. let s = t.0 e in r.1 (s.0, s.1.0, s.1.1), λ h. let s = r.0 h in t.1 (s.0, (s.1, s.2)))

  pub holds⁺_tells : (holds⁺ a b ≡ true) ↔ Inhabited (PositivePart (Between a b))
  holds⁺_tells =
      let t = both_tell holds_tells (not_tells (not_above b (at nought)) (not_above_tells b (at nought))) in
      let r = range_positive a b in
      (λ e. r.1 (t.0 e), λ h. t.1 (r.0 h))

  pub holds⁻_tells : (holds⁻ a b ≡ true) ↔ Inhabited (NegativePart (Between a b))
  holds⁻_tells =
      let t = both_tell holds_tells (not_tells (not_above (at nought) a) (not_above_tells (at nought) a)) in
      let r = range_negative a b in
      (λ e. r.1 (t.0 e), λ h. t.1 (r.0 h))

-- ---- extents
pub record Has (S : Number → Type 0) (e : Extent) : Type 0 where
  pub member : Inhabited S
  pub lower : (q : Place) → (bounds_low e.lows q ≡ true) ↔ IsLowerBound q S
  pub upper : (q : Place) → (bounds_high e.highs q ≡ true) ↔ IsUpperBound q S

abbrev pub Extends : (Number → Type 0) → Option Extent → Type 0
Extends S None = (x : Number) → S x → ⊥
Extends S (Some e) = Has S e

pub extends_same : {S R : Number → Type 0} → ((x : Number) → S x → R x) → ((x : Number) → R x → S x) → (o : Option Extent) → Extends S o → Extends R o
extends_same f g None n = λ x h. n x (g x h)
extends_same f g (Some e) h = record {
  member = (h.member.0, f h.member.0 h.member.1);
  lower = λ q. (λ t x k. (h.lower q).0 t x (g x k), λ b. (h.lower q).1 (λ x k. b x (f x k)));
  upper = λ q. (λ t x k. (h.upper q).0 t x (g x k), λ b. (h.upper q).1 (λ x k. b x (f x k)));
}

extends_given : {S : Number → Type 0} {e : Extent} (t : Bool) → (t ≡ true → Has S e) → (t ≡ false → (x : Number) → S x → ⊥) → Extends S (given t e)
extends_given true h n = h refl
extends_given false h n = n refl

-- one low and one high, or four
one_tells : (f : Place → Bool) (p : Place) → (every f (p ∷ []) ≡ true) ↔ (f p ≡ true)
one_tells f p = let b = both (f p) true in (λ e. (b.0 e).0, λ e. b.1 (e, refl))

four_tell : (f : Place → Bool) {p q r s : Place} {P Q R S : Type 0} → ((f p ≡ true) ↔ P) → ((f q ≡ true) ↔ Q) → ((f r ≡ true) ↔ R) → ((f s ≡ true) ↔ S) →
    (every f (p ∷ q ∷ r ∷ s ∷ []) ≡ true) ↔ (P × Q × R × S)
four_tell f {s} h i j k =
    let t = both_tell h (both_tell i (both_tell j (Iff.trans (one_tells f s) k))) in
    (λ e. let u = t.0 e in (u.0, u.1.0, u.1.1.0, u.1.1.1), λ u. t.1 (u.0, (u.1, (u.2, u.3))))

corners_low : (a b c d q : Place) → (bounds_low (corners a b c d).lows q ≡ true) ↔ Corners q a b c d
corners_low a b c d q = four_tell (not_above q) (not_above_tells q (a ⊙ c)) (not_above_tells q (a ⊙ d)) (not_above_tells q (b ⊙ c)) (not_above_tells q (b ⊙ d))

corners_high : (a b c d q : Place) → (bounds_high (corners a b c d).highs q ≡ true) ↔ Corners⁺ q a b c d
corners_high a b c d q = four_tell (λ p. not_above p q) (not_above_tells (a ⊙ c) q) (not_above_tells (a ⊙ d) q) (not_above_tells (b ⊙ c) q) (not_above_tells (b ⊙ d) q)

turned : {A B : Type 0} → (A ↔ B) → (B ↔ A)
turned h = (h.1, h.0)

-- ---- the outcomes of two sets, each with a test whether it has a member
module _ {f : Number → Number → Number} {X Y : Number → Type 0} (t s : Bool) (tx : (t ≡ true) ↔ Inhabited X) (ty : (s ≡ true) ↔ Inhabited Y) where
  of_two : (e : Extent) →
      (Inhabited X → Inhabited Y → (q : Place) → ((bounds_low e.lows q ≡ true) ↔ IsLowerBound q (Outcomes f X Y)) × ((bounds_high e.highs q ≡ true) ↔ IsUpperBound q (Outcomes f X Y))) →
      Extends (Outcomes f X Y) (given (t && s) e)
  of_two e b = extends_given (t && s)
      (λ h. let i = (both_tell tx ty).0 h in let x = i.0 in let y = i.1 in record {
        member = (f x.0 y.0, (x.0, y.0, x.1, y.1, ≃_refl));
        lower = λ q. (b x y q).0;
        upper = λ q. (b x y q).1;
      })
      (λ h z o. false_true (sym h ∙ (both_tell tx ty).1 ((o.0, o.2), (o.1, o.3))))

module _ (a b c d : Place) where
  sums_extend : Extends (Sums (Between a b) (Between c d)) (given (holds a b && holds c d) (one (a ⊹ c) (b ⊹ d)))
  sums_extend = of_two (holds a b) (holds c d) (holds_tells a b) (holds_tells c d) (one (a ⊹ c) (b ⊹ d)) (λ x y q.
      let e = sum_ends a b c d x y in (
        Iff.trans (one_tells (not_above q) (a ⊹ c)) (Iff.trans (not_above_tells q (a ⊹ c)) (turned (e.0.inf q))),
        Iff.trans (one_tells (λ p. not_above p q) (b ⊹ d)) (Iff.trans (not_above_tells (b ⊹ d) q) (turned (e.1.sup q))),
      ))

  products_extend : Extends (Products (Between a b) (Between c d)) (products a b c d)
  products_extend = of_two (holds a b) (holds c d) (holds_tells a b) (holds_tells c d) (corners a b c d) (λ x y q.
      let e = product_ends a b c d x y q in
      (Iff.trans (corners_low a b c d q) (turned e.0), Iff.trans (corners_high a b c d q) (turned e.1)))

  quotients⁻_extend : Extends (Quotients⁻ (Between a b) (Between c d)) (quotients⁻ a b c d)
  quotients⁻_extend = of_two (holds a b) (holds⁻ c d) (holds_tells a b) (holds⁻_tells c d) (corners a b (recip⁻ d) (recip⁻ c)) (λ x y q.
      let e = quotient_ends⁻ a b c d x y q in
      (Iff.trans (corners_low a b (recip⁻ d) (recip⁻ c) q) (turned e.0), Iff.trans (corners_high a b (recip⁻ d) (recip⁻ c) q) (turned e.1)))

  quotients⁺_extend : Extends (Quotients⁺ (Between a b) (Between c d)) (quotients⁺ a b c d)
  quotients⁺_extend = of_two (holds a b) (holds⁺ c d) (holds_tells a b) (holds⁺_tells c d) (corners a b (recip⁺ d) (recip⁺ c)) (λ x y q.
      let e = quotient_ends⁺ a b c d x y q in
      (Iff.trans (corners_low a b (recip⁺ d) (recip⁺ c) q) (turned e.0), Iff.trans (corners_high a b (recip⁺ d) (recip⁺ c) q) (turned e.1)))

-- ---- the numbers in either of two sets
every_both : (f : Place → Bool) (ps qs : List Place) → (every f (ps ++ qs) ≡ true) ↔ ((every f ps ≡ true) × (every f qs ≡ true))
every_both f [] qs = (λ e. (refl, e), λ e. e.1)
every_both f (p ∷ ps) qs =
    let t = both (f p) (every f (ps ++ qs)) in
    let i = every_both f ps qs in
    let s = both (f p) (every f ps) in
    (λ e. let u = t.0 e in let v = i.0 u.1 in (s.1 (u.0, v.0), v.1), λ e. let u = s.0 e.0 in t.1 (u.0, i.1 (u.1, e.1)))

module _ {S R Q : Number → Type 0} (inₗ : (x : Number) → S x → Q x) (inᵣ : (x : Number) → R x → Q x) (out : (x : Number) → Q x → S x ⊎ R x) where
  either_extends : (o p : Option Extent) → Extends S o → Extends R p → Extends Q (joined o p)
  either_extends None p n k = extends_same inᵣ (λ x h. ⊎_elim (λ l. absurd (n x l)) (λ r. r) (out x h)) p k
  either_extends (Some e) None h n = extends_same {S = S} {R = Q} inₗ (λ x h. ⊎_elim (λ l. l) (λ r. absurd (n x r)) (out x h)) (Some e) h
  either_extends (Some e) (Some f) h k = record {
    member = (h.member.0, inₗ h.member.0 h.member.1);
    lower = λ q. let t = every_both (not_above q) e.lows f.lows in (
      λ u x m. ⊎_elim ((h.lower q).0 (t.0 u).0 x) ((k.lower q).0 (t.0 u).1 x) (out x m),
      λ b. t.1 ((h.lower q).1 (λ x m. b x (inₗ x m)), (k.lower q).1 (λ x m. b x (inᵣ x m))),
    );
    upper = λ q. let t = every_both (λ p. not_above p q) e.highs f.highs in (
      λ u x m. ⊎_elim ((h.upper q).0 (t.0 u).0 x) ((k.upper q).0 (t.0 u).1 x) (out x m),
      λ b. t.1 ((h.upper q).1 (λ x m. b x (inₗ x m)), (k.upper q).1 (λ x m. b x (inᵣ x m))),
    );
  }

quotients_extend : (a b c d : Place) → Extends (Quotients (Between a b) (Between c d)) (joined (quotients⁻ a b c d) (quotients⁺ a b c d))
quotients_extend a b c d = either_extends
    (λ z o. (o.0, o.1, o.2, (o.3.0, ≺_not_≃ o.3.1), o.4))
    (λ z o. (o.0, o.1, o.2, (o.3.0, λ e. ≺_not_≃ o.3.1 (≃_sym e)), o.4))
    (λ z o. ⊎_elim (λ h. inl (o.0, o.1, o.2, (o.3.0, h), o.4)) (λ h. inr (o.0, o.1, o.2, (o.3.0, h), o.4)) (≄-≺ o.3.1))
    (quotients⁻ a b c d) (quotients⁺ a b c d) (quotients⁻_extend a b c d) (quotients⁺_extend a b c d)

-- THE EXTENT OF THE OUTCOMES OF AN OPERATION
pub works_extend : (o : Operation) (a b c d : Place) → Extends (outcomes o (Between a b) (Between c d)) (extent o a b c d)
works_extend Added a b c d = sums_extend a b c d
works_extend Multiplied a b c d = products_extend a b c d
works_extend Squared a b c d = products_extend c d c d
works_extend Divided a b c d = quotients_extend a b c d
works_extend DividedNegative a b c d = quotients⁻_extend a b c d
works_extend DividedPositive a b c d = quotients⁺_extend a b c d

-- ---- entries
between_extends : (a b : Place) → Extends (Between a b) (given (holds a b) (one a b))
between_extends a b = extends_given (holds a b)
    (λ h. let s = (holds_tells a b).0 h in record {
      member = s;
      lower = λ q. Iff.trans (one_tells (not_above q) a) (Iff.trans (not_above_tells q a) (turned ((range_inf s).inf q)));
      upper = λ q. Iff.trans (one_tells (λ p. not_above p q) b) (Iff.trans (not_above_tells b q) (turned ((range_sup s).sup q)));
    })
    (λ h x m. false_true (sym h ∙ (holds_tells a b).1 (x, m)))

-- the numbers that a bound lets pass, by its place; none where it has no place
abbrev From : (Number → Type 0) → Option Place → Type 0
From P None = (x : Number) → P x → ⊥
From P (Some a) = (x : Number) → P x ↔ (a ⊑ at x)

abbrev UpTo : (Number → Type 0) → Option Place → Type 0
UpTo P None = (x : Number) → P x → ⊥
UpTo P (Some b) = (x : Number) → P x ↔ (at x ⊑ b)

some_alike : {x y : Number} (o : Option Number) → o ≡ Some x → o ≡ Some y → x ≡ y
some_alike o e f = cc

some_none : {x : Number} (o : Option Number) → o ≡ None → o ≡ Some x → ⊥
some_none o e f = let z : ◌≡◌ {A = ℕ} 0 1 = cc in omega arith

low_from : (l : Option Fraction) → From (NotBelow l) (bound_place −∞ l)
low_from None = λ x. (λ h. −∞_least, λ h. tt)
low_from (Some f) = by (value f) refl
  where
    by : (o : Option Number) → value f ≡ o → From (NotBelow (Some f)) (place_of o)
    by None e = λ x h. some_none (value f) e h.1
    by (Some y) e = λ x. (λ h. at_⊑ (subst (λ z. z ≼ x) (some_alike (value f) h.1 e) h.2), λ h. (y, e, ⊑_at h))

high_to : (u : Option Fraction) → UpTo (NotAbove u) (bound_place +∞ u)
high_to None = λ x. (λ h. +∞_greatest, λ h. tt)
high_to (Some f) = by (value f) refl
  where
    by : (o : Option Number) → value f ≡ o → UpTo (NotAbove (Some f)) (place_of o)
    by None e = λ x h. some_none (value f) e h.1
    by (Some y) e = λ x. (λ h. at_⊑ (subst (λ z. x ≼ z) (some_alike (value f) h.1 e) h.2), λ h. (y, e, ⊑_at h))

within_extends : (L U : Number → Type 0) (a b : Option Place) → From L a → UpTo U b → Extends (λ x. L x × U x) (within a b)
within_extends L U None b n k = λ x h. n x h.0
within_extends L U (Some a) None h n = λ x m. n x m.1
within_extends L U (Some a) (Some b) h k = extends_same (λ x m. ((h x).1 m.0, (k x).1 m.1)) (λ x m. ((h x).0 m.0, (k x).0 m.1)) (given (holds a b) (one a b)) (between_extends a b)

-- THE EXTENT OF THE NUMBERS THAT AN ENTRY ADMITS
pub entry_extends : (e : Entry) → Extends (Admitted e) (entry_extent e)
entry_extends Blank = λ x h. h
entry_extends (Bounds l u) = within_extends (NotBelow l) (NotAbove u) (bound_place −∞ l) (bound_place +∞ u) (low_from l) (high_to u)
