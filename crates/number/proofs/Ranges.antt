-- Which ranges hold a number, a positive one, a negative one. Assumes nothing.
use Rattle.std.proofs.Common.{◌↔◌, ⊎_elim}
use Rattle.number.specs.Number.{nought, neg}
use Rattle.number.specs.Place.{Place, −∞, at, +∞, ◌⊑◌, opp, Inhabited, Between, PositivePart, NegativePart}
use Rattle.number.proofs.Fractions.{≼_or_≺, ≼_trans, ≺-≼, ≺_not_≼, neg_≺, one, one_positive}
use Rattle.number.proofs.Places.{−∞_least, +∞_greatest, at_⊑, ⊑_at, at_not_⊑-−∞, +∞_not_⊑_at, ⊑_refl, ⊑_trans, opp_back}
use Rattle.number.proofs.Ends.{between_to, between_from}

pub range_inhabited : (a b : Place) → Inhabited (Between a b) ↔ ((a ⊑ b) × ¬ (+∞ ⊑ a) × ¬ (b ⊑ −∞))
range_inhabited a b = (
  λ s. (⊑_trans s.1.0 s.1.1, (λ h. +∞_not_⊑_at (⊑_trans h s.1.0)), λ h. at_not_⊑-−∞ (⊑_trans s.1.1 h)),
  λ h. one_of a b h.0 h.1 h.2,
)
  where
    one_of : (a b : Place) → a ⊑ b → ¬ (+∞ ⊑ a) → ¬ (b ⊑ −∞) → Inhabited (Between a b)
    one_of −∞ −∞ h l r = absurd (r ⊑_refl)
    one_of −∞ (at y) h l r = (y, (−∞_least, ⊑_refl))
    one_of −∞ +∞ h l r = (nought, (−∞_least, +∞_greatest))
    one_of (at x) b h l r = (x, (⊑_refl, h))
    one_of +∞ b h l r = absurd (l ⊑_refl)

positive_of : (a b : Place) → Inhabited (Between a b) → ¬ (b ⊑ at nought) → Inhabited (PositivePart (Between a b))
positive_of a −∞ s n = absurd (n −∞_least)
positive_of a (at y) s n = ⊎_elim (λ h. absurd (n (at_⊑ h))) (λ h. (y, ((⊑_trans s.1.0 s.1.1, ⊑_refl), h))) (≼_or_≺ y nought)
positive_of a +∞ s n = ⊎_elim
    (λ h. (one, ((⊑_trans s.1.0 (at_⊑ (≼_trans h (≺-≼ one_positive))), +∞_greatest), one_positive)))
    (λ h. (s.0, (s.1, h)))
    (≼_or_≺ s.0 nought)

pub range_positive : (a b : Place) → Inhabited (PositivePart (Between a b)) ↔ (Inhabited (Between a b) × ¬ (b ⊑ at nought))
range_positive a b = (λ s. ((s.0, s.1.0), λ h. ≺_not_≼ s.1.1 (⊑_at (⊑_trans s.1.0.1 h))), λ h. positive_of a b h.0 h.1)

-- by negation
pub range_negative : (a b : Place) → Inhabited (NegativePart (Between a b)) ↔ (Inhabited (Between a b) × ¬ (at nought ⊑ a))
range_negative a b = (
  λ s. ((s.0, s.1.0), λ h. ≺_not_≼ s.1.1 (⊑_at (⊑_trans h s.1.0.0))),
  λ h.
      let s = positive_of (opp b) (opp a) (neg h.0.0, between_to h.0.0 h.0.1) (λ k. h.1 (opp_back k)) in
      (neg s.0, (between_from s.0 s.1.0, neg_≺ s.1.1)),
)
