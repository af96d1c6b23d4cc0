-- What the told codes of a scale say of any code's place. Assumes nothing.
use Rattle.std.proofs.Common.{◌≡◌, ℤ, ◌≤ℤ◌, ◌<ℤ◌, refl, subst, arith}
use borrow.Author.Differences.{ints}
use Rattle.number.specs.Number.{Number}
use Rattle.number.specs.Place.{Place, −∞, at, +∞, ◌⊑◌}
use Rattle.number.proofs.Places.{⊑-−∞, +∞-⊑}
use Rattle.scale.specs.Scale.{Code, Ordered, Told}

module _ {p : ℤ → Place} (O : Ordered p) {low origin high : ℤ} (T : Told p low origin high) {c : ℤ} (f : Code c) where
  pub place_low : c ≤ℤ low → p c ≡ −∞
  place_low h = ⊑-−∞ (subst (λ q. p c ⊑ q) T.low_place (O.monotone c low f T.low_code h))

  pub place_high : high ≤ℤ c → p c ≡ +∞
  place_high h = +∞-⊑ (subst (λ q. q ⊑ p c) T.high_place (O.monotone high c T.high_code f h))

  pub place_number : low <ℤ c → c <ℤ high → (x : Number) × (p c ≡ at x)
  place_number l h = by (p c) refl
    where
      by : (q : Place) → p c ≡ q → (x : Number) × (p c ≡ at x)
      by −∞ e = absurd (let k = T.low_greatest c f e in omega (arith, ints))
      by (at x) e = (x, e)
      by +∞ e = absurd (let k = T.high_least c f e in omega (arith, ints))
