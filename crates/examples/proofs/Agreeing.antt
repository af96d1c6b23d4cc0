-- A result is the claimed one exactly if the claim holds, since a hull and a set of truths are alone. Assumes nothing.
use Rattle.std.proofs.Common.{rules, ◌≡◌, ◌&&◌, Bool, true, false, T, ℤ, Decides, sym, refl, ap, ◌∙◌, subst, ap₂}
use Rattle.std.proofs.lemmas.Bool.Decides.{Decides-at, Decides-like, Decides-and, Decides-int_eq}
use Rattle.std.specs.Ordering.{int_eq}
use denote.Enum.Bare.{sameb, same_true, true_same}
use Rattle.range.specs.contracts.verdict.Verdict.{the_type}
use Rattle.number.specs.Number.{Number}
use Rattle.number.specs.Place.{Place}
use Rattle.range.specs.declared.range.Range.{Range}
use Rattle.range.specs.declared.verdict.Verdict.{Verdict}
use Rattle.range.specs.declared.verdict.Verdict.TheVariants.{Certain, Impossible, Open, Void}
use Rattle.range.specs.Hull.{Hull}
use Rattle.range.specs.Truths.{allowed, Exactly}
use Rattle.range.proofs.Codes.{hull_alone}

-- ---- ranges
-- what `==` says of two ranges
abbrev Compared : Bool → Range → Range → Type 0
Compared b q r = b ≡ (int_eq q.lower r.lower && int_eq q.upper r.upper)

range_decides : (b : Bool) (q r : Range) → Compared b q r → Decides b (q ≡ r)
range_decides b q r h =
    Decides-at b (int_eq q.lower r.lower && int_eq q.upper r.upper) h
    (Decides-like (int_eq q.lower r.lower && int_eq q.upper r.upper) (λ e i. record { lower = e.0 i; upper = e.1 i }) (λ e. (ap (λ (s : Range). s.lower) e, ap (λ (s : Range). s.upper) e))
    (Decides-and (int_eq q.lower r.lower) (int_eq q.upper r.upper) (Decides-int_eq q.lower r.lower) (Decides-int_eq q.upper r.upper)))

pub hull_decides : {p : ℤ → Place} {S : Number → Type 0} (b : Bool) {q : Range} (r : Range) → Hull p S q → Compared b q r → Decides b (Hull p S r)
hull_decides {p} {S} b {q} r h k =
    let d = range_decides b q r k in
    (λ e. subst (λ s. Hull p S s) (d.0 e) h, λ g. d.1 (hull_alone h g))

-- ---- verdicts
of : Bool → Bool → Verdict
of true true = Open
of true false = Certain
of false true = Impossible
of false false = Void

of_allowed : (v : Verdict) → of (allowed v true) (allowed v false) ≡ v
unfolding of
of_allowed Certain = refl
of_allowed Impossible = refl
of_allowed Open = refl
of_allowed Void = refl

alike : (a b : Bool) → (T a → T b) → (T b → T a) → a ≡ b
alike true true f g = refl
alike true false f g = absurd (f tt)
alike false true f g = absurd (g tt)
alike false false f g = refl

exactly_alone : {P : Bool → Type 0} {v w : Verdict} → Exactly P v → Exactly P w → v ≡ w
exactly_alone {P} {v} {w} h k = sym (of_allowed v) ∙ ap₂ of (at true) (at false) ∙ of_allowed w
  where
    at : (b : Bool) → allowed v b ≡ allowed w b
    at b = alike (allowed v b) (allowed w b) (λ s. k.sound b (h.tight b s)) (λ s. h.sound b (k.tight b s))

-- what `==` says of two verdicts
abbrev Alike : Bool → Verdict → Verdict → Type 0
Alike b v w = b ≡ sameb the_type v w

equal_decides : (b : Bool) (v w : Verdict) → Alike b v w → Decides b (v ≡ w)
equal_decides b v w h = (λ e. same_true the_type (search rules) v w (sym h ∙ e), λ e. h ∙ true_same the_type v w e)

pub verdict_decides : {P : Bool → Type 0} (b : Bool) {v : Verdict} (w : Verdict) → Exactly P v → Alike b v w → Decides b (Exactly P w)
verdict_decides {P} b {v} w h k =
    let d = equal_decides b v w k in
    (λ e. subst (λ s. Exactly P s) (d.0 e) h, λ g. d.1 (exactly_alone h g))
