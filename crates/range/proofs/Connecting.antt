-- The truths of connectives, and of at most by less. Assumes nothing.
use Rattle.std.proofs.Common.{◌≡◌, Bool, true, false, not, ◌&&◌, ◌||◌, refl, ap, sym, ◌∙◌, subst}
use Rattle.number.specs.Number.{Number}
use Rattle.range.specs.declared.verdict.Verdict.{Verdict}
use Rattle.range.specs.declared.verdict.Verdict.TheVariants.{Open}
use Rattle.range.specs.Truths.{Allows, Exactly, OfTruth, OfTruths, Comparisons, Less, IsAtMost}

twice : (b : Bool) → not (not b) ≡ b
twice true = refl
twice false = refl

pub not_open : Exactly (OfTruth not (Allows Open)) Open
not_open = record { sound = λ b s. tt; tight = λ b s. (not b, tt, twice b) }

-- x or y is not (not x and not y)
turned : (u v : Bool) → not (not u && not v) ≡ (u || v)
turned true v = refl
turned false v = twice v

pub or_by_and : (x y a b c d : Verdict) → Exactly (OfTruth not (Allows x)) a → Exactly (OfTruth not (Allows y)) b → Exactly (OfTruths ◌&&◌ (Allows a) (Allows b)) c → Exactly (OfTruth not (Allows c)) d → Exactly (OfTruths ◌||◌ (Allows x) (Allows y)) d
or_by_and x y a b c d e f g h = record {
  sound = λ w s. h.sound w (not s.0 && not s.1, g.sound _ (not s.0, not s.1, e.sound _ (s.0, s.2, refl), f.sound _ (s.1, s.3, refl), refl), turned s.0 s.1 ∙ s.4);
  tight = λ w k.
      let r = h.tight w k in
      let s = g.tight r.0 r.1 in
      let u = e.tight s.0 s.2 in
      let v = f.tight s.1 s.3 in
      (u.0, v.0, u.1, v.1, sym (turned u.0 v.0) ∙ (ap not ((λ i. u.2 i && v.2 i) ∙ s.4) ∙ r.2));
}

-- x ≤ y is not y < x
module _ (X Y : Number → Type 0) (v w : Verdict) where
  pub at_most_by_less : Exactly (Comparisons Less Y X) v → Exactly (OfTruth not (Allows v)) w → Exactly (Comparisons IsAtMost X Y) w
  at_most_by_less h k = record {
    sound = λ b o. k.sound b (not b, h.sound (not b) (o.1, o.0, o.3, o.2, turn o.0 o.1 b o.4), twice b);
    tight = λ b a.
        let s = k.tight b a in
        let o = h.tight s.0 s.1 in
        (o.1, o.0, o.3, o.2, subst (λ t. IsAtMost o.1 o.0 t) s.2 (back o.1 o.0 s.0 o.4));
  }
    where
      turn : (x y : Number) (b : Bool) → IsAtMost x y b → Less y x (not b)
      turn x y true h = h
      turn x y false h = h

      back : (x y : Number) (b : Bool) → Less y x b → IsAtMost x y (not b)
      back x y true h = h
      back x y false h = h
