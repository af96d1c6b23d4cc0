-- A hull holds its set, and lies inside every range of a coarser scale that encloses the set. Assumes nothing.
--     rival_looser  pad_looser      on a coarser scale, neither a rival nor another pad puts less than the pad
use Rattle.std.proofs.Common.{ℤ, sym, subst, arith}
use borrow.Author.Differences.{ints}
use Rattle.number.specs.Number.{Number}
use Rattle.number.specs.Place.{Place}
use Rattle.number.proofs.Places.{⊑_trans}
use Rattle.scale.specs.Scale.{Code, Ordered, Coarser}
use Rattle.range.specs.declared.range.Range.{Range}
use Rattle.range.specs.Held.{Holds}
use Rattle.range.specs.Hull.{Hull, blank, ends}
use Rattle.range.proofs.Codes.{nothing_holds}
use Rattle.pad.specs.Working.{tightest}
use Rattle.pad.specs.Rival.{Encloses, loosest}
use Rattle.pad.proofs.Simulation.{Inside, Looser}

-- a hull holds its set, and its ends are codes
pub hull_encloses : {p : ℤ → Place} {S : Number → Type 0} {r : Range} → Hull p S r → Encloses p S r
hull_encloses (blank n e) = record {
  lower_code = subst (λ r. Code r.lower) (sym e) (omega (arith, ints));
  upper_code = subst (λ r. Code r.upper) (sym e) (omega (arith, ints));
  all = λ x h. absurd (n x h);
}
hull_encloses (ends _ _ l u) = record { lower_code = l.code; upper_code = u.code; all = λ x h. (l.bound x h, u.bound x h) }

module _ {p q : ℤ → Place} (O : Ordered p) (C : Coarser p q) where
  pub hull_inside : {S : Number → Type 0} {r s : Range} → Hull p S r → Encloses q S s → Inside p q r s
  hull_inside (blank _ e) E x h = absurd (nothing_holds O x (subst (λ r. Holds p r x) e h))
  hull_inside {S} {r} {s} (ends _ _ l u) E x h =
      let (c, f, c_s, s_c) = C s.lower E.lower_code in
      let (d, g, d_s, s_d) = C s.upper E.upper_code in (
        ⊑_trans s_c (⊑_trans (O.monotone c r.lower f l.code (l.greatest c f (λ y k. ⊑_trans c_s (E.all y k).0))) h.0),
        ⊑_trans (⊑_trans h.1 (O.monotone r.upper d u.code g (u.least d g (λ y k. ⊑_trans (E.all y k).1 s_d)))) d_s,
      )

  pub rival_looser : Looser (tightest p) (loosest q)
  rival_looser = record {
    put = λ f h E. hull_inside h (record { lower_code = E.lower_code; upper_code = E.upper_code; all = λ x k. E.all x (f x k) });
    put_verdict = λ f h k t a. k t (f t (h.tight t a));
  }

  pub pad_looser : Looser (tightest p) (tightest q)
  pad_looser = record {
    put = λ f h k. rival_looser.put f h (hull_encloses k);
    put_verdict = λ f h k. rival_looser.put_verdict f h k.sound;
  }
