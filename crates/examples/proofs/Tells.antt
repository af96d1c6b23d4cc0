-- What a row says holds where its test passes. Assumes nothing.
use Rattle.std.proofs.Common.{◌≡◌, Bool, true, false, not, ◌&&◌, ◌↔◌, List, [], ◌∷◌, ℤ, pos, negsuc, ◌+ℤ◌, ◌-ℤ◌, Some, None, Option, sym, refl, ◌∙◌, arith}
use borrow.Author.Differences.{ints}
use lib.Signed.{le_z}
use Rattle.std.proofs.lemmas.Int.{by_lt_z}
use Rattle.number.specs.Number.{Number}
use Rattle.number.specs.Place.{Place, Inhabited}
use Rattle.number.proofs.Places.{⊑_trans}
use Rattle.scale.specs.Scale.{Code, Ordered}
use Rattle.scale.specs.Ruled.{ruled_marks}
use Rattle.scale.specs.Sliding.{sliding_marks}
use Rattle.scale.specs.Placing.{ordered}
use Rattle.scale.specs.Rule.{ruled_rising}
use Rattle.scale.specs.Steps.{sliding_rising}
use Rattle.range.specs.declared.range.Range.{Range}
use Rattle.range.specs.declared.verdict.Verdict.{Verdict}
use Rattle.range.specs.Held.{Holds, nothing}
use Rattle.range.specs.Hull.{Lowest, Highest, Hull, blank, ends}
use Rattle.range.specs.Truths.{allowed, Exactly, Comparisons}
use Rattle.range.proofs.Codes.{Codes}
use Rattle.range.proofs.Comparing.{exactly_none, less_exactly, at_most_exactly}
use Rattle.examples.specs.declared.Comparison.{Comparison}
use Rattle.examples.specs.declared.Comparison.TheVariants.{Less, AtMost}
use Rattle.examples.specs.declared.Claim.{Claim}
use Rattle.examples.specs.declared.Claim.TheVariants.{Enters, Works, Compares}
use Rattle.examples.specs.Claims.{compared, Claims}
use Rattle.examples.specs.Table.{Scale, rule, slide, places, Row, Says, Every, none, more}
use Rattle.examples.proofs.Tests.{Extent, extent, entry_extent, same, code, bounds_low, bounds_high, lowest, highest, hull_test, alike, can_be, can_fail, codes, verdict_test, held, claim_test, passes, all}
use Rattle.examples.proofs.Extents.{false_true, both, both_tell, holds_tells, Has, Extends, works_extend, entry_extends}

-- ---- tests of codes and truths
same_tells : (c d : ℤ) → same c d ≡ true → c ≡ d
same_tells c d e = let s = (both (le_z c d) (le_z d c)).0 e in let h = s.0 in let k = s.1 in omega (arith, ints)

code_tells : (c : ℤ) → code c ≡ true → Code c
code_tells c e =
    let s = (both (le_z (negsuc 9223372036854775807) c) (le_z c (pos 9223372036854775807))).0 e in
    let h = s.0 in
    let k = s.1 in
    omega (arith, ints)

not_false : (b : Bool) → not b ≡ true → b ≡ false
not_false true e = absurd (false_true e)
not_false false e = refl

alike_tells : (a b : Bool) → alike a b ≡ true → a ≡ b
alike_tells true b e = sym e
alike_tells false b e = sym (not_false b e)

-- ---- an end: its code bounds the set, and the next one does not
module _ {p : ℤ → Place} (O : Ordered p) {S : Number → Type 0} {e : Extent} (H : Has S e) (c : ℤ) where
  lowest_tells : lowest p e.lows c ≡ true → Lowest p S c
  lowest_tells t =
      let u = (both (code c) (bounds_low e.lows (p c) && not (bounds_low e.lows (p (c +ℤ pos 1))))).0 t in
      let v = (both (bounds_low e.lows (p c)) (not (bounds_low e.lows (p (c +ℤ pos 1))))).0 u.1 in
      let f = code_tells c u.0 in
      record {
        code = f;
        bound = (H.lower (p c)).0 v.0;
        greatest = λ d g b. by_lt_z c d
            (λ l. absurd (false_true (sym (not_false _ v.1) ∙ (H.lower (p (c +ℤ pos 1))).1 (λ x m. ⊑_trans (O.monotone (c +ℤ pos 1) d (omega (arith, ints)) g (omega (arith, ints))) (b x m)))))
            (λ l. l);
      }

  highest_tells : highest p e.highs c ≡ true → Highest p S c
  highest_tells t =
      let u = (both (code c) (bounds_high e.highs (p c) && not (bounds_high e.highs (p (c -ℤ pos 1))))).0 t in
      let v = (both (bounds_high e.highs (p c)) (not (bounds_high e.highs (p (c -ℤ pos 1))))).0 u.1 in
      let f = code_tells c u.0 in
      record {
        code = f;
        bound = (H.upper (p c)).0 v.0;
        least = λ d g b. by_lt_z d c
            (λ l. absurd (false_true (sym (not_false _ v.1) ∙ (H.upper (p (c -ℤ pos 1))).1 (λ x m. ⊑_trans (b x m) (O.monotone d (c -ℤ pos 1) g (omega (arith, ints)) (omega (arith, ints)))))))
            (λ l. l);
      }

hull_tells : {p : ℤ → Place} → Ordered p → (S : Number → Type 0) (o : Option Extent) → Extends S o → (r : Range) → hull_test p o r ≡ true → Hull p S r
hull_tells O S None n r t =
    let u = (both (same r.lower nothing.lower) (same r.upper nothing.upper)).0 t in
    blank n (λ i. record { lower = same_tells r.lower nothing.lower u.0 i; upper = same_tells r.upper nothing.upper u.1 i })
hull_tells {p} O S (Some e) H r t =
    let u = (both (lowest p e.lows r.lower) (highest p e.highs r.upper)).0 t in
    ends H.member.0 H.member.1 (lowest_tells O H r.lower u.0) (highest_tells O H r.upper u.1)

-- ---- verdicts
codes_tell : (r : Range) → codes r ≡ true → Codes r
codes_tell r t = let u = (both (code r.lower) (code r.upper)).0 t in record { lower_code = code_tells r.lower u.0; upper_code = code_tells r.upper u.1 }

module _ {p : ℤ → Place} (O : Ordered p) (x y : Range) (v : Verdict) where
  exactly : (c : Comparison) → Codes x → Codes y → Inhabited (Holds p x) → Inhabited (Holds p y) → allowed v true ≡ can_be c x y → allowed v false ≡ can_fail c x y → Exactly (Comparisons (compared c) (Holds p x) (Holds p y)) v
  exactly Less C D s t e f = less_exactly O x y C D s t v e f
  exactly AtMost C D s t e f = at_most_exactly O x y C D s t v e f

  verdict_tells : (c : Comparison) → verdict_test (held p x && held p y) c x y v ≡ true → Exactly (Comparisons (compared c) (Holds p x) (Holds p y)) v
  verdict_tells c = by (held p x && held p y) refl
    where
      members : (held p x && held p y ≡ true) ↔ (Inhabited (Holds p x) × Inhabited (Holds p y))
      members = both_tell (holds_tells (p x.lower) (p x.upper)) (holds_tells (p y.lower) (p y.upper))

      by : (t : Bool) → held p x && held p y ≡ t → verdict_test t c x y v ≡ true → Exactly (Comparisons (compared c) (Holds p x) (Holds p y)) v
      by true h t =
          let s = members.0 h in
          let u = (both (codes x && codes y) (alike (allowed v true) (can_be c x y) && alike (allowed v false) (can_fail c x y))).0 t in
          let k = (both (codes x) (codes y)).0 u.0 in
          let w = (both (alike (allowed v true) (can_be c x y)) (alike (allowed v false) (can_fail c x y))).0 u.1 in
          exactly c (codes_tell x k.0) (codes_tell y k.1) s.0 s.1 (alike_tells (allowed v true) (can_be c x y) w.0) (alike_tells (allowed v false) (can_fail c x y) w.1)
      by false h t =
          let u = (both (not (allowed v true)) (not (allowed v false))).0 t in
          exactly_none (Comparisons (compared c) (Holds p x) (Holds p y)) v (neither u.0 u.1) (λ b o. false_true (sym h ∙ members.1 ((o.0, o.2), (o.1, o.3))))
        where
          neither : not (allowed v true) ≡ true → not (allowed v false) ≡ true → (b : Bool) → allowed v b ≡ false
          neither e f true = not_false (allowed v true) e
          neither e f false = not_false (allowed v false) f

-- ---- claims and rows
claim_tells : {p : ℤ → Place} → Ordered p → (c : Claim) → claim_test p c ≡ true → Claims p c
claim_tells O (Enters e r) t = hull_tells O _ (entry_extent e) (entry_extends e) r t
claim_tells {p} O (Works o x y r) t =
    let a = p x.lower in
    let b = p x.upper in
    let c = p y.lower in
    let d = p y.upper in
    hull_tells O _ (extent o a b c d) (works_extend o a b c d) r t
claim_tells O (Compares c x y v) t = verdict_tells O x y v c t

places_ordered : (s : Scale) → Ordered (places s)
places_ordered (rule s) = ordered (ruled_marks s) (pos 0) (ruled_rising s)
places_ordered slide = ordered sliding_marks (pos 0) sliding_rising

-- A ROW WHOSE TEST PASSES HOLDS
pub tells : (row : Row) → passes row ≡ true → Says row
tells row t = claim_tells (places_ordered row.scale) row.claim t

pub every_tells : (rows : List Row) → all rows ≡ true → Every Says rows
every_tells [] t = none
every_tells (r ∷ rs) t = let u = (both (passes r) (all rs)).0 t in more (tells r u.0) (every_tells rs u.1)
