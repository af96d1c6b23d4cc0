-- The exact results of two counts of marks, and of a written fraction. Assumes nothing.
--     InParts m r e n     n is the exact result e in parts, rounded to a whole count; none where there is no number
--     sum_works ..        what is rounded to a code from such a count is the sum of the two codes, and likewise the others
use Rattle.std.proofs.Common.{◌≡◌, ℕ, zero, suc, ◌*◌, ◌<◌, false, ℤ, pos, negsuc, ◌+ℤ◌, ◌-ℤ◌, ◌*ℤ◌, neg_ℤ, is_some, Some, None, Option, MatchOption, IfSome, IsSomeAnd, sym, refl, subst, mul_comm, mul-pos, arith}
use Rattle.std.proofs.lemmas.Int.{ints}
use Rattle.std.specs.Option.{option_map}
use Rattle.std.proofs.lemmas.Bool.{true≢false}
use Rattle.number.specs.declared.Fraction.{Fraction}
use Rattle.number.specs.Number.{Number, plus, minus, times}
use Rattle.number.specs.Place.{Place, −∞, at, +∞}
use Rattle.number.specs.Fraction.{value}
use Rattle.number.proofs.Ring.{#◌, ◌⁺, ◌⊕◌, ◌⊗◌, ◌⊛◌, ⊖◌, ring}
use Rattle.number.proofs.Written.{value_some}
use Rattle.scale.specs.declared.rounding.Rounding.{Rounding}
use Rattle.scale.specs.Rounded.{of_two, divided, Rounded, Sum, Difference, Product, Quotient, Written}
use Rattle.scale.specs.Quotient.{Whole, Signed}
use Rattle.scale.specs.Marked.{Marks, counted, marked, CountedBoth}
use Rattle.scale.specs.Wholes.{exact, scaled}
use Rattle.scale.specs.Placing.{rounded_count}

abbrev pub InParts : Marks → Rounding → Option Number → Option ℤ → Type 0
InParts m r None None = Unit {0}
InParts m r None (Some n) = ⊥
InParts m r (Some x) None = ⊥
InParts m r (Some x) (Some n) = Whole r (x.top *ℤ pos m.parts) x.bottom n

module _ (m : Marks) (r : Rounding) where
  in_parts_rounded : (e : Option Number) (n : Option ℤ) (c : ℤ) → InParts m r e n → Rounded (marked m) r (option_map (counted m) n) c → Rounded (marked m) r e c
  in_parts_rounded None None c i h = h
  in_parts_rounded None (Some n) c i h = absurd i
  in_parts_rounded (Some x) None c i h = absurd i
  in_parts_rounded (Some x) (Some n) c i h = rounded_count m r x n c i h

  -- no count of both, no exact number
  nothing_of_two : (f : Number → Number → Option Number) (p q : Place) → ((x y : Number) → p ≡ at x → q ≡ at y → ⊥) → InParts m r (of_two f p q) None
  nothing_of_two f −∞ q n = tt
  nothing_of_two f (at x) −∞ n = tt
  nothing_of_two f (at x) (at y) n = absurd (n x y refl refl)
  nothing_of_two f (at x) +∞ n = tt
  nothing_of_two f +∞ q n = tt

  -- ---- the count of each exact result
  square_positive : 0 < m.parts * m.parts
  square_positive = mul-pos m.positive m.positive

  sum_in_parts : (x y : ℤ) → InParts m r (Some (plus (counted m x) (counted m y))) (Some (x +ℤ y))
  sum_in_parts x y = exact r _ _ (x +ℤ y) square_positive (ring ((# x ⊛ m.parts ⊕ # y ⊛ m.parts) ⊛ m.parts) ((# x ⊕ # y) ⊛ (m.parts * m.parts)) (omega arith))

  difference_in_parts : (x y : ℤ) → InParts m r (Some (minus (counted m x) (counted m y))) (Some (x -ℤ y))
  difference_in_parts x y = exact r _ _ (x -ℤ y) square_positive (ring ((# x ⊛ m.parts ⊕ (⊖ # y) ⊛ m.parts) ⊛ m.parts) ((# x ⊕ ⊖ # y) ⊛ (m.parts * m.parts)) (omega arith))

  product_in_parts : (x y n : ℤ) → Whole r (x *ℤ y) m.parts n → InParts m r (Some (times (counted m x) (counted m y))) (Some n)
  product_in_parts x y n w = scaled r (x *ℤ y) m.parts m.parts n m.positive w

  swapped : (n : ℤ) (k : ℕ) (q : ℤ) → Whole r n k q → Whole r (n *ℤ pos m.parts) (m.parts * k) q
  swapped n k q w = subst (λ d. Whole r (n *ℤ pos m.parts) d q) (mul_comm k m.parts) (scaled r n k m.parts q m.positive w)

  quotient_in_parts : (x y : ℤ) (n : Option ℤ) → MatchOption n (y ≡ pos 0) (λ q. (y ≡ pos 0 → ⊥) × Signed r (x *ℤ pos m.parts) y q) → InParts m r (divided (counted m x) (counted m y) y) n
  quotient_in_parts x (pos zero) None w = tt
  quotient_in_parts x (pos zero) (Some n) w = absurd (w.0 refl)
  quotient_in_parts x (pos (suc k)) None w = absurd (let z : suc k ≡ 0 = cc in omega arith)
  quotient_in_parts x (pos (suc k)) (Some n) w = swapped (x *ℤ pos m.parts) (suc k) n w.1
  quotient_in_parts x (negsuc k) None w = absurd (omega (arith, ints))
  quotient_in_parts x (negsuc k) (Some n) w =
      subst (λ t. Whole r (t *ℤ pos m.parts) (m.parts * suc k) n) (ring (⊖ (# x ⊛ m.parts)) (# x ⊗ ⊖ (m.parts ⁺)) (omega arith)) (swapped (neg_ℤ (x *ℤ pos m.parts)) (suc k) n w.1)

  -- ---- the codes, on the places p that the marks give
  module _ (p : ℤ → Place) (placed : p ≡ marked m) where
    module _ (f : Number → Number → Option Number) (a b : ℤ) (o : Option (ℤ × ℤ)) (n : Option ℤ) (c : ℤ) (k : CountedBoth m a b o) where
      of_two_works : MatchOption o (n ≡ None) (λ k. InParts m r (f (counted m k.0) (counted m k.1)) n) → Rounded (marked m) r (option_map (counted m) n) c → Rounded p r (of_two f (p a) (p b)) c
      of_two_works w h = subst (λ q. Rounded q r (of_two f (q a) (q b)) c) (sym placed) (in_parts_rounded _ n c (by o k w) h)
        where
          by : (o : Option (ℤ × ℤ)) → CountedBoth m a b o → MatchOption o (n ≡ None) (λ k. InParts m r (f (counted m k.0) (counted m k.1)) n) → InParts m r (of_two f (marked m a) (marked m b)) n
          by None k w = subst (λ n. InParts m r (of_two f (marked m a) (marked m b)) n) (sym w) (nothing_of_two f (marked m a) (marked m b) k)
          by (Some xy) k w = subst (λ q. InParts m r (of_two f q (marked m b)) n) (sym k.0) (subst (λ q. InParts m r (of_two f (at (counted m xy.0)) q) n) (sym k.1) w)

    module _ (a b : ℤ) (o : Option (ℤ × ℤ)) (n : Option ℤ) (c : ℤ) (k : CountedBoth m a b o) where
      pub sum_works : MatchOption o (n ≡ None) (λ k. n ≡ Some (k.0 +ℤ k.1)) → Rounded (marked m) r (option_map (counted m) n) c → Sum p r a b c
      sum_works w = of_two_works (λ x y. Some (plus x y)) a b o n c k (by o w)
        where
          by : (o : Option (ℤ × ℤ)) → MatchOption o (n ≡ None) (λ k. n ≡ Some (k.0 +ℤ k.1)) → MatchOption o (n ≡ None) (λ k. InParts m r (Some (plus (counted m k.0) (counted m k.1))) n)
          by None w = w
          by (Some k) w = subst (λ n. InParts m r (Some (plus (counted m k.0) (counted m k.1))) n) (sym w) (sum_in_parts k.0 k.1)

      pub difference_works : MatchOption o (n ≡ None) (λ k. n ≡ Some (k.0 -ℤ k.1)) → Rounded (marked m) r (option_map (counted m) n) c → Difference p r a b c
      difference_works w = of_two_works (λ x y. Some (minus x y)) a b o n c k (by o w)
        where
          by : (o : Option (ℤ × ℤ)) → MatchOption o (n ≡ None) (λ k. n ≡ Some (k.0 -ℤ k.1)) → MatchOption o (n ≡ None) (λ k. InParts m r (Some (minus (counted m k.0) (counted m k.1))) n)
          by None w = w
          by (Some k) w = subst (λ n. InParts m r (Some (minus (counted m k.0) (counted m k.1))) n) (sym w) (difference_in_parts k.0 k.1)

      pub product_works : MatchOption o (n ≡ None) (λ k. IsSomeAnd n (Whole r (k.0 *ℤ k.1) m.parts)) → Rounded (marked m) r (option_map (counted m) n) c → Product p r a b c
      product_works w = of_two_works (λ x y. Some (times x y)) a b o n c k (by o n w)
        where
          by : (o : Option (ℤ × ℤ)) (n : Option ℤ) → MatchOption o (n ≡ None) (λ k. IsSomeAnd n (Whole r (k.0 *ℤ k.1) m.parts)) → MatchOption o (n ≡ None) (λ k. InParts m r (Some (times (counted m k.0) (counted m k.1))) n)
          by None n w = w
          by (Some k) None w = absurd w
          by (Some k) (Some n) w = product_in_parts k.0 k.1 n w

      pub quotient_works : MatchOption o (n ≡ None) (λ k. MatchOption n (k.1 ≡ pos 0) (λ q. (k.1 ≡ pos 0 → ⊥) × Signed r (k.0 *ℤ pos m.parts) k.1 q)) → Rounded (marked m) r (option_map (counted m) n) c → Quotient p r a b c
      quotient_works w = of_two_works (λ x y. divided x y y.top) a b o n c k (by o w)
        where
          by : (o : Option (ℤ × ℤ)) → MatchOption o (n ≡ None) (λ k. MatchOption n (k.1 ≡ pos 0) (λ q. (k.1 ≡ pos 0 → ⊥) × Signed r (k.0 *ℤ pos m.parts) k.1 q)) → MatchOption o (n ≡ None) (λ k. InParts m r (divided (counted m k.0) (counted m k.1) k.1) n)
          by None w = w
          by (Some k) w = quotient_in_parts k.0 k.1 n w

    pub fraction_works : (f : Fraction) (n : Option ℤ) (c : ℤ) → is_some n ≡ is_some (value f) → IfSome n (Whole r (f.p *ℤ pos m.parts) f.q) → Rounded (marked m) r (option_map (counted m) n) c → Written p r f c
    fraction_works f n c e w h = subst (λ q. Rounded q r (value f) c) (sym placed) (in_parts_rounded (value f) n c (by n e w) h)
      where
        by : (n : Option ℤ) → is_some n ≡ is_some (value f) → IfSome n (Whole r (f.p *ℤ pos m.parts) f.q) → InParts m r (value f) n
        by None e w = none (value f) (sym e)
          where
            none : (v : Option Number) → is_some v ≡ false → InParts m r v None
            none None e = tt
            none (Some x) e = absurd (true≢false e)
        by (Some n) e w = let v = value_some f.p f.q (sym e) in subst (λ o. InParts m r o (Some n)) (sym v.2) w
