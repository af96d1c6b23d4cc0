-- The counts of the sliding scale. Assumes nothing.
--     block          the codes of a block count by equal widths
--     steps_rise     a higher code counts more
--     found          the code of a count, from its leading digits
use Rattle.std.specs.Prelude.{◌≡◌, ℕ, zero, suc, ◌+◌, ◌-◌, ◌*◌, ◌/◌, ◌%◌, ◌^◌, ◌<◌, ◌≤◌, Bool, true, false, cond, ◌⊎◌, ◌↔◌, ℤ, pos, negsuc, neg_ℤ, ◌≤ℤ◌, ◌<ℤ◌, nat_lt, unsigned_abs, refl}
use Rattle.std.proofs.Common.{sym, ap, subst, ◌∙◌, inl, inr, ⊎_elim, arith, le-div_iff_mul-le, div-lt_iff_lt-mul, div-mul-le_self, div-add-mod', mod-lt, pow-add, pow_mono, pow_pos, ltb-true, ltb-false}
use Rattle.std.proofs.Math.Decide.{dec_le, dec_lt}
use Rattle.std.specs.Int.{int_max, int_min}
use Rattle.std.proofs.lemmas.Int.{clamps, ints}
use Rattle.number.specs.Place.{Place, at, ◌⊑◌}
use Rattle.number.proofs.Places.{−∞_least, +∞_greatest}
use Rattle.scale.specs.Scale.{Floor, Ceiling}
use Rattle.scale.specs.Marked.{counted}
use Rattle.scale.specs.Sliding.{steps, mirrored, sliding_marks, sliding}
use Rattle.scale.specs.Placing.{Rising, floor_at, by_place, is_number, is_low, is_high, at_most_in, at_most_out}

by_size : (c : ℕ) (P : ℕ → Type 0) → (c < 4096 → P c) → (4096 ≤ c → P ((4096 + c % 4096) * 2 ^ (c / 4096 - 1))) → P (steps c)
unfolding steps
by_size c P small large = by (nat_lt c 4096) refl
  where
    by : (t : Bool) → nat_lt c 4096 ≡ t → P (cond t c ((4096 + c % 4096) * 2 ^ (c / 4096 - 1)))
    by true e = small (ltb-true c 4096 e)
    by false e = large (ltb-false c 4096 e)

pub steps_small : (c : ℕ) → c < 4096 → steps c ≡ c
steps_small c h = by_size c (λ n. n ≡ c) (λ _. refl) (λ k. absurd (omega arith))

pub steps_large : (c : ℕ) → 4096 ≤ c → steps c ≡ (4096 + c % 4096) * 2 ^ (c / 4096 - 1)
steps_large c h = by_size c (λ n. n ≡ (4096 + c % 4096) * 2 ^ (c / 4096 - 1)) (λ k. absurd (omega arith)) (λ _. refl)

-- the code k places on in the block of width 2 ^ s, the first code of the next block too
pub block : (s k : ℕ) → 4096 ≤ k → k ≤ 8192 → steps (4096 * s + k) ≡ k * 2 ^ s
block s k l h = by (dec_lt k 8192)
  where
    by : Dec (k < 8192) → steps (4096 * s + k) ≡ k * 2 ^ s
    by (yes i) =
        let c = 4096 * s + k in
        let q : c / 4096 - 1 ≡ s = omega arith in
        let r : 4096 + c % 4096 ≡ k = omega arith in
        steps_large c (omega arith) ∙ (λ i. r i * 2 ^ q i)
    by (no i) =
        let c = 4096 * s + k in
        let q : c / 4096 - 1 ≡ s + 1 = omega arith in
        let r : 4096 + c % 4096 ≡ 4096 = omega arith in
        let p = pow-add 2 s 1 in
        steps_large c (omega arith) ∙ (λ i. r i * 2 ^ q i) ∙ (let g : k ≡ 8192 = omega arith in let g' = ap (λ (n : ℕ). n * 2 ^ s) g in omega arith)

-- every code stands in a block
data Kind (c : ℕ) : Type 0 where
  fine : c < 4096 → Kind c
  wide : (s k : ℕ) → 4096 ≤ k → k < 8192 → c ≡ 4096 * s + k → Kind c

kind : (c : ℕ) → Kind c
kind c = by (dec_lt c 4096)
  where
    by : Dec (c < 4096) → Kind c
    by (yes h) = fine h
    by (no h) = wide (c / 4096 - 1) (4096 + c % 4096) (omega arith) (omega arith) (omega arith)

pub steps_next : (c : ℕ) → steps c < steps (c + 1)
steps_next c = by (kind c)
  where
    by : Kind c → steps c < steps (c + 1)
    by (fine h) = ⊎_elim
        (λ k. let e = steps_small c h in let f = steps_small (c + 1) k in omega arith)
        (λ k. let e = steps_small c h in let g : c + 1 ≡ 4096 * 0 + 4096 = omega arith in let f = ap steps g ∙ block 0 4096 (omega arith) (omega arith) in omega arith)
        (split (dec_lt (c + 1) 4096))
      where
        split : Dec (c + 1 < 4096) → (c + 1 < 4096) ⊎ (4096 ≤ c + 1)
        split (yes k) = inl k
        split (no k) = inr (omega arith)
    by (wide s k l h e) =
        let f = ap steps e ∙ block s k l (omega arith) in
        let g : c + 1 ≡ 4096 * s + (k + 1) = omega arith in
        let f' = ap steps g ∙ block s (k + 1) (omega arith) (omega arith) in
        let p = pow_pos s in
        omega arith

steps_more : (c n : ℕ) → steps c ≤ steps (c + n)
steps_more c zero = let e : c + 0 ≡ c = omega arith in let f = ap steps e in omega arith
steps_more c (suc n) = let e : c + suc n ≡ (c + n) + 1 = omega arith in let f = ap steps e in omega (arith, steps_next (c + n), steps_more c n)

pub steps_rise : (c d : ℕ) → c < d → steps c < steps d
steps_rise c d h = let e : d ≡ (c + 1) + (d - (c + 1)) = omega arith in let f = ap steps e in omega (arith, steps_next c, steps_more (c + 1) (d - (c + 1)))

-- what a code f and the next one count tells which codes count no more than n
pub steps_found : (n f : ℕ) → steps f ≤ n → n < steps (f + 1) → (d : ℕ) → (steps d ≤ n) ↔ (d ≤ f)
steps_found n f l h d = (λ k. by_order (λ g. omega (arith, up g)) (dec_le d f) k, λ k. down (dec_lt d f) k)
  where
    up : f + 1 ≤ d → steps (f + 1) ≤ steps d
    up g = ⊎_elim (λ (e : f + 1 ≡ d). let e' = ap steps e in omega arith) (λ (e : f + 1 < d). omega (arith, steps_rise (f + 1) d e)) (or (dec_lt (f + 1) d))
      where
        or : Dec (f + 1 < d) → (f + 1 ≡ d) ⊎ (f + 1 < d)
        or (yes k) = inr k
        or (no k) = inl (omega arith)

    by_order : (f + 1 ≤ d → n < steps d) → Dec (d ≤ f) → steps d ≤ n → d ≤ f
    by_order u (yes k) s = k
    by_order u (no k) s = absurd (let g : f + 1 ≤ d = omega arith in omega (arith, u g))

    down : Dec (d < f) → d ≤ f → steps d ≤ n
    down (yes k) s = omega (arith, steps_rise d f k)
    down (no k) s = let e : d ≡ f = omega arith in let e' = ap steps e in omega arith

-- ---- the code of a count n from its leading digits
module _ (n s : ℕ) (l : 4096 * 2 ^ s ≤ n) (h : n < 8192 * 2 ^ s) where
  lead_low : 4096 ≤ n / 2 ^ s
  lead_low = (le-div_iff_mul-le {k = 2 ^ s} {x = 4096} {y = n} (pow_pos s)).1 l

  lead_high : n / 2 ^ s < 8192
  lead_high = (div-lt_iff_lt-mul {k = 2 ^ s} {x = n} {y = 8192} (pow_pos s)).1 h

  pub found_low : steps (4096 * s + n / 2 ^ s) ≤ n
  found_low = let h' = lead_high in omega (arith, block s (n / 2 ^ s) lead_low (omega arith), div-mul-le_self n (2 ^ s))

  pub found_high : n < steps (4096 * s + n / 2 ^ s + 1)
  found_high =
      let h' = lead_high in
      let l' = lead_low in
      let e : 4096 * s + n / 2 ^ s + 1 ≡ 4096 * s + (n / 2 ^ s + 1) = omega arith in
      let g = ap steps e ∙ block s (n / 2 ^ s + 1) (omega arith) (omega arith) in
      omega (arith, div-add-mod' n (2 ^ s), mod-lt n (pow_pos s))

-- ---- codes of either sign
mirrored_rise : (c d : ℤ) → c <ℤ d → mirrored c <ℤ mirrored d
mirrored_rise (pos c) (pos d) h = let g = steps_rise c d (omega (arith, ints)) in omega (arith, ints)
mirrored_rise (pos c) (negsuc d) h = absurd (omega (arith, ints))
mirrored_rise (negsuc c) (pos d) h = let g = steps_rise 0 (suc c) (omega arith) in omega (arith, ints)
mirrored_rise (negsuc c) (negsuc d) h = let g = steps_rise (suc d) (suc c) (omega (arith, ints)) in omega (arith, ints)

pub mirrored_negative : (c : ℤ) → c <ℤ pos 0 → mirrored c ≡ neg_ℤ (pos (steps (unsigned_abs c)))
mirrored_negative (pos c) h = absurd (omega (arith, ints))
mirrored_negative (negsuc c) h = refl

pub mirrored_natural : (c : ℤ) → pos 0 ≤ℤ c → mirrored c ≡ pos (steps (unsigned_abs c))
mirrored_natural (pos c) h = refl
mirrored_natural (negsuc c) h = absurd (omega (arith, ints))

pub sliding_rising : Rising sliding_marks (pos 0)
sliding_rising = record {
  rises = λ c d _ _. mirrored_rise c d;
  first_code = omega (arith, ints);
  last_code = omega (arith, ints);
  origin_first = omega (arith, ints);
  origin_last = omega (arith, ints);
  origin_count = ap pos (steps_small 0 (omega arith));
}

-- a code of a natural count tells which codes of either sign count no more
found_pos : (n f : ℕ) → steps f ≤ n → n < steps (f + 1) → (d : ℤ) → (mirrored d ≤ℤ pos n) ↔ (d ≤ℤ pos f)
found_pos n f l h (pos d) = let e = steps_found n f l h d in (λ k. let g = e.0 (omega (arith, ints)) in omega (arith, ints), λ k. let g = e.1 (omega (arith, ints)) in omega (arith, ints))
found_pos n f l h (negsuc d) = (λ k. omega (arith, ints), λ k. omega (arith, ints))

found_neg : (n f : ℕ) → steps f ≤ n → n < steps (f + 1) → (d : ℤ) → (mirrored d ≤ℤ negsuc n) ↔ (d ≤ℤ negsuc f)
found_neg n f l h (pos d) = (λ k. absurd (omega (arith, ints)), λ k. absurd (omega (arith, ints)))
found_neg n f l h (negsuc d) =
    let e = steps_found n f l h (suc d) in (
      λ k. by (dec_le (suc d) f) (λ g. let s = e.1 g in omega (arith, ints)),
      λ k. back (dec_le (steps (suc d)) n) (λ g. let s = e.0 g in omega (arith, ints)),
    )
  where
    by : Dec (suc d ≤ f) → (suc d ≤ f → ⊥) → negsuc d ≤ℤ negsuc f
    by (yes g) u = absurd (u g)
    by (no g) u = omega (arith, ints)

    back : Dec (steps (suc d) ≤ n) → (steps (suc d) ≤ n → ⊥) → neg_ℤ (pos (steps (suc d))) ≤ℤ negsuc n
    back (yes g) u = absurd (u g)
    back (no g) u = omega (arith, ints)

-- THE CODE OF A COUNT, rounded below
pub sliding_floor : (n : ℕ) (f : ℕ) → steps f ≤ n → n < steps (f + 1) → (c : ℤ) → c ≡ int_min (pos f) (pos 81919) → Floor sliding (at (counted sliding_marks (pos n))) c
sliding_floor n f l h c e = floor_at sliding_marks (pos 0) sliding_rising (pos n) (pos f) (λ d _ _. found_pos n f l h d) c (omega (arith, ints, clamps))

pub sliding_floor⁻ : (n : ℕ) (f : ℕ) → steps f ≤ n → n < steps (f + 1) → (c : ℤ) → c ≡ int_max (negsuc f) (negsuc 81919) → Floor sliding (at (counted sliding_marks (negsuc n))) c
sliding_floor⁻ n f l h c e = floor_at sliding_marks (pos 0) sliding_rising (negsuc n) (negsuc f) (λ d _ _. found_neg n f l h d) c (omega (arith, ints, clamps))

-- no count of the scale reaches 2 ^ 31
pub sliding_far : (d : ℤ) → negsuc 81918 ≤ℤ d → d ≤ℤ pos 81919 → (neg_ℤ (pos 2147483648) <ℤ mirrored d) × (mirrored d <ℤ pos 2147483648)
sliding_far d l h =
    let top = block 18 8191 (omega arith) (omega arith) in
    let up = mirrored_rise d (pos 81920) (omega (arith, ints)) in
    let down = mirrored_rise (negsuc 81919) d (omega (arith, ints)) in
    let end = block 18 8192 (omega arith) (omega arith) in
    (omega (arith, ints), omega (arith, ints))

pub steps_below : (c : ℕ) → c ≤ 81919 → steps c < 2147483648
steps_below c h = let end = block 18 8192 (omega arith) (omega arith) in omega (arith, steps_rise c 81920 (omega arith))

-- the code of a count from its binary logarithm k
module _ (n k : ℕ) (low : 4096 ≤ n) (l : 2 ^ k ≤ n) (h : n < 2 * 2 ^ k) (small : k < 64) where
  pub shift_fits : 12 ≤ k
  shift_fits = by (dec_le 12 k)
    where
      by : Dec (12 ≤ k) → 12 ≤ k
      by (yes i) = i
      by (no i) = absurd (let m = pow_mono {i = k} {j = 11} (omega arith) in omega arith)

  split_power : 2 ^ k ≡ 2 ^ 12 * 2 ^ (k - 12)
  split_power = let f = shift_fits in let e : k ≡ 12 + (k - 12) = omega arith in ap (λ (j : ℕ). 2 ^ j) e ∙ pow-add 2 12 (k - 12)

  pub log_found : (steps (4096 * (k - 12) + n / 2 ^ (k - 12)) ≤ n) × (n < steps (4096 * (k - 12) + n / 2 ^ (k - 12) + 1)) × (4096 * (k - 12) + n / 2 ^ (k - 12) < 2 ^ 19)
  log_found =
      let e = split_power in
      let a : 4096 * 2 ^ (k - 12) ≤ n = omega arith in
      let b : n < 8192 * 2 ^ (k - 12) = omega arith in
      (found_low n (k - 12) a b, found_high n (k - 12) a b, omega (arith, lead_high n (k - 12) a b))

-- no code is below the greatest for minus infinity
pub sliding_lowest : (q : Place) (c : ℤ) → Floor sliding q c → negsuc 81919 ≤ℤ c
sliding_lowest q c f = f.greatest (negsuc 81919) (omega (arith, ints)) (subst (λ p. p ⊑ q) (sym (is_low sliding_marks (negsuc 81919) (omega (arith, ints)) (omega (arith, ints)))) −∞_least)

-- rounding above mirrors rounding below
mirrored_neg : (c : ℤ) → mirrored (neg_ℤ c) ≡ neg_ℤ (mirrored c)
mirrored_neg (pos zero) = let e = steps_small 0 (omega arith) in omega (arith, ints)
mirrored_neg (pos (suc c)) = refl
mirrored_neg (negsuc c) = omega (arith, ints)

pub sliding_ceiling : (n c : ℤ) → Floor sliding (at (counted sliding_marks (neg_ℤ n))) c → Ceiling sliding (at (counted sliding_marks n)) (neg_ℤ c)
sliding_ceiling n c f = record {
  code = let k = sliding_lowest _ c f in let k' = f.code in omega (arith, ints);
  not_below = by_place sliding_marks c (λ p. p ⊑ at (counted sliding_marks (neg_ℤ n)) → at (counted sliding_marks n) ⊑ sliding (neg_ℤ c))
      (λ l _. subst (λ p. at (counted sliding_marks n) ⊑ p) (sym (is_high sliding_marks (neg_ℤ c) (omega (arith, ints)) (omega (arith, ints)))) +∞_greatest)
      (λ _ s. absurd s.le)
      (λ l h s. subst (λ p. at (counted sliding_marks n) ⊑ p) (sym (is_number sliding_marks (neg_ℤ c) (omega (arith, ints)) (omega (arith, ints))))
      (at_most_in sliding_marks _ _ (let k = at_most_out sliding_marks _ _ s in let e = mirrored_neg c in omega (arith, ints))))
      f.not_above;
  least = λ d _. by_place sliding_marks d (λ p. at (counted sliding_marks n) ⊑ p → neg_ℤ c ≤ℤ d) (λ _ s. absurd s.le) (λ l _. let k = sliding_lowest _ c f in omega (arith, ints))
      (λ l h s. let k = f.greatest (neg_ℤ d) (omega (arith, ints)) (subst (λ p. p ⊑ at (counted sliding_marks (neg_ℤ n))) (sym (is_number sliding_marks (neg_ℤ d) (omega (arith, ints)) (omega (arith, ints))))
      (at_most_in sliding_marks _ _ (let k = at_most_out sliding_marks _ _ s in let e = mirrored_neg d in omega (arith, ints)))) in omega (arith, ints));
}
