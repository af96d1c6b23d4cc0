-- A hand working: a number or nothing for each range, a truth or nothing for each verdict, worked exactly on these. Assumes nothing.
--     WorksByHand        one instruction       AllWorkByHand      one after the other
--     HandDoes      what a hand working does at a call that the pad accepts
use Rattle.std.specs.Prelude.{◌≡◌, Bool, true, false, not, ◌&&◌, ◌||◌, ◌⊎◌, List, [], ◌∷◌, replicate, Some, None, Option, slice_index_or, slice_set}
use Rattle.number.specs.Number.{Number, ◌≼◌, ◌≺◌, ◌≃◌, plus, minus, times, over, neg, nought}
use Rattle.range.specs.declared.entry.Entry.{Entry}
use Rattle.range.specs.declared.entry.Entry.TheVariants.{Blank, Bounds}
use Rattle.range.specs.Bounds.{Within}
use Rattle.range.specs.Outcomes.{Constant}
use Rattle.range.specs.Truths.{Less, IsAtMost, Equal}
use Rattle.sheet.specs.declared.instruction.Instruction.{Instruction}
use Rattle.sheet.specs.declared.instruction.Instruction.TheVariants as I
use Rattle.sheet.specs.Held.{instructions_of}
use Rattle.pad.specs.Calls.{Call, enter, work, show_line, show_flag, wipe}

-- what it has for each line and flag
pub record Spots : Type 0 where
  pub lines : List (Option Number)
  pub flags : List (Option Bool)

-- with what it has for the ranges and verdicts on the piles, the newest first
pub record Hand : Type 0 where
  pub ranges : List (Option Number)
  pub verdicts : List (Option Bool)
  pub spots : Spots

abbrev pub hand : List (Option Number) → List (Option Bool) → Spots → Hand
hand rs vs h = record { ranges = rs; verdicts = vs; spots = h }

abbrev pub nothing_yet : Spots
nothing_yet = record { lines = replicate 32 None; flags = replicate 32 None }

-- r is the number x, however it is written
abbrev pub Is : Number → Option Number → Type 0
Is x r = (z : Number) × (r ≡ Some z) × (x ≃ z)

-- a missing operand gives nothing
abbrev pub OfOne : {A B : Type 0} → (A → Option B → Type 0) → Option A → Option B → Type 0
OfOne F None r = r ≡ None
OfOne F (Some y) r = F y r

abbrev pub OfTwo : {A B : Type 0} → (A → A → Option B → Type 0) → Option A → Option A → Option B → Type 0
OfTwo F None y r = r ≡ None
OfTwo F (Some x) y r = OfOne (F x) y r

-- x / y where the divisor is as asked for, else nothing
abbrev pub Divided : (Number → Type 0) → Number → Number → Option Number → Type 0
Divided P x y r = (P y × Is (over x y) r) ⊎ (¬ (P y) × (r ≡ None))

abbrev pub Least : Number → Number → Option Number → Type 0
Least x y r = ((x ≼ y) × Is x r) ⊎ ((y ≼ x) × Is y r)

abbrev pub Most : Number → Number → Option Number → Type 0
Most x y r = ((y ≼ x) × Is x r) ⊎ ((x ≼ y) × Is y r)

-- the number, if both agree
abbrev pub Agreed : Number → Number → Option Number → Type 0
Agreed x y r = ((x ≃ y) × Is x r) ⊎ (¬ (x ≃ y) × (r ≡ None))

-- either operand that is there, as picked
abbrev pub Joined : Option Number → Option Number → Option Number → Type 0
Joined None None r = r ≡ None
Joined None (Some y) r = Is y r
Joined (Some x) None r = Is x r
Joined (Some x) (Some y) r = Is x r ⊎ Is y r

-- the truth of a comparison
abbrev pub Compared : (Number → Number → Bool → Type 0) → Number → Number → Option Bool → Type 0
Compared C x y t = (b : Bool) × (t ≡ Some b) × C x y b

-- the operand that the truth names
abbrev pub picked : Option Bool → Option Number → Option Number → Option Number
picked None x y = None
picked (Some true) x y = x
picked (Some false) x y = y

abbrev pub One : (Option Number → Option Number → Type 0) → Hand → Hand → Type 0
One F s t = (y r : Option Number) × (rest : List (Option Number)) × (s.ranges ≡ y ∷ rest) × F y r × (t ≡ hand (r ∷ rest) s.verdicts s.spots)

abbrev pub Two : (Option Number → Option Number → Option Number → Type 0) → Hand → Hand → Type 0
Two F s t = (x y r : Option Number) × (rest : List (Option Number)) × (s.ranges ≡ y ∷ (x ∷ rest)) × F x y r × (t ≡ hand (r ∷ rest) s.verdicts s.spots)

abbrev pub Compare : (Number → Number → Bool → Type 0) → Hand → Hand → Type 0
Compare C s t = (x y : Option Number) × (v : Option Bool) × (rest : List (Option Number)) × (s.ranges ≡ y ∷ (x ∷ rest)) × OfTwo (Compared C) x y v × (t ≡ hand rest (v ∷ s.verdicts) s.spots)

abbrev pub Combine : (Bool → Bool → Bool) → Hand → Hand → Type 0
Combine f s t = (u v w : Option Bool) × (rest : List (Option Bool)) × (s.verdicts ≡ v ∷ (u ∷ rest)) × OfTwo (λ a b r. r ≡ Some (f a b)) u v w × (t ≡ hand s.ranges (w ∷ rest) s.spots)

abbrev pub WorksByHand : Instruction → Hand → Hand → Type 0
WorksByHand (I.Line a) s t = t ≡ hand (slice_index_or s.spots.lines a None ∷ s.ranges) s.verdicts s.spots
WorksByHand (I.Constant f) s t = (z : Number) × Constant f z × (t ≡ hand (Some z ∷ s.ranges) s.verdicts s.spots)
WorksByHand (I.Keep a) s t = (y : Option Number) × (rest : List (Option Number)) × (s.ranges ≡ y ∷ rest) × (t ≡ hand rest s.verdicts (record { lines = slice_set s.spots.lines a y; flags = s.spots.flags }))
WorksByHand (I.Flag a) s t = (v : Option Bool) × (rest : List (Option Bool)) × (s.verdicts ≡ v ∷ rest) × (t ≡ hand s.ranges rest (record { lines = s.spots.lines; flags = slice_set s.spots.flags a v }))
WorksByHand I.Again s t = (y : Option Number) × (rest : List (Option Number)) × (s.ranges ≡ y ∷ rest) × (t ≡ hand (y ∷ (y ∷ rest)) s.verdicts s.spots)
WorksByHand I.Plus s t = Two (OfTwo (λ x y. Is (plus x y))) s t
WorksByHand I.Minus s t = Two (OfTwo (λ x y. Is (minus x y))) s t
WorksByHand I.Times s t = Two (OfTwo (λ x y. Is (times x y))) s t
WorksByHand I.Over s t = Two (OfTwo (Divided (λ y. ¬ (y ≃ nought)))) s t
WorksByHand I.Parted s t = (x y q r : Option Number) × (rest : List (Option Number)) × (s.ranges ≡ y ∷ (x ∷ rest)) × OfTwo (Divided (λ y. y ≺ nought)) x y q × OfTwo (Divided (λ y. nought ≺ y)) x y r × (t ≡ hand (r ∷ (q ∷ rest)) s.verdicts s.spots)
WorksByHand I.Negate s t = One (OfOne (λ y. Is (neg y))) s t
WorksByHand I.Square s t = One (OfOne (λ y. Is (times y y))) s t
WorksByHand I.Lesser s t = Two (OfTwo Least) s t
WorksByHand I.Greater s t = Two (OfTwo Most) s t
WorksByHand I.Join s t = Two Joined s t
WorksByHand I.Meet s t = Two (OfTwo Agreed) s t
WorksByHand I.Less s t = Compare Less s t
WorksByHand I.AtMost s t = Compare IsAtMost s t
WorksByHand I.Equal s t = Compare Equal s t
WorksByHand I.And s t = Combine ◌&&◌ s t
WorksByHand I.Or s t = Combine ◌||◌ s t
WorksByHand I.Not s t = (v w : Option Bool) × (rest : List (Option Bool)) × (s.verdicts ≡ v ∷ rest) × OfOne (λ a r. r ≡ Some (not a)) v w × (t ≡ hand s.ranges (w ∷ rest) s.spots)
WorksByHand I.Pick s t = (v : Option Bool) × (x y : Option Number) × (more : List (Option Bool)) × (rest : List (Option Number)) × (s.verdicts ≡ v ∷ more) × (s.ranges ≡ y ∷ (x ∷ rest)) × (t ≡ hand (picked v x y ∷ rest) more s.spots)

abbrev pub AllWorkByHand : List Instruction → Hand → Hand → Type 0
AllWorkByHand [] s t = t ≡ s
AllWorkByHand (i ∷ is) s t = (m : Hand) × WorksByHand i s m × AllWorkByHand is m t

-- one number within the bounds, and nothing from a blank entry
abbrev pub Picks : Entry → Option Number → Type 0
Picks Blank o = o ≡ None
Picks (Bounds l u) o = (x : Number) × (o ≡ Some x) × Within l u x

abbrev pub HandDoes : Call → Spots → Spots → Type 0
HandDoes (enter a e) h k = (x : Option Number) × Picks e x × (k ≡ record { lines = slice_set h.lines a x; flags = h.flags })
HandDoes (work s m n) h k = AllWorkByHand (instructions_of s) (hand [] [] h) (hand [] [] k)
HandDoes (show_line a) h k = k ≡ h
HandDoes (show_flag a) h k = k ≡ h
HandDoes wipe h k = k ≡ nothing_yet
