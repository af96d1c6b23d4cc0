-- A hand working of a sheet stays inside the pad's working of it. Assumes nothing.
--     BoardHas        each number that a hand working has for a set line lies in it, and each truth that it has for a set flag is allowed
use Rattle.std.proofs.Common.{◌≡◌, Bool, true, false, not, ◌&&◌, ◌||◌, ◌⊎◌, List, [], ◌∷◌, ℤ, Some, Option, sym, refl, subst₂, inl, inr, ⊎_elim}
use mathlib.Core.List.{Forall₂}
use Rattle.number.specs.Number.{Number, ◌≺◌, ◌≃◌, nought, over, plus, minus, times}
use Rattle.number.specs.Place.{Place, Outcomes, Sums, Differences, Products, Quotients}
use Rattle.number.proofs.Fractions.{≃_sym, ≃-≼, ≃-≽}
use Rattle.number.proofs.Places.{at_⊑, ⊑_trans}
use Rattle.range.specs.declared.range.Range.{Range}
use Rattle.range.specs.declared.verdict.Verdict.{Verdict}
use Rattle.range.specs.Held.{Holds}
use Rattle.range.specs.Hull.{Hull}
use Rattle.range.specs.Outcomes.{Negations, Squares, Lesser, Greater, Either, Both, Picked}
use Rattle.range.specs.Truths.{Allows, Less, IsAtMost, Equal}
use Rattle.sheet.specs.declared.instruction.Instruction.{Instruction}
use Rattle.sheet.specs.declared.instruction.Instruction.TheVariants as I
use Rattle.pad.specs.declared.board.Board.{Board}
use Rattle.pad.specs.Working.{State, state, tightest, One, Two, Compare, Combine, Step, Steps, Works}
use Rattle.pad.specs.Hand as H
use Rattle.pad.specs.Hand.{Hand, Spots, hand, Is, OfOne, OfTwo, Divided, Agreed, Joined, Compared, picked, WorksByHand, AllWorkByHand}
use Rattle.pad.proofs.Zip.{All, none, some, all_map, there, missing, Agreeing, uncons, uncons₂, zip_set, agreeing_at}
use Rattle.pad.proofs.Enclosing.{hull_encloses}

-- ---- what comes of operands that may be missing
of_one : {A B : Type 0} {P : A → Type 0} {S : B → Type 0} (F : A → Option B → Type 0) → ((x : A) (o : Option B) → P x → F x o → All S o)
    → {x : Option A} (o : Option B) → All P x → OfOne F x o → All S o
of_one F f o none e = missing e
of_one F f o (some {a} h) k = f a o h k

of_two : {A B : Type 0} {P Q : A → Type 0} {S : B → Type 0} (F : A → A → Option B → Type 0) → ((x y : A) (o : Option B) → P x → Q y → F x y o → All S o)
    → {x y : Option A} (o : Option B) → All P x → All Q y → OfTwo F x y o → All S o
of_two F f o none k e = missing e
of_two F f o (some {a} h) k g = of_one (F a) (λ y u. f a y u h) o k g

module _ {X Y : Number → Type 0} (x y : Number) (o : Option Number) (h : X x) (k : Y y) where
  -- of two that are there
  outcome : (f : Number → Number → Number) → Is (f x y) o → All (Outcomes f X Y) o
  outcome f w = there w.1 (x, y, h, k, w.2)

  divided : (D : Number → Type 0) → Divided D x y o → All (Outcomes over X (λ v. Y v × D v)) o
  divided D = ⊎_elim (λ w. there w.1.1 (x, y, h, (k, w.0), w.1.2)) (λ w. missing w.1)

  -- the lesser, or the greater
  chosen : (C D : Number → Number → Type 0) → (C x y × Is x o) ⊎ (D x y × Is y o) → All (λ z. (u : Number) × (v : Number) × X u × Y v × ((C u v × (u ≃ z)) ⊎ (D u v × (v ≃ z)))) o
  chosen C D = ⊎_elim (λ w. there w.1.1 (x, y, h, k, inl (w.0, w.1.2))) (λ w. there w.1.1 (x, y, h, k, inr (w.0, w.1.2)))

pick : {V : Bool → Type 0} {X Y : Number → Type 0} {t : Option Bool} {x y : Option Number} → All V t → All X x → All Y y → All (Picked V X Y) (picked t x y)
pick none h k = none
pick (some {a = true} g) h k = all_map (λ z l. inl (g, l)) h
pick (some {a = false} g) h k = all_map (λ z l. inr (g, l)) k

-- ---- the pad's working and the hand's
module _ (p : ℤ → Place) where
  pub record BoardHas (b : Board) (h : Spots) : Type 0 where
    pub lines : Forall₂ (Agreeing (Holds p)) b.lines.cells h.lines
    pub flags : Forall₂ (Agreeing Allows) b.flags.cells h.flags

  record Has (s : State) (d : Hand) : Type 0 where
    pub ranges : Forall₂ (λ r. All (Holds p r)) s.ranges d.ranges
    pub verdicts : Forall₂ (λ v. All (Allows v)) s.verdicts d.verdicts
    pub board : BoardHas s.board d.spots

  -- both by their parts
  to : {s : State} {d : Hand} {rs : List Range} {xs : List (Option Number)} {vs : List Verdict} {ts : List (Option Bool)} {b : Board} {h : Spots} → s ≡ state rs vs b → d ≡ hand xs ts h
      → Forall₂ (λ r. All (Holds p r)) rs xs → Forall₂ (λ v. All (Allows v)) vs ts → BoardHas b h → Has s d
  to e f rs vs b = subst₂ Has (sym e) (sym f) (record { ranges = rs; verdicts = vs; board = b })

  -- a range holds a number however it is written
  same_number : (r : Range) {x z : Number} → x ≃ z → Holds p r x → Holds p r z
  same_number r e h = (⊑_trans h.0 (at_⊑ (≃-≼ e)), ⊑_trans (at_⊑ (≃-≽ e)) h.1)

  is_held : (r : Range) (x : Number) (o : Option Number) → Holds p r x → Is x o → All (Holds p r) o
  is_held r x o h w = there w.1 (same_number r w.2 h)

  joined : (r s : Range) (x y o : Option Number) → All (Holds p r) x → All (Holds p s) y → Joined x y o → All (Either (Holds p r) (Holds p s)) o
  joined r s x y o none none e = missing e
  joined r s x y o none (some {a} k) w = all_map (λ z l. inr l) (is_held s a o k w)
  joined r s x y o (some {a} h) none w = all_map (λ z l. inl l) (is_held r a o h w)
  joined r s x y o (some {a} h) (some {a = c} k) w = ⊎_elim (λ v. all_map (λ z l. inl l) (is_held r a o h v)) (λ v. all_map (λ z l. inr l) (is_held s c o k v)) w

  agreed : (r s : Range) (x y : Number) (o : Option Number) → Holds p r x → Holds p s y → Agreed x y o → All (Both (Holds p r) (Holds p s)) o
  agreed r s x y o h k = ⊎_elim (λ w. there w.1.1 (same_number r w.1.2 h, same_number s w.1.2 (same_number s (≃_sym w.0) k))) (λ w. missing w.1)

  -- a hull has what its set has
  around : {S : Number → Type 0} {r : Range} {o : Option Number} → Hull p S r → All S o → All (Holds p r) o
  around h = all_map (hull_encloses h).all

  one : (O : (Number → Type 0) → Number → Type 0) (F : Number → Option Number → Type 0) → ((r : Range) (y : Number) (o : Option Number) → Holds p r y → F y o → All (O (Holds p r)) o)
      → {s t : State} {d e : Hand} → One (tightest p) O s t → H.One (OfOne F) d e → Has s d → Has t e
  one O F f w w' h =
      let a = uncons w.3 w'.3 h.ranges in
      to w.5 w'.5 (Forall₂.cons (around w.4 (of_one F (f w.0) w'.1 a.0 w'.4)) a.1) h.verdicts h.board

  two : (O : (Number → Type 0) → (Number → Type 0) → Number → Type 0) (F : Option Number → Option Number → Option Number → Type 0)
      → ((r s : Range) (x y o : Option Number) → All (Holds p r) x → All (Holds p s) y → F x y o → All (O (Holds p r) (Holds p s)) o)
      → {s t : State} {d e : Hand} → Two (tightest p) O s t → H.Two F d e → Has s d → Has t e
  two O F f w w' h =
      let a = uncons₂ w.4 w'.4 h.ranges in
      to w.6 w'.6 (Forall₂.cons (around w.5 (f w.0 w.1 w'.0 w'.1 w'.2 a.1 a.0 w'.5)) a.2) h.verdicts h.board

  numbers : (O : (Number → Type 0) → (Number → Type 0) → Number → Type 0) (F : Number → Number → Option Number → Type 0)
      → ((r s : Range) (x y : Number) (o : Option Number) → Holds p r x → Holds p s y → F x y o → All (O (Holds p r) (Holds p s)) o)
      → {s t : State} {d e : Hand} → Two (tightest p) O s t → H.Two (OfTwo F) d e → Has s d → Has t e
  numbers O F f = two O (OfTwo F) (λ r s x y o. of_two F (f r s) o)

  compare : (C : Number → Number → Bool → Type 0) {s t : State} {d e : Hand} → Compare (tightest p) C s t → H.Compare C d e → Has s d → Has t e
  compare C w w' h =
      let a = uncons₂ w.4 w'.4 h.ranges in
      to w.6 w'.6 a.2 (Forall₂.cons (all_map w.5.sound (of_two (Compared C) (λ x y o l k v. there v.1 (x, y, l, k, v.2)) w'.2 a.1 a.0 w'.5)) h.verdicts) h.board

  combine : (f : Bool → Bool → Bool) {s t : State} {d e : Hand} → Combine (tightest p) f s t → H.Combine f d e → Has s d → Has t e
  combine f w w' h =
      let a = uncons₂ w.4 w'.4 h.verdicts in
      to w.6 w'.6 h.ranges (Forall₂.cons (all_map w.5.sound (of_two (λ u v r. r ≡ Some (f u v)) (λ u v o l k e. there e (u, v, l, k, refl)) w'.2 a.1 a.0 w'.5)) a.2) h.board

  step : (i : Instruction) {s t : State} {d e : Hand} → Step (tightest p) i s t → WorksByHand i d e → Has s d → Has t e
  step (I.Line a) w w' h = to w.4 w' (Forall₂.cons (around w.3 (agreeing_at h.board.lines a w.2)) h.ranges) h.verdicts h.board
  step (I.Constant f) w w' h = to w.2 w'.2 (Forall₂.cons (around w.1 (some w'.1)) h.ranges) h.verdicts h.board
  step (I.Keep a) w w' h =
      let c = uncons w.3 w'.2 h.ranges in
      to w.5 w'.3 c.1 h.verdicts (record { lines = zip_set h.board.lines a (some (around w.4 c.0)); flags = h.board.flags })
  step (I.Flag a) w w' h =
      let c = uncons w.3 w'.2 h.verdicts in
      to w.5 w'.3 h.ranges c.1 (record { lines = h.board.lines; flags = zip_set h.board.flags a (some (all_map w.4.sound c.0)) })
  step I.Again w w' h =
      let a = uncons w.4 w'.2 h.ranges in
      to w.7 w'.3 (Forall₂.cons (around w.6 a.0) (Forall₂.cons (around w.5 a.0) a.1)) h.verdicts h.board
  step I.Plus w w' h = numbers Sums _ (λ r s x y o l k. outcome x y o l k plus) w w' h
  step I.Minus w w' h = numbers Differences _ (λ r s x y o l k. outcome x y o l k minus) w w' h
  step I.Times w w' h = numbers Products _ (λ r s x y o l k. outcome x y o l k times) w w' h
  step I.Over w w' h = numbers Quotients _ (λ r s x y o l k. divided x y o l k _) w w' h
  step I.Parted w w' h =
      let a = uncons₂ w.5 w'.5 h.ranges in
      let left = of_two (Divided (λ y. y ≺ nought)) (λ x y o l k. divided x y o l k _) w'.2 a.1 a.0 w'.6 in
      let right = of_two (Divided (λ y. nought ≺ y)) (λ x y o l k. divided x y o l k _) w'.3 a.1 a.0 w'.7 in
      to w.8 w'.8 (Forall₂.cons (around w.7 right) (Forall₂.cons (around w.6 left) a.2)) h.verdicts h.board
  step I.Negate w w' h = one Negations _ (λ r y o k v. there v.1 (y, k, v.2)) w w' h
  step I.Square w w' h = one Squares _ (λ r y o k. outcome y y o k k times) w w' h
  step I.Lesser w w' h = numbers Lesser _ (λ r s x y o l k. chosen x y o l k _ _) w w' h
  step I.Greater w w' h = numbers Greater _ (λ r s x y o l k. chosen x y o l k _ _) w w' h
  step I.Join w w' h = two Either Joined joined w w' h
  step I.Meet w w' h = numbers Both Agreed agreed w w' h
  step I.Less w w' h = compare Less w w' h
  step I.AtMost w w' h = compare IsAtMost w w' h
  step I.Equal w w' h = compare Equal w w' h
  step I.And w w' h = combine ◌&&◌ w w' h
  step I.Or w w' h = combine ◌||◌ w w' h
  step I.Not w w' h =
      let a = uncons w.3 w'.3 h.verdicts in
      to w.5 w'.5 h.ranges (Forall₂.cons (all_map w.4.sound (of_one (λ v r. r ≡ Some (not v)) (λ v o k e. there e (v, k, refl)) w'.1 a.0 w'.4)) a.1) h.board
  step I.Pick w w' h =
      let v = uncons w.6 w'.5 h.verdicts in
      let a = uncons₂ w.7 w'.6 h.ranges in
      to w.9 w'.7 (Forall₂.cons (around w.8 (pick v.0 a.1 a.0)) a.2) v.1 h.board

  steps : (is : List Instruction) {s t : State} {d e : Hand} → Steps (tightest p) is s t → AllWorkByHand is d e → Has s d → Has t e
  steps [] e f h = subst₂ Has (sym e) (sym f) h
  steps (i ∷ is) w w' h = steps is w.2 w'.2 (step i w.1 w'.1 h)

  pub works : (is : List Instruction) {b c : Board} {h k : Spots} → Works (tightest p) is b c → AllWorkByHand is (hand [] [] h) (hand [] [] k) → BoardHas b h → BoardHas c k
  works is w w' b = (steps is w w' (record { ranges = Forall₂.nil; verdicts = Forall₂.nil; board = b })).board
