-- Two readings of one sheet: where the second never puts less, it has at least what the first has, all the way. Assumes nothing.
--     Inside p q     what a range holds on p, another one holds on q          Implies      what a verdict allows, another one allows
--     Boards p q     so of the lines and flags of two boards                  Related      so of the piles too
--     Looser ρ σ     so of what ρ puts round a set and σ puts round a larger one
use Rattle.std.proofs.Common.{◌≡◌, Bool, true, false, ◌&&◌, ◌||◌, List, [], ◌∷◌, ℤ, sym, subst₂}
use mathlib.Core.List.{Forall₂}
use mathlib.Core.Logic.{⊎_map}
use Rattle.number.specs.Number.{Number, over}
use Rattle.number.specs.Place.{Place, Outcomes, Sums, Differences, Products, Quotients}
use Rattle.range.specs.declared.range.Range.{Range}
use Rattle.range.specs.declared.verdict.Verdict.{Verdict}
use Rattle.range.specs.Held.{Holds}
use Rattle.range.specs.Outcomes.{Negations, Squares, Lesser, Greater, Either, Both}
use Rattle.range.specs.Truths.{Allows, Less, IsAtMost, Equal}
use Rattle.sheet.specs.declared.instruction.Instruction.{Instruction}
use Rattle.sheet.specs.declared.instruction.Instruction.TheVariants as I
use Rattle.pad.specs.declared.board.Board.{Board}
use Rattle.pad.specs.Working.{State, state, Reading, One, Two, Compare, Combine, Step, Steps, Works}
use Rattle.pad.proofs.Zip.{Rel, both, uncons, uncons₂, zip_set, rel_at}

abbrev pub Implies : Verdict → Verdict → Type 0
Implies v w = (t : Bool) → Allows v t → Allows w t

module _ (p q : ℤ → Place) where
  abbrev pub Inside : Range → Range → Type 0
  Inside r s = (x : Number) → Holds p r x → Holds q s x

  pub record Boards (b c : Board) : Type 0 where
    pub lines : Forall₂ (Rel Inside) b.lines.cells c.lines.cells
    pub flags : Forall₂ (Rel Implies) b.flags.cells c.flags.cells

  pub record Related (s t : State) : Type 0 where
    pub ranges : Forall₂ Inside s.ranges t.ranges
    pub verdicts : Forall₂ Implies s.verdicts t.verdicts
    pub board : Boards s.board t.board

pub record Looser (ρ σ : Reading) : Type 1 where
  pub put : {S T : Number → Type 0} {r s : Range} → ((x : Number) → S x → T x) → ρ.Put S r → σ.Put T s → Inside ρ.places σ.places r s
  pub put_verdict : {S T : Bool → Type 0} {v w : Verdict} → ((t : Bool) → S t → T t) → ρ.PutVerdict S v → σ.PutVerdict T w → Implies v w

-- ---- operations that have more outcomes where their operands have more members
abbrev Monotone : {A B : Type 0} → ((A → Type 0) → (A → Type 0) → B → Type 0) → Type 1
Monotone {A} {B} O = (X X' Y Y' : A → Type 0) → ((x : A) → X x → X' x) → ((y : A) → Y y → Y' y) → (z : B) → O X Y z → O X' Y' z

-- outcomes of members, one of each operand
memberwise : {A B : Type 0} (F : A → A → B → Type 0) → Monotone (λ X Y z. (x : A) × (y : A) × X x × Y y × F x y z)
memberwise F X X' Y Y' f g z o = (o.0, o.1, f o.0 o.2, g o.1 o.3, o.4)

-- quotients by the divisors of one kind
dividing : (D : Number → Type 0) → Monotone (λ X Y. Outcomes over X (λ y. Y y × D y))
dividing D X X' Y Y' f g z o = (o.0, o.1, f o.0 o.2, (g o.1 o.3.0, o.3.1), o.4)

module _ (ρ σ : Reading) (L : Looser ρ σ) where
  abbrev Simulates : State → State → Type 0
  Simulates = Related ρ.places σ.places

  -- two states by their parts
  to : {s s' : State} {rs rs' : List Range} {vs vs' : List Verdict} {b b' : Board} → s ≡ state rs vs b → s' ≡ state rs' vs' b'
      → Forall₂ (Inside ρ.places σ.places) rs rs' → Forall₂ Implies vs vs' → Boards ρ.places σ.places b b' → Simulates s s'
  to e f rs vs b = subst₂ Simulates (sym e) (sym f) (record { ranges = rs; verdicts = vs; board = b })

  one : (O : (Number → Type 0) → Number → Type 0) → ((X X' : Number → Type 0) → ((x : Number) → X x → X' x) → (z : Number) → O X z → O X' z)
      → {s t s' t' : State} → One ρ O s t → One σ O s' t' → Simulates s s' → Simulates t t'
  one O m w w' h =
      let a = uncons w.3 w'.3 h.ranges in
      to w.5 w'.5 (Forall₂.cons (L.put (m _ _ a.0) w.4 w'.4) a.1) h.verdicts h.board

  two : (O : (Number → Type 0) → (Number → Type 0) → Number → Type 0) → Monotone O
      → {s t s' t' : State} → Two ρ O s t → Two σ O s' t' → Simulates s s' → Simulates t t'
  two O m w w' h =
      let a = uncons₂ w.4 w'.4 h.ranges in
      to w.6 w'.6 (Forall₂.cons (L.put (m _ _ _ _ a.1 a.0) w.5 w'.5) a.2) h.verdicts h.board

  compare : (C : Number → Number → Bool → Type 0) {s t s' t' : State} → Compare ρ C s t → Compare σ C s' t' → Simulates s s' → Simulates t t'
  compare C w w' h =
      let a = uncons₂ w.4 w'.4 h.ranges in
      to w.6 w'.6 a.2 (Forall₂.cons (L.put_verdict (memberwise C _ _ _ _ a.1 a.0) w.5 w'.5) h.verdicts) h.board

  combine : (f : Bool → Bool → Bool) {s t s' t' : State} → Combine ρ f s t → Combine σ f s' t' → Simulates s s' → Simulates t t'
  combine f w w' h =
      let a = uncons₂ w.4 w'.4 h.verdicts in
      to w.6 w'.6 h.ranges (Forall₂.cons (L.put_verdict (memberwise _ _ _ _ _ a.1 a.0) w.5 w'.5) a.2) h.board

  step : (i : Instruction) {s t s' t' : State} → Step ρ i s t → Step σ i s' t' → Simulates s s' → Simulates t t'
  step (I.Line a) w w' h = to w.4 w'.4 (Forall₂.cons (L.put (rel_at h.board.lines a w.2 w'.2) w.3 w'.3) h.ranges) h.verdicts h.board
  step (I.Constant f) w w' h = to w.2 w'.2 (Forall₂.cons (L.put (λ z k. k) w.1 w'.1) h.ranges) h.verdicts h.board
  step (I.Keep a) w w' h =
      let c = uncons w.3 w'.3 h.ranges in
      to w.5 w'.5 c.1 h.verdicts (record { lines = zip_set h.board.lines a (both (L.put c.0 w.4 w'.4)); flags = h.board.flags })
  step (I.Flag a) w w' h =
      let c = uncons w.3 w'.3 h.verdicts in
      to w.5 w'.5 h.ranges c.1 (record { lines = h.board.lines; flags = zip_set h.board.flags a (both (L.put_verdict c.0 w.4 w'.4)) })
  step I.Again w w' h =
      let a = uncons w.4 w'.4 h.ranges in
      to w.7 w'.7 (Forall₂.cons (L.put a.0 w.6 w'.6) (Forall₂.cons (L.put a.0 w.5 w'.5) a.1)) h.verdicts h.board
  step I.Plus w w' h = two Sums (memberwise _) w w' h
  step I.Minus w w' h = two Differences (memberwise _) w w' h
  step I.Times w w' h = two Products (memberwise _) w w' h
  step I.Over w w' h = two Quotients (dividing _) w w' h
  step I.Parted w w' h =
      let a = uncons₂ w.5 w'.5 h.ranges in
      to w.8 w'.8 (Forall₂.cons (L.put (dividing _ _ _ _ _ a.1 a.0) w.7 w'.7) (Forall₂.cons (L.put (dividing _ _ _ _ _ a.1 a.0) w.6 w'.6) a.2)) h.verdicts h.board
  step I.Negate w w' h = one Negations (λ X X' f z o. (o.0, f o.0 o.1, o.2)) w w' h
  step I.Square w w' h = one Squares (λ X X' f. memberwise _ X X' X X' f f) w w' h
  step I.Lesser w w' h = two Lesser (memberwise _) w w' h
  step I.Greater w w' h = two Greater (memberwise _) w w' h
  step I.Join w w' h = two Either (λ X X' Y Y' f g z. ⊎_map (f z) (g z)) w w' h
  step I.Meet w w' h = two Both (λ X X' Y Y' f g z o. (f z o.0, g z o.1)) w w' h
  step I.Less w w' h = compare Less w w' h
  step I.AtMost w w' h = compare IsAtMost w w' h
  step I.Equal w w' h = compare Equal w w' h
  step I.And w w' h = combine ◌&&◌ w w' h
  step I.Or w w' h = combine ◌||◌ w w' h
  step I.Not w w' h =
      let a = uncons w.3 w'.3 h.verdicts in
      to w.5 w'.5 h.ranges (Forall₂.cons (L.put_verdict (λ t o. (o.0, a.0 o.0 o.1, o.2)) w.4 w'.4) a.1) h.board
  step I.Pick w w' h =
      let v = uncons w.6 w'.6 h.verdicts in
      let a = uncons₂ w.7 w'.7 h.ranges in
      to w.9 w'.9 (Forall₂.cons (L.put (λ z. ⊎_map (λ k. (v.0 true k.0, a.1 z k.1)) (λ k. (v.0 false k.0, a.0 z k.1))) w.8 w'.8) a.2) v.1 h.board

  steps : (is : List Instruction) {s t s' t' : State} → Steps ρ is s t → Steps σ is s' t' → Simulates s s' → Simulates t t'
  steps [] e f h = subst₂ Simulates (sym e) (sym f) h
  steps (i ∷ is) w w' h = steps is w.2 w'.2 (step i w.1 w'.1 h)

  pub works : (is : List Instruction) {b b' c c' : Board} → Works ρ is b b' → Works σ is c c' → Boards ρ.places σ.places b c → Boards ρ.places σ.places b' c'
  works is w w' h = (steps is w w' (record { ranges = Forall₂.nil; verdicts = Forall₂.nil; board = h })).board
