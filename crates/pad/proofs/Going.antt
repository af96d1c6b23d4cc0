-- Working a list of instructions in turn: what holds before each, that nothing is wanting for it, and what has been worked at the end. Assumes nothing.
use Rattle.std.proofs.Common.{◌≡◌, ℕ, ◌+◌, ◌<◌, ◌≤◌, Bool, true, false, not, ◌&&◌, leb, List, [], ◌∷◌, ◌++◌, length, get_or, ℤ, is_some, Some, None, Option, sym, refl, ap, ◌∙◌, subst, inl, inr, append_assoc, arith}
use mathlib.Core.List.{append-nil}
use Rattle.std.proofs.lemmas.Bool.{or_cases, leb-true, false≢true}
use Rattle.std.proofs.lemmas.List.{length_push, nil_from_length}
use Rattle.std.proofs.lemmas.Option.{slice_get_within}
use Rattle.std.proofs.Math.ListN.{get_or-map}
use Rattle.std.specs.List.{slice_get}
use Rattle.fault.specs.declared.Refusal.{Refusal}
use Rattle.number.specs.Place.{Place}
use Rattle.sheet.specs.Rules.{unless, first_below}
use Rattle.sheet.proofs.Firsts.{first_none, below_kept}
use Rattle.sheet.specs.declared.instruction.Instruction.{Instruction}
use Rattle.sheet.specs.declared.sheet.ClearedSheet.{ClearedSheet}
use Rattle.sheet.specs.Depths.{after, range_depth_at, verdict_depth_at, greatest_range_depth, greatest_verdict_depth}
use Rattle.sheet.specs.Held.{instructions_of}
use Rattle.sheet.specs.Instructions.{operation}
use Rattle.sheet.specs.Lines.{any_below, keeps, kept_before, reads_first}
use Rattle.sheet.specs.Operations.{shape}
use Rattle.sheet.proofs.FirstReads.{read_kept_or_first, kept_next}
use Rattle.sheet.proofs.Laws.{workable, depths_start, depths_next, depths_within}
use Rattle.pad.specs.declared.board.Board.{Board}
use Rattle.pad.specs.declared.faults.PadFault.TheVariants.{Unset, RangeSlots, VerdictSlots}
use Rattle.pad.specs.declared.working.Machine.{Machine}
use Rattle.pad.specs.Boards.{line_at, lines_set}
use Rattle.pad.specs.Faults.{pad_refusal}
use Rattle.pad.specs.Machines.{state_of, KeepsParts}
use Rattle.pad.specs.Ready.{Ready}
use Rattle.pad.specs.Refusals.{unset_refusal, slots_refusal, work_refusal}
use Rattle.pad.specs.Working.{State, state, tightest, Step, Steps, Works}
use Rattle.pad.proofs.Effects.{effect}

-- the rule is kept where nothing is refused
unless_none : (k : Bool) (r : Refusal) (o : Option Refusal) → unless k r o ≡ None → (k ≡ true) × (o ≡ None)
unless_none true r o e = (refl, e)
unless_none false r o e = let z : ◌≡◌ {A = ℕ} 0 1 = cc in absurd (omega arith)

-- the first of what comes after a list stands at its length
nth_after : {X : Type 0} (xs : List X) (x : X) (ys : List X) → slice_get (xs ++ (x ∷ ys)) (length xs) ≡ Some x
nth_after [] x ys = refl
nth_after (z ∷ xs) x ys = nth_after xs x ys

-- what work finds in order: each line that is read first is set, and there are slots enough
record Provided (xs : List Instruction) (b : Board) (m n : ℕ) : Type 0 where
  lines : (a : ℕ) → a ≤ 31 → reads_first xs a ≡ true → is_some (line_at b a) ≡ true
  ranges : greatest_range_depth xs ≤ m
  verdicts : greatest_verdict_depth xs ≤ n

provided : (xs : List Instruction) (b : Board) (m n : ℕ) → work_refusal xs (lines_set b) m n ≡ None → Provided xs b m n
provided xs b m n e =
    let f = first_none (first_below (unset_refusal xs (lines_set b)) 32) (slots_refusal xs m n) e in
    let r = unless_none (leb (greatest_range_depth xs) m) (pad_refusal (RangeSlots (greatest_range_depth xs))) _ f.1 in
    let v = unless_none (leb (greatest_verdict_depth xs) n) (pad_refusal (VerdictSlots (greatest_verdict_depth xs))) _ r.1 in
    record {
      lines = λ a h k.
          let u = (unless_none (not (reads_first xs a && not (get_or (lines_set b) a false))) (pad_refusal (Unset a)) None (below_kept (unset_refusal xs (lines_set b)) 32 a f.0 (omega arith))).0 in
          sym (get_or-map is_some b.lines.cells a None) ∙ is_set (reads_first xs a) (get_or (lines_set b) a false) k u;
      ranges = leb-true (greatest_range_depth xs) m r.0;
      verdicts = leb-true (greatest_verdict_depth xs) n v.0;
    }
  where
    is_set : (r s : Bool) → r ≡ true → not (r && not s) ≡ true → s ≡ true
    is_set true true e f = refl
    is_set true false e f = absurd (false≢true f)
    is_set false s e f = absurd (false≢true e)

-- a machine and a board at work on a sheet, from the machine m₀ and the board b₀ on
module _ {S : Type 0} (place : S → ℤ → Place) (sheet : ClearedSheet) (m₀ : Machine S) (b₀ : Board) where
  abbrev xs : List Instruction
  xs = instructions_of sheet

  -- some instructions are worked and some are left
  pub record Going (worked left : List Instruction) (m : Machine S) (b : Board) : Type 0 where
    pub whole : worked ++ left ≡ xs
    pub parts : KeepsParts m₀ m
    pub ranges : length m.ranges.held ≡ range_depth_at xs (length worked)
    pub verdicts : length m.verdicts.held ≡ verdict_depth_at xs (length worked)
    pub cells : length b.lines.cells ≡ 32
    pub still : (a : ℕ) → is_some (line_at b₀ a) ≡ true → is_some (line_at b a) ≡ true
    pub kept : (a : ℕ) → a ≤ 31 → kept_before xs a (length worked) ≡ true → is_some (line_at b a) ≡ true
    -- what works the rest from here works the whole from the start
    pub rest : (t : State) → Steps (tightest (place m₀.scale.now)) left (state_of m b) t → Steps (tightest (place m₀.scale.now)) xs (state [] [] b₀) t

  none_yet : (a : ℕ) → kept_before xs a 0 ≡ true → ⊥
  unfolding any_below
  none_yet a k = false≢true k

  pub begin : (left : List Instruction) → left ≡ xs → m₀.ranges.held ≡ [] → m₀.verdicts.held ≡ [] → length b₀.lines.cells ≡ 32 → Going [] left m₀ b₀
  begin left e r v l = record {
    whole = e;
    parts = record { scale = refl; ranges = refl; verdicts = refl };
    ranges = ap length r ∙ sym (depths_start xs).0;
    verdicts = ap length v ∙ sym (depths_start xs).1;
    cells = l;
    still = λ a h. h;
    kept = λ a h k. absurd (none_yet a k);
    rest = λ t w. let q : state_of m₀ b₀ ≡ state [] [] b₀ = cc in subst (λ l. Steps (tightest (place m₀.scale.now)) l (state [] [] b₀) t) e (subst (λ s. Steps (tightest (place m₀.scale.now)) left s t) q w);
  }

  module _ (worked left : List Instruction) (m : Machine S) (b : Board) (going : Going worked left m b) where
    module _ (x : Instruction) (ys : List Instruction) (e : left ≡ x ∷ ys) where
      -- it is the instruction at that place
      here : slice_get xs (length worked) ≡ Some x
      here = subst (λ zs. slice_get zs (length worked) ≡ Some x) (ap (λ l. worked ++ l) (sym e) ∙ going.whole) (nth_after worked x ys)

      inside : length worked < length xs
      inside = slice_get_within xs (length worked) x here

      -- nothing is wanting for the instruction
      pub ready : work_refusal xs (lines_set b₀) m₀.ranges.room m₀.verdicts.room ≡ None → Ready x m b
      ready p =
          let i = length worked in
          let w = workable sheet in
          let o = provided xs b₀ m₀.ranges.room m₀.verdicts.room p in
          let q = going.ranges in
          let r = going.verdicts in
          let d = depths_next xs i x here in
          let n = depths_within xs (i + 1) (omega (arith, inside)) in
          let k : after (shape (operation x)).ranges (length m.ranges.held) ≡ range_depth_at xs (i + 1) = ap (after (shape (operation x)).ranges) q ∙ sym d.0 in
          let l : after (shape (operation x)).verdicts (length m.verdicts.held) ≡ verdict_depth_at xs (i + 1) = ap (after (shape (operation x)).verdicts) r ∙ sym d.1 in
          record {
            ranges = (omega (arith, w.enough_ranges i x here), omega (arith, n.0, o.ranges, going.parts.ranges));
            verdicts = (omega (arith, w.enough_verdicts i x here), omega (arith, n.1, o.verdicts, going.parts.verdicts));
            cell = record {
              line = λ a j. w.line i a (here ∙ ap Some j);
              set = λ a j.
                  elim (read_kept_or_first xs a i inside (here ∙ ap Some j)) [
                    | inl z ↦ going.kept a (w.line i a (here ∙ ap Some j)) z
                    | inr z ↦ going.still a (o.lines a (w.line i a (here ∙ ap Some j)) z)
                  ];
              keep = λ a j. w.keep i a (here ∙ ap Some j);
              flag = λ a j. w.flag i a (here ∙ ap Some j);
            };
          }

      pub next : (n : Machine S) (c : Board) → Step (tightest (place m.scale.now)) x (state_of m b) (state_of n c) → KeepsParts m n → Going (worked ++ (x ∷ [])) ys n c
      next n c s k =
          let i = length worked in
          let p = going.parts in
          let s₀ : Step (tightest (place m₀.scale.now)) x (state_of m b) (state_of n c) = subst (λ v. Step (tightest (place v)) x (state_of m b) (state_of n c)) p.scale s in
          let f = effect (tightest (place m₀.scale.now)) x (state_of m b) (state_of n c) s₀ in
          let d = depths_next xs i x here in
          let j = length_push worked x in
          record {
            whole = append_assoc worked (x ∷ []) ys ∙ ap (λ l. worked ++ l) (sym e) ∙ going.whole;
            parts = record { scale = k.scale ∙ p.scale; ranges = k.ranges ∙ p.ranges; verdicts = k.verdicts ∙ p.verdicts };
            ranges = f.ranges ∙ ap (after (shape (operation x)).ranges) going.ranges ∙ sym d.0 ∙ ap (range_depth_at xs) (sym j);
            verdicts = f.verdicts ∙ ap (after (shape (operation x)).verdicts) going.verdicts ∙ sym d.1 ∙ ap (verdict_depth_at xs) (sym j);
            cells = f.cells ∙ going.cells;
            still = λ a h. f.still a (going.still a h);
            kept = λ a l h.
                elim (or_cases (kept_before xs a i) (keeps (slice_get xs i) a) (sym (kept_next xs a i) ∙ subst (λ v. kept_before xs a v ≡ true) j h)) [
                  | inl z ↦ f.still a (going.kept a l z)
                  | inr z ↦ (let v = going.cells in let u : a < length b.lines.cells = omega arith in f.kept a u (ap (λ o. keeps o a) (sym here) ∙ z))
                ];
            rest = λ t r. going.rest t (subst (λ l. Steps (tightest (place m₀.scale.now)) l (state_of m b) t) (sym e) (state_of n c, s₀, r));
          }

    -- at the end both piles are empty, and the whole is worked
    pub finished : left ≡ [] → Works (tightest (place m₀.scale.now)) xs b₀ b
    finished e =
        let w = workable sheet in
        let l : length worked ≡ length xs = ap length (sym (append-nil worked) ∙ ap (λ l. worked ++ l) (sym e) ∙ going.whole) in
        let r = nil_from_length m.ranges.held (going.ranges ∙ ap (range_depth_at xs) l ∙ w.no_range_left) in
        let v = nil_from_length m.verdicts.held (going.verdicts ∙ ap (verdict_depth_at xs) l ∙ w.no_verdict_left) in
        let q : state_of m b ≡ state [] [] b = cc in
        going.rest (state [] [] b) (subst (λ l. Steps (tightest (place m₀.scale.now)) l (state_of m b) (state [] [] b)) (sym e) (sym q))
