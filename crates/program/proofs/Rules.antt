-- The first rule that an input breaks, from those of its parts. Assumes nothing.
use Rattle.std.proofs.Common.{◌≡◌, ℕ, zero, suc, ◌+◌, ◌<◌, ◌≤◌, Bool, true, List, take, set, ℤ, is_some, Some, None, Ok, Err, Option, sym, ap, ◌∙◌, subst, arith}
use Rattle.std.proofs.lemmas.List.{map-set}
use Rattle.fault.specs.declared.Refusal.{Refusal}
use Rattle.sheet.specs.Rules.{first_below}
use Rattle.sheet.proofs.Firsts.{first_after, first_found, below_none, below_next, below_later}
use Rattle.number.specs.Place.{Place}
use Rattle.range.specs.declared.entry.Entry.{Entry}
use Rattle.pad.specs.Admission.{enter_refusal}
use Rattle.pad.specs.declared.board.Board.{Board}
use Rattle.pad.specs.Boards.{lines_set}
use Rattle.program.specs.declared.faults.ProgramFault.{ProgramFault}
use Rattle.program.specs.Faults.{program_refusal}
use Rattle.program.specs.Input.{count_of, line_of, entry_of, rest_of, sheet_of}
use Rattle.program.specs.Reading.{NextEntry}
use Rattle.program.specs.Entered.{Entered}
use Rattle.program.specs.Refusals.{count_refusal, form_refusal, entry_refusal, entries_refusal, set_by, sheet_refusal, input_refusal}

-- no entry breaks a rule; the entry i breaks the first
module _ (bs : List ℕ) (k : None ≡ count_refusal bs) where
  entries_rule : (o : Option Refusal) → first_below (entry_refusal bs) (count_of bs) ≡ o → o ≡ entries_refusal bs
  entries_rule o h = sym (first_after (count_refusal bs) (first_below (entry_refusal bs) (count_of bs)) o (sym k) h)

  pub entries_kept : (i : ℕ) → i ≡ count_of bs → first_below (entry_refusal bs) i ≡ None → None ≡ entries_refusal bs
  entries_kept i e h = entries_rule None (subst (λ m. first_below (entry_refusal bs) m ≡ None) e h)

  entries_broken : (i : ℕ) (r : Refusal) → i < count_of bs → first_below (entry_refusal bs) i ≡ None → Some r ≡ entry_refusal bs i → Some r ≡ entries_refusal bs
  entries_broken i r l h e =
      let f = entry_refusal bs in
      let m : i + 1 ≤ count_of bs = omega arith in
      entries_rule (Some r) (below_later f (i + 1) (count_of bs) r (below_next f i (Some r) h (sym e)) m)

-- before the first entry
pub none_below : (bs : List ℕ) (i : ℕ) → i ≡ 0 → first_below (entry_refusal bs) i ≡ None
none_below bs i e = subst (λ m. first_below (entry_refusal bs) m ≡ None) (sym e) (below_none (entry_refusal bs))

-- the next entry: it has not its form
pub form_broken : (bs : List ℕ) (i j : ℕ) (f : ProgramFault) → NextEntry bs i j (Err f) → first_below (entry_refusal bs) i ≡ None → None ≡ count_refusal bs → Some (program_refusal f) ≡ entries_refusal bs
form_broken bs i j f w h k =
    entries_broken bs k i (program_refusal f) w.0 h (sym (first_found (form_refusal bs i) (enter_refusal (line_of bs i) (entry_of bs i)) (program_refusal f) w.1))

-- it is read, and then taken or not
module _ (bs : List ℕ) (i j line : ℕ) (entry : Entry) (w : NextEntry bs i j (Ok (Some (line, entry)))) (h : first_below (entry_refusal bs) i ≡ None) where
  next_rule : (o : Option Refusal) → enter_refusal line entry ≡ o → entry_refusal bs i ≡ o
  next_rule o e = first_after (form_refusal bs i) (enter_refusal (line_of bs i) (entry_of bs i)) o w.1 ((λ k. enter_refusal (sym w.2 k) (sym w.3 k)) ∙ e)

  pub next_kept : enter_refusal line entry ≡ None → first_below (entry_refusal bs) j ≡ None
  next_kept e = subst (λ m. first_below (entry_refusal bs) m ≡ None) (sym w.4) (below_next (entry_refusal bs) i None h (next_rule None e))

  pub next_broken : (r : Refusal) → None ≡ count_refusal bs → enter_refusal line entry ≡ Some r → Some r ≡ entries_refusal bs
  next_broken r k e = entries_broken bs k i r w.0 h (sym (next_rule (Some r) e))

-- the lines that the entries set are those that are then set on the board
pub entered_set : (p : ℤ → Place) (bs : List ℕ) (n : ℕ) (b : Board) → Entered p bs n b → lines_set b ≡ set_by bs n
unfolding set_by
entered_set p bs zero b e = ap lines_set e
entered_set p bs (suc i) c w =
    ap lines_set w.2.3 ∙ map-set is_some w.0.lines.cells (line_of bs i) (Some w.2.0) ∙ ap (λ l. set l (line_of bs i) true) (entered_set p bs i w.0 w.1)

pub sheet_left : (bs rest cut : List ℕ) → rest ≡ rest_of bs (count_of bs) → cut ≡ take 32769 rest → cut ≡ sheet_of bs
unfolding sheet_of
sheet_left bs rest cut e f = f ∙ ap (λ l. take 32769 l) e

pub input_rule : (bs sheet : List ℕ) (lines : List Bool) (o : Option Refusal) → None ≡ entries_refusal bs → lines ≡ set_by bs (count_of bs) → sheet ≡ sheet_of bs → o ≡ sheet_refusal sheet lines → o ≡ input_refusal bs
input_rule bs sheet lines o f l s h =
    sym (first_after (entries_refusal bs) (sheet_refusal (sheet_of bs) (set_by bs (count_of bs))) o (sym f) ((λ j. sheet_refusal (sym s j) (sym l j)) ∙ sym h))
