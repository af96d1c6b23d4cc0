-- Laws of the calls of a pad: what a call does by the rule that it breaks, and what its answer tells. Assumes nothing.
use Rattle.std.proofs.Common.{◌≡◌, ℕ, ◌≤◌, Bool, List, map, get_or, ℤ, is_some, Some, None, Option, sym, refl, ap, ◌∙◌, subst, arith}
use Rattle.std.proofs.lemmas.Bool.{le-leb}
use Rattle.std.proofs.Math.ListN.{get_or-map}
use Rattle.fault.specs.declared.Refusal.{Refusal}
use Rattle.sheet.specs.Rules.{unless}
use Rattle.number.specs.Place.{Place}
use Rattle.pad.specs.declared.board.Board.{Board}
use Rattle.pad.specs.declared.faults.PadFault.{PadFault}
use Rattle.pad.specs.declared.faults.PadFault.TheVariants.{Unset}
use Rattle.pad.specs.Calls.{Call, enter, work, show_line, show_flag, wipe, Answer, refusal_at, Accepted, Does, DoesBy}
use Rattle.pad.specs.Faults.{pad_refusal}
use Rattle.pad.specs.Promises.{refusal_in}
use Rattle.pad.specs.Refusals.{show_refusal}

-- an accepted call answers no refusal
accepted_answer : (p : ℤ → Place) (call : Call) (b : Board) (ans : Answer) (c : Board) → Accepted p call b ans c → refusal_in ans ≡ None
accepted_answer p (enter a e) b ans c w = ap refusal_in w.2
accepted_answer p (work s m n) b ans c w = ap refusal_in w.0
accepted_answer p (show_line a) b ans c w = ap refusal_in w.4
accepted_answer p (show_flag a) b ans c w = ap refusal_in w.2
accepted_answer p wipe b ans c w = ap refusal_in w.0

-- the answer tells the rule that is broken, if one is
pub answer_tells : (p : ℤ → Place) (o : Option Refusal) (call : Call) (b : Board) (ans : Answer) (c : Board) → DoesBy p o call b ans c → refusal_in ans ≡ o
answer_tells p (Some f) call b ans c w = ap refusal_in w.0
answer_tells p None call b ans c w = accepted_answer p call b ans c w

module _ (p : ℤ → Place) (call : Call) (b : Board) (ans : Answer) (c : Board) (w : Does p call b ans c) where
  pub is_accepted : refusal_in ans ≡ None → (refusal_at call b ≡ None) × Accepted p call b ans c
  is_accepted e = let r = sym (answer_tells p (refusal_at call b) call b ans c w) ∙ e in (r, subst (λ o. DoesBy p o call b ans c) r w)

  pub is_refused : (f : Refusal) → refusal_in ans ≡ Some f → (refusal_at call b ≡ Some f) × (c ≡ b)
  is_refused f e = let r = sym (answer_tells p (refusal_at call b) call b ans c w) ∙ e in (r, (subst (λ o. DoesBy p o call b ans c) r w).1)

is_none : {A : Type 0} (o : Option A) (r f : Refusal) → unless (is_some o) r None ≡ Some f → o ≡ None
is_none None r f e = refl
is_none (Some x) r f e = let z : ◌≡◌ {A = ℕ} 0 1 = cc in absurd (omega arith)

-- the rules of a show of a cell that is there, by whether it is set
module _ {A : Type 0} (missing : PadFault) (cells : List (Option A)) (n : ℕ) (h : n ≤ 31) where
  pub show_rule : (s : Bool) → is_some (get_or cells n None) ≡ s → show_refusal missing n (map is_some cells) ≡ unless s (pad_refusal (Unset n)) None
  show_rule s e = (λ i. unless (le-leb n 31 h i) (pad_refusal missing) (unless ((get_or-map is_some cells n None ∙ e) i) (pad_refusal (Unset n)) None))

  -- it is refused only where it is unset
  pub show_unset : (f : Refusal) → show_refusal missing n (map is_some cells) ≡ Some f → get_or cells n None ≡ None
  show_unset f e = is_none (get_or cells n None) (pad_refusal (Unset n)) f (sym (show_rule (is_some (get_or cells n None)) refl) ∙ e)
