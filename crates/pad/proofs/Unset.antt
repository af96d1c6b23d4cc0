-- Which lines and flags are set, and whether a line is unset and read before it is kept. Assumes nothing.
use Rattle.std.proofs.Common.{◌≡◌, ℕ, zero, suc, ◌+◌, ◌<◌, ◌≤◌, Bool, not, ◌&&◌, List, is_some, Some, None, Option, sym, ◌∙◌, subst, arith}
use Rattle.std.proofs.Math.ListN.{get_or-map}
use Rattle.fault.specs.declared.Refusal.{Refusal}
use Rattle.sheet.specs.Rules.{unless, first_below}
use Rattle.sheet.proofs.Firsts.{below_none, below_next, below_later}
use Rattle.sheet.specs.declared.instruction.Instruction.{Instruction}
use Rattle.sheet.specs.Lines.{reads_first}
use Rattle.pad.specs.declared.board.Board.{Board}
use Rattle.pad.specs.declared.faults.PadFault.TheVariants.{Unset}
use Rattle.pad.specs.Boards.{line_at, lines_set}
use Rattle.pad.specs.Faults.{pad_refusal}
use Rattle.pad.specs.Refusals.{unset_refusal}

-- no rule is broken below n
pub none_below : (f : ℕ → Option Refusal) (n : ℕ) → ((k : ℕ) → 0 ≤ k → k < n → f k ≡ None) → first_below f n ≡ None
none_below f zero h = below_none f
none_below f (suc n) h =
    let e : suc n ≡ n + 1 = omega arith in
    subst (λ m. first_below f m ≡ None) (sym e) (below_next f n None (none_below f n (λ k l j. h k l (omega arith))) (h n (omega arith) (omega arith)))

-- the first rule that is broken is that at i
pub first_at : (f : ℕ → Option Refusal) (i n : ℕ) (r : Refusal) → i < n → f i ≡ Some r → ((k : ℕ) → 0 ≤ k → k < i → f k ≡ None) → first_below f n ≡ Some r
first_at f i n r l e h = below_later f (i + 1) n r (below_next f i (Some r) (none_below f i h) e) (omega arith)

module _ (xs : List Instruction) (b : Board) (a : ℕ) where
  -- whether the line is read first and unset
  abbrev pub wanting : Bool
  wanting = reads_first xs a && not (is_some (line_at b a))

  pub refused_by : (t : Bool) → wanting ≡ t → unset_refusal xs (lines_set b) a ≡ unless (not t) (pad_refusal (Unset a)) None
  refused_by t e =
      (λ i. unless (not (reads_first xs a && not (get_or-map is_some b.lines.cells a None i))) (pad_refusal (Unset a)) None)
      ∙ (λ i. unless (not (e i)) (pad_refusal (Unset a)) None)
