-- Which entries a line takes: the rules in their order. Assumes nothing.
use Rattle.std.specs.Prelude.{ℕ, Bool, true, cond, is_some, Some, None, Option, nat_le}
use Rattle.fault.specs.declared.Refusal.{Refusal}
use Rattle.number.specs.declared.Fraction.{Fraction}
use Rattle.number.specs.Fraction.{value, higher}
use Rattle.range.specs.declared.entry.Entry.{Entry}
use Rattle.range.specs.declared.entry.Entry.TheVariants.{Blank, Bounds}
use Rattle.range.specs.Bounds.{bound_value}
use Rattle.pad.specs.declared.faults.PadFault.{PadFault}
use Rattle.pad.specs.declared.faults.PadFault.TheVariants.{NoLine, LowerBound, UpperBound, Crossed}
use Rattle.pad.specs.Faults.{pad_refusal}

-- the refusal of a fault, unless the rule is kept
abbrev pub unless : Bool → PadFault → Option Refusal → Option Refusal
unless kept f rest = cond kept rest (Some (pad_refusal f))

abbrev pub valued : Option Fraction → Bool
valued None = true
valued (Some f) = is_some (value f)

abbrev pub bounds_refusal : ℕ → Option Fraction → Option Fraction → Option Refusal
bounds_refusal n l u = unless (valued l) LowerBound (unless (valued u) UpperBound (cond (higher (bound_value l) (bound_value u)) (Some (pad_refusal (Crossed n))) None))

-- the first rule that an entry into the line n breaks
abbrev pub enter_refusal : ℕ → Entry → Option Refusal
enter_refusal n Blank = unless (nat_le n 31) (NoLine n) None
enter_refusal n (Bounds l u) = unless (nat_le n 31) (NoLine n) (bounds_refusal n l u)
