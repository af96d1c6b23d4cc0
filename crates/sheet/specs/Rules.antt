-- The first broken rule of several. Assumes nothing.
use Rattle.std.specs.Prelude.{ℕ, zero, suc, Bool, cond, Some, None, Option}
use Rattle.fault.specs.declared.Refusal.{Refusal}

-- the refusal, unless the rule is kept
abbrev pub unless : Bool → Refusal → Option Refusal → Option Refusal
unless kept r rest = cond kept rest (Some r)

-- the first of two refusals
abbrev pub first : Option Refusal → Option Refusal → Option Refusal
first (Some r) o = Some r
first None o = o

-- the first refusal below n
unfoldable pub first_below : (ℕ → Option Refusal) → ℕ → Option Refusal
first_below f zero = None
first_below f (suc i) = first (first_below f i) (f i)
