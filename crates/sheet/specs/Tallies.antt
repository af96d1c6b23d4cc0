-- What a tally says of a file. Assumes nothing.
use Rattle.std.specs.Prelude.{◌≡◌, ℕ, max, Bool, true, false, List, replicate, slice_index_or}
use Rattle.sheet.specs.declared.operation.Operation.{Operation}
use Rattle.sheet.specs.declared.operation.Operation.TheVariants.{Line, Keep}
use Rattle.sheet.specs.declared.tally.FirstUse.{FirstUse}
use Rattle.sheet.specs.declared.tally.FirstUse.TheVariants.{Unnamed, Read, Kept}
use Rattle.sheet.specs.declared.tally.Tally.{Tally}
use Rattle.sheet.specs.Operations.{shape}
use Rattle.sheet.specs.Instructions.{instructions}
use Rattle.sheet.specs.Depths.{after, greatest_range_depth, greatest_verdict_depth}
use Rattle.sheet.specs.Lines.{is_on, reads_first}

-- the tally before the first instruction
abbrev pub start : Tally
start = record { ranges = record { «now» = 0; greatest = 0 }; verdicts = record { «now» = 0; greatest = 0 }; first_uses = replicate 32 Unnamed }

-- the first use of a line, by whether it is read before it is kept, and whether it is kept
abbrev pub first_use : Bool → Bool → FirstUse
first_use true k = Read
first_use false true = Kept
first_use false false = Unnamed

abbrev pub is_unnamed : FirstUse → Bool
is_unnamed Unnamed = true
is_unnamed Read = false
is_unnamed Kept = false

-- after an instruction that reads or keeps the line, or does neither
abbrev pub used : FirstUse → Bool → Bool → FirstUse
used Unnamed r k = first_use r k
used Read r k = Read
used Kept r k = Kept

abbrev pub is_read : FirstUse → Bool
is_read Unnamed = false
is_read Read = true
is_read Kept = false

abbrev pub Tallied : List ℕ → Tally → Type 0
Tallied bs t =
    (t.ranges.greatest ≡ greatest_range_depth (instructions bs))
    × (t.verdicts.greatest ≡ greatest_verdict_depth (instructions bs))
    × ((a : ℕ) → is_read (slice_index_or t.first_uses a Unnamed) ≡ reads_first (instructions bs) a)

-- the tally after an operation and its argument
pub record After (t : Tally) (o : Operation) (b : ℕ) (u : Tally) : Type 0 where
  pub range_depth : u.ranges.«now» ≡ after (shape o).ranges t.ranges.«now»
  pub greatest_range_depth : u.ranges.greatest ≡ max t.ranges.greatest (after (shape o).ranges t.ranges.«now»)
  pub verdict_depth : u.verdicts.«now» ≡ after (shape o).verdicts t.verdicts.«now»
  pub greatest_verdict_depth : u.verdicts.greatest ≡ max t.verdicts.greatest (after (shape o).verdicts t.verdicts.«now»)
  pub first_uses : (a : ℕ) → slice_index_or u.first_uses a Unnamed ≡ used (slice_index_or t.first_uses a Unnamed) (is_on o b Line a) (is_on o b Keep a)
