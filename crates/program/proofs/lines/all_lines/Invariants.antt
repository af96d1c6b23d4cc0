use Rattle.std.proofs.Common.{◌≡◌, ◌-◌, None, string_bytes}
use Rattle.sheet.specs.Rules.{first_below}
use Rattle.scale.specs.Ruled.{on_ruled}
use Rattle.program.specs.Refusals.{entry_refusal}
use Rattle.program.specs.Text.{Joined}
use Rattle.program.specs.Printed.{EntryText}
use Rattle.program.proofs.lines.all_lines.Given as goal

-- the entries so far broke no rule, and their text is written
abbrev pub invariant-loop-text : goal.invariant-loop-text
invariant-loop-text l =
    (l.entries.input.now ≡ l.input)
    × (first_below (entry_refusal l.input) l.entries.next ≡ None)
    × Joined (EntryText (on_ruled l.scale) l.input) l.entries.next (string_bytes l.text)

abbrev pub decreases-loop-text : goal.decreases-loop-text
decreases-loop-text l = l.entries.count - l.entries.next
