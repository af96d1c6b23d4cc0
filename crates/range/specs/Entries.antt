-- The numbers that an entry admits. Assumes nothing.
use Rattle.number.specs.Number.{Number}
use Rattle.range.specs.declared.entry.Entry.{Entry}
use Rattle.range.specs.declared.entry.Entry.TheVariants.{Blank, Bounds}
use Rattle.range.specs.Bounds.{Within}

abbrev pub Admitted : Entry → Number → Type 0
Admitted Blank z = ⊥
Admitted (Bounds l u) z = Within l u z
