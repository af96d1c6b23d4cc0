use Rattle.std.proofs.Common.{rules, refl}
use Rattle.std.proofs.lemmas.Int.{to_z-of_z}
use Rattle.range.proofs.Bounding.{bounds_hull}
use Rattle.range.proofs.entry.Entry.hull.Goals as goal

pub returns-in-Bounds : goal.returns-in-Bounds
returns-in-Bounds g c = rw c.in-Bounds.is (search (rules, to_z-of_z, bounds_hull c.in-Bounds.lower c.in-Bounds.upper (c.if-admits.ensures.some refl) c.code.ensures c.code-in-Bounds.ensures))
