use Rattle.std.proofs.Common.{ap, ◌∙◌, ⊎_elim, arith}
use Rattle.program.proofs.Entries.{from_unwrap_or}
use Rattle.program.proofs.input.cut_sheet.Goals as goal

pub returns : goal.returns
returns c = ap (λ x. x.now) c.unwrap_or.ensures ∙ from_unwrap_or (λ x. x.now) c.get.result c.args.rest 32769 _ _ c.get.ensures.lookup.0 (⊎_elim (λ h. omega arith) (λ h. omega arith)) (λ x h. h.2)
