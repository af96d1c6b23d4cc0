use Rattle.std.proofs.Common.{refl, ◌∙◌, rules}
use Rattle.range.proofs.Comparing.{equal_exactly}
use Rattle.range.proofs.order.equal.Goals as goal

pub returns : goal.returns
returns g c =
    let O = g.met.S.OrderedScale.ordered c.args.scale.now in
    equal_exactly O c.args.x c.args.y (search rules) (search rules) (c.if-any_blank.ensures.first refl) (c.if-any_blank.ensures.second refl) c.of.result (c.of.ensures.truth ∙ c.overlap.ensures) (c.of.ensures.untruth ∙ c.spread.ensures)
