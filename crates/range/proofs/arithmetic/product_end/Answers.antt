use Rattle.std.proofs.Common.{w64, SFits, rules}
use Rattle.std.proofs.lemmas.Int.{to_z-of_z}
use Rattle.range.proofs.Codes.{Codes}
use Rattle.range.proofs.Working.{product_end}
use Rattle.range.proofs.arithmetic.product_end.Goals as goal

pub returns : goal.returns
returns g c =
    let O = g.met.S.OrderedScale.ordered c.args.scale.now in
    let X : Codes c.args.x = search rules in
    let Y : Codes c.args.y = search rules in
    let o : SFits w64 c.outermost.result = search rules in
    simp to_z-of_z (product_end O c.args.rounding c.args.x c.args.y X Y c.outermost.ensures (λ a b k f h e. search (rules, to_z-of_z)))
