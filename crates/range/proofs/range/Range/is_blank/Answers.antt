use Rattle.std.proofs.Common.{sym, ◌∙◌, arith, rules}
use Rattle.std.proofs.lemmas.Int.{ints}
use Rattle.range.proofs.Codes.{Codes, held_ends, holding}
use Rattle.range.proofs.range.Range.is_blank.Goals.{then-highest-self, else-highest-self}
use Rattle.range.proofs.range.Range.is_blank.Goals as goal

pub returns-then-self-lowest-clause-empty : goal.returns-then-self-lowest-clause-empty
returns-then-self-lowest-clause-empty g c e x h =
    let O = g.met.S.OrderedScale.ordered c.args.scale.now in
    let T = g.met.S.OrderedScale.told c.args.scale.now in
    let C : Codes c.args.self = search rules in
    let k = held_ends O T c.args.self C x h in
    elim c.if-highest-self.branch [ then-highest-self w ↦ omega (arith, ints) | else-highest-self w ↦ let t = sym w.value-is ∙ c.if-self-lowest.true in omega (arith, ints) ]

pub returns-else-self-lowest-clause-empty : goal.returns-else-self-lowest-clause-empty
returns-else-self-lowest-clause-empty g c e x h =
    let O = g.met.S.OrderedScale.ordered c.args.scale.now in
    let T = g.met.S.OrderedScale.told c.args.scale.now in
    let C : Codes c.args.self = search rules in
    let k = held_ends O T c.args.self C x h in
    omega (arith, ints)

pub returns-else-self-lowest-clause-some : goal.returns-else-self-lowest-clause-some
returns-else-self-lowest-clause-some g c e =
    let O = g.met.S.OrderedScale.ordered c.args.scale.now in
    let T = g.met.S.OrderedScale.told c.args.scale.now in
    let C : Codes c.args.self = search rules in
    let l = C.lower_code in
    let u = C.upper_code in
    elim c.if-highest-self.branch [ then-highest-self w ↦ absurd (omega (arith, ints)) | else-highest-self w ↦ let t = sym w.value-is ∙ c.if-self-lowest.false in holding O T c.args.self C (omega (arith, ints)) (omega (arith, ints)) (omega (arith, ints)) ]
