use Rattle.std.proofs.Common.{◌≡◌, string_bytes, sym, ap, subst, arith, rules}
use Rattle.std.specs.Fmt.{AppendsText}
use Rattle.program.specs.Text.{Joined, Told}
use Rattle.program.proofs.Texts.{joined_none, told_some, told_none}
use Rattle.program.proofs.print.joined.Goals as goal
use Rattle.program.proofs.print.joined.Goals.{in-Some+in_ok-write, in_default}

pub loop-n-init : goal.loop-n-init
loop-n-init g c = joined_none _ (string_bytes c.new-text.result) c.new-text.ensures.bytes

pub loop-n-preserved : goal.loop-n-preserved
loop-n-preserved g c =
    let P = goal.F-post g c.args.set in
    let n = c.loop-n.n in
    let s = string_bytes c.loop-n.text in
    let t = string_bytes c.match-set.text in
    let j = c.loop-n.invariant in
    elim c.match-set.branch [
      | in-Some+in_ok-write w ↦
          told_some P g.T.Display.output n s t w.in-Some.item j w.in-Some.ensures (c.requires.told w.in-Some.item) (subst (λ x. AppendsText s (string_bytes x) (g.T.Display.output w.in-Some.item)) (sym w.text-is) (search rules))
      | in_default w ↦ told_none P g.T.Display.output n s t j w.in_default.ensures (ap string_bytes w.text-is)
    ]

pub returns : goal.returns
returns g c = let e : c.loop-n.n ≡ 32 = omega arith in subst (λ k. Joined (Told (goal.F-post g c.args.set) g.T.Display.output) k (string_bytes c.loop-n.text)) e c.loop-n.invariant
