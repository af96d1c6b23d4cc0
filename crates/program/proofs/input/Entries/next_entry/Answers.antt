use Rattle.std.proofs.Common.{◌≡◌, true, ◌∙◌, refl, drop, slice_index, arith, rules}
use Rattle.number.specs.Bytes.{fraction_at}
use Rattle.program.specs.Input.{entry_by, is_entry}
use Rattle.program.proofs.Entries.{form_kept, line_read, entry_read, rest_left}
use Rattle.program.proofs.input.Entries.next_entry.Goals as goal

pub invariant_of-self-clause-at : goal.invariant_of-self-clause-at
invariant_of-self-clause-at c =
    let r = c.args.self.now.rest.now in
    let e : c.in_ok-line.rest.now ≡ drop 18 r = search rules in
    rest_left c.args.self.now.input.now r c.args.self.now.next c.args.self.now.at _ e

pub returns-clause-entry : goal.returns-clause-entry
returns-clause-entry c =
    let bs = c.args.self.now.input.now in
    let r = c.args.self.now.rest.now in
    let i = c.args.self.now.next in
    let h = c.args.self.now.at in
    let k : is_entry r ≡ true = search rules in
    let l : c.in_ok-line.line ≡ slice_index r 0 = search rules in
    let e : c.in_ok-line.entry ≡ entry_by (slice_index r 1) (fraction_at r 2) (fraction_at r 10) = search rules in
    (omega arith, form_kept bs r i h k, l ∙ line_read bs r i h, e ∙ entry_read bs r i h, refl)
