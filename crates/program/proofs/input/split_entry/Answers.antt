use Rattle.std.proofs.Common.{◌∙◌, ap, drop}
use Rattle.std.proofs.lemmas.List.{drop-drop}
use Rattle.program.specs.Input.{entry_by}
use Rattle.program.proofs.Entries.{known, kind_read, lower_read, upper_read}
use Rattle.program.proofs.input.split_entry.Goals as goal

pub returns-clause-entry : goal.returns-clause-entry
returns-clause-entry c =
    let a = c.in_ok-line.ensures.cases in
    let b = c.in_ok-lower.ensures.cases in
    let d = c.in_ok-upper.ensures.cases in
    let k = kind_read c.args.bytes.now _ _ _ _ _ a.0 a.1 b.0 b.1 d.0 in
    let l = c.from_le_bytes-lower.ensures ∙ lower_read c.args.bytes.now _ _ _ _ _ a.0 a.1 b.0 b.1 d.0 in
    let u = c.from_le_bytes-upper.ensures ∙ upper_read c.args.bytes.now _ _ _ _ _ a.0 a.1 b.0 b.1 d.0 in
    known _ c.in_ok-entry.ensures ∙ (λ i. entry_by (k i) (l i) (u i))

pub returns-clause-rest : goal.returns-clause-rest
returns-clause-rest c =
    let bs = c.args.bytes.now in
    c.in_ok-upper.ensures.cases.1 ∙ ap (λ l. drop 8 l) (c.in_ok-lower.ensures.cases.1 ∙ ap (λ l. drop 8 l) c.in_ok-line.ensures.cases.1 ∙ drop-drop 8 2 bs) ∙ drop-drop 8 10 bs
