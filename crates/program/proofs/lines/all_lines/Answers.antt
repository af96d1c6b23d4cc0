use Rattle.std.proofs.Common.{◌≡◌, Ok, Err, string_bytes, sym, subst, subst₂, ◌∙◌, rules}
use Rattle.std.proofs.lemmas.Result.{err_from_is_err_and}
use Rattle.scale.specs.Ruled.{on_ruled}
use Rattle.range.specs.Entries.{Admitted}
use Rattle.range.specs.Hull.{Hull}
use Rattle.program.specs.Input.{count_of}
use Rattle.program.specs.Reading.{NextEntry}
use Rattle.program.specs.Text.{Joined, codes_of, line_text}
use Rattle.program.specs.Printed.{EntryText}
use Rattle.program.proofs.Rules.{none_below, form_broken, next_kept, next_broken}
use Rattle.program.proofs.Texts.{joined_none, joined_more}
use Rattle.program.proofs.lines.all_lines.Goals as goal

pub loop-text-init : goal.loop-text-init
loop-text-init c =
    let e = c.in_ok-entries.ensures.first in
    (search rules, none_below c.args.input.now _ (search rules), rw e (joined_none _ (string_bytes c.new-text.result) c.new-text.ensures.bytes))

pub returns-in_err-line-clause-refusal : goal.returns-in_err-line-clause-refusal
returns-in_err-line-clause-refusal c =
    let i = c.loop-text.entries.next in
    let j = c.next_entry.new.self.next in
    let l = c.loop-text.invariant in
    let w = subst (λ b. NextEntry b i j (Err c.in_err-line.field-0.0)) l.0 c.in_err-line.ensures.entry in
    let p = err_from_is_err_and c.from_residual-in_err-line.result c.from_residual-in_err-line.ensures.1 in
    rw (p.1, p.2) (sym (form_broken c.args.input.now i j _ w l.1 c.in_ok-entries.ensures.refusal))

pub returns-in_err-line-2-clause-refusal : goal.returns-in_err-line-2-clause-refusal
returns-in_err-line-2-clause-refusal c =
    let i = c.loop-text.entries.next in
    let j = c.next_entry.new.self.next in
    let l = c.loop-text.invariant in
    let w = subst₂ (λ b o. NextEntry b i j (Ok o)) l.0 c.in-Some.is c.in_ok-line.ensures.entry in
    let p = err_from_is_err_and c.from_residual-in_err-line-2.result c.from_residual-in_err-line-2.ensures.1 in
    rw (p.1, p.2) (sym (next_broken c.args.input.now i j _ _ w l.1 _ c.in_ok-entries.ensures.refusal (sym c.in_err-line-2.ensures.refusal)))

pub loop-text-preserved : goal.loop-text-preserved
loop-text-preserved c =
    let bs = c.args.input.now in
    let i = c.loop-text.entries.next in
    let j = c.next_entry.new.self.next in
    let l = c.loop-text.invariant in
    let w = subst₂ (λ b o. NextEntry b i j (Ok o)) l.0 c.in-Some.is c.in_ok-line.ensures.entry in
    let p = on_ruled c.in_ok-scale.scale in
    let t = c.in_ok-line-2.ensures.text in
    let P = EntryText p bs in
    let u = subst₂ (λ n e. let x = line_text (on_ruled c.in_ok-line-2.line.scale.now) c.in_ok-line-2.line.line c.in_ok-line-2.line.shown in Hull p (Admitted e) t.0 × (x ≡ line_text p n (codes_of t.0))) w.2 w.3 (t.1, t.2) in (
      c.in_ok-line.ensures.input ∙ l.0,
      next_kept bs i j _ _ w l.1 (sym c.in_ok-line-2.ensures.refusal),
      subst (λ m. Joined P m (string_bytes c.write.new.self)) (sym w.4) (joined_more P i (string_bytes c.loop-text.text) _ (string_bytes c.write.new.self) l.2 (t.0, u.0, u.1) c.in_ok-write.ensures.bytes),
    )

pub returns-clause-lines : goal.returns-clause-lines
returns-clause-lines c =
    let s = c.in_ok-scale.scale in
    let l = c.loop-text.invariant in
    let e : c.loop-text.entries.next ≡ count_of c.args.input.now = search rules in
    record {
      scale = s;
      division = c.in_ok-scale.ensures.division;
      lines = subst (λ m. Joined (EntryText (on_ruled s) c.args.input.now) m (string_bytes c.loop-text.text)) e l.2;
    }
