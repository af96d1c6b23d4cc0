use Rattle.std.proofs.Common.{◌≡◌, suc, ◌+◌, Ok, Err, refl, subst, subst₂, ◌∙◌, sym, arith, rules}
use Rattle.std.proofs.lemmas.Result.{err_from_is_err_and}
use Rattle.scale.specs.Ruled.{on_ruled}
use Rattle.pad.specs.Faults.{pad_refusal}
use Rattle.pad.specs.Pads.{board_of}
use Rattle.pad.specs.Calls.{Accepted, enter, done}
use Rattle.pad.proofs.Laws.{is_accepted, is_refused}
use Rattle.program.specs.Entered.{Entered}
use Rattle.program.specs.Reading.{NextEntry}
use Rattle.program.proofs.Rules.{none_below, form_broken, next_kept, next_broken}
use Rattle.program.proofs.board.enter_all.Goals as goal

pub loop-line-init : goal.loop-line-init
loop-line-init c =
    let e = c.in_ok-entries.ensures.first in
    (search rules, none_below c.args.input.now _ (search rules), rw e c.new-pad.ensures.board, c.new-pad.ensures.scale)

pub returns-in_err-line-clause-refusal : goal.returns-in_err-line-clause-refusal
returns-in_err-line-clause-refusal c =
    let i = c.loop-line.entries.next in
    let j = c.next_entry.new.self.next in
    let l = c.loop-line.invariant in
    let w = subst (λ b. NextEntry b i j (Err c.in_err-line.field-0.0)) l.0 c.in_err-line.ensures.entry in
    let p = err_from_is_err_and c.from_residual-in_err-line.result c.from_residual-in_err-line.ensures.1 in
    rw (p.1, p.2) (form_broken c.args.input.now i j _ w l.1 c.in_ok-entries.ensures.refusal)

pub loop-line-preserved : goal.loop-line-preserved
loop-line-preserved c =
    let bs = c.args.input.now in
    let i = c.loop-line.entries.next in
    let j = c.next_entry.new.self.next in
    let l = c.loop-line.invariant in
    let w = subst₂ (λ b o. NextEntry b i j (Ok o)) l.0 c.in-Some.is c.in_ok-line.ensures.entry in
    let b = board_of c.loop-line.pad in
    let d = board_of c.enter.new.self in
    let a = is_accepted (on_ruled c.loop-line.pad.scale) (enter c.in-Some.line c.in-Some.entry) b done d c.in_ok-enter.ensures.does refl in
    let t = subst (λ z. Accepted (on_ruled z) (enter c.in-Some.line c.in-Some.entry) b done d) l.3 a.1 in
    let u = subst₂ (λ n e. Accepted (on_ruled c.args.scale) (enter n e) b done d) w.2 w.3 t in
    let q : suc i ≡ i + 1 = omega arith in (
      c.in_ok-line.ensures.input ∙ l.0,
      next_kept bs i j _ _ w l.1 a.0,
      subst (λ n. Entered (on_ruled c.args.scale) bs n d) (q ∙ sym w.4) (b, l.2, u),
      c.in_ok-enter.ensures.scale ∙ l.3,
    )

pub returns-in_err-enter-clause-refusal : goal.returns-in_err-enter-clause-refusal
returns-in_err-enter-clause-refusal c =
    let i = c.loop-line.entries.next in
    let j = c.next_entry.new.self.next in
    let l = c.loop-line.invariant in
    let w = subst₂ (λ b o. NextEntry b i j (Ok o)) l.0 c.in-Some.is c.in_ok-line.ensures.entry in
    let f = pad_refusal c.in_err-enter.field-0.0 in
    let a = is_refused (on_ruled c.loop-line.pad.scale) (enter c.in-Some.line c.in-Some.entry) _ _ _ c.in_err-enter.ensures.does f refl in
    let p = err_from_is_err_and c.from_residual-in_err-enter.result c.from_residual-in_err-enter.ensures.1 in
    rw (p.1, p.2) (next_broken c.args.input.now i j _ _ w l.1 f c.in_ok-entries.ensures.refusal a.0)
