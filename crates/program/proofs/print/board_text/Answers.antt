use Rattle.std.proofs.Common.{string_bytes, sym, subst, arith, rules, ◌≤◌}
use Rattle.pad.specs.Boards.{line_at, flag_at}
use Rattle.program.specs.Text.{LineText, FlagText}
use Rattle.program.proofs.Texts.{joined_weaker}
use Rattle.program.proofs.print.board_text.Goals as goal

pub returns : goal.returns
returns g c =
    let p = g.S.OrderedScale.place c.args.pad.now.scale in
    let b = c.args.pad.now.board in
    let s = string_bytes c.in_ok-text.text in
    let u = string_bytes c.in_ok-flags.flags in (
      s,
      u,
      joined_weaker _ (λ k. LineText p k (line_at b k)) 32 s (λ k l v w. subst (λ x. LineText p k (line_at b k) x) (sym w.2) (let h : k ≤ 31 = omega arith in search rules)) c.in_ok-text.ensures,
      joined_weaker _ (λ k. FlagText k (flag_at b k)) 32 u (λ k l v w. subst (λ x. FlagText k (flag_at b k) x) (sym w.2) (let h : k ≤ 31 = omega arith in search rules)) c.in_ok-flags.ensures,
      search rules,
    )
