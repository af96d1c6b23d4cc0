use Rattle.std.proofs.Common.{◌≡◌, true, false, Some, None, rules}
use Rattle.std.proofs.lemmas.Iterator.{first_from_Range}
use borrow.Author.Tests.{tests}
use Rattle.sheet.specs.Held.{instructions_of}
use Rattle.pad.specs.Boards.{lines_set}
use Rattle.pad.specs.Refusals.{unset_refusal}
use Rattle.pad.proofs.Unset.{none_below, first_at, wanting, refused_by}
use Rattle.pad.proofs.working.check_lines.Goals as goal

pub returns-in-Some : goal.returns-in-Some
returns-in-Some c =
    let xs = instructions_of c.args.sheet.now in
    let b = c.args.board.now in
    let a = c.in-Some.a in
    let h = first_from_Range _ _ _ (Some a) (λ a. wanting xs b a ≡ true) (λ a. wanting xs b a ≡ false) c.in-Some.ensures.ran (λ a q k. search (rules, tests)) (λ a q k. search (rules, tests)) in
    first_at (unset_refusal xs (lines_set b)) a 32 _ h.1 (refused_by xs b a true h.2) (λ k l m. refused_by xs b k false (h.3 k l m))

pub returns-in-None : goal.returns-in-None
returns-in-None c =
    let xs = instructions_of c.args.sheet.now in
    let b = c.args.board.now in
    let h = first_from_Range _ _ _ None (λ a. wanting xs b a ≡ true) (λ a. wanting xs b a ≡ false) c.in-None.ensures.ran (λ a q k. search (rules, tests)) (λ a q k. search (rules, tests)) in
    none_below (unset_refusal xs (lines_set b)) 32 (λ k l m. refused_by xs b k false (h k l m))
