use Rattle.std.proofs.Common.{rules}
use Rattle.sheet.proofs.Laws.{workable_from}
use Rattle.sheet.proofs.sheet.FiledSheet.clear.Goals as goal

pub returns-in-Ok : goal.returns-in-Ok
returns-in-Ok c = (search rules, search rules, workable_from _ (search rules))
