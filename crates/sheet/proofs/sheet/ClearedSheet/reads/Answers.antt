use Rattle.std.proofs.Common.{◌∙◌}
use Rattle.sheet.proofs.sheet.ClearedSheet.reads.Goals as goal

pub returns : goal.returns
returns c = c.reads_first.ensures ∙ c.args.self.now.tallied.2 c.args.line
