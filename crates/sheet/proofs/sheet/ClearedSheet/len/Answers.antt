use Rattle.std.proofs.Common.{sym, ◌∙◌}
use Rattle.sheet.specs.Held.{cleared_bytes}
use Rattle.sheet.proofs.Chunks.{instructions_count}
use Rattle.sheet.proofs.Laws.{count}
use Rattle.sheet.proofs.sheet.ClearedSheet.len.Goals as goal

pub returns : goal.returns
returns c = let s = c.args.self.now in instructions_count (cleared_bytes s) s.sheet.instructions.now s.sheet.instructions_laid ∙ sym (count s)
