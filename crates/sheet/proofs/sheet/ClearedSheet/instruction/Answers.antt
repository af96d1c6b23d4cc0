use Rattle.std.proofs.Common.{rules, [], get_or, ◌≡◌}
use Rattle.sheet.proofs.Reading.{known}
use Rattle.sheet.proofs.sheet.ClearedSheet.instruction.Goals as goal

pub unwrap-operation-requires : goal.unwrap-operation-requires
unwrap-operation-requires c =
    let s = c.args.self.now.sheet in
    let e : get_or s.instructions.now c.args.i [] ≡ c.in_ok-byte.field-0.now = search rules in
    known s.bytes.now (search rules) s.constants.now s.instructions.now (search rules) (search rules) c.args.i [] (search rules) c.in_ok-byte.field-0.now e c.try_from.result c.try_from.ensures
