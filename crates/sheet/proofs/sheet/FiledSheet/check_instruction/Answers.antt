use Rattle.std.proofs.Common.{arith, rules}
use Rattle.std.proofs.lemmas.Bool.Decides.{nat_tests}
use Rattle.sheet.proofs.sheet.FiledSheet.check_instruction.Goals as goal

pub returns : goal.returns
returns c = (search rules, grind (arith, nat_tests))
