use Rattle.std.proofs.Common.{◌≡◌, None}
use Rattle.sheet.specs.Rules.{first_below}
use Rattle.sheet.specs.Clearing.{constant_refusal}
use Rattle.sheet.proofs.sheet.FiledSheet.check_constants.Given as goal

-- the constants so far have values
abbrev pub invariant-loop-c : goal.invariant-loop-c
invariant-loop-c l = first_below (constant_refusal l.self.bytes.now) l.c ≡ None
