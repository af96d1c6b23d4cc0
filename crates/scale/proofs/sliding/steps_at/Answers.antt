use Rattle.std.proofs.Common.{◌+◌, ◌-◌, ◌*◌, ◌/◌, ◌%◌, ◌^◌, ◌<◌, sym, ◌∙◌, mod-eq_of_lt, arith}
use Rattle.scale.specs.Steps.{steps_small, steps_large, steps_below}
use Rattle.scale.proofs.sliding.steps_at.Goals as goal

pub returns-then-code-lt4096 : goal.returns-then-code-lt4096
returns-then-code-lt4096 c = let h = c.if-code-lt4096.true in record { value = sym (steps_small c.args.code h); small = omega arith }

pub returns-else-code-lt4096 : goal.returns-else-code-lt4096
returns-else-code-lt4096 c =
    let k = c.args.code in
    let e = steps_large k c.if-code-lt4096.false in
    let b = steps_below k c.requires in
    let s : (4096 + k % 4096) * 2 ^ (k / 4096 - 1) < 2 ^ 64 = omega arith in
    let m = mod-eq_of_lt s in
    record { value = m ∙ sym e; small = omega arith }
