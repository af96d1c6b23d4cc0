use Rattle.std.proofs.Common.{arith}
use Rattle.scale.specs.Steps.{steps_small, steps_next, shift_fits, log_found}
use Rattle.scale.proofs.sliding.code_of.Goals as goal

pub returns-then-n-lt4096 : goal.returns-then-n-lt4096
returns-then-n-lt4096 c =
    let h = c.if-n-lt4096.true in
    let e = steps_small c.args.n h in
    record { not_above = omega arith; next = omega (arith, steps_next c.args.n); small = omega arith }

pub overflow_sub-shift : goal.overflow_sub-shift
overflow_sub-shift c = let k = c.ilog2-shift.ensures in shift_fits c.args.n c.ilog2-shift.result c.if-n-lt4096.false k.power_le k.next_power_gt k.bound

pub overflow_add-result : goal.overflow_add-result
overflow_add-result c =
    let k = c.ilog2-shift.ensures in
    let f = log_found c.args.n c.ilog2-shift.result c.if-n-lt4096.false k.power_le k.next_power_gt k.bound in
    let s = f.2 in
    omega arith

pub returns : goal.returns
returns c =
    let k = c.ilog2-shift.ensures in
    let f = log_found c.args.n c.ilog2-shift.result c.if-n-lt4096.false k.power_le k.next_power_gt k.bound in
    rw c.from.ensures (record { not_above = f.0; next = f.1; small = f.2 })
