use Rattle.std.proofs.Common.{◌≡◌, ◌+◌, ◌^◌, ◌<◌, ◌≤◌, pos, negsuc, ◌-ℤ◌, nat_abs, subst, arith, w64, SFits}
use mir.Val.{hbits}
use Rattle.std.proofs.lemmas.Int.{ints, clamps, to_z-of_z}
use Rattle.number.specs.Place.{at}
use Rattle.scale.specs.Scale.{Floor}
use Rattle.scale.specs.Marked.{counted}
use Rattle.scale.specs.Sliding.{steps, sliding, sliding_marks}
use Rattle.scale.specs.Steps.{sliding_floor, sliding_floor⁻}
use Rattle.scale.proofs.sliding.floor_code.Goals as goal

pub returns-then-n-ge0 : goal.returns-then-n-ge0
returns-then-n-ge0 c =
    let f = c.ranges.n in
    let fr : SFits w64 c.min.result = record { sfits = c.min.type_inv } in
    let k = c.code_of.result in
    let s = c.code_of.ensures.small in
    let small : k < 2 ^ hbits w64 = omega arith in
    let n = nat_abs c.args.n in
    let e : pos n ≡ c.args.n = omega (arith, ints) in
    let l : steps k ≤ n = simp to_z-of_z at c.code_of.ensures.not_above in
    let h : n < steps (k + 1) = simp to_z-of_z at c.code_of.ensures.next in
    simp to_z-of_z (subst (λ z. Floor sliding (at (counted sliding_marks z)) c.min.result) e (sliding_floor n k l h c.min.result (omega (arith, ints, clamps))))

pub returns-else-n-ge0 : goal.returns-else-n-ge0
returns-else-n-ge0 c =
    let f = c.ranges.n in
    let fr : SFits w64 c.max.result = record { sfits = c.max.type_inv } in
    let k = c.code_of-else-n-ge0.result in
    let s = c.code_of-else-n-ge0.ensures.small in
    let small : k < 2 ^ hbits w64 = omega arith in
    let f' : SFits w64 (negsuc 0 -ℤ c.args.n) = omega (arith, ints) in
    let n = nat_abs (negsuc 0 -ℤ c.args.n) in
    let e : negsuc n ≡ c.args.n = omega (arith, ints) in
    let l : steps k ≤ n = simp to_z-of_z at c.code_of-else-n-ge0.ensures.not_above in
    let h : n < steps (k + 1) = simp to_z-of_z at c.code_of-else-n-ge0.ensures.next in
    simp to_z-of_z (subst (λ z. Floor sliding (at (counted sliding_marks z)) c.max.result) e (sliding_floor⁻ n k l h c.max.result (omega (arith, ints, clamps))))
