use Rattle.std.proofs.Common.{◌≡◌, pos, negsuc, ◌-ℤ◌, neg_ℤ, subst, arith, w64, SFits}
use Rattle.std.specs.Int.{int_max, int_min}
use Rattle.std.proofs.lemmas.Int.{ints, clamps, to_z-of_z}
use Rattle.number.specs.Place.{at}
use Rattle.scale.specs.declared.rounding.Rounding.TheVariants.{Down, Up}
use Rattle.scale.specs.Scale.{Floor, Ceiling}
use Rattle.scale.specs.Marked.{counted}
use Rattle.scale.specs.Sliding.{sliding, sliding_marks}
use Rattle.scale.specs.Placing.{rounded_clamped}
use Rattle.scale.specs.Steps.{sliding_far, sliding_lowest, sliding_ceiling}
use Rattle.scale.proofs.sliding.SlidingScaleMarkedScale.fitted.Goals as goal

pub overflow_sub-result : goal.overflow_sub-result
overflow_sub-result c = let l = sliding_lowest _ c.floor_code-in-Up.result c.floor_code-in-Up.ensures in let h = c.floor_code-in-Up.ensures.code in omega (arith, ints)

pub returns-in-Down : goal.returns-in-Down
returns-in-Down c =
    let f = c.ranges.count in
    let n = c.clamped-n.result in
    let fn : SFits w64 n = record { sfits = c.clamped-n.type_inv } in
    let fr : SFits w64 c.floor_code.result = record { sfits = c.floor_code.type_inv } in
    let e : n ≡ int_max (negsuc 2147483647) (int_min c.args.count (pos 2147483648)) = simp to_z-of_z at c.clamped-n.ensures in
    let h : Floor sliding (at (counted sliding_marks n)) c.floor_code.result = simp to_z-of_z at c.floor_code.ensures in
    rw c.in-Down.is (simp to_z-of_z (rounded_clamped sliding_marks c.args.count (negsuc 2147483647) (pos 2147483648) sliding_far (omega (arith, ints)) Down c.floor_code.result
    (subst (λ z. Floor sliding (at (counted sliding_marks z)) c.floor_code.result) e h)))

pub returns-in-Up : goal.returns-in-Up
returns-in-Up c =
    let f = c.ranges.count in
    let n = c.clamped-n.result in
    let fn : SFits w64 n = record { sfits = c.clamped-n.type_inv } in
    let r = c.floor_code-in-Up.result in
    let fr : SFits w64 r = record { sfits = c.floor_code-in-Up.type_inv } in
    let e : n ≡ int_max (negsuc 2147483647) (int_min c.args.count (pos 2147483648)) = simp to_z-of_z at c.clamped-n.ensures in
    let f' : SFits w64 (pos 0 -ℤ n) = omega (arith, ints, clamps) in
    let l = sliding_lowest _ r c.floor_code-in-Up.ensures in
    let fr' : SFits w64 (pos 0 -ℤ r) = omega (arith, ints) in
    let h : Floor sliding (at (counted sliding_marks (neg_ℤ n))) r = subst (λ z. Floor sliding (at (counted sliding_marks z)) r) (omega (arith, ints)) (simp to_z-of_z at c.floor_code-in-Up.ensures) in
    let k : Ceiling sliding (at (counted sliding_marks n)) (pos 0 -ℤ r) = subst (λ z. Ceiling sliding (at (counted sliding_marks n)) z) (omega (arith, ints)) (sliding_ceiling n r h) in
    rw c.in-Up.is (simp to_z-of_z (rounded_clamped sliding_marks c.args.count (negsuc 2147483647) (pos 2147483648) sliding_far (omega (arith, ints)) Up (pos 0 -ℤ r)
    (subst (λ z. Ceiling sliding (at (counted sliding_marks z)) (pos 0 -ℤ r)) e k)))
