use Rattle.std.proofs.Common.{◌≡◌, pos, neg_ℤ, ◌≤ℤ◌, nat_abs, sym, ap, ◌∙◌, arith}
use Rattle.std.proofs.lemmas.Int.{ints, to_z-of_z}
use Rattle.number.specs.Place.{at}
use Rattle.scale.specs.Marked.{counted}
use Rattle.scale.specs.Sliding.{steps, mirrored, sliding_marks}
use Rattle.scale.specs.Placing.{is_number, no_number}
use Rattle.scale.specs.Steps.{mirrored_negative, mirrored_natural}
use Rattle.scale.proofs.sliding.SlidingScaleMarkedScale.count.Goals as goal

pub returns-then-not-contains : goal.returns-then-not-contains
returns-then-not-contains c =
    let w : sliding_marks.first ≤ℤ c.args.code → c.args.code ≤ℤ sliding_marks.last → ⊥ = search (arith, ints, to_z-of_z) in
    no_number sliding_marks c.args.code w

pub returns-then-code-lt0 : goal.returns-then-code-lt0
returns-then-code-lt0 c =
    let f = c.ranges.code in
    let v = c.steps_at-steps.ensures.value in
    let s = c.steps_at-steps.ensures.small in
    let w : (sliding_marks.first ≤ℤ c.args.code) × (c.args.code ≤ℤ sliding_marks.last) = search (arith, ints, to_z-of_z) in
    let n : c.unsigned_abs.result ≡ nat_abs c.args.code = simp to_z-of_z at c.unsigned_abs.ensures.value in
    let e : mirrored c.args.code ≡ neg_ℤ (pos c.steps_at-steps.result) = mirrored_negative c.args.code (omega (arith, ints)) ∙ ap (λ k. neg_ℤ (pos (steps k))) (sym n) ∙ ap (λ k. neg_ℤ (pos k)) (sym v) in
    is_number sliding_marks c.args.code w.0 w.1 ∙ ap (λ k. at (counted sliding_marks k)) (e ∙ omega (arith, ints))

pub returns-else-code-lt0 : goal.returns-else-code-lt0
returns-else-code-lt0 c =
    let f = c.ranges.code in
    let v = c.steps_at-steps.ensures.value in
    let s = c.steps_at-steps.ensures.small in
    let w : (sliding_marks.first ≤ℤ c.args.code) × (c.args.code ≤ℤ sliding_marks.last) = search (arith, ints, to_z-of_z) in
    let n : c.unsigned_abs.result ≡ nat_abs c.args.code = simp to_z-of_z at c.unsigned_abs.ensures.value in
    let e : mirrored c.args.code ≡ pos c.steps_at-steps.result = mirrored_natural c.args.code (omega (arith, ints)) ∙ ap (λ k. pos (steps k)) (sym n) ∙ ap pos (sym v) in
    is_number sliding_marks c.args.code w.0 w.1 ∙ ap (λ k. at (counted sliding_marks k)) (e ∙ omega (arith, ints))
