use Rattle.std.proofs.Common.{◌≡◌, ◌≤◌, ◌-◌, ◌/◌, length, take, drop, ap, ◌∙◌, arith}
use Rattle.std.specs.Simd.{first_chunks}
use Rattle.std.proofs.lemmas.Grind.{common_steps}
use Rattle.sheet.proofs.Chunks.{take_chunks}
use Rattle.sheet.proofs.filed.chunks_at.Goals as goal

pub returns : goal.returns
returns g c =
    let bs = c.args.bytes.now in
    let xs = take (length bs - c.args.at) (drop c.args.at bs) in
    let f = c.as_chunks.ensures.front_len in
    let h : c.args.count ≤ length c.as_chunks.result.0.now = grind (arith, common_steps) in
    let k : c.args.count ≤ length xs / g.row.N = omega (arith, f, h) in
    let e : xs ≡ drop c.args.at bs = grind (arith, common_steps) in
    ap (take c.args.count) c.as_chunks.ensures.front ∙ take_chunks g.row.N c.args.count (length xs / g.row.N) xs k ∙ ap (first_chunks g.row.N c.args.count) e
