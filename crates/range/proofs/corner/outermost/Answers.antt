use Rattle.std.proofs.Common.{w64, SFits, rules}
use Rattle.std.proofs.lemmas.Int.{to_z-of_z}
use Rattle.range.proofs.corner.outermost.Goals as goal

pub returns : goal.returns
returns g c =
    let xl : SFits w64 c.args.x.lower = search rules in
    let xu : SFits w64 c.args.x.upper = search rules in
    let yl : SFits w64 c.args.y.lower = search rules in
    let yu : SFits w64 c.args.y.upper = search rules in
    let k : SFits w64 c.corner.result = search rules in
    let l : SFits w64 c.corner-2.result = search rules in
    let m : SFits w64 c.corner-3.result = search rules in
    let n : SFits w64 c.corner-4.result = search rules in
    let a : SFits w64 c.outer.result = search rules in
    let b : SFits w64 c.outer-2.result = search rules in
    let o : SFits w64 c.outer-3.result = search rules in
    let e = simp to_z-of_z at c.outer.ensures in
    let f = simp to_z-of_z at c.outer-2.ensures in
    let h = simp to_z-of_z at c.outer-3.ensures in
    simp to_z-of_z (record {
      k = c.corner.result;
      l = c.corner-2.result;
      m = c.corner-3.result;
      n = c.corner-4.result;
      lower_lower = simp to_z-of_z at c.corner.ensures;
      lower_upper = simp to_z-of_z at c.corner-2.ensures;
      upper_lower = simp to_z-of_z at c.corner-3.ensures;
      upper_upper = simp to_z-of_z at c.corner-4.ensures;
      outermost = cc;
    })
