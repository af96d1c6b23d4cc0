-- The pass over the constants that a sheet holds. Assumes nothing.
use Rattle.std.proofs.Common.{◌≡◌, ℕ, ◌+◌, ◌<◌, true, false, List, length, get_or, is_some, Some, None, sym, ap, ◌∙◌, subst, arith}
use Rattle.number.specs.declared.Fraction.{Fraction}
use Rattle.number.specs.Fraction.{value}
use Rattle.sheet.specs.declared.faults.ClearingFault.TheVariants.{Valueless}
use Rattle.sheet.specs.Faults.{clearing_refusal}
use Rattle.sheet.specs.Rules.{unless, first_below}
use Rattle.sheet.specs.Files.{fraction_at, constant_count, constants_in}
use Rattle.sheet.specs.Clearing.{constant_refusal, constants_refusal}
use Rattle.sheet.proofs.Firsts.{below_next, below_later}
use Rattle.sheet.proofs.Chunks.{constants_count, constant_held}

module _ (bs : List ℕ) (ks : List (List ℕ)) (laid : ks ≡ constants_in bs) where
  -- a constant with a value, and one without
  module _ (c : ℕ) (f : Fraction) (d : List ℕ) (so_far : first_below (constant_refusal bs) c ≡ None) (h : c < length ks) (e : f ≡ fraction_at (get_or ks c d) 0) where
    before_end : c < constant_count bs
    before_end = let n = constants_count bs ks laid in omega arith

    tested : constant_refusal bs c ≡ unless (is_some (value f)) (clearing_refusal (Valueless c)) None
    tested = ap (λ g. unless (is_some (value g)) (clearing_refusal (Valueless c)) None) (sym (e ∙ constant_held bs ks laid c d before_end))

    pub valued_next : is_some (value f) ≡ true → first_below (constant_refusal bs) (c + 1) ≡ None
    valued_next v = below_next (constant_refusal bs) c None so_far (tested ∙ ap (λ b. unless b (clearing_refusal (Valueless c)) None) v)

    pub valueless : is_some (value f) ≡ false → constants_refusal bs ≡ Some (clearing_refusal (Valueless c))
    valueless v =
        let n = below_next (constant_refusal bs) c (Some (clearing_refusal (Valueless c))) so_far (tested ∙ ap (λ b. unless b (clearing_refusal (Valueless c)) None) v) in
        let h = before_end in
        below_later (constant_refusal bs) (c + 1) (constant_count bs) _ n (omega arith)

  pub all_valued : (c : ℕ) → first_below (constant_refusal bs) c ≡ None → length ks ≡ c → constants_refusal bs ≡ None
  all_valued c s e = subst (λ n. first_below (constant_refusal bs) n ≡ None) (sym e ∙ constants_count bs ks laid) s
