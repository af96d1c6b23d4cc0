-- The instruction at an index, as a cleared sheet reads it. Assumes nothing.
use Rattle.std.proofs.Common.{◌≡◌, ℕ, ◌<◌, ◌≤◌, true, false, List, length, get_or, is_some, Some, None, Ok, Err, Option, Result, sym, refl, ap, ◌∙◌, subst, arith}
use Rattle.std.specs.Prelude.{MatchResult}
use Rattle.std.specs.Result.{IsOk}
use Rattle.std.proofs.lemmas.Bool.{ltb-true}
use Rattle.std.proofs.lemmas.Option.{slice_get_past}
use Rattle.std.specs.List.{slice_get}
use Rattle.number.specs.declared.Fraction.{Fraction}
use Rattle.sheet.specs.declared.operation.Operation.{Operation}
use Rattle.sheet.specs.declared.operation.Operation.TheVariants.{Constant}
use Rattle.sheet.specs.Operations.{allowed, shape, operation_of}
use Rattle.sheet.specs.Files.{fraction_at, constant, constant_count, instruction_count, operation_at, argument_at, constants_in, instructions_in}
use Rattle.sheet.specs.Instructions.{named, with_argument, instructions}
use Rattle.sheet.specs.Clearing.{clearing}
use Rattle.sheet.proofs.Chunks.{constants_count, constant_held, instructions_count, operation_held, argument_held}
use Rattle.sheet.proofs.Listing.{operation_there, instructions_nth}
use Rattle.sheet.proofs.Unbroken.{unbroken, ruled_at}
use Rattle.sheet.proofs.Laws.{count_from}

-- an operation that names no constant is named alike by each
named_alike : (o : Operation) (a : ℕ) (f g : Fraction) → (o ≡ Constant → f ≡ g) → named o a f ≡ named o a g
named_alike o a f g h = grind arith

module _ (bs : List ℕ) (cleared : is_some (clearing bs) ≡ false) (ks ps : List (List ℕ)) (constants_laid : ks ≡ constants_in bs) (instructions_laid : ps ≡ instructions_in bs) (i : ℕ) where
  pub past : length ps ≤ i → slice_get (instructions bs) i ≡ None
  past h = let n = instructions_count bs ps instructions_laid in let m = count_from bs cleared in slice_get_past (instructions bs) i (omega arith)

  module _ (d : List ℕ) (h : i < length ps) where
    before_end : i < instruction_count bs
    before_end = let n = instructions_count bs ps instructions_laid in omega arith

    read : operation_of (get_or (get_or ps i d) 0 0) ≡ operation_at bs i
    read = operation_held bs ps instructions_laid i d before_end

    -- its operation is known
    pub known : {E : Type 0} (p : List ℕ) → get_or ps i d ≡ p → (r : Result Operation E) → MatchResult r (λ o. operation_of (get_or p 0 0) ≡ Some o) (λ _. operation_of (get_or p 0 0) ≡ None) → IsOk r
    known p s (Ok o) m = refl
    known p s (Err e) m = let o = operation_there bs (unbroken bs cleared) i before_end in let z : ◌≡◌ {A = Option Operation} (Some o.0) None = sym o.1 ∙ sym read ∙ ap (λ q. operation_of (get_or q 0 0)) s ∙ m in absurd (grind arith)

    module _ (o : Operation) (e : operation_of (get_or (get_or ps i d) 0 0) ≡ Some o) where
      argument : get_or (get_or ps i d) 1 0 ≡ argument_at bs i
      argument = argument_held bs ps instructions_laid i d before_end

      -- its constant is there
      pub constant_there : o ≡ Constant → get_or (get_or ps i d) 1 0 < length ks
      constant_there c =
          let r = ruled_at bs cleared i o before_end (sym read ∙ e) in
          let a : allowed (shape Constant).argument (constant_count bs) (argument_at bs i) ≡ true = subst (λ o. allowed (shape o).argument (constant_count bs) (argument_at bs i) ≡ true) c r.argument in
          let l = ltb-true (argument_at bs i) (constant_count bs) a in
          let k = constants_count bs ks constants_laid in
          let b = argument in
          omega arith

      pub found : (f : List ℕ) → slice_get (instructions bs) i ≡ Some (named o (get_or (get_or ps i d) 1 0) (fraction_at (get_or ks (get_or (get_or ps i d) 1 0) f) 0))
      found f =
          let a = get_or (get_or ps i d) 1 0 in
          let b = argument in
          let k = constants_count bs ks constants_laid in
          let n : named o a (constant bs a) ≡ named o a (fraction_at (get_or ks a f) 0) = named_alike o a (constant bs a) (fraction_at (get_or ks a f) 0) (λ c. let l = constant_there c in sym (constant_held bs ks constants_laid a f (omega arith))) in
          instructions_nth bs (unbroken bs cleared) i before_end
          ∙ ap (λ p. with_argument p (argument_at bs i) (constant bs (argument_at bs i))) (sym read ∙ e)
          ∙ ap (λ m. Some (named o m (constant bs m))) (sym argument)
          ∙ ap (λ x. Some x) n
