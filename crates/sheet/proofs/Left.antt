-- What is left of a list from an index on. Assumes nothing.
use Rattle.std.proofs.Common.{◌≡◌, ℕ, zero, suc, ◌+◌, List, [], ◌∷◌, drop, Some, None, refl, arith}
use Rattle.std.specs.List.{slice_get}
use Rattle.std.proofs.lemmas.List.{drop_more}
use Rattle.std.proofs.lemmas.Option.{get_or_from_slice_get, slice_get_within}

pub left_more : {X : Type 0} (xs : List X) (i : ℕ) (x : X) → slice_get xs i ≡ Some x → drop i xs ≡ x ∷ drop (i + 1) xs
left_more xs i x e = let h = slice_get_within xs i x e in let g = get_or_from_slice_get xs i x x e in rw (drop_more xs i x h, g)

pub left_none : {X : Type 0} (xs : List X) (i : ℕ) → slice_get xs i ≡ None → drop i xs ≡ []
left_none [] zero e = refl
left_none [] (suc i) e = refl
left_none (x ∷ xs) zero e = grind arith
left_none (x ∷ xs) (suc i) e = left_none xs i e
