use Rattle.std.proofs.Common.{inl, inr, ⊎_elim}
use Rattle.range.proofs.Codes.{hull_same}
use Rattle.range.proofs.order.pick.Goals as goal

pub returns-in-Certain : goal.returns-in-Certain
returns-in-Certain g c = rw c.in-Certain.is (hull_same (λ z h. inl (tt, h)) (λ z h. ⊎_elim (λ k. k.1) (λ k. absurd k.0) h) c.copy.ensures.hull)

pub returns-in-Impossible : goal.returns-in-Impossible
returns-in-Impossible g c = rw c.in-Impossible.is (hull_same (λ z h. inr (tt, h)) (λ z h. ⊎_elim (λ k. absurd k.0) (λ k. k.1) h) c.copy-in-Impossible.ensures.hull)

pub returns-in-Open : goal.returns-in-Open
returns-in-Open g c = rw c.in-Open.is (hull_same (λ z h. ⊎_elim (λ k. inl (tt, k)) (λ k. inr (tt, k)) h) (λ z h. ⊎_elim (λ k. inl k.1) (λ k. inr k.1) h) c.join.ensures)
