-- The value of a written fraction. Assumes nothing.
--     value_some      a fraction with a value is p / q
--     higher_is       which of two is the higher, by cross multiplication
use Rattle.std.proofs.Common.{◌≡◌, ℕ, zero, suc, ◌<◌, ◌≤◌, Bool, true, false, cond, T, ltb, ℤ, pos, ◌*ℤ◌, is_some, Some, None, sym, refl, ap, subst, arith, ltb-true}
use lib.Signed.{lt_z}
use borrow.Author.Differences.{ints}
use Rattle.number.specs.declared.Fraction.{Fraction}
use Rattle.number.specs.Number.{Number, ◌≼◌, ◌≺◌, fraction, below}
use Rattle.number.specs.Fraction.{suc_positive, value_of, value, higher}

pub value_some : (p : ℤ) (q : ℕ) → is_some (value_of p q) ≡ true → (h : 0 < q) × (q ≤ 2147483647) × (value_of p q ≡ Some (fraction p q h))
value_some p zero e = absurd (let z : ◌≡◌ {A = ℕ} 0 1 = cc in omega arith)
value_some p (suc n) e = by (ltb n 2147483647) refl e
  where
    by : (t : Bool) → ltb n 2147483647 ≡ t → is_some (cond t (Some (fraction p (suc n) suc_positive)) None) ≡ true → (h : 0 < suc n) × (suc n ≤ 2147483647) × (value_of p (suc n) ≡ Some (fraction p (suc n) h))
    by true f g = (suc_positive, omega (arith, ltb-true n 2147483647 f), ap (λ (b : Bool). cond b (Some (fraction p (suc n) suc_positive)) None) f)
    by false f g = absurd (let z : ◌≡◌ {A = ℕ} 0 1 = cc in omega arith)

pub higher_is : (f g : Fraction) → is_some (value f) ≡ true → is_some (value g) ≡ true → higher (value f) (value g) ≡ lt_z (g.p *ℤ pos f.q) (f.p *ℤ pos g.q)
higher_is f g u v = let s = value_some f.p f.q u in let t = value_some g.p g.q v in λ i. higher (s.2 i) (t.2 i)

-- the test, and what it tells
pub below_true : {x y : Number} → below x y ≡ true → x ≺ y
below_true e = record { under = record { lt = subst T (sym e) tt } }

pub below_false : {x y : Number} → below x y ≡ false → y ≼ x
below_false {x} {y} e = record { not_above = omega (arith, ints) }
