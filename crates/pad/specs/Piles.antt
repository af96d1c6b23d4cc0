-- What a pile is to its callers. Assumes nothing.
use Rattle.std.specs.Prelude.{ℕ, List}

pub record Stack (A : Type 0) : Type 0 where
  -- the values, the newest first
  pub held : List A
  -- how many it can hold
  pub room : ℕ
