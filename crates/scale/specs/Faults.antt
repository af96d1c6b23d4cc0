-- The refusals of the layer scale. Assumes nothing.
use Rattle.std.specs.Prelude.{ℕ, cond, ◌&&◌, Some, None, Option, nat_le}
use Rattle.fault.specs.declared.Layer.TheVariants.{Scale}
use Rattle.fault.specs.declared.Refusal.{Refusal}
use Rattle.fault.specs.Told.{refused}
use Rattle.scale.specs.declared.faults.ScaleFault.{ScaleFault}
use Rattle.scale.specs.declared.faults.ScaleFault.TheVariants.{Division}

-- 12: a division of 0 or over 65536 (place: the division)
abbrev pub scale_refusal : ScaleFault → Refusal
scale_refusal (Division d) = refused Scale 12 d

-- the rule that a division breaks
abbrev pub division_refusal : ℕ → Option Refusal
division_refusal d = cond (nat_le 1 d && nat_le d 65536) None (Some (scale_refusal (Division d)))
