-- What a refusal tells. Assumes nothing.
use Rattle.std.specs.Prelude.{ℕ, List, ◌++◌, codes, decimal}
use Rattle.fault.specs.declared.Layer.{Layer}
use Rattle.fault.specs.declared.Refusal.{Refusal}
use Rattle.fault.specs.Layers.{layer_name}

-- the layer that refuses, the number of the broken rule, and where it is broken
abbrev pub refused : Layer → ℕ → ℕ → Refusal
refused l n p = record { layer = l; number = n; place = p }

-- as it is printed
abbrev pub refusal_name : Refusal → List ℕ
refusal_name r = codes "refused " ++ (decimal r.number ++ (codes " " ++ (layer_name r.layer ++ (codes " " ++ decimal r.place))))
