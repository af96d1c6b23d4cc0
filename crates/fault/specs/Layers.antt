-- The names of the layers, as they are printed. Assumes nothing.
use Rattle.std.specs.Prelude.{ℕ, List, codes}
use Rattle.fault.specs.declared.Layer.{Layer}
use Rattle.fault.specs.declared.Layer.TheVariants.{Filing, Clearing, Pad, Scale, Program}

abbrev pub layer_name : Layer → List ℕ
layer_name Filing = codes "filing"
layer_name Clearing = codes "clearing"
layer_name Pad = codes "pad"
layer_name Scale = codes "scale"
layer_name Program = codes "program"
