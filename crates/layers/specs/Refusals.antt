-- The number of each refusal of a layer. Both are of layer C, the chart; their place is always 0.
use Rattle.std.specs.Prelude.{ℕ}
use Rattle.layers.specs.declared.refusal.LayerRefusal.{LayerRefusal}
use Rattle.layers.specs.declared.refusal.LayerRefusal.TheVariants.{Unfit, TooMany}

abbrev pub refusal_number : LayerRefusal → ℕ
refusal_number Unfit = 17
refusal_number TooMany = 18
