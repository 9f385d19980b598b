-- The questions for denials and for a carrier.
use Rattle.std.specs.Prelude.{ℕ, ◌+◌, Bool, not, ◌&&◌, List, [], ◌∷◌, ◌++◌, Some, None, Ok, Err, Option, Result, nat_lt}
use Rattle.sets.specs.Sets.{none, same}
use Rattle.chart.specs.Questions.{asked}
use Rattle.chart.specs.Layout.{Layout, server_known}
use Rattle.chart.specs.Lookup.{attributes_known}
use Rattle.layers.specs.declared.denial.Denial.{Denial}
use Rattle.layers.specs.declared.refusal.LayerRefusal.{LayerRefusal}
use Rattle.layers.specs.declared.refusal.LayerRefusal.TheVariants.{Unfit, TooMany}

-- a known server, and known attributes, at least one
abbrev pub fit : Layout → Denial → Bool
fit l d = server_known l d.server && (attributes_known l d.attributes && not (same d.attributes none))

-- One more denial is asked whether it fits the chart (17), and whether fewer than 32 are held (18).
abbrev pub denial_questions : Layout → ℕ → Denial → List (Bool × LayerRefusal)
denial_questions l held d = (fit l d, Unfit) ∷ (nat_lt held 32, TooMany) ∷ []

abbrev pub denial_answer : Layout → ℕ → Denial → Result (Unit {0}) LayerRefusal
denial_answer l held d = asked (denial_questions l held d) tt

-- denials in their order, each with one more held than the one before
abbrev pub denials_questions : Layout → ℕ → List Denial → List (Bool × LayerRefusal)
denials_questions l held [] = []
denials_questions l held (d ∷ ds) = denial_questions l held d ++ denials_questions l (held + 1) ds

-- the first refusal in the order of the denials
abbrev pub denials_answer : Layout → List Denial → Result (Unit {0}) LayerRefusal
denials_answer l ds = asked (denials_questions l 0 ds) tt

-- a carrier is a server of the chart; else refused (17)
abbrev pub carrier_answer : Layout → Option ℕ → Result (Unit {0}) LayerRefusal
carrier_answer l None = Ok tt
carrier_answer l (Some s) = asked ((server_known l s, Unfit) ∷ []) tt

-- whether a layer was made, and why not
abbrev pub verdict : {T : Type 0} → Result T LayerRefusal → Result (Unit {0}) LayerRefusal
verdict (Ok t) = Ok tt
verdict (Err e) = Err e
