-- What a fold over a set's numbers gives.
use Rattle.std.proofs.Common.{◌≡◌, ℕ, refl}
use denote.Param.Members.{Mut}
use Rattle.std.specs.Fn.{Called}
use Rattle.std.specs.Iterator.{YieldsFirst, FoldsItems}
use Rattle.std.specs.List.{fold}
use Rattle.std.proofs.lemmas.Iterator.Consumers.{fold_from_yields_List, YieldsList-from_first}
use Rattle.sets.specs.declared.elements.Elements.{Elements}
use Rattle.sets.specs.Elements.{rest}

-- the fold of what the closure computes, over the numbers that are left
pub elements_folded : {C F : Type 0} (g : Mut F (C × (ℕ × Unit {0})) C) (h : C → ℕ → C) (numbers : Elements) (call : F) (from result : C)
    → FoldsItems (YieldsFirst rest) g numbers call from result
    → ((a : C) (x : ℕ) (b : C) (q : F) → Called g call (a, (x, tt)) b q → (q ≡ call) × (b ≡ h a x))
    → result ≡ fold h from (rest numbers)
elements_folded g h numbers call from result ran computes =
    fold_from_yields_List g h from result ran (YieldsList-from_first (λ x. x) rest (rest numbers) refl) computes
