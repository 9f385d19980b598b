-- A set that is collected from sets, one for each number of a set.
use Rattle.std.proofs.Common.{◌≡◌, ℕ, List, [], ◌∷◌, sym, ap, ◌∙◌}
use denote.Param.Members.{Mut}
use Rattle.std.specs.Fn.{Called}
use Rattle.std.specs.Iterator.{YieldsFirst, FoldsItems}
use Rattle.std.specs.List.{fold}
use Rattle.sets.specs.declared.small_set.SmallSet.{SmallSet}
use Rattle.sets.specs.declared.elements.Elements.{Elements}
use Rattle.sets.specs.Elements.{rest}
use Rattle.sets.specs.Sets.{none, union}
use Rattle.sets.proofs.Sets.{union_assoc, union_none, union_comm}
use Rattle.sets.proofs.Folds.{elements_folded}
use Rattle.rules.specs.Relations.{gather}

fold_gather : (f : ℕ → SmallSet) (from : SmallSet) (xs : List ℕ) → fold (λ found x. union found (f x)) from xs ≡ union from (gather f xs)
fold_gather f from [] = sym (union_none from)
fold_gather f from (x ∷ xs) = fold_gather f (union from (f x)) xs ∙ union_assoc from (f x) (gather f xs)

-- a fold over a set's numbers, whose closure adds what f gives for each
pub gathered : {F : Type 0} (g : Mut F (SmallSet × (ℕ × Unit {0})) SmallSet) (f : ℕ → SmallSet) (numbers : Elements) (call : F) (from found : SmallSet)
    → FoldsItems (YieldsFirst rest) g numbers call from found
    → ((s : SmallSet) (x : ℕ) (t : SmallSet) (q : F) → Called g call (s, (x, tt)) t q → (q ≡ call) × (t ≡ union s (f x)))
    → found ≡ union from (gather f (rest numbers))
gathered g f numbers call from found ran adds =
    elements_folded g (λ s x. union s (f x)) numbers call from found ran adds ∙ fold_gather f from (rest numbers)

-- from the empty set on
pub gathered_all : (f : ℕ → SmallSet) (xs : List ℕ) (from found : SmallSet) → found ≡ union from (gather f xs) → from ≡ none → found ≡ gather f xs
gathered_all f xs from found whole empty = whole ∙ ap (λ s. union s (gather f xs)) empty ∙ union_comm none (gather f xs) ∙ union_none (gather f xs)
