-- The laws of charts.
use Rattle.std.proofs.Common.{◌≡◌, ℕ, zero, suc, ◌+◌, ◌<◌, Bool, true, false, cond, ◌||◌, eqb, List, [], ◌∷◌, Some, None, Decides, Option, sym, ap, ◌∙◌, arith}
use Rattle.std.specs.Option.{option_map}
use Rattle.std.specs.List.{slice_get}
use Rattle.std.proofs.lemmas.Bool.{eqb-true, eq-eqb, ne_eqb, false≢true}
use Rattle.sets.specs.Sets.{has, single, union}
use Rattle.sets.proofs.Sets.{union_has, single_has}
use Rattle.sets.proofs.Bits.{bit_none}
use Rattle.chart.specs.declared.parts.Attribute.{Attribute}
use Rattle.chart.specs.Layout.{Layout, relation_of}
use Rattle.chart.specs.Lookup.{places, attributes_of}
use Rattle.chart.specs.Sound.{Laws}
use Rattle.chart.proofs.Sound.{chart_sound}
use Rattle.chart.proofs.Lines.{grade_both_ways, grade_bare}

-- whether the element is there and passes
abbrev passing : {X : Type 0} → (X → Bool) → Option X → Bool
passing p None = false
passing p (Some x) = p x

-- a place is among those found exactly when the element there passes
module _ {X : Type 0} (p : X → Bool) where
  places_below : (from : ℕ) (xs : List X) (i : ℕ) → i < from → has (places p from xs) i ≡ false
  places_below from [] i below = bit_none i
  places_below from (x ∷ xs) i below = go (p x) (places_below (from + 1) xs i (omega arith))
    where
      go : (b : Bool) → has (places p (from + 1) xs) i ≡ false → has (cond b (union (single from) (places p (from + 1) xs)) (places p (from + 1) xs)) i ≡ false
      go true rest = union_has (single from) (places p (from + 1) xs) i ∙ ap (λ b. b || has (places p (from + 1) xs) i) (single_has from i ∙ ne_eqb from i (λ e. omega arith)) ∙ rest
      go false rest = rest

  places_at : (from : ℕ) (xs : List X) (k : ℕ) → has (places p from xs) (from + k) ≡ passing p (slice_get xs k)
  places_at from [] k = bit_none (from + k)
  places_at from (x ∷ xs) zero = go (p x) (places_below (from + 1) xs (from + 0) (omega arith))
    where
      go : (b : Bool) → has (places p (from + 1) xs) (from + 0) ≡ false → has (cond b (union (single from) (places p (from + 1) xs)) (places p (from + 1) xs)) (from + 0) ≡ b
      go true rest = union_has (single from) (places p (from + 1) xs) (from + 0) ∙ ap (λ b. b || has (places p (from + 1) xs) (from + 0)) (single_has from (from + 0) ∙ eq-eqb from (from + 0) (omega arith))
      go false rest = rest
  places_at from (x ∷ xs) (suc k) =
      let e : from + suc k ≡ from + 1 + k = omega arith in
      ap (has (cond (p x) (union (single from) (places p (from + 1) xs)) (places p (from + 1) xs))) e ∙ go (p x) (places_at (from + 1) xs k)
    where
      go : (b : Bool) → has (places p (from + 1) xs) (from + 1 + k) ≡ passing p (slice_get xs k)
          → has (cond b (union (single from) (places p (from + 1) xs)) (places p (from + 1) xs)) (from + 1 + k) ≡ passing p (slice_get xs k)
      go true rest =
          union_has (single from) (places p (from + 1) xs) (from + 1 + k)
          ∙ ap (λ b. b || has (places p (from + 1) xs) (from + 1 + k)) (single_has from (from + 1 + k) ∙ ne_eqb from (from + 1 + k) (λ e. omega arith)) ∙ rest
      go false rest = rest

owner_decides : (r : ℕ) (o : Option Attribute) → Decides (passing (λ x. eqb x.relation r) o) (option_map (λ (x : Attribute). x.relation) o ≡ Some r)
owner_decides r None = (λ h. absurd (false≢true h), λ h. absurd (let z : ◌≡◌ {A = ℕ} 0 1 = cc in omega arith))
owner_decides r (Some x) = (λ h. ap Some (eqb-true x.relation r h), λ h. let e : x.relation ≡ r = cc in eq-eqb x.relation r e)

attributes_mean : (l : Layout) (r a : ℕ) → Decides (has (attributes_of l r) a) (relation_of l a ≡ Some r)
attributes_mean l r a =
    let e : 0 + a ≡ a = omega arith in
    let at = sym (ap (has (attributes_of l r)) e) ∙ places_at (λ x. eqb x.relation r) 0 l.attributes a in
    let d = owner_decides r (slice_get l.attributes a) in
    (λ h. d.0 (sym at ∙ h), λ h. at ∙ d.1 h)

pub laws_hold : Laws
laws_hold = record {
  charts_sound = chart_sound;
  attributes_mean = attributes_mean;
  both_ways = grade_both_ways;
  public_unless_set = grade_bare;
}
