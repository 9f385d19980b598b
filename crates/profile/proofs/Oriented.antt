-- What orienting a link means.
use Rattle.std.proofs.Common.{◌≡◌, ℕ, Bool, true, false, cond, ◌&&◌, ◌⊎◌, Some, None, Option, sym, refl, ap, ◌∙◌, inl, inr, arith}
use Rattle.std.specs.Option.{option_map}
use Rattle.std.specs.List.{slice_get}
use Rattle.std.proofs.lemmas.Bool.{and_parts, and_from, both_ways, eq-eqb}
use Rattle.sets.specs.declared.small_set.SmallSet.{SmallSet}
use Rattle.sets.specs.Sets.{has, subset}
use Rattle.sets.specs.Laws.{Within}
use Rattle.sets.proofs.Sets.{subset_has, has_subset, single_has}
use Rattle.chart.specs.declared.parts.Link.{Link}
use Rattle.chart.specs.Lookup.{ends}
use Rattle.profile.specs.Joins.{turned, turned_if}
use Rattle.profile.specs.Laws.{Fits, Apart, Laws}

-- both ends shown, each on its side
abbrev both : SmallSet → SmallSet → SmallSet → SmallSet → Bool
both a b left right = subset a left && subset b right

both_tells : (a b left right : SmallSet) → both a b left right ≡ true → Within a left × Within b right
both_tells a b left right h =
    let p = and_parts (subset a left) (subset b right) h in
    (subset_has a left p.0, subset_has b right p.1)

both_from : (a b left right : SmallSet) → Within a left → Within b right → both a b left right ≡ true
both_from a b left right p q = and_from (subset a left) (subset b right) (has_subset a left p) (has_subset b right q)

pair_parts : (p q : SmallSet × SmallSet) → Some p ≡ Some q → (p.0 ≡ q.0) × (p.1 ≡ q.1)
pair_parts p q h = let e : p ≡ q = cc in (ap (λ (z : SmallSet × SmallSet). z.0) e, ap (λ (z : SmallSet × SmallSet). z.1) e)

abbrev picked : Bool → Bool → SmallSet × SmallSet → Option (SmallSet × SmallSet)
picked s t e = cond s (Some (e.0, e.1)) (cond t (Some (e.1, e.0)) None)

-- a and b are the ends, in one order or the other
abbrev EndsAre : SmallSet × SmallSet → SmallSet → SmallSet → Type 0
EndsAre e a b = ((a ≡ e.0) × (b ≡ e.1)) ⊎ ((a ≡ e.1) × (b ≡ e.0))

module _ (e : SmallSet × SmallSet) (left right : SmallSet) where
  fits_from : (a b : SmallSet) → EndsAre e a b → both a b left right ≡ true → Fits e left right a b
  fits_from a b ends h = let t = both_tells a b left right h in record { ends_are = ends; on_left = t.0; on_right = t.1 }

  turned_fits : (a b : SmallSet) → turned e left right ≡ Some (a, b) → Fits e left right a b
  turned_fits a b h = go (both e.0 e.1 left right) refl (both e.1 e.0 left right) refl h
    where
      go : (s : Bool) → both e.0 e.1 left right ≡ s → (t : Bool) → both e.1 e.0 left right ≡ t → picked s t e ≡ Some (a, b) → Fits e left right a b
      go true f t g k =
          let w = pair_parts (e.0, e.1) (a, b) k in
          fits_from a b (inl (sym w.0, sym w.1)) (ap (λ x. both x b left right) (sym w.0) ∙ ap (λ y. both e.0 y left right) (sym w.1) ∙ f)
      go false f true g k =
          let w = pair_parts (e.1, e.0) (a, b) k in
          fits_from a b (inr (sym w.0, sym w.1)) (ap (λ x. both x b left right) (sym w.0) ∙ ap (λ y. both e.1 y left right) (sym w.1) ∙ g)
      go false f false g k = absurd (let z : ◌≡◌ {A = ℕ} 0 1 = cc in omega arith)

  turned_none : (a b : SmallSet) → turned e left right ≡ None → Fits e left right a b → ⊥
  turned_none a b h fits = go (both e.0 e.1 left right) refl (both e.1 e.0 left right) refl h fits.ends_are (both_from a b left right fits.on_left fits.on_right)
    where
      go : (s : Bool) → both e.0 e.1 left right ≡ s → (t : Bool) → both e.1 e.0 left right ≡ t → picked s t e ≡ None → EndsAre e a b → both a b left right ≡ true → ⊥
      go true f t g k w shown = let z : ◌≡◌ {A = ℕ} 0 1 = cc in omega arith
      go false f true g k w shown = let z : ◌≡◌ {A = ℕ} 0 1 = cc in omega arith
      go false f false g k (inl w) shown =
          both_ways (both e.0 e.1 left right) f (ap (λ x. both x e.1 left right) (sym w.0) ∙ ap (λ y. both a y left right) (sym w.1) ∙ shown)
      go false f false g k (inr w) shown =
          both_ways (both e.1 e.0 left right) g (ap (λ x. both x e.0 left right) (sym w.0) ∙ ap (λ y. both a y left right) (sym w.1) ∙ shown)

  -- an end that has a member cannot be shown on both sides
  cross : Apart left right → (x : SmallSet) (i : ℕ) → has x i ≡ true → Within x left → Within x right → ⊥
  cross apart x i h p q = apart i (p i h) (q i h)

  turned_once : Apart left right → (i : ℕ) → has e.1 i ≡ true → (a b c d : SmallSet) → Fits e left right a b → Fits e left right c d → (a ≡ c) × (b ≡ d)
  turned_once apart i h a b c d first second = go first.ends_are second.ends_are
    where
      go : EndsAre e a b → EndsAre e c d → (a ≡ c) × (b ≡ d)
      go (inl v) (inl w) = (v.0 ∙ sym w.0, v.1 ∙ sym w.1)
      go (inr v) (inr w) = (v.0 ∙ sym w.0, v.1 ∙ sym w.1)
      go (inl v) (inr w) = absurd (cross apart e.1 i h (λ k m. second.on_left k (ap (λ x. has x k) w.0 ∙ m)) (λ k m. first.on_right k (ap (λ x. has x k) v.1 ∙ m)))
      go (inr v) (inl w) = absurd (cross apart e.1 i h (λ k m. first.on_left k (ap (λ x. has x k) v.0 ∙ m)) (λ k m. second.on_right k (ap (λ x. has x k) w.1 ∙ m)))

-- the second end of a known link has a member
end_member : (o : Option Link) (e : SmallSet × SmallSet) → option_map ends o ≡ Some e → (i : ℕ) × (has e.1 i ≡ true)
end_member None e h = absurd (let z : ◌≡◌ {A = ℕ} 0 1 = cc in omega arith)
end_member (Some x) e h =
    let w = pair_parts (ends x) e h in
    (x.right, ap (λ s. has s x.right) (sym w.1) ∙ single_has x.right x.right ∙ eq-eqb x.right x.right refl)

pub laws_hold : Laws
laws_hold = record {
  unknown = λ l left right link h. ap (λ o. turned_if o left right) h;
  answered = λ l left right link e a b known h. turned_fits e left right a b (sym (ap (λ o. turned_if o left right) known) ∙ h);
  refused = λ l left right link e a b known h. turned_none e left right a b (sym (ap (λ o. turned_if o left right) known) ∙ h);
  one_way = λ l left right link e a b c d known apart first second.
      let m = end_member (slice_get l.links link) e known in turned_once e left right apart m.0 m.1 a b c d first second;
}
