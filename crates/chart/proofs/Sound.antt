-- What is known of the parts of a chart.
use Rattle.std.proofs.Common.{◌≡◌, ℕ, zero, suc, ◌<◌, Bool, true, eqb, ltb, List, [], ◌∷◌, length, is_some, IfSome, Some, None, Option, sym, refl, ap, ◌∙◌, subst, inl, inr, arith}
use Rattle.std.specs.Option.{option_map}
use Rattle.std.specs.List.{AllByRecursion, slice_get, list_all}
use Rattle.std.proofs.lemmas.List.{length-take}
use Rattle.std.proofs.lemmas.Option.{slice_get_past}
use Rattle.std.proofs.lemmas.Bool.{and_parts, ltb-true, eq-eqb, not-true, both_ways, false≢true, cases_lt}
use Rattle.chart.specs.declared.parts.Attribute.{Attribute}
use Rattle.chart.specs.declared.parts.Link.{Link}
use Rattle.chart.specs.declared.state.Chart.{Chart}
use Rattle.chart.specs.Layout.{proper, crosses, differ, relation_in}
use Rattle.chart.specs.Charts.{layout}
use Rattle.chart.specs.Sound.{Sound}

pub all_at : {X : Type 0} (p : X → Bool) (xs : List X) → list_all p xs ≡ true → (k : ℕ) → IfSome (slice_get xs k) (λ x. p x ≡ true)
all_at p [] h k = tt
all_at p (y ∷ ys) h zero = (and_parts (p y) (list_all p ys) h).0
all_at p (y ∷ ys) h (suc k) = all_at p ys (and_parts (p y) (list_all p ys) h).1 k

-- each element passes, so what a passing test tells holds of each
pub all_told : {X : Type 0} (p : X → Bool) (P : X → Type 0) → ((x : X) → p x ≡ true → P x) → (xs : List X) → list_all p xs ≡ true → AllByRecursion P xs
all_told p P tells [] h = tt
all_told p P tells (x ∷ xs) h = let b = and_parts (p x) (list_all p xs) h in (tells x b.0, all_told p P tells xs b.1)

told_more : {X : Type 0} (o : Option X) (P Q : X → Type 0) → ((x : X) → P x → Q x) → IfSome o P → IfSome o Q
told_more None P Q more h = tt
told_more (Some x) P Q more h = more x h

differ_tells : (o p : Option ℕ) → differ o p ≡ true → (is_some o ≡ true) × (is_some p ≡ true) × (o ≡ p → ⊥)
differ_tells None p h = absurd (false≢true h)
differ_tells (Some r) None h = absurd (false≢true h)
differ_tells (Some r) (Some s) h = (refl, refl, λ e. let same : r ≡ s = cc in both_ways (eqb r s) (not-true (eqb r s) h) (eq-eqb r s same))

-- an attribute with a relation is known
relation_known : (xs : List Attribute) (a : ℕ) → is_some (relation_in xs a) ≡ true → a < length xs
relation_known xs a h =
    elim (cases_lt a (length xs)) [
      | inl below ↦ below
      | inr past ↦ absurd (false≢true (sym (ap (λ o. is_some (option_map (λ (x : Attribute). x.relation) o)) (slice_get_past xs a past)) ∙ h))
    ]

-- what crossing tells
pub crosses_tells : (xs : List Attribute) (a b : ℕ) → crosses xs a b ≡ true → (a < length xs) × (b < length xs) × (relation_in xs a ≡ relation_in xs b → ⊥)
crosses_tells xs a b h =
    let t = differ_tells (relation_in xs a) (relation_in xs b) h in
    (relation_known xs a t.0, relation_known xs b t.1, t.2)

module _ (c : Chart) where
  pub relations_length : length (layout c).homes ≡ c.relation_count
  relations_length = omega (arith, length-take c.relation_count c.homes, c.sized.0, c.counted.0)

  pub attributes_length : length (layout c).attributes ≡ c.attribute_count
  attributes_length = omega (arith, length-take c.attribute_count c.attributes, c.sized.1, c.counted.1)

  pub links_length : length (layout c).links ≡ c.link_count
  links_length = omega (arith, length-take c.link_count c.links, c.sized.2, c.counted.2)

  pub crossing : (k : ℕ) → IfSome (slice_get (layout c).links k) (λ x. crosses (layout c).attributes x.left x.right ≡ true)
  crossing k = all_at (λ x. crosses (layout c).attributes x.left x.right) (layout c).links c.crossed k

  pub chart_sound : Sound (layout c)
  chart_sound = record {
    some_server = c.manned.0;
    few_servers = c.manned.1;
    few_relations = omega (arith, relations_length, c.counted.0);
    few_attributes = omega (arith, attributes_length, c.counted.1);
    few_links = omega (arith, links_length, c.counted.2);
    homed = all_told (λ s. ltb s c.servers) (λ s. s < c.servers) (λ s h. ltb-true s c.servers h) (layout c).homes c.homed;
    owned = all_told (proper c.relation_count) (λ x. (x.relation < length (layout c).homes) × (0 < x.width))
        (λ x h. let p = and_parts (ltb x.relation c.relation_count) (ltb 0 x.width) h in
        (omega (arith, ltb-true x.relation c.relation_count p.0, relations_length), ltb-true 0 x.width p.1))
        (layout c).attributes c.owned;
    crossed = all_told (λ x. crosses (layout c).attributes x.left x.right)
        (λ x. (x.left < length (layout c).attributes) × (x.right < length (layout c).attributes) × (relation_in (layout c).attributes x.left ≡ relation_in (layout c).attributes x.right → ⊥))
        (λ x h. crosses_tells (layout c).attributes x.left x.right h) (layout c).links c.crossed;
  }

  -- an attribute belongs to one of the first 32 relations
  pub attribute_bound : (a : ℕ) → IfSome (slice_get (layout c).attributes a) (λ x. x.relation < 32)
  attribute_bound a =
      told_more (slice_get (layout c).attributes a) (λ x. proper c.relation_count x ≡ true) (λ x. x.relation < 32)
      (λ x h. omega (arith, ltb-true x.relation c.relation_count (and_parts (ltb x.relation c.relation_count) (ltb 0 x.width) h).0, c.counted.0))
      (all_at (proper c.relation_count) (layout c).attributes c.owned a)

  -- the ends of a link are below 64
  pub link_bound : (k : ℕ) → IfSome (slice_get (layout c).links k) (λ x. (x.left < 64) × (x.right < 64))
  link_bound k =
      told_more (slice_get (layout c).links k) (λ x. crosses (layout c).attributes x.left x.right ≡ true) (λ x. (x.left < 64) × (x.right < 64))
      (λ x h. let t = crosses_tells (layout c).attributes x.left x.right h in (omega (arith, t.0, attributes_length, c.counted.1), omega (arith, t.1, attributes_length, c.counted.1)))
      (crossing k)

  -- and so is a known link's number
  pub link_known : (k : ℕ) → is_some (slice_get (layout c).links k) ≡ true → k < 64
  link_known k h =
      elim (cases_lt k 64) [
        | inl below ↦ below
        | inr past ↦ absurd (false≢true (sym (ap is_some (slice_get_past (layout c).links k (omega (arith, links_length, c.counted.2)))) ∙ h))
      ]

  -- a link that is found, and its number
  pub link_found : (k : ℕ) (x : Link) → slice_get (layout c).links k ≡ Some x → (k < 64) × (x.left < 64) × (x.right < 64)
  link_found k x found =
      let P : Option Link → Type 0 = λ o. IfSome o (λ x. (x.left < 64) × (x.right < 64)) in
      let ends : (x.left < 64) × (x.right < 64) = subst P found (link_bound k) in
      (link_known k (ap is_some found), ends.0, ends.1)
