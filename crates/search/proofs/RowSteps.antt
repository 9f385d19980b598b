-- A row of the table, place by place.
use Rattle.std.proofs.Common.{◌≡◌, ℕ, ◌+◌, ◌*◌, ◌<◌, ◌≤◌, Bool, List, [], ◌∷◌, length, get_or, set, None, Option, refl, ap, ◌∙◌, arith, length-set, below_more}
use Rattle.std.specs.List.{AllByRecursion}
use Rattle.std.proofs.lemmas.List.{get_or-set_same, get_or-set_other}
use Rattle.std.proofs.lemmas.Nat.{mul-le}
use Rattle.chart.specs.Layout.{Layout}
use Rattle.profile.specs.declared.shape.Profile.{Profile}
use Rattle.tariff.specs.Pricing.{Pricing}
use Rattle.queries.specs.declared.node.Node.{Node}
use Rattle.queries.specs.declared.node.Node.TheVariants.{Leaf, Project, Filter, Join}
use Rattle.queries.specs.Trees.{between}
use Rattle.queries.specs.Flat.{operands}
use Rattle.assignments.specs.declared.parts.Place.{Place}
use Rattle.assignments.specs.Table.{kept}
use Rattle.assignments.proofs.Options.{best_like}
use Rattle.search.specs.Rows.{place_at, place_from, Row}

-- a row ends before the next begins
pub row_ends : (j k n : ℕ) → j < k → j * n + n ≤ k * n
row_ends j k n h = let m = mul-le (j + 1) n k n (omega arith) (omega arith) in omega arith

module _ {P : Type 0} (n node : ℕ) (f : ℕ → Option (Place P)) (old : List (Option (Place P))) where
  -- nothing is written yet
  pub row_none : Row n node 0 f old old
  row_none = record { sized = refl; row = λ s h. absurd (omega arith); before = λ k h. refl; after = λ k h. refl }

  -- one more place of the row is written
  pub row_more : (i : ℕ) (t new : List (Option (Place P))) (x : Option (Place P)) → i < n → node * n + n ≤ length old → Row n node i f old t → new ≡ set t (node * n + i) x → x ≡ f i
      → Row n node (i + 1) f old new
  row_more i t new x below room r e here =
      let other : (k : ℕ) → (k ≡ node * n + i → ⊥) → get_or new k None ≡ get_or t k None = λ k ne. ap (λ ys. get_or ys k None) e ∙ get_or-set_other t (node * n + i) k x None ne in
      let sized = r.sized in
      record {
        sized = ap length e ∙ length-set t (node * n + i) x ∙ sized;
        row = below_more _ _ (λ s h. other (node * n + s) (λ q. omega arith) ∙ r.row s h) (ap (λ ys. get_or ys (node * n + i) None) e ∙ get_or-set_same t (node * n + i) x None (omega arith) ∙ here);
        before = λ k h. other k (λ q. omega arith) ∙ r.before k h;
        after = λ k h. other k (λ q. omega arith) ∙ r.after k h;
      }

  -- the places of earlier nodes stay
  pub row_earlier : (i : ℕ) (t : List (Option (Place P))) → Row n node i f old t → (j s : ℕ) → j < node → s < n → place_at t n j s ≡ place_at old n j s
  row_earlier i t r j s h b = r.before (j * n + s) (omega (arith, row_ends j node n h))

-- a node's place depends on those of its operands at known servers
pub place_like : {P : Type 0} (c : Pricing P) (may : ℕ → Profile → Bool) (n : ℕ) (l : Layout) (f : ℕ → Profile) (x : Node) (T U : ℕ → ℕ → Option (Place P)) (s : ℕ) → s < n
    → AllByRecursion (λ j. (u : ℕ) → u < n → T j u ≡ U j u) (operands x) → place_from c may n l f x T s ≡ place_from c may n l f x U s
place_like c may n l f (Leaf r) T U s b h = refl
place_like c may n l f (Project j a) T U s b h = ap (kept s) (h.0 s b)
place_like c may n l f (Filter j a) T U s b h = ap (kept s) (h.0 s b)
place_like c may n l f (Join a d k) T U s b h = best_like c may n (between l (f a) (f d) k) (T a) (T d) (U a) (U d) h.0 h.1.0 s b

all_kept : {P : Type 0} (n node : ℕ) (T U : ℕ → ℕ → Option (Place P)) → ((j u : ℕ) → j < node → u < n → T j u ≡ U j u) → (js : List ℕ) → AllByRecursion (λ j. j < node) js → AllByRecursion (λ j. (u : ℕ) → u < n → T j u ≡ U j u) js
all_kept n node T U h [] a = tt
all_kept n node T U h (j ∷ js) a = (λ u b. h j u a.0 b, all_kept n node T U h js a.1)

-- a turn of the loop over the servers of a row
pub row_turn : {P : Type 0} (c : Pricing P) (may : ℕ → Profile → Bool) (n : ℕ) (l : Layout) (f : ℕ → Profile) (x : Node) (node i : ℕ) (old t new : List (Option (Place P))) (p : Option (Place P))
    → AllByRecursion (λ j. j < node) (operands x) → i < n → node * n + n ≤ length old
    → Row n node i (place_from c may n l f x (place_at old n)) old t → p ≡ place_from c may n l f x (place_at t n) i → new ≡ set t (node * n + i) p
    → Row n node (i + 1) (place_from c may n l f x (place_at old n)) old new
row_turn c may n l f x node i old t new p earlier below room r e w =
    let F = place_from c may n l f x (place_at old n) in
    row_more n node F old i t new p below room r w
    (e ∙ place_like c may n l f x (place_at t n) (place_at old n) i below (all_kept n node (place_at t n) (place_at old n) (λ j u h b. row_earlier n node F old i t r j u h b) (operands x) earlier))
