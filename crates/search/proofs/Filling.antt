-- The table, row by row.
use Rattle.std.proofs.Common.{◌≡◌, ℕ, ◌+◌, ◌*◌, ◌<◌, Bool, List, [], ◌∷◌, is_some, Option, sym, refl, ap, ◌∙◌, ap₂, ⊎_elim, arith}
use Rattle.std.specs.List.{AllByRecursion}
use Rattle.std.proofs.lemmas.Bool.{cases_lt}
use Rattle.chart.specs.Layout.{Layout}
use Rattle.profile.specs.declared.shape.Profile.{Profile}
use Rattle.profile.specs.Joins.{orient_answer}
use Rattle.tariff.specs.Pricing.{Pricing}
use Rattle.queries.specs.declared.node.Node.{Node}
use Rattle.queries.specs.declared.node.Node.TheVariants.{Leaf, Project, Filter, Join}
use Rattle.queries.specs.Trees.{Tree, between}
use Rattle.queries.specs.Flat.{node, operands, grow, tree_of}
use Rattle.queries.specs.Questions.{node_profile}
use Rattle.queries.specs.Sound.{Placed}
use Rattle.queries.proofs.Flat.{tree_step}
use Rattle.assignments.specs.declared.parts.Place.{Place}
use Rattle.assignments.specs.Table.{best, place}
use Rattle.search.specs.Rows.{place_at, place_from, Row, Filled}
use Rattle.search.specs.Sources.{Joinable}
use Rattle.search.proofs.RowSteps.{row_ends, place_like}

-- the operands of a node, with what is known of each node before it
pub all_before : (Q : ℕ → Type 0) (i : ℕ) → ((j : ℕ) → j < i → Q j) → (js : List ℕ) → AllByRecursion (λ j. j < i) js → AllByRecursion Q js
all_before Q i h [] a = tt
all_before Q i h (j ∷ js) a = (h j a.0, all_before Q i h js a.1)

-- a node's place, by the right profiles
profiles_like : {P : Type 0} (c : Pricing P) (may : ℕ → Profile → Bool) (n : ℕ) (l : Layout) (f g : ℕ → Profile) (x : Node) (T : ℕ → ℕ → Option (Place P)) (s : ℕ) → AllByRecursion (λ j. f j ≡ g j) (operands x)
    → place_from c may n l f x T s ≡ place_from c may n l g x T s
profiles_like c may n l f g (Leaf r) T s h = refl
profiles_like c may n l f g (Project j a) T s h = refl
profiles_like c may n l f g (Filter j a) T s h = refl
profiles_like c may n l f g (Join a b k) T s h = ap₂ (λ (p q : Profile). best c may n (between l p q k) (T a) (T b) s) h.0 h.1.0

-- and by the operands' subtrees: the place of its own subtree
place_grown : {P : Type 0} (c : Pricing P) (may : ℕ → Profile → Bool) (n : ℕ) (l : Layout) (nodes : List Node) (i : ℕ) (x : Node) (s : ℕ)
    → place_from c may n l (node_profile l nodes) x (λ j. place c may n l (tree_of nodes j)) s ≡ place c may n l (grow (tree_of nodes) i x) s
unfolding node_profile
place_grown c may n l nodes i (Leaf r) s = refl
place_grown c may n l nodes i (Project j a) s = refl
place_grown c may n l nodes i (Filter j a) s = refl
place_grown c may n l nodes i (Join a b k) s = refl

module _ {P : Type 0} (c : Pricing P) (may : ℕ → Profile → Bool) (l : Layout) (nodes : List Node) (old : List (Option (Place P))) where
  pub filled_none : Filled c may l nodes 0 old old
  filled_none = record { sized = refl; rows = λ k s h b. absurd (omega arith); later = λ k h. refl }

  -- one more row is filled
  pub filled_more : (f : ℕ → Profile) (i : ℕ) (t new : List (Option (Place P))) → AllByRecursion (λ j. j < i) (operands (node nodes i)) → ((k : ℕ) → k < i → f k ≡ node_profile l nodes k)
      → Filled c may l nodes i old t → Row l.servers i l.servers (place_from c may l.servers l f (node nodes i) (place_at t l.servers)) t new → Filled c may l nodes (i + 1) old new
  filled_more f i t new earlier known filled r =
      let n = l.servers in
      let x = node nodes i in
      let here : (s : ℕ) → s < n → place_at new n i s ≡ place c may n l (tree_of nodes i) s =
      λ s b. r.row s b
      ∙ profiles_like c may n l f (node_profile l nodes) x (place_at t n) s (all_before (λ j. f j ≡ node_profile l nodes j) i known (operands x) earlier)
      ∙ place_like c may n l (node_profile l nodes) x (place_at t n) (λ j. place c may n l (tree_of nodes j)) s b
      (all_before (λ j. (u : ℕ) → u < n → place_at t n j u ≡ place c may n l (tree_of nodes j) u) i (λ j h u k. filled.rows j u h k) (operands x) earlier)
      ∙ place_grown c may n l nodes i x s
      ∙ sym (ap (λ (v : Tree). place c may n l v s) (tree_step nodes i earlier)) in
      record {
        sized = r.sized ∙ filled.sized;
        rows = λ k s h b. ⊎_elim (λ lt. r.before (k * n + s) (omega (arith, row_ends k i n lt)) ∙ filled.rows k s lt b) (λ ge. let e : k ≡ i = omega arith in rw e (here s b)) (cases_lt k i);
        later = λ k h. let m = row_ends i (i + 1) n (omega arith) in r.after k (omega arith) ∙ filled.later k (omega arith);
      }

-- what a sound query's node needs to be filled
pub joinable : (l : Layout) (nodes : List Node) (f : ℕ → Profile) (i : ℕ) (x : Node) → AllByRecursion (λ j. j < i) (operands x) → ((k : ℕ) → k < i → f k ≡ node_profile l nodes k) → Placed l nodes x → Joinable l f x
joinable l nodes f i (Leaf r) a known h = tt
joinable l nodes f i (Project j s) a known h = tt
joinable l nodes f i (Filter j s) a known h = tt
joinable l nodes f i (Join a b k) e known h =
    ap₂ (λ (p q : Profile). is_some (orient_answer l p.shown q.shown k)) (known a e.0) (known b e.1.0) ∙ h
