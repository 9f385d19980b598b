-- The questions of one node, as they are asked by the sets and profiles kept of those before it.
use Rattle.std.proofs.Common.{◌≡◌, ℕ, suc, ◌+◌, ◌-◌, ◌<◌, ◌≤◌, Bool, true, false, cond, not, ◌&&◌, ltb, ◌≢◌, ◌⊎◌, List, [], ◌∷◌, ◌++◌, length, get_or, set, is_some, Ok, Err, sym, refl, ap, ◌∙◌, ap₂, inl, inr, arith, below_more}
use Rattle.std.proofs.lemmas.List.{get_or-set_same, get_or-set_other}
use Rattle.std.specs.List.{AllByRecursion, list_all}
use Rattle.std.proofs.lemmas.Option.{slice_get_past}
use Rattle.std.proofs.lemmas.Bool.{cases_lt, and_parts, ltb-true, true≢false, false≢true}
use Rattle.sets.specs.declared.small_set.SmallSet.{SmallSet}
use Rattle.sets.specs.Sets.{has, none}
use Rattle.sets.proofs.Sets.{laws_hold}
use Rattle.chart.specs.Layout.{Layout}
use Rattle.chart.specs.Lookup.{server_of}
use Rattle.chart.specs.Questions.{asked}
use Rattle.chart.specs.Sound as chart
use Rattle.chart.proofs.Extended.{all_yes}
use Rattle.profile.specs.declared.shape.Profile.{Profile}
use Rattle.profile.specs.Profiles as shape
use Rattle.profile.specs.Joins.{orient_answer, joined}
use Rattle.queries.specs.declared.node.Node.{Node}
use Rattle.queries.specs.declared.node.Node.TheVariants.{Leaf, Project, Filter, Join}
use Rattle.queries.specs.declared.refusal.TreeRefusal.{TreeRefusal}
use Rattle.queries.specs.declared.refusal.TreeRefusal.TheVariants.{Operand}
use Rattle.queries.specs.Trees.{profile_of, between}
use Rattle.queries.specs.Flat.{node, operands, grow, tree_of, profile_by, blank}
use Rattle.queries.specs.Questions.{used_by, stands_in, operands_fit, different, attributes_fit, kind_fits, kind_refusal, node_questions, node_profile, questions_at, questions_from, answered}
use Rattle.queries.proofs.Flat.{tree_step}
use Rattle.queries.proofs.Seen.{operands_same}

-- operands that fit are earlier
all_earlier : (p : ℕ → Bool) (i : ℕ) (js : List ℕ) → list_all (λ j. ltb j i && not (p j)) js ≡ true → AllByRecursion (λ j. j < i) js
all_earlier p i [] h = tt
all_earlier p i (j ∷ js) h =
    let b = and_parts (ltb j i && not (p j)) (list_all (λ j. ltb j i && not (p j)) js) h in
    (ltb-true j i (and_parts (ltb j i) (not (p j)) b.0).0, all_earlier p i js b.1)

pub fit_earlier : (p : ℕ → Bool) (i : ℕ) (js : List ℕ) → operands_fit p i js ≡ true → AllByRecursion (λ j. j < i) js
fit_earlier p i js h = all_earlier p i js (and_parts (list_all (λ j. ltb j i && not (p j)) js) (different js) h).0

-- the profile of a node's result, from those of its operands
pub profile_step : (l : Layout) (nodes : List Node) (i : ℕ) → AllByRecursion (λ j. j < i) (operands (node nodes i)) → node_profile l nodes i ≡ profile_by l (node_profile l nodes) (node nodes i)
unfolding node_profile
profile_step l nodes i h = ap (profile_of l) (tree_step nodes i h) ∙ go (node nodes i)
  where
    go : (x : Node) → profile_of l (grow (tree_of nodes) i x) ≡ profile_by l (λ j. profile_of l (tree_of nodes j)) x
    go (Leaf r) = refl
    go (Project j s) = refl
    go (Filter j s) = refl
    go (Join a b k) = refl

profile_same : (l : Layout) (f g : ℕ → Profile) (x : Node) → AllByRecursion (λ j. f j ≡ g j) (operands x) → profile_by l f x ≡ profile_by l g x
profile_same l f g (Leaf r) h = refl
profile_same l f g (Project j s) h = ap (λ p. shape.project p s) h.0
profile_same l f g (Filter j s) h = ap (λ p. shape.filter p s) h.0
profile_same l f g (Join a b k) h = ap₂ (λ p q. joined (between l p q k)) h.0 h.1.0

-- a relation that is known is one of 32
known_below : (l : Layout) → chart.Sound l → (r : ℕ) → 64 ≤ r → is_some (server_of l r) ≡ false
known_below l sound r past = ap is_some (slice_get_past l.homes r (omega (arith, sound.few_relations)))

module _ (l : Layout) (sound : chart.Sound l) (p q : ℕ → Bool) (same : (r : ℕ) → r < 64 → p r ≡ q r) (f g : ℕ → Profile) where
  kind_same : (x : Node) → AllByRecursion (λ j. f j ≡ g j) (operands x) → kind_fits l p f x ≡ kind_fits l q g x
  kind_same (Leaf r) h = go (cases_lt r 64)
    where
      go : (r < 64) ⊎ (64 ≤ r) → (is_some (server_of l r) && not (p r)) ≡ (is_some (server_of l r) && not (q r))
      go (inl below) = ap (λ (b : Bool). is_some (server_of l r) && not b) (same r below)
      go (inr past) =
          let e = known_below l sound r past in
          ap (λ (b : Bool). b && not (p r)) e ∙ sym (ap (λ (b : Bool). b && not (q r)) e)
  kind_same (Project j s) h = ap (λ (v : Profile). attributes_fit s v.shown) h.0
  kind_same (Filter j s) h = ap (λ (v : Profile). attributes_fit s v.shown) h.0
  kind_same (Join a b k) h = ap₂ (λ (v w : Profile). is_some (orient_answer l v.shown w.shown k)) h.0 h.1.0

all_same : (f g : ℕ → Profile) (i : ℕ) → ((k : ℕ) → k < i → f k ≡ g k) → (js : List ℕ) → AllByRecursion (λ j. j < i) js → AllByRecursion (λ j. f j ≡ g j) js
all_same f g i known [] h = tt
all_same f g i known (j ∷ js) h = (known j h.0, all_same f g i known js h.1)

two_same : {E T : Type 0} (a c b d : Bool) (e e' : E) (t : T) → a ≡ c → (a ≡ true → b ≡ d) → asked ((a, e) ∷ (b, e') ∷ []) t ≡ asked ((c, e) ∷ (d, e') ∷ []) t
two_same true true b d e e' t h k = let z = k refl in rw z
two_same true false b d e e' t h k = absurd (true≢false h)
two_same false true b d e e' t h k = absurd (false≢true h)
two_same false false b d e e' t h k = refl

module _ {E T U : Type 0} (t : T) (u : U) where
  pub refused_on : (qs rs : List (Bool × E)) (e : E) → asked qs t ≡ Err e → asked (qs ++ rs) u ≡ Err e
  refused_on [] rs e h = cc
  refused_on (q ∷ qs) rs e h = go q.0 h (refused_on qs rs e)
    where
      go : (b : Bool) → cond b (asked qs t) (Err q.1) ≡ Err e → (asked qs t ≡ Err e → asked (qs ++ rs) u ≡ Err e) → cond b (asked (qs ++ rs) u) (Err q.1) ≡ Err e
      go true k rest = rest k
      go false k rest = cc

  pub passed_on : (qs rs : List (Bool × E)) (v : T) → asked qs t ≡ Ok v → asked (qs ++ rs) u ≡ asked rs u
  passed_on [] rs v h = refl
  passed_on (q ∷ qs) rs v h = go q.0 h (passed_on qs rs v)
    where
      go : (b : Bool) → cond b (asked qs t) (Err q.1) ≡ Ok v → (asked qs t ≡ Ok v → asked (qs ++ rs) u ≡ asked rs u) → cond b (asked (qs ++ rs) u) (Err q.1) ≡ asked rs u
      go true k rest = rest k
      go false k rest = cc

pub passed_gives : {E T : Type 0} (t v : T) (qs : List (Bool × E)) → asked qs t ≡ Ok v → v ≡ t
passed_gives t v [] h = cc
passed_gives t v (q ∷ qs) h = go q.0 h (passed_gives t v qs)
  where
    go : (b : Bool) → cond b (asked qs t) (Err q.1) ≡ Ok v → (asked qs t ≡ Ok v → v ≡ t) → v ≡ t
    go true k rest = rest k
    go false k rest = cc

-- the questions from the node i on, the first of them apart
pub questions_step : (l : Layout) (nodes : List Node) (i : ℕ) → i < length nodes
    → questions_from l nodes i (length nodes - i) ≡ questions_at l nodes i ++ questions_from l nodes (i + 1) (length nodes - (i + 1))
unfolding questions_from
questions_step l nodes i h =
    let z : length nodes - i ≡ suc (length nodes - (i + 1)) = omega arith in
    ap (questions_from l nodes i) z

-- the node i, with what is kept of those before it: the used nodes, the relations and the profiles
module _ (l : Layout) (sound : chart.Sound l) (nodes : List Node) (i : ℕ) (few : i < 64) (used stands : ℕ → Bool) (f : ℕ → Profile)
    (used_is : (j : ℕ) → j < 64 → used j ≡ used_by nodes i j) (stands_are : (r : ℕ) → r < 64 → stands r ≡ stands_in nodes i r)
    (known : (k : ℕ) → k < i → f k ≡ node_profile l nodes k) where
  kept_asked : {T : Type 0} (t : T) → asked (node_questions l used stands f i (node nodes i)) t ≡ asked (questions_at l nodes i) t
  kept_asked t =
      let x = node nodes i in
      two_same (operands_fit used i (operands x)) (operands_fit (used_by nodes i) i (operands x)) (kind_fits l stands f x) (kind_fits l (stands_in nodes i) (node_profile l nodes) x) (Operand i) (kind_refusal i x) t
      (operands_same used (used_by nodes i) i (λ j h. used_is j (omega arith)) (operands x))
      (λ h. kind_same l sound stands (stands_in nodes i) stands_are f (node_profile l nodes) x (all_same f (node_profile l nodes) i known (operands x) (fit_earlier used i (operands x) h)))

  module _ (below : i < length nodes) (so_far : answered (questions_from l nodes i (length nodes - i)) ≡ answered (questions_from l nodes 0 (length nodes))) where
    split : answered (questions_at l nodes i ++ questions_from l nodes (i + 1) (length nodes - (i + 1))) ≡ answered (questions_from l nodes 0 (length nodes))
    split = ap answered (sym (questions_step l nodes i below)) ∙ so_far

    pub refused_at : (e : TreeRefusal) → Err e ≡ asked (node_questions l used stands f i (node nodes i)) (profile_by l f (node nodes i)) → Err e ≡ answered (questions_from l nodes 0 (length nodes))
    refused_at e h =
        let t = profile_by l f (node nodes i) in
        sym (refused_on t tt (questions_at l nodes i) (questions_from l nodes (i + 1) (length nodes - (i + 1))) e (sym (kept_asked t) ∙ sym h)) ∙ split

    module _ (p : Profile) (h : Ok p ≡ asked (node_questions l used stands f i (node nodes i)) (profile_by l f (node nodes i))) where
      pub passed_at : answered (questions_from l nodes (i + 1) (length nodes - (i + 1))) ≡ answered (questions_from l nodes 0 (length nodes))
      passed_at =
          let t = profile_by l f (node nodes i) in
          sym (passed_on t tt (questions_at l nodes i) (questions_from l nodes (i + 1) (length nodes - (i + 1))) p (sym (kept_asked t) ∙ sym h)) ∙ split

      earlier_at : AllByRecursion (λ j. j < i) (operands (node nodes i))
      earlier_at =
          let x = node nodes i in
          let qs = all_yes (node_questions l used stands f i x) (profile_by l f x) p (sym h) in
          fit_earlier used i (operands x) qs.0

      pub profile_at : p ≡ node_profile l nodes i
      profile_at =
          let x = node nodes i in
          passed_gives (profile_by l f x) p (node_questions l used stands f i x) (sym h)
          ∙ profile_same l f (node_profile l nodes) x (all_same f (node_profile l nodes) i known (operands x) earlier_at)
          ∙ sym (profile_step l nodes i earlier_at)

-- before the first node
pub questions_none : (l : Layout) (nodes : List Node) → answered (questions_from l nodes 0 (length nodes - 0)) ≡ answered (questions_from l nodes 0 (length nodes))
questions_none l nodes = let z : length nodes - 0 ≡ length nodes = omega arith in ap (λ (n : ℕ). answered (questions_from l nodes 0 n)) z

pub used_none : (nodes : List Node) (s : SmallSet) → s ≡ none → (j : ℕ) → has s j ≡ used_by nodes 0 j
unfolding used_by
used_none nodes s e j = ap (λ (t : SmallSet). has t j) e ∙ laws_hold.none_has j

pub stands_none : (nodes : List Node) (s : SmallSet) → s ≡ none → (r : ℕ) → has s r ≡ stands_in nodes 0 r
unfolding stands_in
stands_none nodes s e r = ap (λ (t : SmallSet). has t r) e ∙ laws_hold.none_has r

-- after the last node
pub questions_all : (l : Layout) (nodes : List Node) (i : ℕ) → i ≡ length nodes → answered (questions_from l nodes i (length nodes - i)) ≡ answered (questions_from l nodes 0 (length nodes))
    → Ok tt ≡ answered (questions_from l nodes 0 (length nodes))
unfolding questions_from
questions_all l nodes i e h =
    let z : length nodes - i ≡ 0 = omega arith in
    sym (ap (λ (n : ℕ). answered (questions_from l nodes i n)) z) ∙ h

-- one more profile is written
pub written_more : (f : ℕ → Profile) (xs : List Profile) (i : ℕ) (p : Profile) → i < length xs → ((k : ℕ) → k < i → get_or xs k blank ≡ f k) → p ≡ f i
    → (k : ℕ) → k < i + 1 → get_or (set xs i p) k blank ≡ f k
written_more f xs i p below known here =
    below_more _ _
    (λ k h. let ne : k ≢ i = omega arith in get_or-set_other xs i k p blank ne ∙ known k h)
    (get_or-set_same xs i p blank below ∙ here)
