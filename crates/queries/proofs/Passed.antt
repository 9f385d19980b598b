-- What is so of a tree that passed its questions.
use Rattle.std.proofs.Common.{◌≡◌, ℕ, zero, suc, ◌+◌, ◌-◌, ◌<◌, ◌≤◌, Bool, true, false, not, ◌&&◌, ◌||◌, eqb, ltb, leb, ◌⊎◌, List, [], ◌∷◌, ◌++◌, length, is_some, Some, None, Ok, Option, sym, refl, ap, ◌∙◌, inl, inr, ⊎_elim, arith}
use Rattle.std.specs.List.{AllByRecursion, list_all, list_any}
use Rattle.std.proofs.lemmas.Bool.{cases_order, and_parts, or_cases, or_left, or_right, or_parts, leb-true, eqb-true, eqb-false, not-true, both_ways, false≢true}
use Rattle.chart.specs.Layout.{Layout}
use Rattle.chart.specs.Lookup.{server_of}
use Rattle.chart.proofs.Extended.{all_yes}
use Rattle.queries.specs.declared.node.Node.{Node}
use Rattle.queries.specs.declared.node.Node.TheVariants.{Leaf, Project, Filter, Join}
use Rattle.queries.specs.declared.refusal.TreeRefusal.{TreeRefusal}
use Rattle.queries.specs.declared.refusal.TreeRefusal.TheVariants.{Count}
use Rattle.queries.specs.Flat.{node, operands}
use Rattle.queries.specs.Questions.{uses, used_by, stands_in, operands_fit, different, kind_fits, node_profile, questions_from, uses_from, tree_questions, count_fits, tree_answer}
use Rattle.queries.specs.Sound.{Sound, Placed, Apart}
use Rattle.queries.proofs.Seen.{used_more}
use Rattle.queries.proofs.Turns.{fit_earlier}

-- every question was answered with yes
abbrev Yes : List (Bool × TreeRefusal) → Type 0
Yes qs = AllByRecursion (λ (q : Bool × TreeRefusal). q.0 ≡ true) qs

yes_split : (qs rs : List (Bool × TreeRefusal)) → Yes (qs ++ rs) → Yes qs × Yes rs
yes_split [] rs h = (tt, h)
yes_split (q ∷ qs) rs h = let t = yes_split qs rs h.1 in ((h.0, t.0), t.1)

-- the node k passed
pub record Passed (l : Layout) (nodes : List Node) (k : ℕ) : Type 0 where
  pub fit : operands_fit (used_by nodes k) k (operands (node nodes k)) ≡ true
  pub kind : kind_fits l (stands_in nodes k) (node_profile l nodes) (node nodes k) ≡ true

passed_from : (l : Layout) (nodes : List Node) (n i k : ℕ) → Yes (questions_from l nodes i n) → i ≤ k → k < i + n → Passed l nodes k
unfolding questions_from
passed_from l nodes zero i k h low high = absurd (omega arith)
passed_from l nodes (suc n) i k h low high =
    ⊎_elim (λ e. rw e (record { fit = h.0; kind = h.1.0 })) (⊎_elim (λ lt. absurd (omega arith)) (λ lt. passed_from l nodes n (i + 1) k h.1.1 (omega arith) (omega arith))) (cases_order k i)

used_from : (used : ℕ → Bool) (n i k : ℕ) → Yes (uses_from used i n) → i ≤ k → k < i + n → used k ≡ true
unfolding uses_from
used_from used zero i k h low high = absurd (omega arith)
used_from used (suc n) i k h low high =
    ⊎_elim (λ e. ap used e ∙ h.0) (⊎_elim (λ lt. absurd (omega arith)) (λ lt. used_from used n (i + 1) k h.1 (omega arith) (omega arith))) (cases_order k i)

-- an operand that fits is not used before
operand_unused : (used : ℕ → Bool) (i j : ℕ) (js : List ℕ) → list_all (λ o. ltb o i && not (used o)) js ≡ true → list_any (λ o. eqb o j) js ≡ true → used j ≡ false
operand_unused used i j [] h u = absurd (false≢true u)
operand_unused used i j (o ∷ js) h u =
    let b = and_parts (ltb o i && not (used o)) (list_all (λ o. ltb o i && not (used o)) js) h in
    go (operand_unused used i j js b.1) (not-true (used o) (and_parts (ltb o i) (not (used o)) b.0).1) (or_cases (eqb o j) (list_any (λ o. eqb o j) js) u)
  where
    go : (list_any (λ o. eqb o j) js ≡ true → used j ≡ false) → used o ≡ false → (eqb o j ≡ true) ⊎ (list_any (λ o. eqb o j) js ≡ true) → used j ≡ false
    go rest free (inl e) = sym (ap used (eqb-true o j e)) ∙ free
    go rest free (inr e) = rest e

-- a node that is used is used from then on
used_on : (nodes : List Node) (j a d : ℕ) → a + 1 + d ≤ length nodes → uses j (node nodes a) ≡ true → used_by nodes (a + 1 + d) j ≡ true
used_on nodes j a zero h u =
    let z : a + 1 + 0 ≡ a + 1 = omega arith in
    ap (λ (k : ℕ). used_by nodes k j) z ∙ used_more nodes a j (omega arith) ∙ or_right (used_by nodes a j) (uses j (node nodes a)) u
used_on nodes j a (suc d) h u =
    let z : a + 1 + suc d ≡ (a + 1 + d) + 1 = omega arith in
    ap (λ (k : ℕ). used_by nodes k j) z ∙ used_more nodes (a + 1 + d) j (omega arith)
    ∙ or_left (used_by nodes (a + 1 + d) j) (uses j (node nodes (a + 1 + d))) (used_on nodes j a d (omega arith) u)

-- a node that was used has a user
user_of : (nodes : List Node) (j i : ℕ) → i ≤ length nodes → used_by nodes i j ≡ true → (a : ℕ) × (a < i) × (uses j (node nodes a) ≡ true)
unfolding used_by
user_of nodes j zero h u = absurd (false≢true u)
user_of nodes j (suc i) h u =
    let z : suc i ≡ i + 1 = omega arith in
    go (user_of nodes j i (omega arith)) (or_cases (used_by nodes i j) (uses j (node nodes i)) (sym (ap (λ (k : ℕ). used_by nodes k j) z ∙ used_more nodes i j h) ∙ u))
  where
    go : (used_by nodes i j ≡ true → (a : ℕ) × (a < i) × (uses j (node nodes a) ≡ true)) → (used_by nodes i j ≡ true) ⊎ (uses j (node nodes i) ≡ true) → (a : ℕ) × (a < suc i) × (uses j (node nodes a) ≡ true)
    go below (inl e) = let f = below e in (f.0, omega (arith, f.1), f.2)
    go below (inr e) = (i, omega arith, e)

is_some_some : (o : Option ℕ) → is_some o ≡ true → (s : ℕ) × (o ≡ Some s)
is_some_some None h = absurd (false≢true h)
is_some_some (Some s) h = (s, refl)

placed_by : (l : Layout) (nodes : List Node) (stands : ℕ → Bool) (x : Node) → kind_fits l stands (node_profile l nodes) x ≡ true → Placed l nodes x
placed_by l nodes stands (Leaf r) h = is_some_some (server_of l r) (and_parts (is_some (server_of l r)) (not (stands r)) h).0
placed_by l nodes stands (Project j s) h = tt
placed_by l nodes stands (Filter j s) h = tt
placed_by l nodes stands (Join a b k) h = h

apart_by : (x : Node) → different (operands x) ≡ true → Apart x
apart_by (Leaf r) h = tt
apart_by (Project j s) h = tt
apart_by (Filter j s) h = tt
apart_by (Join a b k) h = λ e. eqb-false b a (or_parts (eqb b a) false (not-true (eqb b a || false) (and_parts (not (eqb b a || false)) true h).0)).0 (sym e)

module _ (l : Layout) (nodes : List Node) (count : count_fits nodes ≡ true) (each : (k : ℕ) → k < length nodes → Passed l nodes k) where
  -- two users of one node: the later one is refused
  user_twice : (j a b : ℕ) → a < b → b < length nodes → uses j (node nodes a) ≡ true → uses j (node nodes b) ≡ true → ⊥
  user_twice j a b lt below u v =
      let z : a + 1 + (b - (a + 1)) ≡ b = omega arith in
      let was = sym (ap (λ (k : ℕ). used_by nodes k j) z) ∙ used_on nodes j a (b - (a + 1)) (omega arith) u in
      let js = operands (node nodes b) in
      let fit = and_parts (list_all (λ o. ltb o b && not (used_by nodes b o)) js) (different js) (each b below).fit in
      both_ways (used_by nodes b j) (operand_unused (used_by nodes b) b j js fit.0 v) was

  used_once : (j a b : ℕ) → a < length nodes → b < length nodes → uses j (node nodes a) ≡ true → uses j (node nodes b) ≡ true → a ≡ b
  used_once j a b ha hb u v = ⊎_elim (λ e. e) (⊎_elim (λ lt. absurd (user_twice j a b lt hb u v)) (λ lt. absurd (user_twice j b a lt ha v u))) (cases_order a b)

  pub sound_by : ((k : ℕ) → k + 1 < length nodes → used_by nodes (length nodes) k ≡ true) → Sound l nodes
  sound_by used = record {
    some = leb-true 1 (length nodes) (and_parts (leb 1 (length nodes)) (leb (length nodes) 63) count).0;
    few = let h = leb-true (length nodes) 63 (and_parts (leb 1 (length nodes)) (leb (length nodes) 63) count).1 in omega arith;
    earlier = λ i h. fit_earlier (used_by nodes i) i (operands (node nodes i)) (each i h).fit;
    once = used_once;
    apart = λ i h. let js = operands (node nodes i) in apart_by (node nodes i) (and_parts (list_all (λ o. ltb o i && not (used_by nodes i o)) js) (different js) (each i h).fit).1;
    used = λ j h. user_of nodes j (length nodes) (omega arith) (used j h);
    placed = λ i h. placed_by l nodes (stands_in nodes i) (node nodes i) (each i h).kind;
  }

-- a tree that passed every question is sound
pub sound_tree : (l : Layout) (nodes : List Node) → tree_answer l nodes ≡ Ok tt → Sound l nodes
sound_tree l nodes h =
    let qs = all_yes ((count_fits nodes, Count) ∷ tree_questions l nodes) tt tt h in
    let parts = yes_split (questions_from l nodes 0 (length nodes)) (uses_from (used_by nodes (length nodes)) 0 (length nodes - 1)) qs.1 in
    sound_by l nodes qs.0
    (λ k b. passed_from l nodes (length nodes) 0 k parts.0 (omega arith) (omega arith))
    (λ k b. used_from (used_by nodes (length nodes)) (length nodes - 1) 0 k parts.1 (omega arith) (omega arith))
