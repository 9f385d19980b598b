-- The rules that a history leads to are those that stand after it.
use Rattle.std.proofs.Common.{◌≡◌, ℕ, Bool, true, false, not, eqb, ◌⊎◌, List, [], ◌∷◌, Ok, Err, sym, refl, ap, ◌∙◌, subst, inl, inr, ⊎_elim, arith}
use Rattle.std.proofs.lemmas.Bool.{or_from, or_parts, eqb-false, ne_eqb, not-true, not_from_false, both_ways, cases_Bool, cond-true}
use Rattle.chart.specs.Layout.{Layout}
use Rattle.queries.specs.declared.node.Node.{Node}
use Rattle.rules.specs.declared.view.RuleRecord.{RuleRecord}
use Rattle.policy.specs.declared.refusal.BookRefusal.{BookRefusal}
use Rattle.policy.specs.declared.refusal.BookRefusal.TheVariants.{NotInForce}
use Rattle.policy.specs.Same.{Same}
use Rattle.policy.specs.Books.{in_force, apart, rules_after, withdrawal_answer, withdrawal_list}
use Rattle.policy.proofs.Orders.{same_sym}
use Rattle.broker.specs.Histories.{Answer, Event, entered, withdrew, queried, Among, withdrawn, Stands, Standing, next, replayed, Answered, AllAnswered, Reached}
use Rattle.broker.proofs.Members.{among_same, among_any, kept_among, among_kept, same_from_members}

-- one event earlier: the rules after it, and the rules before it with it
abbrev Shifts : List RuleRecord → List RuleRecord → Event → List Event → RuleRecord → Type 0
Shifts old new h t r = (Stands new t r → Stands old (h ∷ t) r) × (Stands old (h ∷ t) r → Stands new t r)

query_shifts : (rules : List RuleRecord) (nodes : List Node) (t : List Event) (r : RuleRecord) → Shifts rules rules (queried nodes) t r
query_shifts rules nodes t r = (
  λ s. ⊎_elim inl (λ e. inr (inr e)) s,
  λ s. ⊎_elim inl (λ e. ⊎_elim (λ k. absurd (let z = k.0 in let y : ◌≡◌ {A = ℕ} 0 1 = cc in omega arith)) inr e) s,
)

entry_shifts : (rules : List RuleRecord) (q : RuleRecord) (a : Answer) (t : List Event) (r : RuleRecord) → Shifts rules (rules_after a rules (q ∷ rules)) (entered q a) t r
entry_shifts rules q (Ok u) t r = (to, from)
  where
    to : Stands (q ∷ rules) t r → Stands rules (entered q (Ok u) ∷ t) r
    to (inl (inl e, w)) = inr (inl (ap (λ (v : RuleRecord). entered v (Ok u)) (sym e), w))
    to (inl (inr k, w)) = inl (k, w)
    to (inr e) = inr (inr e)

    from : Stands rules (entered q (Ok u) ∷ t) r → Stands (q ∷ rules) t r
    from (inl k) = inl (inr k.0, k.1)
    from (inr (inl k)) = let z = k.0 in let e : r ≡ q = cc in inl (inl e, k.1)
    from (inr (inr e)) = inr e
entry_shifts rules q (Err x) t r = (
  λ s. ⊎_elim inl (λ e. inr (inr e)) s,
  λ s. ⊎_elim inl (λ e. ⊎_elim (λ k. absurd (let z = k.0 in let y : ◌≡◌ {A = ℕ} 0 1 = cc in omega arith)) inr e) s,
)

turned : (a b : ℕ) → not (eqb a b) ≡ true → eqb b a ≡ false
turned a b h = ne_eqb b a (λ e. eqb-false a b (not-true (eqb a b) h) (sym e))

turned_back : (a b : ℕ) → eqb b a ≡ false → not (eqb a b) ≡ true
turned_back a b h = not_from_false (eqb a b) (ne_eqb a b (λ e. eqb-false b a h (sym e)))

unlisted : (rules : List RuleRecord) (n : ℕ) (e : BookRefusal) → Err e ≡ withdrawal_answer rules n → in_force n rules ≡ false
unlisted rules n e h = ⊎_elim (λ t. absurd (let z : Err e ≡ Ok tt = h ∙ cond-true (in_force n rules) (Ok tt) (Err NotInForce) t in let y : ◌≡◌ {A = ℕ} 0 1 = cc in omega arith)) (λ f. f) (cases_Bool (in_force n rules))

withdrawal_shifts : (rules : List RuleRecord) (n : ℕ) (a : Answer) (t : List Event) (r : RuleRecord) → a ≡ withdrawal_answer rules n → Shifts rules (withdrawal_list rules n) (withdrew n a) t r
withdrawal_shifts rules n (Ok u) t r h = (to, from)
  where
    to : Stands (withdrawal_list rules n) t r → Stands rules (withdrew n (Ok u) ∷ t) r
    to (inl (k, w)) = let m = kept_among (λ q. not (eqb q.number n)) rules r k in inl (m.0, or_from (eqb n r.number) (withdrawn r.number t) (turned r.number n m.1) w)
    to (inr e) = inr (inr e)

    from : Stands rules (withdrew n (Ok u) ∷ t) r → Stands (withdrawal_list rules n) t r
    from (inl (k, w)) = let m = or_parts (eqb n r.number) (withdrawn r.number t) w in inl (among_kept (λ q. not (eqb q.number n)) rules r k (turned_back r.number n m.0), m.1)
    from (inr (inl k)) = absurd (let z = k.0 in let y : ◌≡◌ {A = ℕ} 0 1 = cc in omega arith)
    from (inr (inr e)) = inr e
withdrawal_shifts rules n (Err x) t r h = (to, from)
  where
    other : Among r rules → not (eqb r.number n) ≡ true
    other k = go (cases_Bool (eqb r.number n))
      where
        go : (eqb r.number n ≡ true) ⊎ (eqb r.number n ≡ false) → not (eqb r.number n) ≡ true
        go (inl e) = absurd (both_ways (in_force n rules) (unlisted rules n x h) (among_any (λ q. eqb q.number n) rules r k e))
        go (inr e) = not_from_false (eqb r.number n) e

    to : Stands (withdrawal_list rules n) t r → Stands rules (withdrew n (Err x) ∷ t) r
    to (inl (k, w)) = inl ((kept_among (λ q. not (eqb q.number n)) rules r k).0, w)
    to (inr e) = inr (inr e)

    from : Stands rules (withdrew n (Err x) ∷ t) r → Stands (withdrawal_list rules n) t r
    from (inl (k, w)) = inl (among_kept (λ q. not (eqb q.number n)) rules r k (other k), w)
    from (inr (inl k)) = absurd (let z = k.0 in let y : ◌≡◌ {A = ℕ} 0 1 = cc in omega arith)
    from (inr (inr e)) = inr e

module _ (l : Layout) (fits : List RuleRecord → Bool) where
  shifts : (rules : List RuleRecord) (h : Event) (t : List Event) (r : RuleRecord) → Answered l fits rules h → Shifts rules (next l fits rules h) h t r
  shifts rules (entered q a) t r e =
      subst (λ (b : Answer). Shifts rules (rules_after b rules (q ∷ rules)) (entered q a) t r) e (entry_shifts rules q a t r)
  shifts rules (withdrew n a) t r e = withdrawal_shifts rules n a t r e
  shifts rules (queried nodes) t r e = query_shifts rules nodes t r

  pub replay_stands : (t : List Event) (rules : List RuleRecord) → AllAnswered l fits rules t → (r : RuleRecord) → Among r (replayed l fits rules t) → Stands rules t r
  replay_stands [] rules a r h = inl (h, refl)
  replay_stands (h ∷ t) rules a r k = (shifts rules h t r a.0).0 (replay_stands t (next l fits rules h) a.1 r k)

  pub stands_replay : (t : List Event) (rules : List RuleRecord) → AllAnswered l fits rules t → (r : RuleRecord) → Stands rules t r → Among r (replayed l fits rules t)
  stands_replay [] rules a r (inl k) = k.0
  stands_replay [] rules a r (inr e) = absurd e
  stands_replay (h ∷ t) rules a r s = stands_replay t (next l fits rules h) a.1 r ((shifts rules h t r a.0).1 s)

  module _ (rules first : List RuleRecord) (t : List Event) (reached : Reached l fits rules first t) where
    pub in_force_stands : (r : RuleRecord) → Among r rules → Stands first t r
    in_force_stands r h = replay_stands t first reached.answered r (among_same reached.led_to r h)

    pub stands_in_force : (r : RuleRecord) → Stands first t r → Among r rules
    stands_in_force r s = among_same (same_sym reached.led_to) r (stands_replay t first reached.answered r s)

    -- the standing rules are those in force, up to order
    pub standing_same : (list : List RuleRecord) → apart rules ≡ true → Standing first t list → Same rules list
    standing_same list distinct s =
        same_from_members rules list distinct s.distinct (λ r h. s.all r (in_force_stands r h)) (λ r h. stands_in_force r (s.only r h))
