-- Records entered one after another into an exact book.
use Rattle.std.proofs.Common.{◌≡◌, ℕ, suc, ◌+◌, ◌<◌, ◌≤◌, Bool, true, false, cond, not, ◌&&◌, eqb, leb, List, [], ◌∷◌, length, get_or, drop, Ok, Err, Result, sym, refl, ap, ◌∙◌, arith}
use Rattle.std.specs.List.{list_all}
use Rattle.std.proofs.lemmas.List.{at_drop_more, at_drop_all}
use Rattle.std.proofs.lemmas.Bool.{and_from, not_from_false, or_from, or_left, or_right, eq-eqb, ne_eqb, both_ways}
use Rattle.chart.specs.Questions.{asked}
use Rattle.chart.specs.Layout.{Layout}
use Rattle.rules.specs.declared.view.RuleRecord.{RuleRecord}
use Rattle.rules.specs.declared.refusal.RuleRefusal.{RuleRefusal}
use Rattle.rules.specs.Rules.{rule_questions, rule_answer, well_formed}
use Rattle.policy.specs.declared.refusal.BookRefusal.{BookRefusal}
use Rattle.policy.specs.declared.refusal.BookRefusal.TheVariants.{InForce, Full}
use Rattle.policy.specs.Same.{Same, keep}
use Rattle.policy.specs.Books.{in_force, apart, own_first, place_answer, entry_answer}
use Rattle.policy.proofs.Orders.{same_any, same_length}
use Rattle.books.specs.declared.fault.Fault.{Fault}
use Rattle.books.specs.Slots.{exact_fits}
use Rattle.books.specs.Sealed.{or_else, entered_from}

-- the answer to an entry does not depend on the order of the rules
entry_same : (l : Layout) (xs ys : List RuleRecord) → Same xs ys → (r : RuleRecord) → entry_answer l exact_fits xs r ≡ entry_answer l exact_fits ys r
entry_same l xs ys h r =
    ap (λ b. own_first (rule_answer l r) (cond (not b) (cond (exact_fits (r ∷ xs)) (Ok tt) (Err Full)) (Err InForce))) (same_any (λ q. eqb q.number r.number) h)
    ∙ ap (λ n. own_first (rule_answer l r) (cond (not (in_force r.number ys)) (cond (leb (suc n) 64) (Ok tt) (Err Full)) (Err InForce))) (same_length h)

pub entered_same : (l : Layout) (rs xs ys : List RuleRecord) → Same xs ys → entered_from l xs rs ≡ entered_from l ys rs
entered_same l [] xs ys h = refl
entered_same l (r ∷ rs) xs ys h =
    ap (λ a. or_else a r.number (entered_from l (r ∷ xs) rs)) (entry_same l xs ys h r)
    ∙ ap (or_else (entry_answer l exact_fits ys r) r.number) (entered_same l rs (r ∷ xs) (r ∷ ys) (keep r h))

-- what an accepted entry tells
own_tells : (o : Result RuleRecord RuleRefusal) (a : Result (Unit {0}) BookRefusal) → own_first o a ≡ Ok tt → ((x : RuleRecord) × (o ≡ Ok x)) × (a ≡ Ok tt)
own_tells (Ok x) a h = ((x, refl), h)
own_tells (Err e) a h = absurd (let z : ◌≡◌ {A = ℕ} 0 1 = cc in omega arith)

asked_all : {E T : Type 0} (qs : List (Bool × E)) (t u : T) → asked qs t ≡ Ok u → list_all (λ (q : Bool × E). q.0) qs ≡ true
asked_all [] t u h = refl
asked_all {E} (q ∷ qs) t u h = go q.0 h (asked_all qs t u)
  where
    go : (b : Bool) → cond b (asked qs t) (Err q.1) ≡ Ok u → (asked qs t ≡ Ok u → list_all (λ (x : Bool × E). x.0) qs ≡ true) → (b && list_all (λ (x : Bool × E). x.0) qs) ≡ true
    go true k rest = rest k
    go false k rest = absurd (let z : ◌≡◌ {A = ℕ} 0 1 = cc in omega arith)

free_tells : (b : Bool) (x : Result (Unit {0}) BookRefusal) → cond (not b) x (Err InForce) ≡ Ok tt → b ≡ false
free_tells true x h = absurd (let z : ◌≡◌ {A = ℕ} 0 1 = cc in omega arith)
free_tells false x h = refl

module _ (l : Layout) (rules : List RuleRecord) (r : RuleRecord) (ok : entry_answer l exact_fits rules r ≡ Ok tt) where
  pub entry_formed : well_formed l r ≡ true
  entry_formed = let t = own_tells (rule_answer l r) (place_answer exact_fits rules r) ok in asked_all (rule_questions l r) r t.0.0 t.0.1

  pub entry_free : in_force r.number rules ≡ false
  entry_free = let t = own_tells (rule_answer l r) (place_answer exact_fits rules r) ok in
      free_tells (in_force r.number rules) (cond (exact_fits (r ∷ rules)) (Ok tt) (Err Full)) t.1

else_tells : (a : Result (Unit {0}) BookRefusal) (n : ℕ) (rest : Result (Unit {0}) Fault) → or_else a n rest ≡ Ok tt → (a ≡ Ok tt) × (rest ≡ Ok tt)
else_tells (Ok t) n rest h = (refl, h)
else_tells (Err e) n rest h = absurd (let z : ◌≡◌ {A = ℕ} 0 1 = cc in omega arith)

-- records that were all accepted are well formed, and apart from each other and from the rules before
pub entered_formed : (l : Layout) (rules rs : List RuleRecord) → entered_from l rules rs ≡ Ok tt → list_all (well_formed l) rs ≡ true
entered_formed l rules [] h = refl
entered_formed l rules (r ∷ rs) h =
    let t = else_tells (entry_answer l exact_fits rules r) r.number (entered_from l (r ∷ rules) rs) h in
    and_from (well_formed l r) (list_all (well_formed l) rs) (entry_formed l rules r t.0) (entered_formed l (r ∷ rules) rs t.1)

-- no later record has the number of a rule that is there
later_free : (l : Layout) (n : ℕ) (rules rs : List RuleRecord) → in_force n rules ≡ true → entered_from l rules rs ≡ Ok tt → in_force n rs ≡ false
later_free l n rules [] there h = refl
later_free l n rules (r ∷ rs) there h =
    let t = else_tells (entry_answer l exact_fits rules r) r.number (entered_from l (r ∷ rules) rs) h in
    let free = entry_free l rules r t.0 in
    or_from (eqb r.number n) (in_force n rs) (other n rules r there free) (later_free l n (r ∷ rules) rs (or_right (eqb r.number n) (in_force n rules) there) t.1)
  where
    other : (n : ℕ) (rules : List RuleRecord) (r : RuleRecord) → in_force n rules ≡ true → in_force r.number rules ≡ false → eqb r.number n ≡ false
    other n rules r there free = ne_eqb r.number n (λ e. both_ways (in_force n rules) (ap (λ k. in_force k rules) (sym e) ∙ free) there)

pub entered_apart : (l : Layout) (rules rs : List RuleRecord) → entered_from l rules rs ≡ Ok tt → apart rs ≡ true
entered_apart l rules [] h = refl
entered_apart l rules (r ∷ rs) h =
    let t = else_tells (entry_answer l exact_fits rules r) r.number (entered_from l (r ∷ rules) rs) h in
    let here : in_force r.number (r ∷ rules) ≡ true = or_left (eqb r.number r.number) (in_force r.number rules) (eq-eqb r.number r.number refl) in
    and_from (not (in_force r.number rs)) (apart rs) (not_from_false (in_force r.number rs) (later_free l r.number (r ∷ rules) rs here t.1)) (entered_apart l (r ∷ rules) rs t.1)

-- a turn of the loop that enters them
module _ (l : Layout) (rules records : List RuleRecord) (i : ℕ) (d : RuleRecord) (below : i < length records) where
  next : entered_from l rules (drop i records) ≡ or_else (entry_answer l exact_fits rules (get_or records i d)) (get_or records i d).number (entered_from l (get_or records i d ∷ rules) (drop (i + 1) records))
  next = at_drop_more (entered_from l rules) records i d below

  pub entered_stop : (e : BookRefusal) → Err e ≡ entry_answer l exact_fits rules (get_or records i d) → entered_from l rules (drop i records) ≡ Err (record { number = (get_or records i d).number; refusal = e })
  entered_stop e h = next ∙ ap (λ a. or_else a (get_or records i d).number (entered_from l (get_or records i d ∷ rules) (drop (i + 1) records))) (sym h)

  pub entered_on : (after : List RuleRecord) → Ok tt ≡ entry_answer l exact_fits rules (get_or records i d) → Same after (get_or records i d ∷ rules) → entered_from l after (drop (i + 1) records) ≡ entered_from l rules (drop i records)
  entered_on after h same =
      entered_same l (drop (i + 1) records) after (get_or records i d ∷ rules) same
      ∙ sym (next ∙ ap (λ a. or_else a (get_or records i d).number (entered_from l (get_or records i d ∷ rules) (drop (i + 1) records))) (sym h))

pub entered_done : (l : Layout) (rules records : List RuleRecord) (i : ℕ) → length records ≤ i → entered_from l rules (drop i records) ≡ Ok tt
entered_done l rules records i past = at_drop_all (entered_from l rules) records i past
