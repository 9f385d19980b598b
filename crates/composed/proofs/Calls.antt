-- A composed book's answers, from those of the exact book that it holds and the number of its members.
use Rattle.std.proofs.Common.{◌≡◌, ℕ, ◌<◌, ◌≤◌, Bool, true, false, cond, not, ◌&&◌, leb, List, ◌∷◌, length, Ok, Err, Result, Option, ◌==◌, refl, sym, ap, ◌∙◌, subst, arith}
use Rattle.std.specs.List.{list_all}
use Rattle.std.proofs.lemmas.Bool.{le-leb, lt-leb, eq-eqb}
use Rattle.chart.specs.declared.state.Chart.{Chart}
use Rattle.chart.specs.Charts.{layout}
use Rattle.rules.specs.declared.view.RuleRecord.{RuleRecord}
use Rattle.rules.specs.declared.refusal.RuleRefusal.{RuleRefusal}
use Rattle.rules.specs.Rules.{rule_answer}
use Rattle.policy.specs.declared.refusal.BookRefusal.{BookRefusal}
use Rattle.policy.specs.declared.refusal.BookRefusal.TheVariants.{InForce, Full, NotInForce}
use Rattle.policy.specs.Same.{Same, chain}
use Rattle.policy.specs.Books.{in_force, own_first, entry_answer, entry_list, rules_after, withdrawal_answer, withdrawal_list}
use Rattle.policy.proofs.Orders.{same_equal, same_sym, same_kept}
use Rattle.rules.specs.declared.rule.Rule.{Rule}
use Rattle.rules.specs.declared.view.View.{View}
use Rattle.rules.specs.Rules.{well_formed}
use Rattle.members.proofs.Exact.{laws_hold}
use Rattle.policy.specs.Reading.{granted}
use Rattle.policy.specs.Books.{apart}
use Rattle.books.specs.Slots.{held, exact_fits}
use Rattle.books.proofs.Held.{absent}
use Rattle.books.proofs.Entering.{entry_free}
use Rattle.composed.specs.Composed.{composed_members, composed_fits}
use Rattle.composed.specs.Books.{members_same}
use Rattle.composed.specs.Kept.{Kept}
use Rattle.composed.specs.Lawful.{granted_within}

-- the questions of an entry, where n says that the number is in force and a that the list fits
abbrev answered : Result RuleRecord RuleRefusal → Bool → Bool → Result (Unit {0}) BookRefusal
answered o n a = own_first o (cond (not n) (cond a (Ok tt) (Err Full)) (Err InForce))

still_refused : (o : Result RuleRecord RuleRefusal) (n a b : Bool) (e : BookRefusal) → Err e ≡ answered o n a → Err e ≡ answered o n (a && b)
still_refused (Err x) n a b e h = h
still_refused (Ok r) true a b e h = h
still_refused (Ok r) false true b e h = absurd (let z : ◌≡◌ {A = ℕ} 0 1 = cc in omega arith)
still_refused (Ok r) false false b e h = h

as_asked : (o : Result RuleRecord RuleRefusal) (n a b : Bool) → Ok tt ≡ answered o n a → cond b (Ok tt) (Err Full) ≡ answered o n (a && b)
as_asked (Err x) n a b h = absurd (let z : ◌≡◌ {A = ℕ} 0 1 = cc in omega arith)
as_asked (Ok r) true a b h = absurd (let z : ◌≡◌ {A = ℕ} 0 1 = cc in omega arith)
as_asked (Ok r) false true b h = cc
as_asked (Ok r) false false b h = absurd (let z : ◌≡◌ {A = ℕ} 0 1 = cc in omega arith)

-- what is kept is kept where the same rules stand in another order
pub kept_alike : (c d : Chart) (slots others : List (Option Rule)) (table : List View) (n : ℕ) → d ≡ c → length others ≡ 64 → apart (held others) ≡ true → list_all (well_formed (layout d)) (held others) ≡ true
    → Same (held others) (held slots) → Kept (layout c) slots table n → Kept (layout d) others table n
kept_alike c d slots others table n same_chart sized distinct formed same k = subst (λ (x : Chart). Kept (layout x) others table n) (sym same_chart) (record {
  sized = sized;
  wide = k.wide;
  distinct = distinct;
  formed = subst (λ (x : Chart). list_all (well_formed (layout x)) (held others) ≡ true) same_chart formed;
  counted = k.counted;
  few = omega (arith, k.few, members_same c (held others) (held slots) same);
  just = λ v. k.just v ∙ laws_hold.alike c (granted (held slots)) (granted (held others)) (granted_within (same_sym same)) (granted_within same) v;
})

module _ (c : Chart) (rules : List RuleRecord) (given : RuleRecord) where
  -- what the exact book refuses, the composed book refuses alike
  pub refused_too : (e : BookRefusal) → Err e ≡ entry_answer (layout c) exact_fits rules given → Err e ≡ entry_answer (layout c) (composed_fits (layout c)) rules given
  refused_too e h =
      still_refused (rule_answer (layout c) given) (in_force given.number rules) (exact_fits (given ∷ rules)) (leb (length (composed_members (layout c) (given ∷ rules))) 256) e h

  -- what the exact book takes, the composed book takes if the members are not too many
  module _ (after : List RuleRecord) (taken : Ok tt ≡ entry_answer (layout c) exact_fits rules given) (same : Same after (entry_list (layout c) exact_fits rules given)) where
    joined : Same after (given ∷ rules)
    joined = subst (λ (a : Result (Unit {0}) BookRefusal). Same after (rules_after a rules (given ∷ rules))) (sym taken) same

    asked_alike : (b : Bool) → leb (length (composed_members (layout c) (given ∷ rules))) 256 ≡ b → cond b (Ok tt) (Err Full) ≡ entry_answer (layout c) (composed_fits (layout c)) rules given
    asked_alike b h =
        ap (λ x. cond x (Ok tt) (Err Full)) (sym h)
        ∙ as_asked (rule_answer (layout c) given) (in_force given.number rules) (exact_fits (given ∷ rules)) (leb (length (composed_members (layout c) (given ∷ rules))) 256) taken

    -- d is the chart afterwards, which is the one before
    module _ (d : Chart) (kept : d ≡ c) where
      pub too_many_members : 256 < length (composed_members (layout d) after) → Err Full ≡ entry_answer (layout c) (composed_fits (layout c)) rules given
      too_many_members many =
          let here : 256 < length (composed_members (layout c) after) = subst (λ (x : Chart). 256 < length (composed_members (layout x) after)) kept many in
          let e = members_same c after (given ∷ rules) joined in
          asked_alike false (lt-leb (length (composed_members (layout c) (given ∷ rules))) 256 (omega arith))

      pub few_members : length (composed_members (layout d) after) ≤ 256 → Ok tt ≡ entry_answer (layout c) (composed_fits (layout c)) rules given
      few_members few =
          let here : length (composed_members (layout c) after) ≤ 256 = subst (λ (x : Chart). length (composed_members (layout x) after) ≤ 256) kept few in
          let e = members_same c after (given ∷ rules) joined in
          asked_alike true (le-leb (length (composed_members (layout c) (given ∷ rules))) 256 (omega arith))

      pub entered : length (composed_members (layout d) after) ≤ 256 → Same after (entry_list (layout c) (composed_fits (layout c)) rules given)
      entered few = subst (λ (a : Result (Unit {0}) BookRefusal). Same after (rules_after a rules (given ∷ rules))) (few_members few) joined

    -- a rule that has just come leaves the rules as they were
    pub left_again : (back : List RuleRecord) → Same back (withdrawal_list after given.number) → Same back rules
    left_again back h =
        let gone : withdrawal_list (given ∷ rules) given.number ≡ withdrawal_list rules given.number =
        ap (λ b. cond (not b) (given ∷ withdrawal_list rules given.number) (withdrawal_list rules given.number)) (eq-eqb given.number given.number refl) in
        chain h (chain (same_kept (λ r. not (r.number == given.number)) joined) (same_equal (gone ∙ absent rules given.number (entry_free (layout c) rules given (sym taken)))))

-- a refused withdrawal takes no rule
pub not_withdrawn : (rules : List RuleRecord) (n : ℕ) (e : BookRefusal) → Err e ≡ withdrawal_answer rules n → Same rules (withdrawal_list rules n)
not_withdrawn rules n e h = same_equal (sym (absent rules n (go (in_force n rules) h)))
  where
    go : (b : Bool) → Err e ≡ cond b (Ok (tt {0})) (Err NotInForce) → b ≡ false
    go true k = absurd (let z : ◌≡◌ {A = ℕ} 0 1 = cc in omega arith)
    go false k = cc
