-- A book's answer to an entry, from the rule's own questions and those of the book.
use Rattle.std.proofs.Common.{◌≡◌, ℕ, Bool, true, false, cond, List, [], ◌∷◌, Ok, Err, Result, ap, ◌∙◌, subst, arith}
use Rattle.chart.specs.Questions.{asked}
use Rattle.chart.specs.Layout.{Layout}
use Rattle.rules.specs.declared.view.RuleRecord.{RuleRecord}
use Rattle.rules.specs.declared.refusal.RuleRefusal.{RuleRefusal}
use Rattle.rules.specs.Rules.{rule_questions, rule_answer}
use Rattle.policy.specs.declared.refusal.BookRefusal.{BookRefusal}
use Rattle.policy.specs.declared.refusal.BookRefusal.TheVariants.{Rule}
use Rattle.policy.specs.Same.{Same}
use Rattle.policy.specs.Books.{own_first, place_answer, entry_answer, entry_list, rules_after}
use Rattle.policy.proofs.Orders.{same_refl}

-- questions that are all answered with yes give what was asked about
asked_is : {E T : Type 0} (qs : List (Bool × E)) (t u : T) → Ok u ≡ asked qs t → u ≡ t
asked_is [] t u h = cc
asked_is (q ∷ qs) t u h = go q.0 h (asked_is qs t u)
  where
    go : (b : Bool) → Ok u ≡ cond b (asked qs t) (Err q.1) → (Ok u ≡ asked qs t → u ≡ t) → u ≡ t
    go true k rest = rest k
    go false k rest = absurd (let z : ◌≡◌ {A = ℕ} 0 1 = cc in omega arith)

module _ (l : Layout) (fits : List RuleRecord → Bool) (rules : List RuleRecord) (given : RuleRecord) where
  pub rule_given : (r : RuleRecord) → Ok r ≡ rule_answer l given → r ≡ given
  rule_given r h = asked_is (rule_questions l given) given r h

  -- the rule passed its own questions, and the book answered
  pub entry_is : (answer : Result (Unit {0}) BookRefusal) (r : RuleRecord) → Ok r ≡ rule_answer l given → answer ≡ place_answer fits rules r → answer ≡ entry_answer l fits rules given
  entry_is answer r passed h =
      h ∙ ap (place_answer fits rules) (rule_given r passed) ∙ ap (λ o. own_first o (place_answer fits rules given)) passed

  pub entry_after : (answer : Result (Unit {0}) BookRefusal) (r : RuleRecord) (after : List RuleRecord) → Ok r ≡ rule_answer l given → answer ≡ place_answer fits rules r
      → Same after (rules_after answer rules (r ∷ rules)) → Same after (entry_list l fits rules given)
  entry_after answer r after passed h same =
      let e = entry_is answer r passed h in
      subst (λ (x : RuleRecord). Same after (rules_after (entry_answer l fits rules given) rules (x ∷ rules))) (rule_given r passed)
      (subst (λ (a : Result (Unit {0}) BookRefusal). Same after (rules_after a rules (r ∷ rules))) e same)

  -- the rule did not pass
  pub refusal_is : (e : RuleRefusal) → Err e ≡ rule_answer l given → Err (Rule e) ≡ entry_answer l fits rules given
  refusal_is e h = ap (λ o. own_first o (place_answer fits rules given)) h

  -- a refusal leaves the rules as they were
  pub refused_after : (e : BookRefusal) → Err e ≡ entry_answer l fits rules given → Same rules (entry_list l fits rules given)
  refused_after e h = subst (λ (a : Result (Unit {0}) BookRefusal). Same rules (rules_after a rules (given ∷ rules))) h (same_refl rules)

  pub refusal_after : (e : RuleRefusal) → Err e ≡ rule_answer l given → Same rules (entry_list l fits rules given)
  refusal_after e h = refused_after (Rule e) (refusal_is e h)
