-- The reference broker, call by call, on lists that differ in their order alone.
use Rattle.std.proofs.Common.{◌≡◌, ℕ, Bool, not, eqb, List, [], ◌∷◌, ◌++◌, Ok, Err, sym, refl, ap, subst, ap₂}
use Rattle.chart.specs.Questions.{asked}
use Rattle.chart.specs.Layout.{Layout}
use Rattle.rules.specs.declared.view.RuleRecord.{RuleRecord}
use Rattle.rules.specs.Rules.{rule_answer}
use Rattle.policy.specs.declared.refusal.BookRefusal.TheVariants.{InForce, Full, NotInForce}
use Rattle.policy.specs.Same.{Same, keep}
use Rattle.policy.specs.Books.{own_first, rules_after, entry_answer, entry_list, withdrawal_answer, withdrawal_list}
use Rattle.policy.proofs.Orders.{same_any, same_kept}
use Rattle.broker.specs.Histories.{Answer, Event, next, replayed, Answered, AllAnswered, Reached}

after_same : (a : Answer) (r : RuleRecord) {xs ys : List RuleRecord} → Same xs ys → Same (rules_after a xs (r ∷ xs)) (rules_after a ys (r ∷ ys))
after_same (Ok t) r h = keep r h
after_same (Err e) r h = h

pub withdrawal_answer_same : {xs ys : List RuleRecord} (n : ℕ) → Same xs ys → withdrawal_answer xs n ≡ withdrawal_answer ys n
withdrawal_answer_same n h = ap (λ (b : Bool). asked {T = Unit {0}} ((b, NotInForce) ∷ []) tt) (same_any (λ r. eqb r.number n) h)

pub withdrawal_list_same : {xs ys : List RuleRecord} (n : ℕ) → Same xs ys → Same (withdrawal_list xs n) (withdrawal_list ys n)
withdrawal_list_same n h = same_kept (λ r. not (eqb r.number n)) h

module _ (l : Layout) (fits : List RuleRecord → Bool) where
  module _ (alike : (xs ys : List RuleRecord) → Same xs ys → fits xs ≡ fits ys) where
    pub entry_answer_same : {xs ys : List RuleRecord} (r : RuleRecord) → Same xs ys → entry_answer l fits xs r ≡ entry_answer l fits ys r
    entry_answer_same {xs} {ys} r h =
        ap₂ (λ (a b : Bool). own_first (rule_answer l r) (asked ((not a, InForce) ∷ (b, Full) ∷ []) tt)) (same_any (λ q. eqb q.number r.number) h) (alike (r ∷ xs) (r ∷ ys) (keep r h))

    pub entry_list_same : {xs ys : List RuleRecord} (r : RuleRecord) → Same xs ys → Same (entry_list l fits xs r) (entry_list l fits ys r)
    entry_list_same {xs} {ys} r h =
        subst (λ (a : Answer). Same (rules_after (entry_answer l fits xs r) xs (r ∷ xs)) (rules_after a ys (r ∷ ys))) (entry_answer_same r h) (after_same (entry_answer l fits xs r) r h)

  replayed_push : (rules : List RuleRecord) (t : List Event) (h : Event) → replayed l fits rules (t ++ h ∷ []) ≡ next l fits (replayed l fits rules t) h
  replayed_push rules [] h = refl
  replayed_push rules (k ∷ t) h = replayed_push (next l fits rules k) t h

  answered_push : (rules : List RuleRecord) (t : List Event) (h : Event) → AllAnswered l fits rules t → Answered l fits (replayed l fits rules t) h → AllAnswered l fits rules (t ++ h ∷ [])
  answered_push rules [] h a b = (b, tt)
  answered_push rules (k ∷ t) h a b = (a.0, answered_push (next l fits rules k) t h a.1 b)

  -- one more call
  pub reached_push : (new first : List RuleRecord) (t : List Event) (h : Event) → AllAnswered l fits first t → Answered l fits (replayed l fits first t) h → Same new (next l fits (replayed l fits first t) h)
      → Reached l fits new first (t ++ h ∷ [])
  reached_push new first t h a b s = record {
    answered = answered_push first t h a b;
    led_to = subst (λ (rules : List RuleRecord). Same new rules) (sym (replayed_push first t h)) s;
  }
