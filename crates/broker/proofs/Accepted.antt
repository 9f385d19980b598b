-- When entries and withdrawals are accepted.
use Rattle.std.proofs.Common.{◌≡◌, ℕ, Bool, true, false, cond, not, ◌&&◌, eqb, List, [], ◌∷◌, is_ok, Ok, Err, Decides, Result, sym, refl, ap, ◌∙◌, ap₂, ⊎_elim}
use Rattle.std.specs.List.{list_all}
use Rattle.std.proofs.lemmas.Bool.{and_parts, and_from, eq-eqb, eqb-true, not-true, not_from_false, both_ways, cases_Bool}
use Rattle.chart.specs.Questions.{asked}
use Rattle.chart.specs.Layout.{Layout}
use Rattle.rules.specs.declared.view.RuleRecord.{RuleRecord}
use Rattle.rules.specs.declared.refusal.RuleRefusal.{RuleRefusal}
use Rattle.rules.specs.Rules.{rule_questions, rule_answer, well_formed}
use Rattle.policy.specs.declared.refusal.BookRefusal.TheVariants.{InForce, Full, NotInForce}
use Rattle.policy.specs.Books.{in_force, own_first, place_answer, entry_answer, withdrawal_answer}
use Rattle.broker.specs.Histories.{Answer, Among}
use Rattle.broker.proofs.Members.{among_any, any_among}

-- questions are passed just where each is answered with yes
asked_ok : {E T : Type 0} (qs : List (Bool × E)) (t : T) → is_ok (asked qs t) ≡ list_all (λ (q : Bool × E). q.0) qs
asked_ok [] t = refl
asked_ok (q ∷ qs) t = go q.0 (asked_ok qs t)
  where
    go : (b : Bool) → is_ok (asked qs t) ≡ list_all (λ r. r.0) qs → is_ok (cond b (asked qs t) (Err q.1)) ≡ (b && list_all (λ r. r.0) qs)
    go true h = h
    go false h = refl

own_ok : (x : Result RuleRecord RuleRefusal) (y : Answer) → is_ok (own_first x y) ≡ (is_ok x && is_ok y)
own_ok (Ok r) y = refl
own_ok (Err e) y = refl

module _ (l : Layout) (fits : List RuleRecord → Bool) (rules : List RuleRecord) (r : RuleRecord) where
  entry_ok : is_ok (entry_answer l fits rules r) ≡ (well_formed l r && (not (in_force r.number rules) && (fits (r ∷ rules) && true)))
  entry_ok =
      own_ok (rule_answer l r) (place_answer fits rules r)
      ∙ ap₂ (λ (a b : Bool). a && b) (asked_ok (rule_questions l r) r) (asked_ok ((not (in_force r.number rules), InForce) ∷ (fits (r ∷ rules), Full) ∷ []) tt)

  -- accepted just where the rule is well formed, its number is free and the longer list fits
  pub entry_accepted : (a : Answer) → a ≡ entry_answer l fits rules r
      → Decides (is_ok a) ((well_formed l r ≡ true) × ((q : RuleRecord) → Among q rules → q.number ≡ r.number → ⊥) × (fits (r ∷ rules) ≡ true))
  entry_accepted a e = (to, from)
    where
      to : is_ok a ≡ true → (well_formed l r ≡ true) × ((q : RuleRecord) → Among q rules → q.number ≡ r.number → ⊥) × (fits (r ∷ rules) ≡ true)
      to h =
          let b = and_parts (well_formed l r) (not (in_force r.number rules) && (fits (r ∷ rules) && true)) (sym (ap is_ok e ∙ entry_ok) ∙ h) in
          let d = and_parts (not (in_force r.number rules)) (fits (r ∷ rules) && true) b.1 in (
            b.0,
            λ q k z. both_ways (in_force r.number rules) (not-true (in_force r.number rules) d.0) (among_any (λ p. eqb p.number r.number) rules q k (eq-eqb q.number r.number z)),
            (and_parts (fits (r ∷ rules)) true d.1).0,
          )

      free : ((q : RuleRecord) → Among q rules → q.number ≡ r.number → ⊥) → in_force r.number rules ≡ false
      free h = ⊎_elim (λ t. let f = any_among (λ p. eqb p.number r.number) rules t in absurd (h f.0 f.1 (eqb-true f.0.number r.number f.2))) (λ x. x) (cases_Bool (in_force r.number rules))

      from : (well_formed l r ≡ true) × ((q : RuleRecord) → Among q rules → q.number ≡ r.number → ⊥) × (fits (r ∷ rules) ≡ true) → is_ok a ≡ true
      from h =
          ap is_ok e ∙ entry_ok
          ∙ and_from (well_formed l r) (not (in_force r.number rules) && (fits (r ∷ rules) && true)) h.0
          (and_from (not (in_force r.number rules)) (fits (r ∷ rules) && true) (not_from_false (in_force r.number rules) (free h.1)) (and_from (fits (r ∷ rules)) true h.2 refl))

-- a withdrawal, just where a rule has the number
pub withdrawal_accepted : (rules : List RuleRecord) (n : ℕ) (a : Answer) → a ≡ withdrawal_answer rules n → Decides (is_ok a) ((q : RuleRecord) × Among q rules × (q.number ≡ n))
withdrawal_accepted rules n a e =
    let ok : is_ok a ≡ (in_force n rules && true) = ap is_ok e ∙ asked_ok ((in_force n rules, NotInForce) ∷ []) tt in (
      λ h. let f = any_among (λ p. eqb p.number n) rules (and_parts (in_force n rules) true (sym ok ∙ h)).0 in (f.0, f.1, eqb-true f.0.number n f.2),
      λ h. ok ∙ and_from (in_force n rules) true (among_any (λ p. eqb p.number n) rules h.0 h.1 (eq-eqb h.0.number n h.2)) refl,
    )
