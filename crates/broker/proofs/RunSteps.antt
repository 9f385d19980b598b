-- Runs of calls, call by call.
use Rattle.std.proofs.Common.{◌≡◌, ℕ, ◌+◌, ◌<◌, Bool, List, [], ◌∷◌, ◌++◌, length, get_or, drop, set, Option, sym, refl, ap, ◌∙◌, subst, arith}
use Rattle.std.proofs.lemmas.List.{append_assoc, append-nil, drop_more, set_at}
use Rattle.chart.specs.Layout.{Layout}
use Rattle.tariff.specs.Pricing.{Pricing}
use Rattle.rules.specs.declared.view.RuleRecord.{RuleRecord}
use Rattle.policy.specs.Same.{Same}
use Rattle.assignments.specs.declared.parts.Step.{Step}
use Rattle.assignments.specs.declared.parts.Place.{Place}
use Rattle.assignments.specs.declared.parts.Release.{Release}
use Rattle.broker.specs.declared.run.Call.{Call}
use Rattle.broker.specs.declared.run.Answer.{Answer}
use Rattle.broker.specs.Reference.{Reading}
use Rattle.broker.specs.Histories.{Event, Reached}
use Rattle.broker.specs.Runs.{State, state_by, answer_to, state_after, event_of, answers_to, state_then, events_of, Led, Stepped}

module _ {P : Type 0} (l : Layout) (fits : List RuleRecord → Bool) (reading : Reading) (c : Pricing P) where
  -- ---- one more call
  state_push : (s : State P) (ks : List Call) (k : Call) → state_then l fits reading c s (ks ++ k ∷ []) ≡ state_after l fits reading c (state_then l fits reading c s ks) k
  state_push s [] k = refl
  state_push s (j ∷ ks) k = state_push (state_after l fits reading c s j) ks k

  answers_push : (s : State P) (ks : List Call) (k : Call) → answers_to l fits reading c s (ks ++ k ∷ []) ≡ answers_to l fits reading c s ks ++ answer_to l fits reading c (state_then l fits reading c s ks) k ∷ []
  answers_push s [] k = refl
  answers_push s (j ∷ ks) k = ap (λ more. answer_to l fits reading c s j ∷ more) (answers_push (state_after l fits reading c s j) ks k)

  events_push : (s : State P) (ks : List Call) (k : Call) → events_of l fits reading c s (ks ++ k ∷ []) ≡ events_of l fits reading c s ks ++ event_of l fits reading c (state_then l fits reading c s ks) k ∷ []
  events_push s [] k = refl
  events_push s (j ∷ ks) k = ap (λ es. event_of l fits reading c s j ∷ es) (events_push (state_after l fits reading c s j) ks k)

  answers_length : (s : State P) (ks : List Call) → length (answers_to l fits reading c s ks) ≡ length ks
  answers_length s [] = refl
  answers_length s (k ∷ ks) = let h = answers_length (state_after l fits reading c s k) ks in omega arith

  pub led_none : (old rules : List RuleRecord) (work : List (Option (Place P))) (plan : List Step) (releases : List Release) → Same old rules → Led l fits reading c old (state_by work plan releases rules) [] old work plan releases
  led_none old rules work plan releases h = record {
    rules_then = h;
    work_then = refl;
    plan_then = refl;
    releases_then = refl;
    goes_on = λ first t was. subst (λ (u : List Event). Reached l fits old first u) (sym (append-nil t)) was;
  }

  module _ (old : List RuleRecord) (s : State P) (ks : List Call) (k : Call) (mid new : List RuleRecord)
      (work work' : List (Option (Place P))) (plan plan' : List Step) (releases releases' : List Release) (a : Answer P)
      (led : Led l fits reading c old s ks mid work plan releases) (step : Stepped l fits reading c mid (state_by work plan releases) k a new work' plan' releases') where
    abbrev here : State P
    here = state_then l fits reading c s ks

    -- the state before the call is the reference broker's
    same_state : state_by work plan releases here.rules ≡ here
    same_state =
        ap (λ (w : List (Option (Place P))). state_by w plan releases here.rules) led.work_then
        ∙ ap (λ (p : List Step). state_by here.work p releases here.rules) led.plan_then
        ∙ ap (λ (z : List Release). state_by here.work here.plan z here.rules) led.releases_then

    pub answer_more : a ≡ answer_to l fits reading c here k
    answer_more = step.answers here.rules led.rules_then ∙ ap (λ (v : State P). answer_to l fits reading c v k) same_state

    one : Led l fits reading c mid here (k ∷ []) new work' plan' releases'
    one = subst (λ (v : State P). Led l fits reading c mid v (k ∷ []) new work' plan' releases') same_state (step.led here.rules led.rules_then)

    pub led_more : Led l fits reading c old s (ks ++ k ∷ []) new work' plan' releases'
    led_more =
        let p = state_push s ks k in
        record {
          rules_then = subst (λ (v : State P). Same new v.rules) (sym p) one.rules_then;
          work_then = one.work_then ∙ ap (λ (v : State P). v.work) (sym p);
          plan_then = one.plan_then ∙ ap (λ (v : State P). v.plan) (sym p);
          releases_then = one.releases_then ∙ ap (λ (v : State P). v.releases) (sym p);
          goes_on = λ first t was.
              subst (λ (u : List Event). Reached l fits new first u)
              (append_assoc t (events_of l fits reading c s ks) (event_of l fits reading c here k ∷ []) ∙ ap (λ (u : List Event). t ++ u) (sym (events_push s ks k)))
              (one.goes_on first (t ++ events_of l fits reading c s ks) (led.goes_on first t was));
        }

  -- one more answer is written
  pub answers_more : (s : State P) (ks : List Call) (k : Call) (i : ℕ) (a : Answer P) (before out : List (Answer P)) → i < length before → length ks ≡ i
      → out ≡ answers_to l fits reading c s ks ++ drop i before → a ≡ answer_to l fits reading c (state_then l fits reading c s ks) k
      → set out i a ≡ answers_to l fits reading c s (ks ++ k ∷ []) ++ drop (i + 1) before
  answers_more s ks k i a before out below long w e =
      let said = answers_to l fits reading c s ks in
      ap (λ xs. set xs i a) (w ∙ ap (λ xs. said ++ xs) (drop_more before i a below))
      ∙ set_at said (get_or before i a) (drop (i + 1) before) a i (answers_length s ks ∙ long)
      ∙ ap (λ (b : Answer P). said ++ b ∷ drop (i + 1) before) e
      ∙ sym (append_assoc said (answer_to l fits reading c (state_then l fits reading c s ks) k ∷ []) (drop (i + 1) before))
      ∙ ap (λ xs. xs ++ drop (i + 1) before) (sym (answers_push s ks k))

-- a call as the book at opening has it: chart, fitting and reading never change
pub stepped_as : {P : Type 0} (l l' : Layout) (f f' : List RuleRecord → Bool) (r r' : Reading) (c : Pricing P) (old : List RuleRecord) (s : List RuleRecord → State P) (k : Call) (a : Answer P) (new : List RuleRecord)
    (work : List (Option (Place P))) (plan : List Step) (releases : List Release) → l ≡ l' → f ≡ f' → r ≡ r' → Stepped l f r c old s k a new work plan releases → Stepped l' f' r' c old s k a new work plan releases
stepped_as l l' f f' r r' c old s k a new work plan releases el ef er h =
    subst (λ (x : Layout). Stepped x f' r' c old s k a new work plan releases) el
    (subst (λ (x : List RuleRecord → Bool). Stepped l x r' c old s k a new work plan releases) ef
    (subst (λ (x : Reading). Stepped l f x c old s k a new work plan releases) er h))
