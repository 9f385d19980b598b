-- Whether a table lists a view, and the turn of a loop that adds the views of slots.
use Rattle.std.proofs.Common.{◌≡◌, ℕ, Bool, ◌+◌, ◌<◌, ◌≤◌, ◌&&◌, eqb, List, [], ◌∷◌, length, get_or, drop, Some, None, Option, sym, refl, ap, ◌∙◌, subst, arith}
use Rattle.std.specs.List.{flat_map, list_any}
use Rattle.std.proofs.lemmas.Bool.Decides.{nat_tests}
use Rattle.std.proofs.lemmas.List.{at_drop_more, at_drop_all, get_or_read}
use Rattle.rules.specs.declared.view.View.{View}
use Rattle.rules.specs.declared.rule.Rule.{Rule}
use Rattle.members.specs.Members.{same_view, among, with_new}
use Rattle.members.proofs.Turns.{new_none, new_step, new_over}
use Rattle.policy.specs.Reading.{granted}
use Rattle.books.specs.Slots.{held}
use Rattle.composed.specs.declared.table.MemberTable.{MemberTable}
use Rattle.composed.specs.Table.{listed, Fills}

-- a list has a view where one of its views is that one
any_among : (v : View) (vs : List View) → list_any (λ (w : View). eqb w.server v.server && (eqb w.attributes.bits v.attributes.bits && eqb w.path.bits v.path.bits)) vs ≡ among v vs
any_among v [] = refl
any_among v (w ∷ vs) =
    let turn : (eqb w.server v.server && (eqb w.attributes.bits v.attributes.bits && eqb w.path.bits v.path.bits)) ≡ same_view v w = grind (arith, nat_tests) in
    grind (arith, turn, any_among v vs)

-- what a search of the table's views says
pub searched : (v : View) (t : MemberTable) (views : List View) (r : Bool) → r ≡ list_any (λ (w : View). eqb w.server v.server && (eqb w.attributes.bits v.attributes.bits && eqb w.path.bits v.path.bits)) views → views ≡ listed t
    → r ≡ among v (listed t)
searched v t views r said whole = said ∙ any_among v views ∙ ap (among v) whole

-- views held one by one
pub views_alone : (vs : List View) → flat_map (λ (v : View). v ∷ []) vs ≡ vs
views_alone [] = refl
views_alone (v ∷ vs) = ap (λ rest. v ∷ rest) (views_alone vs)

-- slot x was read at i; xs is in the table, and the views of the rules from there on are still to come
module _ (slots : List (Option Rule)) (i : ℕ) (x : Option Rule) (below : i < length slots) (read : x ≡ get_or slots i x) (xs all : List View)
    (inv : with_new xs (granted (held (drop i slots))) ≡ all) where
  from_here : with_new xs (granted (held (x ∷ drop (i + 1) slots))) ≡ all
  from_here =
      sym (ap (λ ss. with_new xs (granted ss)) (at_drop_more held slots i None below ∙ ap (λ o. held (o ∷ drop (i + 1) slots)) (sym (get_or_read slots i x below read None)))) ∙ inv

  pub slot_took : (r : Rule) → x ≡ Some r → (xs' : List View) → xs' ≡ with_new xs (r.given.view ∷ []) → with_new xs' (granted (held (drop (i + 1) slots))) ≡ all
  slot_took r is xs' e = new_step xs xs' all r.given.view (granted (held (drop (i + 1) slots))) e (sym (ap (λ o. with_new xs (granted (held (o ∷ drop (i + 1) slots)))) is) ∙ from_here)

  pub slot_over : (r : Rule) → x ≡ Some r → 256 < length (with_new xs (r.given.view ∷ [])) → 256 < length all
  slot_over r is over = new_over xs all r.given.view (granted (held (drop (i + 1) slots))) (sym (ap (λ o. with_new xs (granted (held (o ∷ drop (i + 1) slots)))) is) ∙ from_here) over

  pub slot_passed : x ≡ None → (xs' : List View) → xs' ≡ xs → with_new xs' (granted (held (drop (i + 1) slots))) ≡ all
  slot_passed is xs' e = ap (λ ys. with_new ys (granted (held (drop (i + 1) slots)))) e ∙ sym (ap (λ o. with_new xs (granted (held (o ∷ drop (i + 1) slots)))) is) ∙ from_here

pub slots_done : (slots : List (Option Rule)) (i : ℕ) → length slots ≤ i → (xs all : List View) → with_new xs (granted (held (drop i slots))) ≡ all → xs ≡ all
slots_done slots i past xs all inv = sym (ap (λ ss. with_new xs (granted ss)) (at_drop_all held slots i past) ∙ new_none xs) ∙ inv

-- views that are too many fill nothing
pub too_many : {r : Option (Unit {0})} (t : MemberTable) (views : List View) → r ≡ None → 256 < length views → Fills r t views
too_many t views e over = subst (λ (o : Option (Unit {0})). Fills o t views) (sym e) over
