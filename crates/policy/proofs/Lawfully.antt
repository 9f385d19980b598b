-- The exact reading keeps the laws of a policy.
use Rattle.std.proofs.Common.{◌≡◌, ℕ, true, false, not, ◌&&◌, eqb, leb, List, [], ◌∷◌, length, sym, refl, ap, ◌∙◌, inl, inr}
use Rattle.std.specs.List.{list_all}
use Rattle.std.proofs.lemmas.Bool.{and_parts, and_from, eqb-true, cases_Bool, both_ways, or_from}
use Rattle.sets.specs.Sets.{union, subset, same, below, none}
use Rattle.sets.proofs.Sets.{subset_trans, subset_union, union_comm, same_is}
use Rattle.chart.specs.declared.state.Chart.{Chart}
use Rattle.chart.specs.Charts.{layout}
use Rattle.chart.specs.Layout.{Layout, server_known}
use Rattle.chart.specs.Lookup.{attributes_known, links_known}
use Rattle.profile.specs.declared.shape.Profile.{Profile}
use Rattle.rules.specs.declared.view.View.{View}
use Rattle.rules.specs.declared.view.RuleRecord.{RuleRecord}
use Rattle.rules.specs.Rules.{well_formed, path_joins}
use Rattle.rules.specs.Trees.{tree}
use Rattle.policy.specs.Reading.{view_lets, exact_reading, inside}
use Rattle.policy.specs.Books.{apart}
use Rattle.policy.specs.Lawful.{Lawful}
use Rattle.policy.proofs.Orders.{same_exact}

-- what a well-formed rule names is known
pub rule_parts : (l : Layout) (r : RuleRecord) → well_formed l r ≡ true → (server_known l r.view.server ≡ true) × (attributes_known l r.view.attributes ≡ true) × (links_known l r.view.path ≡ true)
unfolding path_joins
rule_parts l r formed =
    let v = r.view in
    let q1 = and_parts (leb 1 r.number && leb r.number 999)
    (server_known l v.server && ((attributes_known l v.attributes && not (same v.attributes none)) && (path_joins l v && true))) formed in
    let q2 = and_parts (server_known l v.server) ((attributes_known l v.attributes && not (same v.attributes none)) && (path_joins l v && true)) q1.1 in
    let q3 = and_parts (attributes_known l v.attributes && not (same v.attributes none)) (path_joins l v && true) q2.1 in
    let q4 = and_parts (path_joins l v) true q3.1 in
    (q2.0, (and_parts (attributes_known l v.attributes) (not (same v.attributes none)) q3.0).0, (and_parts (links_known l v.path) (tree l v.attributes v.path) q4.0).0)

-- what the view of a well-formed rule lets a server see lies inside the chart
module _ (l : Layout) (server : ℕ) (p : Profile) where
  pub view_inside : (v : View) → server_known l v.server ≡ true → attributes_known l v.attributes ≡ true → links_known l v.path ≡ true → view_lets server p v ≡ true → inside l server p ≡ true
  view_inside v known attributes links lets =
      let a = and_parts (eqb v.server server && same v.path p.path) (subset (union p.shown p.filtered) v.attributes) lets in
      let b = and_parts (eqb v.server server) (same v.path p.path) a.0 in
      let n = below (length l.attributes) in
      let all = subset_trans (union p.shown p.filtered) v.attributes n a.1 attributes in
      let shown = subset_trans p.shown (union p.shown p.filtered) n (subset_union p.shown p.filtered) all in
      let filtered = subset_trans p.filtered (union p.shown p.filtered) n
      (ap (subset p.filtered) (union_comm p.shown p.filtered) ∙ subset_union p.filtered p.shown) all in
      and_from (server_known l server && attributes_known l p.shown) (attributes_known l p.filtered && links_known l p.path)
      (and_from (server_known l server) (attributes_known l p.shown) (ap (server_known l) (sym (eqb-true v.server server b.0)) ∙ known) shown)
      (and_from (attributes_known l p.filtered) (links_known l p.path) filtered (ap (links_known l) (sym (same_is v.path p.path b.1)) ∙ links))

  rule_inside : (r : RuleRecord) → well_formed l r ≡ true → view_lets server p r.view ≡ true → inside l server p ≡ true
  rule_inside r formed lets = let k = rule_parts l r formed in view_inside r.view k.0 k.1 k.2 lets

  pub exact_outside : (rules : List RuleRecord) → list_all (well_formed l) rules ≡ true → inside l server p ≡ false → exact_reading rules server p ≡ false
  exact_outside [] formed out = refl
  exact_outside (r ∷ rules) formed out =
      let b = and_parts (well_formed l r) (list_all (well_formed l) rules) formed in
      or_from (view_lets server p r.view) (exact_reading rules server p) (not_let b.0) (exact_outside rules b.1 out)
    where
      not_let : well_formed l r ≡ true → view_lets server p r.view ≡ false
      not_let fine = elim (cases_Bool (view_lets server p r.view)) [
        | inl lets ↦ absurd (both_ways (inside l server p) out (rule_inside r fine lets))
        | inr no-let ↦ no-let
      ]

pub exact_lawful : (chart : Chart) (rules : List RuleRecord) → apart rules ≡ true → list_all (well_formed (layout chart)) rules ≡ true → Lawful chart rules exact_reading
exact_lawful chart rules distinct formed = record {
  order = same_exact;
  distinct = distinct;
  formed = formed;
  outside = λ server p out. exact_outside (layout chart) server p rules formed out;
}
