-- What an extended chart still keeps.
use Rattle.std.proofs.Common.{◌≡◌, ℕ, ◌+◌, ◌<◌, ◌≤◌, Bool, true, false, cond, not, ltb, leb, List, [], ◌∷◌, ◌++◌, length, take, set, Ok, Err, Option, refl, ap, ◌∙◌, arith}
use Rattle.std.specs.Option.{option_map}
use Rattle.std.specs.List.{AllByRecursion, list_all, list_any}
use Rattle.std.proofs.lemmas.List.{take_more_set}
use Rattle.std.proofs.lemmas.Bool.{and_parts, and_from, ltb-true, leb-true, lt-ltb}
use Rattle.chart.specs.declared.parts.Attribute.{Attribute}
use Rattle.chart.specs.declared.parts.Link.{Link}
use Rattle.chart.specs.declared.parts.Grade.{Grade}
use Rattle.chart.specs.declared.refusal.ChartRefusal.TheVariants.{Home, Widths, Limits, Ends, LinkLimit, LinkRepeated}
use Rattle.chart.specs.Layout.{Layout, proper, crosses, differ, relation_in, server_known}
use Rattle.chart.specs.Questions.{asked}
use Rattle.chart.specs.Build.{columns, widths_proper, room_for, relation_answer, link_answer, joins}
use Rattle.chart.proofs.Every.{all_append, all_mapped, all_weaker}
use Rattle.chart.proofs.Fronts.{nth_append}
use Rattle.chart.proofs.Sound.{crosses_tells}

-- where no question was answered with no, each was answered with yes
pub all_yes : {E T : Type 0} (qs : List (Bool × E)) (t u : T) → asked qs t ≡ Ok u → AllByRecursion (λ q. q.0 ≡ true) qs
all_yes [] t u h = tt
all_yes (q ∷ qs) t u h = go q.0 refl h (all_yes qs t u)
  where
    go : (b : Bool) → q.0 ≡ b → cond b (asked qs t) (Err q.1) ≡ Ok u → (asked qs t ≡ Ok u → AllByRecursion (λ r. r.0 ≡ true) qs) → AllByRecursion (λ r. r.0 ≡ true) (q ∷ qs)
    go true e h rest = (e, rest h)
    go false e h rest = absurd (let z : ◌≡◌ {A = ℕ} 0 1 = cc in omega arith)

-- what the questions for a relation told
module _ (l : Layout) (server : ℕ) (widths : List ℕ) (n : ℕ) (yes : relation_answer l server widths ≡ Ok n) where
  told : (server_known l server ≡ true) × ((widths_proper widths ≡ true) × ((room_for l widths ≡ true) × Unit {0}))
  told = all_yes ((server_known l server, Home) ∷ (widths_proper widths, Widths) ∷ (room_for l widths, Limits) ∷ []) (length l.homes) n yes

  pub server_told : ltb server l.servers ≡ true
  server_told = told.0

  pub widths_told : list_all (λ w. ltb 0 w) widths ≡ true
  widths_told = (and_parts (ltb 0 (length widths)) (list_all (λ w. ltb 0 w) widths) told.1.0).1

  pub relations_told : length l.homes < 32
  relations_told = ltb-true (length l.homes) 32 (and_parts (ltb (length l.homes) 32) (leb (length l.attributes + length widths) 64) told.1.1.0).0

  pub attributes_told : length l.attributes + length widths ≤ 64
  attributes_told = leb-true (length l.attributes + length widths) 64 (and_parts (ltb (length l.homes) 32) (leb (length l.attributes + length widths) 64) told.1.1.0).1

-- what the questions for a link told
module _ (l : Layout) (a b n : ℕ) (yes : link_answer l a b ≡ Ok n) where
  asked_link : (crosses l.attributes a b ≡ true) × ((ltb (length l.links) 64 ≡ true) × ((not (list_any (joins a b) l.links) ≡ true) × Unit {0}))
  asked_link = all_yes ((crosses l.attributes a b, Ends) ∷ (ltb (length l.links) 64, LinkLimit) ∷ (not (list_any (joins a b) l.links), LinkRepeated) ∷ []) (length l.links) n yes

  pub crosses_told : crosses l.attributes a b ≡ true
  crosses_told = asked_link.0

  pub links_told : length l.links < 64
  links_told = ltb-true (length l.links) 64 asked_link.1.0

-- more attributes: what crossed still crosses
pub crosses_more : (xs ys : List Attribute) (a b : ℕ) → crosses xs a b ≡ true → crosses (xs ++ ys) a b ≡ true
crosses_more xs ys a b h =
    let t = crosses_tells xs a b h in
    let relation : Option Attribute → Option ℕ = option_map (λ (x : Attribute). x.relation) in
    ap (λ o. differ (relation o) (relation_in (xs ++ ys) b)) (nth_append xs ys a t.0)
    ∙ ap (λ o. differ (relation_in xs a) (relation o)) (nth_append xs ys b t.1) ∙ h

-- one more relation: what was proper still is, and its own attributes are
pub proper_more : (n : ℕ) (x : Attribute) → proper n x ≡ true → proper (n + 1) x ≡ true
proper_more n x h =
    let p = and_parts (ltb x.relation n) (ltb 0 x.width) h in
    let r = ltb-true x.relation n p.0 in
    and_from (ltb x.relation (n + 1)) (ltb 0 x.width) (lt-ltb x.relation (n + 1) (omega arith)) p.1

pub columns_proper : (n : ℕ) (widths : List ℕ) → list_all (λ w. ltb 0 w) widths ≡ true → list_all (proper (n + 1)) (columns n widths) ≡ true
columns_proper n widths h =
    all_mapped (λ w. ltb 0 w) (proper (n + 1)) (λ w. record { relation = n; width = w })
    (λ w k. and_from (ltb n (n + 1)) (ltb 0 w) (lt-ltb n (n + 1) (omega arith)) k) widths h

pub owned_more : (n : ℕ) (xs : List Attribute) (widths : List ℕ) → list_all (proper n) xs ≡ true → list_all (λ w. ltb 0 w) widths ≡ true → list_all (proper (n + 1)) (xs ++ columns n widths) ≡ true
owned_more n xs widths old new = all_append (proper (n + 1)) xs (columns n widths) (all_weaker (proper n) (proper (n + 1)) (proper_more n) xs old) (columns_proper n widths new)

pub crossed_more : (xs ys : List Attribute) (links : List Link) → list_all (λ x. crosses xs x.left x.right) links ≡ true → list_all (λ x. crosses (xs ++ ys) x.left x.right) links ≡ true
crossed_more xs ys links h =
    all_weaker (λ x. crosses xs x.left x.right) (λ x. crosses (xs ++ ys) x.left x.right) (λ x k. crosses_more xs ys x.left x.right k) links h

-- one more element that passes, written behind the first n
pub front_more : {X : Type 0} (p : X → Bool) (xs : List X) (n : ℕ) (x : X) → n < length xs → list_all p (take n xs) ≡ true → p x ≡ true → list_all p (take (n + 1) (set xs n x)) ≡ true
front_more p xs n x room old new =
    ap (list_all p) (take_more_set xs n x room) ∙ all_append p (take n xs) (x ∷ []) old (and_from (p x) true new refl)

abbrev laid_by : ℕ → List ℕ → List Attribute → List Link → List Grade → Layout
laid_by s hs xs ls gs = record { servers = s; homes = hs; attributes = xs; links = ls; grades = gs }

-- layouts with the same parts are the same
pub same_layout : (s : ℕ) {hs hs' : List ℕ} {xs xs' : List Attribute} {ls ls' : List Link} (gs : List Grade) → hs ≡ hs' → xs ≡ xs' → ls ≡ ls' → laid_by s hs xs ls gs ≡ laid_by s hs' xs' ls' gs
same_layout s {hs} {hs'} {xs} {xs'} {ls} {ls'} gs homes attributes links =
    ap (λ y. laid_by s y xs ls gs) homes ∙ ap (λ y. laid_by s hs' y ls gs) attributes ∙ ap (λ y. laid_by s hs' xs' y gs) links
