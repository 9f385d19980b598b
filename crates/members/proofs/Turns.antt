-- The turns of the table's loops.
use Rattle.std.proofs.Common.{◌≡◌, ℕ, suc, ◌+◌, ◌-◌, ◌<◌, ◌≤◌, Bool, true, false, cond, ◌&&◌, eqb, List, [], ◌∷◌, ◌++◌, map, length, get_or, take, drop, sym, refl, ap, ◌∙◌, arith}
use Rattle.std.specs.List.{flat_map}
use Rattle.std.proofs.lemmas.List.{append_assoc, length-take-le, get_or-take, get_or_append_left, take_more, take-append-drop, take-take}
use Rattle.std.proofs.lemmas.Bool.{cond-true, cond-false, false≢true}
use Rattle.sets.specs.Bits.{rising}
use Rattle.chart.specs.declared.state.Chart.{Chart}
use Rattle.chart.specs.Layout.{Layout}
use Rattle.chart.specs.Charts.{layout}
use Rattle.chart.proofs.Sound.{links_length}
use Rattle.rules.specs.declared.view.View.{View}
use Rattle.members.specs.Compose.{bridges, share_none, composes, composition, compositions}
use Rattle.members.specs.Members.{among, with_new}
use Rattle.members.proofs.Views.{new_append, new_behind, new_longer}
use Rattle.members.proofs.Counts.{rising_none, rising_same}
use Rattle.members.proofs.Rank.{never_past}

-- one view more
pub new_there : (v : View) (xs : List View) → true ≡ among v xs → xs ≡ with_new xs (v ∷ [])
unfolding with_new
new_there v xs h = sym (cond-true (among v xs) xs (xs ++ v ∷ []) (sym h))

pub new_put : (v : View) (xs : List View) → false ≡ among v xs → xs ++ v ∷ [] ≡ with_new xs (v ∷ [])
unfolding with_new
new_put v xs h = sym (cond-false (among v xs) xs (xs ++ v ∷ []) (sym h))

pub new_none : (xs : List View) → with_new xs [] ≡ xs
unfolding with_new
new_none xs = refl

-- views that are added in turn: what is added now and what is still to come
pub new_step : (xs xs' all : List View) (v : View) (rest : List View) → xs' ≡ with_new xs (v ∷ []) → with_new xs (v ∷ rest) ≡ all → with_new xs' rest ≡ all
new_step xs xs' all v rest e inv = ap (λ ys. with_new ys rest) e ∙ sym (new_append xs (v ∷ []) rest) ∙ inv

pub new_over : (xs all : List View) (v : View) (rest : List View) → with_new xs (v ∷ rest) ≡ all → 256 < length (with_new xs (v ∷ [])) → 256 < length all
new_over xs all v rest inv over =
    omega (arith, ap length inv, ap length (new_append xs (v ∷ []) rest), new_longer (with_new xs (v ∷ [])) rest)

-- the compositions over links k to 63
abbrev pub from_link : Layout → View → View → ℕ → List View
from_link l a b k = map (composition a b) (rising (composes l a b) k (64 - k))

pub link_done : (l : Layout) (a b : View) (k : ℕ) → 64 ≤ k → from_link l a b k ≡ []
unfolding rising
link_done l a b k past =
    let e : 64 - k ≡ 0 = omega arith in
    ap (λ n. map (composition a b) (rising (composes l a b) k n)) e

-- a chart has at most 64 links
pub all_links : (c : Chart) (a b : View) → from_link (layout c) a b 0 ≡ compositions (layout c) a b
unfolding compositions
all_links c a b =
    let l = layout c in
    sym (ap (map (composition a b)) (rising_same (composes l a b) (length l.links) 64 0 (omega (arith, links_length c, c.counted.2)) (λ i past. never_past l a b i (omega arith))))

-- two views that compose over no link, and two that compose over each link with one end in each
never_with : (e s t : Bool) → false ≡ (e && s) → (e && (t && s)) ≡ false
never_with true false true h = refl
never_with true false false h = refl
never_with true true t h = absurd (false≢true h)
never_with false s t h = refl

always_with : (e s t : Bool) → true ≡ (e && s) → (e && (t && s)) ≡ t
always_with true true true h = refl
always_with true true false h = refl
always_with true false t h = absurd (false≢true (sym h))
always_with false s t h = absurd (false≢true (sym h))

pub pair_never : (l : Layout) (a b : View) (xs : List View) → false ≡ (eqb a.server b.server && share_none l a b) → xs ≡ with_new xs (compositions l a b)
unfolding composes compositions
pair_never l a b xs h =
    sym (ap (λ ks. with_new xs (map (composition a b) ks)) (rising_none (composes l a b) (length l.links) 0 (λ k low. never_with (eqb a.server b.server) (share_none l a b) (bridges l a b k) h))
    ∙ new_none xs)

-- one turn over the links: xs is in the table, and the compositions from link k on are still to come
module _ (l : Layout) (a b : View) (k : ℕ) (below : k < 64) (may : true ≡ (eqb a.server b.server && share_none l a b)) (xs all : List View)
    (inv : with_new xs (from_link l a b k) ≡ all) where
  if_bridged : (t : Bool) → t ≡ bridges l a b k → from_link l a b k ≡ map (composition a b) (cond t (k ∷ rising (composes l a b) (k + 1) (64 - (k + 1))) (rising (composes l a b) (k + 1) (64 - (k + 1))))
  unfolding rising composes
  if_bridged t h =
      let e : 64 - k ≡ suc (64 - (k + 1)) = omega arith in
      let rest = rising (composes l a b) (k + 1) (64 - (k + 1)) in
      ap (λ n. map (composition a b) (rising (composes l a b) k n)) e
      ∙ ap (λ u. map (composition a b) (cond u (k ∷ rest) rest)) (always_with (eqb a.server b.server) (share_none l a b) (bridges l a b k) may ∙ sym h)

  pub link_took : true ≡ bridges l a b k → (v : View) → v ≡ composition a b k → (xs' : List View) → xs' ≡ with_new xs (v ∷ []) → with_new xs' (from_link l a b (k + 1)) ≡ all
  link_took h v made xs' e =
      new_step xs xs' all v (from_link l a b (k + 1)) e
      (ap (λ w. with_new xs (w ∷ from_link l a b (k + 1))) made ∙ ap (with_new xs) (sym (if_bridged true h)) ∙ inv)

  pub link_over : true ≡ bridges l a b k → (v : View) → v ≡ composition a b k → 256 < length (with_new xs (v ∷ [])) → 256 < length all
  link_over h v made over =
      new_over xs all v (from_link l a b (k + 1))
      (ap (λ w. with_new xs (w ∷ from_link l a b (k + 1))) made ∙ ap (with_new xs) (sym (if_bridged true h)) ∙ inv) over

  pub link_passed : false ≡ bridges l a b k → (xs' : List View) → xs' ≡ xs → with_new xs' (from_link l a b (k + 1)) ≡ all
  link_passed h xs' e = ap (λ ys. with_new ys (from_link l a b (k + 1))) e ∙ ap (with_new xs) (sym (if_bridged false h)) ∙ inv

-- a list that is joined part by part
joined_append : (f : View → List View) (xs ys : List View) → flat_map f (xs ++ ys) ≡ flat_map f xs ++ flat_map f ys
joined_append f [] ys = refl
joined_append f (x ∷ xs) ys = ap (λ zs. f x ++ zs) (joined_append f xs ys) ∙ sym (append_assoc (f x) (flat_map f xs) (flat_map f ys))

append_none : (xs : List View) → xs ++ [] ≡ xs
append_none [] = refl
append_none (x ∷ xs) = ap (λ ys. x ∷ ys) (append_none xs)

module _ (f : View → List View) (xs os : List View) where
  parts_more : (j : ℕ) (d : View) → j < length os → with_new (with_new xs (flat_map f (take j os))) (f (get_or os j d)) ≡ with_new xs (flat_map f (take (j + 1) os))
  parts_more j d below =
      sym (new_append xs (flat_map f (take j os)) (f (get_or os j d)))
      ∙ ap (with_new xs) (
      ap (λ ys. flat_map f (take j os) ++ ys) (sym (append_none (f (get_or os j d))))
      ∙ sym (joined_append f (take j os) (get_or os j d ∷ []))
      ∙ ap (flat_map f) (sym (take_more os j d below)))

  parts_longer : (j : ℕ) → length (with_new xs (flat_map f (take j os))) ≤ length (with_new xs (flat_map f os))
  parts_longer j =
      let e = ap (λ ys. with_new xs (flat_map f ys)) (sym (take-append-drop j os)) ∙ ap (with_new xs) (joined_append f (take j os) (drop j os)) ∙ new_append xs (flat_map f (take j os)) (flat_map f (drop j os)) in
      omega (arith, ap length e, new_longer (with_new xs (flat_map f (take j os))) (flat_map f (drop j os)))

-- the row of one view: the table T at first, U at this turn, of which the first k places count
module _ (f : View → List View) (T U : List View) (n k i j : ℕ) (d : View) (n_in : n ≤ length T) (k_in : k ≤ length U) (i_in : i ≤ n) (below : j < i)
    (inv : take k U ≡ with_new (take n T) (flat_map f (take j T))) where
  -- a view that was there before is read unchanged
  read : get_or U j d ≡ get_or T j d
  read =
      let b = new_behind (take n T) (flat_map f (take j T)) in
      let lt = length-take-le n T n_in in
      let lu = length-take-le k U k_in in
      let more = new_longer (take n T) (flat_map f (take j T)) in
      let early : j < k = omega (arith, ap length inv) in
      sym (get_or-take k U j d early) ∙ ap (λ ys. get_or ys j d) (inv ∙ b.1) ∙ get_or_append_left (take n T) b.0 d j (omega arith) ∙ get_or-take n T j d (omega arith)

  row_next : with_new (take k U) (f (get_or U j d)) ≡ with_new (take n T) (flat_map f (take (j + 1) T))
  row_next =
      ap (λ v. with_new (take k U) (f v)) read ∙ ap (λ ys. with_new ys (f (get_or T j d))) inv ∙ parts_more f (take n T) T j d (omega arith)

  pub row_more : (V : List View) → V ≡ with_new (take k U) (f (get_or U j d)) → V ≡ with_new (take n T) (flat_map f (take (j + 1) T))
  row_more V e = e ∙ row_next

  pub row_over : 256 < length (with_new (take k U) (f (get_or U j d))) → 256 < length (with_new (take n T) (flat_map f (take i T)))
  row_over over =
      let longer = parts_longer f (take n T) (take i T) (j + 1) in
      let same = ap (λ os. length (with_new (take n T) (flat_map f os))) (take-take (j + 1) i T (omega arith)) in
      omega (arith, ap length row_next)

-- the row as the loop over rows reads it, from the places that count
pub row_same : (f : View → View → List View) (T : List View) (n i : ℕ) (d : View) → i < n
    → with_new (take n T) (flat_map (f (get_or T i d)) (take i T)) ≡ with_new (take n T) (flat_map (f (get_or (take n T) i d)) (take i (take n T)))
row_same f T n i d below =
    ap (λ v. with_new (take n T) (flat_map (f v) (take i T))) (sym (get_or-take n T i d below))
    ∙ ap (λ os. with_new (take n T) (flat_map (f (get_or (take n T) i d)) os)) (sym (take-take i n T (omega arith)))

pub row_is : (f : View → View → List View) (T : List View) (n i : ℕ) (d : View) → i < n → (V : List View)
    → V ≡ with_new (take n T) (flat_map (f (get_or T i d)) (take i T)) → V ≡ with_new (take n T) (flat_map (f (get_or (take n T) i d)) (take i (take n T)))
row_is f T n i d below V e = e ∙ row_same f T n i d below
