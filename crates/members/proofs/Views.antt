-- Views in lists: which there are, and lists without repeats.
use Rattle.std.proofs.Common.{◌≡◌, ℕ, zero, suc, ◌<◌, ◌≤◌, Bool, true, false, cond, ◌&&◌, ◌||◌, eqb, ◌⊎◌, List, [], ◌∷◌, ◌++◌, length, get_or, take, drop, sym, refl, ap, ◌∙◌, inl, inr, arith}
use Rattle.std.proofs.lemmas.List.{append-nil, append_assoc, length-append, take-append-drop}
use Rattle.std.proofs.lemmas.Bool.{eqb-true, eq-eqb, and_parts, and_from, or_left, or_right, or_cases, or_parts, both_ways, false≢true}
use Rattle.sets.specs.declared.small_set.SmallSet.{SmallSet}
use Rattle.sets.specs.Sets.{same}
use Rattle.sets.proofs.Sets.{same_is, is_same}
use Rattle.rules.specs.declared.view.View.{View}
use Rattle.members.specs.Members.{same_view, among, Distinct, with_new}
use Rattle.members.specs.Laws.{Within}

abbrev seen : ℕ → SmallSet → SmallSet → View
seen s a p = record { server = s; attributes = a; path = p }

pub same_view_is : (v w : View) → same_view v w ≡ true → v ≡ w
same_view_is v w h =
    let p = and_parts (eqb v.server w.server) (same v.attributes w.attributes && same v.path w.path) h in
    let q = and_parts (same v.attributes w.attributes) (same v.path w.path) p.1 in
    ap (λ s. seen s v.attributes v.path) (eqb-true v.server w.server p.0)
    ∙ ap (λ a. seen w.server a v.path) (same_is v.attributes w.attributes q.0)
    ∙ ap (λ a. seen w.server w.attributes a) (same_is v.path w.path q.1)

pub is_same_view : (v w : View) → v ≡ w → same_view v w ≡ true
is_same_view v w e =
    and_from (eqb v.server w.server) (same v.attributes w.attributes && same v.path w.path)
    (eq-eqb v.server w.server (ap (λ (u : View). u.server) e))
    (and_from (same v.attributes w.attributes) (same v.path w.path)
    (is_same v.attributes w.attributes (ap (λ (u : View). u.attributes) e))
    (is_same v.path w.path (ap (λ (u : View). u.path) e)))

-- two tests that tell the same
pub iff_same : (a b : Bool) → (a ≡ true → b ≡ true) → (b ≡ true → a ≡ true) → a ≡ b
iff_same true b p q = sym (p refl)
iff_same false true p q = q refl
iff_same false false p q = refl

or_assoc : (a b c : Bool) → ((a || b) || c) ≡ (a || (b || c))
or_assoc true b c = refl
or_assoc false b c = refl

or_none : (a : Bool) → (a || false) ≡ a
or_none true = refl
or_none false = refl

pub among_here : (v : View) (vs : List View) → among v (v ∷ vs) ≡ true
among_here v vs = or_left (same_view v v) (among v vs) (is_same_view v v refl)

pub among_append : (v : View) (xs ys : List View) → among v (xs ++ ys) ≡ (among v xs || among v ys)
among_append v [] ys = refl
among_append v (x ∷ xs) ys = ap (λ b. same_view v x || b) (among_append v xs ys) ∙ sym (or_assoc (same_view v x) (among v xs) (among v ys))

pub among_left : (v : View) (xs ys : List View) → among v xs ≡ true → among v (xs ++ ys) ≡ true
among_left v xs ys h = among_append v xs ys ∙ or_left (among v xs) (among v ys) h

pub among_right : (v : View) (xs ys : List View) → among v ys ≡ true → among v (xs ++ ys) ≡ true
among_right v xs ys h = among_append v xs ys ∙ or_right (among v xs) (among v ys) h

-- the last one put behind a list, or one before it
pub among_push : (v x : View) (xs : List View) → among v (xs ++ x ∷ []) ≡ true → (among v xs ≡ true) ⊎ (v ≡ x)
among_push v x xs h =
    elim (or_cases (among v xs) (same_view v x || false) (sym (among_append v xs (x ∷ [])) ∙ h)) [
      | inl a ↦ inl a
      | inr b ↦ inr (same_view_is v x (sym (or_none (same_view v x)) ∙ b))
    ]

pub among_take : (v : View) (i : ℕ) (xs : List View) → among v (take i xs) ≡ true → among v xs ≡ true
among_take v i xs h = sym (ap (among v) (take-append-drop i xs)) ∙ among_left v (take i xs) (drop i xs) h

pub among_at : (xs : List View) (i : ℕ) (d : View) → i < length xs → among (get_or xs i d) xs ≡ true
among_at [] i d below = absurd (omega arith)
among_at (x ∷ xs) zero d below = among_here x xs
among_at (x ∷ xs) (suc i) d below = or_right (same_view (get_or xs i d) x) (among (get_or xs i d) xs) (among_at xs i d (omega arith))

-- lists without repeats
pub distinct_push : (x : View) (xs : List View) → Distinct xs → among x xs ≡ false → Distinct (xs ++ x ∷ [])
distinct_push x [] d new = (refl, tt)
distinct_push x (y ∷ ys) d new =
    let n = or_parts (same_view x y) (among x ys) new in
    (other (among y (ys ++ x ∷ [])) refl n.0, distinct_push x ys d.1 n.1)
  where
    other : (b : Bool) → among y (ys ++ x ∷ []) ≡ b → same_view x y ≡ false → b ≡ false
    other false e differ = refl
    other true e differ =
        elim (among_push y x ys e) [
          | inl a ↦ absurd (both_ways (among y ys) d.0 a)
          | inr s ↦ absurd (both_ways (same_view x y) differ (is_same_view x y (sym s)))
        ]

-- a list less one view
less : View → List View → List View
less v [] = []
less v (w ∷ ws) = cond (same_view v w) ws (w ∷ less v ws)

less_length : (v : View) (ws : List View) → among v ws ≡ true → length ws ≡ suc (length (less v ws))
unfolding less
less_length v [] h = absurd (false≢true h)
less_length v (w ∷ ws) h = go (same_view v w) h (less_length v ws)
  where
    go : (b : Bool) → (b || among v ws) ≡ true → (among v ws ≡ true → length ws ≡ suc (length (less v ws))) → suc (length ws) ≡ suc (length (cond b ws (w ∷ less v ws)))
    go true h rest = refl
    go false h rest = ap suc (rest h)

less_among : (v y : View) (ws : List View) → among y ws ≡ true → (v ≡ y) ⊎ (among y (less v ws) ≡ true)
unfolding less
less_among v y [] h = absurd (false≢true h)
less_among v y (w ∷ ws) h = go (same_view v w) refl (or_cases (same_view y w) (among y ws) h) (less_among v y ws)
  where
    go : (b : Bool) → same_view v w ≡ b → (same_view y w ≡ true) ⊎ (among y ws ≡ true) → (among y ws ≡ true → (v ≡ y) ⊎ (among y (less v ws) ≡ true)) → (v ≡ y) ⊎ (among y (cond b ws (w ∷ less v ws)) ≡ true)
    go true e (inl s) rest = inl (same_view_is v w e ∙ sym (same_view_is y w s))
    go true e (inr k) rest = inr k
    go false e (inl s) rest = inr (or_left (same_view y w) (among y (less v ws)) s)
    go false e (inr k) rest = elim (rest k) [ inl q ↦ inl q | inr q ↦ inr (or_right (same_view y w) (among y (less v ws)) q) ]

-- a list without repeats is no longer than one that has its views
pub distinct_le : (xs ys : List View) → Distinct xs → Within xs ys → length xs ≤ length ys
distinct_le [] ys d h = omega arith
distinct_le (x ∷ xs) ys d h =
    let e = less_length x ys (h x (among_here x xs)) in
    let below = distinct_le xs (less x ys) d.1 (λ y k. elim (less_among x y ys (h y (or_right (same_view y x) (among y xs) k))) [
      | inl q ↦ absurd (both_ways (among x xs) d.0 (ap (λ v. among v xs) q ∙ k))
      | inr r ↦ r
    ]) in
    omega arith

-- what putting the new ones behind a list does
new_one : (y : View) (xs : List View) (b : Bool) → among y xs ≡ b → (v : View) → among v (cond b xs (xs ++ y ∷ [])) ≡ (among v xs || same_view v y)
new_one y xs true e v = iff_same (among v xs) (among v xs || same_view v y) (or_left (among v xs) (same_view v y)) (λ h. elim (or_cases (among v xs) (same_view v y) h) [
  | inl a ↦ a
  | inr s ↦ ap (λ w. among w xs) (same_view_is v y s) ∙ e
])
new_one y xs false e v = among_append v xs (y ∷ []) ∙ ap (λ b. among v xs || b) (or_none (same_view v y))

pub among_new : (v : View) (xs ys : List View) → among v (with_new xs ys) ≡ (among v xs || among v ys)
unfolding with_new
among_new v xs [] = sym (or_none (among v xs))
among_new v xs (y ∷ ys) =
    among_new v (cond (among y xs) xs (xs ++ y ∷ [])) ys
    ∙ ap (λ b. b || among v ys) (new_one y xs (among y xs) refl v)
    ∙ or_assoc (among v xs) (same_view v y) (among v ys)

pub distinct_new : (xs ys : List View) → Distinct xs → Distinct (with_new xs ys)
unfolding with_new
distinct_new xs [] d = d
distinct_new xs (y ∷ ys) d = distinct_new (cond (among y xs) xs (xs ++ y ∷ [])) ys (go (among y xs) refl)
  where
    go : (b : Bool) → among y xs ≡ b → Distinct (cond b xs (xs ++ y ∷ []))
    go true e = d
    go false e = distinct_push y xs d e

-- the list stays in front
pub new_behind : (xs ys : List View) → (zs : List View) × (with_new xs ys ≡ xs ++ zs)
unfolding with_new
new_behind xs [] = ([], sym (append-nil xs))
new_behind xs (y ∷ ys) = go (among y xs) (new_behind (cond (among y xs) xs (xs ++ y ∷ [])) ys)
  where
    go : (b : Bool) → (zs : List View) × (with_new (cond b xs (xs ++ y ∷ [])) ys ≡ cond b xs (xs ++ y ∷ []) ++ zs) → (zs : List View) × (with_new (cond b xs (xs ++ y ∷ [])) ys ≡ xs ++ zs)
    go true (zs, e) = (zs, e)
    go false (zs, e) = (y ∷ zs, e ∙ append_assoc xs (y ∷ []) zs)

pub new_longer : (xs ys : List View) → length xs ≤ length (with_new xs ys)
new_longer xs ys =
    let b = new_behind xs ys in
    omega (arith, ap length b.1, length-append xs b.0)

pub new_append : (xs ys zs : List View) → with_new xs (ys ++ zs) ≡ with_new (with_new xs ys) zs
unfolding with_new
new_append xs [] zs = refl
new_append xs (y ∷ ys) zs = new_append (cond (among y xs) xs (xs ++ y ∷ [])) ys zs
