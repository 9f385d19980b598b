-- The sets that a check keeps of the nodes before one.
use Rattle.std.proofs.Common.{◌≡◌, ℕ, ◌+◌, ◌<◌, Bool, true, false, not, ◌&&◌, ◌||◌, eqb, ltb, ◌⊎◌, List, [], ◌∷◌, ◌++◌, length, take, Some, None, Option, sym, refl, ap, ◌∙◌, inl, inr, arith}
use Rattle.std.specs.List.{list_all, list_any}
use Rattle.std.proofs.lemmas.List.{take_more}
use Rattle.std.proofs.lemmas.Bool.{cases_Bool, cond-true, cond-false, ltb-true, ltb-false, ne_eqb}
use Rattle.std.proofs.Math.Bool.{or-false}
use Rattle.std.specs.Option.{unwrap_or}
use Rattle.sets.specs.declared.small_set.SmallSet.{SmallSet}
use Rattle.sets.specs.Sets.{has, union, single, insert_answer}
use Rattle.sets.proofs.Sets.{union_has, single_has}
use Rattle.queries.specs.declared.node.Node.{Node}
use Rattle.queries.specs.Flat.{node}
use Rattle.queries.specs.Questions.{uses, is_leaf, used_by, stands_in, operands_fit, different}

-- A number below 64 is put in; no set below 64 tells of another.
pub inserted : (s : SmallSet) (i j : ℕ) → j < 64 → has (unwrap_or (insert_answer s i) s) j ≡ (has s j || eqb i j)
inserted s i j h = go (cases_Bool (ltb i 64))
  where
    go : (ltb i 64 ≡ true) ⊎ (ltb i 64 ≡ false) → has (unwrap_or (insert_answer s i) s) j ≡ (has s j || eqb i j)
    go (inl t) =
        ap (λ (r : Option SmallSet). has (unwrap_or r s) j) (cond-true (ltb i 64) (Some (union s (single i))) None t)
        ∙ union_has s (single i) j ∙ ap (λ (b : Bool). has s j || b) (single_has i j)
    go (inr f) =
        ap (λ (r : Option SmallSet). has (unwrap_or r s) j) (cond-false (ltb i 64) (Some (union s (single i))) None f)
        ∙ sym (ap (λ (b : Bool). has s j || b) (ne_eqb i j (λ e. omega (arith, ltb-false i 64 f))) ∙ or-false (has s j))

any_push : {X : Type 0} (p : X → Bool) (xs : List X) (y : X) → list_any p (xs ++ y ∷ []) ≡ (list_any p xs || p y)
any_push p [] y = or-false (p y)
any_push p (x ∷ xs) y = ap (λ (b : Bool). p x || b) (any_push p xs y) ∙ go (p x)
  where
    go : (b : Bool) → (b || (list_any p xs || p y)) ≡ ((b || list_any p xs) || p y)
    go true = refl
    go false = refl

-- the node i is passed too
pub used_more : (nodes : List Node) (i j : ℕ) → i < length nodes → used_by nodes (i + 1) j ≡ (used_by nodes i j || uses j (node nodes i))
unfolding used_by
used_more nodes i j h = ap (list_any (uses j)) (take_more nodes i _ h) ∙ any_push (uses j) (take i nodes) (node nodes i)

pub stands_more : (nodes : List Node) (i r : ℕ) → i < length nodes → stands_in nodes (i + 1) r ≡ (stands_in nodes i r || is_leaf r (node nodes i))
unfolding stands_in
stands_more nodes i r h = ap (list_any (is_leaf r)) (take_more nodes i _ h) ∙ any_push (is_leaf r) (take i nodes) (node nodes i)

-- operands that are earlier than i are below 64, so the set tells of each
fit_same : (p q : ℕ → Bool) (i : ℕ) → ((j : ℕ) → j < i → p j ≡ q j) → (js : List ℕ) → list_all (λ j. ltb j i && not (p j)) js ≡ list_all (λ j. ltb j i && not (q j)) js
fit_same p q i same [] = refl
fit_same p q i same (j ∷ js) = ap2 (go (cases_Bool (ltb j i))) (fit_same p q i same js)
  where
    ap2 : {a b c d : Bool} → a ≡ b → c ≡ d → (a && c) ≡ (b && d)
    ap2 e f = cc

    go : (ltb j i ≡ true) ⊎ (ltb j i ≡ false) → (ltb j i && not (p j)) ≡ (ltb j i && not (q j))
    go (inl t) = ap (λ (b : Bool). ltb j i && not b) (same j (ltb-true j i t))
    go (inr f) = ap (λ (b : Bool). b && not (p j)) f ∙ sym (ap (λ (b : Bool). b && not (q j)) f)

pub operands_same : (p q : ℕ → Bool) (i : ℕ) → ((j : ℕ) → j < i → p j ≡ q j) → (js : List ℕ) → operands_fit p i js ≡ operands_fit q i js
operands_same p q i same js = ap (λ (b : Bool). b && different js) (fit_same p q i same js)
