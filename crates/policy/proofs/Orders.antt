-- What does not depend on the order of a list.
use Rattle.std.proofs.Common.{◌≡◌, ℕ, suc, Bool, true, false, cond, not, ◌&&◌, ◌||◌, eqb, List, [], ◌∷◌, map, length, filter, refl, ap, ◌∙◌, subst, arith}
use Rattle.std.specs.List.{list_all, list_any}
use Rattle.std.proofs.lemmas.Bool.Decides.{nat_tests}
use Rattle.profile.specs.declared.shape.Profile.{Profile}
use Rattle.rules.specs.declared.view.RuleRecord.{RuleRecord}
use Rattle.policy.specs.Same.{Same, done, keep, swap, chain}
use Rattle.policy.specs.Reading.{view_lets, exact_reading}
use Rattle.policy.specs.Books.{in_force, apart}

pub same_refl : {X : Type 0} (xs : List X) → Same xs xs
same_refl [] = done
same_refl (x ∷ xs) = keep x (same_refl xs)

pub same_equal : {X : Type 0} {xs ys : List X} → xs ≡ ys → Same xs ys
same_equal {xs} e = subst (Same xs) e (same_refl xs)

pub same_sym : {X : Type 0} {xs ys : List X} → Same xs ys → Same ys xs
same_sym done = done
same_sym (keep x h) = keep x (same_sym h)
same_sym (swap x y xs) = swap y x xs
same_sym (chain h k) = chain (same_sym k) (same_sym h)

pub same_length : {X : Type 0} {xs ys : List X} → Same xs ys → length xs ≡ length ys
same_length done = refl
same_length (keep x h) = ap suc (same_length h)
same_length (swap x y xs) = refl
same_length (chain h k) = same_length h ∙ same_length k

pub same_map : {X Y : Type 0} (f : X → Y) {xs ys : List X} → Same xs ys → Same (map f xs) (map f ys)
same_map f done = done
same_map f (keep x h) = keep (f x) (same_map f h)
same_map f (swap x y xs) = swap (f x) (f y) (map f xs)
same_map f (chain h k) = chain (same_map f h) (same_map f k)

or_turn : (a b c : Bool) → (a || (b || c)) ≡ (b || (a || c))
or_turn true true c = refl
or_turn true false c = refl
or_turn false b c = refl

and_turn : (a b c : Bool) → (a && (b && c)) ≡ (b && (a && c))
and_turn true b c = refl
and_turn false true c = refl
and_turn false false c = refl

pub same_any : {X : Type 0} (p : X → Bool) {xs ys : List X} → Same xs ys → list_any p xs ≡ list_any p ys
same_any p done = refl
same_any p (keep x h) = ap (λ b. p x || b) (same_any p h)
same_any p (swap x y xs) = or_turn (p x) (p y) (list_any p xs)
same_any p (chain h k) = same_any p h ∙ same_any p k

pub same_all : {X : Type 0} (p : X → Bool) {xs ys : List X} → Same xs ys → list_all p xs ≡ list_all p ys
same_all p done = refl
same_all p (keep x h) = ap (λ b. p x && b) (same_all p h)
same_all p (swap x y xs) = and_turn (p x) (p y) (list_all p xs)
same_all p (chain h k) = same_all p h ∙ same_all p k

pub same_kept : {X : Type 0} (p : X → Bool) {xs ys : List X} → Same xs ys → Same (filter p xs) (filter p ys)
same_kept p done = done
same_kept p (keep {xs} {ys} x h) = go (p x) (same_kept p h)
  where
    go : (b : Bool) → Same (filter p xs) (filter p ys) → Same (cond b (x ∷ filter p xs) (filter p xs)) (cond b (x ∷ filter p ys) (filter p ys))
    go true rest = keep x rest
    go false rest = rest
same_kept p (swap x y xs) = go (p x) (p y)
  where
    go : (a b : Bool) → Same (cond a (x ∷ cond b (y ∷ filter p xs) (filter p xs)) (cond b (y ∷ filter p xs) (filter p xs)))
        (cond b (y ∷ cond a (x ∷ filter p xs) (filter p xs)) (cond a (x ∷ filter p xs) (filter p xs)))
    go true true = swap x y (filter p xs)
    go true false = same_refl (x ∷ filter p xs)
    go false true = same_refl (y ∷ filter p xs)
    go false false = same_refl (filter p xs)
same_kept p (chain h k) = chain (same_kept p h) (same_kept p k)

apart_turn : (e i j a : Bool) → (not (e || i) && (not j && a)) ≡ (not (e || j) && (not i && a))
apart_turn true i j a = refl
apart_turn false true true a = refl
apart_turn false true false a = refl
apart_turn false false true a = refl
apart_turn false false false a = refl

pub same_apart : {xs ys : List RuleRecord} → Same xs ys → apart xs ≡ apart ys
same_apart done = refl
same_apart (keep {xs} {ys} r h) = ap (λ b. not b && apart xs) (same_any (λ q. eqb q.number r.number) h) ∙ ap (λ b. not (in_force r.number ys) && b) (same_apart h)
same_apart (swap r q xs) =
    let e : eqb q.number r.number ≡ eqb r.number q.number = grind (arith, nat_tests) in
    ap (λ b. not (b || in_force r.number xs) && (not (in_force q.number xs) && apart xs)) e
    ∙ apart_turn (eqb r.number q.number) (in_force r.number xs) (in_force q.number xs) (apart xs)
same_apart (chain h k) = same_apart h ∙ same_apart k

-- the exact reading does not depend on order
pub same_exact : (xs ys : List RuleRecord) → Same xs ys → (server : ℕ) (p : Profile) → exact_reading xs server p ≡ exact_reading ys server p
same_exact xs ys h server p = same_any (view_lets server p) (same_map (λ (r : RuleRecord). r.view) h)
