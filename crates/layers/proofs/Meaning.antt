-- What it means that some denial forbids a profile.
use Rattle.std.proofs.Common.{◌≡◌, ℕ, zero, suc, Bool, true, false, eqb, ◌⊎◌, List, [], ◌∷◌, Decides, sym, refl, ap, ◌∙◌, inl, inr, ⊎_elim, arith}
use Rattle.std.specs.List.{ContainsAt as Has, list_any}
use Rattle.std.proofs.lemmas.Bool.{and_parts, and_from, or_cases, or_left, or_right, eqb-true, eq-eqb}
use Rattle.sets.specs.declared.small_set.SmallSet.{SmallSet}
use Rattle.sets.specs.Sets.{has, union, subset}
use Rattle.sets.proofs.Sets.{subset_has, has_subset, union_has}
use Rattle.profile.specs.declared.shape.Profile.{Profile}
use Rattle.layers.specs.declared.denial.Denial.{Denial}
use Rattle.layers.specs.Readings.{hits, denied, Denied}

-- some element passes, and that element
module _ {X : Type 0} (p : X → Bool) where
  pub any_has : (xs : List X) (x : X) → Has xs x → p x ≡ true → list_any p xs ≡ true
  any_has [] x (k, below, at) passes = absurd (omega arith)
  any_has (y ∷ ys) x (zero, below, at) passes = or_left (p y) (list_any p ys) (ap p (at x) ∙ passes)
  any_has (y ∷ ys) x (suc k, below, at) passes = or_right (p y) (list_any p ys) (any_has ys x (k, omega arith, at) passes)

  pub has_any : (xs : List X) → list_any p xs ≡ true → (x : X) × Has xs x × (p x ≡ true)
  has_any [] h = absurd (omega (arith, never h))
    where
      never : false ≡ true → ◌≡◌ {A = ℕ} 0 1
      never e = cc
  has_any (y ∷ ys) h = go (or_cases (p y) (list_any p ys) h) (has_any ys)
    where
      go : (p y ≡ true) ⊎ (list_any p ys ≡ true) → (list_any p ys ≡ true → (x : X) × Has ys x × (p x ≡ true)) → (x : X) × Has (y ∷ ys) x × (p x ≡ true)
      go (inl here) rest = (y, (0, omega arith, λ d. refl), here)
      go (inr later) rest = let (x, (k, below, at), passes) = rest later in (x, (suc k, omega arith, at), passes)

-- all attributes of s lie in t and u together
module _ (s t u : SmallSet) where
  pub lies_in : subset s (union t u) ≡ true → (a : ℕ) → has s a ≡ true → (has t a ≡ true) ⊎ (has u a ≡ true)
  lies_in h a own = or_cases (has t a) (has u a) (sym (union_has t u a) ∙ subset_has s (union t u) h a own)

  pub in_lies : ((a : ℕ) → has s a ≡ true → (has t a ≡ true) ⊎ (has u a ≡ true)) → subset s (union t u) ≡ true
  in_lies h = has_subset s (union t u) (λ a own. union_has t u a ∙ ⊎_elim (or_left (has t a) (has u a)) (or_right (has t a) (has u a)) (h a own))

pub denied_means : (ds : List Denial) (server : ℕ) (p : Profile) → Decides (denied ds server p) (Denied ds server p)
denied_means ds server p = (told, tells)
  where
    told : denied ds server p ≡ true → Denied ds server p
    told h =
        let found = has_any (hits server p) ds h in
        let d = found.0 in
        let both = and_parts (eqb d.server server) (subset d.attributes (union p.shown p.filtered)) found.2 in
        (d, found.1, eqb-true d.server server both.0, lies_in d.attributes p.shown p.filtered both.1)

    tells : Denied ds server p → denied ds server p ≡ true
    tells (d, among, its, lie) =
        any_has (hits server p) ds d among
        (and_from (eqb d.server server) (subset d.attributes (union p.shown p.filtered))
        (eq-eqb d.server server its) (in_lies d.attributes p.shown p.filtered lie))
