-- Questions asked one after another.
use Rattle.std.proofs.Common.{◌≡◌, ℕ, ◌+◌, ◌<◌, Bool, true, false, cond, List, [], ◌∷◌, ◌++◌, length, get_or, drop, Ok, Err, sym, refl, ap, ◌∙◌}
use Rattle.std.proofs.lemmas.List.{at_drop_more}
use Rattle.chart.specs.Questions.{asked}
use Rattle.chart.specs.Layout.{Layout}
use Rattle.layers.specs.declared.denial.Denial.{Denial}
use Rattle.layers.specs.declared.refusal.LayerRefusal.{LayerRefusal}
use Rattle.layers.specs.Questions.{denial_questions, denial_answer, denials_questions, denials_answer}

module _ {E T : Type 0} (t : T) where
  asked_refused : (qs rs : List (Bool × E)) (e : E) → asked qs t ≡ Err e → asked (qs ++ rs) t ≡ Err e
  asked_refused [] rs e h = cc
  asked_refused (q ∷ qs) rs e h = go q.0 h (asked_refused qs rs e)
    where
      go : (b : Bool) → cond b (asked qs t) (Err q.1) ≡ Err e → (asked qs t ≡ Err e → asked (qs ++ rs) t ≡ Err e) → cond b (asked (qs ++ rs) t) (Err q.1) ≡ Err e
      go true k rest = rest k
      go false k rest = k

  asked_passed : (qs rs : List (Bool × E)) → asked qs t ≡ Ok t → asked (qs ++ rs) t ≡ asked rs t
  asked_passed [] rs h = refl
  asked_passed (q ∷ qs) rs h = go q.0 h (asked_passed qs rs)
    where
      go : (b : Bool) → cond b (asked qs t) (Err q.1) ≡ Ok t → (asked qs t ≡ Ok t → asked (qs ++ rs) t ≡ asked rs t) → cond b (asked (qs ++ rs) t) (Err q.1) ≡ asked rs t
      go true k rest = rest k
      go false k rest = cc

-- a loop that asks the questions for denial i
module _ (l : Layout) (ds : List Denial) (i : ℕ) (so_far : asked (denials_questions l i (drop i ds)) tt ≡ denials_answer l ds) where
  pub refused_at : (d : Denial) (n : ℕ) (e : LayerRefusal) → n ≡ i → i < length ds → Err e ≡ denial_answer l n (get_or ds i d) → Err e ≡ denials_answer l ds
  refused_at d n e same below h =
      let x = get_or ds i d in
      let asked_now : denial_answer l i x ≡ Err e = ap (λ k. denial_answer l k x) (sym same) ∙ sym h in
      sym (asked_refused tt (denial_questions l i x) (denials_questions l (i + 1) (drop (i + 1) ds)) e asked_now)
      ∙ sym (at_drop_more (λ ys. asked (denials_questions l i ys) tt) ds i d below) ∙ so_far

  pub passed_at : (d : Denial) (n : ℕ) → n ≡ i → i < length ds → Ok tt ≡ denial_answer l n (get_or ds i d) → asked (denials_questions l (i + 1) (drop (i + 1) ds)) tt ≡ denials_answer l ds
  passed_at d n same below h =
      let x = get_or ds i d in
      let asked_now : denial_answer l i x ≡ Ok tt = ap (λ k. denial_answer l k x) (sym same) ∙ sym h in
      sym (asked_passed tt (denial_questions l i x) (denials_questions l (i + 1) (drop (i + 1) ds)) asked_now)
      ∙ sym (at_drop_more (λ ys. asked (denials_questions l i ys) tt) ds i d below) ∙ so_far
