-- The team of a connected link's past, over the lawful links of the whole set.
use Rattle.std.proofs.Common.{◌≡◌, Bool, true, false, cond, List, [], ◌∷◌, filter, is_none, refl, ◌∙◌, ap}
use Rattle.team_sets.specs.Members.{IsIn}
use Rattle.team_sets.specs.Ancestry.{is_before}
use Rattle.team_sets.specs.OrderLaws.{NamesDiffer}
use Rattle.team_sets.proofs.Ancestors.{differ-past, order-past, past-past}
use Rattle.team_sets.proofs.Lists.{filter_alike}
use Rattle.team_model.specs.Judging.{Rules, name_of, prev_of, order_of, past_of, resolved_from, fold_team, team, lawful}
use Rattle.team_model.specs.declared.terms.Link.{Link}
use Rattle.team_model.proofs.Teams.{team_is_fold}

pub filter_comm : {A : Type 0} (p q : A → Bool) (xs : List A) → filter p (filter q xs) ≡ filter q (filter p xs)
filter_comm p q [] = refl
filter_comm p q (x ∷ xs) = go (p x) refl (q x) refl (filter_comm p q xs)
  where
    go : (b : Bool) → p x ≡ b → (c : Bool) → q x ≡ c → filter p (filter q xs) ≡ filter q (filter p xs)
        → filter p (cond c (x ∷ filter q xs) (filter q xs)) ≡ filter q (cond b (x ∷ filter p xs) (filter p xs))
    go true is true e more = rw (is, e) (ap (λ l. x ∷ l) more)
    go true is false e more = rw e more
    go false is true e more = rw is more
    go false is false e more = more

module _ (rules : Rules) (links : List Link) (differ : NamesDiffer name_of links) where
  -- the lawful links of a connected link's past are its lawful ancestors
  pub lawful-past : (x : Link) → IsIn x (order_of links) → lawful rules (past_of links x) ≡ filter (λ y. is_before name_of prev_of links y.name x) (lawful rules links)
  lawful-past x k =
      filter_alike (λ y. is_none (rules.refusal (team rules (past_of (past_of links x) y)) y.entry)) (λ y. is_none (rules.refusal (team rules (past_of links y)) y.entry)) (order_of (past_of links x))
      (λ y j. ap (λ l. is_none (rules.refusal (team rules l) y.entry)) (past-past name_of prev_of links differ x y k j))
      ∙ ap (λ l. filter (λ y. is_none (rules.refusal (team rules (past_of links y)) y.entry)) l) (order-past name_of prev_of links differ x k)
      ∙ filter_comm (λ y. is_none (rules.refusal (team rules (past_of links y)) y.entry)) (λ y. is_before name_of prev_of links y.name x) (order_of links)

  pub team-past : (x : Link) → IsIn x (order_of links)
      → team rules (past_of links x) ≡ fold_team rules (resolved_from rules (past_of links x) (filter (λ y. is_before name_of prev_of links y.name x) (lawful rules links)))
  team-past x k = team_is_fold rules (past_of links x) (differ-past name_of prev_of links differ x) ∙ ap (λ l. fold_team rules (resolved_from rules (past_of links x) l)) (lawful-past x k)
