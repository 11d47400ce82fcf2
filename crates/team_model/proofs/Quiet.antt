-- Acts without an effect and without key lines leave a state as it is.
use Rattle.std.proofs.Common.{◌≡◌, ℕ, Bool, true, false, cond, List, [], ◌∷◌, fold, is_none, refl, ◌∙◌, ap}
use Rattle.std.specs.List.{AllByRecursion}
use Rattle.team_sets.specs.Names.{Name}
use Rattle.acts.specs.declared.entry.Entry.{Entry}
use Rattle.team_model.specs.ActTable.{after_by, effect_by, refusal_by}
use Rattle.team_model.specs.KeyLines.{lined}
use Rattle.team_model.specs.State.{State}
use Rattle.team_model.proofs.Lined.{lined-none}

module _ (device_of : List ℕ → Name) where
  pub record IsQuiet (e : Entry) : Type 0 where
    pub effect : (s : State) → effect_by device_of s e e.act ≡ s
    pub no_news : e.lines.news ≡ []
    pub no_boxes : e.lines.boxes ≡ []

  stays : (s : State) (e : Entry) → IsQuiet e → after_by device_of s e ≡ s
  stays s e quiet = go (is_none (refusal_by device_of s e))
    where
      go : (b : Bool) → cond b (lined (effect_by device_of s e e.act) e) s ≡ s
      go true = ap (λ t. lined t e) (quiet.effect s) ∙ lined-none s e quiet.no_news quiet.no_boxes
      go false = refl

  pub all-stay : (es : List Entry) (s : State) → AllByRecursion IsQuiet es → fold (λ s e. after_by device_of s e) s es ≡ s
  all-stay [] s quiet = refl
  all-stay (e ∷ es) s quiet = ap (λ t. fold (λ s e. after_by device_of s e) t es) (stays s e quiet.0) ∙ all-stay es s quiet.1
