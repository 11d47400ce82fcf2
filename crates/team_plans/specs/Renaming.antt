-- A plan doesn't depend on the publics of its new keys: so its boxes are known before the secrets are drawn.
use Rattle.std.specs.Prelude.{◌≡◌, if◌then◌else◌, List, [], ◌∷◌, length, map, None, ℕ}
use Rattle.acts.specs.declared.entry.Entry.{Entry}
use Rattle.tg_text.specs.declared.keys.KeyId.{KeyId}
use Rattle.key_reach.specs.Keys.{same_key}
use Rattle.team_model.specs.ActTable.{refusal}
use Rattle.team_model.specs.State.{State}
use Rattle.team_reducer.specs.Sound.{made_by}
use Rattle.team_plans.specs.Plans.{due, effected, is_too_large, plan_news, plan_scopes, unknown}

-- a key of the first list as the one at its place in the second, and another key as it is
abbrev pub renamed : List KeyId → List KeyId → KeyId → KeyId
renamed [] news k = k
renamed (o ∷ os) [] k = k
renamed (o ∷ os) (n ∷ ns) k = if same_key k o then n else renamed os ns k

abbrev pub renamed_pair : List KeyId → List KeyId → KeyId × KeyId → KeyId × KeyId
renamed_pair olds news p = (renamed olds news p.0, renamed olds news p.1)

-- with other publics the same boxes are due, for the keys that stand in the places of the first ones; the same secret is unknown; and
-- the plan is as large
pub record IsAlike (s t : State) (e : Entry) (ps qs : List (List ℕ)) : Type 0 where
  pub due : due s t e qs ≡ map (renamed_pair (plan_news s t e ps) (plan_news s t e qs)) (due s t e ps)
  pub unknown : (opened : List KeyId) → unknown s t e qs opened ≡ unknown s t e ps opened
  pub large : is_too_large s t e qs ≡ is_too_large s t e ps

abbrev pub PlansAreAlike : Type 0
PlansAreAlike = (entries : List Entry) (e : Entry) (ps qs : List (List ℕ)) → refusal (made_by entries) e ≡ None
    → length ps ≡ length (plan_scopes (made_by entries) (effected (made_by entries) e) e) → length qs ≡ length (plan_scopes (made_by entries) (effected (made_by entries) e) e)
    → IsAlike (made_by entries) (effected (made_by entries) e) e ps qs
