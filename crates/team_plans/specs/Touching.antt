-- The user whose keys an act may leave to be made anew: one at most.
use Rattle.std.specs.Prelude.{◌≡◌, ◌≤◌, true, false, ℕ, List, length, Option, Some, None}
use Rattle.team_sets.specs.Names.{Name}
use Rattle.acts.specs.declared.entry.Act.{Act}
use Rattle.acts.specs.declared.entry.Act.TheVariants.{Found, AddMember, RemoveMember, RemoveDevice, AdmitMember, Rotate}
use Rattle.acts.specs.declared.entry.Entry.{Entry}
use Rattle.tg_text.specs.declared.keys.Scope.{Scope}
use Rattle.tg_text.specs.declared.keys.Scope.TheVariants.{User}
use Rattle.tg_text.specs.declared.keys.KeyId.{KeyId}
use Rattle.key_reach.specs.Keys.{is_tainted}
use Rattle.team_model.specs.ActTable.{refusal}
use Rattle.team_model.specs.KeyTables.{key_table}
use Rattle.team_reducer.specs.Sound.{made_by}
use Rattle.team_plans.specs.Plans.{effected, plan_scopes}

-- how many `new` lines a plan has at most: the team, the roles, and a user
abbrev pub most_planned_news : ℕ
most_planned_news = 34

abbrev pub user_of_scope : Scope → Option Name
user_of_scope (User user) = Some user
user_of_scope _ = None

abbrev pub touched : Entry → Act → Option Name
touched e (Found seal title) = Some e.user
touched e (AddMember user key seal) = Some user
touched e (RemoveMember user) = Some user
touched e (RemoveDevice user id) = Some user
touched e (AdmitMember user key seal by proof) = Some user
touched e (Rotate scope) = user_of_scope scope
touched e _ = None

-- a permitted act taints anew keys of no user but the one whom it touches
abbrev pub TaintsOneUser : Type 0
TaintsOneUser = (entries : List Entry) (e : Entry) → refusal (made_by entries) e ≡ None → (k : KeyId) (user : Name) → k.scope ≡ User user
    → is_tainted (key_table (made_by entries)) k ≡ false → is_tainted (key_table (effected (made_by entries) e)) k ≡ true → touched e e.act ≡ Some user

-- so few keys are planned
abbrev pub PlansFewKeys : Type 0
PlansFewKeys = (entries : List Entry) (e : Entry) → refusal (made_by entries) e ≡ None
    → length (plan_scopes (made_by entries) (effected (made_by entries) e) e) ≤ most_planned_news
