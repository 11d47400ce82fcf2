-- What the rules of acts owe to those who judge links by them.
use Rattle.std.specs.Prelude.{◌≡◌, ◌⊎◌, true, Some, None}
use Rattle.team_sets.specs.Names.{Name}
use Rattle.acts.specs.declared.entry.Entry.{Entry}
use Rattle.team_model.specs.ActTable.{after, is_found, refusal}
use Rattle.team_model.specs.State.{State, lists_user}
use Rattle.team_model.specs.Strikes.{brings_user}
use Rattle.team_model.specs.declared.terms.Reason.{Reason}

-- a refused entry leaves the state as it is
abbrev pub RefusedStays : Type 0
RefusedStays = (s : State) (e : Entry) (reason : Reason) → refusal s e ≡ Some reason → after s e ≡ s

-- a permitted entry founds the team or is by a listed user
abbrev pub ByListed : Type 0
ByListed = (s : State) (e : Entry) → refusal s e ≡ None → (is_found e.act ≡ true) ⊎ (lists_user s e.user ≡ true)

-- after a permitted entry no user is listed who wasn't listed before and whom the entry doesn't bring in
abbrev pub OnlyBroughtIn : Type 0
OnlyBroughtIn = (s : State) (e : Entry) → refusal s e ≡ None → (u : Name) → lists_user (after s e) u ≡ true → (lists_user s u ≡ true) ⊎ (brings_user e u ≡ true)
