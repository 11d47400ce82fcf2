-- What is printed of the debts of a state in which no key line was taken.
use Rattle.std.specs.Prelude.{◌≡◌, ℕ, List, [], ◌++◌, flat_map}
use Rattle.tg_text.specs.declared.keys.Scope.TheVariants.{Role, User}
use Rattle.key_reach.specs.declared.debt.Debt.TheVariants.{NoKey}
use Rattle.team_model.specs.KeyTables.{team_scopes}
use Rattle.team_model.specs.ShowText.{debt_line, debt_lines}
use Rattle.team_model.specs.State.{State}

-- a key for the team, unless the state is empty, for each role and for each user
abbrev pub keyless_lines : State → List ℕ
keyless_lines s =
    flat_map (λ c. debt_line (NoKey c)) (team_scopes s)
    ++ (flat_map (λ r. debt_line (NoKey (Role r))) s.roles ++ flat_map (λ m. debt_line (NoKey (User m.user))) s.members)

abbrev pub KeylessOweEachKey : Type 0
KeylessOweEachKey = (s : State) → s.currents ≡ [] → s.boxes ≡ [] → debt_lines s ≡ keyless_lines s
