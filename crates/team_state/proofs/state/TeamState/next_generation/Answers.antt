use Rattle.std.proofs.Common.{◌≡◌, ◌∙◌, Some, None, sym, rules}
use Rattle.team_model.specs.KeyTables.{current_key}
use Rattle.team_state.proofs.Current.{next-is}
use Rattle.team_state.proofs.state.TeamState.next_generation.Goals as goal

pub returns-in-Some : goal.returns-in-Some
returns-in-Some c =
    let found : current_key c.args.self.now c.args.scope.now ≡ Some c.in-Some.key.now = search rules in
    c.generation_after.ensures ∙ sym (next-is c.args.self.now c.args.scope.now (Some c.in-Some.key.now) found)

pub returns-in-None : goal.returns-in-None
returns-in-None c =
    let found : current_key c.args.self.now c.args.scope.now ≡ None = search rules in
    sym (next-is c.args.self.now c.args.scope.now None found)
