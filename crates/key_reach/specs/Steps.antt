-- What a scope meets in a number of steps, each along an allowed arrow. A device needs no more than four: to its user, to the
-- role `admin`, to another role, and to the team.
use Rattle.std.specs.Prelude.{ℕ, zero, suc, Bool, ◌&&◌, ◌||◌, List, map, filter, flat_map}
use Rattle.std.specs.List.{list_any}
use Rattle.tg_text.specs.declared.keys.Scope.{Scope}
use Rattle.key_reach.specs.Keys.{Table, same_scope}

abbrev pub met : Table → ℕ → Scope → Scope → Bool
met t zero from to = same_scope from to
met t (suc n) from to = same_scope from to || list_any (λ m. t.allowed from m && met t n m to) t.scopes

-- the allowed arrows from a scope, each turned, and all of them
abbrev pub turned_from : Table → Scope → List (Scope × Scope)
turned_from t from = map (λ to. (to, from)) (filter (t.allowed from) t.scopes)

abbrev pub turned_arrows : Table → List (Scope × Scope)
turned_arrows t = flat_map (turned_from t) t.scopes
