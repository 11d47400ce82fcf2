-- The scopes that a device is entitled to are the least set with its own scope, where it is live, that allowed arrows don't lead out of.
use Rattle.std.specs.Prelude.{◌≡◌, ◌↔◌, Bool, true}
use Rattle.team_sets.specs.Names.{Name}
use Rattle.tg_text.specs.declared.keys.Scope.{Scope}
use Rattle.tg_text.specs.declared.keys.Scope.TheVariants.{Device}
use Rattle.key_reach.specs.Keys.{Table, is_entitled, is_live}
use Rattle.key_reach.specs.Laws.{IsKeyTable}

module _ (t : Table) (d : Name) where
  -- a live device meets its own scope, and each scope that an allowed arrow leads to from one that it meets
  pub data IsMet : Scope → Type 0 where
    own : is_live t (Device d) ≡ true → IsMet (Device d)
    led : (from to : Scope) → t.allowed from to ≡ true → IsMet from → IsMet to

  -- a set that has the device's scope where it is live, and has the head of each allowed arrow whose tail it has
  pub record IsClosed (holds : Scope → Bool) : Type 0 where
    pub start : is_live t (Device d) ≡ true → holds (Device d) ≡ true
    pub further : (from to : Scope) → t.allowed from to ≡ true → holds from ≡ true → holds to ≡ true

  -- the entitled scopes are those that are met, they are closed, and each closed set has them
  pub record IsLeast : Type 0 where
    pub met : (s : Scope) → (is_entitled t d s ≡ true) ↔ IsMet s
    pub closed : IsClosed (is_entitled t d)
    pub least : (holds : Scope → Bool) → IsClosed holds → (s : Scope) → is_entitled t d s ≡ true → holds s ≡ true

abbrev pub EntitledIsLeast : Type 0
EntitledIsLeast = (t : Table) → IsKeyTable t → (d : Name) → IsLeast t d
