-- Which keys a key reaches, which are tainted, and what a team owes.
use Rattle.std.specs.Prelude.{Bool, true, false, not, ◌&&◌, List, ◌++◌, map, filter, flat_map}
use Rattle.std.specs.Ordering.{eq_by_cmp}
use Rattle.team_sets.specs.Names.{Name}
use Rattle.team_sets.specs.Closure.{has, closure}
use Rattle.tg_text.specs.Order.{key_cmp, scope_cmp}
use Rattle.tg_text.specs.declared.keys.Scope.{Scope}
use Rattle.tg_text.specs.declared.keys.Scope.TheVariants.{Team, Role, User, Device}
use Rattle.tg_text.specs.declared.keys.KeyId.{KeyId}
use Rattle.tg_text.specs.declared.keys.BoxLine.{BoxLine}

abbrev pub same_scope : Scope → Scope → Bool
same_scope a b = eq_by_cmp scope_cmp a b

abbrev pub same_key : KeyId → KeyId → Bool
same_key a b = eq_by_cmp key_cmp a b

abbrev pub is_device : Scope → Bool
is_device Team = false
is_device (Role r) = false
is_device (User u) = false
is_device (Device d) = true

abbrev pub is_role : Scope → Bool
is_role (Role r) = true
is_role Team = false
is_role (User u) = false
is_role (Device d) = false

abbrev pub is_team : Scope → Bool
is_team Team = true
is_team (Role r) = false
is_team (User u) = false
is_team (Device d) = false

-- what key tables show: the held boxes, the current key of each scope that ever had one and of each device ever listed, the
-- live scopes in order, the arrows between them
pub record Table : Type 0 where
  pub boxes : List BoxLine
  pub currents : List KeyId
  pub scopes : List Scope
  pub allowed : Scope → Scope → Bool

-- a box leads from its recipient to its content
abbrev pub box_arrows : List BoxLine → List (KeyId × KeyId)
box_arrows boxes = map (λ b. (b.to, b.of)) boxes

-- the least set that has these keys, and has the content of each box whose recipient it has
abbrev pub reach : List BoxLine → List KeyId → List KeyId
reach boxes from = closure same_key (box_arrows boxes) from

-- the contents of the boxes to a key
abbrev pub contents_to : List BoxLine → KeyId → List KeyId
contents_to boxes to = map (λ b. b.of) (filter (λ b. same_key b.to to) boxes)

-- whether a box to one key has the other
abbrev pub has_box : List BoxLine → KeyId → KeyId → Bool
has_box boxes to of = has same_key (contents_to boxes to) of

module _ (t : Table) where
  abbrev pub is_live : Scope → Bool
  is_live s = has same_scope t.scopes s

  -- the keys of unlisted devices, and the contents of boxes whose arrow isn't allowed now
  abbrev pub leaked : List KeyId
  leaked = filter (λ k. is_device k.scope && not (is_live k.scope)) t.currents
      ++ map (λ b. b.of) (filter (λ b. not (t.allowed b.to.scope b.of.scope)) t.boxes)

  abbrev pub tainted : List KeyId
  tainted = reach t.boxes leaked

  abbrev pub is_tainted : KeyId → Bool
  is_tainted k = has same_key tainted k

  -- the current keys of a scope: one, where it ever had one
  abbrev pub keys_of : Scope → List KeyId
  keys_of s = filter (λ k. same_scope k.scope s) t.currents

  -- the current keys of the live scopes, in their order
  abbrev pub current_keys : List KeyId
  current_keys = flat_map keys_of t.scopes

  abbrev pub clean : List KeyId
  clean = filter (λ k. not (is_tainted k)) current_keys

  -- an allowed arrow is planned, unless it goes from a role to the team
  abbrev pub plans : KeyId → KeyId → Bool
  plans to of = t.allowed to.scope of.scope && not (is_role to.scope && is_team of.scope)

  abbrev pub lacks_box : KeyId → KeyId → Bool
  lacks_box to of = plans to of && not (has_box t.boxes to of)

  abbrev pub lacks_to : List KeyId → KeyId → List (KeyId × KeyId)
  lacks_to keys to = map (λ of. (to, of)) (filter (lacks_box to) keys)

  -- the pairs of current untainted keys, recipient and content, with a planned arrow and without a box
  abbrev pub lacks : List (KeyId × KeyId)
  lacks = flat_map (lacks_to clean) clean

  -- the allowed arrows between live scopes
  abbrev pub scope_arrows : List (Scope × Scope)
  scope_arrows = flat_map (λ a. map (λ b. (a, b)) (filter (t.allowed a) t.scopes)) t.scopes

  -- the scopes that a device meets by following allowed arrows, itself included where it is live
  abbrev pub entitled : Name → List Scope
  entitled d = closure same_scope scope_arrows (filter (same_scope (Device d)) t.scopes)

  abbrev pub is_entitled : Name → Scope → Bool
  is_entitled d s = has same_scope (entitled d) s
