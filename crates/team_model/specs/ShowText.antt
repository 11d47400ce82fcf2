-- What `show` prints.
use Rattle.std.specs.Prelude.{ℕ, ◌-◌, Bool, not, if◌then◌else◌, List, [], ◌∷◌, ◌++◌, length, filter, codes, count_ones, flat_map}
use Rattle.std.specs.Option.{option_map_or}
use Rattle.team_sets.specs.Names.{Name, same_name, name_lt, ascending}
use Rattle.tg_text.specs.declared.keys.KeyId.{KeyId}
use Rattle.tg_text.specs.KeySpelling.{spell_key_id, spell_scope}
use Rattle.tg_text.specs.Spelling.{spell_decimal, spell_hex, line_of}
use Rattle.acts.specs.ActText.{spell_kind}
use Rattle.key_reach.specs.declared.debt.Debt.{Debt}
use Rattle.key_reach.specs.declared.debt.Debt.TheVariants.{NoKey, Tainted, Unreached}
use Rattle.key_reach.specs.Debts.{debts}
use Rattle.key_reach.specs.Keys.{current_keys, is_device}
use Rattle.team_model.specs.Counting.{counting_links}
use Rattle.team_model.specs.KeyTables.{key_table}
use Rattle.team_model.specs.State.{State}
use Rattle.team_model.specs.Judging.{order_of, team, team_rules}
use Rattle.team_model.specs.declared.terms.Link.{Link}
use Rattle.team_model.specs.declared.terms.Device.{Device}
use Rattle.team_model.specs.declared.terms.Invitation.{Invitation}

-- how many links count
abbrev pub count_counting : List Link → ℕ
count_counting links = length (counting_links team_rules links)

-- the devices in order of their users and then of their ids
abbrev pub device_lt : Device → Device → Bool
device_lt a b = if same_name a.user b.user then name_lt a.id b.id else name_lt a.user b.user

abbrev pub member_lines : State → List ℕ
member_lines s = flat_map (λ m. line_of (codes "member" ∷ m.user ∷ m.roles)) s.members

abbrev pub device_lines : State → List ℕ
device_lines s = flat_map (λ d. line_of (codes "device" ∷ d.user ∷ spell_hex d.id ∷ [])) (ascending device_lt (filter (λ d. d.listed) s.devices))

abbrev pub role_lines : State → List ℕ
role_lines s = flat_map (λ r. line_of (codes "role" ∷ r ∷ [])) s.roles

-- the id and the kind of an invitation, how many uses it has and how many of them are used, and up to when it is open
abbrev pub invitation_line : Invitation → List ℕ
invitation_line i =
    line_of (codes "invitation" ∷ spell_hex i.id ∷ spell_kind i.kind ∷ spell_decimal i.uses ∷ codes "used" ∷ spell_decimal (count_ones i.used)
    ∷ codes "expires" ∷ spell_decimal i.expiry ∷ [])

-- the open invitations, by id
abbrev pub invitation_lines : State → List ℕ
invitation_lines s = flat_map invitation_line (filter (λ i. not i.closed) s.invitations)

-- the current keys of the live scopes but devices, in the order of scopes
abbrev pub shown_keys : State → List KeyId
shown_keys s = filter (λ k. not (is_device k.scope)) (current_keys (key_table s))

abbrev pub current_key_line : KeyId → List ℕ
current_key_line k = line_of (codes "key" ∷ spell_key_id k ∷ [])

abbrev pub current_key_lines : State → List ℕ
current_key_lines s = flat_map current_key_line (shown_keys s)

abbrev pub debt_line : Debt → List ℕ
debt_line (NoKey s) = line_of (codes "debt" ∷ codes "none" ∷ spell_scope s ∷ [])
debt_line (Tainted k) = line_of (codes "debt" ∷ codes "tainted" ∷ spell_key_id k ∷ [])
debt_line (Unreached k d) = line_of (codes "debt" ∷ codes "unreached" ∷ spell_key_id k ∷ spell_hex d ∷ [])

-- what the team owes, in the order of debts
abbrev pub debt_lines : State → List ℕ
debt_lines s = flat_map debt_line (debts (key_table s))

abbrev pub state_lines : State → List ℕ
state_lines s = member_lines s ++ device_lines s ++ role_lines s ++ invitation_lines s ++ current_key_lines s ++ debt_lines s

abbrev pub show_text : Name → List Link → List ℕ
show_text t links =
    let s = team team_rules links in
    line_of (codes "team" ∷ spell_hex t ∷ [])
    ++ option_map_or (λ title. line_of (codes "title" ∷ title ∷ [])) s.title []
    ++ line_of (codes "links" ∷ spell_decimal (length links) ∷ codes "waiting" ∷ spell_decimal (length links - length (order_of links))
    ∷ codes "counting" ∷ spell_decimal (count_counting links) ∷ [])
    ++ state_lines s
    ++ line_of (codes "end" ∷ [])
