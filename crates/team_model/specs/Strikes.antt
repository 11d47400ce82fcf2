-- Which acts strike, what they strike, and whom an act brings in.
use Rattle.std.specs.Prelude.{ℕ, Bool, true, false, ◌&&◌, ◌||◌, List, Option, Some, None}
use Rattle.std.specs.Option.{option_map_or}
use Rattle.sha2.specs.Sha256.{sha256}
use Rattle.team_sets.specs.Names.{Name, same_name}
use Rattle.acts.specs.Admin.{needs_admin}
use Rattle.acts.specs.declared.entry.Act.{Act}
use Rattle.acts.specs.declared.entry.Act.TheVariants.{Found, AddMember, RemoveMember, GiveRole, TakeRole, AddDevice, RemoveDevice, AdmitMember, AdmitDevice}
use Rattle.acts.specs.declared.entry.Entry.{Entry}
use Rattle.team_model.specs.State.{admin}

-- the acts that strike what was written beside them
abbrev pub is_striking : Act → Bool
is_striking (RemoveMember user) = true
is_striking (TakeRole user role) = true
is_striking (RemoveDevice user id) = true
is_striking _ = false

-- the user whom an act brings in
abbrev pub brought_user : Entry → Act → Option Name
brought_user e (Found seal title) = Some e.user
brought_user e (AddMember user key seal) = Some user
brought_user e (AdmitMember user key seal by proof) = Some user
brought_user e _ = None

-- whether an entry brings the user in
abbrev pub brings_user : Entry → Name → Bool
brings_user e u = option_map_or (λ v. same_name v u) (brought_user e e.act) false

-- whether an act gives the role to the user
abbrev pub gives_role : Act → Name → Name → Bool
gives_role (GiveRole v q) user role = same_name v user && same_name q role
gives_role _ user role = false

-- the id of a device is made of its key: in a team by SHA-256, and in worked examples by whatever suits them
module _ (device_of : List ℕ → Name) where
  -- the device that an act brings in
  abbrev pub brought_device_by : Entry → Act → Option Name
  brought_device_by e (Found seal title) = Some e.device
  brought_device_by e (AddMember user key seal) = Some (device_of key)
  brought_device_by e (AddDevice key seal) = Some (device_of key)
  brought_device_by e (AdmitMember user key seal by proof) = Some (device_of key)
  brought_device_by e (AdmitDevice key seal by proof) = Some (device_of key)
  brought_device_by e _ = None

  -- whether an entry brings the device in
  abbrev pub brings_device_by : Entry → Name → Bool
  brings_device_by e d = option_map_or (λ i. same_name i d) (brought_device_by e e.act) false

  -- whether an act strikes y, where both are lawful and concurrent: a removed member, what is by him and what brings him in; taken
  -- `admin`, what is by him and needs it; a taken role, what gives it to him; a removed device, what is by it and what brings it in
  abbrev pub act_strikes : Act → Entry → Bool
  act_strikes (RemoveMember user) y = same_name y.user user || brings_user y user
  act_strikes (TakeRole user role) y = (same_name role admin && (same_name y.user user && needs_admin y)) || gives_role y.act user role
  act_strikes (RemoveDevice user id) y = same_name y.device id || brings_device_by y id
  act_strikes _ y = false

  abbrev pub strikes_by : Entry → Entry → Bool
  strikes_by x y = act_strikes x.act y

-- the device that an act brings in. Its id is the SHA-256 of its key
abbrev pub brought_device : Entry → Act → Option Name
brought_device e a = brought_device_by sha256 e a

-- whether an entry brings the device in
abbrev pub brings_device : Entry → Name → Bool
brings_device e d = brings_device_by sha256 e d

-- whether x strikes y, where both are lawful and concurrent
abbrev pub strikes : Entry → Entry → Bool
strikes x y = strikes_by sha256 x y
