-- A device's row stays that of its user, and so each box goes down as it did.
use Rattle.std.proofs.Common.{◌≡◌, ℕ, Bool, true, false, ◌&&◌, cond, List, map, Option, Some, None, refl, sym, subst}
use Rattle.std.specs.List.{list_any}
use Rattle.std.specs.Option.{option_map_or}
use Rattle.std.proofs.lemmas.Bool.{false≢true, and_from, and_parts}
use Rattle.sha2.specs.Sha256.{sha256}
use Rattle.team_sets.specs.Members.{IsIn}
use Rattle.team_sets.specs.Names.{Name, same_name}
use Rattle.team_sets.proofs.Agree.{any_in}
use Rattle.team_sets.proofs.Decisions.{find_of}
use Rattle.team_sets.proofs.Pasts.{any_of, same_name-is}
use Rattle.acts.specs.declared.entry.Act.{Act}
use Rattle.acts.specs.declared.entry.Act.TheVariants.{Found, AddMember, RemoveMember, AddDevice, RemoveDevice, Revoke, AdmitMember, AdmitDevice}
use Rattle.acts.specs.declared.entry.Entry.{Entry}
use Rattle.tg_text.specs.declared.keys.BoxLine.{BoxLine}
use Rattle.tg_text.specs.declared.keys.Scope.{Scope}
use Rattle.tg_text.specs.declared.keys.Scope.TheVariants.{Team, Role, User, Device as DeviceScope}
use Rattle.key_reach.specs.Keys.{is_device}
use Rattle.key_reach.specs.Laws.{may_lead}
use Rattle.team_model.specs.ActTable.{effect, is_found, row_of, with_proof_used}
use Rattle.team_model.specs.KeyTables.{is_allowed}
use Rattle.team_model.specs.State.{State, device_row, lists_device, lists_user, was_listed}
use Rattle.team_model.specs.Writes.{listed_device, unlist_of, unlisted, with_closed, with_device, without_device, without_member}
use Rattle.team_model.specs.declared.terms.Device.{Device}
use Rattle.team_model.proofs.Brought.{AllUnmet, in_map}
use Rattle.team_model.proofs.Invited.{closed-only, proof_used-only, same_devices}
use Rattle.team_state.specs.ArrowLaws.{allowed_arrows}
use Rattle.team_state.specs.Kept.{IsOrdered}
use Rattle.team_state.proofs.Staying.{by_cases, none_met, one_row, put_has, put_keeps}
use Rattle.team_reducer.specs.Sound.{goes_down, is_of}
use Rattle.team_reducer.proofs.Invites.{still_new}

-- whether a row is that of a device and its user
abbrev pub is_row : Name → Name → Device → Bool
is_row d u x = same_name x.id d && same_name x.user u

abbrev pub DevicesStay : State → State → Type 0
DevicesStay s t = (d u : Name) → list_any (is_row d u) s.devices ≡ true → list_any (is_row d u) t.devices ≡ true

module _ (s : State) where
  new-stays : (row : Device) → was_listed s row.id ≡ false → DevicesStay s (with_device s row)
  new-stays row new d u h =
      let x = any_of (is_row d u) s.devices h in
      any_in (is_row d u) (with_device s row).devices x.0
      (put_keeps (λ (r : Device). r.id) row s.devices x.0 x.1 (none_met (λ (r : Device). same_name r.id row.id) s.devices x.0 new x.1)) x.2

  unlisted-stays : IsOrdered s → (i : Name) → DevicesStay s (without_device s i)
  unlisted-stays up i = go (device_row s i) refl
    where
      stays : (x : Device) → IsIn x s.devices → DevicesStay s (with_device s (unlisted x))
      stays x k d u h =
          let y = any_of (is_row d u) s.devices h in
          by_cases (same_name y.0.id x.id)
          (λ e.
          let is : y.0 ≡ x = one_row (λ (r : Device). r.id) s.devices up.devices y.0 x y.1 k (same_name-is y.0.id x.id e) in
          any_in (is_row d u) (with_device s (unlisted x)).devices (unlisted x) (put_has (λ (r : Device). r.id) (unlisted x) s.devices) (subst (λ z. is_row d u z ≡ true) is y.2))
          (λ other. any_in (is_row d u) (with_device s (unlisted x)).devices y.0 (put_keeps (λ (r : Device). r.id) (unlisted x) s.devices y.0 y.1 other) y.2)

      go : (o : Option Device) → device_row s i ≡ o → DevicesStay s (option_map_or (λ x. with_device s (unlisted x)) o s)
      go None e = λ d u h. h
      go (Some x) e = stays x (find_of (λ x. same_name x.id i) s.devices x e).0

  removed-stays : (v : Name) → DevicesStay s (without_member s v)
  removed-stays v d u h =
      let y = any_of (is_row d u) s.devices h in
      any_in (is_row d u) (map (unlist_of v) s.devices) (unlist_of v y.0) (in_map (unlist_of v) s.devices y.0 y.1) (kept y.0 y.2 (same_name y.0.user v))
    where
      kept : (x : Device) → is_row d u x ≡ true → (b : Bool) → is_row d u (cond b (record x { listed = false }) x) ≡ true
      kept x h true = h
      kept x h false = h

-- the same devices
same-stay : (s t : State) → t.devices ≡ s.devices → DevicesStay s t
same-stay s t same d u h = subst (λ (ds : List Device). list_any (is_row d u) ds ≡ true) (sym same) h

-- a leaf is used, and then a new device comes
admitted-stay : (s : State) (id : Name) (proof : List ℕ) (row : Device) → was_listed s row.id ≡ false → DevicesStay s (with_device (with_proof_used s id proof) row)
admitted-stay s id proof row new d u h =
    let t = with_proof_used s id proof in
    new-stays t row (still_new s id proof row.id new) d u (same-stay s t (same_devices s t (proof_used-only s id proof)) d u h)

module _ (s : State) where
  pub effect-stays : (e : Entry) → IsOrdered s → (a : Act) → is_found a ≡ false → AllUnmet (row_of sha256 s e a) → DevicesStay s (effect s e a)
  effect-stays e up (Found seal title) other u = absurd (false≢true (sym other))
  effect-stays e up (AddMember user key seal) other u = new-stays s (listed_device (sha256 key) seal user) u.1.1.0
  effect-stays e up (RemoveMember user) other u = removed-stays s user
  effect-stays e up (AddDevice key seal) other u = new-stays s (listed_device (sha256 key) seal e.user) u.1.0
  effect-stays e up (RemoveDevice user id) other u = unlisted-stays s up id
  effect-stays e up (Revoke kind id) other u = same-stay s (with_closed s id) (same_devices s (with_closed s id) (closed-only s id))
  effect-stays e up (AdmitMember user key seal by proof) other u = admitted-stay s (sha256 by) proof (listed_device (sha256 key) seal user) u.1.1.1.1.0
  effect-stays e up (AdmitDevice key seal by proof) other u = admitted-stay s (sha256 by) proof (listed_device (sha256 key) seal e.user) u.1.1.1.1.1.0
  effect-stays e up _ other u = λ d v h. h

is_of-stays : (s t : State) → DevicesStay s t → (a b : Scope) → is_of s a b ≡ true → is_of t a b ≡ true
is_of-stays s t stay (DeviceScope d) (User u) h = stay d u h
is_of-stays s t stay (DeviceScope d) Team h = refl
is_of-stays s t stay (DeviceScope d) (Role r) h = refl
is_of-stays s t stay (DeviceScope d) (DeviceScope c) h = refl
is_of-stays s t stay Team b h = refl
is_of-stays s t stay (Role r) b h = refl
is_of-stays s t stay (User u) b h = refl

-- a box goes down as before
pub down-stays : (s t : State) → DevicesStay s t → (b : BoxLine) → goes_down s b ≡ true → goes_down t b ≡ true
down-stays s t stay b h =
    let parts = and_parts (may_lead b.to.scope b.of.scope) (is_of s b.to.scope b.of.scope) h in
    and_from (may_lead b.to.scope b.of.scope) (is_of t b.to.scope b.of.scope) parts.0 (is_of-stays s t stay b.to.scope b.of.scope parts.1)

module _ (s : State) where
  listed-row : (d u : Name) (x : Device) → (x.listed && same_name x.id d && same_name x.user u) ≡ true → is_row d u x ≡ true
  listed-row d u x = go x.listed (same_name x.id d) (same_name x.user u)
    where
      go : (a b c : Bool) → (a && b && c) ≡ true → (b && c) ≡ true
      go true true c h = h
      go true false c h = absurd (false≢true h)
      go false true c h = absurd (false≢true h)
      go false false c h = absurd (false≢true h)

  is_of-allowed : (a b : Scope) → is_allowed s a b ≡ true → is_of s a b ≡ true
  is_of-allowed (DeviceScope d) (User u) h =
      let x = any_of (λ x. x.listed && same_name x.id d && same_name x.user u) s.devices (and_parts (lists_device s u d) (lists_user s u) h).0 in
      any_in (is_row d u) s.devices x.0 x.1 (listed-row d u x.0 x.2)
  is_of-allowed (DeviceScope d) Team h = refl
  is_of-allowed (DeviceScope d) (Role r) h = refl
  is_of-allowed (DeviceScope d) (DeviceScope c) h = refl
  is_of-allowed Team b h = refl
  is_of-allowed (Role r) b h = refl
  is_of-allowed (User u) b h = refl

  -- where keys may be sealed now, boxes go down
  pub down-allowed : (b : BoxLine) → is_allowed s b.to.scope b.of.scope ≡ true → goes_down s b ≡ true
  down-allowed b h =
      and_from (may_lead b.to.scope b.of.scope) (is_of s b.to.scope b.of.scope) ((allowed_arrows s).leads b.to.scope b.of.scope h) (is_of-allowed b.to.scope b.of.scope h)

  leads-apart : (a b : Scope) → may_lead a b ≡ true → is_device b ≡ false
  leads-apart a Team h = refl
  leads-apart a (Role r) h = refl
  leads-apart a (User u) h = refl
  leads-apart Team (DeviceScope d) h = absurd (false≢true h)
  leads-apart (Role r) (DeviceScope d) h = absurd (false≢true h)
  leads-apart (User u) (DeviceScope d) h = absurd (false≢true h)
  leads-apart (DeviceScope c) (DeviceScope d) h = absurd (false≢true h)

  -- and never to have a device's key
  pub content-allowed : (b : BoxLine) → is_allowed s b.to.scope b.of.scope ≡ true → is_device b.of.scope ≡ false
  content-allowed b h = leads-apart b.to.scope b.of.scope ((allowed_arrows s).leads b.to.scope b.of.scope h)
