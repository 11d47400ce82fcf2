-- An act taints anew the keys of the one user whom it touches.
use Rattle.std.proofs.Common.{◌≡◌, true, false, not, ◌&&◌, cond, List, [], filter, map, Option, Some, None, refl, sym, ◌∙◌, ap, subst}
use Rattle.std.specs.List.{list_any}
use Rattle.std.specs.Option.{option_map_or}
use Rattle.std.proofs.lemmas.Bool.{and_from, and_parts, false≢true}
use Rattle.sha2.specs.Sha256.{sha256}
use Rattle.team_sets.specs.Closure.{is_given}
use Rattle.team_sets.specs.Members.{IsIn}
use Rattle.team_sets.specs.Names.{Name, same_name}
use Rattle.team_sets.proofs.Agree.{any_in}
use Rattle.team_sets.proofs.Decisions.{find_of}
use Rattle.team_sets.proofs.Lists.{same_flip}
use Rattle.team_sets.proofs.OrderLeast.{in_filter}
use Rattle.team_sets.proofs.Pasts.{all_at, any_of, same_name-is}
use Rattle.tg_text.specs.declared.keys.BoxLine.{BoxLine}
use Rattle.tg_text.specs.declared.keys.KeyId.{KeyId}
use Rattle.tg_text.specs.declared.keys.Scope.{Scope}
use Rattle.tg_text.specs.declared.keys.Scope.TheVariants.{Team, Role, User, Device as DeviceScope}
use Rattle.acts.specs.declared.entry.Act.{Act}
use Rattle.acts.specs.declared.entry.Act.TheVariants.{Found, AddMember, RemoveMember, GiveRole, TakeRole, AddDevice, RemoveDevice, Revoke, AdmitMember, AdmitDevice}
use Rattle.acts.specs.declared.entry.Entry.{Entry}
use Rattle.key_reach.specs.Keys.{is_device, is_live, is_tainted}
use Rattle.key_reach.specs.Laws.{may_lead}
use Rattle.key_reach.proofs.Members.{in-right}
use Rattle.key_reach.proofs.Numbered.{in-map}
use Rattle.key_laws.specs.TaintLaws.{IsLeakedBy, UsersGoToDevices}
use Rattle.key_laws.proofs.Reached.{reaches_taint}
use Rattle.key_laws.proofs.Tainting.{user_leaked}
use Rattle.team_model.specs.ActTable.{effect, refusal, row_of, with_proof_used}
use Rattle.team_model.specs.KeyTables.{is_allowed, key_table}
use Rattle.team_model.specs.State.{State, device_row, drop_row, is_empty_state, lists_device, lists_user, put_name, put_row, roles_of}
use Rattle.team_model.specs.Writes.{listed_device, unlist_of, unlisted, with_closed, with_device, with_newcomer, with_roles, without_device, without_member}
use Rattle.team_model.specs.declared.terms.Device.{Device}
use Rattle.team_model.specs.declared.terms.Member.{Member}
use Rattle.team_model.proofs.Brought.{AllUnmet, from_not, in_map, members_without_device}
use Rattle.team_state.specs.ArrowLaws.{allowed_arrows}
use Rattle.team_state.specs.Kept.{IsOrdered, row_lists}
use Rattle.team_state.proofs.Staying.{by_cases, drop_keeps, none_met, one_row, put_has, put_keeps}
use Rattle.team_reducer.specs.Sound.{IsSound, goes_down, is_of}
use Rattle.team_model.proofs.Invited.{InvitesOnly, closed-only, proof_used-only}
use Rattle.team_reducer.proofs.Invites.{still_lists, still_lists_device, still_new}
use Rattle.team_reducer.proofs.Untouched.{untouched}
use Rattle.team_plans.specs.Plans.{effected}
use Rattle.team_plans.specs.Touching.{touched}
use Rattle.team_plans.proofs.Effects.{sound_ordered, unmet}
use Rattle.team_plans.proofs.StateTables.{keyed_effect, no_device_content}

abbrev id_of : Device → Name
id_of d = d.id

abbrev user_of : Member → Name
user_of m = m.user

-- rows that stay
new_row_keeps : (u d : Name) (row : Device) (rows : List Device) → list_any (λ x. same_name x.id row.id) rows ≡ false → list_any (row_lists u d) rows ≡ true
    → list_any (row_lists u d) (put_row id_of row rows) ≡ true
new_row_keeps u d row rows new h =
    let x = any_of (row_lists u d) rows h in
    any_in (row_lists u d) (put_row id_of row rows) x.0 (put_keeps id_of row rows x.0 x.1 (none_met (λ x. same_name x.id row.id) rows x.0 new x.1)) x.2

user_row_keeps : (m : Member) (rows : List Member) (u : Name) → list_any (λ n. same_name n.user u) rows ≡ true → list_any (λ n. same_name n.user u) (put_row user_of m rows) ≡ true
user_row_keeps m rows u h = by_cases (same_name x.0.user m.user) same apart
  where
    x : (n : Member) × IsIn n rows × (same_name n.user u ≡ true)
    x = any_of (λ n. same_name n.user u) rows h

    same : same_name x.0.user m.user ≡ true → list_any (λ n. same_name n.user u) (put_row user_of m rows) ≡ true
    same e = any_in (λ n. same_name n.user u) (put_row user_of m rows) m (put_has user_of m rows) (subst (λ n. same_name n u ≡ true) (same_name-is x.0.user m.user e) x.2)

    apart : same_name x.0.user m.user ≡ false → list_any (λ n. same_name n.user u) (put_row user_of m rows) ≡ true
    apart e = any_in (λ n. same_name n.user u) (put_row user_of m rows) x.0 (put_keeps user_of m rows x.0 x.1 e) x.2

-- the parts of a listed row
record IsListedRow (u d : Name) (x : Device) : Type 0 where
  listed : x.listed ≡ true
  id : same_name x.id d ≡ true
  user : same_name x.user u ≡ true

listed_row : (u d : Name) (x : Device) → row_lists u d x ≡ true → IsListedRow u d x
listed_row u d x h =
    let one = and_parts (x.listed && same_name x.id d) (same_name x.user u) h in
    let two = and_parts x.listed (same_name x.id d) one.0 in
    record { listed = two.0; id = two.1; user = one.1 }

module _ (s : State) (e : Entry) (sound : IsSound s) where
  ordered : IsOrdered s
  ordered = sound_ordered s sound

  -- a device leads to its user no more only where the act touches the user
  module _ (u d : Name) (device : lists_device s u d ≡ true) (user : lists_user s u ≡ true) where
    still : (t : State) → lists_device t u d ≡ true → lists_user t u ≡ true → is_allowed t (DeviceScope d) (User u) ≡ false → ⊥
    still t dev use_ gone = false≢true (sym gone ∙ and_from (lists_device t u d) (lists_user t u) dev use_)

    left : (t : State) → InvitesOnly s t → is_allowed t (DeviceScope d) (User u) ≡ false → ⊥
    left t only gone = still t (still_lists_device s t only u d device) (still_lists s t only u user) gone

    the_row : (x : Device) × IsIn x s.devices × (row_lists u d x ≡ true)
    the_row = any_of (row_lists u d) s.devices device

    removed : (v : Name) → same_name v u ≡ false → is_allowed (without_member s v) (DeviceScope d) (User u) ≡ false → ⊥
    removed v other gone = still (without_member s v) dev use_ gone
      where
        x : (x : Device) × IsIn x s.devices × (row_lists u d x ≡ true)
        x = the_row

        not_v : (n : Name) → same_name n u ≡ true → same_name n v ≡ false
        not_v n is = subst (λ m. same_name m v ≡ false) (sym (same_name-is n u is)) (same_flip u v ∙ other)

        same : unlist_of v x.0 ≡ x.0
        same = ap (λ b. cond b (record x.0 { listed = false }) x.0) (not_v x.0.user (listed_row u d x.0 x.2).user)

        dev : list_any (row_lists u d) (map (unlist_of v) s.devices) ≡ true
        dev = any_in (row_lists u d) (map (unlist_of v) s.devices) x.0 (subst (λ y. IsIn y (map (unlist_of v) s.devices)) same (in_map (unlist_of v) s.devices x.0 x.1)) x.2

        use_ : list_any (λ n. same_name n.user u) (drop_row user_of v s.members) ≡ true
        use_ =
            let m = any_of (λ n. same_name n.user u) s.members user in
            any_in (λ n. same_name n.user u) (drop_row user_of v s.members) m.0 (drop_keeps user_of v s.members m.0 m.1 (not_v m.0.user m.2)) m.2

    unlisted_one : (v i : Name) → same_name v u ≡ false → lists_device s v i ≡ true → is_allowed (without_device s i) (DeviceScope d) (User u) ≡ false → ⊥
    unlisted_one v i other its gone =
        still (without_device s i) (kept (device_row s i) refl) (subst (λ (ms : List Member). list_any (λ n. same_name n.user u) ms ≡ true) (sym (members_without_device s i)) user) gone
      where
        y : (x : Device) × IsIn x s.devices × (row_lists u d x ≡ true)
        y = the_row

        z : (x : Device) × IsIn x s.devices × (row_lists v i x ≡ true)
        z = any_of (row_lists v i) s.devices its

        -- the row of v's device isn't that of u's
        crossed : (x : Device) → IsIn x s.devices → same_name x.id i ≡ true → same_name y.0.id x.id ≡ true → ⊥
        crossed x k is e =
            let one : y.0 ≡ x = one_row id_of s.devices ordered.devices y.0 x y.1 k (same_name-is y.0.id x.id e) in
            let two : z.0 ≡ x = one_row id_of s.devices ordered.devices z.0 x z.1 k (same_name-is z.0.id i (listed_row v i z.0 z.2).id ∙ sym (same_name-is x.id i is)) in
            let its_v = listed_row v i z.0 z.2 in
            let its_u = listed_row u d y.0 y.2 in
            let users : v ≡ u = sym (same_name-is z.0.user v its_v.user) ∙ ap (λ (r : Device). r.user) (two ∙ sym one) ∙ same_name-is y.0.user u its_u.user in
            false≢true (sym other ∙ subst (λ n. same_name n u ≡ true) (sym users) (subst (λ n. same_name n u ≡ true) (same_name-is y.0.user u its_u.user) its_u.user))

        kept : (o : Option Device) → device_row s i ≡ o → list_any (row_lists u d) (option_map_or (λ x. with_device s (unlisted x)) o s).devices ≡ true
        kept None e = device
        kept (Some x) e =
            let f = find_of (λ x. same_name x.id i) s.devices x e in
            by_cases (same_name y.0.id x.id) (λ same. absurd (crossed x f.0 f.1 same))
            (λ apart. any_in (row_lists u d) (put_row id_of (unlisted x) s.devices) y.0 (put_keeps id_of (unlisted x) s.devices y.0 y.1 apart) y.2)

    lost : (a : Act) → AllUnmet (row_of sha256 s e a) → is_allowed (effect s e a) (DeviceScope d) (User u) ≡ false → touched e a ≡ Some u
    lost (Found seal title) row gone = absurd (false≢true (subst (λ t. lists_user t u ≡ true) (sound.blank (from_not (is_empty_state s) row.0)) user))
    lost (AddMember v key seal) row gone =
        absurd (still (with_newcomer s v (sha256 key) seal) (new_row_keeps u d (listed_device (sha256 key) seal v) s.devices row.1.1.0 device)
        (user_row_keeps (record { user = v; roles = [] }) s.members u user) gone)
    lost (RemoveMember v) row gone = by_cases (same_name v u) (λ is. ap (λ n. Some n) (same_name-is v u is)) (λ other. absurd (removed v other gone))
    lost (GiveRole v r) row gone =
        absurd (still (with_roles s v (put_name r (roles_of s v))) device (user_row_keeps (record { user = v; roles = put_name r (roles_of s v) }) s.members u user) gone)
    lost (TakeRole v r) row gone =
        absurd (still (with_roles s v (drop_row (λ n. n) r (roles_of s v))) device (user_row_keeps (record { user = v; roles = drop_row (λ n. n) r (roles_of s v) }) s.members u user) gone)
    lost (AddDevice key seal) row gone =
        absurd (still (with_device s (listed_device (sha256 key) seal e.user)) (new_row_keeps u d (listed_device (sha256 key) seal e.user) s.devices row.1.0 device) user gone)
    lost (RemoveDevice v i) row gone =
        by_cases (same_name v u) (λ is. ap (λ n. Some n) (same_name-is v u is)) (λ other. absurd (unlisted_one v i other (from_not (lists_device s v i) row.1.0) gone))
    lost (Revoke kind i) row gone = absurd (left (with_closed s i) (closed-only s i) gone)
    lost (AdmitMember v key seal by proof) row gone =
        let t = with_proof_used s (sha256 by) proof in
        let only = proof_used-only s (sha256 by) proof in
        absurd (still (with_newcomer t v (sha256 key) seal)
        (new_row_keeps u d (listed_device (sha256 key) seal v) t.devices (still_new s (sha256 by) proof (sha256 key) row.1.1.1.1.0) (still_lists_device s t only u d device))
        (user_row_keeps (record { user = v; roles = [] }) t.members u (still_lists s t only u user)) gone)
    lost (AdmitDevice key seal by proof) row gone =
        let t = with_proof_used s (sha256 by) proof in
        let only = proof_used-only s (sha256 by) proof in
        absurd (still (with_device t (listed_device (sha256 key) seal e.user))
        (new_row_keeps u d (listed_device (sha256 key) seal e.user) t.devices (still_new s (sha256 by) proof (sha256 key) row.1.1.1.1.1.0) (still_lists_device s t only u d device))
        (still_lists s t only u user) gone)
    lost _ row gone = absurd (still s device user gone)

  -- so with any arrow to the user
  lost_arrow : refusal s e ≡ None → (x y : Scope) (u : Name) → y ≡ User u → is_allowed s x y ≡ true → is_allowed (effected s e) x y ≡ false → touched e e.act ≡ Some u
  lost_arrow permitted x y u is was gone =
      from x (subst (λ c. is_allowed s x c ≡ true) is was) (subst (λ c. is_allowed (effected s e) x c ≡ false) is gone)
    where
      from : (c : Scope) → is_allowed s c (User u) ≡ true → is_allowed (effected s e) c (User u) ≡ false → touched e e.act ≡ Some u
      from (DeviceScope d) h gone =
          let parts = and_parts (lists_device s u d) (lists_user s u) h in
          lost u d parts.0 parts.1 e.act (unmet s e permitted) gone
      from Team h gone = absurd (false≢true h)
      from (Role r) h gone = absurd (false≢true h)
      from (User v) h gone = absurd (false≢true h)

  user_from_device : (x : Scope) (u : Name) → may_lead x (User u) ≡ true → is_device x ≡ true
  user_from_device (DeviceScope d) u h = refl
  user_from_device Team u h = absurd (false≢true h)
  user_from_device (Role r) u h = absurd (false≢true h)
  user_from_device (User v) u h = absurd (false≢true h)

  -- a box of these boxes goes down
  went_down : (b : BoxLine) → IsIn b (effected s e).boxes → goes_down s b ≡ true
  went_down b i = all_at (λ (b : BoxLine). goes_down s b ≡ true) s.boxes sound.down b (subst (λ bs. IsIn b bs) (untouched s e e.act).boxes i)

  users_from_devices : UsersGoToDevices (key_table (effected s e))
  users_from_devices b u i is =
      let down = (and_parts (may_lead b.to.scope b.of.scope) (is_of s b.to.scope b.of.scope) (went_down b i)).0 in
      user_from_device b.to.scope u (subst (λ c. may_lead b.to.scope c ≡ true) is down)

  pub taints_touched : refusal s e ≡ None → (k : KeyId) (u : Name) → k.scope ≡ User u → is_tainted (key_table s) k ≡ false → is_tainted (key_table (effected s e)) k ≡ true
      → touched e e.act ≡ Some u
  taints_touched permitted k u is clean tainted =
      let t = effected s e in
      by_box (user_leaked (key_table t) (allowed_arrows t) (no_device_content t (keyed_effect s e e.act sound.keyed)) users_from_devices k u is tainted)
    where
      by_box : (b : BoxLine) × IsLeakedBy (key_table (effected s e)) k b → touched e e.act ≡ Some u
      by_box b = by_cases (is_allowed s b.0.to.scope b.0.of.scope) was_allowed leaked_before
        where
          held : IsIn b.0 s.boxes
          held = subst (λ bs. IsIn b.0 bs) (untouched s e e.act).boxes b.1.held

          was_allowed : is_allowed s b.0.to.scope b.0.of.scope ≡ true → touched e e.act ≡ Some u
          was_allowed was = lost_arrow permitted b.0.to.scope b.0.of.scope u (ap (λ (j : KeyId). j.scope) b.1.content ∙ is) was b.1.unlawful

          leaked_before : is_allowed s b.0.to.scope b.0.of.scope ≡ false → touched e e.act ≡ Some u
          leaked_before unlawful =
              let there = in-map (λ (c : BoxLine). c.of) b.0 (filter (λ c. not (is_allowed s c.to.scope c.of.scope)) s.boxes) (in_filter (λ c. not (is_allowed s c.to.scope c.of.scope)) b.0 s.boxes held (ap not unlawful)) in
              let leaked = in-right (filter (λ j. is_device j.scope && not (is_live (key_table s) j.scope)) (key_table s).currents) (map (λ (c : BoxLine). c.of) (filter (λ c. not (is_allowed s c.to.scope c.of.scope)) s.boxes)) b.0.of there in
              absurd (false≢true (sym clean ∙ subst (λ j. is_tainted (key_table s) j ≡ true) b.1.content (reaches_taint (key_table s) b.0.of (is_given b.0.of leaked))))
