-- The state of a founded team, its keys aside, stays as it should be under each write that a permitted act is made of.
use Rattle.std.proofs.Common.{◌≡◌, ◌≤◌, ℕ, Bool, true, false, not, ◌&&◌, List, [], filter, length, map, nat_le, Option, Some, None, refl, sym, ◌∙◌, ap, subst, inl, inr, ◌⊎◌, arith}
use Rattle.std.specs.List.{AllByRecursion, list_any}
use Rattle.std.specs.List.Sorted.{IsStrictlySortedBy}
use Rattle.std.specs.Option.{option_map_or}
use Rattle.std.specs.Cmp.Lexicographic.{nat_list_cmp_total, nat_list_eq_equiv, texts_ties}
use Rattle.std.proofs.lemmas.Bool.{false≢true, and_from, and_parts, leb-false, not-true}
use Rattle.team_sets.specs.Members.{IsIn}
use Rattle.team_sets.specs.Names.{Name, has_name, name_lt, same_name}
use Rattle.team_sets.proofs.Agree.{any_in}
use Rattle.team_sets.proofs.Decisions.{find_of}
use Rattle.team_sets.proofs.OrderLeast.{of_filter}
use Rattle.team_sets.proofs.Pasts.{all_at, any_of, same_name-is}
use Rattle.team_model.specs.KeyTables.{all_keys, live_scopes}
use Rattle.team_model.specs.Limits.{most_roles}
use Rattle.team_model.specs.State.{State, admin, device_row, drop_row, has_other_device, is_admin, is_given, is_only_admin, lists_device, lists_user, member_row, put_name, roles_of, was_listed}
use Rattle.team_model.specs.Writes.{listed_device, unlist_of, unlisted, with_device, with_newcomer, with_role, with_roles, with_title, without_device, without_member, without_role}
use Rattle.team_model.specs.declared.terms.Device.{Device}
use Rattle.team_model.specs.declared.terms.Member.{Member}
use Rattle.team_model.proofs.Brought.{drop_lists, in_map, put_lists}
use Rattle.team_state.specs.Kept.{IsKept, IsOrdered, name_cmp}
use Rattle.team_state.specs.Rows.{Ascend}
use Rattle.team_state.proofs.Listed.{all_put_in}
use Rattle.team_state.proofs.Placed.{all-filter, with-ascends, without-ascends}
use Rattle.team_state.proofs.Written as kept
use Rattle.team_reducer.specs.Sound.{has_device}
use Rattle.team_state.proofs.Staying.{by_cases, first_is, length-fewer, length-put, none_met, one_row, put_has, put_keeps, drop_keeps, with_name-keeps, without_name-keeps}

-- roles ascend
abbrev pub RolesRise : List Name → Type 0
RolesRise roles = Ascend name_cmp (λ n. n) roles

-- a member's roles ascend
abbrev pub Rises : Member → Type 0
Rises m = RolesRise m.roles

none_rise : RolesRise []
unfolding IsStrictlySortedBy
none_rise = tt

pub record Firm (s : State) : Type 0 where
  pub ordered : IsOrdered s
  pub roles_rise : AllByRecursion Rises s.members
  pub administered : is_given s admin ≡ true
  pub equipped : (u : Name) → lists_user s u ≡ true → has_device s u ≡ true
  pub few_roles : length s.roles ≤ most_roles

abbrev user_of : Member → Name
user_of m = m.user

pub kept_of : (s : State) → IsOrdered s → IsKept s (all_keys s) (live_scopes s)
kept_of s up = record { ordered = up; keys_are = refl; scopes_are = refl }

-- an admin, and a listed device of a listed user
an_admin : (s : State) → is_given s admin ≡ true → (m : Member) × IsIn m s.members × (has_name m.roles admin ≡ true)
an_admin s h = any_of (λ m. has_name m.roles admin) s.members h

a_device : (s : State) (u : Name) → has_device s u ≡ true → (d : Device) × IsIn d s.devices × (d.listed ≡ true) × (same_name d.user u ≡ true)
a_device s u h =
    let d = any_of (λ d. d.listed && same_name d.user u) s.devices h in
    let parts = and_parts d.0.listed (same_name d.0.user u) d.2 in
    (d.0, d.1, parts.0, parts.1)

has_it : (s : State) (u : Name) (d : Device) → IsIn d s.devices → d.listed ≡ true → same_name d.user u ≡ true → has_device s u ≡ true
has_it s u d k listed is = any_in (λ d. d.listed && same_name d.user u) s.devices d k (and_from d.listed (same_name d.user u) listed is)

module _ (s : State) (firm : Firm s) where
  pub firm-title : (t : List ℕ) → Firm (with_title s t)
  firm-title t = record { ordered = (kept.kept-title s (all_keys s) (live_scopes s) (kept_of s firm.ordered) t).ordered; roles_rise = firm.roles_rise; administered = firm.administered; equipped = firm.equipped; few_roles = firm.few_roles }

  pub firm-role : (r : Name) → nat_le most_roles (length s.roles) ≡ false → Firm (with_role s r)
  firm-role r more = record {
    ordered = (kept.kept-role s (all_keys s) (live_scopes s) (kept_of s firm.ordered) r).ordered;
    roles_rise = firm.roles_rise;
    administered = firm.administered;
    equipped = firm.equipped;
    few_roles =
        let size = length-put (λ a b. name_lt a b) r (filter (λ n. not (same_name n r)) s.roles) in
        omega (arith, size, length-fewer (λ n. not (same_name n r)) s.roles, leb-false most_roles (length s.roles) more);
  }

  pub firm-without_role : (r : Name) → Firm (without_role s r)
  firm-without_role r = record {
    ordered = (kept.kept-without_role s (all_keys s) (live_scopes s) (kept_of s firm.ordered) r).ordered;
    roles_rise = firm.roles_rise;
    administered = firm.administered;
    equipped = firm.equipped;
    few_roles = omega (arith, length-fewer (λ n. not (same_name n r)) s.roles, firm.few_roles);
  }

  -- the one row of a user
  roles-are : (m : Member) → IsIn m s.members → roles_of s m.user ≡ m.roles
  roles-are m k = ap (λ o. option_map_or (λ (m : Member). m.roles) o []) (first_is user_of s.members firm.ordered.members m k)

  -- the roles of a user rise, whether the user is listed or not
  their-rise : (u : Name) → RolesRise (roles_of s u)
  their-rise u = go (member_row s u) refl
    where
      go : (o : Option Member) → member_row s u ≡ o → RolesRise (option_map_or (λ (m : Member). m.roles) o [])
      go None e = none_rise
      go (Some m) e = all_at Rises s.members firm.roles_rise m (find_of (λ m. same_name m.user u) s.members m e).0

  -- where the roles that are written rise, those of all do
  written-rise : (u : Name) (roles : List Name) → RolesRise roles → AllByRecursion Rises (with_roles s u roles).members
  written-rise u roles up =
      all_put_in Rises (λ a b. name_lt a.user b.user) (record { user = u; roles = roles }) (filter (λ m. not (same_name m.user u)) s.members) up
      (all-filter Rises (λ m. not (same_name m.user u)) s.members firm.roles_rise)

  -- roles are written of a listed user, and somebody is still an admin
  firm-roles : (u : Name) (roles : List Name) → RolesRise roles → lists_user s u ≡ true → is_given (with_roles s u roles) admin ≡ true → Firm (with_roles s u roles)
  firm-roles u roles up listed still = record {
    ordered = (kept.kept-member s (all_keys s) (live_scopes s) (kept_of s firm.ordered) (record { user = u; roles = roles })).ordered;
    roles_rise = written-rise u roles up;
    administered = still;
    equipped = λ v h. firm.equipped v (was v (put_lists (record { user = u; roles = roles }) s.members v h));
    few_roles = firm.few_roles;
  }
    where
      was : (v : Name) → (list_any (λ m. same_name m.user v) s.members ≡ true) ⊎ (same_name u v ≡ true) → lists_user s v ≡ true
      was v (inl k) = k
      was v (inr e) = subst (λ n. lists_user s n ≡ true) (same_name-is u v e) listed

  -- an admin who isn't the user stays one, whatever is written of the user; and so does the user, with `admin` among the roles
  others-stay : (u : Name) (roles : List Name) (m : Member) → IsIn m s.members → has_name m.roles admin ≡ true → same_name m.user u ≡ false
      → is_given (with_roles s u roles) admin ≡ true
  others-stay u roles m k h other =
      any_in (λ m. has_name m.roles admin) (with_roles s u roles).members m (put_keeps user_of (record { user = u; roles = roles }) s.members m k other) h

  stays-with : (u : Name) (roles : List Name) → has_name roles admin ≡ true → is_given (with_roles s u roles) admin ≡ true
  stays-with u roles h = any_in (λ m. has_name m.roles admin) (with_roles s u roles).members (record { user = u; roles = roles }) (put_has user_of (record { user = u; roles = roles }) s.members) h

  -- where the roles that are written keep `admin`, if the user had it
  firm-kept : (u : Name) (roles : List Name) → RolesRise roles → lists_user s u ≡ true → (has_name (roles_of s u) admin ≡ true → has_name roles admin ≡ true) → Firm (with_roles s u roles)
  firm-kept u roles up listed keeps = firm-roles u roles up listed (go (an_admin s firm.administered))
    where
      go : (m : Member) × IsIn m s.members × (has_name m.roles admin ≡ true) → is_given (with_roles s u roles) admin ≡ true
      go m = by_cases (same_name m.0.user u)
          (λ e. stays-with u roles (keeps (subst (λ n. has_name (roles_of s n) admin ≡ true) (same_name-is m.0.user u e) (ap (λ ns. has_name ns admin) (roles-are m.0 m.1) ∙ m.2))))
          (λ other. others-stay u roles m.0 m.1 m.2 other)

  -- somebody else is an admin, where the user isn't the only one
  another : (u : Name) → is_only_admin s u ≡ false → (m : Member) × IsIn m s.members × (has_name m.roles admin ≡ true) × (same_name m.user u ≡ false)
  another u h = by_cases (is_admin s u) has (λ hasnt. go (an_admin s firm.administered) hasnt)
    where
      has : is_admin s u ≡ true → (m : Member) × IsIn m s.members × (has_name m.roles admin ≡ true) × (same_name m.user u ≡ false)
      has e =
          let m = any_of (λ m. has_name m.roles admin && not (same_name m.user u)) s.members (from (list_any (λ m. has_name m.roles admin && not (same_name m.user u)) s.members) (subst (λ b. (b && not (list_any (λ m. has_name m.roles admin && not (same_name m.user u)) s.members)) ≡ false) e h)) in
          let parts = and_parts (has_name m.0.roles admin) (not (same_name m.0.user u)) m.2 in
          (m.0, m.1, parts.0, not-true (same_name m.0.user u) parts.1)
        where
          from : (b : Bool) → (true && not b) ≡ false → b ≡ true
          from true e = refl
          from false e = absurd (false≢true (sym e))

      go : (m : Member) × IsIn m s.members × (has_name m.roles admin ≡ true) → is_admin s u ≡ false → (m : Member) × IsIn m s.members × (has_name m.roles admin ≡ true) × (same_name m.user u ≡ false)
      go m hasnt = (
        m.0,
        m.1,
        m.2,
        by_cases (same_name m.0.user u)
            (λ e. absurd (false≢true (sym hasnt ∙ any_in (λ m. same_name m.user u && has_name m.roles admin) s.members m.0 m.1 (and_from (same_name m.0.user u) (has_name m.0.roles admin) e m.2))))
            (λ e. e),
      )

  pub firm-given : (u r : Name) → lists_user s u ≡ true → Firm (with_roles s u (put_name r (roles_of s u)))
  firm-given u r listed =
      firm-kept u (put_name r (roles_of s u)) (with-ascends name_cmp same_name (λ n. n) nat_list_cmp_total texts_ties r (roles_of s u) (their-rise u)) listed
      (with_name-keeps r (roles_of s u) admin)

  pub firm-taken : (u r : Name) → lists_user s u ≡ true → (same_name r admin && is_only_admin s u) ≡ false → Firm (with_roles s u (drop_row (λ n. n) r (roles_of s u)))
  firm-taken u r listed h =
      by_cases (same_name r admin) taken (λ other. firm-kept u (drop_row (λ n. n) r (roles_of s u)) up listed (without_name-keeps r (roles_of s u) admin (turned other)))
    where
      up : RolesRise (drop_row (λ n. n) r (roles_of s u))
      up = without-ascends name_cmp same_name (λ n. n) nat_list_cmp_total texts_ties r (roles_of s u) (their-rise u)

      turned : same_name r admin ≡ false → same_name admin r ≡ false
      turned other = by_cases (same_name admin r) (λ e. absurd (false≢true (sym other ∙ subst (λ n. same_name r n ≡ true) (sym (same_name-is admin r e)) (nat_list_eq_equiv.refl r)))) (λ e. e)

      taken : same_name r admin ≡ true → Firm (with_roles s u (drop_row (λ n. n) r (roles_of s u)))
      taken e = let m = another u (subst (λ b. (b && is_only_admin s u) ≡ false) e h) in firm-roles u (drop_row (λ n. n) r (roles_of s u)) up listed (others-stay u (drop_row (λ n. n) r (roles_of s u)) m.0 m.1 m.2 m.3)

  pub firm-without_member : (u : Name) → is_only_admin s u ≡ false → Firm (without_member s u)
  firm-without_member u h = record {
    ordered = (kept.kept-without_member s (all_keys s) (live_scopes s) (kept_of s firm.ordered) u).ordered;
    roles_rise = all-filter Rises (λ m. not (same_name m.user u)) s.members firm.roles_rise;
    administered = let m = another u h in any_in (λ m. has_name m.roles admin) (without_member s u).members m.0 (drop_keeps user_of u s.members m.0 m.1 m.3) m.2;
    equipped = λ v listed. keeps v listed (a_device s v (firm.equipped v (drop_lists u s.members v listed)));
    few_roles = firm.few_roles;
  }
    where
      apart : (v : Name) → lists_user (without_member s u) v ≡ true → same_name v u ≡ false
      apart v listed =
          let m = any_of (λ m. same_name m.user v) (without_member s u).members listed in
          subst (λ n. same_name n u ≡ false) (same_name-is m.0.user v m.2) (not-true (same_name m.0.user u) (of_filter (λ m. not (same_name m.user u)) m.0 s.members m.1).1)

      keeps : (v : Name) → lists_user (without_member s u) v ≡ true → (d : Device) × IsIn d s.devices × (d.listed ≡ true) × (same_name d.user v ≡ true) → has_device (without_member s u) v ≡ true
      keeps v listed d =
          let other : same_name d.0.user u ≡ false = subst (λ n. same_name n u ≡ false) (sym (same_name-is d.0.user v d.3)) (apart v listed) in
          let same : unlist_of u d.0 ≡ d.0 = rw other refl in
          has_it (without_member s u) v d.0 (subst (λ x. IsIn x (map (unlist_of u) s.devices)) same (in_map (unlist_of u) s.devices d.0 d.1)) d.2 d.3

  -- a device that was never listed takes no other device's row
  new-keeps : (d : Device) (v : Name) → was_listed s d.id ≡ false → has_device s v ≡ true → has_device (with_device s d) v ≡ true
  new-keeps d v new h =
      let x = a_device s v h in
      has_it (with_device s d) v x.0 (put_keeps (λ (r : Device). r.id) d s.devices x.0 x.1 (none_met (λ (r : Device). same_name r.id d.id) s.devices x.0 new x.1)) x.2 x.3

  pub firm-device : (d : Device) → was_listed s d.id ≡ false → Firm (with_device s d)
  firm-device d new = record {
    ordered = (kept.kept-device s (all_keys s) (live_scopes s) (kept_of s firm.ordered) d).ordered;
    roles_rise = firm.roles_rise;
    administered = firm.administered;
    equipped = λ v listed. new-keeps d v new (firm.equipped v listed);
    few_roles = firm.few_roles;
  }

  pub firm-newcomer : (u i : Name) (seal : List ℕ) → lists_user s u ≡ false → was_listed s i ≡ false → Firm (with_newcomer s u i seal)
  firm-newcomer u i seal absent new = record {
    ordered = (kept.kept-device (with_roles s u []) _ _ (kept.kept-member s (all_keys s) (live_scopes s) (kept_of s firm.ordered) (record { user = u; roles = [] })) (listed_device i seal u)).ordered;
    roles_rise = written-rise u [] none_rise;
    administered = let m = an_admin s firm.administered in others-stay u [] m.0 m.1 m.2 (none_met (λ (m : Member). same_name m.user u) s.members m.0 absent m.1);
    equipped = λ v listed. has v (put_lists (record { user = u; roles = [] }) s.members v listed);
    few_roles = firm.few_roles;
  }
    where
      has : (v : Name) → (list_any (λ m. same_name m.user v) s.members ≡ true) ⊎ (same_name u v ≡ true) → has_device (with_newcomer s u i seal) v ≡ true
      has v (inl listed) = new-keeps (listed_device i seal u) v new (firm.equipped v listed)
      has v (inr e) = has_it (with_newcomer s u i seal) v (listed_device i seal u) (put_has (λ (r : Device). r.id) (listed_device i seal u) s.devices) refl e

  pub firm-without_device : (u i : Name) → lists_device s u i ≡ true → has_other_device s u i ≡ true → Firm (without_device s i)
  firm-without_device u i is other = go (device_row s i) refl
    where
      its-user : (d : Device) → IsIn d s.devices → same_name d.id i ≡ true → d.user ≡ u
      its-user d k e =
          let x = any_of (λ x. x.listed && same_name x.id i && same_name x.user u) s.devices is in
          let parts = and_parts (x.0.listed && same_name x.0.id i) (same_name x.0.user u) x.2 in
          let its-id = (and_parts x.0.listed (same_name x.0.id i) parts.0).1 in
          ap (λ (r : Device). r.user) (one_row (λ (r : Device). r.id) s.devices firm.ordered.devices d x.0 k x.1 (same_name-is d.id i e ∙ sym (same_name-is x.0.id i its-id))) ∙ same_name-is x.0.user u parts.1

      stays : (d : Device) → same_name d.id i ≡ true → (v : Name) (x : Device) → IsIn x s.devices → x.listed ≡ true → same_name x.user v ≡ true → same_name x.id i ≡ false → has_device (with_device s (unlisted d)) v ≡ true
      stays d is-d v x k listed of_v apart =
          has_it (with_device s (unlisted d)) v x
          (put_keeps (λ (r : Device). r.id) (unlisted d) s.devices x k (subst (λ n. same_name x.id n ≡ false) (sym (same_name-is d.id i is-d)) apart)) listed of_v

      has : (d : Device) → same_name d.id i ≡ true → (v : Name) → (x : Device) × IsIn x s.devices × (x.listed ≡ true) × (same_name x.user v ≡ true) → has_device (with_device s (unlisted d)) v ≡ true
      has d is-d v x = by_cases (same_name x.0.id i)
          (λ e.
          let z = any_of (λ x. x.listed && (same_name x.user u && not (same_name x.id i))) s.devices other in
          let parts = and_parts z.0.listed (same_name z.0.user u && not (same_name z.0.id i)) z.2 in
          let more = and_parts (same_name z.0.user u) (not (same_name z.0.id i)) parts.1 in
          let v-is : u ≡ v = sym (its-user x.0 x.1 e) ∙ same_name-is x.0.user v x.3 in
          stays d is-d v z.0 z.1 parts.0 (subst (λ n. same_name z.0.user n ≡ true) v-is more.0) (not-true (same_name z.0.id i) more.1))
          (λ apart. stays d is-d v x.0 x.1 x.2 x.3 apart)

      go : (o : Option Device) → device_row s i ≡ o → Firm (option_map_or (λ d. with_device s (unlisted d)) o s)
      go None e = firm
      go (Some d) e =
          let is-d = (find_of (λ x. same_name x.id i) s.devices d e).1 in
          record {
            ordered = (kept.kept-device s (all_keys s) (live_scopes s) (kept_of s firm.ordered) (unlisted d)).ordered;
            roles_rise = firm.roles_rise;
            administered = firm.administered;
            equipped = λ v listed. has d is-d v (a_device s v (firm.equipped v listed));
            few_roles = firm.few_roles;
          }
