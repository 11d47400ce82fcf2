-- Who may write is listed, and who is listed was brought in by a lawful link; so each rank is defined.
use Rattle.std.proofs.Common.{◌≡◌, ℕ, Bool, true, false, not, ◌&&◌, cond, List, [], ◌∷◌, filter, fold, map, Option, Some, None, is_none, unwrap_or, refl, sym, ◌∙◌, ap, subst, inl, inr, ◌⊎◌}
use Rattle.std.specs.List.{list_any}
use Rattle.std.specs.Option.{option_map_or}
use Rattle.std.specs.Cmp.Lexicographic.{nat_list_eq_equiv}
use Rattle.std.proofs.lemmas.Bool.{false≢true, and_parts}
use Rattle.team_sets.specs.Names.{Name, has_name, same_name, name_lt}
use Rattle.team_sets.specs.Members.{IsIn}
use Rattle.team_sets.specs.Ancestry.{is_before}
use Rattle.team_sets.specs.OrderLaws.{NamesDiffer}
use Rattle.team_sets.specs.Places.{least_place, lesser_place, place_lt}
use Rattle.team_sets.proofs.Agree.{any_in}
use Rattle.team_sets.proofs.OrderLeast.{in_filter, of_filter}
use Rattle.team_sets.proofs.Pasts.{any_of, same_name-is}
use Rattle.team_sets.proofs.Sorted.{put_to}
use Rattle.acts.specs.declared.entry.Act.{Act}
use Rattle.acts.specs.declared.entry.Act.TheVariants.{Found, AddMember, RemoveMember, GiveRole, TakeRole, RemoveDevice, Revoke, AdmitMember, AdmitDevice}
use Rattle.acts.specs.declared.entry.Entry.{Entry}
use Rattle.team_model.specs.State.{State, device_row, drop_row, empty_state, has_role, lists_device, lists_user, put_row}
use Rattle.team_model.specs.Writes.{unlisted, with_closed, with_device, with_roles, without_device}
use Rattle.team_model.specs.ActTable.{after_by, conditions_by, effect_by, first_reason, is_found, refusal_by, row_of, with_proof_used}
use Rattle.team_model.specs.Strikes.{brings_user, brought_user}
use Rattle.team_model.specs.Judging.{Rules, lawful, name_of, order_of, past_of, place_of, prev_of, resolved_from, rules_by, stays, standing_strikers, team, unlawful_reason}
use Rattle.team_model.specs.CountingLaws.{BringIn, GivesSeniority, IsByListed}
use Rattle.team_model.specs.declared.terms.Device.{Device}
use Rattle.team_model.specs.declared.terms.Link.{Link}
use Rattle.team_model.specs.declared.terms.Member.{Member}
use Rattle.team_model.specs.declared.terms.Reason.{Reason}
use Rattle.team_model.specs.declared.terms.Reason.TheVariants.{NotListed}
use Rattle.team_model.specs.KeyLines.{lined}
use Rattle.team_model.proofs.Invited.{closed-only, proof_used-only, same_members}
use Rattle.team_model.proofs.Lined.{lined-is}
use Rattle.team_model.proofs.PastTeams.{team-past}

-- a condition that doesn't hold isn't the reason
passed : (b : Bool) (reason : Reason) (rest : List (Bool × Reason)) → first_reason ((not b, reason) ∷ rest) ≡ None → b ≡ true
passed true reason rest h = refl
passed false reason rest h = absurd (let bad : ◌≡◌ {A = Option Reason} (Some reason) None = h in cc)

-- who is in a table of members once a row is put is the row's user, or was there
pub put_lists : (row : Member) (rows : List Member) (u : Name) → list_any (λ m. same_name m.user u) (put_row (λ m. m.user) row rows) ≡ true
    → (list_any (λ m. same_name m.user u) rows ≡ true) ⊎ (same_name row.user u ≡ true)
put_lists row rows u h =
    let m = any_of (λ m. same_name m.user u) (put_row (λ m. m.user) row rows) h in
    go m.0 m.2 (put_to (λ a b. name_lt a.user b.user) row m.0 (filter (λ r. not (same_name r.user row.user)) rows) m.1)
  where
    go : (m : Member) → same_name m.user u ≡ true → IsIn m (row ∷ filter (λ r. not (same_name r.user row.user)) rows)
        → (list_any (λ m. same_name m.user u) rows ≡ true) ⊎ (same_name row.user u ≡ true)
    go m is (inl e) = inr (subst (λ r. same_name r.user u ≡ true) (sym e) is)
    go m is (inr k) = inl (any_in (λ m. same_name m.user u) rows m (of_filter (λ r. not (same_name r.user row.user)) m rows k).0 is)

-- who is in a table of members without a user's row was there
pub drop_lists : (v : Name) (rows : List Member) (u : Name) → list_any (λ m. same_name m.user u) (drop_row (λ m. m.user) v rows) ≡ true
    → list_any (λ m. same_name m.user u) rows ≡ true
drop_lists v rows u h =
    let m = any_of (λ m. same_name m.user u) (drop_row (λ m. m.user) v rows) h in
    any_in (λ m. same_name m.user u) rows m.0 (of_filter (λ r. not (same_name r.user v)) m.0 rows m.1).0 m.2

-- who has a role is listed
pub holder_listed : (u r : Name) (rows : List Member) → list_any (λ m. same_name m.user u && has_name m.roles r) rows ≡ true
    → list_any (λ m. same_name m.user u) rows ≡ true
holder_listed u r rows h =
    let m = any_of (λ m. same_name m.user u && has_name m.roles r) rows h in
    any_in (λ m. same_name m.user u) rows m.0 m.1 (and_parts (same_name m.0.user u) (has_name m.0.roles r) m.2).0

pub members_without_device : (s : State) (i : Name) → (without_device s i).members ≡ s.members
members_without_device s i = go (device_row s i)
  where
    go : (o : Option Device) → (option_map_or (λ d. with_device s (unlisted d)) o s).members ≡ s.members
    go (Some d) = refl
    go None = refl

-- where no reason is the first, no condition holds
abbrev pub AllUnmet : List (Bool × Reason) → Type 0
AllUnmet [] = Unit {0}
AllUnmet (c ∷ rest) = (c.0 ≡ false) × AllUnmet rest

pub all_unmet : (row : List (Bool × Reason)) → first_reason row ≡ None → AllUnmet row
all_unmet [] h = tt
all_unmet (c ∷ rest) h = go c.0 refl h (all_unmet rest)
  where
    go : (b : Bool) → c.0 ≡ b → cond b (Some c.1) (first_reason rest) ≡ None → (first_reason rest ≡ None → AllUnmet rest) → AllUnmet (c ∷ rest)
    go false e h more = (e, more h)
    go true e h more = absurd (let bad : ◌≡◌ {A = Option Reason} (Some c.1) None = h in cc)

pub from_not : (b : Bool) → not b ≡ false → b ≡ true
from_not true h = refl
from_not false h = absurd (false≢true (sym h))

module _ (device_of : List ℕ → Name) where
  pub by_listed : (s : State) (e : Entry) → refusal_by device_of s e ≡ None → IsByListed s e
  by_listed s e h = go (is_found e.act) refl h
    where
      go : (b : Bool) → is_found e.act ≡ b
          → first_reason (cond b (row_of device_of s e e.act) ((not (lists_user s e.user && lists_device s e.user e.device), NotListed) ∷ row_of device_of s e e.act)) ≡ None → IsByListed s e
      go true is h = inl is
      go false is h = inr (and_parts (lists_user s e.user) (lists_device s e.user e.device) (passed (lists_user s e.user && lists_device s e.user e.device) NotListed (row_of device_of s e e.act) h))

  founder : (e : Entry) (a : Act) → is_found a ≡ true → option_map_or (λ v. same_name v e.user) (brought_user e a) false ≡ true
  founder e (Found seal title) h = nat_list_eq_equiv.refl e.user
  founder e _ h = absurd (false≢true h)

  authors : (s : State) (e : Entry) → refusal_by device_of s e ≡ None → (lists_user s e.user ≡ true) ⊎ (brings_user e e.user ≡ true)
  authors s e h = go (by_listed s e h)
    where
      go : IsByListed s e → (lists_user s e.user ≡ true) ⊎ (brings_user e e.user ≡ true)
      go (inl is) = inr (founder e e.act is)
      go (inr listed) = inl listed.0

  -- where the author's listing is no reason, the act's own row decides
  pub own_row : (s : State) (e : Entry) (a : Act) → first_reason ((not (lists_user s e.user && lists_device s e.user e.device), NotListed) ∷ row_of device_of s e a) ≡ None
      → AllUnmet (row_of device_of s e a)
  own_row s e a h = (all_unmet ((not (lists_user s e.user && lists_device s e.user e.device), NotListed) ∷ row_of device_of s e a) h).1

  -- a role is given to a listed user, and taken from one who has it
  pub gives_to_listed : (s : State) (e : Entry) (user role : Name) → AllUnmet (row_of device_of s e (GiveRole user role)) → lists_user s user ≡ true
  gives_to_listed s e user role u = (and_parts (lists_user s user) (has_name s.roles role) (from_not (lists_user s user && has_name s.roles role) u.1.0)).0

  pub takes_from_holder : (s : State) (e : Entry) (user role : Name) → AllUnmet (row_of device_of s e (TakeRole user role)) → has_role s user role ≡ true
  takes_from_holder s e user role u = from_not (has_role s user role) u.1.0

  -- what a write of a listed user's roles lists was listed
  pub written : (s : State) (v u : Name) (roles : List Name) → lists_user s v ≡ true → lists_user (with_roles s v roles) u ≡ true → lists_user s u ≡ true
  written s v u roles listed h = go (put_lists (record { user = v; roles = roles }) s.members u h)
    where
      go : (list_any (λ m. same_name m.user u) s.members ≡ true) ⊎ (same_name v u ≡ true) → lists_user s u ≡ true
      go (inl k) = k
      go (inr e) = subst (λ n. lists_user s n ≡ true) (same_name-is v u e) listed

  by_effect : (s : State) (e : Entry) (u : Name) (a : Act) → first_reason (conditions_by device_of s e a) ≡ None → lists_user (effect_by device_of s e a) u ≡ true
      → (lists_user s u ≡ true) ⊎ (option_map_or (λ v. same_name v u) (brought_user e a) false ≡ true)
  by_effect s e u (Found seal title) p h = put_lists (record { user = e.user; roles = _ }) s.members u h
  by_effect s e u (AddMember user key seal) p h = put_lists (record { user = user; roles = _ }) s.members u h
  by_effect s e u (RemoveMember user) p h = inl (drop_lists user s.members u h)
  by_effect s e u (GiveRole user role) p h = inl (written s user u _ (gives_to_listed s e user role (own_row s e (GiveRole user role) p)) h)
  by_effect s e u (TakeRole user role) p h =
      inl (written s user u _ (holder_listed user role s.members (takes_from_holder s e user role (own_row s e (TakeRole user role) p))) h)
  by_effect s e u (RemoveDevice user id) p h = inl (subst (λ ms. list_any (λ m. same_name m.user u) ms ≡ true) (members_without_device s id) h)
  by_effect s e u (Revoke kind id) p h = inl (subst (λ ms. list_any (λ m. same_name m.user u) ms ≡ true) (same_members s (with_closed s id) (closed-only s id)) h)
  by_effect s e u (AdmitMember user key seal by proof) p h =
      let t = with_proof_used s (device_of by) proof in
      subst (λ ms. (list_any (λ m. same_name m.user u) ms ≡ true) ⊎ (same_name user u ≡ true)) (same_members s t (proof_used-only s (device_of by) proof))
      (put_lists (record { user = user; roles = _ }) t.members u h)
  by_effect s e u (AdmitDevice key seal by proof) p h =
      let t = with_proof_used s (device_of by) proof in
      inl (subst (λ ms. list_any (λ m. same_name m.user u) ms ≡ true) (same_members s t (proof_used-only s (device_of by) proof)) h)
  by_effect s e u _ p h = inl h

  users : (s : State) (e : Entry) (u : Name) → lists_user (after_by device_of s e) u ≡ true → (lists_user s u ≡ true) ⊎ (brings_user e u ≡ true)
  users s e u h = go (refusal_by device_of s e) refl h
    where
      go : (o : Option Reason) → refusal_by device_of s e ≡ o → lists_user (cond (is_none o) (lined (effect_by device_of s e e.act) e) s) u ≡ true → (lists_user s u ≡ true) ⊎ (brings_user e u ≡ true)
      go None is h = by_effect s e u e.act is (subst (λ t. lists_user t u ≡ true) (lined-is (effect_by device_of s e e.act) e) h)
      go (Some r) is h = inl h

  pub team_brings_in : BringIn (rules_by device_of)
  team_brings_in = record { authors = authors; users = users }

-- the least of some places is one of them
some_least : (ps : List (ℕ × Name)) (p : ℕ × Name) → IsIn p ps → (q : ℕ × Name) × (least_place ps ≡ Some q) × IsIn q ps
some_least [] p k = absurd k
some_least (p ∷ []) q k = (p, refl, inl refl)
some_least (p ∷ r ∷ rs) q k = go (some_least (r ∷ rs) r (inl refl))
  where
    choose : (t : ℕ × Name) → IsIn t (r ∷ rs) → (b : Bool) → (q : ℕ × Name) × ((cond b (Some t) (Some p)) ≡ Some q) × IsIn q (p ∷ r ∷ rs)
    choose t j true = (t, refl, inr j)
    choose t j false = (p, refl, inl refl)

    go : (t : ℕ × Name) × (least_place (r ∷ rs) ≡ Some t) × IsIn t (r ∷ rs) → (q : ℕ × Name) × (least_place (p ∷ r ∷ rs) ≡ Some q) × IsIn q (p ∷ r ∷ rs)
    go t = let c = choose t.0 t.2 (place_lt t.0 p) in (c.0, ap (λ o. lesser_place p o) t.1 ∙ c.1, c.2)

pub in_map : {A B : Type 0} (f : A → B) (xs : List A) (x : A) → IsIn x xs → IsIn (f x) (map f xs)
in_map f [] x k = absurd k
in_map f (y ∷ ys) x (inl e) = inl (ap f e)
in_map f (y ∷ ys) x (inr k) = inr (in_map f ys x k)

of_map : {A B : Type 0} (f : A → B) (xs : List A) (y : B) → IsIn y (map f xs) → (x : A) × IsIn x xs × (f x ≡ y)
of_map f [] y k = absurd k
of_map f (x ∷ xs) y (inl e) = (x, inl refl, e)
of_map f (x ∷ xs) y (inr k) = let r = of_map f xs y k in (r.0, inr r.1, r.2)

module _ (rules : Rules) (bring : BringIn rules) where
  -- who is listed after some links was listed before, or is brought in by one of them
  listed_after : (xs : List Link) (s : State) (u : Name) → lists_user (fold (λ s x. rules.after s x.entry) s xs) u ≡ true
      → (lists_user s u ≡ true) ⊎ ((y : Link) × IsIn y xs × (brings_user y.entry u ≡ true))
  listed_after [] s u h = inl h
  listed_after (x ∷ xs) s u h = go (listed_after xs (rules.after s x.entry) u h)
    where
      first : (lists_user s u ≡ true) ⊎ (brings_user x.entry u ≡ true) → (lists_user s u ≡ true) ⊎ ((y : Link) × IsIn y (x ∷ xs) × (brings_user y.entry u ≡ true))
      first (inl k) = inl k
      first (inr k) = inr (x, inl refl, k)

      go : (lists_user (rules.after s x.entry) u ≡ true) ⊎ ((y : Link) × IsIn y xs × (brings_user y.entry u ≡ true))
          → (lists_user s u ≡ true) ⊎ ((y : Link) × IsIn y (x ∷ xs) × (brings_user y.entry u ≡ true))
      go (inl k) = first (bring.users s x.entry u k)
      go (inr y) = inr (y.0, inr y.1, y.2)

  module _ (links : List Link) (differ : NamesDiffer name_of links) where
    abbrev is_lawful : Link → Bool
    is_lawful x = is_none (unlawful_reason rules links x)

    permitted : (o : Option Reason) → is_none o ≡ true → o ≡ None
    permitted None h = refl
    permitted (Some r) h = absurd (false≢true h)

    -- the user of a lawful link is brought in by a lawful link
    brought : (x : Link) → IsIn x (lawful rules links) → (y : Link) × IsIn y (lawful rules links) × (brings_user y.entry x.entry.user ≡ true)
    brought x k = go (bring.authors (team rules (past_of links x)) x.entry (permitted (unlawful_reason rules links x) here.1))
      where
        here : IsIn x (order_of links) × (is_lawful x ≡ true)
        here = of_filter is_lawful x (order_of links) k

        past : (lists_user empty_state x.entry.user ≡ true)
            ⊎ ((y : Link) × IsIn y (resolved_from rules (past_of links x) (filter (λ y. is_before name_of prev_of links y.name x) (lawful rules links))) × (brings_user y.entry x.entry.user ≡ true))
            → (y : Link) × IsIn y (lawful rules links) × (brings_user y.entry x.entry.user ≡ true)
        past (inl h) = absurd (false≢true h)
        past (inr y) =
            let kept : List Link = filter (λ y. is_before name_of prev_of links y.name x) (lawful rules links) in
            let in_past = (of_filter (stays rules (past_of links x) kept (standing_strikers rules (past_of links x) kept)) y.0 kept y.1).0 in
            (y.0, (of_filter (λ y. is_before name_of prev_of links y.name x) y.0 (lawful rules links) in_past).0, y.2)

        go : (lists_user (team rules (past_of links x)) x.entry.user ≡ true) ⊎ (brings_user x.entry x.entry.user ≡ true)
            → (y : Link) × IsIn y (lawful rules links) × (brings_user y.entry x.entry.user ≡ true)
        go (inr own) = (x, k, own)
        go (inl listed) =
            past (listed_after (resolved_from rules (past_of links x) (filter (λ y. is_before name_of prev_of links y.name x) (lawful rules links))) empty_state x.entry.user
            (subst (λ s. lists_user s x.entry.user ≡ true) (team-past rules links differ x here.0) listed))

    pub rank_defined : (x : Link) → IsIn x (lawful rules links) → (y : Link) × GivesSeniority rules links x.entry.user y
    rank_defined x k =
        let by = brought x k in
        let bringers : List Link = filter (λ y. brings_user y.entry x.entry.user) (lawful rules links) in
        let among : IsIn by.0 bringers = in_filter (λ y. brings_user y.entry x.entry.user) by.0 (lawful rules links) by.1 by.2 in
        let least = some_least (map (place_of links) bringers) (place_of links by.0) (in_map (place_of links) bringers by.0 among) in
        let y = of_map (place_of links) bringers least.0 least.2 in
        let parts = of_filter (λ y. brings_user y.entry x.entry.user) y.0 (lawful rules links) y.1 in
        (y.0, record { is_lawful = parts.0; brings = parts.1; place = ap (λ o. unwrap_or o (0, [])) least.1 ∙ sym y.2 })
