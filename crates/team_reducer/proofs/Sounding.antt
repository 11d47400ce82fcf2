-- The state of every team is sound, and the three laws of the rules of acts.
use Rattle.std.proofs.Common.{◌≡◌, ◌≤◌, Bool, true, false, not, ◌&&◌, cond, List, [], ◌∷◌, append-nil, fold, length, Option, Some, None, is_none, refl, sym, ◌∙◌, ap, subst, inl, inr, ◌⊎◌, arith}
use Rattle.std.specs.List.{AllByRecursion}
use Rattle.std.specs.List.Sorted.{IsStrictlySortedBy}
use Rattle.std.specs.Cmp.Lexicographic.{nat_list_eq_equiv}
use Rattle.sha2.specs.Sha256.{sha256}
use Rattle.std.proofs.lemmas.Bool.{false≢true, or_parts}
use Rattle.team_sets.specs.Members.{IsIn}
use Rattle.team_sets.specs.Names.{Name, has_name, same_name}
use Rattle.team_sets.specs.SortedLaws.{IsAscending, by_names}
use Rattle.tg_text.specs.declared.keys.BoxLine.{BoxLine}
use Rattle.tg_text.specs.declared.keys.KeyId.{KeyId}
use Rattle.key_reach.specs.Keys.{is_device}
use Rattle.team_sets.proofs.Agree.{any_in}
use Rattle.team_sets.proofs.Pasts.{any_of}
use Rattle.acts.specs.declared.entry.Act.{Act}
use Rattle.acts.specs.declared.entry.Act.TheVariants.{Found, AddMember, RemoveMember, AddRole, RemoveRole, GiveRole, TakeRole, AddDevice, RemoveDevice, InviteMember, InviteDevice, Revoke, AdmitMember, AdmitDevice, Title}
use Rattle.acts.specs.declared.entry.Entry.{Entry}
use Rattle.acts.specs.declared.entry.InviteKind.TheVariants.{Member as of_members, Device as of_devices}
use Rattle.team_model.specs.ActTable.{after, effect, first_reason, is_found, refusal, row_of, with_proof_used}
use Rattle.team_model.specs.CountingLaws.{IsByListed}
use Rattle.team_model.specs.Limits.{most_boxes}
use Rattle.team_model.specs.State.{State, admin, empty_state, has_other_device, is_empty_state, is_listed, lists_device, lists_user}
use Rattle.team_model.specs.Strikes.{brings_user}
use Rattle.team_model.specs.Writes.{listed_device, opened_invitation}
use Rattle.team_model.specs.declared.terms.Member.{Member}
use Rattle.team_model.specs.declared.terms.Reason.{Reason}
use Rattle.team_model.specs.declared.terms.Reason.TheVariants.{NotListed}
use Rattle.team_model.proofs.Brought.{AllUnmet, all_unmet, by_listed, from_not, gives_to_listed, holder_listed, own_row, takes_from_holder, team_brings_in}
use Rattle.team_state.specs.Kept.{name_cmp}
use Rattle.team_state.proofs.Lookups.{ascends-by, tables-ascend}
use Rattle.team_state.proofs.Placed.{all-weaker}
use Rattle.team_sets.specs.Closure.{has}
use Rattle.key_reach.specs.Keys.{current_keys, same_key}
use Rattle.team_model.specs.KeyLines.{lined, next_generation, taken_boxes, taken_news}
use Rattle.team_model.specs.KeyTables.{key_table}
use Rattle.team_model.specs.Writes.{with_boxes}
use Rattle.team_model.proofs.Lined.{lined-listed, lined-unlisted, with_lines-are}
use Rattle.team_state.specs.Kept.{IsOrdered}
use Rattle.team_state.proofs.Placed.{all-append}
use Rattle.team_reducer.specs.News.{with_keys}
use Rattle.team_reducer.proofs.Devices.{content-allowed, down-allowed, down-stays, effect-stays}
use Rattle.team_reducer.proofs.Pasts.{current-past, ordered-keys, past-is, past-stays, past_in, within-next}
use Rattle.team_reducer.proofs.Taken.{all-boxes, few-boxes, next-taken, others-taken}
use Rattle.team_reducer.proofs.Untouched.{untouched}
use Rattle.team_reducer.specs.Sound.{IsManned, IsSound, goes_down, has_device, is_past, made_by}
use Rattle.team_reducer.proofs.Firm.{Firm, Rises, firm-device, firm-given, firm-newcomer, firm-role, firm-taken, firm-title, firm-without_device, firm-without_member, firm-without_role}
use Rattle.team_reducer.proofs.Invites.{firm-closed, firm-invitation, firm-proof_used, still_absent, still_new}

-- the three laws
pub refused_stays : (s : State) (e : Entry) (reason : Reason) → refusal s e ≡ Some reason → after s e ≡ s
refused_stays s e reason h = ap (λ o. cond (is_none o) (lined (effect s e e.act) e) s) h

pub authors_listed : (s : State) (e : Entry) → refusal s e ≡ None → (is_found e.act ≡ true) ⊎ (lists_user s e.user ≡ true)
authors_listed s e h = go (by_listed sha256 s e h)
  where
    go : IsByListed s e → (is_found e.act ≡ true) ⊎ (lists_user s e.user ≡ true)
    go (inl is) = inl is
    go (inr listed) = inr listed.0

pub only_brought_in : (s : State) (e : Entry) → refusal s e ≡ None → (u : Name) → lists_user (after s e) u ≡ true → (lists_user s u ≡ true) ⊎ (brings_user e u ≡ true)
only_brought_in s e h u listed = (team_brings_in sha256).users s e u listed

-- the effect of a permitted act, other than founding
module _ (s : State) (e : Entry) (firm : Firm s) where
  firm-effect : (a : Act) → is_found a ≡ false → AllUnmet (row_of sha256 s e a) → Firm (effect s e a)
  firm-effect (Found seal title) other u = absurd (false≢true (sym other))
  firm-effect (AddMember user key seal) other u =
      firm-newcomer s firm user (sha256 key) seal (or_parts (lists_user s user) (is_listed s (sha256 key)) u.1.0).0 u.1.1.0
  firm-effect (RemoveMember user) other u = firm-without_member s firm user u.1.1.0
  firm-effect (AddRole role) other u = firm-role s firm role u.1.1.1.0
  firm-effect (RemoveRole role) other u = firm-without_role s firm role
  firm-effect (GiveRole user role) other u = firm-given s firm user role (gives_to_listed sha256 s e user role u)
  firm-effect (TakeRole user role) other u =
      firm-taken s firm user role (holder_listed user role s.members (takes_from_holder sha256 s e user role u)) u.1.1.0
  firm-effect (AddDevice key seal) other u = firm-device s firm (listed_device (sha256 key) seal e.user) u.1.0
  firm-effect (RemoveDevice user id) other u =
      firm-without_device s firm user id (from_not (lists_device s user id) u.1.0) (from_not (has_other_device s user id) u.1.1.0)
  firm-effect (InviteMember key uses expiry) other u = firm-invitation s firm (opened_invitation (sha256 key) of_members e.user uses expiry)
  firm-effect (InviteDevice key uses expiry) other u = firm-invitation s firm (opened_invitation (sha256 key) of_devices e.user uses expiry)
  firm-effect (Revoke kind id) other u = firm-closed s firm id
  firm-effect (AdmitMember user key seal by proof) other u =
      firm-newcomer (with_proof_used s (sha256 by) proof) (firm-proof_used s firm (sha256 by) proof) user (sha256 key) seal
      (still_absent s (sha256 by) proof user (or_parts (lists_user s user) (is_listed s (sha256 key)) u.1.1.1.0).0) (still_new s (sha256 by) proof (sha256 key) u.1.1.1.1.0)
  firm-effect (AdmitDevice key seal by proof) other u =
      firm-device (with_proof_used s (sha256 by) proof) (firm-proof_used s firm (sha256 by) proof) (listed_device (sha256 key) seal e.user)
      (still_new s (sha256 by) proof (sha256 key) u.1.1.1.1.1.0)
  firm-effect (Title title) other u = firm-title s firm title
  firm-effect _ other u = firm

-- founding makes such a state of the empty one
founded : (e : Entry) (a : Act) → is_found a ≡ true → Firm (effect empty_state e a) × (is_empty_state (effect empty_state e a) ≡ false)
unfolding IsStrictlySortedBy
founded e (Found seal title) is = (
  record {
    ordered = record { members = (tt, tt); roles = (tt, tt); devices = (tt, tt); invitations = tt; currents = tt; others = tt };
    roles_rise = ((tt, tt), tt);
    administered = refl;
    equipped = λ u h. h;
    few_roles = omega arith;
  },
  refl,
)
founded e _ is = absurd (false≢true is)

-- a founded team, with its keys and boxes
record Whole (s : State) : Type 0 where
  firm : Firm s
  full : is_empty_state s ≡ false
  contents : AllByRecursion (λ (b : BoxLine). is_device b.of.scope ≡ false) s.boxes
  past : AllByRecursion (λ (b : BoxLine). (past_in s.currents b.to ≡ true) × (past_in s.currents b.of ≡ true)) s.boxes
  down : AllByRecursion (λ (b : BoxLine). goes_down s b ≡ true) s.boxes
  few_boxes : length s.boxes ≤ most_boxes

-- a state that entries made: empty, or that of a founded team
abbrev IsMade : State → Type 0
IsMade s = (s ≡ empty_state) ⊎ Whole s

-- a founded team isn't founded again
already : (s : State) (e : Entry) (a : Act) → is_empty_state s ≡ false → is_found a ≡ true → first_reason (row_of sha256 s e a) ≡ None → ⊥
already s e (Found seal title) full is p = false≢true (sym full ∙ from_not (is_empty_state s) (all_unmet (row_of sha256 s e (Found seal title)) p).0)
already s e _ full is p = false≢true is

whole_founded : (e : Entry) (a : Act) → is_found a ≡ true → Whole (effect empty_state e a)
whole_founded e a is =
    let team = founded e a is in
    let none : [] ≡ (effect empty_state e a).boxes = sym (untouched empty_state e a).boxes in
    record {
      firm = team.0;
      full = team.1;
      contents = subst (λ bs. AllByRecursion (λ (b : BoxLine). is_device b.of.scope ≡ false) bs) none tt;
      past = subst (λ bs. AllByRecursion (λ (b : BoxLine). (past_in (effect empty_state e a).currents b.to ≡ true) × (past_in (effect empty_state e a).currents b.of ≡ true)) bs) none tt;
      down = subst (λ bs. AllByRecursion (λ (b : BoxLine). goes_down (effect empty_state e a) b ≡ true) bs) none tt;
      few_boxes = subst (λ (bs : List BoxLine). length bs ≤ most_boxes) none (omega arith);
    }

-- the effect of another act
whole_effect : (s : State) (e : Entry) (a : Act) → Whole s → is_found a ≡ false → AllUnmet (row_of sha256 s e a) → Whole (effect s e a)
whole_effect s e a whole other unmet =
    let t = effect s e a in
    let same = untouched s e a in
    let boxes : s.boxes ≡ t.boxes = sym same.boxes in
    record {
      firm = firm-effect s e whole.firm a other unmet;
      full = same.titled whole.full;
      contents = subst (λ bs. AllByRecursion (λ (b : BoxLine). is_device b.of.scope ≡ false) bs) boxes whole.contents;
      past =
          subst (λ ks. AllByRecursion (λ (b : BoxLine). (past_in ks b.to ≡ true) × (past_in ks b.of ≡ true)) t.boxes) (sym same.currents)
          (subst (λ bs. AllByRecursion (λ (b : BoxLine). (past_in s.currents b.to ≡ true) × (past_in s.currents b.of ≡ true)) bs) boxes whole.past);
      down =
          subst (λ bs. AllByRecursion (λ (b : BoxLine). goes_down t b ≡ true) bs) boxes
          (all-weaker (λ (b : BoxLine). goes_down s b ≡ true) (λ (b : BoxLine). goes_down t b ≡ true) (down-stays s t (effect-stays s e whole.firm.ordered a other unmet)) s.boxes whole.down);
      few_boxes = subst (λ (bs : List BoxLine). length bs ≤ most_boxes) boxes whole.few_boxes;
    }

-- the lines that fit
module _ (s : State) (e : Entry) (whole : Whole s) where
  abbrev taken : List KeyId
  taken = taken_news s e e.lines.news

  abbrev keyed : State
  keyed = with_keys s taken

  abbrev keys_then : List KeyId
  keys_then = current_keys (key_table keyed)

  abbrev more : List BoxLine
  more = taken_boxes s keys_then e.lines.boxes

  abbrev IsPast : BoxLine → Type 0
  IsPast b = (past_in keyed.currents b.to ≡ true) × (past_in keyed.currents b.of ≡ true)

  in_order : IsOrdered keyed
  in_order = ordered-keys taken s whole.firm.ordered (others-taken s e e.lines.news)

  held_past : (j : KeyId) → past_in s.currents j ≡ true → past_in keyed.currents j ≡ true
  held_past j h = past-stays (next_generation s) j taken s.currents (next-taken s e e.lines.news) (within-next s whole.firm.ordered) h

  of_current : (k : KeyId) → has same_key keys_then k ≡ true → past_in keyed.currents k ≡ true
  of_current k h = sym (past-is keyed k) ∙ current-past keyed in_order k h

  whole_lines : Whole (with_boxes keyed more)
  whole_lines = record {
    firm = record {
      ordered = record { members = in_order.members; roles = in_order.roles; devices = in_order.devices; invitations = in_order.invitations; currents = in_order.currents; others = in_order.others };
      roles_rise = whole.firm.roles_rise;
      administered = whole.firm.administered;
      equipped = whole.firm.equipped;
      few_roles = whole.firm.few_roles;
    };
    full = whole.full;
    contents =
        all-append (λ (b : BoxLine). is_device b.of.scope ≡ false) s.boxes more whole.contents
        (all-boxes s keys_then (λ (b : BoxLine). is_device b.of.scope ≡ false) (λ held b fits. content-allowed s b fits.allowed) e.lines.boxes [] tt);
    past =
        all-append IsPast s.boxes more
        (all-weaker (λ (b : BoxLine). (past_in s.currents b.to ≡ true) × (past_in s.currents b.of ≡ true)) IsPast (λ b h. (held_past b.to h.0, held_past b.of h.1)) s.boxes whole.past)
        (all-boxes s keys_then IsPast (λ held b fits. (of_current b.to fits.to, of_current b.of fits.of)) e.lines.boxes [] tt);
    down =
        all-append (λ (b : BoxLine). goes_down (with_boxes keyed more) b ≡ true) s.boxes more
        (all-weaker (λ (b : BoxLine). goes_down s b ≡ true) (λ (b : BoxLine). goes_down (with_boxes keyed more) b ≡ true) (down-stays s (with_boxes keyed more) (λ d u h. h)) s.boxes whole.down)
        (all-boxes s keys_then (λ (b : BoxLine). goes_down (with_boxes keyed more) b ≡ true)
        (λ held b fits. down-stays s (with_boxes keyed more) (λ d u h. h) b (down-allowed s b fits.allowed)) e.lines.boxes [] tt);
    few_boxes = few-boxes s keys_then e.lines.boxes [] (subst (λ (bs : List BoxLine). length bs ≤ most_boxes) (sym (append-nil s.boxes)) whole.few_boxes);
  }

  whole_lined : Whole (lined s e)
  whole_lined = go (lists_device s e.user e.device) refl
    where
      go : (b : Bool) → lists_device s e.user e.device ≡ b → Whole (lined s e)
      go true h = subst (λ t. Whole t) (sym (lined-listed s e h ∙ with_lines-are s e e.lines)) whole_lines
      go false h = subst (λ t. Whole t) (sym (lined-unlisted s e h)) whole

whole_after : (s : State) (e : Entry) → IsMade s → refusal s e ≡ None → Whole (effect s e e.act)
whole_after s e made p = go made
  where
    by_act : (b : Bool) → is_found e.act ≡ b → Whole s → Whole (effect s e e.act)
    by_act true is whole = absurd (already s e e.act whole.full is (subst (λ b. first_reason (cond b (row_of sha256 s e e.act) ((not (lists_user s e.user && lists_device s e.user e.device), NotListed) ∷ row_of sha256 s e e.act)) ≡ None) is p))
    by_act false is whole =
        whole_effect s e e.act whole is
        (own_row sha256 s e e.act (subst (λ b. first_reason (cond b (row_of sha256 s e e.act) ((not (lists_user s e.user && lists_device s e.user e.device), NotListed) ∷ row_of sha256 s e e.act)) ≡ None) is p))

    first : (b : Bool) → is_found e.act ≡ b → s ≡ empty_state → Whole (effect s e e.act)
    first true is none = subst (λ t. Whole (effect t e e.act)) (sym none) (whole_founded e e.act is)
    first false is none = absurd (by (authors_listed s e p))
      where
        by : (is_found e.act ≡ true) ⊎ (lists_user s e.user ≡ true) → ⊥
        by (inl found) = false≢true (sym is ∙ found)
        by (inr listed) = false≢true (subst (λ t. lists_user t e.user ≡ true) none listed)

    go : IsMade s → Whole (effect s e e.act)
    go (inl none) = first (is_found e.act) refl none
    go (inr whole) = by_act (is_found e.act) refl whole

made-after : (s : State) (e : Entry) → IsMade s → IsMade (after s e)
made-after s e made = go (refusal s e) refl
  where
    go : (o : Option Reason) → refusal s e ≡ o → IsMade (cond (is_none o) (lined (effect s e e.act) e) s)
    go None p = inr (whole_lined (effect s e e.act) e (whole_after s e made p))
    go (Some reason) p = made

made-all : (entries : List Entry) (s : State) → IsMade s → IsMade (fold (λ s e. after s e) s entries)
made-all [] s made = made
made-all (e ∷ es) s made = made-all es (after s e) (made-after s e made)

all-made : (entries : List Entry) → IsMade (made_by entries)
all-made entries = made-all entries empty_state (inl refl)

sound_empty : IsSound empty_state
sound_empty = record {
  tables = record { members = tt; roles = tt; devices = tt; invitations = tt; currents = tt };
  roles_ascend = tt;
  keyed = record { currents = tt; others = tt; contents = tt; past = tt };
  blank = λ h. refl;
  administered = λ h. absurd (false≢true (sym h));
  equipped = λ u h. absurd (false≢true h);
  few_roles = omega arith;
  down = tt;
  few_boxes = omega arith;
}

sound_made : (s : State) → IsMade s → IsSound s
sound_made s made = go made
  where
    go : IsMade s → IsSound s
    go (inl none) = subst (λ t. IsSound t) (sym none) sound_empty
    go (inr whole) =
        let tables = tables-ascend s whole.firm.ordered in
        record {
          tables = tables;
          roles_ascend =
              all-weaker Rises (λ (m : Member). IsAscending (by_names (λ r. r)) m.roles) (λ m up. ascends-by name_cmp (λ n. n) m.roles up) s.members whole.firm.roles_rise;
          keyed = record {
            currents = tables.currents;
            others = whole.firm.ordered.others;
            contents = whole.contents;
            past =
                all-weaker (λ (b : BoxLine). (past_in s.currents b.to ≡ true) × (past_in s.currents b.of ≡ true)) (λ (b : BoxLine). (is_past s b.to ≡ true) × (is_past s b.of ≡ true))
                (λ b h. (past-is s b.to ∙ h.0, past-is s b.of ∙ h.1)) s.boxes whole.past;
          };
          blank = λ h. absurd (false≢true (sym whole.full ∙ h));
          administered = λ h. whole.firm.administered;
          equipped = whole.firm.equipped;
          few_roles = whole.firm.few_roles;
          down = whole.down;
          few_boxes = whole.few_boxes;
        }

pub states_sound : (entries : List Entry) → IsSound (made_by entries)
states_sound entries = sound_made (made_by entries) (all-made entries)

pub manned : (s : State) → IsSound s → IsManned s
manned s sound = record { admins = go (is_empty_state s) refl; users = sound.equipped }
  where
    go : (b : Bool) → is_empty_state s ≡ b → (s ≡ empty_state) ⊎ ((m : Member) × IsIn m s.members × (has_name m.roles admin ≡ true) × (has_device s m.user ≡ true))
    go true e = inl (sound.blank e)
    go false e =
        let m = any_of (λ m. has_name m.roles admin) s.members (sound.administered e) in
        inr (m.0, m.1, m.2, sound.equipped m.0.user (any_in (λ n. same_name n.user m.0.user) s.members m.0 m.1 (nat_list_eq_equiv.refl m.0.user)))
