-- An act that words give is planned as a draft that may be signed.
use Rattle.std.proofs.Common.{◌≡◌, ◌<◌, ◌≤◌, ◌+◌, ◌^◌, ℕ, Bool, true, false, cond, List, [], ◌∷◌, length, length-append, codes, Option, Some, None, IfSome, Result, Ok, refl, sym, ◌∙◌, ap, subst, arith}
use Rattle.std.proofs.lemmas.Bool.{false≢true}
use Rattle.tg_text.specs.KeySpelling.{spell_scope}
use Rattle.tg_text.specs.Spelling.{IsPublicKey, spaced, spell_base64}
use Rattle.tg_text.specs.declared.keys.Scope.{Scope}
use Rattle.tg_text.specs.declared.keys.Scope.TheVariants.{Team, Role, User, Device as DeviceScope}
use Rattle.acts.specs.ActText.{IsRotated, act_words, spell_act, spell_kind}
use Rattle.acts.specs.declared.entry.Act.{Act}
use Rattle.acts.specs.declared.entry.Act.TheVariants.{AddMember, RemoveMember, AddRole, RemoveRole, GiveRole, TakeRole, AddDevice, RemoveDevice, Revoke, Rotate, Seal, Title, Join}
use Rattle.acts.specs.declared.entry.Entry.{Entry}
use Rattle.acts.specs.declared.entry.InviteKind.{InviteKind}
use Rattle.acts.specs.declared.entry.InviteKind.TheVariants.{Member as of_members, Device as of_devices}
use Rattle.team_model.specs.ActTable.{is_found}
use Rattle.lms_tree.specs.Signatures.{public_key}
use Rattle.lms_keep.specs.Signing.{tree_key}
use Rattle.lms_keep.specs.declared.key_state.KeyState.{KeyState}
use Rattle.link_text.specs.Drafts.{draft_has_proof}
use Rattle.link_text.specs.LinkText.{is_admitted}
use Rattle.link_text.specs.declared.draft.Draft.{Draft}
use Rattle.link_graph.specs.Held.{Held}
use Rattle.outcomes.specs.declared.answer.Answer.{Answer}
use Rattle.outcomes.specs.declared.stop.Stop.{Stop}
use Rattle.tg_outside.specs.Contents.{FileMap}
use Rattle.outcomes.specs.Seeing.{WithFiles}
use Rattle.outcomes.specs.Ending.{IsBodyOf}
use Rattle.outcomes.proofs.Printing.{body_more}
use Rattle.key_commands.proofs.Foundings.{at_moment}
use Rattle.team_author.specs.Drafting.{HasRoom, IsDraft}
use Rattle.team_author.specs.Planning.{entry_of, parents_of, planned}
use Rattle.team_author.proofs.Plans.{planned_is}
use Rattle.team_author.proofs.Sizes.{base64_size, hash_size, key_whole, name_size}
use Rattle.team_words.specs.Acts.{MayGive, is_given}
use Rattle.author_commands.specs.Authoring.{authors}
use Rattle.author_commands.specs.Plain.{plain_plan, plains}
use Rattle.author_commands.specs.Signing.{IsSignable}

-- no such act admits anybody, so none has a proof to show
pub given_proved : (team : List ℕ) (e : Entry) (a : Act) → is_given a ≡ true → is_admitted team e a ≡ true
given_proved team e (AddMember user key seal) h = refl
given_proved team e (RemoveMember user) h = refl
given_proved team e (AddRole role) h = refl
given_proved team e (RemoveRole role) h = refl
given_proved team e (GiveRole user role) h = refl
given_proved team e (TakeRole user role) h = refl
given_proved team e (AddDevice key seal) h = refl
given_proved team e (RemoveDevice user id) h = refl
given_proved team e (Revoke kind id) h = refl
given_proved team e (Rotate scope) h = refl
given_proved team e Seal h = refl
given_proved team e (Title title) h = refl
given_proved team e Join h = refl
given_proved team e _ h = absurd (false≢true h)

pub given_follows : (a : Act) → is_given a ≡ true → is_found a ≡ false
given_follows (AddMember user key seal) e = refl
given_follows (RemoveMember user) e = refl
given_follows (AddRole role) e = refl
given_follows (RemoveRole role) e = refl
given_follows (GiveRole user role) e = refl
given_follows (TakeRole user role) e = refl
given_follows (AddDevice key seal) e = refl
given_follows (RemoveDevice user id) e = refl
given_follows (Revoke kind id) e = refl
given_follows (Rotate scope) e = refl
given_follows Seal e = refl
given_follows (Title title) e = refl
given_follows Join e = refl
given_follows _ e = absurd (false≢true e)

-- how long the text of such an act is
abbrev room : List (List ℕ) → ℕ
room [] = 0
room (w ∷ ws) = length w + 1 + room ws

spaced_short : (ws : List (List ℕ)) → length (spaced ws) ≤ room ws
spaced_short [] = omega arith
spaced_short (w ∷ []) = omega arith
spaced_short (w ∷ v ∷ ws) =
    let both = length-append w (32 ∷ spaced (v ∷ ws)) in
    let rest = spaced_short (v ∷ ws) in
    omega (arith, both, rest)

key_short : (key : List ℕ) → IsPublicKey key → length (spell_base64 key) ≤ 200
key_short key is = omega (arith, base64_size key, key_whole key is)

scope_size : (s : Scope) → IsRotated s → length (spell_scope s) ≤ 40
scope_size Team is = omega arith
scope_size (Role r) is = let both = length-append (codes "role:") r in let name = name_size r is in omega (arith, both, name)
scope_size (User u) is = let both = length-append (codes "user:") u in let name = name_size u is in omega (arith, both, name)
scope_size (DeviceScope d) is = absurd is

kind_size : (kind : InviteKind) → length (spell_kind kind) ≤ 6
kind_size of_members = omega arith
kind_size of_devices = omega arith

words_short : (a : Act) → MayGive a → room (act_words a) ≤ 65536
words_short (AddMember user key seal) may = let u = name_size user may.range.0 in let k = key_short key may.range.1 in let s = hash_size seal may.range.2 in omega (arith, u, k, s)
words_short (RemoveMember user) may = let u = name_size user may.range in omega (arith, u)
words_short (AddRole role) may = let r = name_size role may.range in omega (arith, r)
words_short (RemoveRole role) may = let r = name_size role may.range in omega (arith, r)
words_short (GiveRole user role) may = let u = name_size user may.range.0 in let r = name_size role may.range.1 in omega (arith, u, r)
words_short (TakeRole user role) may = let u = name_size user may.range.0 in let r = name_size role may.range.1 in omega (arith, u, r)
words_short (RemoveDevice user id) may = let u = name_size user may.range.0 in let h = hash_size id may.range.1 in omega (arith, u, h)
words_short (AddDevice key seal) may = let k = key_short key may.range.0 in let s = hash_size seal may.range.1 in omega (arith, k, s)
words_short (Revoke kind id) may = let k = kind_size kind in let h = hash_size id may.range in omega (arith, k, h)
words_short (Rotate scope) may = let s = scope_size scope may.range in omega (arith, s)
words_short Seal may = omega arith
words_short (Title title) may = let t = may.range.short in omega (arith, t)
words_short Join may = omega arith
words_short _ may = absurd (false≢true may.given)

pub act_short : (a : Act) → MayGive a → length (spell_act a) ≤ 65536
act_short a may = let words = spaced_short (act_words a) in let all = words_short a may in omega (arith, words, all)

pub plain_signable : (held : Held) (s : KeyState) (act : Act) (time : ℕ) (d : Draft) → MayGive act → planned held s (public_key (tree_key s)) act time ≡ Ok d → IsDraft d → HasRoom held → IsSignable held s d
plain_signable held s act time d may e draft room =
    let key = public_key (tree_key s) in
    let entry = entry_of s key act time in
    let follows : Draft = record { team = Some held.team; prev = parents_of held.links; key = key; entry = entry } in
    let is : follows ≡ d =
    sym (ap (λ (b : Bool). cond b (record { team = None; prev = []; key = key; entry = entry }) follows) (given_follows act may.given)) ∙ (planned_is held s key act time d e).draft in
    record {
      draft = draft;
      team = sym (ap (λ (x : Draft). x.team) is);
      key = sym (ap (λ (x : Draft). x.key) is);
      proved = subst (λ (x : Draft). draft_has_proof x ≡ true) is (given_proved held.team entry act may.given);
      room = room;
    }

-- the time is the clock's
pub plain_timed : (file key_file : List ℕ) (act : Act) (time : ℕ) → time < 2 ^ 64 → (old new : Option FileMap) (r : Result Answer Stop)
    → WithFiles old new (λ old new. IsBodyOf (authors (plain_plan act time) file key_file) old new r)
    → WithFiles old new (λ old new. IfSome old.moment (λ moment. time ≡ moment) → IsBodyOf (plains file key_file act) old new r)
plain_timed file key_file act time low old new r body = λ rest told.
    body_more (authors (plain_plan act time) file key_file) (plains file key_file act) (record rest { files = old }) (record rest { files = old }) (record rest { files = new }) r
    (λ w is.
    let same : time ≡ w.moment = at_moment time rest.moment w.moment told is.moment in (
      is,
      λ o d. (subst (λ (t : ℕ). t < 2 ^ 64) same low, subst (λ (t : ℕ). authors (plain_plan act t) file key_file w o) same d),
    ))
    (body rest)
