-- What `plain` plans for a team's file is one thing, and a draft of it may be signed: by the definition of the plan alone.
use Rattle.std.proofs.Common.{◌≡◌, ◌<◌, ◌∙◌, ◌^◌, ℕ, true, List, [], ◌∷◌, Result, Ok, Err, sym, subst}
use Rattle.std.specs.List.{AllByRecursion, list_all}
use Rattle.std.proofs.lemmas.Bool.{and_parts}
use Rattle.sha2.specs.Sha256.{sha256}
use Rattle.tg_text.specs.Spelling.{IsHash}
use Rattle.acts.specs.declared.entry.Act.{Act}
use Rattle.team_sets.specs.Names.{Name, has_name}
use Rattle.team_sets.specs.Order.{names}
use Rattle.team_sets.proofs.Ancestors.{in_links}
use Rattle.team_sets.proofs.Distinct.{distinct-differ}
use Rattle.team_sets.proofs.Pasts.{all_at, one_named}
use Rattle.team_model.specs.Judging.{name_of, order_of, prev_of}
use Rattle.team_model.specs.declared.terms.Link.{Link}
use Rattle.lms_tree.specs.Signatures.{public_key}
use Rattle.lms_keep.specs.KeyText.{IsKeyState}
use Rattle.lms_keep.specs.Signing.{tree_key}
use Rattle.lms_keep.specs.declared.key_state.KeyState.{KeyState}
use Rattle.link_text.specs.LinkText.{text}
use Rattle.link_text.specs.TeamFile.{IsHeld}
use Rattle.link_text.specs.declared.draft.Draft.{Draft}
use Rattle.link_graph.specs.Held.{Held}
use Rattle.link_graph.proofs.Facts.{all_named}
use Rattle.lockboxes.specs.Digests.{hash_of}
use Rattle.key_commands.proofs.MadeBytes.{public_is}
use Rattle.team_author.specs.Drafting.{IsDraft}
use Rattle.team_author.specs.Planning.{parents_of, planned}
use Rattle.team_author.specs.declared.plan_fault.PlanFault.{PlanFault}
use Rattle.team_author.specs.declared.plan_fault.PlanFault.TheVariants as plan
use Rattle.team_author.proofs.Drafts.{planned_draft}
use Rattle.team_author.proofs.Heads.{heads_connected}
use Rattle.team_author.proofs.Plans.{planned_is}
use Rattle.team_author.proofs.Rooms.{room_of}
use Rattle.team_words.specs.Acts.{MayGive}
use Rattle.author_commands.specs.Plain.{IsDoneBy, plain_plan}
use Rattle.author_commands.specs.Signing.{IsSound}
use Rattle.author_commands.specs.declared.planner.Planned.{Planned}
use Rattle.author_commands.specs.declared.planner.Planned.TheVariants.{Refuses, Writes}
use Rattle.author_commands.specs.declared.refusal.Refusal.TheVariants.{Full, NotPermitted}
use Rattle.author_commands.proofs.PlainActs.{act_short, plain_signable}

-- the parents of a planned link are names of held links, which are hashes
module _ (held : Held) (is : IsHeld held.team held.links) where
  abbrev Connected : Name → Type 0
  Connected n = has_name (names name_of (order_of held.links)) n ≡ true

  name_hash : (n : Name) → Connected n → IsHash n
  name_hash n h =
      let x = one_named name_of (order_of held.links) n h in
      let among = in_links name_of prev_of held.links (distinct-differ name_of held.links is.set) x.0 x.1 in
      let its : x.0.name ≡ sha256 (text x.0) = all_at (λ (l : Link). l.name ≡ sha256 (text l)) held.links (all_named held.team held.links is.valid) x.0 among in
      subst IsHash (sym its ∙ x.2) (hash_of (text x.0))

  names_hash : (ns : List Name) → list_all (has_name (names name_of (order_of held.links))) ns ≡ true → AllByRecursion IsHash ns
  names_hash [] h = tt
  names_hash (n ∷ ns) h =
      let both = and_parts (has_name (names name_of (order_of held.links)) n) (list_all (has_name (names name_of (order_of held.links))) ns) h in
      (name_hash n both.0, names_hash ns both.1)

  parents_hash : AllByRecursion IsHash (parents_of held.links)
  parents_hash = names_hash (parents_of held.links) (heads_connected held.links 64)

module _ (act : Act) (time : ℕ) (may : MayGive act) (low : time < 2 ^ 64) (held : Held) (s : KeyState) (is : IsHeld held.team held.links) (range : IsKeyState s) where
  abbrev key : List ℕ
  key = public_key (tree_key s)

  is_planned : (r : Result Draft PlanFault) (d : Draft) → IsDoneBy r (Writes d) → r ≡ Ok d
  is_planned (Ok e) d h = let same : ◌≡◌ {A = Planned} (Writes d) (Writes e) = h in cc
  is_planned (Err plan.Full) d h = absurd (let bad : ◌≡◌ {A = Planned} (Writes d) (Refuses Full) = h in cc)
  is_planned (Err (plan.NotPermitted reason)) d h = absurd (let bad : ◌≡◌ {A = Planned} (Writes d) (Refuses (NotPermitted reason)) = h in cc)
  is_planned (Err plan.Memory) d h = absurd h

  sound_draft : (d : Draft) → planned held s key act time ≡ Ok d → IsSound held s (Writes d)
  sound_draft d e =
      let p = planned_is held s key act time d e in
      let drafted = planned_draft held s key act time is (parents_hash held is) range (public_is (tree_key s) range.id) may.range (act_short act may) low p.permitted in
      plain_signable held s act time d may e (subst IsDraft p.draft drafted) (room_of held p.room)

  pub plain_sound : (p : Planned) → plain_plan act time held s p → IsSound held s p
  plain_sound (Refuses refusal) h = tt
  plain_sound (Writes d) h = sound_draft d (is_planned (planned held s key act time) d h)

one_done : (r : Result Draft PlanFault) (p q : Planned) → IsDoneBy r p → IsDoneBy r q → p ≡ q
one_done (Ok d) p q h k = h ∙ sym k
one_done (Err plan.Full) p q h k = h ∙ sym k
one_done (Err (plan.NotPermitted reason)) p q h k = h ∙ sym k
one_done (Err plan.Memory) p q h k = absurd h

-- one thing is planned
pub one_plan : (act : Act) (time : ℕ) (held : Held) (s : KeyState) (p q : Planned) → plain_plan act time held s p → plain_plan act time held s q → p ≡ q
one_plan act time held s p q h k = one_done (planned held s (public_key (tree_key s)) act time) p q h k
