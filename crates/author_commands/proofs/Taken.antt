-- A link of the team for which there is room is refused by no reason but that its name is taken.
use Rattle.std.proofs.Common.{◌≡◌, ◌<◌, ◌∙◌, ℕ, true, List, [], ◌∷◌, ◌++◌, length, Option, Some, None, Result, Ok, Err, IfOk, refl, ap, sym, subst, arith}
use Rattle.std.specs.List.{AllByRecursion}
use Rattle.std.proofs.lemmas.Bool.{false≢true}
use Rattle.sha2.specs.Sha256.{sha256}
use Rattle.tg_text.specs.Spelling.{AreBytes}
use Rattle.lms_tree.proofs.Verified.{signed_verifies}
use Rattle.lms_tree.specs.LmsKinds.{leaves_of, lms_kind}
use Rattle.lms_tree.specs.Signatures.{public_key}
use Rattle.lms_tree.specs.Verifying.{verifies}
use Rattle.lms_keep.specs.KeyText.{IsKeyState, leaves}
use Rattle.lms_keep.specs.Signing.{tree_key}
use Rattle.lms_keep.specs.declared.key_state.KeyState.{KeyState}
use Rattle.team_sets.specs.Names.{Name}
use Rattle.team_sets.proofs.Pasts.{all_at, one_named}
use Rattle.team_model.specs.Judging.{name_of}
use Rattle.team_model.specs.declared.terms.Link.{Link}
use Rattle.link_text.specs.Drafts.{draft_body}
use Rattle.link_text.specs.LinkText.{IsOfTeam, IsValid, LinkIsSpelledOnce, Reads, proves, text}
use Rattle.link_text.specs.TeamFile.{IsHeld}
use Rattle.link_text.specs.declared.draft.Draft.{Draft}
use Rattle.link_graph.specs.Held.{Held}
use Rattle.link_graph.specs.Holds.{text_named}
use Rattle.link_graph.specs.Taking.{Answers, HasSpace, HasText, IsTaken, Takes}
use Rattle.link_graph.specs.declared.take_fault.TakeFault.{TakeFault}
use Rattle.link_graph.specs.declared.take_fault.TakeFault.TheVariants.{TooLong, BadText, OtherTeam, BadSignature, NameClash, Full, Memory}
use Rattle.link_graph.specs.declared.took.Took.{Took}
use Rattle.link_graph.specs.declared.took.Took.TheVariants.{New, Waiting, Again}
use Rattle.link_graph.proofs.Facts.{all_named}
use Rattle.link_graph.proofs.Sizing.{text_held}
use Rattle.key_commands.proofs.MadeBytes.{bytes_signature}
use Rattle.key_commands.proofs.MadeTeams.{leaf_in_tree}
use Rattle.author_commands.specs.Authoring.{signature_by}
use Rattle.author_commands.specs.Signing.{IsSignable, authored}
use Rattle.author_commands.specs.Taken.{AuthoredIsTaken, HoldsWith, IsNotRefused, MayTake}
use Rattle.author_commands.proofs.Signed.{authored_space, authored_valid, may_take}

-- how it is answered to the bytes of a link for which there is room
module _ (once : LinkIsSpelledOnce) (held new : Held) (bytes : List ℕ) (result : Result Took TakeFault) (may : MayTake held bytes) (answers : Answers held new bytes result) where
  same : (l : Link) → Reads bytes l → may.link ≡ l
  same l reads = once bytes may.link l may.valid.reads reads

  pub not_refused : IsNotRefused result
  not_refused = record {
    short = λ e.
        let long = answers.too_long.0 e in
        let short = may.valid.reads.well_formed.fits in
        let is : length bytes ≡ length (text may.link) = ap (λ (b : List ℕ). length b) may.valid.reads.is_text in
        absurd (omega (arith, long, short, is));
    text = λ e. (answers.bad_text.only e).no_link may.link may.valid.reads;
    team = λ e. let bad = answers.other_team.only e in bad.other (subst (λ (l : Link). IsOfTeam held.team l) (same bad.link bad.reads) may.valid.of_team);
    signature = λ e. let bad = answers.bad_signature.only e in false≢true (sym bad.unproved ∙ ap proves (sym (same bad.link bad.reads)) ∙ may.valid.proved);
    room = λ n m e. let bad = (answers.full n m).only e in bad.space (subst (λ (l : Link). HasSpace held.team held.links l) (same bad.link bad.valid.reads) may.space);
  }

  -- where no text of its name is held it is held, unless memory is short
  module _ (is : IsHeld held.team held.links) (fresh : text_named held.links (sha256 bytes) ≡ None) where
    abbrev named : AllByRecursion (λ l. l.name ≡ sha256 (text l)) held.links
    named = all_named held.team held.links is.valid

    other_text : (t : List ℕ) → text_named held.links (sha256 bytes) ≡ Some t → ⊥
    other_text t e = let bad : ◌≡◌ {A = Option (List ℕ)} None (Some t) = sym fresh ∙ e in cc

    no_text : HasText held.links bytes → ⊥
    no_text has = other_text bytes (text_held held.links bytes is.set named has)

    pub not_taken : (n : Name) → result ≡ Err (NameClash n) → ⊥
    not_taken n e =
        let bad = (answers.name_clash n).only e in
        let x = one_named name_of held.links bad.link.name bad.taken in
        let its : x.0.name ≡ sha256 (text x.0) = all_at (λ l. l.name ≡ sha256 (text l)) held.links named x.0 x.1 in
        let same_name : sha256 (text x.0) ≡ sha256 bytes = sym its ∙ x.2 ∙ bad.valid.reads.name in
        other_text (text x.0) (subst (λ (m : Name). text_named held.links m ≡ Some (text x.0)) same_name (text_held held.links (text x.0) is.set named (x.0, x.1, refl)))

    -- a fault is want of memory
    pub only_memory : (fault : TakeFault) → result ≡ Err fault → fault ≡ Memory
    only_memory TooLong e = absurd (not_refused.short e)
    only_memory BadText e = absurd (not_refused.text e)
    only_memory OtherTeam e = absurd (not_refused.team e)
    only_memory BadSignature e = absurd (not_refused.signature e)
    only_memory (NameClash n) e = absurd (not_taken n e)
    only_memory (Full n m) e = absurd (not_refused.room n m e)
    only_memory Memory e = refl

    takes_with : (took : Took) → Takes held new bytes took → HoldsWith held new bytes
    takes_with took takes link valid =
        takes.held ∙ ap (λ (l : Link). record { team = held.team; links = held.links ++ l ∷ [] }) (once bytes takes.link link takes.valid.reads valid.reads)

    pub holds_with : (took : Took) → result ≡ Ok took → HoldsWith held new bytes
    holds_with took e = by_took took (subst (λ (r : Result Took TakeFault). IfOk r (λ t. IsTaken held new bytes t)) e answers.taken)
      where
        by_took : (t : Took) → IsTaken held new bytes t → HoldsWith held new bytes
        by_took Again h = absurd (no_text h.0)
        by_took Waiting h = takes_with Waiting h
        by_took (New positions) h = takes_with (New positions) h

-- a link that was planned and signed is valid, and there is room for it
module _ (held : Held) (s : KeyState) (d : Draft) (range : IsKeyState s) (leaf : s.next < leaves s.lms) (signable : IsSignable held s d) where
  abbrev link : Link
  link = authored d (signature_by s d)

  bytes : AreBytes (signature_by s d)
  bytes = bytes_signature (tree_key s) s.next (draft_body d)

  in_tree : s.next < leaves_of (tree_key s).lms
  in_tree = leaf_in_tree (lms_kind s.lms) s.next leaf

  by_key : verifies (public_key (tree_key s)) (draft_body d) (signature_by s d) ≡ true
  by_key = signed_verifies (tree_key s) s.next (draft_body d) range.id.size in_tree

  verified : verifies d.key (draft_body d) (signature_by s d) ≡ true
  verified = subst (λ (k : List ℕ). verifies k (draft_body d) (signature_by s d) ≡ true) (sym signable.key) by_key

  pub signed_valid : IsValid held.team (text link) link
  signed_valid = authored_valid held s d (signature_by s d) signable bytes verified

  pub signed_space : HasSpace held.team held.links link
  signed_space = authored_space held s d (signature_by s d) signable bytes verified

  authored_may : MayTake held (text link)
  authored_may = may_take held s d (signature_by s d) signable bytes verified

pub authored_taken : LinkIsSpelledOnce → AuthoredIsTaken
authored_taken once held new s d result range leaf signable answers = not_refused once held new (text (authored d (signature_by s d))) result (authored_may held s d range leaf signable) answers
