-- What a command that writes a link by a key makes of the team's file.
use Rattle.std.proofs.Common.{◌≡◌, ◌≢◌, ◌<◌, ◌⊎◌, ◌∙◌, inl, inr, ℕ, Bool, true, false, List, [], ◌∷◌, ◌++◌, length-append, Option, Some, None, option_map, nat_eq, nat_lt, refl, sym, ap, subst, arith}
use Rattle.std.specs.Cmp.Lexicographic.{pointwise}
use Rattle.std.specs.FinMap as fin
use Rattle.std.proofs.lemmas.Bool.{ltb-true}
use Rattle.std.proofs.lemmas.Bool.Decides.{Decides-eqb}
use Rattle.std.proofs.lemmas.Slice.Eq.{slice_eq-Decides}
use Rattle.sha2.specs.Sha256.{sha256}
use Rattle.team_sets.specs.Names.{Name, has_name}
use Rattle.team_sets.specs.Members.{HaveSameMembers, IsIn}
use Rattle.team_sets.specs.Order.{names}
use Rattle.team_sets.proofs.Decisions.{in_end, in_front}
use Rattle.team_sets.proofs.Pasts.{all_at, all_more, in_more, one_named}
use Rattle.team_model.specs.Judging.{name_of}
use Rattle.team_model.specs.declared.terms.Link.{Link}
use Rattle.lms_keep.specs.KeyText.{IsKeyFile, IsKeyState, KeyIsSpelledOnce, key_text, leaves}
use Rattle.lms_keep.specs.Signing.{advanced}
use Rattle.lms_keep.specs.declared.key_state.KeyState.{KeyState}
use Rattle.link_text.specs.LinkText.{IsValid, text}
use Rattle.link_text.specs.TeamFile.{IsFileOf, IsHeld, file_text}
use Rattle.link_text.specs.declared.draft.Draft.{Draft}
use Rattle.link_graph.specs.Held.{Held}
use Rattle.link_graph.specs.Holds.{text_named}
use Rattle.link_graph.specs.Taking.{HasSpace, HasText}
use Rattle.link_graph.proofs.Facts.{all_named}
use Rattle.link_graph.proofs.Sizing.{text_found, text_held}
use Rattle.link_graph.proofs.Webbing.{set_push}
use Rattle.team_files.specs.FileLaws.{FileIsReadOnce}
use Rattle.link_intake.specs.Merged.{IsHeldIn}
use Rattle.link_intake.specs.UnionLaws.{IsUnion, IsValidText}
use Rattle.outcomes.specs.Refusing.{Found, holds, opening}
use Rattle.outcomes.specs.Steps.{World, Step, Outcome, after, replace, saying, writes}
use Rattle.openers.specs.Key.{FindsKey}
use Rattle.openers.specs.Team.{FindsTeam}
use Rattle.openers.proofs.Keys.{key_found_once}
use Rattle.openers.proofs.Teams.{team_found_once}
use Rattle.author_commands.specs.Authoring.{IsAuthoredText, authors, by_found_text, by_leaf, by_plan, found_text, keyed, link_line, planning, signature_by}
use Rattle.author_commands.specs.Refusals.{refusal_line}
use Rattle.author_commands.specs.Signing.{IsSound, authored}
use Rattle.author_commands.specs.declared.planner.Planned.{Planned}
use Rattle.author_commands.specs.declared.planner.Planned.TheVariants.{Refuses, Writes}
use Rattle.author_commands.specs.declared.refusal.Refusal.TheVariants.{NameClash, Spent}
use Rattle.author_commands.proofs.Taken.{signed_space, signed_valid}
use Rattle.team_run.specs.ManyRuns.{Replaces}
use Rattle.team_run.specs.Serving.{HoldsTeam}
use Rattle.team_run.proofs.Cuts.{last_bytes, saying_replaces_none, whole_replaces, writes_replace_none}
use Rattle.team_run.proofs.KeyFiles.{key_no_team}
use Rattle.team_run.proofs.Openings.{IsSaid, key_or, some_same, team_or}

-- the outcome is a refusal by a line
abbrev pub IsRefused : Outcome → Type 0
IsRefused o = (status : ℕ) × (text : List ℕ) × (0 < status) × (o ≡ saying status text)

abbrev pub link_by : KeyState → Draft → Link
link_by key draft = authored draft (signature_by key draft)

-- the link is put into the file
abbrev pub posted_outcome : List ℕ → Held → Link → Outcome
posted_outcome file held link = by_found_text file held link (found_text held link)

-- the key moves on before
abbrev pub signed_outcome : List ℕ → KeyState → Outcome → Outcome
signed_outcome key_file key q = record { status = q.status; steps = replace key_file (key_text (advanced key)) ∷ q.steps }

module _ (plans : Held → KeyState → Planned → Type 0) (file key_file : List ℕ) (w : World) where
  -- both files are opened, a leaf is left, and a link is planned
  pub record IsOpened (held : Held) (key : KeyState) (draft : Draft) : Type 0 where
    pub bytes : List ℕ
    pub there : fin.get w.files file ≡ Some bytes
    pub in_file : IsHeldIn bytes held
    pub key_bytes : List ℕ
    pub key_there : fin.get w.files key_file ≡ Some key_bytes
    pub is_key : IsKeyFile key_bytes key
    pub leaf : key.next < leaves key.lms
    pub planned : plans held key (Writes draft)

  abbrev pub IsSigned : Outcome → Type 0
  IsSigned o = (held : Held) × (key : KeyState) × (draft : Draft) × IsOpened held key draft × (o ≡ signed_outcome key_file key (posted_outcome file held (link_by key draft)))

  module _ (o : Outcome) where
    module _ (held : Held) (bytes : List ℕ) (at : fin.get w.files file ≡ Some bytes) (in_file : IsHeldIn bytes held) where
      module _ (s : KeyState) (key_bytes : List ℕ) (key_at : fin.get w.files key_file ≡ Some key_bytes) (is_key : IsKeyFile key_bytes s) where
        by_planned : nat_lt s.next (leaves s.lms) ≡ true → (p : Planned) → plans held s p → by_plan file key_file held s p w o → IsRefused o ⊎ IsSigned o
        by_planned left (Refuses refusal) planned d = inl (4, refusal_line refusal, omega arith, d)
        by_planned left (Writes draft) planned d = inr (
          held,
          s,
          draft,
          record { bytes = bytes; there = at; in_file = in_file; key_bytes = key_bytes; key_there = key_at; is_key = is_key; leaf = ltb-true s.next (leaves s.lms) left; planned = planned },
          d.2 ∙ ap (λ (q : Outcome). signed_outcome key_file s q) d.1,
        )

        by_left : (b : Bool) → nat_lt s.next (leaves s.lms) ≡ b → by_leaf b (planning plans file key_file held s) w o → IsRefused o ⊎ IsSigned o
        by_left false left d = inl (4, refusal_line Spent, omega arith, d)
        by_left true left d = by_planned left d.0 d.1 d.2

      by_key : IsSaid o ⊎ ((s : KeyState) × (bytes : List ℕ) × (fin.get w.files key_file ≡ Some bytes) × IsKeyFile bytes s × keyed plans file key_file held s w o) → IsRefused o ⊎ IsSigned o
      by_key (inl said) = inl (3, said.0, omega arith, said.1)
      by_key (inr (s, key_bytes, key_at, is_key, d)) = by_left s key_bytes key_at is_key (nat_lt s.next (leaves s.lms)) refl d

    by_file : IsSaid o ⊎ ((held : Held) × (bytes : List ℕ) × (fin.get w.files file ≡ Some bytes) × IsHeldIn bytes held × opening FindsKey key_file (λ s. keyed plans file key_file held s) w o)
        → IsRefused o ⊎ IsSigned o
    by_file (inl said) = inl (3, said.0, omega arith, said.1)
    by_file (inr (held, bytes, at, in_file, d)) = by_key held bytes at in_file (key_or key_file (λ s. keyed plans file key_file held s) w o d)

    -- the rules refused it, or a link was signed
    pub signed_or : authors plans file key_file w o → IsRefused o ⊎ IsSigned o
    signed_or d = by_file (team_or file (λ held. opening FindsKey key_file (λ s. keyed plans file key_file held s)) w o d)

-- what is held where the link of a team's links was put into its file
pub record IsNext (held : Held) (link : Link) (new : Held) : Type 0 where
  pub team : new.team ≡ held.team
  pub old : (x : Link) → IsIn x held.links → IsIn x new.links
  pub has : HasText new.links (text link)
  pub none : (x : Link) → IsIn x new.links → IsIn x held.links ⊎ (text x ≡ text link)
  pub is_held : IsHeld new.team new.links

-- so it is held then, and the file is replaced
abbrev pub Posts : List ℕ → Held → Link → Outcome → Type 0
Posts file held link q = (new : Held) × IsNext held link new × (q ≡ record { status = 0; steps = replace file (file_text new.team new.links) ∷ writes (link_line link.name) })

module _ (held : Held) (link : Link) (is : IsHeld held.team held.links) (valid : IsValid held.team (text link) link) (space : HasSpace held.team held.links link) where
  abbrev with_link : Held
  with_link = record { team = held.team; links = held.links ++ link ∷ [] }

  -- no link of its name is held
  fresh : text_named held.links link.name ≡ None → has_name (names name_of held.links) link.name ≡ false
  fresh none = go (has_name (names name_of held.links) link.name) refl
    where
      go : (b : Bool) → has_name (names name_of held.links) link.name ≡ b → b ≡ false
      go false e = refl
      go true e =
          let named = all_named held.team held.links is.valid in
          let x = one_named name_of held.links link.name e in
          let its : x.0.name ≡ sha256 (text x.0) = all_at (λ (l : Link). l.name ≡ sha256 (text l)) held.links named x.0 x.1 in
          let found = text_held held.links (text x.0) is.set named (x.0, x.1, refl) in
          absurd (let bad : ◌≡◌ {A = Option (List ℕ)} None (Some (text x.0)) = sym none ∙ ap (λ (n : Name). text_named held.links n) (sym x.2 ∙ its) ∙ found in cc)

  next_new : text_named held.links link.name ≡ None → IsNext held link with_link
  next_new none = record {
    team = refl;
    old = λ x k. in_front held.links (link ∷ []) x k;
    has = (link, in_end held.links link, refl);
    none = λ x k. by_place x (in_more held.links link x k);
    is_held = record {
      team = is.team;
      valid = all_more (λ (l : Link). IsValid held.team (text l) l) held.links link is.valid valid;
      set = set_push held.links link is.set (fresh none);
      few = let few = space.few in let size = length-append held.links (link ∷ []) in omega (arith, few, size);
      short = space.short;
    };
  }
    where
      by_place : (x : Link) → IsIn x held.links ⊎ (link ≡ x) → IsIn x held.links ⊎ (text x ≡ text link)
      by_place x (inl k) = inl k
      by_place x (inr e) = inr (ap text (sym e))

  next_same : HasText held.links (text link) → IsNext held link held
  next_same has = record { team = refl; old = λ x k. k; has = has; none = λ x k. inl k; is_held = is }

  -- another text has the link's name, or the link is put into the file
  module _ (file : List ℕ) where
    by_same : (t : List ℕ) → text_named held.links link.name ≡ Some t → (b : Bool) → pointwise nat_eq t (text link) ≡ b
        → IsRefused (by_found_text file held link (Some b)) ⊎ Posts file held link (by_found_text file held link (Some b))
    by_same t named false e = inl (4, refusal_line (NameClash link.name), omega arith, refl)
    by_same t named true e =
        let same = (slice_eq-Decides Decides-eqb t (text link) (pointwise nat_eq t (text link)) refl).0 e in
        inr (held, next_same (subst (λ (b : List ℕ). HasText held.links b) same (text_found held.links link.name t named)), refl)

    by_text : (f : Option (List ℕ)) → text_named held.links link.name ≡ f
        → IsRefused (by_found_text file held link (option_map (λ t. pointwise nat_eq t (text link)) f)) ⊎ Posts file held link (by_found_text file held link (option_map (λ t. pointwise nat_eq t (text link)) f))
    by_text None named = inr (with_link, next_new named, refl)
    by_text (Some t) named = by_same t named (pointwise nat_eq t (text link)) refl

    pub posts_or : IsRefused (posted_outcome file held link) ⊎ Posts file held link (posted_outcome file held link)
    posts_or = by_text (text_named held.links link.name) refl

module _ (file_once : FileIsReadOnce) (key_once : KeyIsSpelledOnce) (plans : Held → KeyState → Planned → Type 0) (file key_file : List ℕ) (w : World) (name : List ℕ) (o : Outcome) (first rest : List Step)
    (whole : o.steps ≡ first ++ rest) (replaced : Replaces name first) where
  not_refused : {T : Type 0} → IsRefused o → T
  not_refused refused = absurd (saying_replaces_none name refused.1 refused.0 o first rest refused.3 whole replaced)

  module _ (held : Held) (key : KeyState) (draft : Draft) (opened : IsOpened plans file key_file w held key draft) where
    abbrev link : Link
    link = link_by key draft

    abbrev signs : Step
    signs = replace key_file (key_text (advanced key))

    -- a refusal after the signing replaces the key file alone
    refused_key : (q : Outcome) → o ≡ signed_outcome key_file key q → IsRefused q → key_file ≡ name
    refused_key q is refused = go (whole_replaces name o (signed_outcome key_file key (saying refused.0 refused.1)) first rest (is ∙ ap (λ (p : Outcome). signed_outcome key_file key p) refused.3) whole replaced)
      where
        go : (key_file ≡ name) ⊎ Replaces name (writes refused.1) → key_file ≡ name
        go (inl e) = e
        go (inr r) = absurd (writes_replace_none name refused.1 r)

    -- the file held a team's links
    module _ (old : Held) (there : HoldsTeam w.files name old) where
      not_key : key_file ≢ name
      not_key e =
          let same = some_same there.0 opened.key_bytes (sym there.1 ∙ ap (λ (n : List ℕ). fin.get w.files n) (sym e) ∙ opened.key_there) in
          key_no_team key old.team old.links (subst (λ (b : List ℕ). IsFileOf b old.team old.links) (same ∙ opened.is_key.is_text) there.2)

      module _ (new : Held) (next : IsNext held link new) (is : o ≡ signed_outcome key_file key (record { status = 0; steps = replace file (file_text new.team new.links) ∷ writes (link_line link.name) })) where
        abbrev posts : List Step
        posts = replace file (file_text new.team new.links) ∷ writes (link_line link.name)

        same_name : file ≡ name
        same_name = go (whole_replaces name o (signed_outcome key_file key (record { status = 0; steps = posts })) first rest is whole replaced)
          where
            go : (key_file ≡ name) ⊎ ((file ≡ name) ⊎ Replaces name (writes (link_line link.name))) → file ≡ name
            go (inl e) = absurd (not_key e)
            go (inr (inl e)) = e
            go (inr (inr r)) = absurd (writes_replace_none name (link_line link.name) r)

        not_signed : ¬ (Replaces name (signs ∷ []))
        not_signed (inl e) = not_key e
        not_signed (inr r) = r

        bytes_are : fin.get (after first w).files name ≡ Some (file_text new.team new.links)
        bytes_are =
            let steps : signs ∷ posts ≡ first ++ rest = sym (ap (λ (x : Outcome). x.steps) is) ∙ whole in
            last_bytes (signs ∷ []) name (file_text new.team new.links) (link_line link.name) first rest w not_signed
            (subst (λ (n : List ℕ). signs ∷ replace n (file_text new.team new.links) ∷ writes (link_line link.name) ≡ first ++ rest) same_name steps) replaced

        pub holds_next : HoldsTeam (after first w).files name new
        holds_next = (file_text new.team new.links, bytes_are, record { held = next.is_held; is_text = refl })

        abbrev Given : List ℕ → Type 0
        Given b = (file ≡ name) × IsAuthoredText plans file key_file w b

        -- one link is authored
        module _ (one : (held : Held) (s : KeyState) (p q : Planned) → plans held s p → plans held s q → p ≡ q) (valid : IsValid held.team (text link) link) where
          held_found : FindsTeam (fin.get w.files file) (holds held)
          held_found = subst (λ (f : Option (List ℕ)). FindsTeam f (holds held)) (sym opened.there) opened.in_file

          key_found : FindsKey (fin.get w.files key_file) (holds key)
          key_found = subst (λ (f : Option (List ℕ)). FindsKey f (holds key)) (sym opened.key_there) opened.is_key

          given : Given (text link)
          given = (
            same_name,
            record {
              held = held;
              key = key;
              draft = draft;
              in_file = held_found;
              in_key_file = key_found;
              planned = opened.planned;
              is_text = refl;
            },
          )

          held_is : (x : Held) → FindsTeam (fin.get w.files file) (holds x) → x ≡ held
          held_is x found =
              let both = team_found_once file_once (fin.get w.files file) (holds x) (holds held) found held_found in
              let same : ◌≡◌ {A = Found Held} (holds x) (holds held) = both in cc

          key_is : (x : KeyState) → FindsKey (fin.get w.files key_file) (holds x) → x ≡ key
          key_is x found =
              let both = key_found_once key_once (fin.get w.files key_file) (holds x) (holds key) found key_found in
              let same : ◌≡◌ {A = Found KeyState} (holds x) (holds key) = both in cc

          draft_is : (x : Held) (k : KeyState) (d : Draft) → x ≡ held → k ≡ key → plans x k (Writes d) → d ≡ draft
          draft_is x k d same_held same_key planned =
              let here : plans held key (Writes d) = subst (λ (s : KeyState). plans held s (Writes d)) same_key (subst (λ (h : Held). plans h k (Writes d)) same_held planned) in
              let same : ◌≡◌ {A = Planned} (Writes d) (Writes draft) = one held key (Writes d) (Writes draft) here opened.planned in cc

          given_is : (b : List ℕ) → Given b → b ≡ text link
          given_is b g =
              let a : IsAuthoredText plans file key_file w b = g.1 in
              let same_key = key_is a.key a.in_key_file in
              let same_draft = draft_is a.held a.key a.draft (held_is a.held a.in_file) same_key a.planned in
              a.is_text ∙ ap (λ (s : KeyState). text (link_by s a.draft)) same_key ∙ ap (λ (d : Draft). text (link_by key d)) same_draft

          of_old : (old.team ≡ held.team) × HaveSameMembers old.links held.links
          of_old =
              let same = some_same there.0 opened.bytes (sym there.1 ∙ ap (λ (n : List ℕ). fin.get w.files n) (sym same_name) ∙ opened.there) in
              file_once there.0 old.team held.team old.links held.links there.2 (subst (λ (b : List ℕ). IsFileOf b held.team held.links) (sym same) opened.in_file.file)

          text_valid : IsValidText old.team (text link)
          text_valid = (link, subst (λ (t : Name). IsValid t (text link) link) (sym of_old.0) valid)

          forth : (b : List ℕ) → HasText new.links b → HasText old.links b ⊎ (Given b × IsValidText old.team b)
          forth b has = go (next.none has.0 has.1)
            where
              go : IsIn has.0 held.links ⊎ (text has.0 ≡ text link) → HasText old.links b ⊎ (Given b × IsValidText old.team b)
              go (inl k) = inl (has.0, of_old.1.back has.0 k, has.2)
              go (inr e) = inr (subst (λ (t : List ℕ). Given t × IsValidText old.team t) (sym e ∙ has.2) (given, text_valid))

          back : (b : List ℕ) → HasText old.links b ⊎ (Given b × IsValidText old.team b) → HasText new.links b
          back b (inl k) = (k.0, next.old k.0 (of_old.1.forth k.0 k.1), k.2)
          back b (inr g) = subst (λ (t : List ℕ). HasText new.links t) (sym (given_is b g.0)) next.has

          pub is_union : IsUnion old Given new
          is_union = record { team = next.team ∙ sym of_old.0; texts = λ b. (forth b, back b); held = next.is_held }

    -- a link of a sound plan is put into the file, or another text has its name
    module _ (old : Held) (there : HoldsTeam w.files name old) (is : o ≡ signed_outcome key_file key (posted_outcome file held (link_by key draft)))
        (one : (held : Held) (s : KeyState) (p q : Planned) → plans held s p → plans held s q → p ≡ q) (sound : IsSound held key (Writes draft)) where
      abbrev Grown : Type 0
      Grown = (new : Held) × HoldsTeam (after first w).files name new × IsUnion old (λ b. (file ≡ name) × IsAuthoredText plans file key_file w b) new

      valid : IsValid held.team (text (link_by key draft)) (link_by key draft)
      valid = signed_valid held key draft opened.is_key.range opened.leaf sound

      by_post : IsRefused (posted_outcome file held (link_by key draft)) ⊎ Posts file held (link_by key draft) (posted_outcome file held (link_by key draft)) → Grown
      by_post (inl refused) = absurd (not_key old there (refused_key (posted_outcome file held (link_by key draft)) is refused))
      by_post (inr (new, next, posted)) =
          let ends = is ∙ ap (λ (q : Outcome). signed_outcome key_file key q) posted in
          (new, holds_next old there new next ends, is_union old there new next ends one valid)

      pub signed_grows : Grown
      signed_grows = by_post (posts_or held (link_by key draft) opened.in_file.file.held valid (signed_space held key draft opened.is_key.range opened.leaf sound) file)

  -- what becomes of a file that held a team's links
  pub authored_grows : ((held : Held) (s : KeyState) (p q : Planned) → plans held s p → plans held s q → p ≡ q)
      → ((held : Held) (s : KeyState) (p : Planned) → IsHeld held.team held.links → IsKeyState s → plans held s p → IsSound held s p) → (old : Held) → HoldsTeam w.files name old
      → authors plans file key_file w o → (new : Held) × HoldsTeam (after first w).files name new × IsUnion old (λ b. (file ≡ name) × IsAuthoredText plans file key_file w b) new
  authored_grows one sound old there d = go (signed_or plans file key_file w o d)
    where
      go : IsRefused o ⊎ IsSigned plans file key_file w o → (new : Held) × HoldsTeam (after first w).files name new × IsUnion old (λ b. (file ≡ name) × IsAuthoredText plans file key_file w b) new
      go (inl refused) = not_refused refused
      go (inr (held, key, draft, opened, is)) =
          signed_grows held key draft opened old there is one (sound held key (Writes draft) opened.in_file.file.held opened.is_key.range opened.planned)
