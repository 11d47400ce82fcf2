-- What a meeting makes of a file that held a team's links.
use Rattle.std.proofs.Common.{◌≡◌, ◌⊎◌, ◌↔◌, ◌∙◌, inl, inr, ℕ, Bool, true, false, List, [], ◌∷◌, ◌++◌, ◌-◌, length, Option, Some, nat_eq, refl, sym, ap, subst}
use Rattle.std.specs.Cmp.Lexicographic.{pointwise}
use Rattle.std.specs.FinMap as fin
use Rattle.std.proofs.lemmas.Bool.Decides.{Decides-eqb}
use Rattle.std.proofs.lemmas.Slice.Eq.{slice_eq-Decides}
use Rattle.team_sets.specs.Names.{Name, same_name}
use Rattle.team_sets.proofs.Ancestors.{in_links}
use Rattle.team_sets.proofs.Distinct.{distinct-differ}
use Rattle.team_model.specs.Judging.{name_of, prev_of}
use Rattle.link_text.specs.TeamFile.{IsFileOf, IsHeld, file_text}
use Rattle.link_graph.specs.Held.{Held}
use Rattle.link_graph.specs.Taking.{HasText}
use Rattle.team_files.specs.FileLaws.{FileIsReadOnce}
use Rattle.link_intake.specs.Merged.{IsHeldIn}
use Rattle.link_intake.specs.UnionLaws.{Fits, IsAmong, IsUnion, IsValidText, NoClash}
use Rattle.link_intake.proofs.Unions.{clash_within, fits_within}
use Rattle.head_sync.specs.MeetLaws.{IsConnectedText, MeetingUnites, Unites}
use Rattle.head_sync.specs.Meetings.{IsMet}
use Rattle.head_sync.specs.declared.meeting.Met.{Met}
use Rattle.outcomes.specs.Refusing.{Found, holds}
use Rattle.outcomes.specs.Steps.{World, Step, Outcome, after, after_step, replace, writes}
use Rattle.openers.specs.Team.{FindsTeam}
use Rattle.openers.proofs.Teams.{team_found_once}
use Rattle.exchange_commands.specs.Meet.{by_team, meeting, met, met_text, other_team}
use Rattle.team_run.specs.ManyRuns.{IsConnectedIn, Replaces}
use Rattle.team_run.specs.Serving.{HoldsTeam}
use Rattle.team_run.proofs.Cuts.{file_kept, given_bytes, head_step, last_bytes, replaced_or_not, saying_replaces_none, tail_steps, whole_replaces, writes_replace_none}
use Rattle.team_run.proofs.Openings.{some_same}

-- two files are replaced, the one and then the other, and these are the bytes of one that was
module _ (name file other bytes more text : List ℕ) (w : World) where
  abbrev Left : List Step → Type 0
  Left first = ((file ≡ name) × (fin.get (after first w).files name ≡ Some bytes)) ⊎ ((other ≡ name) × (fin.get (after first w).files name ≡ Some more))

  abbrev later : List Step
  later = replace other more ∷ writes text

  pub two_left : (first rest : List Step) → replace file bytes ∷ later ≡ first ++ rest → Replaces name first → Left first
  two_left [] rest whole r = absurd r
  two_left (s ∷ first) rest whole r = subst (λ (x : Step). Left (x ∷ first)) same (go (replaced_or_not name first) (subst (λ (x : Step). Replaces name (x ∷ first)) (sym same) r))
    where
      same : replace file bytes ≡ s
      same = head_step (replace file bytes) s later (first ++ rest) whole

      behind : later ≡ first ++ rest
      behind = tail_steps (replace file bytes) s later (first ++ rest) whole

      second : Replaces name first → (other ≡ name) ⊎ Replaces name (writes text) → Left (replace file bytes ∷ first)
      second k (inr x) = absurd (writes_replace_none name text x)
      second k (inl e) =
          inr (
            e,
            last_bytes [] name more text first rest (after_step (replace file bytes) w) (λ x. x) (subst (λ (n : List ℕ). replace n more ∷ writes text ≡ first ++ rest) e behind) k,
          )

      go : Replaces name first ⊎ (¬ (Replaces name first)) → (file ≡ name) ⊎ Replaces name first → Left (replace file bytes ∷ first)
      go (inl k) hit = second k (whole_replaces name (record { status = 0; steps = later }) (record { status = 0; steps = later }) first rest refl behind k)
      go (inr none) (inr k) = absurd (none k)
      go (inr none) (inl e) =
          inl (e, file_kept first (after_step (replace file bytes) w) name none ∙ subst (λ (n : List ℕ). fin.get (fin.insert w.files file bytes) n ≡ Some bytes) e (given_bytes w.files file bytes))

-- one end of a meeting holds the union of what the file held and of what is given to it
module _ (file_once : FileIsReadOnce) (old one two kept : Held) (bytes : List ℕ) (of_old : IsFileOf bytes old.team old.links) (in_one : IsHeldIn bytes one) (Given : List ℕ → Type 0)
    (gives : (b : List ℕ) → IsConnectedText two b → Given b) (given : (b : List ℕ) → Given b → IsConnectedText two b ⊎ HasText one.links b) (unites : Unites one two kept) where
  team : one.team ≡ old.team
  team = (file_once bytes one.team old.team one.links old.links in_one.file of_old).0

  one_old : (b : List ℕ) → HasText one.links b → HasText old.links b
  one_old b h = let same = file_once bytes one.team old.team one.links old.links in_one.file of_old in (h.0, same.1.forth h.0 h.1, h.2)

  old_one : (b : List ℕ) → HasText old.links b → HasText one.links b
  old_one b h = let same = file_once bytes one.team old.team one.links old.links in_one.file of_old in (h.0, same.1.back h.0 h.1, h.2)

  among : (b : List ℕ) → IsAmong one (IsConnectedText two) b → IsAmong old Given b
  among b (inl h) = inl (one_old b h)
  among b (inr c) = inr (gives b c)

  pub end_grows : NoClash old Given → Fits old Given → IsUnion old Given kept
  end_grows apart fits = record { team = u.team ∙ team; texts = λ b. (forth b, back b); held = u.held }
    where
      u : IsUnion one (IsConnectedText two) kept
      u = unites (clash_within old one Given (IsConnectedText two) team among apart) (fits_within old one Given (IsConnectedText two) team among fits)

      forth : (b : List ℕ) → HasText kept.links b → HasText old.links b ⊎ (Given b × IsValidText old.team b)
      forth b h = go ((u.texts b).0 h)
        where
          go : HasText one.links b ⊎ (IsConnectedText two b × IsValidText one.team b) → HasText old.links b ⊎ (Given b × IsValidText old.team b)
          go (inl k) = inl (one_old b k)
          go (inr c) = inr (gives b c.0, subst (λ (t : Name). IsValidText t b) team c.1)

      back : (b : List ℕ) → HasText old.links b ⊎ (Given b × IsValidText old.team b) → HasText kept.links b
      back b (inl h) = (u.texts b).1 (inl (old_one b h))
      back b (inr g) = go (given b g.0)
        where
          go : IsConnectedText two b ⊎ HasText one.links b → HasText kept.links b
          go (inl c) = (u.texts b).1 (inr (c, subst (λ (t : Name). IsValidText t b) (sym team) g.1))
          go (inr h) = (u.texts b).1 (inl h)

same_held : (a b : Held) → ◌≡◌ {A = Found Held} (holds a) (holds b) → a ≡ b
same_held a b e = let same : ◌≡◌ {A = Found Held} (holds a) (holds b) = e in cc

-- a connected link of a file is one of those that are found in it
connected_in : FileIsReadOnce → (w : World) (file b bytes : List ℕ) (held : Held) → fin.get w.files file ≡ Some bytes → IsHeldIn bytes held → IsConnectedIn w file b → IsConnectedText held b
connected_in file_once w file b bytes held at found c =
    let here : FindsTeam (fin.get w.files file) (holds held) = subst (λ (f : Option (List ℕ)). FindsTeam f (holds held)) (sym at) found in
    subst (λ (h : Held). IsConnectedText h b) (same_held c.0 held (team_found_once file_once (fin.get w.files file) (holds c.0) (holds held) c.1 here)) c.2

has_connected : (held : Held) → IsHeld held.team held.links → (b : List ℕ) → IsConnectedText held b → HasText held.links b
has_connected held is b c = (c.0, in_links name_of prev_of held.links (distinct-differ name_of held.links is.set) c.0 c.1, c.2)

module _ (w : World) (name : List ℕ) (o : Outcome) (first rest : List Step) (whole : o.steps ≡ first ++ rest) (replaced : Replaces name first) (file other : List ℕ) (one two : Held) where
  -- the files of what both ends hold then
  met_left : (kept given : Held) (m : Met) → o ≡ met file other one two kept given m
      → Left name file other (file_text kept.team kept.links) (file_text given.team given.links) (met_text (length kept.links - length one.links) (length given.links - length two.links) m) w first
  met_left kept given m is =
      two_left name file other (file_text kept.team kept.links) (file_text given.team given.links) (met_text (length kept.links - length one.links) (length given.links - length two.links) m) w first rest
      (sym (ap (λ (x : Outcome). x.steps) is) ∙ whole) replaced

  -- a meeting that replaced a file was of the two files
  pub met_replaces : (same : Bool) → by_team same file other one two o → (file ≡ name) ⊎ (other ≡ name)
  met_replaces false d = absurd (saying_replaces_none name other_team 4 o first rest d whole replaced)
  met_replaces true (kept, given, m, is, e) = go (met_left kept given m e)
    where
      go : ((file ≡ name) × (fin.get (after first w).files name ≡ Some (file_text kept.team kept.links))) ⊎ ((other ≡ name) × (fin.get (after first w).files name ≡ Some (file_text given.team given.links)))
          → (file ≡ name) ⊎ (other ≡ name)
      go (inl l) = inl l.0
      go (inr l) = inr l.0

-- the file is the union of its links and of those that were connected in the other
module _ (file_once : FileIsReadOnce) (unites : MeetingUnites) (w : World) (name : List ℕ) (old : Held) (there : HoldsTeam w.files name old) (o : Outcome) (first rest : List Step)
    (whole : o.steps ≡ first ++ rest) (replaced : Replaces name first) (file other : List ℕ) (one two : Held) (bytes more : List ℕ) (at : fin.get w.files file ≡ Some bytes) (in_file : IsHeldIn bytes one)
    (at_other : fin.get w.files other ≡ Some more) (in_other : IsHeldIn more two) where
  abbrev Given : List ℕ → Type 0
  Given b = ((file ≡ name) × IsConnectedIn w other b) ⊎ ((other ≡ name) × IsConnectedIn w file b)

  abbrev Grown : Type 0
  Grown = NoClash old Given → Fits old Given → (new : Held) × HoldsTeam (after first w).files name new × IsUnion old Given new

  -- what stands in a file of this name
  of_old : (a b : List ℕ) → a ≡ name → fin.get w.files a ≡ Some b → IsFileOf b old.team old.links
  of_old a b e f = subst (λ (x : List ℕ). IsFileOf x old.team old.links) (some_same there.0 b (sym there.1 ∙ ap (λ (n : List ℕ). fin.get w.files n) (sym e) ∙ f)) there.2

  found_in : (a b : List ℕ) (held : Held) → fin.get w.files a ≡ Some b → IsHeldIn b held → FindsTeam (fin.get w.files a) (holds held)
  found_in a b held f is = subst (λ (x : Option (List ℕ)). FindsTeam x (holds held)) (sym f) is

  holds_text : (kept : Held) → IsHeld kept.team kept.links → fin.get (after first w).files name ≡ Some (file_text kept.team kept.links) → HoldsTeam (after first w).files name kept
  holds_text kept is e = (file_text kept.team kept.links, e, record { held = is; is_text = refl })

  first_grows : (kept : Held) → Unites one two kept → file ≡ name → fin.get (after first w).files name ≡ Some (file_text kept.team kept.links) → Grown
  first_grows kept u e left apart fits =
      let grown = end_grows file_once old one two kept bytes (of_old file bytes e at) in_file Given (λ b c. inl (e, (two, found_in other more two at_other in_other, c))) given u apart fits in
      (kept, holds_text kept grown.held left, grown)
    where
      given : (b : List ℕ) → Given b → IsConnectedText two b ⊎ HasText one.links b
      given b (inl g) = inl (connected_in file_once w other b more two at_other in_other g.1)
      given b (inr g) = inr (has_connected one in_file.file.held b (connected_in file_once w file b bytes one at in_file g.1))

  second_grows : (kept : Held) → Unites two one kept → other ≡ name → fin.get (after first w).files name ≡ Some (file_text kept.team kept.links) → Grown
  second_grows kept u e left apart fits =
      let grown = end_grows file_once old two one kept more (of_old other more e at_other) in_other Given (λ b c. inr (e, (one, found_in file bytes one at in_file, c))) given u apart fits in
      (kept, holds_text kept grown.held left, grown)
    where
      given : (b : List ℕ) → Given b → IsConnectedText one b ⊎ HasText two.links b
      given b (inl g) = inr (has_connected two in_other.file.held b (connected_in file_once w other b more two at_other in_other g.1))
      given b (inr g) = inl (connected_in file_once w file b bytes one at in_file g.1)

  met_grown : (same : Bool) → same_name one.team two.team ≡ same → by_team same file other one two o → Grown
  met_grown false e d = absurd (saying_replaces_none name other_team 4 o first rest d whole replaced)
  met_grown true e (kept, given, m, is, said) = go (met_left w name o first rest whole replaced file other one two kept given m said)
    where
      team : one.team ≡ two.team
      team = (slice_eq-Decides Decides-eqb one.team two.team (pointwise nat_eq one.team two.team) refl).0 e

      both : Unites one two kept × Unites two one given
      both = unites one two kept given m in_file.file.held in_other.file.held team is

      go : ((file ≡ name) × (fin.get (after first w).files name ≡ Some (file_text kept.team kept.links))) ⊎ ((other ≡ name) × (fin.get (after first w).files name ≡ Some (file_text given.team given.links)))
          → Grown
      go (inl l) = first_grows kept both.0 l.0 l.1
      go (inr l) = second_grows given both.1 l.0 l.1

  pub meeting_grows : meeting file other one two w o → Grown
  meeting_grows d = met_grown (same_name one.team two.team) refl d
