-- What `show` prints of a team's file, and when a merge has replaced it.
use Rattle.std.proofs.Common.{◌≡◌, ◌<◌, ◌⊎◌, ◌∙◌, inl, inr, ℕ, Bool, true, false, List, [], ◌∷◌, ◌++◌, Contains, Option, Some, None, refl, sym, ap, append-nil, subst, arith}
use Rattle.std.specs.FinMap as fin
use Rattle.tg_outside.specs.Contents.{FileMap}
use Rattle.std.proofs.lemmas.List.Elements.{All-contains, All-from_recursion}
use Rattle.acts.specs.declared.entry.Act.{Act}
use Rattle.team_sets.specs.Names.{Name}
use Rattle.team_model.specs.JudgingLaws.{TextIsOfSet}
use Rattle.team_model.specs.ShowText.{show_text}
use Rattle.team_model.specs.declared.terms.Link.{Link}
use Rattle.team_files.specs.FileLaws.{FileIsReadOnce}
use Rattle.lms_keep.specs.KeyText.{IsKeyState, KeyIsSpelledOnce}
use Rattle.lms_keep.specs.declared.key_state.KeyState.{KeyState}
use Rattle.link_text.specs.LinkText.{text}
use Rattle.link_text.specs.TeamFile.{IsFileOf, IsHeld}
use Rattle.link_text.specs.declared.draft.Draft.{Draft}
use Rattle.link_graph.specs.Held.{Held}
use Rattle.link_intake.specs.Merged.{IsHeldIn}
use Rattle.link_intake.specs.UnionLaws.{IsValidText}
use Rattle.lockboxes.specs.Keeping.{Keeper}
use Rattle.outcomes.specs.Refusing.{FindsBytes, holds, opening}
use Rattle.outcomes.specs.Seeing.{AreKnown}
use Rattle.outcomes.specs.Steps.{World, Outcome, after, saying}
use Rattle.outcomes.proofs.Joining.{after-writes}
use Rattle.openers.specs.Key.{FindsKey}
use Rattle.openers.specs.Team.{FindsTeam}
use Rattle.team_words.specs.Words.{IsCommandOf}
use Rattle.team_words.specs.declared.command.Command.TheVariants.{Merge, Plain, Show}
use Rattle.author_commands.specs.Authoring.{IsAuthoredText, by_found_text, found_text}
use Rattle.author_commands.specs.Plain.{plain_plan, plains}
use Rattle.author_commands.specs.Signing.{IsSound}
use Rattle.author_commands.specs.declared.planner.Planned.{Planned}
use Rattle.author_commands.specs.declared.planner.Planned.TheVariants.{Writes}
use Rattle.author_commands.proofs.Sound.{one_plan, plain_sound}
use Rattle.author_commands.proofs.Taken.{signed_valid}
use Rattle.exchange_commands.specs.Merge.{merging}
use Rattle.team_run.specs.ManyRuns.{IsPut, IsReplaced, MergeIsDone, OneRun, PlainIsDone, Replaces, RunsLeaveUnion, ShowAfterRuns, ShowPrintsTeam, told}
use Rattle.team_run.specs.Running.{does_run}
use Rattle.team_run.specs.Serving.{HoldsTeam}
use Rattle.team_run.proofs.Cuts.{same_files, told_known}
use Rattle.team_run.proofs.Openings.{IsSaid, some_same, team_opens, team_or, there_or}
use Rattle.team_run.proofs.Posted.{IsOpened, IsRefused, IsSigned, authored_grows, link_by, posted_outcome, signed_or, signed_outcome}
use Rattle.team_run.proofs.Rights.{words_right}
use Rattle.team_run.proofs.Runs.{does_of}

same_taken : (w v : World) → AreKnown (told w) v → w.taken ≡ v.taken
same_taken w v is = some_same w.taken v.taken is.taken

-- a file is shown as any list of its links
text_held : FileIsReadOnce → TextIsOfSet → (bytes : List ℕ) (a b : Held) → IsFileOf bytes a.team a.links → IsFileOf bytes b.team b.links → show_text a.team a.links ≡ show_text b.team b.links
text_held file_once of_set bytes a b x y =
    let one = file_once bytes a.team b.team a.links b.links x y in
    (of_set a.links b.links x.held.set y.held.set one.1).shown a.team ∙ ap (λ (t : Name). show_text t b.links) one.0

pub show_prints : FileIsReadOnce → TextIsOfSet → ShowPrintsTeam
show_prints file_once of_set keeper r name held is words there low =
    let ran = is.done r.old (told_known r.old) low in
    let does = does_of keeper r.words (Some (Show name)) words r.old ran.0 ran.1 in
    let opened = team_opens name (λ held w o. o ≡ saying 0 (show_text held.team held.links)) r.old ran.0 held there does in
    let shown = opened.0 in
    let same = text_held file_once of_set opened.1 shown held opened.3.file
    (subst (λ (b : List ℕ). IsFileOf b held.team held.links) (some_same there.0 opened.1 (sym there.1 ∙ opened.2)) there.2) in
    let written : after ran.0.steps r.old ≡ record r.old { taken = r.old.taken ++ show_text shown.team shown.links } =
    ap (λ (o : Outcome). after o.steps r.old) opened.4 ∙ after-writes (show_text shown.team shown.links) r.old in (
      ran.2 ∙ ap (λ (o : Outcome). o.status) opened.4,
      same_taken r.new (after ran.0.steps r.old) ran.3 ∙ ap (λ (w : World). w.taken) written ∙ ap (λ (t : List ℕ). r.old.taken ++ t) same,
    )

-- a run that refuses ends with 3
never_three : (status : ℕ) → Contains {X = ℕ} (0 ∷ 1 ∷ []) status → status ≡ 3 → ⊥
never_three status among three =
    All-contains (λ (n : ℕ). n ≡ 3 → ⊥) (0 ∷ 1 ∷ []) status (All-from_recursion (λ (n : ℕ). n ≡ 3 → ⊥) (0 ∷ 1 ∷ []) (λ e. omega (arith, e), (λ e. omega (arith, e), tt))) among three

low_status : (status : ℕ) → Contains {X = ℕ} (0 ∷ 1 ∷ []) status → status < 5
low_status status among =
    All-contains (λ (n : ℕ). n < 5) (0 ∷ 1 ∷ []) status (All-from_recursion (λ (n : ℕ). n < 5) (0 ∷ 1 ∷ []) (omega arith, (omega arith, tt))) among

module _ (keeper : Keeper) (r : OneRun) (file bundle : List ℕ) (among : Contains {X = ℕ} (0 ∷ 1 ∷ []) r.status) (o : Outcome)
    (does : does_run keeper r.words r.old o) (ends : r.status ≡ o.status) (left : AreKnown (told r.new) (after o.steps r.old)) where
  not_said : IsSaid o → IsReplaced keeper r file
  not_said said = absurd (never_three r.status among (ends ∙ ap (λ (x : Outcome). x.status) said.1))

  by_bundle : (held : Held) → IsSaid o ⊎ ((given : List ℕ) × (fin.get r.old.files bundle ≡ Some given) × merging file held given r.old o) → IsReplaced keeper r file
  by_bundle held (inl said) = not_said said
  by_bundle held (inr (given, at, (new, results, intake, is))) = record {
    outcome = o;
    does = does;
    cut = record { first = o.steps; rest = []; whole = sym (append-nil o.steps); told = left };
    replaced = subst (λ (x : Outcome). Replaces file x.steps) (sym is) (inl refl);
  }

  by_file : IsSaid o ⊎ ((held : Held) × (bytes : List ℕ) × (fin.get r.old.files file ≡ Some bytes) × IsHeldIn bytes held × opening FindsBytes bundle (λ given. merging file held given) r.old o)
      → IsReplaced keeper r file
  by_file (inl said) = not_said said
  by_file (inr (held, bytes, at, in_file, d)) = by_bundle held (there_or bundle (λ given. merging file held given) r.old o d)

pub merge_done : MergeIsDone
merge_done keeper r file bundle is words among =
    let ran = is.done r.old (told_known r.old) (low_status r.status among) in
    let does = does_of keeper r.words (Some (Merge file bundle)) words r.old ran.0 ran.1 in
    by_file keeper r file bundle among ran.0 ran.1 ran.2 ran.3 (team_or file (λ held. opening FindsBytes bundle (λ given. merging file held given)) r.old ran.0 does)

-- a link that was signed is put into the file, where the run ends with 0
module _ (file_once : FileIsReadOnce) (key_once : KeyIsSpelledOnce) (keeper : Keeper) (r : OneRun) (file key_file : List ℕ) (act : Act)
    (words : IsCommandOf r.words (Some (Plain file key_file act))) (zero : r.status ≡ 0) (o : Outcome) (does : does_run keeper r.words r.old o) (ends : r.status ≡ o.status)
    (left : AreKnown (told r.new) (after o.steps r.old)) where
  abbrev plans : Held → KeyState → Planned → Type 0
  plans = plain_plan act r.old.moment

  put_by : (held : Held) (link : Link) (found : Option Bool) → (by_found_text file held link found).status ≡ 0 → Replaces file (by_found_text file held link found).steps
  put_by held link None e = inl refl
  put_by held link (Some true) e = inl refl
  put_by held link (Some false) e = absurd (omega (arith, e))

  module _ (plain : plains file key_file act r.old o) (held : Held) (key : KeyState) (draft : Draft) (opened : IsOpened plans file key_file r.old held key draft)
      (is : o ≡ signed_outcome key_file key (posted_outcome file held (link_by key draft))) where
    abbrev link : Link
    link = link_by key draft

    replaces : Replaces file o.steps
    replaces =
        let status : (posted_outcome file held link).status ≡ 0 = sym (ap (λ (x : Outcome). x.status) is) ∙ sym ends ∙ zero in
        subst (λ (x : Outcome). Replaces file x.steps) (sym is) (inr (put_by held link (found_text held link) status))

    given : IsAuthoredText plans file key_file r.old (text link)
    given = record {
      held = held;
      key = key;
      draft = draft;
      in_file = subst (λ (f : Option (List ℕ)). FindsTeam f (holds held)) (sym opened.there) opened.in_file;
      in_key_file = subst (λ (f : Option (List ℕ)). FindsKey f (holds key)) (sym opened.key_there) opened.is_key;
      planned = opened.planned;
      is_text = refl;
    }

    sound : (h : Held) (s : KeyState) (p : Planned) → IsHeld h.team h.links → IsKeyState s → plans h s p → IsSound h s p
    sound h s p is_held range planned = plain_sound act r.old.moment (words_right words) plain.0 h s is_held range p planned

    text_valid : IsValidText held.team (text link)
    text_valid = (link, signed_valid held key draft opened.is_key.range opened.leaf (sound held key (Writes draft) opened.in_file.file.held opened.is_key.range opened.planned))

    signed_put : IsPut keeper r file
    signed_put =
        let there : HoldsTeam r.old.files file held = (opened.bytes, opened.there, opened.in_file.file) in
        let grown = authored_grows file_once key_once plans file key_file r.old file o o.steps [] (sym (append-nil o.steps)) replaces (one_plan act r.old.moment) sound held there plain.1 in
        record {
          bytes = text link;
          held = grown.0;
          given = (
            record { outcome = o; does = does; cut = record { first = o.steps; rest = []; whole = sym (append-nil o.steps); told = left }; replaced = replaces },
            (Plain file key_file act, words, (refl, given)),
          );
          in_file = subst (λ (m : FileMap). HoldsTeam m file grown.0) (sym (same_files r.new (after o.steps r.old) left)) grown.1;
          valid = subst (λ (t : Name). IsValidText t (text link)) (sym grown.2.team) text_valid;
          has = (grown.2.texts (text link)).1 (inr ((refl, given), text_valid));
        }

  by_signing : plains file key_file act r.old o → IsRefused o ⊎ IsSigned plans file key_file r.old o → IsPut keeper r file
  by_signing plain (inl refused) =
      let same : r.status ≡ refused.0 = ends ∙ ap (λ (x : Outcome). x.status) refused.3 in
      let high = refused.2 in absurd (omega (arith, same, high, zero))
  by_signing plain (inr (held, key, draft, opened, is)) = signed_put plain held key draft opened is

pub plain_done : FileIsReadOnce → KeyIsSpelledOnce → PlainIsDone
plain_done file_once key_once keeper r file key_file act is words zero =
    let ran = is.done r.old (told_known r.old) (omega (arith, zero)) in
    let does = does_of keeper r.words (Some (Plain file key_file act)) words r.old ran.0 ran.1 in
    by_signing file_once key_once keeper r file key_file act words zero ran.0 ran.1 ran.2 ran.3 does (signed_or (plain_plan act r.old.moment) file key_file r.old ran.0 does.1)

pub show_after : FileIsReadOnce → TextIsOfSet → RunsLeaveUnion → ShowAfterRuns
show_after file_once of_set union keeper files runs r name old are there apart fits is words low =
    let left = union keeper files r.old.files runs name old are there apart fits in
    let shown = show_prints file_once of_set keeper r name left.0 is words left.1 low in
    (left.0, left.2, shown.0, shown.1)
