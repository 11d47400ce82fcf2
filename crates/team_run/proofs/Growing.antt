-- What runs make of a file that held a team's links.
use Rattle.std.proofs.Common.{◌≡◌, ◌⊎◌, ◌↔◌, ◌∙◌, inl, inr, ℕ, List, [], ◌∷◌, ◌++◌, Option, Some, None, codes, refl, sym, ap, subst}
use Rattle.std.specs.FinMap as fin
use Rattle.tg_outside.specs.Contents.{FileMap}
use Rattle.team_model.specs.ShowText.{show_text}
use Rattle.team_model.specs.declared.terms.Link.{Link}
use Rattle.lms_keep.specs.KeyText.{KeyIsSpelledOnce, key_text}
use Rattle.lms_keep.specs.declared.key_state.KeyState.{KeyState}
use Rattle.link_text.specs.LinkText.{LinkIsSpelledOnce}
use Rattle.link_text.specs.TeamFile.{IsFileOf, file_text}
use Rattle.link_graph.specs.Held.{Held}
use Rattle.link_graph.specs.Taking.{HasText}
use Rattle.team_files.specs.FileLaws.{FileIsReadOnce}
use Rattle.team_files.specs.Pieces.{BundleIsReadOnce}
use Rattle.team_files.specs.declared.item.Item.{Item}
use Rattle.link_intake.specs.declared.item_result.ItemResult.{ItemResult}
use Rattle.link_intake.specs.Giving.{IsBundleGiven}
use Rattle.link_intake.specs.Merged.{IsHeldIn, IsMerged}
use Rattle.link_intake.specs.ResultsText.{results_text}
use Rattle.link_intake.specs.UnionLaws.{Fits, HasItem, IsAmong, IsTextOf, IsUnion, IsValidText, NoClash}
use Rattle.link_intake.proofs.MergedFiles.{bundle_union}
use Rattle.link_intake.proofs.Unions.{clash_later, clash_within, fits_later, fits_within, union_join, union_same}
use Rattle.head_sync.specs.MeetLaws.{MeetingUnites}
use Rattle.lockboxes.specs.Keeping.{Keeper}
use Rattle.outcomes.specs.Refusing.{FindsBytes, FindsNone, opening}
use Rattle.outcomes.specs.Seeing.{AreKnown, IsCut}
use Rattle.outcomes.specs.Steps.{World, Step, Outcome, after, draws, put, puts, replace, saying, writes}
use Rattle.openers.specs.Team.{FindsTeam}
use Rattle.team_report.specs.HeadsText.{heads_text}
use Rattle.team_report.specs.LogText.{log_text}
use Rattle.team_words.specs.declared.command.Command.{Command}
use Rattle.team_words.specs.declared.command.Command.TheVariants.{Heads, Keys, Log, Make, Meet, Merge, Newkey, Plain, Show, Why}
use Rattle.key_commands.specs.Make.{founding_puts, make_text, making_team}
use Rattle.key_commands.specs.Newkey.{drawn_key, making, newkey_text}
use Rattle.exchange_commands.specs.Meet.{meeting}
use Rattle.exchange_commands.specs.Merge.{merged, merging}
use Rattle.report_commands.specs.Why.{explaining}
use Rattle.author_commands.specs.Plain.{plain_plan}
use Rattle.author_commands.proofs.Sound.{one_plan, plain_sound}
use Rattle.team_run.specs.ManyRuns.{AreRuns, IsGivenBy, IsGivenIn, IsReplaced, IsRun, OneRun, Replaces, WordsGive, root_of, told}
use Rattle.team_run.specs.Running.{does_run, does_words}
use Rattle.team_run.specs.Serving.{HoldsTeam}
use Rattle.team_run.proofs.Cuts.{draws_replace_none, file_kept, last_bytes, replaced_or_not, replaces_part, same_files, saying_replaces_none, told_known, whole_replaces, writes_replace_none}
use Rattle.team_run.proofs.Meetings.{meeting_grows}
use Rattle.team_run.proofs.Openings.{IsSaid, absent_or, founds, never_both, some_same, team_or, there_or}
use Rattle.team_run.proofs.Posted.{authored_grows}
use Rattle.team_run.proofs.Reports.{IsSaying, keys_replace_none, report_replaces_none, says_why}
use Rattle.team_run.proofs.Rights.{IsRight, words_right}
use Rattle.team_run.proofs.Runs.{CommandGives, words_give}

-- the same texts are given
union_alike : (old new : Held) (G H : List ℕ → Type 0) → ((b : List ℕ) → G b ↔ H b) → IsUnion old G new → IsUnion old H new
union_alike old new G H same u = record { team = u.team; texts = λ b. (forth b, back b); held = u.held }
  where
    forth : (b : List ℕ) → HasText new.links b → HasText old.links b ⊎ (H b × IsValidText old.team b)
    forth b h = go ((u.texts b).0 h)
      where
        go : HasText old.links b ⊎ (G b × IsValidText old.team b) → HasText old.links b ⊎ (H b × IsValidText old.team b)
        go (inl k) = inl k
        go (inr g) = inr ((same b).0 g.0, g.1)

    back : (b : List ℕ) → HasText old.links b ⊎ (H b × IsValidText old.team b) → HasText new.links b
    back b (inl k) = (u.texts b).1 (inl k)
    back b (inr g) = (u.texts b).1 (inr ((same b).1 g.0, g.1))

among_more : (old : Held) (G H : List ℕ → Type 0) → ((b : List ℕ) → H b → G b) → (b : List ℕ) → IsAmong old H b → IsAmong old G b
among_more old G H more b (inl h) = inl h
among_more old G H more b (inr k) = inr (more b k)

-- a command that makes files found each of them absent
module _ (keeper : Keeper) (file key_file user title : List ℕ) (w : World) (o : Outcome) (name : List ℕ) (first rest : List Step) (whole : o.steps ≡ first ++ rest)
    (replaced : Replaces name first) where
  abbrev root : Link
  root = root_of keeper.public_of user title w

  none_said : IsSaid o → fin.get w.files name ≡ None
  none_said said = absurd (saying_replaces_none name said.0 3 o first rest said.1 whole replaced)

  named : (a : List ℕ) → fin.get w.files a ≡ None → a ≡ name → fin.get w.files name ≡ None
  named a none e = subst (λ (n : List ℕ). fin.get w.files n ≡ None) e none

  of_puts : fin.get w.files file ≡ None → fin.get w.files key_file ≡ None
      → (key_file ≡ name) ⊎ ((key_file ≡ name) ⊎ ((file ≡ name) ⊎ Replaces name (writes (make_text root)))) → fin.get w.files name ≡ None
  of_puts f k (inl e) = named key_file k e
  of_puts f k (inr (inl e)) = named key_file k e
  of_puts f k (inr (inr (inl e))) = named file f e
  of_puts f k (inr (inr (inr x))) = absurd (writes_replace_none name (make_text root) x)

  of_steps : fin.get w.files file ≡ None → fin.get w.files key_file ≡ None
      → Replaces name (draws 3) ⊎ Replaces name (puts (founding_puts file key_file (drawn_key user w) root) ++ writes (make_text root)) → fin.get w.files name ≡ None
  of_steps f k (inl x) = absurd (draws_replace_none name 3 x)
  of_steps f k (inr x) = of_puts f k x

  by_key : fin.get w.files file ≡ None → IsSaid o ⊎ ((none : Unit {0}) × (fin.get w.files key_file ≡ None) × founds keeper.public_of file key_file user title w o) → fin.get w.files name ≡ None
  by_key f (inl said) = none_said said
  by_key f (inr (none, k, is)) =
      let steps = whole_replaces name o (making_team keeper.public_of file key_file title w.moment (drawn_key user w)) first rest is whole replaced in
      of_steps f k (replaces_part name (draws 3) (puts (founding_puts file key_file (drawn_key user w) root) ++ writes (make_text root)) steps)

  by_file : IsSaid o ⊎ ((none : Unit {0}) × (fin.get w.files file ≡ None) × opening FindsNone key_file (λ none. founds keeper.public_of file key_file user title) w o) → fin.get w.files name ≡ None
  by_file (inl said) = none_said said
  by_file (inr (none, f, d)) = by_key f (absent_or key_file (λ none. founds keeper.public_of file key_file user title) w o d)

  pub made_absent : does_words keeper (Some (Make file key_file user title)) w o → fin.get w.files name ≡ None
  made_absent d = by_file (absent_or file (λ none. opening FindsNone key_file (λ none. founds keeper.public_of file key_file user title)) w o d)

module _ (keeper : Keeper) (key_file user : List ℕ) (w : World) (o : Outcome) (name : List ℕ) (first rest : List Step) (whole : o.steps ≡ first ++ rest)
    (replaced : Replaces name first) where
  abbrev key : KeyState
  key = drawn_key user w

  of_key_put : fin.get w.files key_file ≡ None → (key_file ≡ name) ⊎ Replaces name (writes (newkey_text keeper.public_of key)) → fin.get w.files name ≡ None
  of_key_put k (inl e) = subst (λ (n : List ℕ). fin.get w.files n ≡ None) e k
  of_key_put k (inr x) = absurd (writes_replace_none name (newkey_text keeper.public_of key) x)

  of_key_steps : fin.get w.files key_file ≡ None → Replaces name (draws 3) ⊎ Replaces name (puts (put key_file (key_text key) ∷ []) ++ writes (newkey_text keeper.public_of key)) → fin.get w.files name ≡ None
  of_key_steps k (inl x) = absurd (draws_replace_none name 3 x)
  of_key_steps k (inr x) = of_key_put k x

  by_key_file : IsSaid o ⊎ ((none : Unit {0}) × (fin.get w.files key_file ≡ None) × (o ≡ making keeper.public_of key_file key)) → fin.get w.files name ≡ None
  by_key_file (inl said) = absurd (saying_replaces_none name said.0 3 o first rest said.1 whole replaced)
  by_key_file (inr (none, k, is)) =
      of_key_steps k (replaces_part name (draws 3) (puts (put key_file (key_text key) ∷ []) ++ writes (newkey_text keeper.public_of key)) (whole_replaces name o (making keeper.public_of key_file key) first rest is whole replaced))

  pub newkey_absent : does_words keeper (Some (Newkey key_file user)) w o → fin.get w.files name ≡ None
  newkey_absent d = by_key_file (absent_or key_file (λ none w o. o ≡ making keeper.public_of key_file (drawn_key user w)) w o d)

module _ (once : LinkIsSpelledOnce) (file_once : FileIsReadOnce) (bundle_once : BundleIsReadOnce) (key_once : KeyIsSpelledOnce) (unites : MeetingUnites) (keeper : Keeper) (w : World) (name : List ℕ) (old : Held)
    (there : HoldsTeam w.files name old) (o : Outcome) (first rest : List Step) (whole : o.steps ≡ first ++ rest) (replaced : Replaces name first) where
  -- the file is the union of its links and what the command gives
  abbrev Grows : Option Command → Type 0
  Grows command = NoClash old (CommandGives keeper command w name) → Fits old (CommandGives keeper command w name)
      → (new : Held) × HoldsTeam (after first w).files name new × IsUnion old (CommandGives keeper command w name) new

  -- a refusal replaces nothing
  not_said : {T : Type 0} → IsSaid o → T
  not_said said = absurd (saying_replaces_none name said.0 3 o first rest said.1 whole replaced)

  module _ (file bundle : List ℕ) where
    abbrev Gives : List ℕ → Type 0
    Gives = CommandGives keeper (Some (Merge file bundle)) w name

    -- the bundle was given to the links of the file
    module _ (held : Held) (bytes given : List ℕ) (at : fin.get w.files file ≡ Some bytes) (in_file : IsHeldIn bytes held) (at_bundle : fin.get w.files bundle ≡ Some given) (new : Held)
        (results : List ItemResult) (intake : IsBundleGiven held given new results) (is : o ≡ merged file new results) where
      abbrev Items : List ℕ → Type 0
      Items = HasItem intake.items

      same_name : file ≡ name
      same_name = go (whole_replaces name o (merged file new results) first rest is whole replaced)
        where
          go : (file ≡ name) ⊎ Replaces name (writes (results_text results)) → file ≡ name
          go (inl e) = e
          go (inr r) = absurd (writes_replace_none name (results_text results) r)

      of_old : IsFileOf bytes old.team old.links
      of_old = subst (λ (b : List ℕ). IsFileOf b old.team old.links) (some_same there.0 bytes (sym there.1 ∙ ap (λ (n : List ℕ). fin.get w.files n) (sym same_name) ∙ at)) there.2

      items_are : (b : List ℕ) → Items b ↔ Gives b
      items_are b = (λ k. (same_name, (given, at_bundle, (intake.items, intake.is_bundle, k))), back)
        where
          back : Gives b → Items b
          back g =
              let found = g.1 in
              let t = subst (λ (x : List ℕ). IsTextOf x b) (some_same found.0 given (sym found.1 ∙ at_bundle)) found.2 in
              subst (λ (l : List Item). HasItem l b) (bundle_once given t.0 intake.items t.1 intake.is_bundle) t.2

      merge_grows : Grows (Some (Merge file bundle))
      merge_grows apart fits =
          let m : IsMerged bytes given new results = record { old = held; held = in_file; intake = intake } in
          let among = among_more old Gives Items (λ b. (items_are b).0) in
          let u = bundle_union once file_once bytes given old new results m of_old (clash_within old old Gives Items refl among apart) (fits_within old old Gives Items refl among fits) in
          let steps = ap (λ (x : Outcome). x.steps) (sym is) ∙ whole in (
            new,
            (
              file_text new.team new.links,
              last_bytes [] name (file_text new.team new.links) (results_text results) first rest w (λ r. r)
                  (subst (λ (n : List ℕ). replace n (file_text new.team new.links) ∷ writes (results_text results) ≡ first ++ rest) same_name steps) replaced,
              record { held = u.held; is_text = refl },
            ),
            union_alike old new Items Gives items_are u,
          )

    bundle_grows : (held : Held) (bytes : List ℕ) → fin.get w.files file ≡ Some bytes → IsHeldIn bytes held
        → IsSaid o ⊎ ((given : List ℕ) × (fin.get w.files bundle ≡ Some given) × merging file held given w o) → Grows (Some (Merge file bundle))
    bundle_grows held bytes at in_file (inl said) apart fits = not_said said
    bundle_grows held bytes at in_file (inr (given, at_bundle, (new, results, intake, is))) apart fits =
        merge_grows held bytes given at in_file at_bundle new results intake is apart fits

    file_grows : IsSaid o ⊎ ((held : Held) × (bytes : List ℕ) × (fin.get w.files file ≡ Some bytes) × IsHeldIn bytes held × opening FindsBytes bundle (λ given. merging file held given) w o)
        → Grows (Some (Merge file bundle))
    file_grows (inl said) apart fits = not_said said
    file_grows (inr (held, bytes, at, in_file, d)) apart fits = bundle_grows held bytes at in_file (there_or bundle (λ given. merging file held given) w o d) apart fits

  module _ (file other : List ℕ) where
    met_grows : (one two : Held) (bytes more : List ℕ) → fin.get w.files file ≡ Some bytes → IsHeldIn bytes one → fin.get w.files other ≡ Some more → IsHeldIn more two
        → meeting file other one two w o → Grows (Some (Meet file other))
    met_grows one two bytes more at in_file at_other in_other d apart fits =
        meeting_grows file_once unites w name old there o first rest whole replaced file other one two bytes more at in_file at_other in_other d apart fits

    others_grow : (one : Held) (bytes : List ℕ) → fin.get w.files file ≡ Some bytes → IsHeldIn bytes one
        → IsSaid o ⊎ ((two : Held) × (more : List ℕ) × (fin.get w.files other ≡ Some more) × IsHeldIn more two × meeting file other one two w o) → Grows (Some (Meet file other))
    others_grow one bytes at in_file (inl said) apart fits = not_said said
    others_grow one bytes at in_file (inr (two, more, at_other, in_other, d)) apart fits = met_grows one two bytes more at in_file at_other in_other d apart fits

    files_grow : IsSaid o ⊎ ((one : Held) × (bytes : List ℕ) × (fin.get w.files file ≡ Some bytes) × IsHeldIn bytes one × opening FindsTeam other (λ two. meeting file other one two) w o)
        → Grows (Some (Meet file other))
    files_grow (inl said) apart fits = not_said said
    files_grow (inr (one, bytes, at, in_file, d)) apart fits = others_grow one bytes at in_file (team_or other (λ two. meeting file other one two) w o d) apart fits

  none_replaced : (file : List ℕ) (tells : Held → Outcome) → ((held : Held) → IsSaying (tells held)) → opening FindsTeam file (λ held w o. o ≡ tells held) w o → ⊥
  none_replaced file tells says d = report_replaces_none file name tells says w o first rest whole replaced d

  pub command_grows : (command : Option Command) → IsRight command → does_words keeper command w o → Grows command
  command_grows None right d apart fits = absurd (saying_replaces_none name (codes "usage\n") 2 o first rest d whole replaced)
  command_grows (Some (Make file key_file user title)) right d apart fits =
      absurd (never_both (fin.get w.files name) there.0 there.1 (made_absent keeper file key_file user title w o name first rest whole replaced d))
  command_grows (Some (Newkey key_file user)) right d apart fits =
      absurd (never_both (fin.get w.files name) there.0 there.1 (newkey_absent keeper key_file user w o name first rest whole replaced d))
  command_grows (Some (Plain file key_file act)) may d apart fits =
      authored_grows file_once key_once (plain_plan act w.moment) file key_file w name o first rest whole replaced (one_plan act w.moment)
      (λ held s p is range h. plain_sound act w.moment may d.0 held s is range p h) old there d.1
  command_grows (Some (Merge file bundle)) right d apart fits = file_grows file bundle (team_or file (λ held. opening FindsBytes bundle (λ given. merging file held given)) w o d) apart fits
  command_grows (Some (Meet file other)) right d apart fits = files_grow file other (team_or file (λ one. opening FindsTeam other (λ two. meeting file other one two)) w o d) apart fits
  command_grows (Some (Show file)) right d apart fits = absurd (none_replaced file (λ held. saying 0 (show_text held.team held.links)) (λ held. (show_text held.team held.links, 0, refl)) d)
  command_grows (Some (Log file)) right d apart fits = absurd (none_replaced file (λ held. saying 0 (log_text held.links)) (λ held. (log_text held.links, 0, refl)) d)
  command_grows (Some (Heads file)) right d apart fits = absurd (none_replaced file (λ held. saying 0 (heads_text held.links)) (λ held. (heads_text held.links, 0, refl)) d)
  command_grows (Some (Why file link)) right d apart fits = absurd (none_replaced file (λ held. explaining held.links link) (λ held. says_why held link) d)
  command_grows (Some (Keys file key_file)) right d apart fits = absurd (keys_replace_none keeper file key_file name w o first rest whole replaced d)

module _ (once : LinkIsSpelledOnce) (file_once : FileIsReadOnce) (bundle_once : BundleIsReadOnce) (key_once : KeyIsSpelledOnce) (unites : MeetingUnites) (keeper : Keeper) (name : List ℕ) where
  -- one run
  module _ (r : OneRun) (old : Held) (there : HoldsTeam r.old.files name old) where
    abbrev Given : List ℕ → Type 0
    Given = IsGivenIn keeper r name

    abbrev ToGive : List ℕ → Type 0
    ToGive = WordsGive keeper r.words r.old name

    abbrev Union : Type 0
    Union = (new : Held) × HoldsTeam r.new.files name new × IsUnion old Given new

    -- where the replace is done
    replaced_union : IsReplaced keeper r name → NoClash old Given → Fits old Given → (new : Held) × HoldsTeam r.new.files name new × IsUnion old ToGive new
    replaced_union done apart fits =
        let cut = done.cut in
        let command = done.does.0 in
        let Gives = CommandGives keeper command r.old name in
        let same = λ (b : List ℕ). words_give keeper r.words r.old name b command done.does.1 in
        let among = among_more old Given Gives (λ b k. (done, (same b).1 k)) in
        let grown = command_grows once file_once bundle_once key_once unites keeper r.old name old there done.outcome cut.first cut.rest cut.whole done.replaced command (words_right done.does.1) done.does.2
        (clash_within old old Given Gives refl among apart) (fits_within old old Given Gives refl among fits) in (
          grown.0,
          subst (λ (m : FileMap). HoldsTeam m name grown.0) (sym (same_files r.new (after cut.first r.old) cut.told)) grown.1,
          union_alike old grown.0 Gives ToGive (λ b. ((same b).1, (same b).0)) grown.2,
        )

    grown_union : IsReplaced keeper r name → NoClash old Given → Fits old Given → Union
    grown_union done apart fits =
        let u = replaced_union done apart fits in
        (u.0, u.1, union_alike old u.0 ToGive Given (λ b. (λ k. (done, k), λ g. g.1)) u.2)

    -- where the file is as it was: if its replace was done all the same, nothing new was given
    same_union : fin.get r.new.files name ≡ fin.get r.old.files name → NoClash old Given → Fits old Given → Union
    same_union same apart fits = (old, still, union_same old Given there.2.held given_held)
      where
        still : HoldsTeam r.new.files name old
        still = (there.0, same ∙ there.1, there.2)

        given_held : (b : List ℕ) → Given b → IsValidText old.team b → HasText old.links b
        given_held b g v =
            let u = replaced_union g.0 apart fits in
            let has = (u.2.texts b).1 (inr (g.1, v)) in
            let one = some_same u.1.0 there.0 (sym u.1.1 ∙ same ∙ there.1) in
            let two = file_once there.0 u.0.team old.team u.0.links old.links (subst (λ (x : List ℕ). IsFileOf x u.0.team u.0.links) one u.1.2) there.2 in
            (has.0, two.1.forth has.0 has.1, has.2)

    pub run_union : IsRun keeper r → NoClash old Given → Fits old Given → Union
    run_union is apart fits = go (is.cut r.old (told_known r.old))
      where
        by_cut : (o : Outcome) → does_run keeper r.words r.old o → (cut : IsCut (told r.new) o.steps r.old) → Replaces name cut.first ⊎ (¬ (Replaces name cut.first)) → Union
        by_cut o d cut (inl hit) = grown_union (record { outcome = o; does = d; cut = cut; replaced = hit }) apart fits
        by_cut o d cut (inr none) =
            same_union (ap (λ (m : FileMap). fin.get m name) (same_files r.new (after cut.first r.old) cut.told) ∙ file_kept cut.first r.old name none) apart fits

        go : AreKnown (told r.new) r.old ⊎ ((o : Outcome) × does_run keeper r.words r.old o × IsCut (told r.new) o.steps r.old) → Union
        go (inl nothing) = same_union (ap (λ (m : FileMap). fin.get m name) (same_files r.new r.old nothing)) apart fits
        go (inr (o, d, cut)) = by_cut o d cut (replaced_or_not name cut.first)

  parts_by : (r : OneRun) (runs : List OneRun) (b : List ℕ) → IsGivenBy keeper (r ∷ runs) name b ↔ (IsGivenIn keeper r name b ⊎ IsGivenBy keeper runs name b)
  parts_by r runs b = (λ k. k, λ k. k)

  -- and one after another
  pub runs_union : (files last : FileMap) (runs : List OneRun) (old : Held) → AreRuns keeper files runs last → HoldsTeam files name old → NoClash old (IsGivenBy keeper runs name)
      → Fits old (IsGivenBy keeper runs name) → (new : Held) × HoldsTeam last name new × IsUnion old (IsGivenBy keeper runs name) new
  runs_union files last [] old are there apart fits =
      (old, subst (λ (m : FileMap). HoldsTeam m name old) (sym are) there, union_same old (IsGivenBy keeper [] name) there.2.held (λ b k v. absurd k))
  runs_union files last (r ∷ runs) old are there apart fits =
      let G = IsGivenIn keeper r name in let H = IsGivenBy keeper runs name in let K = IsGivenBy keeper (r ∷ runs) name in
      let among = among_more old K G (λ b g. inl g) in
      let found = subst (λ (m : FileMap). HoldsTeam m name old) (sym are.0) there in
      let first = run_union r old found are.1 (clash_within old old K G refl among apart) (fits_within old old K G refl among fits) in
      let parts = parts_by r runs in
      let later = runs_union r.new.files last runs first.0 are.2 first.1 (clash_later old first.0 G H K first.2 parts apart) (fits_later old first.0 G H K first.2 parts fits) in
      (later.0, later.1, union_join old first.0 G H K first.2 parts later.0 later.2)
