-- How a file in which no team stands becomes a team's: by a run of `make` alone.
use Rattle.std.proofs.Common.{◌≡◌, ◌≢◌, ◌⊎◌, ◌∙◌, inl, inr, ℕ, zero, suc, List, [], ◌∷◌, ◌++◌, Option, Some, None, codes, refl, sym, ap, subst, Bool, true, false}
use Rattle.std.specs.FinMap as fin
use Rattle.acts.specs.declared.entry.Act.{Act}
use Rattle.tg_outside.specs.Contents.{FileMap}
use Rattle.team_model.specs.ShowText.{show_text}
use Rattle.team_model.specs.declared.terms.Link.{Link}
use Rattle.lms_keep.specs.KeyText.{key_text}
use Rattle.lms_keep.specs.Signing.{advanced}
use Rattle.link_text.specs.TeamFile.{IsFileOf}
use Rattle.link_graph.specs.Held.{Held}
use Rattle.team_sets.specs.Names.{same_name}
use Rattle.link_intake.specs.Merged.{IsHeldIn}
use Rattle.link_intake.specs.ResultsText.{results_text}
use Rattle.lockboxes.specs.Keeping.{Keeper}
use Rattle.outcomes.specs.Refusing.{FindsBytes, FindsNone, opening}
use Rattle.outcomes.specs.Seeing.{AreKnown, IsCut}
use Rattle.outcomes.specs.Steps.{World, Step, Outcome, after, after_step, draw, draws, put, puts, replace, saying, take_byte, write, writes}
use Rattle.openers.specs.Team.{FindsTeam}
use Rattle.report_commands.specs.Why.{explaining}
use Rattle.team_report.specs.HeadsText.{heads_text}
use Rattle.team_report.specs.LogText.{log_text}
use Rattle.team_words.specs.Words.{IsCommandOf}
use Rattle.team_words.specs.declared.command.Command.{Command}
use Rattle.team_words.specs.declared.command.Command.TheVariants.{Heads, Keys, Log, Make, Meet, Merge, Newkey, Plain, Show, Why}
use Rattle.key_commands.specs.Make.{founding_puts, make_text, making_team}
use Rattle.key_commands.specs.Newkey.{drawn_key, making, newkey_text}
use Rattle.exchange_commands.specs.Meet.{meeting}
use Rattle.exchange_commands.specs.Merge.{merged, merging}
use Rattle.author_commands.specs.Authoring.{by_found_text, found_text, link_line}
use Rattle.author_commands.specs.Plain.{plain_plan}
use Rattle.author_commands.specs.Refusals.{refusal_line}
use Rattle.author_commands.specs.declared.refusal.Refusal.TheVariants.{NameClash}
use Rattle.team_run.specs.ManyRuns.{AreRuns, HoldsNone, IsBegun, IsReplaced, IsRun, OneRun, Replaces, TeamsAreBegun, root_of, told}
use Rattle.team_run.specs.Running.{does_run, does_words}
use Rattle.team_run.specs.Serving.{HoldsTeam}
use Rattle.team_run.proofs.Cuts.{file_kept, given_bytes, one_name, replaced_or_not, same_files, saying_replaces_none, told_known, whole_replaces, writes_replace_none}
use Rattle.team_run.proofs.KeyFiles.{IsNoTeam, key_no_team}
use Rattle.team_run.proofs.Meetings.{met_replaces}
use Rattle.team_run.proofs.Openings.{IsSaid, absent_or, founds, some_same, team_or, there_or}
use Rattle.team_run.proofs.Reports.{IsSaying, keys_replace_none, report_replaces_none, says_why}
use Rattle.team_run.proofs.Posted.{IsRefused, IsSigned, link_by, posted_outcome, signed_or, signed_outcome}

-- each step that replaces the file gives it the bytes of no team's file
abbrev GivesNoTeam : List ℕ → List Step → Type 0
GivesNoTeam name [] = Unit {0}
GivesNoTeam name (draw ∷ steps) = GivesNoTeam name steps
GivesNoTeam name (take_byte ∷ steps) = GivesNoTeam name steps
GivesNoTeam name (replace other bytes ∷ steps) = (other ≡ name → IsNoTeam bytes) × GivesNoTeam name steps
GivesNoTeam name (write byte ∷ steps) = GivesNoTeam name steps

gives_first : (name : List ℕ) (a b : List Step) → GivesNoTeam name (a ++ b) → GivesNoTeam name a
gives_first name [] b g = tt
gives_first name (draw ∷ a) b g = gives_first name a b g
gives_first name (take_byte ∷ a) b g = gives_first name a b g
gives_first name (replace other bytes ∷ a) b g = (g.0, gives_first name a b g.1)
gives_first name (write byte ∷ a) b g = gives_first name a b g

gives_both : (name : List ℕ) (a b : List Step) → GivesNoTeam name a → GivesNoTeam name b → GivesNoTeam name (a ++ b)
gives_both name [] b g h = h
gives_both name (draw ∷ a) b g h = gives_both name a b g h
gives_both name (take_byte ∷ a) b g h = gives_both name a b g h
gives_both name (replace other bytes ∷ a) b g h = (g.0, gives_both name a b g.1 h)
gives_both name (write byte ∷ a) b g h = gives_both name a b g h

gives_written : (name text : List ℕ) → GivesNoTeam name (writes text)
gives_written name [] = tt
gives_written name (b ∷ text) = gives_written name text

gives_drawn : (name : List ℕ) (n : ℕ) → GivesNoTeam name (draws n)
gives_drawn name zero = tt
gives_drawn name (suc n) = gives_drawn name n

abbrev HasNoTeam : FileMap → List ℕ → Type 0
HasNoTeam files name = (bytes : List ℕ) × (fin.get files name ≡ Some bytes) × IsNoTeam bytes

-- what stands in the file after such steps, one of which replaces it
left_by : (name : List ℕ) (steps : List Step) (w : World) → GivesNoTeam name steps → Replaces name steps → HasNoTeam (after steps w).files name
left_by name [] w g r = absurd r
left_by name (draw ∷ steps) w g r = left_by name steps (after_step draw w) g r
left_by name (take_byte ∷ steps) w g r = left_by name steps (after_step take_byte w) g r
left_by name (write byte ∷ steps) w g r = left_by name steps (after_step (write byte) w) g r
left_by name (replace other bytes ∷ steps) w g (inr r) = left_by name steps (after_step (replace other bytes) w) g.1 r
left_by name (replace other bytes ∷ steps) w g (inl e) = go (replaced_or_not name steps) (λ r. left_by name steps (after_step (replace other bytes) w) g.1 r)
  where
    go : Replaces name steps ⊎ (¬ (Replaces name steps)) → (Replaces name steps → HasNoTeam (after (replace other bytes ∷ steps) w).files name)
        → HasNoTeam (after (replace other bytes ∷ steps) w).files name
    go (inl r) more = more r
    go (inr none) more = (
      bytes,
      file_kept steps (after_step (replace other bytes) w) name none ∙ subst (λ (n : List ℕ). fin.get (fin.insert w.files other bytes) n ≡ Some bytes) e (given_bytes w.files other bytes),
      g.0 e,
    )

module _ (keeper : Keeper) (w : World) (name : List ℕ) (o : Outcome) (first rest : List Step) (whole : o.steps ≡ first ++ rest) (replaced : Replaces name first) where
  not_said : {T : Type 0} → IsSaid o → T
  not_said said = absurd (saying_replaces_none name said.0 3 o first rest said.1 whole replaced)

  -- what an outcome leaves that gives the bytes of no team's file
  left_of : (p : Outcome) → o ≡ p → GivesNoTeam name p.steps → HasNoTeam (after first w).files name
  left_of p is g =
      let here = subst (λ (l : List Step). GivesNoTeam name l) whole (subst (λ (x : Outcome). GivesNoTeam name x.steps) (sym is) g) in
      left_by name first w (gives_first name first rest here) replaced

  -- a merge that replaced the file found a team's links in it
  abbrev FoundTeam : Type 0
  FoundTeam = (held : Held) × HoldsTeam w.files name held

  module _ (file bundle : List ℕ) where
    merged_found : (held : Held) (bytes : List ℕ) → fin.get w.files file ≡ Some bytes → IsHeldIn bytes held
        → IsSaid o ⊎ ((given : List ℕ) × (fin.get w.files bundle ≡ Some given) × merging file held given w o) → FoundTeam
    merged_found held bytes at in_file (inl said) = not_said said
    merged_found held bytes at in_file (inr (given, at_bundle, (new, results, intake, is))) = go (whole_replaces name o (merged file new results) first rest is whole replaced)
      where
        go : (file ≡ name) ⊎ Replaces name (writes (results_text results)) → FoundTeam
        go (inl e) = (held, (bytes, subst (λ (n : List ℕ). fin.get w.files n ≡ Some bytes) e at, in_file.file))
        go (inr r) = absurd (writes_replace_none name (results_text results) r)

    merge_found : IsSaid o ⊎ ((held : Held) × (bytes : List ℕ) × (fin.get w.files file ≡ Some bytes) × IsHeldIn bytes held × opening FindsBytes bundle (λ given. merging file held given) w o) → FoundTeam
    merge_found (inl said) = not_said said
    merge_found (inr (held, bytes, at, in_file, d)) = merged_found held bytes at in_file (there_or bundle (λ given. merging file held given) w o d)

  -- so did a meeting
  module _ (file other : List ℕ) where
    met_found : (one : Held) (bytes : List ℕ) → fin.get w.files file ≡ Some bytes → IsHeldIn bytes one
        → IsSaid o ⊎ ((two : Held) × (more : List ℕ) × (fin.get w.files other ≡ Some more) × IsHeldIn more two × meeting file other one two w o) → FoundTeam
    met_found one bytes at in_file (inl said) = not_said said
    met_found one bytes at in_file (inr (two, more, at_other, in_other, d)) =
        go (met_replaces w name o first rest whole replaced file other one two (same_name one.team two.team) d)
      where
        go : (file ≡ name) ⊎ (other ≡ name) → FoundTeam
        go (inl e) = (one, (bytes, subst (λ (n : List ℕ). fin.get w.files n ≡ Some bytes) e at, in_file.file))
        go (inr e) = (two, (more, subst (λ (n : List ℕ). fin.get w.files n ≡ Some more) e at_other, in_other.file))

    meet_found : IsSaid o ⊎ ((one : Held) × (bytes : List ℕ) × (fin.get w.files file ≡ Some bytes) × IsHeldIn bytes one × opening FindsTeam other (λ two. meeting file other one two) w o) → FoundTeam
    meet_found (inl said) = not_said said
    meet_found (inr (one, bytes, at, in_file, d)) = met_found one bytes at in_file (team_or other (λ two. meeting file other one two) w o d)

  abbrev IsMakeOf : Option Command → Type 0
  IsMakeOf command = (key_file : List ℕ) × (user : List ℕ) × (title : List ℕ) × (command ≡ Some (Make name key_file user title))

  -- a command that replaced a file in which no team stood founded its team, or left the bytes of no team's file
  abbrev Left : Option Command → Type 0
  Left command = HasNoTeam (after first w).files name ⊎ IsMakeOf command

  module _ (file key_file user title : List ℕ) where
    make_gives : file ≢ name → GivesNoTeam name (making_team keeper.public_of file key_file title w.moment (drawn_key user w)).steps
    make_gives differ =
        let root = root_of keeper.public_of user title w in
        let s = drawn_key user w in
        gives_both name (draws 3) (puts (founding_puts file key_file s root) ++ writes (make_text root)) (gives_drawn name 3)
        ((λ e. key_no_team s), ((λ e. key_no_team (advanced s)), ((λ e. absurd (differ e)), gives_written name (make_text root))))

    make_by_key : file ≢ name → IsSaid o ⊎ ((none : Unit {0}) × (fin.get w.files key_file ≡ None) × founds keeper.public_of file key_file user title w o) → HasNoTeam (after first w).files name
    make_by_key differ (inl said) = not_said said
    make_by_key differ (inr (none, k, is)) = left_of (making_team keeper.public_of file key_file title w.moment (drawn_key user w)) is (make_gives differ)

    make_by_file : file ≢ name → IsSaid o ⊎ ((none : Unit {0}) × (fin.get w.files file ≡ None) × opening FindsNone key_file (λ none. founds keeper.public_of file key_file user title) w o)
        → HasNoTeam (after first w).files name
    make_by_file differ (inl said) = not_said said
    make_by_file differ (inr (none, f, d)) = make_by_key differ (absent_or key_file (λ none. founds keeper.public_of file key_file user title) w o d)

    make_left : does_words keeper (Some (Make file key_file user title)) w o → (file ≡ name) ⊎ (file ≢ name) → Left (Some (Make file key_file user title))
    make_left d (inl e) = inr (key_file, user, title, ap (λ (n : List ℕ). Some (Make n key_file user title)) e)
    make_left d (inr differ) = inl (make_by_file differ (absent_or file (λ none. opening FindsNone key_file (λ none. founds keeper.public_of file key_file user title)) w o d))

  newkey_left : (key_file user : List ℕ) → IsSaid o ⊎ ((none : Unit {0}) × (fin.get w.files key_file ≡ None) × (o ≡ making keeper.public_of key_file (drawn_key user w))) → HasNoTeam (after first w).files name
  newkey_left key_file user (inl said) = not_said said
  newkey_left key_file user (inr (none, k, is)) =
      let s = drawn_key user w in
      left_of (making keeper.public_of key_file s) is
      (gives_both name (draws 3) (puts (put key_file (key_text s) ∷ []) ++ writes (newkey_text keeper.public_of s)) (gives_drawn name 3) ((λ e. key_no_team s), gives_written name (newkey_text keeper.public_of s)))

  module _ (file key_file : List ℕ) (act : Act) where
    gives_posted : file ≢ name → (held : Held) (link : Link) (found : Option Bool) → GivesNoTeam name (by_found_text file held link found).steps
    gives_posted differ held link None = ((λ e. absurd (differ e)), gives_written name (link_line link.name))
    gives_posted differ held link (Some true) = ((λ e. absurd (differ e)), gives_written name (link_line link.name))
    gives_posted differ held link (Some false) = gives_written name (refusal_line (NameClash link.name))

    plain_left : does_words keeper (Some (Plain file key_file act)) w o → HoldsNone w.files name → HasNoTeam (after first w).files name
    plain_left d none = go (signed_or (plain_plan act w.moment) file key_file w o d.1)
      where
        go : IsRefused o ⊎ IsSigned (plain_plan act w.moment) file key_file w o → HasNoTeam (after first w).files name
        go (inl refused) = absurd (saying_replaces_none name refused.1 refused.0 o first rest refused.3 whole replaced)
        go (inr (held, key, draft, opened, is)) =
            let differ : file ≢ name = λ e. none held (opened.bytes, subst (λ (n : List ℕ). fin.get w.files n ≡ Some opened.bytes) e opened.there, opened.in_file.file) in
            left_of (signed_outcome key_file key (posted_outcome file held (link_by key draft))) is
            ((λ e. key_no_team (advanced key)), gives_posted differ held (link_by key draft) (found_text held (link_by key draft)))

  none_replaced : (file : List ℕ) (tells : Held → Outcome) → ((held : Held) → IsSaying (tells held)) → opening FindsTeam file (λ held w o. o ≡ tells held) w o → ⊥
  none_replaced file tells says d = report_replaces_none file name tells says w o first rest whole replaced d

  pub command_left : (command : Option Command) → does_words keeper command w o → HoldsNone w.files name → Left command
  command_left None d none = absurd (saying_replaces_none name (codes "usage\n") 2 o first rest d whole replaced)
  command_left (Some (Make file key_file user title)) d none = make_left file key_file user title d (one_name file name)
  command_left (Some (Newkey key_file user)) d none = inl (newkey_left key_file user (absent_or key_file (λ none w o. o ≡ making keeper.public_of key_file (drawn_key user w)) w o d))
  command_left (Some (Plain file key_file act)) d none = inl (plain_left file key_file act d none)
  command_left (Some (Merge file bundle)) d none =
      let team = merge_found file bundle (team_or file (λ held. opening FindsBytes bundle (λ given. merging file held given)) w o d) in
      absurd (none team.0 team.1)
  command_left (Some (Meet file other)) d none =
      let team = meet_found file other (team_or file (λ one. opening FindsTeam other (λ two. meeting file other one two)) w o d) in
      absurd (none team.0 team.1)
  command_left (Some (Show file)) d none = absurd (none_replaced file (λ held. saying 0 (show_text held.team held.links)) (λ held. (show_text held.team held.links, 0, refl)) d)
  command_left (Some (Log file)) d none = absurd (none_replaced file (λ held. saying 0 (log_text held.links)) (λ held. (log_text held.links, 0, refl)) d)
  command_left (Some (Heads file)) d none = absurd (none_replaced file (λ held. saying 0 (heads_text held.links)) (λ held. (heads_text held.links, 0, refl)) d)
  command_left (Some (Why file link)) d none = absurd (none_replaced file (λ held. explaining held.links link) (λ held. says_why held link) d)
  command_left (Some (Keys file key_file)) d none = absurd (keys_replace_none keeper file key_file name w o first rest whole replaced d)

-- a file that has the bytes of no team's file, or those of one in which no team stands
holds_none : (files : FileMap) (name : List ℕ) → HasNoTeam files name → HoldsNone files name
holds_none files name (bytes, at, none) held (b, there, file) =
    none held.team held.links (subst (λ (x : List ℕ). IsFileOf x held.team held.links) (some_same b bytes (sym there ∙ at)) file)

still_none : (files more : FileMap) (name : List ℕ) → fin.get more name ≡ fin.get files name → HoldsNone files name → HoldsNone more name
still_none files more name same none held (bytes, there, file) = none held (bytes, sym same ∙ there, file)

module _ (keeper : Keeper) (name : List ℕ) where
  -- the words of a run found the team of the file
  abbrev IsMake : OneRun → Type 0
  IsMake r = (key_file : List ℕ) × (user : List ℕ) × (title : List ℕ) × IsCommandOf r.words (Some (Make name key_file user title))

  -- one run
  module _ (r : OneRun) (is : IsRun keeper r) (none : HoldsNone r.old.files name) where
    abbrev Becomes : Type 0
    Becomes = HoldsNone r.new.files name ⊎ (IsMake r × IsReplaced keeper r name)

    left : (o : Outcome) → (d : does_run keeper r.words r.old o) → (cut : IsCut (told r.new) o.steps r.old) → Replaces name cut.first
        → HasNoTeam (after cut.first r.old).files name ⊎ ((key_file : List ℕ) × (user : List ℕ) × (title : List ℕ) × (d.0 ≡ Some (Make name key_file user title))) → Becomes
    left o d cut hit (inl other) = inl (holds_none r.new.files name (subst (λ (m : FileMap). HasNoTeam m name) (sym (same_files r.new (after cut.first r.old) cut.told)) other))
    left o d cut hit (inr (key_file, user, title, make)) =
        inr ((key_file, user, title, subst (λ (c : Option Command). IsCommandOf r.words c) make d.1), record { outcome = o; does = d; cut = cut; replaced = hit })

    by_cut : (o : Outcome) → does_run keeper r.words r.old o → (cut : IsCut (told r.new) o.steps r.old) → Replaces name cut.first ⊎ (¬ (Replaces name cut.first)) → Becomes
    by_cut o d cut (inl hit) = left o d cut hit (command_left keeper r.old name o cut.first cut.rest cut.whole hit d.0 d.2 none)
    by_cut o d cut (inr miss) =
        inl (still_none r.old.files r.new.files name (ap (λ (m : FileMap). fin.get m name) (same_files r.new (after cut.first r.old) cut.told) ∙ file_kept cut.first r.old name miss) none)

    cut_becomes : AreKnown (told r.new) r.old ⊎ ((o : Outcome) × does_run keeper r.words r.old o × IsCut (told r.new) o.steps r.old) → Becomes
    cut_becomes (inl nothing) = inl (still_none r.old.files r.new.files name (ap (λ (m : FileMap). fin.get m name) (same_files r.new r.old nothing)) none)
    cut_becomes (inr (o, d, cut)) = by_cut o d cut (replaced_or_not name cut.first)

    becomes : Becomes
    becomes = cut_becomes (is.cut r.old (told_known r.old))

  later : (last : FileMap) (runs : List OneRun) (r : OneRun) → IsBegun keeper runs name last → IsBegun keeper (r ∷ runs) name last
  later last runs r b = record {
    before = r ∷ b.before;
    made = b.made;
    more = b.more;
    key_file = b.key_file;
    user = b.user;
    title = b.title;
    whole = ap (λ (l : List OneRun). r ∷ l) b.whole;
    words = b.words;
    replaced = b.replaced;
    follow = b.follow;
  }

  team_begun : (files last : FileMap) (runs : List OneRun) (new : Held) → AreRuns keeper files runs last → HoldsNone files name → HoldsTeam last name new → IsBegun keeper runs name last
  team_begun files last [] new are none there = absurd (none new (subst (λ (m : FileMap). HoldsTeam m name new) are there))
  team_begun files last (r ∷ runs) new are none there =
      go (becomes r are.1 (subst (λ (m : FileMap). HoldsNone m name) (sym are.0) none)) (λ still. team_begun r.new.files last runs new are.2 still there)
    where
      go : HoldsNone r.new.files name ⊎ (IsMake r × IsReplaced keeper r name)
          → (HoldsNone r.new.files name → IsBegun keeper runs name last) → IsBegun keeper (r ∷ runs) name last
      go (inl still) more = later last runs r (more still)
      go (inr (make, replaced)) more = record {
        before = [];
        made = r;
        more = runs;
        key_file = make.0;
        user = make.1;
        title = make.2;
        whole = refl;
        words = make.3;
        replaced = replaced;
        follow = are.2;
      }

pub teams_begun : TeamsAreBegun
teams_begun keeper files last runs name new are none there = team_begun keeper name files last runs new are none there
