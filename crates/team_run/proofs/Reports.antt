-- A command that prints what files say replaces nothing.
use Rattle.std.proofs.Common.{◌≡◌, ◌⊎◌, ◌∙◌, inl, inr, ℕ, List, ◌++◌, Option, Some, None, refl}
use Rattle.std.specs.FinMap as fin
use Rattle.std.specs.Option.{option_map_or}
use Rattle.link_graph.specs.Held.{Held}
use Rattle.link_intake.specs.Merged.{IsHeldIn}
use Rattle.lms_keep.specs.KeyText.{IsKeyFile}
use Rattle.lms_keep.specs.declared.key_state.KeyState.{KeyState}
use Rattle.lockboxes.specs.Keeping.{Keeper}
use Rattle.outcomes.specs.Refusing.{opening}
use Rattle.outcomes.specs.Steps.{World, Step, Outcome, saying}
use Rattle.openers.specs.Key.{FindsKey}
use Rattle.openers.specs.Team.{FindsTeam}
use Rattle.report_commands.specs.Keys.{IsKeysSaid, lists_keys}
use Rattle.report_commands.specs.Why.{explaining, not_held}
use Rattle.team_report.specs.WhyText.{why_named}
use Rattle.team_sets.specs.Names.{Name}
use Rattle.team_run.specs.ManyRuns.{Replaces}
use Rattle.team_run.proofs.Cuts.{saying_replaces_none}
use Rattle.team_run.proofs.Openings.{IsSaid, key_or, team_or}

-- nothing is done but to print a text
abbrev pub IsSaying : Outcome → Type 0
IsSaying o = (text : List ℕ) × (status : ℕ) × (o ≡ saying status text)

pub says_why : (held : Held) (n : Name) → IsSaying (explaining held.links n)
says_why held n = go (why_named held.links n)
  where
    go : (o : Option (List ℕ)) → IsSaying (option_map_or (λ text. saying 0 text) o (saying 4 not_held))
    go None = (not_held, 4, refl)
    go (Some text) = (text, 0, refl)

module _ (file name : List ℕ) (tells : Held → Outcome) (says : (held : Held) → IsSaying (tells held)) (w : World) (o : Outcome) (first rest : List Step) (whole : o.steps ≡ first ++ rest)
    (replaced : Replaces name first) where
  by_file : IsSaid o ⊎ ((held : Held) × (bytes : List ℕ) × (fin.get w.files file ≡ Some bytes) × IsHeldIn bytes held × (o ≡ tells held)) → ⊥
  by_file (inl said) = saying_replaces_none name said.0 3 o first rest said.1 whole replaced
  by_file (inr (held, bytes, at, in_file, is)) = let s = says held in saying_replaces_none name s.0 s.1 o first rest (is ∙ s.2) whole replaced

  pub report_replaces_none : opening FindsTeam file (λ held w o. o ≡ tells held) w o → ⊥
  report_replaces_none d = by_file (team_or file (λ held w o. o ≡ tells held) w o d)

-- nor does one that prints the keys that a device opens
module _ (keeper : Keeper) (file key_file name : List ℕ) (w : World) (o : Outcome) (first rest : List Step) (whole : o.steps ≡ first ++ rest) (replaced : Replaces name first) where
  by_key_file : (held : Held) → IsSaid o ⊎ ((s : KeyState) × (bytes : List ℕ) × (fin.get w.files key_file ≡ Some bytes) × IsKeyFile bytes s × IsKeysSaid keeper held s w o) → ⊥
  by_key_file held (inl said) = saying_replaces_none name said.0 3 o first rest said.1 whole replaced
  by_key_file held (inr (s, bytes, at, is, keys)) = saying_replaces_none name keys.text 0 o first rest keys.said whole replaced

  by_files : IsSaid o ⊎ ((held : Held) × (bytes : List ℕ) × (fin.get w.files file ≡ Some bytes) × IsHeldIn bytes held × opening FindsKey key_file (λ s. IsKeysSaid keeper held s) w o) → ⊥
  by_files (inl said) = saying_replaces_none name said.0 3 o first rest said.1 whole replaced
  by_files (inr (held, bytes, at, in_file, d)) = by_key_file held (key_or key_file (λ s. IsKeysSaid keeper held s) w o d)

  pub keys_replace_none : lists_keys keeper file key_file w o → ⊥
  keys_replace_none d = by_files (team_or file (λ held. opening FindsKey key_file (λ s. IsKeysSaid keeper held s)) w o d)
