-- A key's file is no team's.
use Rattle.std.proofs.Common.{◌≡◌, ℕ, List, get_or, ap, arith}
use Rattle.team_sets.specs.Names.{Name}
use Rattle.team_model.specs.declared.terms.Link.{Link}
use Rattle.lms_keep.specs.KeyText.{key_text}
use Rattle.lms_keep.specs.declared.key_state.KeyState.{KeyState}
use Rattle.link_text.specs.TeamFile.{IsFileOf}

-- the bytes are no team's file
abbrev pub IsNoTeam : List ℕ → Type 0
IsNoTeam bytes = (t : Name) (links : List Link) → ¬ (IsFileOf bytes t links)

pub key_no_team : (s : KeyState) → IsNoTeam (key_text s)
key_no_team s t links file = let bad : ◌≡◌ {A = ℕ} 107 102 = ap (λ (bytes : List ℕ). get_or bytes 5 0) file.is_text in omega (arith, bad)
