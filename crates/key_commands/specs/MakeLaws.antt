-- What the file that `make` writes is.
use Rattle.std.specs.Prelude.{◌<◌, ◌^◌, ℕ, List, [], ◌∷◌}
use Rattle.tg_text.specs.Spelling.{IsHash, IsTitle}
use Rattle.team_model.specs.declared.terms.Link.{Link}
use Rattle.lms_keep.specs.KeyText.{IsKeyState, leaves}
use Rattle.lms_keep.specs.declared.key_state.KeyState.{KeyState}
use Rattle.link_text.specs.TeamFile.{IsFileOf, file_text}
use Rattle.key_commands.specs.Make.{founding, signed_link}

-- the file of the root alone is the team file of the team that has the root's name
abbrev pub IsTeamOfRoot : Link → Type 0
IsTeamOfRoot root = IsFileOf (file_text root.name (root ∷ [])) root.name (root ∷ [])

-- The file that `make` writes is a team file, which `show` and `merge` read: the root is well-formed, it proves what it says, and
-- it is of the team that has its name.
abbrev pub MadeIsHeld : Type 0
MadeIsHeld = (public_of : List ℕ → List ℕ) (s : KeyState) (title : List ℕ) (time : ℕ) → IsKeyState s → s.next < leaves s.lms → IsTitle title → time < 2 ^ 64
    → IsHash (public_of s.secret) → IsTeamOfRoot (signed_link s (founding public_of s title time))
