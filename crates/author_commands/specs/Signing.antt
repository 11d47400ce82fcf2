-- What is signed: a draft for which a team has room, and the link that it becomes.
use Rattle.std.specs.Prelude.{◌≡◌, ℕ, true, List, ◌++◌, Some}
use Rattle.sha2.specs.Sha256.{sha256}
use Rattle.lms_tree.specs.Signatures.{public_key}
use Rattle.lms_keep.specs.Signing.{tree_key}
use Rattle.lms_keep.specs.declared.key_state.KeyState.{KeyState}
use Rattle.team_model.specs.declared.terms.Link.{Link}
use Rattle.link_text.specs.Drafts.{draft_body, draft_has_proof, link_of}
use Rattle.link_text.specs.LinkText.{sign_line}
use Rattle.link_text.specs.declared.draft.Draft.{Draft}
use Rattle.link_graph.specs.Held.{Held}
use Rattle.team_author.specs.Drafting.{HasRoom, IsDraft}
use Rattle.author_commands.specs.declared.planner.Planned.{Planned}
use Rattle.author_commands.specs.declared.planner.Planned.TheVariants.{Refuses, Writes}

-- the link of a draft with this signature
abbrev pub authored : Draft → List ℕ → Link
authored d signature = link_of d signature (sha256 (draft_body d ++ sign_line signature))

-- the draft is one of this team, to be signed by this key, an admission that it makes is proved, and there is room for it
pub record IsSignable (held : Held) (s : KeyState) (d : Draft) : Type 0 where
  pub draft : IsDraft d
  pub team : d.team ≡ Some held.team
  pub key : d.key ≡ public_key (tree_key s)
  pub proved : draft_has_proof d ≡ true
  pub room : HasRoom held

abbrev pub IsSound : Held → KeyState → Planned → Type 0
IsSound held s (Refuses refusal) = Unit {0}
IsSound held s (Writes d) = IsSignable held s d
