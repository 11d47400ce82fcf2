-- A draft for which there is room becomes a link of the team, within its limits, once it is signed.
use Rattle.std.proofs.Common.{◌≡◌, ◌≤◌, ◌+◌, ◌==◌, ℕ, true, false, List, ◌++◌, length, decimal, Option, Some, None, refl, arith}
use Rattle.std.specs.Option.{option_map_or}
use Rattle.std.proofs.lemmas.Bool.{and_from, and_parts, false≢true}
use Rattle.std.proofs.lemmas.Fmt.{length-decimal-le}
use Rattle.sha2.specs.Sha256.{sha256}
use Rattle.tg_text.specs.Limits.{most_link_bytes}
use Rattle.tg_text.specs.Spelling.{AreBytes}
use Rattle.lms_ots.specs.declared.kind.OtsKind.{OtsKind}
use Rattle.lms_ots.specs.Kinds.{ots_kind}
use Rattle.tg_text.specs.Spelling.{number_at}
use Rattle.lms_tree.specs.declared.lms_kind.LmsKind.{LmsKind}
use Rattle.lms_tree.specs.LmsKinds.{lms_kind, lms_length}
use Rattle.lms_tree.specs.Verifying.{is_signature, leads_to, verifies, verifies_one}
use Rattle.lms_tree.proofs.Conditions.{fits}
use Rattle.lms_keep.specs.declared.key_state.KeyState.{KeyState}
use Rattle.team_model.specs.declared.terms.Link.{Link}
use Rattle.link_text.specs.Drafts.{draft_body, draft_has_proof}
use Rattle.link_text.specs.LinkText.{IsValid, IsWellFormed, Reads, sign_line, text}
use Rattle.link_text.specs.declared.draft.Draft.{Draft}
use Rattle.link_graph.specs.Held.{Held}
use Rattle.link_graph.specs.Taking.{HasSpace}
use Rattle.link_graph.proofs.Sizing.{size_push}
use Rattle.key_commands.proofs.MadeTeams.{few_chains, few_nodes}
use Rattle.author_commands.specs.Signing.{IsSignable, authored}
use Rattle.author_commands.specs.Taken.{MayTake}

-- a signature that verifies isn't longer than signatures are
kinds_few : (key message signature : List ℕ) (lms : Option LmsKind) (ots : Option OtsKind)
    → option_map_or (λ l. option_map_or (λ o. leads_to l o key message signature) ots false) lms false ≡ true → length signature ≤ 9324
unfolding leads_to
kinds_few key message signature None ots e = absurd (false≢true e)
kinds_few key message signature (Some lms) None e = absurd (false≢true e)
kinds_few key message signature (Some lms) (Some ots) e =
    let size : length signature ≡ lms_length lms ots = (fits lms ots signature (and_parts (is_signature lms ots signature) _ e).0).size in
    omega (arith, size, few_nodes lms, few_chains ots)

pub signature_few : (key message signature : List ℕ) → verifies key message signature ≡ true → length signature ≤ 9324
unfolding verifies verifies_one
signature_few key message signature e = kinds_few key message signature (lms_kind (number_at 0 key)) (ots_kind (number_at 4 key)) (and_parts (length key == 56) _ e).1

module _ (held : Held) (s : KeyState) (d : Draft) (signature : List ℕ) (signable : IsSignable held s d) (bytes : AreBytes signature) (verified : verifies d.key (draft_body d) signature ≡ true) where
  abbrev link : Link
  link = authored d signature

  well : IsWellFormed link
  well = signable.draft signature (sha256 (draft_body d ++ sign_line signature)) bytes (signature_few d.key (draft_body d) signature verified)

  reads : Reads (text link) link
  reads = record { is_text = refl; well_formed = well; name = refl }

  pub authored_valid : IsValid held.team (text link) link
  authored_valid = record { reads = reads; of_team = rw signable.team refl; proved = and_from (verifies d.key (draft_body d) signature) (draft_has_proof d) verified signable.proved }

  pub authored_space : HasSpace held.team held.links link
  authored_space =
      let more = size_push held.team held.links link in
      let short : length (text link) ≤ most_link_bytes = well.fits in
      let digits : length (decimal (length (text link))) ≤ 7 = length-decimal-le 7 (length (text link)) (omega arith) (omega (arith, short)) (omega (arith, short)) in
      let room = signable.room.short in
      record { few = signable.room.few; short = omega (arith, more, short, digits, room) }

  pub may_take : MayTake held (text link)
  may_take = record { link = link; valid = authored_valid; space = authored_space }
