-- What reading a link of a team answers.
use Rattle.std.specs.Prelude.{◌≡◌, ◌<◌, ◌↔◌, ℕ, List, length, Result, Err, IfOk}
use Rattle.tg_text.specs.Limits.{most_link_bytes}
use Rattle.tg_text.specs.Reading.{Gives, IsExact}
use Rattle.team_sets.specs.Names.{Name}
use Rattle.team_model.specs.declared.terms.Link.{Link}
use Rattle.link_text.specs.Faults.{IsBadText, IsOfOther, IsUnverified}
use Rattle.link_text.specs.LinkText.{IsValid}
use Rattle.link_text.specs.declared.fault.TeamLinkFault.{TeamLinkFault}
use Rattle.link_text.specs.declared.fault.TeamLinkFault.TheVariants.{TooLong, BadText, OtherTeam, BadSignature, Memory}

-- The link of the team is found exactly where the bytes are one, and each fault comes exactly where its cause holds, unless
-- memory is short.
pub record FindsOfTeam (team : Name) (bytes : List ℕ) (result : Result Link TeamLinkFault) : Type 0 where
  pub found : IfOk result (λ l. IsValid team bytes l)
  pub only : (l : Link) → IsValid team bytes l → Gives Memory l result
  pub too_long : (result ≡ Err TooLong) ↔ (most_link_bytes < length bytes)
  pub bad_text : IsExact Memory BadText (IsBadText bytes) result
  pub other_team : IsExact Memory OtherTeam (IsOfOther team bytes) result
  pub bad_signature : IsExact Memory BadSignature (IsUnverified team bytes) result
