-- A user's name, or a hyphen for none.
use Rattle.std.proofs.Common.{◌≡◌, List, ℕ, Option, None, Some, false, refl}
use Rattle.tg_text.specs.Spelling.{has_newline}
use Rattle.tg_text.proofs.FieldLaws.{name_lacks}
use Rattle.invitations.specs.FileLines.{user_field}
use Rattle.invitations.specs.Parts.{IsUserIfAny}

pub user_lacks : (user : Option (List ℕ)) → IsUserIfAny user → has_newline (user_field user) ≡ false
user_lacks None is = refl
user_lacks (Some user) is = name_lacks 10 user refl is
