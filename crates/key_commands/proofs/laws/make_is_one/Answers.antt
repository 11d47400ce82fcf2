use Rattle.std.proofs.Common.{◌≡◌, ◌∙◌, sym}
use Rattle.outcomes.specs.Refusing.{FindsNone, opening}
use Rattle.outcomes.proofs.Opened.{none_found_once, opening_is_one}
use Rattle.key_commands.specs.Make.{making_team}
use Rattle.key_commands.specs.Newkey.{drawn_key}
use Rattle.key_commands.proofs.laws.make_is_one.Goals as goal

pub returns : goal.returns
returns c = λ public_of file key_file user title.
    opening_is_one FindsNone file (λ none. opening FindsNone key_file (λ none w o. o ≡ making_team public_of file key_file title w.moment (drawn_key user w))) none_found_once
    (λ f none found. opening_is_one FindsNone key_file (λ none w o. o ≡ making_team public_of file key_file title w.moment (drawn_key user w)) none_found_once (λ f2 none2 found2 w o p h k. h ∙ sym k))
