use Rattle.std.proofs.Common.{◌≡◌, ◌∙◌, sym}
use Rattle.outcomes.specs.Refusing.{FindsNone}
use Rattle.outcomes.proofs.Opened.{none_found_once, opening_is_one}
use Rattle.key_commands.specs.Newkey.{drawn_key, making}
use Rattle.key_commands.proofs.laws.newkey_is_one.Goals as goal

pub returns : goal.returns
returns c = λ public_of key_file user.
    opening_is_one FindsNone key_file (λ none w o. o ≡ making public_of key_file (drawn_key user w)) none_found_once (λ f none found w o p h k. h ∙ sym k)
