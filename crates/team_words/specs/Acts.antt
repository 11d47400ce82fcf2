-- Which acts words may give, and the act that they are.
use Rattle.std.specs.Prelude.{◌≡◌, ℕ, List, [], ◌∷◌, length, Bool, true, false, not, ◌&&◌, ◌==◌, Option, Some, IfSome, IsTrue}
use Rattle.tg_text.specs.Spelling.{has_space}
use Rattle.acts.specs.ActText.{IsActInRange, act_words}
use Rattle.acts.specs.declared.entry.Act.{Act}
use Rattle.acts.specs.declared.entry.Act.TheVariants.{AddMember, RemoveMember, AddRole, RemoveRole, GiveRole, TakeRole, AddDevice, RemoveDevice, Revoke, Rotate, Seal, Title, Join}

-- Whether an act may be given by words. A team is founded by a command of its own, and invitations are opened and used by theirs.
abbrev pub is_given : Act → Bool
is_given (AddMember user key seal) = true
is_given (RemoveMember user) = true
is_given (AddRole role) = true
is_given (RemoveRole role) = true
is_given (GiveRole user role) = true
is_given (TakeRole user role) = true
is_given (AddDevice key seal) = true
is_given (RemoveDevice user id) = true
is_given (Revoke kind id) = true
is_given (Rotate scope) = true
is_given Seal = true
is_given (Title title) = true
is_given Join = true
is_given _ = false

-- the act's fields are in their ranges, and it may be given
pub record MayGive (act : Act) : Type 0 where
  pub range : IsActInRange act
  pub given : IsTrue (is_given act)

-- the words are those of the act's text, each field one word
pub record GivesAct (given : List (List ℕ)) (act : Act) : Type 0 where
  pub may : MayGive act
  pub words : given ≡ act_words act

-- the act that words are, and nothing where they are none
pub record IsActOf (words : List (List ℕ)) (act : Option Act) : Type 0 where
  pub found : IfSome act (λ a. GivesAct words a)
  pub only : (a : Act) → GivesAct words a → act ≡ Some a

abbrev pub lacks_space : List ℕ → Bool
lacks_space word = not (has_space word)

-- no space stands in a word but the last
abbrev pub are_whole : List (List ℕ) → Bool
are_whole [] = true
are_whole (w ∷ []) = true
are_whole (w ∷ v ∷ ws) = lacks_space w && are_whole (v ∷ ws)

-- what is asked of an act whose text the words spell: that it may be given, has as many words, and that none but its last has a space
abbrev pub fits : Act → List (List ℕ) → Bool
fits act words = is_given act && (length words == length (act_words act)) && are_whole words

-- a word with a space before it
abbrev pub word_after : List ℕ → List ℕ
word_after word = 32 ∷ word
