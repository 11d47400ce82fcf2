-- Words that are no command, by how many they are.
use Rattle.std.proofs.Common.{◌≡◌, ◌<◌, ◌-◌, ℕ, List, [], ◌∷◌, length, map, take, None, refl, sym, ap, ◌∙◌, arith}
use Rattle.std.specs.List.{list_all}
use Rattle.std.proofs.lemmas.List.{length-map, take-map}
use Rattle.team_words.specs.Acts.{are_whole, lacks_space}
use Rattle.team_words.specs.Words.{IsCommandOf, make_with}
use Rattle.team_words.proofs.GivenActs.{whole_front}
use Rattle.team_words.proofs.OneCommand.{asks_none}

module _ {X : Type 0} (spell : X → List ℕ) where
  pub none_of_few : (words : List X) → length words < 2 → IsCommandOf (map spell words) None
  none_of_few [] few = asks_none [] None refl refl
  none_of_few (a ∷ []) few = asks_none (spell a ∷ []) None refl refl
  none_of_few (a ∷ b ∷ rest) few = absurd (omega (arith, few))

  pub no_make_of_few : (file key_file : List ℕ) (words : List X) → length words < 2 → None ≡ make_with file key_file (map spell words)
  no_make_of_few file key_file [] few = refl
  no_make_of_few file key_file (a ∷ []) few = refl
  no_make_of_few file key_file (a ∷ b ∷ rest) few = absurd (omega (arith, few))

  pub no_make_of_many : (file key_file : List ℕ) (words : List X) → 2 < length words → None ≡ make_with file key_file (map spell words)
  no_make_of_many file key_file [] many = refl
  no_make_of_many file key_file (a ∷ []) many = refl
  no_make_of_many file key_file (a ∷ b ∷ []) many = absurd (omega (arith, many))
  no_make_of_many file key_file (a ∷ b ∷ c ∷ rest) many = refl

  pub front_whole : (words : List X) → list_all lacks_space (map spell (take (length words - 1) words)) ≡ are_whole (map spell words)
  front_whole words =
      let count : length words ≡ length (map spell words) = sym (length-map words spell) in
      ap (list_all lacks_space) (sym (take-map spell (length words - 1) words) ∙ ap (λ n. take (n - 1) (map spell words)) count) ∙ whole_front (map spell words)
