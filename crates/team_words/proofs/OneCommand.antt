-- Words are one command at most.
use Rattle.std.proofs.Common.{◌≡◌, ◌∙◌, ℕ, Bool, true, false, ◌<◌, List, [], ◌∷◌, drop, get_or, length, map, take, Option, Some, None, arith, refl, sym, ap, subst}
use Rattle.std.proofs.lemmas.Bool.{false≢true}
use Rattle.acts.specs.declared.entry.Act.{Act}
use Rattle.team_words.specs.Acts.{IsActOf}
use Rattle.team_words.specs.Words.{IsCommandOf, IsKeyedBy, WordsAreOneCommand, asks_act, command_with}
use Rattle.team_words.specs.declared.command.Command.{Command}

-- words are one act at most
pub one_act : (words : List (List ℕ)) (act other : Option Act) → IsActOf words act → IsActOf words other → act ≡ other
one_act words (Some a) other is more = sym (more.only a is.found)
one_act words None (Some b) is more = is.only b more.found
one_act words None None is more = refl

-- where no act is asked for, the command is the same for every act
pub asked_none : (words : List (List ℕ)) (act other : Option Act) → asks_act words ≡ false → command_with act words ≡ command_with other words
asked_none [] act other none = refl
asked_none (a ∷ []) act other none = refl
asked_none (a ∷ b ∷ []) act other none = refl
asked_none (a ∷ b ∷ c ∷ []) act other none = refl
asked_none (a ∷ b ∷ c ∷ d ∷ more) act other none = rw none refl

pub one_command : WordsAreOneCommand
one_command words command other is more = is.command_is ∙ go (asks_act words) refl ∙ sym more.command_is
  where
    go : (b : Bool) → asks_act words ≡ b → command_with is.act words ≡ command_with more.act words
    go true asked = ap (λ (a : Option Act). command_with a words) (one_act (drop 3 words) is.act more.act (is.act_is asked) (more.act_is asked))
    go false none = asked_none words is.act more.act none

-- words that ask for no act
pub asks_none : (words : List (List ℕ)) (command : Option Command) → asks_act words ≡ false → command ≡ command_with None words → IsCommandOf words command
asks_none words command none is = record { act = None; act_is = λ asked. absurd (false≢true (sym none ∙ asked)); command_is = is }

-- over three words, cut behind the third, are a command with a file, a key file, and further words
module _ {X : Type 0} (spell : X → List ℕ) where
  keyed_words : (words front rest : List X) (x y z : X) (found : Option Command) → 3 < length words → front ≡ take 3 words → rest ≡ drop 3 words → x ≡ get_or front 0 x → y ≡ get_or front 1 y
      → z ≡ get_or front 2 z → IsKeyedBy (spell x) (spell y) (spell z) (map spell rest) found → IsCommandOf (map spell words) found
  keyed_words [] front rest x y z found many f r a b c is = absurd (omega (arith, many))
  keyed_words (p ∷ []) front rest x y z found many f r a b c is = absurd (omega (arith, many))
  keyed_words (p ∷ q ∷ []) front rest x y z found many f r a b c is = absurd (omega (arith, many))
  keyed_words (p ∷ q ∷ t ∷ []) front rest x y z found many f r a b c is = absurd (omega (arith, many))
  keyed_words (p ∷ q ∷ t ∷ v ∷ more) front rest x y z found many f r a b c is =
      let first : x ≡ p = subst (λ (l : List X). x ≡ get_or l 0 x) f a in
      let second : y ≡ q = subst (λ (l : List X). y ≡ get_or l 1 y) f b in
      let third : z ≡ t = subst (λ (l : List X). z ≡ get_or l 2 z) f c in
      let last : rest ≡ v ∷ more = r in
      let keyed : IsKeyedBy (spell p) (spell q) (spell t) (map spell (v ∷ more)) found =
      subst (λ (w : X). IsKeyedBy (spell w) (spell q) (spell t) (map spell (v ∷ more)) found) first
      (subst (λ (w : X). IsKeyedBy (spell x) (spell w) (spell t) (map spell (v ∷ more)) found) second
      (subst (λ (w : X). IsKeyedBy (spell x) (spell y) (spell w) (map spell (v ∷ more)) found) third
      (subst (λ (l : List X). IsKeyedBy (spell x) (spell y) (spell z) (map spell l) found) last is))) in
      record { act = keyed.act; act_is = keyed.act_is; command_is = keyed.command_is }

  pub keyed_command : (words front rest : List X) (x y z : X) (word file key_file : List ℕ) (found : Option Command) → 3 < length words → front ≡ take 3 words → rest ≡ drop 3 words
      → x ≡ get_or front 0 x → y ≡ get_or front 1 y → z ≡ get_or front 2 z → word ≡ spell x → file ≡ spell y → key_file ≡ spell z → IsKeyedBy word file key_file (map spell rest) found
      → IsCommandOf (map spell words) found
  keyed_command words front rest x y z word file key_file found many f r a b c d e g is =
      keyed_words words front rest x y z found many f r a b c
      (subst (λ (w : List ℕ). IsKeyedBy w (spell y) (spell z) (map spell rest) found) d
      (subst (λ (w : List ℕ). IsKeyedBy word w (spell z) (map spell rest) found) e (subst (λ (w : List ℕ). IsKeyedBy word file w (map spell rest) found) g is)))
