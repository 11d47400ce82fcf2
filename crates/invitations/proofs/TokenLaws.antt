-- A token and what its text is read into.
use Rattle.std.proofs.Common.{◌≡◌, ℕ, List, [], ◌∷◌, ◌++◌, codes, refl, append_assoc}
use Rattle.tg_text.specs.Spelling.{line_of}
use Rattle.invitations.specs.declared.token.Token.{Token}
use Rattle.invitations.specs.FileLines.{team_line, kind_line, user_field, user_line, key_line, leaf_line, random_line, hash_lines}
use Rattle.invitations.specs.Parts.{TokenParts, AreOfToken, made_token, of_token_text, token_parts}
use Rattle.invitations.specs.TokenText.{IsToken, HasFields, token_text}
use Rattle.invitations.proofs.PartLaws.{IsMadeOf}

same_text : (a b c d e f g h i : List ℕ) → a ++ ((b ++ (c ++ d)) ++ ((e ++ (f ++ g)) ++ (h ++ i))) ≡ a ++ b ++ c ++ d ++ e ++ f ++ g ++ h ++ i
same_text a b c d e f g h i = simp append_assoc

text_parts : (t : Token) → of_token_text (token_parts t) ≡ token_text t
text_parts t =
    same_text (line_of (codes "team-token" ∷ codes "1" ∷ [])) (team_line t.team) (kind_line t.kind) (user_line (user_field t.user)) (key_line t.public) (leaf_line t.leaf)
    (random_line t.random) (hash_lines (codes "x") t.secrets) (hash_lines (codes "path") t.path)

pub token_made : IsMadeOf AreOfToken of_token_text IsToken token_text made_token token_parts
token_made = record {
  again = λ t. refl;
  range = λ t is. (
    (is.fields.team, (tt, is.fields.user)),
    ((is.fields.public, (is.fields.leaf, is.fields.random)), (is.fields.secrets, is.fields.path)),
  );
  text = text_parts;
  made_text = λ p. text_parts (made_token p);
}

pub fields_of : (p : TokenParts) → AreOfToken p → HasFields (made_token p)
fields_of p are = record {
  team = are.0.0;
  user = are.0.1.1;
  public = are.1.0.0;
  leaf = are.1.0.1.0;
  random = are.1.0.1.1;
  secrets = are.1.1.0;
  path = are.1.1.1;
}
