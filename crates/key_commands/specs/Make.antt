-- What `make FILE KEYFILE USER TITLE` does.
use Rattle.std.specs.Prelude.{◌≡◌, ℕ, List, [], ◌∷◌, ◌++◌, None, codes}
use Rattle.sha2.specs.Sha256.{sha256}
use Rattle.tg_text.specs.Spelling.{line_of, spell_hex}
use Rattle.acts.specs.declared.entry.Act.TheVariants.{Found}
use Rattle.team_model.specs.declared.terms.Link.{Link}
use Rattle.lms_tree.specs.Signatures.{public_key, signature_of}
use Rattle.lms_keep.specs.KeyText.{key_text}
use Rattle.lms_keep.specs.Signing.{advanced, tree_key}
use Rattle.lms_keep.specs.declared.key_state.KeyState.{KeyState}
use Rattle.link_text.specs.LinkText.{sign_line}
use Rattle.link_text.specs.Drafts.{draft_body, link_of}
use Rattle.link_text.specs.TeamFile.{file_text, frame, header}
use Rattle.link_text.specs.declared.draft.Draft.{Draft}
use Rattle.outcomes.specs.Refusing.{FindsNone, opening}
use Rattle.outcomes.specs.Steps.{World, Outcome, acting, put}
use Rattle.outcomes.specs.declared.put.Put.{Put}
use Rattle.team_words.specs.declared.command.Command.{Command}
use Rattle.team_words.specs.declared.command.Command.TheVariants.{Make}
use Rattle.key_commands.specs.Newkey.{drawn_key}

-- The root of a team before it is signed: a key's owner founds the team, at a time. `public_of` gives the public key of a sealing secret.
abbrev pub founding : (List ℕ → List ℕ) → KeyState → List ℕ → ℕ → Draft
founding public_of s title time = record {
  team = None;
  prev = [];
  key = public_key (tree_key s);
  entry = record {
    user = s.user;
    device = sha256 (public_key (tree_key s));
    time = time;
    act = Found (public_of s.secret) title;
    lines = record { news = []; boxes = [] };
  };
}

-- the signature of a draft by the leaf that is next
abbrev pub signature_by : KeyState → Draft → List ℕ
signature_by s draft = signature_of (tree_key s) s.next (draft_body draft)

abbrev pub signed_text : KeyState → Draft → List ℕ
signed_text s draft = draft_body draft ++ sign_line (signature_by s draft)

abbrev pub signed_link : KeyState → Draft → Link
signed_link s draft = link_of draft (signature_by s draft) (sha256 (signed_text s draft))

-- the key file with `next 0`, then with `next 1`, then the team file of the root alone
abbrev pub founding_puts : List ℕ → List ℕ → KeyState → Link → List Put
founding_puts file key_file s root =
    put key_file (key_text s) ∷ put key_file (key_text (advanced s)) ∷ put file (file_text root.name (root ∷ [])) ∷ []

-- the team's name is printed
abbrev pub make_text : Link → List ℕ
make_text root = line_of (codes "team" ∷ spell_hex root.name ∷ [])

-- three words are drawn for the key
abbrev pub founding_steps : List ℕ → List ℕ → KeyState → Link → Outcome
founding_steps file key_file s root = acting 0 3 (founding_puts file key_file s root) (make_text root)

abbrev pub making_team : (List ℕ → List ℕ) → List ℕ → List ℕ → List ℕ → ℕ → KeyState → Outcome
making_team public_of file key_file title time s = founding_steps file key_file s (signed_link s (founding public_of s title time))

-- both files must be absent, the team file is asked first
abbrev pub makes : (List ℕ → List ℕ) → List ℕ → List ℕ → List ℕ → List ℕ → World → Outcome → Type 0
makes public_of file key_file user title =
    opening FindsNone file (λ none. opening FindsNone key_file (λ none w o. o ≡ making_team public_of file key_file title w.moment (drawn_key user w)))

abbrev pub does_make : (List ℕ → List ℕ) → Command → World → Outcome → Type 0
does_make public_of (Make file key_file user title) w o = makes public_of file key_file user title w o
does_make public_of _ w o = ⊥

-- the same by texts: the text of a link with this body, signed by the leaf that is next; the file of that link alone; and what is printed
abbrev pub signed_body : KeyState → List ℕ → List ℕ
signed_body s body = body ++ sign_line (signature_of (tree_key s) s.next body)

abbrev pub file_of_one : List ℕ → List ℕ
file_of_one text = header (sha256 text) ++ frame text

abbrev pub team_told : List ℕ → List ℕ
team_told text = line_of (codes "team" ∷ spell_hex (sha256 text) ∷ [])

abbrev pub signing_puts : List ℕ → List ℕ → KeyState → List ℕ → List Put
signing_puts file key_file s text = put key_file (key_text (advanced s)) ∷ put file (file_of_one text) ∷ []

abbrev pub root_puts : List ℕ → List ℕ → KeyState → List ℕ → List Put
root_puts file key_file s body = put key_file (key_text s) ∷ signing_puts file key_file s (signed_body s body)
