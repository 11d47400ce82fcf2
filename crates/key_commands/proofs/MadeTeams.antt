-- The file that `make` writes is a team file: its root is a link, and verifies.
use Rattle.std.proofs.Common.{◌≡◌, ◌<◌, ◌≤◌, ◌+◌, ◌^◌, IsTrue, ℕ, List, [], ◌∷◌, Option, None, Some, length, refl, true, arith}
use Rattle.std.proofs.lemmas.Bool.{and_from}
use Rattle.std.specs.List.{IsDistinct}
use Rattle.std.specs.Option.{option_map_or}
use Rattle.sha2.specs.Sha256.{sha256}
use Rattle.tg_text.specs.Spelling.{AreBytes, IsHash, IsPublicKey, IsTitle, is_user_name, line_of}
use Rattle.acts.specs.declared.entry.Act.TheVariants.{Found}
use Rattle.team_sets.specs.OrderLaws.{IsSet}
use Rattle.team_model.specs.Judging.{name_of}
use Rattle.team_model.specs.declared.terms.Link.{Link}
use Rattle.lms_ots.specs.declared.kind.OtsKind.{OtsKind}
use Rattle.lms_ots.specs.declared.kind.OtsKind.TheVariants.{W1, W2, W4, W8}
use Rattle.lms_ots.specs.Kinds.{ots_row}
use Rattle.lms_tree.specs.declared.lms_kind.LmsKind.{LmsKind}
use Rattle.lms_tree.specs.declared.lms_kind.LmsKind.TheVariants.{H5, H10, H15, H20, H25}
use Rattle.lms_tree.specs.declared.tree_key.TreeKey.{TreeKey}
use Rattle.lms_tree.specs.LmsKinds.{leaves_of, lms_kind, lms_length, lms_row}
use Rattle.lms_tree.specs.Signatures.{public_key, signature_of}
use Rattle.lms_tree.specs.Verifying.{verifies}
use Rattle.lms_tree.proofs.Verified.{key_parts, signature_parts, signed_verifies}
use Rattle.lms_keep.specs.KeyText.{IsKeyState, leaves}
use Rattle.lms_keep.specs.Signing.{tree_key}
use Rattle.lms_keep.specs.declared.key_state.KeyState.{KeyState}
use Rattle.link_text.proofs.Fields.{no_key_lines}
use Rattle.link_text.specs.LinkText.{IsValid, IsWellFormed, Reads, act_line, body, first_line, has_proof, key_line, proves, sign_line, team_line, text, time_line, user_line}
use Rattle.link_text.specs.Drafts.{draft_body}
use Rattle.link_text.specs.TeamFile.{IsHeld}
use Rattle.link_text.specs.declared.draft.Draft.{Draft}
use Rattle.key_commands.specs.Make.{founding, signature_by, signed_link, signed_text}
use Rattle.key_commands.specs.MakeLaws.{IsTeamOfRoot}
use Rattle.lockboxes.specs.Digests.{hash_of}
use Rattle.key_commands.proofs.MadeBytes.{bytes_signature, public_is}
use Rattle.key_commands.proofs.MadeTexts.{act_short, key_short, one_short, sign_short, ten_parts, time_short, user_short}

-- the root that a user with a key founds
abbrev root_of : List ℕ → List ℕ → List ℕ → List ℕ → ℕ → List ℕ → List ℕ → Link
root_of user key seal title time signature name = record {
  team = None;
  prev = [];
  key = key;
  signature = signature;
  name = name;
  entry = record {
    user = user;
    device = sha256 key;
    time = time;
    act = Found seal title;
    lines = record { news = []; boxes = [] };
  };
}

module _ (user key seal title : List ℕ) (time : ℕ) (signature name : List ℕ) (named : IsTrue (is_user_name user)) (keyed : IsPublicKey key) (whole : length key ≡ 56)
    (sealed : IsHash seal) (titled : IsTitle title) (fits : time < 2 ^ 64) (few : length signature ≤ 9324) where
  abbrev founded : Link
  founded = root_of user key seal title time signature name

  founded_size : length (text founded) ≡ 19 + length (user_line user) + length (key_line key) + length (time_line time) + length (act_line (Found seal title)) + length (sign_line signature)
  founded_size =
      let all : length (text founded) ≡ 12 + 7 + 0 + length (user_line user) + length (key_line key) + length (time_line time) + length (act_line (Found seal title)) + 0 + 0 + length (sign_line signature)
      = ten_parts (line_of first_line) (team_line None) [] (user_line user) (key_line key) (time_line time) (act_line (Found seal title)) [] [] (sign_line signature) in
      omega (arith, all)

  pub founded_short : length (text founded) ≤ 20000
  founded_short =
      omega (arith, founded_size, user_short user named, key_short key whole, time_short time fits, act_short seal title sealed titled, sign_short signature few)

  pub founded_well : AreBytes signature → IsWellFormed founded
  founded_well bytes = record {
    fields = record {
      team = tt;
      parents = tt;
      user = named;
      key = keyed;
      device = refl;
      time = fits;
      act = (sealed, titled);
      key_lines = no_key_lines;
      signature_bytes = bytes;
    };
    rules = record {
      few_parents = omega arith;
      parents_ascend = tt;
      root_without_parents = (λ e. refl, λ e. refl);
      root_founds = (λ e. tt, λ e. refl);
    };
    fits = omega (arith, founded_short);
  }

-- how long a signature is at most
pub few_nodes : (lms : LmsKind) → (lms_row lms).h ≤ 25
few_nodes H5 = omega arith
few_nodes H10 = omega arith
few_nodes H15 = omega arith
few_nodes H20 = omega arith
few_nodes H25 = omega arith

pub few_chains : (ots : OtsKind) → (ots_row ots).p ≤ 265
few_chains W1 = omega arith
few_chains W2 = omega arith
few_chains W4 = omega arith
few_chains W8 = omega arith

pub signature_short : (key : TreeKey) (q : ℕ) (message : List ℕ) → q < leaves_of key.lms → length (signature_of key q message) ≤ 9324
signature_short key q message low =
    let size : length (signature_of key q message) ≡ lms_length key.lms key.ots = (signature_parts key q message low).size in
    omega (arith, size, few_nodes key.lms, few_chains key.ots)

-- a leaf that is left is one of the tree
pub leaf_in_tree : (o : Option LmsKind) (n : ℕ) → n < option_map_or leaves_of o 0 → n < leaves_of (option_map_or (λ kind. kind) o H5)
leaf_in_tree None n low = absurd (omega (arith, low))
leaf_in_tree (Some kind) n low = low

one_set : (l : Link) → IsSet name_of (l ∷ [])
unfolding IsDistinct
one_set l = (tt, tt)

module _ (public_of : List ℕ → List ℕ) (s : KeyState) (title : List ℕ) (time : ℕ) (is : IsKeyState s) (low : s.next < leaves s.lms) (titled : IsTitle title) (fits : time < 2 ^ 64)
    (sealed : IsHash (public_of s.secret)) where
  abbrev draft : Draft
  draft = founding public_of s title time

  abbrev made : Link
  made = signed_link s draft

  in_tree : s.next < leaves_of (tree_key s).lms
  in_tree = leaf_in_tree (lms_kind s.lms) s.next low

  whole : length (public_key (tree_key s)) ≡ 56
  whole = (key_parts (tree_key s) is.id.size).size

  few : length (signature_by s draft) ≤ 9324
  few = signature_short (tree_key s) s.next (draft_body draft) in_tree

  keyed : IsPublicKey (public_key (tree_key s))
  keyed = public_is (tree_key s) is.id

  made_short : length (text made) ≤ 20000
  made_short =
      founded_short s.user (public_key (tree_key s)) (public_of s.secret) title time (signature_by s draft) (sha256 (signed_text s draft)) is.user keyed whole sealed titled fits few

  made_well : IsWellFormed made
  made_well =
      founded_well s.user (public_key (tree_key s)) (public_of s.secret) title time (signature_by s draft) (sha256 (signed_text s draft)) is.user keyed whole sealed titled fits few
      (bytes_signature (tree_key s) s.next (draft_body draft))

  made_proves : proves made ≡ true
  made_proves = and_from (verifies made.key (body made) made.signature) (has_proof made) (signed_verifies (tree_key s) s.next (draft_body draft) is.id.size in_tree) refl

  made_reads : Reads (text made) made
  made_reads = record { is_text = refl; well_formed = made_well; name = refl }

  made_valid : IsValid made.name (text made) made
  made_valid = record { reads = made_reads; of_team = refl; proved = made_proves }

  made_name : IsHash made.name
  made_name = hash_of (signed_text s draft)

  alone_held : IsHeld made.name (made ∷ [])
  alone_held = record {
    team = made_name;
    valid = (made_valid, tt);
    set = one_set made;
    few = omega arith;
    short = one_short made.name made made_name made_short;
  }

  pub made_held : IsTeamOfRoot made
  made_held = record { held = alone_held; is_text = refl }
