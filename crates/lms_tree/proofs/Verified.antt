-- What a tree signs verifies under its public key.
use Rattle.std.proofs.Common.{◌≡◌, ℕ, ◌+◌, ◌/◌, ◌^◌, ◌<◌, List, [], ◌++◌, length, take, drop, true, refl, ap, ◌∙◌, arith, append_assoc, length-append}
use Rattle.std.proofs.lemmas.List.{take_at, drop_at}
use Rattle.std.proofs.lemmas.Nat.{pow_pos}
use Rattle.std.proofs.Math.Nat.{add-div_left, div-eq_of_lt}
use Rattle.lms_ots.specs.Kinds.{ots_row}
use Rattle.lms_ots.specs.Digits.{u32str}
use Rattle.lms_ots.specs.Chains.{ots_secrets, randomizer}
use Rattle.lms_ots.specs.Ots.{ots_public, candidate, is_ots}
use Rattle.tg_text.specs.Spelling.{number_at}
use Rattle.lms_ots.proofs.Buffers.{length-u32str}
use Rattle.lms_ots.proofs.Signed.{form_of_signature, key_of_signature, secrets_sized, length-secrets_from, length-randomizer, number_at-u32str}
use Rattle.lms_tree.specs.declared.tree_key.TreeKey.{TreeKey}
use Rattle.lms_tree.specs.LmsKinds.{lms_row, leaves_of}
use Rattle.lms_tree.specs.Laws.{IsPath, KeyHasItsParts, PathLeadsToTheRoot}
use Rattle.lms_tree.specs.Nodes.{root, path_of}
use Rattle.lms_tree.specs.Signatures.{public_key, leaf_signature, signature_of}
use Rattle.lms_tree.specs.Verifying.{id_in, root_in, root_over, verifies}
use Rattle.lms_tree.proofs.Climbs.{climb_path, length-node, length-path, path_sized}
use Rattle.lms_tree.proofs.Filled.{leaf_is}
use Rattle.lms_tree.proofs.Joined.{HasParts, joined_parts, joined_verifies, lms_number, ots_number}

-- the parts of a public key
pub record IsKey (key : TreeKey) (bytes : List ℕ) : Type 0 where
  pub size : length bytes ≡ 56
  pub lms : number_at 0 bytes ≡ (lms_row key.lms).number
  pub ots : number_at 4 bytes ≡ (ots_row key.ots).number
  pub id : take 16 (drop 8 bytes) ≡ key.id
  pub root_is : drop 24 bytes ≡ root key

pub key_parts : (key : TreeKey) → length key.id ≡ 16 → IsKey key (public_key key)
unfolding public_key
key_parts key size =
    let a = u32str (lms_row key.lms).number in
    let b = u32str (ots_row key.ots).number in
    let t = root key in
    let four : length a ≡ 4 = length-u32str _ in
    let four' : length b ≡ 4 = length-u32str _ in
    let last : length t ≡ 32 = length-node key (lms_row key.lms).h 1 in
    let two : length (a ++ b) ≡ 8 = rw (length-append, four, four') refl in
    let three : length ((a ++ b) ++ key.id) ≡ 24 = rw (length-append, two, size) refl in
    let whole : ((a ++ b) ++ key.id) ++ t ≡ a ++ (b ++ (key.id ++ t)) = rw (append_assoc, append_assoc) refl in
    let id_at : ((a ++ b) ++ key.id) ++ t ≡ (a ++ b) ++ (key.id ++ t) = append_assoc (a ++ b) key.id t in
    record {
      size = rw (length-append, three, last) refl;
      lms = rw whole (number_at-u32str [] (b ++ (key.id ++ t)) 0 (lms_row key.lms).number refl (lms_number key.lms).1);
      ots = rw whole (number_at-u32str a (key.id ++ t) 4 (ots_row key.ots).number four (ots_number key.ots).1);
      id = rw (id_at, drop_at (a ++ b) (key.id ++ t) 8 two) (take_at key.id t 16 size);
      root_is = drop_at ((a ++ b) ++ key.id) t 24 three;
    }

pub key_has_its_parts : KeyHasItsParts
key_has_its_parts key size =
    let parts = key_parts key size in
    (record { size = parts.size; lms_is = parts.lms; ots_is = parts.ots }, parts.id, parts.root_is)

leaf_form : (key : TreeKey) (q : ℕ) (message : List ℕ) → is_ots key.ots (leaf_signature key q message) ≡ true
unfolding leaf_signature
leaf_form key q message =
    form_of_signature key.ots key.id q (ots_secrets key.ots key.id q key.seed) (randomizer key.id q key.seed) message (length-secrets_from key.id q key.seed 0 (ots_row key.ots).p)
    (length-randomizer key.id q key.seed) (secrets_sized key.id q key.seed 0 (ots_row key.ots).p) (ots_number key.ots).1

candidate_is : (key : TreeKey) (q : ℕ) (message : List ℕ) → candidate key.ots key.id q message (leaf_signature key q message) ≡ ots_public key.ots key.id q key.seed
unfolding leaf_signature
candidate_is key q message =
    key_of_signature key.ots key.id q (ots_secrets key.ots key.id q key.seed) (randomizer key.id q key.seed) message (length-secrets_from key.id q key.seed 0 (ots_row key.ots).p)
    (length-randomizer key.id q key.seed) (secrets_sized key.id q key.seed 0 (ots_row key.ots).p)

pub path_is : (key : TreeKey) (q : ℕ) → IsPath key.lms (path_of key q)
unfolding path_of
path_is key q = record {
  many = length-path key 0 (lms_row key.lms).h (leaves_of key.lms + q);
  sized = path_sized key 0 (lms_row key.lms).h (leaves_of key.lms + q);
}

path_leads : (key : TreeKey) (q : ℕ) → q < leaves_of key.lms → root_over key.lms key.id q (ots_public key.ots key.id q key.seed) (path_of key q) ≡ root key
unfolding path_of
path_leads key q low =
    let h = (lms_row key.lms).h in
    let r = leaves_of key.lms + q in
    let top : r / 2 ^ h ≡ 1 = add-div_left q (pow_pos h) ∙ ap (λ n. n + 1) (div-eq_of_lt low) in
    let none : 0 + h ≡ h = omega arith in
    rw (leaf_is key q) (climb_path key h 0 r ∙ rw (top, none) refl)

pub path_leads_to_the_root : PathLeadsToTheRoot
path_leads_to_the_root key q low = (path_is key q, path_leads key q low)

pub signature_parts : (key : TreeKey) (q : ℕ) (message : List ℕ) → q < leaves_of key.lms → HasParts key.lms key.ots q (leaf_signature key q message) (path_of key q) (signature_of key q message)
unfolding signature_of
signature_parts key q message low = joined_parts key.lms key.ots q (leaf_signature key q message) (path_of key q) low (leaf_form key q message) (path_is key q)

pub signed_verifies : (key : TreeKey) (q : ℕ) (message : List ℕ) → length key.id ≡ 16 → q < leaves_of key.lms → verifies (public_key key) message (signature_of key q message) ≡ true
unfolding signature_of
signed_verifies key q message size low =
    let k = public_key key in
    let parts = key_has_its_parts key size in
    let o = leaf_signature key q message in
    let leads : root_over key.lms (id_in k) q (candidate key.ots (id_in k) q message o) (path_of key q) ≡ root_in k = rw (parts.1, parts.2, candidate_is key q message) (path_leads key q low) in
    (joined_verifies key.lms key.ots k message o q (path_of key q) parts.0 low (leaf_form key q message) (path_is key q)).1 leads
