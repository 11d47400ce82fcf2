-- A token's leaf: that a made token is one, and that what a token signs verifies.
use Rattle.std.proofs.Common.{◌≡◌, ℕ, zero, suc, ◌+◌, ◌/◌, ◌<◌, List, [], ◌∷◌, ◌++◌, length, IsTrue, refl, sym, ap, ◌∙◌, subst, arith}
use Rattle.std.specs.List.{AllByRecursion, concat}
use Rattle.sha2.specs.Sha256.{sha256}
use Rattle.tg_text.specs.Spelling.{AreBytes, IsHash, IsPublicKey, is_user_name}
use Rattle.tg_text.proofs.Lists.{bytes_append, bytes_none}
use Rattle.acts.specs.ProofText.{proof_body}
use Rattle.lms_ots.specs.declared.kind.OtsKind.{OtsKind}
use Rattle.lms_ots.specs.declared.kind.OtsKind.TheVariants.{W4}
use Rattle.lms_ots.specs.Chains.{chain, ots_secrets, secret, secrets_from}
use Rattle.lms_ots.specs.Digits.{coef, message_digits, u16str, u32str}
use Rattle.lms_ots.specs.Kinds.{ots_row}
use Rattle.lms_ots.specs.Ots.{candidate, is_ots, ots_key, ots_signature, starts}
use Rattle.lms_ots.proofs.Signed.{form_of_signature, key_of_signature, length-secrets_from}
use Rattle.lms_tree.specs.declared.lms_kind.LmsKind.{LmsKind}
use Rattle.lms_tree.specs.declared.lms_kind.LmsKind.TheVariants.{H5}
use Rattle.lms_tree.specs.declared.tree_key.TreeKey.{TreeKey}
use Rattle.lms_tree.specs.Laws.{IsKeyOf, IsPath}
use Rattle.lms_tree.specs.LmsKinds.{lms_row, leaves_of}
use Rattle.lms_tree.specs.Nodes.{node, root, sibling, path_from, path_of}
use Rattle.lms_tree.specs.Signatures.{joined, public_key}
use Rattle.lms_tree.specs.Verifying.{id_in, root_in, root_over, verifies}
use Rattle.lms_tree.proofs.Joined.{joined_verifies}
use Rattle.lms_tree.proofs.Verified.{key_has_its_parts, path_is, path_leads_to_the_root}
use Rattle.invitations.specs.declared.token.Token.{Token}
use Rattle.invitations.specs.Making.{IsInviteKey, MadeTokensAreTokens}
use Rattle.invitations.specs.ProofFile.{IsProof}
use Rattle.invitations.specs.TokenText.{AreHashes, IsInvitation, IsToken, signature_by}
use Rattle.invitations.proofs.Digests.{bytes_u32str, bytes_sha256, hash_of}

sized : (xs : List (List ℕ)) → AllByRecursion IsHash xs → AllByRecursion (λ (x : List ℕ). length x ≡ 32) xs
sized [] all = tt
sized (x ∷ xs) all = (all.0.size, sized xs all.1)

pub path_of_token : (path : List (List ℕ)) → AreHashes (lms_row H5).h path → IsPath H5 path
path_of_token path are = record { many = are.count; sized = sized path are.each }

-- A signature put together by a token verifies, where its one-time signature leads to the leaf's key.
pub signed_verifies : (key message one_time : List ℕ) (leaf : ℕ) (secrets path : List (List ℕ)) → IsInvitation key → leaf < leaves_of H5 → AreHashes (lms_row H5).h path
    → root_over H5 (id_in key) leaf (ots_key W4 (id_in key) leaf secrets) path ≡ root_in key → IsTrue (is_ots W4 one_time)
    → candidate W4 (id_in key) leaf message one_time ≡ ots_key W4 (id_in key) leaf secrets → IsTrue (verifies key message (joined H5 leaf one_time path))
signed_verifies key message one_time leaf secrets path is low are leads form same =
    (joined_verifies H5 W4 key message one_time leaf path is.form low form (path_of_token path are)).1 (rw same leads)

-- What a token signs verifies under its public key.
pub token_signs : (t : Token) (message : List ℕ) → IsToken t → IsTrue (verifies t.public message (signature_by t message))
unfolding signature_by
token_signs t message is =
    let id = id_in t.public in
    let one_time = ots_signature W4 id t.leaf t.secrets t.random message in
    let all = sized t.secrets is.fields.secrets.each in
    signed_verifies t.public message one_time t.leaf t.secrets t.path is.fields.public is.fields.leaf is.fields.path is.leads
    (form_of_signature W4 id t.leaf t.secrets t.random message is.fields.secrets.count is.fields.random.size all (omega arith))
    (key_of_signature W4 id t.leaf t.secrets t.random message is.fields.secrets.count is.fields.random.size all)

chain_bytes : (id : List ℕ) (q i j n : ℕ) (x : List ℕ) → AreBytes x → AreBytes (chain id q i j n x)
unfolding chain
chain_bytes id q i j zero x are = are
chain_bytes id q i j (suc n) x are = chain_bytes id q i (j + 1) n (sha256 (id ++ u32str q ++ u16str i ++ j ∷ [] ++ x)) (bytes_sha256 (id ++ u32str q ++ u16str i ++ j ∷ [] ++ x))

starts_bytes : (kind : OtsKind) (id : List ℕ) (q : ℕ) (digits : List ℕ) (i : ℕ) (xs : List (List ℕ)) → AllByRecursion IsHash xs → AreBytes (starts kind id q digits i xs)
unfolding starts
starts_bytes kind id q digits i [] all = bytes_none
starts_bytes kind id q digits i (x ∷ xs) all =
    bytes_append (chain id q i 0 (coef digits i (ots_row kind).w) x) (starts kind id q digits (i + 1) xs) (chain_bytes id q i 0 (coef digits i (ots_row kind).w) x all.0.bytes)
    (starts_bytes kind id q digits (i + 1) xs all.1)

ots_bytes : (kind : OtsKind) (id : List ℕ) (q : ℕ) (xs : List (List ℕ)) (c message : List ℕ) → AllByRecursion IsHash xs → AreBytes c → AreBytes (ots_signature kind id q xs c message)
unfolding ots_signature
ots_bytes kind id q xs c message all are =
    let number = u32str (ots_row kind).number in
    let ys = starts kind id q (message_digits kind id q c message) 0 xs in
    bytes_append (number ++ c) ys (bytes_append number c (bytes_u32str (ots_row kind).number) are) (starts_bytes kind id q (message_digits kind id q c message) 0 xs all)

concat_bytes : (xs : List (List ℕ)) → AllByRecursion IsHash xs → AreBytes (concat xs)
concat_bytes [] all = bytes_none
concat_bytes (x ∷ xs) all = bytes_append x (concat xs) all.0.bytes (concat_bytes xs all.1)

signature_bytes : (t : Token) (message : List ℕ) → IsToken t → AreBytes (signature_by t message)
unfolding signature_by
signature_bytes t message is =
    let leaf = u32str t.leaf in
    let one_time = ots_signature W4 (id_in t.public) t.leaf t.secrets t.random message in
    let number = u32str (lms_row H5).number in
    bytes_append ((leaf ++ one_time) ++ number) (concat t.path)
    (bytes_append (leaf ++ one_time) number (bytes_append leaf one_time (bytes_u32str t.leaf) (ots_bytes W4 (id_in t.public) t.leaf t.secrets t.random message is.fields.secrets.each is.fields.random.bytes))
    (bytes_u32str (lms_row H5).number)) (concat_bytes t.path is.fields.path.each)

invitation_key : (key : List ℕ) → IsInvitation key → IsPublicKey key
invitation_key key is = record { form = rw (is.form.size, is.form.lms_is, is.form.ots_is) refl; bytes = is.bytes }

-- What a token proves of a user, a key and a seal is a proof.
pub proof_is : (t : Token) (user key seal signature : List ℕ) → IsToken t → IsTrue (is_user_name user) → IsPublicKey key → IsHash seal
    → signature ≡ signature_by t (proof_body (record { team = t.team; kind = t.kind; user = user; key = key; seal = seal }))
    → IsProof (record { team = t.team; kind = t.kind; user = user; key = key; seal = seal; by = t.public; signature = signature })
proof_is t user key seal signature is named is_key is_seal e = record {
  admission = record { team = is.fields.team; user = named; key = is_key; seal = is_seal };
  by = invitation_key t.public is.fields.public;
  signature = rw e (signature_bytes t (proof_body (record { team = t.team; kind = t.kind; user = user; key = key; seal = seal })) is);
  signed = rw e (token_signs t (proof_body (record { team = t.team; kind = t.kind; user = user; key = key; seal = seal })) is);
}

hashes_from : (id : List ℕ) (q : ℕ) (seed : List ℕ) (i n : ℕ) → AllByRecursion IsHash (secrets_from id q seed i n)
unfolding secrets_from secret
hashes_from id q seed i zero = tt
hashes_from id q seed i (suc n) = (hash_of _, hashes_from id q seed (i + 1) n)

secret_hash : (id : List ℕ) (q i : ℕ) (seed : List ℕ) → IsHash (secret id q i seed)
unfolding secret
secret_hash id q i seed = hash_of _

node_hash : (key : TreeKey) (k r : ℕ) → IsHash (node key k r)
unfolding node
node_hash key zero r = hash_of _
node_hash key (suc k) r = hash_of _

nodes_from : (key : TreeKey) (k n r : ℕ) → AllByRecursion IsHash (path_from key k n r)
unfolding path_from
nodes_from key k zero r = tt
nodes_from key k (suc n) r = (node_hash key k (sibling r), nodes_from key (k + 1) n (r / 2))

path_hashes : (key : TreeKey) (q : ℕ) → AllByRecursion IsHash (path_of key q)
unfolding path_of
path_hashes key q = nodes_from key 0 (lms_row key.lms).h (leaves_of key.lms + q)

key_bytes : (key : TreeKey) → AreBytes key.id → AreBytes (public_key key)
unfolding public_key
key_bytes key id =
    let a = u32str (lms_row key.lms).number in
    let b = u32str (ots_row key.ots).number in
    bytes_append ((a ++ b) ++ key.id) (root key)
    (bytes_append (a ++ b) key.id (bytes_append a b (bytes_u32str (lms_row key.lms).number) (bytes_u32str (ots_row key.ots).number)) id) (node_hash key (lms_row key.lms).h 1).bytes

made_leads : (key : TreeKey) (q : ℕ) → length key.id ≡ 16 → q < leaves_of key.lms
    → root_over key.lms (id_in (public_key key)) q (ots_key key.ots (id_in (public_key key)) q (ots_secrets key.ots key.id q key.seed)) (path_of key q) ≡ root_in (public_key key)
made_leads key q size low = let parts = key_has_its_parts key size in rw (parts.1, parts.2) (path_leads_to_the_root key q low).1

form_is : (key : TreeKey) → IsInviteKey key → IsKeyOf H5 W4 (public_key key)
form_is key is =
    subst (λ (lms : LmsKind). IsKeyOf lms W4 (public_key key)) is.lms
    (subst (λ (ots : OtsKind). IsKeyOf key.lms ots (public_key key)) is.ots (key_has_its_parts key is.id).0)

leads_is : (key : TreeKey) (q : ℕ) → IsInviteKey key → q < leaves_of H5
    → root_over H5 (id_in (public_key key)) q (ots_key W4 (id_in (public_key key)) q (ots_secrets key.ots key.id q key.seed)) (path_of key q) ≡ root_in (public_key key)
leads_is key q is low =
    let k = public_key key in
    let xs = ots_secrets key.ots key.id q key.seed in
    subst (λ (lms : LmsKind). root_over lms (id_in k) q (ots_key W4 (id_in k) q xs) (path_of key q) ≡ root_in k) is.lms
    (subst (λ (ots : OtsKind). root_over key.lms (id_in k) q (ots_key ots (id_in k) q xs) (path_of key q) ≡ root_in k) is.ots
    (made_leads key q is.id (subst (λ (lms : LmsKind). q < leaves_of lms) (sym is.lms) low)))

secrets_are : (key : TreeKey) (q : ℕ) → IsInviteKey key → AreHashes (ots_row W4).p (ots_secrets key.ots key.id q key.seed)
secrets_are key q is = record {
  count = length-secrets_from key.id q key.seed 0 (ots_row key.ots).p ∙ ap (λ (ots : OtsKind). (ots_row ots).p) is.ots;
  each = hashes_from key.id q key.seed 0 (ots_row key.ots).p;
}

path_are : (key : TreeKey) (q : ℕ) → IsInviteKey key → AreHashes (lms_row H5).h (path_of key q)
path_are key q is = record {
  count = (path_is key q).many ∙ ap (λ (lms : LmsKind). (lms_row lms).h) is.lms;
  each = path_hashes key q;
}

pub made_tokens : MadeTokensAreTokens
made_tokens team kind user key leaf is is_team named is_for low = record {
  fields = record {
    team = is_team;
    user = named;
    public = record { form = form_is key is; bytes = key_bytes key is.bytes };
    leaf = low;
    random = secret_hash key.id leaf 0xfffd key.seed;
    secrets = secrets_are key leaf is;
    path = path_are key leaf is;
  };
  invited = is_for;
  leads = leads_is key leaf is low;
}
