-- Verification of RFC 8554 section 5.4.2, on lists of bytes of which nothing is known.
use Rattle.std.specs.Prelude.{◌≡◌, ◌<◌, ℕ, ◌+◌, ◌/◌, ◌%◌, Bool, false, ◌&&◌, ◌==◌, nat_lt, if◌then◌else◌, List, [], ◌∷◌, length, take, drop}
use Rattle.std.specs.Option.{option_map_or}
use Rattle.std.specs.Str.{bytes_eq}
use Rattle.lms_ots.specs.declared.kind.OtsKind.{OtsKind}
use Rattle.lms_ots.specs.Kinds.{ots_row, ots_kind, ots_length}
use Rattle.lms_ots.specs.Ots.{candidate, pieces}
use Rattle.tg_text.specs.Spelling.{number_at}
use Rattle.lms_tree.specs.declared.lms_kind.LmsKind.{LmsKind}
use Rattle.lms_tree.specs.LmsKinds.{lms_row, lms_kind, lms_length, leaves_of}
use Rattle.lms_tree.specs.Nodes.{leaf_hash, inner_hash}

-- T[r / 2] of T[r] and of its sibling, which is on the left where r is odd
abbrev pub parent : List ℕ → ℕ → List ℕ → List ℕ → List ℕ
parent id r node other = if r % 2 == 1 then inner_hash id (r / 2) other node else inner_hash id (r / 2) node other

-- the root over the node r, with the other nodes from the leaf up
unfoldable pub climb : List ℕ → ℕ → List ℕ → List (List ℕ) → List ℕ
climb id r node [] = node
climb id r node (other ∷ path) =
    climb id (r / 2) (parent id r node other) path

-- the root over the leaf q with this one-time key, with the other nodes from the leaf up
abbrev pub root_over : LmsKind → List ℕ → ℕ → List ℕ → List (List ℕ) → List ℕ
root_over lms id q key path = climb id (leaves_of lms + q) (leaf_hash id (leaves_of lms + q) key) path

-- the root to which a signature of these types leads, of a message under a key's id
unfoldable pub root_of : LmsKind → OtsKind → List ℕ → List ℕ → List ℕ → List ℕ
root_of lms ots id message signature =
    let q = number_at 0 signature in
    let key = candidate ots id q message (take (ots_length ots) (drop 4 signature)) in
    root_over lms id q key (pieces (lms_row lms).h (drop (8 + ots_length ots) signature))

-- whether a signature has the length of these types, bears them both, and has a leaf of the tree
unfoldable pub is_signature : LmsKind → OtsKind → List ℕ → Bool
is_signature lms ots signature =
    (length signature == lms_length lms ots)
    && (nat_lt (number_at 0 signature) (leaves_of lms)
    && ((number_at 4 signature == (ots_row ots).number)
    && (number_at (4 + ots_length ots) signature == (lms_row lms).number)))

-- the same as facts
pub record IsSignature (lms : LmsKind) (ots : OtsKind) (signature : List ℕ) : Type 0 where
  pub size : length signature ≡ lms_length lms ots
  pub low : number_at 0 signature < leaves_of lms
  pub ots_is : number_at 4 signature ≡ (ots_row ots).number
  pub lms_is : number_at (4 + ots_length ots) signature ≡ (lms_row lms).number

-- I and T[1] of a public key (section 5.3)
abbrev pub id_in : List ℕ → List ℕ
id_in key = take 16 (drop 8 key)

abbrev pub root_in : List ℕ → List ℕ
root_in key = drop 24 key

-- whether a signature of these types leads to the key's root
unfoldable pub leads_to : LmsKind → OtsKind → List ℕ → List ℕ → List ℕ → Bool
leads_to lms ots key message signature =
    is_signature lms ots signature && bytes_eq (root_in key) (root_of lms ots (id_in key) message signature)

-- whether the signature verifies over the message under a key of one level
unfoldable pub verifies_one : List ℕ → List ℕ → List ℕ → Bool
verifies_one key message signature =
    (length key == 56)
    && option_map_or (λ lms. option_map_or (λ ots. leads_to lms ots key message signature) (ots_kind (number_at 4 key)) false) (lms_kind (number_at 0 key)) false

-- whether the signature verifies over the message under the key
unfoldable pub verifies : List ℕ → List ℕ → List ℕ → Bool
verifies key message signature = verifies_one key message signature
