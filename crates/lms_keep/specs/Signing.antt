-- What a call of `sign_next` answers, and what it leaves of files that tell their contents.
use Rattle.std.specs.Prelude.{◌≡◌, ◌≢◌, ◌<◌, ◌⊎◌, ◌+◌, ℕ, List, Option, Some, None, Result, Ok, Err}
use Rattle.std.specs.Option.{option_map_or}
use Rattle.std.specs.FinMap as map
use Rattle.tg_outside.specs.Contents.{FileMap}
use Rattle.tg_outside.specs.declared.fault.Fault.{Fault}
use Rattle.tg_outside.specs.declared.fault.Fault.TheVariants.{Failed, Memory as NoMemory}
use Rattle.lms_ots.specs.Kinds.{ots_kind}
use Rattle.lms_ots.specs.declared.kind.OtsKind.TheVariants.{W1}
use Rattle.lms_tree.specs.LmsKinds.{lms_kind}
use Rattle.lms_tree.specs.Signatures.{public_key, signature_of}
use Rattle.lms_tree.specs.declared.lms_kind.LmsKind.TheVariants.{H5}
use Rattle.lms_tree.specs.declared.tree_key.TreeKey.{TreeKey}
use Rattle.lms_keep.specs.KeyText.{IsKeyFile, IsKeyState, key_text, leaves}
use Rattle.lms_keep.specs.declared.key_state.KeyState.{KeyState}
use Rattle.lms_keep.specs.declared.signing.Signed.{Signed}
use Rattle.lms_keep.specs.declared.fault.SignFault.{SignFault}
use Rattle.lms_keep.specs.declared.fault.SignFault.TheVariants.{ReadFault, NoFile, BadKeyFile, Spent, Memory, WriteFault}

-- what the tree of a key is made from; a key in its ranges has both kinds
abbrev pub tree_key : KeyState → TreeKey
tree_key s = record {
  lms = option_map_or (λ kind. kind) (lms_kind s.lms) H5;
  ots = option_map_or (λ kind. kind) (ots_kind s.ots) W1;
  id = s.id;
  seed = s.seed;
}

-- the key with the leaf after
abbrev pub advanced : KeyState → KeyState
advanced s = record s { next = s.next + 1 }

-- the files with the leaf after in the key file
abbrev pub moved : FileMap → List ℕ → KeyState → FileMap
moved m name s = map.insert m name (key_text (advanced s))

-- the signature of a leaf over a message, with its key
abbrev pub signed_by : TreeKey → ℕ → List ℕ → Signed
signed_by key leaf message = record { key = public_key key; leaf = leaf; signature = signature_of key leaf message }

-- The file is absent, or holds no key, or one of which each leaf has signed.
abbrev pub NoneCanSign : FileMap → List ℕ → Type 0
NoneCanSign m name = (s : KeyState) → IsKeyState s → s.next < leaves s.lms → map.get m name ≢ Some (key_text s)

-- What is made of the file of a key in its ranges, for a caller who knows a public key: a signature by the leaf that is next comes
-- exactly where the file's key is that one and a leaf is left, and with it the file bears the leaf after. Where it is another key
-- with a leaf left, the file may have moved on.
abbrev pub SignsFor : FileMap → List ℕ → List ℕ → KeyState → List ℕ → Option FileMap → Result (Option (List ℕ)) Fault → Type 0
SignsFor m name key s message new (Ok (Some signature)) =
    (public_key (tree_key s) ≡ key) × (s.next < leaves s.lms) × (new ≡ Some (moved m name s)) × (signature ≡ signature_of (tree_key s) s.next message)
SignsFor m name key s message new (Ok None) = ((public_key (tree_key s) ≢ key) ⊎ (s.next ≡ leaves s.lms)) × ((new ≡ Some m) ⊎ (new ≡ Some (moved m name s)))
SignsFor m name key s message new (Err Failed) = (new ≡ Some m) ⊎ (new ≡ Some (moved m name s))
SignsFor m name key s message new (Err NoMemory) = new ≡ Some m

-- By the bytes of the file, where it is there: what `new` holds of the files `m` after the answer.
abbrev pub SignsAs : FileMap → Option (List ℕ) → List ℕ → List ℕ → Option FileMap → Result Signed SignFault → Type 0
SignsAs m (Some bytes) name message new (Ok signed) =
    (s : KeyState) × IsKeyFile bytes s × (s.next < leaves s.lms) × (new ≡ Some (moved m name s)) × (signed ≡ signed_by (tree_key s) s.next message)
SignsAs m (Some bytes) name message new (Err Spent) = (s : KeyState) × IsKeyFile bytes s × (s.next ≡ leaves s.lms) × (new ≡ Some m)
SignsAs m (Some bytes) name message new (Err WriteFault) =
    (s : KeyState) × IsKeyFile bytes s × (s.next < leaves s.lms) × ((new ≡ Some m) ⊎ (new ≡ Some (moved m name s)))
SignsAs m (Some bytes) name message new (Err BadKeyFile) = ((s : KeyState) → IsKeyState s → bytes ≢ key_text s) × (new ≡ Some m)
SignsAs m (Some bytes) name message new (Err ReadFault) = new ≡ Some m
SignsAs m (Some bytes) name message new (Err Memory) = new ≡ Some m
SignsAs m (Some bytes) name message new (Err NoFile) = ⊥
SignsAs m None name message new (Err NoFile) = new ≡ Some m
SignsAs m None name message new (Err ReadFault) = new ≡ Some m
SignsAs m None name message new (Err Memory) = new ≡ Some m
SignsAs m None name message new (Err Spent) = ⊥
SignsAs m None name message new (Err WriteFault) = ⊥
SignsAs m None name message new (Err BadKeyFile) = ⊥
SignsAs m None name message new (Ok signed) = ⊥
