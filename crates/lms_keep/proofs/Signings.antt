-- What stands after the key file was replaced, or may have been.
use Rattle.std.proofs.Common.{◌≡◌, ◌<◌, ◌⊎◌, ℕ, List, Option, None, Some, IfSome, Ok, Err, inl, inr, ap, ◌∙◌, subst}
use Rattle.std.specs.FinMap as map
use Rattle.tg_outside.specs.Contents.{FileMap}
use Rattle.tg_text.specs.Reading.{Reads}
use Rattle.lms_keep.specs.declared.key_state.KeyState.{KeyState}
use Rattle.lms_keep.specs.declared.signing.Signed.{Signed}
use Rattle.lms_keep.specs.declared.fault.SignFault.TheVariants.{WriteFault}
use Rattle.lms_keep.specs.KeyText.{IsKeyState, IsKeyFile, key_text, leaves}
use Rattle.lms_keep.specs.Signing.{SignsAs, advanced, moved, signed_by, tree_key}

key_file : (bytes : List ℕ) (s : KeyState) → Reads IsKeyState key_text bytes (Some s) → IsKeyFile bytes s
key_file bytes s reads = record { range = reads.found.0; is_text = reads.found.1 }

moved_is : (m : FileMap) (name text : List ℕ) (s : KeyState) (new : Option FileMap) → text ≡ key_text (advanced s) → new ≡ Some (map.insert m name text) → new ≡ Some (moved m name s)
moved_is m name text s new spelled e = e ∙ ap (λ (t : List ℕ). Some (map.insert m name t)) spelled

pub signed : (old mid new : Option FileMap) (name message bytes text : List ℕ) (s : KeyState) (answer : Signed) → IfSome old (λ m. Some bytes ≡ map.get m name) → mid ≡ old
    → IfSome mid (λ m. new ≡ Some (map.insert m name text)) → Reads IsKeyState key_text bytes (Some s) → s.next < leaves s.lms → text ≡ key_text (advanced s)
    → answer ≡ signed_by (tree_key s) s.next message → IfSome old (λ m. SignsAs m (map.get m name) name message new (Ok answer))
signed None mid new name message bytes text s answer found same replaced reads left spelled is = tt
signed (Some m) mid new name message bytes text s answer found same replaced reads left spelled is =
    let after : IfSome (Some m) (λ m. new ≡ Some (map.insert m name text)) = subst (λ (o : Option FileMap). IfSome o (λ m. new ≡ Some (map.insert m name text))) same replaced in
    subst (λ (o : Option (List ℕ)). SignsAs m o name message new (Ok answer)) found (s, key_file bytes s reads, left, moved_is m name text s new spelled after, is)

either_is : (m : FileMap) (name text : List ℕ) (s : KeyState) (new : Option FileMap) → text ≡ key_text (advanced s) → (new ≡ Some m) ⊎ (new ≡ Some (map.insert m name text))
    → (new ≡ Some m) ⊎ (new ≡ Some (moved m name s))
either_is m name text s new spelled (inl e) = inl e
either_is m name text s new spelled (inr e) = inr (moved_is m name text s new spelled e)

pub unsure : (old mid new : Option FileMap) (name message bytes text : List ℕ) (s : KeyState) → IfSome old (λ m. Some bytes ≡ map.get m name) → mid ≡ old
    → IfSome mid (λ m. (new ≡ mid) ⊎ (new ≡ Some (map.insert m name text))) → Reads IsKeyState key_text bytes (Some s) → s.next < leaves s.lms → text ≡ key_text (advanced s)
    → IfSome old (λ m. SignsAs m (map.get m name) name message new (Err WriteFault))
unsure None mid new name message bytes text s found same replaced reads left spelled = tt
unsure (Some m) mid new name message bytes text s found same replaced reads left spelled =
    let after : IfSome (Some m) (λ k. (new ≡ Some m) ⊎ (new ≡ Some (map.insert k name text))) =
    subst (λ (o : Option FileMap). IfSome o (λ m. (new ≡ o) ⊎ (new ≡ Some (map.insert m name text)))) same replaced in
    subst (λ (o : Option (List ℕ)). SignsAs m o name message new (Err WriteFault)) found (s, key_file bytes s reads, left, either_is m name text s new spelled after)
