-- What signing with a key file whose key is known does, as one step: the key file bears the leaf after.
use Rattle.std.proofs.Common.{◌≡◌, ◌≢◌, ◌⊎◌, ℕ, List, [], ◌∷◌, Option, Some, None, Result, Ok, Err, IfOk, IfSome, inl, inr, ap, subst, arith}
use Rattle.std.specs.FinMap as fin
use Rattle.tg_outside.specs.Contents.{FileMap}
use Rattle.tg_outside.specs.declared.fault.Fault.{Fault}
use Rattle.tg_outside.specs.declared.fault.Fault.TheVariants.{Failed, Memory}
use Rattle.lms_tree.specs.Signatures.{public_key, signature_of}
use Rattle.lms_keep.specs.KeyText.{key_text, leaves}
use Rattle.lms_keep.specs.Signing.{SignsFor, advanced, tree_key}
use Rattle.lms_keep.specs.declared.key_state.KeyState.{KeyState}
use Rattle.outcomes.specs.Steps.{World, after, replace}
use Rattle.outcomes.specs.Seeing.{Contents, AreKnown, IsCut}
use Rattle.key_commands.specs.KnownKeys.{HoldsKey}
use Rattle.outcomes.proofs.Joining.{either-cut, told_files}

-- nothing was signed, which can't be
never_other : (w : World) (name key : List ℕ) (s : KeyState) → HoldsKey w name key s → (public_key (tree_key s) ≢ key) ⊎ (s.next ≡ leaves s.lms) → ⊥
never_other w name key s holds (inl other) = absurd (other holds.known)
never_other w name key s holds (inr spent) = let left = holds.left in absurd (omega (arith, left, spent))

at_world : (old new : Option FileMap) (name key message : List ℕ) (s : KeyState) (r : Result (Option (List ℕ)) Fault) (w : World)
    → IfSome old (λ m. fin.get m name ≡ Some (key_text s) → SignsFor m name key s message new r) → old ≡ Some w.files → HoldsKey w name key s
    → SignsFor w.files name key s message new r
at_world old new name key message s r w h is holds =
    subst (λ (o : Option FileMap). IfSome o (λ m. fin.get m name ≡ Some (key_text s) → SignsFor m name key s message new r)) is h holds.file

pub never_nothing : (old new : Option FileMap) (name key message : List ℕ) (s : KeyState) (seen : Contents) (w : World)
    → IfSome old (λ m. fin.get m name ≡ Some (key_text s) → SignsFor m name key s message new (Ok None)) → HoldsKey w name key s → AreKnown (record seen { files = old }) w → ⊥
never_nothing old new name key message s seen w h holds is = never_other w name key s holds (at_world old new name key message s (Ok None) w h is.files holds).0

-- what is answered is the signature, and the step is done
pub signed_known : (old new : Option FileMap) (name key message : List ℕ) (s : KeyState) (r : Result (Option (List ℕ)) Fault) (seen : Contents) (w : World)
    → IfSome old (λ m. fin.get m name ≡ Some (key_text s) → SignsFor m name key s message new r) → HoldsKey w name key s → AreKnown (record seen { files = old }) w
    → IfOk r (λ signed. (signed ≡ Some (signature_of (tree_key s) s.next message)) × AreKnown (record seen { files = new }) (after (replace name (key_text (advanced s)) ∷ []) w))
signed_known old new name key message s (Err e) seen w h holds is = tt
signed_known old new name key message s (Ok None) seen w h holds is = absurd (never_nothing old new name key message s seen w h holds is)
signed_known old new name key message s (Ok (Some signature)) seen w h holds is =
    let k = at_world old new name key message s (Ok (Some signature)) w h is.files holds in
    (ap Some k.3, told_files seen w old new (fin.insert w.files name (key_text (advanced s))) is k.2)

pub signed_known-cut : (old new : Option FileMap) (name key message : List ℕ) (s : KeyState) (r : Result (Option (List ℕ)) Fault) (seen : Contents) (w : World)
    → IfSome old (λ m. fin.get m name ≡ Some (key_text s) → SignsFor m name key s message new r) → HoldsKey w name key s → AreKnown (record seen { files = old }) w
    → IsCut (record seen { files = new }) (replace name (key_text (advanced s)) ∷ []) w
signed_known-cut old new name key message s (Err Failed) seen w h holds is =
    either-cut old new name (key_text (advanced s)) seen w (at_world old new name key message s (Err Failed) w h is.files holds) is
signed_known-cut old new name key message s (Err Memory) seen w h holds is =
    either-cut old new name (key_text (advanced s)) seen w (inl (at_world old new name key message s (Err Memory) w h is.files holds)) is
signed_known-cut old new name key message s (Ok None) seen w h holds is = absurd (never_nothing old new name key message s seen w h holds is)
signed_known-cut old new name key message s (Ok (Some signature)) seen w h holds is =
    either-cut old new name (key_text (advanced s)) seen w (inr (at_world old new name key message s (Ok (Some signature)) w h is.files holds).2) is
