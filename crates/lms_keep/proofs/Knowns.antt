-- What is made of the file of a key that is known.
use Rattle.std.proofs.Common.{◌≡◌, ◌≢◌, ◌<◌, ◌⊎◌, ℕ, List, Option, None, Some, IfSome, IfOk, Result, Ok, Err, inl, inr, refl, sym, ap, ◌∙◌, subst}
use Rattle.std.specs.FinMap as map
use Rattle.tg_outside.specs.Contents.{FileMap}
use Rattle.tg_outside.specs.declared.fault.Fault.{Fault}
use Rattle.tg_outside.specs.declared.fault.Fault.TheVariants.{Failed}
use Rattle.lms_keep.specs.declared.key_state.KeyState.{KeyState}
use Rattle.lms_keep.specs.declared.signing.Signed.{Signed}
use Rattle.lms_keep.specs.declared.fault.SignFault.{SignFault}
use Rattle.lms_keep.specs.declared.fault.SignFault.TheVariants.{ReadFault, NoFile, BadKeyFile, Spent, Memory, WriteFault}
use Rattle.lms_keep.specs.KeyText.{IsKeyState, IsKeyFile, key_text, leaves}
use Rattle.lms_keep.specs.Signing.{NoneCanSign, SignsAs, SignsFor, moved, signed_by, tree_key}
use Rattle.lms_keep.proofs.KeyLaws.{key_once}

-- the text of the key is that of no other
same_key : (s t : KeyState) → IsKeyState s → IsKeyFile (key_text s) t → t ≡ s
same_key s t is file = key_once t s file.range is (sym file.is_text)

-- what the call of `sign_next` answered, with the text of the key at hand
at_key : (m : FileMap) (name message : List ℕ) (s : KeyState) (new : Option FileMap) (r : Result Signed SignFault) → SignsAs m (map.get m name) name message new r
    → map.get m name ≡ Some (key_text s) → SignsAs m (Some (key_text s)) name message new r
at_key m name message s new r h at = subst (λ (o : Option (List ℕ)). SignsAs m o name message new r) at h

abbrev Signs : FileMap → List ℕ → List ℕ → Option FileMap → Signed → KeyState → Type 0
Signs m name message new signed t = (t.next < leaves t.lms) × (new ≡ Some (moved m name t)) × (signed ≡ signed_by (tree_key t) t.next message)

pub signed_for : (old new : Option FileMap) (name key message : List ℕ) (s : KeyState) (signed : Signed) → IsKeyState s
    → IfSome old (λ m. SignsAs m (map.get m name) name message new (Ok signed)) → signed.key ≡ key
    → IfSome old (λ m. map.get m name ≡ Some (key_text s) → SignsFor m name key s message new (Ok (Some signed.signature)))
signed_for None new name key message s signed is h e = tt
signed_for (Some m) new name key message s signed is h e = λ at.
    let found = at_key m name message s new (Ok signed) h at in
    let k = subst (Signs m name message new signed) (same_key s found.0 is found.1) (found.2, found.3, found.4) in
    (sym (ap (λ (x : Signed). x.key) k.2) ∙ e, k.0, k.1, ap (λ (x : Signed). x.signature) k.2)

pub other_for : (old new : Option FileMap) (name key message : List ℕ) (s : KeyState) (signed : Signed) → IsKeyState s
    → IfSome old (λ m. SignsAs m (map.get m name) name message new (Ok signed)) → signed.key ≢ key
    → IfSome old (λ m. map.get m name ≡ Some (key_text s) → SignsFor m name key s message new (Ok None))
other_for None new name key message s signed is h ne = tt
other_for (Some m) new name key message s signed is h ne = λ at.
    let found = at_key m name message s new (Ok signed) h at in
    let k = subst (Signs m name message new signed) (same_key s found.0 is found.1) (found.2, found.3, found.4) in
    (inl (λ e. ne (ap (λ (x : Signed). x.key) k.2 ∙ e)), inr k.1)

pub unread_for : (old new : Option FileMap) (name key message : List ℕ) (s : KeyState) → IsKeyState s
    → IfSome old (λ m. SignsAs m (map.get m name) name message new (Err ReadFault))
    → IfSome old (λ m. map.get m name ≡ Some (key_text s) → SignsFor m name key s message new (Err Failed))
unread_for None new name key message s is h = tt
unread_for (Some m) new name key message s is h = λ at. inl (at_key m name message s new (Err ReadFault) h at)

pub unwritten_for : (old new : Option FileMap) (name key message : List ℕ) (s : KeyState) → IsKeyState s
    → IfSome old (λ m. SignsAs m (map.get m name) name message new (Err WriteFault))
    → IfSome old (λ m. map.get m name ≡ Some (key_text s) → SignsFor m name key s message new (Err Failed))
unwritten_for None new name key message s is h = tt
unwritten_for (Some m) new name key message s is h = λ at.
    let found = at_key m name message s new (Err WriteFault) h at in
    subst (λ (t : KeyState). (new ≡ Some m) ⊎ (new ≡ Some (moved m name t))) (same_key s found.0 is found.1) found.3

pub nothing_for : (old new : Option FileMap) (name key message : List ℕ) (s : KeyState) → IsKeyState s
    → IfSome old (λ m. SignsAs m (map.get m name) name message new (Err Spent))
    → IfSome old (λ m. map.get m name ≡ Some (key_text s) → SignsFor m name key s message new (Ok None))
nothing_for None new name key message s is h = tt
nothing_for (Some m) new name key message s is h = λ at.
    let found = at_key m name message s new (Err Spent) h at in
    (inr (subst (λ (t : KeyState). t.next ≡ leaves t.lms) (same_key s found.0 is found.1) found.2), inl found.3)

pub never_absent : (old new : Option FileMap) (name key message : List ℕ) (s : KeyState) → IsKeyState s
    → IfSome old (λ m. SignsAs m (map.get m name) name message new (Err NoFile))
    → IfSome old (λ m. map.get m name ≡ Some (key_text s) → SignsFor m name key s message new (Ok None))
never_absent None new name key message s is h = tt
never_absent (Some m) new name key message s is h = λ at. absurd (at_key m name message s new (Err NoFile) h at)

pub never_bad : (old new : Option FileMap) (name key message : List ℕ) (s : KeyState) → IsKeyState s
    → IfSome old (λ m. SignsAs m (map.get m name) name message new (Err BadKeyFile))
    → IfSome old (λ m. map.get m name ≡ Some (key_text s) → SignsFor m name key s message new (Ok None))
never_bad None new name key message s is h = tt
never_bad (Some m) new name key message s is h = λ at. absurd ((at_key m name message s new (Err BadKeyFile) h at).0 s is refl)

-- where no key can sign, none did
pub none_signed : (old new : Option FileMap) (name message : List ℕ) (signed : Signed) (r : Result (Option (List ℕ)) Fault) → IfSome old (λ m. SignsAs m (map.get m name) name message new (Ok signed))
    → IfSome old (λ m. NoneCanSign m name → (new ≡ Some m) × IfOk r (λ found. found ≡ None))
none_signed None new name message signed r h = tt
none_signed (Some m) new name message signed r h = λ none. absurd (idle (map.get m name) h none) where
  idle : (found : Option (List ℕ)) → SignsAs m found name message new (Ok signed) → ((s : KeyState) → IsKeyState s → s.next < leaves s.lms → found ≢ Some (key_text s)) → ⊥
  idle None h none = h
  idle (Some bytes) h none = none h.0 h.1.range h.2 (ap Some h.1.is_text)

-- and the files are as they were
pub none_moved : (old new : Option FileMap) (name message : List ℕ) (e : SignFault) (r : Result (Option (List ℕ)) Fault) → IfSome old (λ m. SignsAs m (map.get m name) name message new (Err e))
    → IfOk r (λ found. found ≡ None) → IfSome old (λ m. NoneCanSign m name → (new ≡ Some m) × IfOk r (λ found. found ≡ None))
none_moved None new name message e r h nothing = tt
none_moved (Some m) new name message e r h nothing = λ none. (same e (map.get m name) h none, nothing) where
  same : (e : SignFault) (found : Option (List ℕ)) → SignsAs m found name message new (Err e) → ((s : KeyState) → IsKeyState s → s.next < leaves s.lms → found ≢ Some (key_text s)) → new ≡ Some m
  same ReadFault None h none = h
  same NoFile None h none = h
  same BadKeyFile None h none = absurd h
  same Spent None h none = absurd h
  same Memory None h none = h
  same WriteFault None h none = absurd h
  same ReadFault (Some bytes) h none = h
  same NoFile (Some bytes) h none = absurd h
  same BadKeyFile (Some bytes) h none = h.1
  same Spent (Some bytes) h none = h.3
  same Memory (Some bytes) h none = h
  same WriteFault (Some bytes) h none = absurd (none h.0 h.1.range h.2 (ap Some h.1.is_text))
