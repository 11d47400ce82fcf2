-- Fields that stand beside each other in the text of an act.
use Rattle.std.specs.Prelude.{ℕ, List, ◌∷◌, ◌++◌}
use Rattle.tg_text.specs.Spelling.{spell_base64, spell_hex, AreBytes, IsHash, IsPublicKey}

-- two fields with a space between them. More are two of which the second is two
abbrev pub spell_two : {X Y : Type 0} → (X → List ℕ) → (Y → List ℕ) → X × Y → List ℕ
spell_two spell spell_next p = spell p.0 ++ 32 ∷ spell_next p.1

abbrev pub AreTwo : {X Y : Type 0} → (X → Type 0) → (Y → Type 0) → X × Y → Type 0
AreTwo IsX IsY p = IsX p.0 × IsY p.1

-- a field that is its own spelling: a name, a title
abbrev pub spell_text : List ℕ → List ℕ
spell_text text = text

-- `SEAL BY PROOF`, and with the key of the device before it
abbrev pub IsSealByProof : List ℕ × (List ℕ × List ℕ) → Type 0
IsSealByProof p = AreTwo IsHash (AreTwo IsPublicKey AreBytes) p

abbrev pub spell_seal_by_proof : List ℕ × (List ℕ × List ℕ) → List ℕ
spell_seal_by_proof p = spell_two spell_hex (spell_two spell_base64 spell_base64) p

abbrev pub IsDeviceByProof : List ℕ × (List ℕ × (List ℕ × List ℕ)) → Type 0
IsDeviceByProof p = AreTwo IsPublicKey IsSealByProof p

abbrev pub spell_device_by_proof : List ℕ × (List ℕ × (List ℕ × List ℕ)) → List ℕ
spell_device_by_proof p = spell_two spell_base64 spell_seal_by_proof p
