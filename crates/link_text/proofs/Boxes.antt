-- A box is read from its parts.
use Rattle.std.proofs.Common.{◌≡◌, ℕ, List, Option, Some, None, ap}
use Rattle.std.specs.Option.{option_map}
use Rattle.acts.specs.Fields.{AreTwo, spell_two}
use Rattle.tg_text.specs.KeySpelling.{IsKeyId, spell_key_id}
use Rattle.tg_text.specs.Reading.{Reads}
use Rattle.tg_text.specs.Spelling.{spell_base64}
use Rattle.tg_text.specs.declared.keys.KeyId.{KeyId}
use Rattle.tg_text.specs.declared.keys.BoxLine.{BoxLine}
use Rattle.link_text.specs.KeyRanges.{IsBoxLine, IsSealed}
use Rattle.link_text.specs.LinkText.{spell_box}

abbrev pub Parts : Type 0
Parts = KeyId × (KeyId × List ℕ)

abbrev pub box_of : Parts → BoxLine
box_of p = record { to = p.0; of = p.1.0; bytes = p.1.1 }

abbrev parts_of : BoxLine → Parts
parts_of b = (b.to, (b.of, b.bytes))

abbrev pub ReadsParts : List ℕ → Option Parts → Type 0
ReadsParts field found = Reads (AreTwo IsKeyId (AreTwo IsKeyId IsSealed)) (spell_two spell_key_id (spell_two spell_key_id spell_base64)) field found

pub box_read : (field : List ℕ) (found : Option Parts) → ReadsParts field found → Reads IsBoxLine spell_box field (option_map box_of found)
box_read field None reads = record {
  found = tt;
  only = λ b is e. ap (option_map box_of) (reads.only (parts_of b) (is.to, (is.of, is.sealed)) e);
}
box_read field (Some p) reads = record {
  found = (record { to = reads.found.0.0; of = reads.found.0.1.0; sealed = reads.found.0.1.1 }, reads.found.1);
  only = λ b is e. ap (option_map box_of) (reads.only (parts_of b) (is.to, (is.of, is.sealed)) e);
}

pub read_some : (field : List ℕ) (found : Option Parts) (p : Parts) → found ≡ Some p → ReadsParts field found → Reads IsBoxLine spell_box field (Some (box_of p))
read_some field found p is reads = rw is at (box_read field found reads)

pub read_none : (field : List ℕ) (found : Option Parts) → found ≡ None → ReadsParts field found → Reads IsBoxLine spell_box field None
read_none field found is reads = rw is at (box_read field found reads)
