-- The fields of the lines of which there may be any number.
use Rattle.std.proofs.Common.{◌≡◌, false, [], ◌∷◌, ◌++◌, refl, arith}
use Rattle.tg_text.specs.KeySpelling.{spell_key_id}
use Rattle.tg_text.specs.Spelling.{has_newline, spell_base64, spell_hex, IsHash}
use Rattle.tg_text.specs.declared.keys.BoxLine.{BoxLine}
use Rattle.tg_text.proofs.FieldLaws.{base64_lacks, base64_once, hex_lacks, hex_once}
use Rattle.tg_text.proofs.KeyTexts.{key_in_line, key_once}
use Rattle.tg_text.proofs.Splits.{lacks_append, one_split}
use Rattle.link_text.specs.KeyRanges.{AreKeyLines, IsBoxLine, IsNewKey}
use Rattle.link_text.specs.LinkText.{spell_box}
use Rattle.link_text.proofs.Repeated.{IsField}

pub parents : IsField IsHash (λ name. spell_hex name)
parents = record { lacks = λ name is. hex_lacks 10 name refl; once = λ x y is other e. hex_once x y is.bytes other.bytes e }

pub news : IsField IsNewKey spell_key_id
news = record { lacks = λ k is. (key_in_line k is.key).0; once = λ x y is other e. key_once x y is.key other.key e }

same_box : (a b : BoxLine) → a.to ≡ b.to → a.of ≡ b.of → a.bytes ≡ b.bytes → a ≡ b
same_box a b t o s = λ i. record { to = t i; of = o i; bytes = s i }

box_lacks : (b : BoxLine) → IsBoxLine b → has_newline (spell_box b) ≡ false
box_lacks b is =
    let rest = lacks_append 10 (spell_key_id b.of) (32 ∷ spell_base64 b.bytes) (key_in_line b.of is.of).0 (base64_lacks 10 b.bytes refl refl) in
    lacks_append 10 (spell_key_id b.to) (32 ∷ (spell_key_id b.of ++ 32 ∷ spell_base64 b.bytes)) (key_in_line b.to is.to).0 rest

box_once : (a b : BoxLine) → IsBoxLine a → IsBoxLine b → spell_box a ≡ spell_box b → a ≡ b
box_once a b is other e =
    let to = one_split 32 (spell_key_id a.to) (spell_key_id b.to) (spell_key_id a.of ++ 32 ∷ spell_base64 a.bytes) (spell_key_id b.of ++ 32 ∷ spell_base64 b.bytes)
    (key_in_line a.to is.to).1 (key_in_line b.to other.to).1 e in
    let of = one_split 32 (spell_key_id a.of) (spell_key_id b.of) (spell_base64 a.bytes) (spell_base64 b.bytes) (key_in_line a.of is.of).1 (key_in_line b.of other.of).1 to.1 in
    same_box a b (key_once a.to b.to is.to other.to to.0) (key_once a.of b.of is.of other.of of.0) (base64_once a.bytes b.bytes is.sealed.are other.sealed.are of.1)

pub boxes : IsField IsBoxLine spell_box
boxes = record { lacks = box_lacks; once = box_once }

-- a link may have no lines of keys
pub no_key_lines : AreKeyLines (record { news = []; boxes = [] })
no_key_lines = record { news = tt; boxes = tt; few_news = omega arith; few_boxes = omega arith }
