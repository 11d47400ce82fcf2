use Rattle.std.proofs.Common.{◌≡◌, ℕ, List, ◌++◌, Option, Some, sym, ap, ◌∙◌, rules}
use Rattle.std.specs.Option.{ok_or}
use Rattle.tg_text.specs.Spelling.{spell_hex, IsHash}
use Rattle.link_text.proofs.Fields.{parents}
use Rattle.link_text.proofs.Repeated.{next_one}
use Rattle.head_sync.specs.Messages.{name_lines}
use Rattle.head_sync.specs.declared.fault.ReadFault.TheVariants.{BadMessage}
use Rattle.head_sync.proofs.NameLines.{all_taken}
use Rattle.head_sync.proofs.reading.next_name_lines.Goals as goal

pub returns-in_err-name-in-Some : goal.returns-in_err-name-in-Some
returns-in_err-name-in-Some c = record {
  found = search rules;
  only = λ names rest are none e.
      let n = next_one IsHash (λ name. spell_hex name) c.args.word.now parents c.each.names c.in-Some.field.now c.take_field.new.self names rest c.each.invariant.are are none c.in-Some.ensures.some.0
      (sym (c.each.invariant.text ∙ ap (λ (t : List ℕ). name_lines c.args.word.now c.each.names ++ t) c.in-Some.ensures.some.1) ∙ e) in
      let read : c.read_name.result ≡ Some n.0 = c.read_name.ensures.only n.0 n.1 n.2 in
      let h = sym (ap (λ (r : Option (List ℕ)). ok_or r BadMessage) read) ∙ sym c.ok_or.ensures.value ∙ c.in_err-name-in-Some.was in
      absurd (cc);
}

pub returns-in-None : goal.returns-in-None
returns-in-None c =
    all_taken c.args.word.now c.each.names c.args.lines.now c.each.lines c.take_field.new.self c.each.invariant.are c.each.invariant.text
    c.in-None.ensures.none c.in-None.ensures.stays
