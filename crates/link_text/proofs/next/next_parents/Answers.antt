use Rattle.std.proofs.Common.{◌≡◌, ℕ, List, ◌++◌, Option, Some, codes, flat_map, sym, ap, ◌∙◌, rules}
use Rattle.std.specs.Option.{ok_or}
use Rattle.tg_text.specs.Spelling.{spell_hex, IsHash}
use Rattle.link_text.specs.LinkText.{prev_line}
use Rattle.link_text.specs.declared.fault.LineFault.TheVariants.{BadText}
use Rattle.link_text.proofs.Fields.{parents}
use Rattle.link_text.proofs.Repeated.{ends, next_one}
use Rattle.link_text.proofs.next.next_parents.Goals as goal

pub returns-in_err-name-in-Some : goal.returns-in_err-name-in-Some
returns-in_err-name-in-Some c = record {
  found = search rules;
  only = λ names rest are none e.
      let n = next_one IsHash (λ name. spell_hex name) (codes "prev") parents c.each.parents c.in-Some.field.now c.take_field.new.self names rest c.each.invariant.are are none c.in-Some.ensures.some.0
      (sym (c.each.invariant.text ∙ ap (λ (t : List ℕ). flat_map prev_line c.each.parents ++ t) c.in-Some.ensures.some.1) ∙ e) in
      let read : c.read_hex32.result ≡ Some n.0 = c.read_hex32.ensures.only n.0 n.1 n.2 in
      let h = sym (ap (λ (r : Option (List ℕ)). ok_or r BadText) read) ∙ sym c.ok_or.ensures.value ∙ c.in_err-name-in-Some.was in
      absurd (cc);
}

pub returns-in-None : goal.returns-in-None
returns-in-None c =
    ends IsHash (λ name. spell_hex name) (codes "prev") parents c.each.parents c.args.lines.now c.each.lines c.take_field.new.self c.each.invariant.are c.each.invariant.text
    c.in-None.ensures.none c.in-None.ensures.stays
