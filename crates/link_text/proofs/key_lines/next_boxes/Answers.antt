use Rattle.std.proofs.Common.{◌≡◌, ℕ, List, ◌++◌, Option, Some, codes, flat_map, sym, ap, ◌∙◌, rules}
use Rattle.std.specs.Option.{ok_or}
use Rattle.tg_text.specs.declared.keys.BoxLine.{BoxLine}
use Rattle.link_text.specs.KeyRanges.{IsBoxLine}
use Rattle.link_text.specs.LinkText.{box_line, spell_box}
use Rattle.link_text.specs.declared.fault.LineFault.TheVariants.{BadText}
use Rattle.link_text.proofs.Fields as fields
use Rattle.link_text.proofs.Repeated.{ends, next_one}
use Rattle.link_text.proofs.key_lines.next_boxes.Goals as goal

pub returns-in_err-line-in-Some : goal.returns-in_err-line-in-Some
returns-in_err-line-in-Some c = record {
  found = search rules;
  only = λ lines rest are none e.
      let n = next_one IsBoxLine spell_box (codes "box") fields.boxes c.each.boxes c.in-Some.field.now c.take_field.new.self lines rest c.each.invariant.are are none c.in-Some.ensures.some.0
      (sym (c.each.invariant.text ∙ ap (λ (t : List ℕ). flat_map box_line c.each.boxes ++ t) c.in-Some.ensures.some.1) ∙ e) in
      let read : c.in_ok-read_box-in-Some.field-0 ≡ Some n.0 = c.in_ok-read_box-in-Some.ensures.only n.0 n.1 n.2 in
      let h = sym (ap (λ (r : Option BoxLine). ok_or r BadText) read) ∙ sym c.ok_or.ensures.value ∙ c.in_err-line-in-Some.was in
      absurd (cc);
}

pub returns-in-None : goal.returns-in-None
returns-in-None c =
    ends IsBoxLine spell_box (codes "box") fields.boxes c.each.boxes c.args.lines.now c.each.lines c.take_field.new.self c.each.invariant.are c.each.invariant.text
    c.in-None.ensures.none c.in-None.ensures.stays
