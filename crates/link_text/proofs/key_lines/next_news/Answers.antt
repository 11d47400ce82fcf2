use Rattle.std.proofs.Common.{◌≡◌, ℕ, List, ◌++◌, Err, codes, flat_map, sym, ap, ◌∙◌, rules}
use Rattle.tg_text.specs.KeySpelling.{spell_key_id}
use Rattle.link_text.specs.KeyRanges.{IsNewKey}
use Rattle.link_text.specs.LinkText.{new_line}
use Rattle.link_text.specs.declared.fault.LineFault.TheVariants.{Memory}
use Rattle.link_text.proofs.Fields as fields
use Rattle.link_text.proofs.Repeated.{ends, next_one, not_bad}
use Rattle.link_text.proofs.key_lines.next_news.Goals as goal

pub returns-in_err-push_new-in-Some : goal.returns-in_err-push_new-in-Some
returns-in_err-push_new-in-Some c = record {
  found = search rules;
  only = λ keys rest are none e.
      let n = next_one IsNewKey spell_key_id (codes "new") fields.news c.each.news c.in-Some.field.now c.take_field.new.self keys rest c.each.invariant.are are none c.in-Some.ensures.some.0
      (sym (c.each.invariant.text ∙ ap (λ (t : List ℕ). flat_map new_line c.each.news ++ t) c.in-Some.ensures.some.1) ∙ e) in
      let fault : c.in_err-push_new-in-Some.field-0.0 ≡ Memory = not_bad c.in_err-push_new-in-Some.field-0.0 (λ bad. c.push_new.ensures.only (c.in_err-push_new-in-Some.was ∙ ap Err bad) n.0 n.1 n.2) in
      search (rules, fault);
}

pub returns-in-None : goal.returns-in-None
returns-in-None c =
    ends IsNewKey spell_key_id (codes "new") fields.news c.each.news c.args.lines.now c.each.lines c.take_field.new.self c.each.invariant.are c.each.invariant.text
    c.in-None.ensures.none c.in-None.ensures.stays
