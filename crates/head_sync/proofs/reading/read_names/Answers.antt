use Rattle.std.proofs.Common.{◌≡◌, ◌==◌, ℕ, List, [], length, sym, ap, ◌∙◌, append-nil, true≢false, rules}
use Rattle.head_sync.specs.Messages.{name_lines}
use Rattle.head_sync.proofs.NameLines.{no_line}
use Rattle.head_sync.proofs.reading.read_names.Goals as goal

pub returns-in_err-names : goal.returns-in_err-names
returns-in_err-names c = record {
  found = search rules;
  only = λ names is e.
      let fault = c.in_err-names.ensures.only names [] is (no_line c.args.word.now) (c.new-lines.ensures ∙ e ∙ sym (append-nil (name_lines c.args.word.now names))) in
      search (rules, fault);
}

pub returns-then-not-is_empty : goal.returns-then-not-is_empty
returns-then-not-is_empty c = record {
  found = search rules;
  only = λ names is e.
      let taken = c.in_ok-names.ensures.only names [] is (no_line c.args.word.now) (c.new-lines.ensures ∙ e ∙ sym (append-nil (name_lines c.args.word.now names))) in
      let empty : c.rest.result.now ≡ [] = c.rest.ensures ∙ taken.1 in
      absurd (true≢false (ap (λ (t : List ℕ). length t == 0) (sym empty) ∙ sym c.is_empty.ensures ∙ c.if-not-is_empty.true));
}
