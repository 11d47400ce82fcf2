use Rattle.std.proofs.Common.{◌≡◌, ◌==◌, ◌<◌, ℕ, List, ◌++◌, length, codes, refl, sym, ap, ◌∙◌, subst, rules, true≢false, arith}
use Rattle.team_sets.specs.Names.{Name}
use Rattle.head_sync.specs.Messages.{Content, IsContent, ask, content_text, name_lines}
use Rattle.head_sync.proofs.KindWords.{as_ask}
use Rattle.head_sync.proofs.NameLines.{no_name}
use Rattle.head_sync.proofs.ReadParts.{none_left, some_left}
use Rattle.head_sync.proofs.reading.read_ask.Goals as goal

pub returns-in_err-names : goal.returns-in_err-names
returns-in_err-names c = record {
  found = search rules;
  only = λ y is e.
      let a = as_ask y is.0 in
      let range : IsContent (ask a.0 a.1) = subst IsContent a.2 is.1 in
      let fault = c.in_err-names.ensures.only a.0 (name_lines (codes "mark") a.1) range.0 (no_name a.1) (c.new-lines.ensures ∙ e ∙ ap content_text a.2) in
      search (rules, fault);
}

pub returns-in_err-marks : goal.returns-in_err-marks
returns-in_err-marks c = record {
  found = search rules;
  only = λ y is e.
      let a = as_ask y is.0 in
      let range : IsContent (ask a.0 a.1) = subst IsContent a.2 is.1 in
      let taken = c.in_ok-names.ensures.only a.0 (name_lines (codes "mark") a.1) range.0 (no_name a.1) (c.new-lines.ensures ∙ e ∙ ap content_text a.2) in
      let fault = c.in_err-marks.ensures.only a.1 range.2 (c.rest.ensures ∙ taken.1) in
      search (rules, fault);
}

pub returns-then-is_empty : goal.returns-then-is_empty
returns-then-is_empty c = record {
  found = search rules;
  only = λ y is e.
      let a = as_ask y is.0 in
      let range : IsContent (ask a.0 a.1) = subst IsContent a.2 is.1 in
      let taken = c.in_ok-names.ensures.only a.0 (name_lines (codes "mark") a.1) range.0 (no_name a.1) (c.new-lines.ensures ∙ e ∙ ap content_text a.2) in
      let none : length c.in_ok-names.names ≡ 0 = none_left c.in_ok-names.names c.is_empty.result c.is_empty.ensures c.if-is_empty.true in
      let same : length c.in_ok-names.names ≡ length a.0 = ap length taken.0 in
      let some : 0 < length a.0 = range.1 in
      absurd (omega (arith, none, same, some));
}

pub returns : goal.returns
returns c =
    let names = c.in_ok-names.names in
    let marks = c.in_ok-marks.marks in
    let first = c.in_ok-names.ensures.found in
    let last = c.in_ok-marks.ensures.found in
    record {
      found = (
        (refl, (first.0, some_left names c.is_empty.result c.is_empty.ensures c.if-is_empty.false, last.0)),
        sym c.new-lines.ensures ∙ first.1 ∙ ap (λ (t : List ℕ). name_lines (codes "name") names ++ t) (sym c.rest.ensures ∙ last.1),
      );
      only = λ y is e.
          let a = as_ask y is.0 in
          let range : IsContent (ask a.0 a.1) = subst IsContent a.2 is.1 in
          let taken = c.in_ok-names.ensures.only a.0 (name_lines (codes "mark") a.1) range.0 (no_name a.1) (c.new-lines.ensures ∙ e ∙ ap content_text a.2) in
          let marked = c.in_ok-marks.ensures.only a.1 range.2 (c.rest.ensures ∙ taken.1) in
          ap (λ (ns : List Name). ask ns marks) taken.0 ∙ ap (λ (ms : List Name). ask a.0 ms) marked ∙ sym a.2;
    }
