use Rattle.std.proofs.Common.{sym, ◌∙◌, ◌++◌, ap, ℕ, List, Option, rules}
use Rattle.std.specs.Option.{ok_or}
use Rattle.head_sync.specs.Messages.{content_text, kind_line, team_line}
use Rattle.head_sync.specs.declared.fault.ReadFault.TheVariants.{BadMessage}
use Rattle.head_sync.specs.declared.message.Kind.{Kind}
use Rattle.head_sync.proofs.ReadParts.{kind_of, some_missed}
use Rattle.head_sync.proofs.reading.read_message.Goals as goal

pub returns-in_err-kind : goal.returns-in_err-kind
returns-in_err-kind c = record {
  found = search rules;
  only = λ team content is.
      let k = kind_of content in
      let taken = c.next_kind.ensures.only k.0 (team_line team ++ content_text content) tt
      (c.new-lines.ensures ∙ is.is_text ∙ ap (λ (w : List ℕ). kind_line w ++ (team_line team ++ content_text content)) k.1) in
      absurd (some_missed c.next_kind.result k.0 BadMessage _ taken.0 (sym c.ok_or.ensures.value ∙ c.in_err-kind.was));
}

pub returns-in_err-team : goal.returns-in_err-team
returns-in_err-team c = record {
  found = search rules;
  only = λ team content is.
      let k = kind_of content in
      let taken = c.next_kind.ensures.only k.0 (team_line team ++ content_text content) tt
      (c.new-lines.ensures ∙ is.is_text ∙ ap (λ (w : List ℕ). kind_line w ++ (team_line team ++ content_text content)) k.1) in
      let next = c.next_team.ensures.only team (content_text content) is.team taken.1 in
      absurd (some_missed c.next_team.result team BadMessage _ next.0 (sym c.ok_or-2.ensures.value ∙ c.in_err-team.was));
}
