use Rattle.std.proofs.Common.{◌≡◌, ◌∙◌, List, append-nil, true, false, ap, sym, rules}
use Rattle.tg_text.specs.declared.keys.BoxLine.{BoxLine}
use Rattle.tg_text.specs.declared.keys.KeyId.{KeyId}
use Rattle.key_reach.specs.Keys.{current_keys}
use Rattle.team_model.specs.KeyLines.{taken_boxes, taken_news, with_news}
use Rattle.team_model.specs.KeyTables.{key_table}
use Rattle.team_model.specs.State.{lists_device}
use Rattle.team_model.specs.Writes.{with_boxes}
use Rattle.team_model.proofs.Lined.{lined-listed, lined-unlisted, with_lines-are}
use Rattle.team_reducer.specs.News.{with_keys}
use Rattle.team_reducer.proofs.Taken.{others-taken}
use Rattle.team_reducer.proofs.lining.take_lines.Goals as goal

pub returns-then-not-lists-clause-lined : goal.returns-then-not-lists-clause-lined
returns-then-not-lists-clause-lined c =
    let s = c.args.state.now in
    let e = c.args.entry.now in
    let absent : lists_device s e.user e.device ≡ false = search rules in
    (λ i. with_boxes (c.in_ok-keyed.ensures i) (c.new.ensures.items i)) ∙ ap (λ (bs : List BoxLine). record s { boxes = bs }) (append-nil s.boxes) ∙ sym (lined-unlisted s e absent)

pub put_keys-requires : goal.put_keys-requires
put_keys-requires c = rw (c.as_slice-2.ensures.value, c.in_ok-news.ensures) (others-taken c.args.state.now c.args.entry.now c.as_slice-news.result.now)

pub returns-clause-lined : goal.returns-clause-lined
returns-clause-lined c =
    let s = c.args.state.now in
    let e = c.args.entry.now in
    let listed : lists_device s e.user e.device ≡ true = search rules in
    let news : c.as_slice-2.result.now ≡ taken_news s e e.lines.news = c.as_slice-2.ensures.value ∙ c.in_ok-news.ensures ∙ ap (λ (ks : List KeyId). taken_news s e ks) c.as_slice-news.ensures in
    let keyed : c.put_keys.new.state ≡ with_news s e e.lines.news = c.in_ok-put_keys.ensures ∙ (λ i. with_keys (c.in_ok-keyed.ensures i) (news i)) in
    let boxes : c.in_ok-boxes.boxes.items ≡ taken_boxes s (current_keys (key_table (with_news s e e.lines.news))) e.lines.boxes =
    c.in_ok-boxes.ensures ∙ (λ i. taken_boxes s (current_keys (key_table (keyed i))) (c.as_slice-boxes.ensures i)) in
    (λ i. with_boxes (keyed i) (boxes i)) ∙ sym (with_lines-are s e e.lines) ∙ sym (lined-listed s e listed)
