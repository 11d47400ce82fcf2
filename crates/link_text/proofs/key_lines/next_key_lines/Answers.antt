use Rattle.std.proofs.Common.{ℕ, ◌≤◌, List, ◌++◌, length, flat_map, sym, ap, ◌∙◌, rules, arith}
use Rattle.link_text.specs.KeyRanges.{most_box_lines, most_new_lines}
use Rattle.link_text.specs.LinkText.{box_line, new_line}
use Rattle.link_text.proofs.Texts.{news_then, no_new, same_lines}
use Rattle.link_text.proofs.key_lines.next_key_lines.Goals as goal

pub returns-in_err-news : goal.returns-in_err-news
returns-in_err-news c = record {
  found = search rules;
  only = λ k rest are end e.
      let fault = c.in_err-news.ensures.only k.news (flat_map box_line k.boxes ++ rest) are.news (no_new k.boxes rest end.0) (e ∙ news_then k rest) in
      search (rules, fault);
}

pub returns-then-len-gt-NEWS : goal.returns-then-len-gt-NEWS
returns-then-len-gt-NEWS c = record {
  found = tt;
  only = λ k rest are end e.
      let news = c.in_ok-news.ensures.only k.news (flat_map box_line k.boxes ++ rest) are.news (no_new k.boxes rest end.0) (e ∙ news_then k rest) in
      let few : length c.in_ok-news.news ≤ most_new_lines = rw news.0 are.few_news in
      absurd (omega (arith, few, c.len.ensures, c.if-len-gt-NEWS.true));
}

pub returns-in_err-boxes : goal.returns-in_err-boxes
returns-in_err-boxes c = record {
  found = search rules;
  only = λ k rest are end e.
      let news = c.in_ok-news.ensures.only k.news (flat_map box_line k.boxes ++ rest) are.news (no_new k.boxes rest end.0) (e ∙ news_then k rest) in
      let fault = c.in_err-boxes.ensures.only k.boxes rest are.boxes end.1 news.1 in
      search (rules, fault);
}

pub returns-then-len-gt-BOXES : goal.returns-then-len-gt-BOXES
returns-then-len-gt-BOXES c = record {
  found = tt;
  only = λ k rest are end e.
      let news = c.in_ok-news.ensures.only k.news (flat_map box_line k.boxes ++ rest) are.news (no_new k.boxes rest end.0) (e ∙ news_then k rest) in
      let boxes = c.in_ok-boxes.ensures.only k.boxes rest are.boxes end.1 news.1 in
      let few : length c.in_ok-boxes.boxes ≤ most_box_lines = rw boxes.0 are.few_boxes in
      absurd (omega (arith, few, c.len-2.ensures, c.if-len-gt-BOXES.true));
}

pub returns : goal.returns
returns c = record {
  found = (
    record {
      news = c.in_ok-news.ensures.found.0;
      boxes = c.in_ok-boxes.ensures.found.0;
      few_news = omega (arith, c.len.ensures, c.if-len-gt-NEWS.false);
      few_boxes = omega (arith, c.len-2.ensures, c.if-len-gt-BOXES.false);
    },
    c.in_ok-news.ensures.found.1 ∙ ap (λ (t : List ℕ). flat_map new_line c.in_ok-news.news ++ t) c.in_ok-boxes.ensures.found.1
        ∙ sym (news_then (record { news = c.in_ok-news.news; boxes = c.in_ok-boxes.boxes }) c.next_boxes.new.lines),
  );
  only = λ k rest are end e.
      let news = c.in_ok-news.ensures.only k.news (flat_map box_line k.boxes ++ rest) are.news (no_new k.boxes rest end.0) (e ∙ news_then k rest) in
      let boxes = c.in_ok-boxes.ensures.only k.boxes rest are.boxes end.1 news.1 in
      (same_lines (record { news = c.in_ok-news.news; boxes = c.in_ok-boxes.boxes }) k news.0 boxes.0, boxes.1);
}
