use Rattle.std.proofs.Common.{◌≡◌, ◌==◌, List, ℕ, [], ◌++◌, length, flat_map, sym, ap, ◌∙◌, true≢false, append-nil, rules}
use Rattle.std.proofs.lemmas.List.{append_cancel_left}
use Rattle.tg_text.specs.Spelling.{line_of}
use Rattle.link_text.specs.LinkText.{first_line, team_line, prev_line, user_line, key_line, time_line, act_line, sign_line}
use Rattle.link_text.specs.Takes.{key_lines}
use Rattle.link_text.proofs.Texts.{from_team, from_prev, from_user, from_key, from_time, from_act, from_news, from_sign, text_parts, user_first, sign_first, link_of, link_once, joined, is_nil}
use Rattle.link_text.proofs.reading.read_fields.Goals as goal

pub returns-in_default-clause-only : goal.returns-in_default-clause-only
returns-in_default-clause-only c = λ l f. absurd (c.in_default.ensures (from_team l) (f.is_text ∙ text_parts l))

pub returns-in_err-team-clause-only : goal.returns-in_err-team-clause-only
returns-in_err-team-clause-only c = λ l f.
    let e0 : c.new-lines.result ≡ from_team l = c.new-lines.ensures ∙ append_cancel_left (line_of first_line) c.in-Some.rest.now (from_team l) (sym c.in-Some.ensures ∙ f.is_text ∙ text_parts l) in
    let fault = c.in_err-team.ensures.only l.team (from_prev l) f.fields.team e0 in
    search (rules, fault)

pub returns-in_err-prev-clause-only : goal.returns-in_err-prev-clause-only
returns-in_err-prev-clause-only c = λ l f.
    let e0 : c.new-lines.result ≡ from_team l = c.new-lines.ensures ∙ append_cancel_left (line_of first_line) c.in-Some.rest.now (from_team l) (sym c.in-Some.ensures ∙ f.is_text ∙ text_parts l) in
    let e1 = (c.in_ok-team.ensures.only l.team (from_prev l) f.fields.team e0).1 in
    let fault = c.in_err-prev.ensures.only l.prev (from_user l) f.fields.parents (user_first l) e1 in
    search (rules, fault)

pub returns-in_err-user-clause-only : goal.returns-in_err-user-clause-only
returns-in_err-user-clause-only c = λ l f.
    let e0 : c.new-lines.result ≡ from_team l = c.new-lines.ensures ∙ append_cancel_left (line_of first_line) c.in-Some.rest.now (from_team l) (sym c.in-Some.ensures ∙ f.is_text ∙ text_parts l) in
    let e1 = (c.in_ok-team.ensures.only l.team (from_prev l) f.fields.team e0).1 in
    let e2 = (c.in_ok-prev.ensures.only l.prev (from_user l) f.fields.parents (user_first l) e1).1 in
    let fault = c.in_err-user.ensures.only l.entry.user (from_key l) f.fields.user e2 in
    search (rules, fault)

pub returns-in_err-key-clause-only : goal.returns-in_err-key-clause-only
returns-in_err-key-clause-only c = λ l f.
    let e0 : c.new-lines.result ≡ from_team l = c.new-lines.ensures ∙ append_cancel_left (line_of first_line) c.in-Some.rest.now (from_team l) (sym c.in-Some.ensures ∙ f.is_text ∙ text_parts l) in
    let e1 = (c.in_ok-team.ensures.only l.team (from_prev l) f.fields.team e0).1 in
    let e2 = (c.in_ok-prev.ensures.only l.prev (from_user l) f.fields.parents (user_first l) e1).1 in
    let e3 = (c.in_ok-user.ensures.only l.entry.user (from_key l) f.fields.user e2).1 in
    let fault = c.in_err-key.ensures.only l.key (from_time l) f.fields.key e3 in
    search (rules, fault)

pub returns-in_err-time-clause-only : goal.returns-in_err-time-clause-only
returns-in_err-time-clause-only c = λ l f.
    let e0 : c.new-lines.result ≡ from_team l = c.new-lines.ensures ∙ append_cancel_left (line_of first_line) c.in-Some.rest.now (from_team l) (sym c.in-Some.ensures ∙ f.is_text ∙ text_parts l) in
    let e1 = (c.in_ok-team.ensures.only l.team (from_prev l) f.fields.team e0).1 in
    let e2 = (c.in_ok-prev.ensures.only l.prev (from_user l) f.fields.parents (user_first l) e1).1 in
    let e3 = (c.in_ok-user.ensures.only l.entry.user (from_key l) f.fields.user e2).1 in
    let e4 = (c.in_ok-key.ensures.only l.key (from_time l) f.fields.key e3).1 in
    let fault = c.in_err-time.ensures.only l.entry.time (from_act l) f.fields.time e4 in
    search (rules, fault)

pub returns-in_err-act-clause-only : goal.returns-in_err-act-clause-only
returns-in_err-act-clause-only c = λ l f.
    let e0 : c.new-lines.result ≡ from_team l = c.new-lines.ensures ∙ append_cancel_left (line_of first_line) c.in-Some.rest.now (from_team l) (sym c.in-Some.ensures ∙ f.is_text ∙ text_parts l) in
    let e1 = (c.in_ok-team.ensures.only l.team (from_prev l) f.fields.team e0).1 in
    let e2 = (c.in_ok-prev.ensures.only l.prev (from_user l) f.fields.parents (user_first l) e1).1 in
    let e3 = (c.in_ok-user.ensures.only l.entry.user (from_key l) f.fields.user e2).1 in
    let e4 = (c.in_ok-key.ensures.only l.key (from_time l) f.fields.key e3).1 in
    let e5 = (c.in_ok-time.ensures.only l.entry.time (from_act l) f.fields.time e4).1 in
    let fault = c.in_err-act.ensures.only l.entry.act (from_news l) f.fields.act e5 in
    search (rules, fault)

pub returns-in_err-key_lines-clause-only : goal.returns-in_err-key_lines-clause-only
returns-in_err-key_lines-clause-only c = λ l f.
    let e0 : c.new-lines.result ≡ from_team l = c.new-lines.ensures ∙ append_cancel_left (line_of first_line) c.in-Some.rest.now (from_team l) (sym c.in-Some.ensures ∙ f.is_text ∙ text_parts l) in
    let e1 = (c.in_ok-team.ensures.only l.team (from_prev l) f.fields.team e0).1 in
    let e2 = (c.in_ok-prev.ensures.only l.prev (from_user l) f.fields.parents (user_first l) e1).1 in
    let e3 = (c.in_ok-user.ensures.only l.entry.user (from_key l) f.fields.user e2).1 in
    let e4 = (c.in_ok-key.ensures.only l.key (from_time l) f.fields.key e3).1 in
    let e5 = (c.in_ok-time.ensures.only l.entry.time (from_act l) f.fields.time e4).1 in
    let e6 = (c.in_ok-act.ensures.only l.entry.act (from_news l) f.fields.act e5).1 in
    let fault = c.in_err-key_lines.ensures.only l.entry.lines (from_sign l) f.fields.key_lines (sign_first l) e6 in
    search (rules, fault)

pub returns-in_err-signature-clause-only : goal.returns-in_err-signature-clause-only
returns-in_err-signature-clause-only c = λ l f.
    let e0 : c.new-lines.result ≡ from_team l = c.new-lines.ensures ∙ append_cancel_left (line_of first_line) c.in-Some.rest.now (from_team l) (sym c.in-Some.ensures ∙ f.is_text ∙ text_parts l) in
    let e1 = (c.in_ok-team.ensures.only l.team (from_prev l) f.fields.team e0).1 in
    let e2 = (c.in_ok-prev.ensures.only l.prev (from_user l) f.fields.parents (user_first l) e1).1 in
    let e3 = (c.in_ok-user.ensures.only l.entry.user (from_key l) f.fields.user e2).1 in
    let e4 = (c.in_ok-key.ensures.only l.key (from_time l) f.fields.key e3).1 in
    let e5 = (c.in_ok-time.ensures.only l.entry.time (from_act l) f.fields.time e4).1 in
    let e6 = (c.in_ok-act.ensures.only l.entry.act (from_news l) f.fields.act e5).1 in
    let e7 = (c.in_ok-key_lines.ensures.only l.entry.lines (from_sign l) f.fields.key_lines (sign_first l) e6).1 in
    let fault = c.in_err-signature.ensures.only l.signature [] f.fields.signature_bytes (e7 ∙ sym (append-nil (from_sign l))) in
    search (rules, fault)

pub returns-then-not-is_empty-clause-only : goal.returns-then-not-is_empty-clause-only
returns-then-not-is_empty-clause-only c = λ l f.
    let e0 : c.new-lines.result ≡ from_team l = c.new-lines.ensures ∙ append_cancel_left (line_of first_line) c.in-Some.rest.now (from_team l) (sym c.in-Some.ensures ∙ f.is_text ∙ text_parts l) in
    let e1 = (c.in_ok-team.ensures.only l.team (from_prev l) f.fields.team e0).1 in
    let e2 = (c.in_ok-prev.ensures.only l.prev (from_user l) f.fields.parents (user_first l) e1).1 in
    let e3 = (c.in_ok-user.ensures.only l.entry.user (from_key l) f.fields.user e2).1 in
    let e4 = (c.in_ok-key.ensures.only l.key (from_time l) f.fields.key e3).1 in
    let e5 = (c.in_ok-time.ensures.only l.entry.time (from_act l) f.fields.time e4).1 in
    let e6 = (c.in_ok-act.ensures.only l.entry.act (from_news l) f.fields.act e5).1 in
    let e7 = (c.in_ok-key_lines.ensures.only l.entry.lines (from_sign l) f.fields.key_lines (sign_first l) e6).1 in
    let e8 = (c.in_ok-signature.ensures.only l.signature [] f.fields.signature_bytes (e7 ∙ sym (append-nil (from_sign l)))).1 in
    let empty : c.rest.result.now ≡ [] = c.rest.ensures ∙ e8 in
    absurd (true≢false (ap (λ (t : List ℕ). length t == 0) (sym empty) ∙ sym c.is_empty.ensures ∙ c.if-not-is_empty.true))

pub returns-clause-found : goal.returns-clause-found
returns-clause-found c =
    let link = link_of c.in_ok-team.team c.in_ok-prev.prev c.in_ok-key.key c.in_ok-user.user c.device_of.result c.in_ok-time.time c.in_ok-act.act c.in_ok-key_lines.key_lines
    c.in_ok-signature.signature c.args.name in
    let nil : c.next_signature.new.lines ≡ [] = sym c.rest.ensures ∙ is_nil c.rest.result.now (sym c.is_empty.ensures ∙ c.if-not-is_empty.false) in
    record {
      is_text = joined c.args.bytes.now (line_of first_line) (team_line c.in_ok-team.team) (flat_map prev_line c.in_ok-prev.prev) (user_line c.in_ok-user.user) (key_line c.in_ok-key.key)
          (time_line c.in_ok-time.time) (act_line c.in_ok-act.act) (key_lines c.in_ok-key_lines.key_lines) (sign_line c.in_ok-signature.signature) c.new-lines.result c.next_team.new.lines c.next_parents.new.lines c.next_user.new.lines
          c.next_key.new.lines c.next_time.new.lines c.next_act.new.lines c.next_key_lines.new.lines c.next_signature.new.lines
          (c.in-Some.ensures ∙ ap (λ (t : List ℕ). line_of first_line ++ t) (sym c.new-lines.ensures)) c.in_ok-team.ensures.found.1 c.in_ok-prev.ensures.found.1 c.in_ok-user.ensures.found.1
          c.in_ok-key.ensures.found.1 c.in_ok-time.ensures.found.1 c.in_ok-act.ensures.found.1 c.in_ok-key_lines.ensures.found.1 c.in_ok-signature.ensures.found.1 nil
          ∙ sym (text_parts link);
      name = c.requires.named;
      fields = record {
        team = c.in_ok-team.ensures.found.0;
        parents = c.in_ok-prev.ensures.found.0;
        user = c.in_ok-user.ensures.found.0;
        key = c.in_ok-key.ensures.found.0;
        device = c.device_of.ensures;
        time = c.in_ok-time.ensures.found.0;
        act = c.in_ok-act.ensures.found.0;
        key_lines = c.in_ok-key_lines.ensures.found.0;
        signature_bytes = c.in_ok-signature.ensures.found.0;
      };
    }

pub returns-clause-only : goal.returns-clause-only
returns-clause-only c = λ l f. sym (link_once c.args.bytes.now l _ f (returns-clause-found c))
