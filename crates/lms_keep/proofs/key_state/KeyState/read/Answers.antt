use Rattle.std.proofs.Common.{◌≡◌, ◌≤◌, ◌==◌, ℕ, List, [], ◌++◌, length, sym, ap, ◌∙◌, subst, true≢false, append-nil, arith}
use Rattle.tg_text.specs.Spelling.{line_of}
use Rattle.lms_keep.specs.KeyText.{first_line, user_line, kinds_line, id_line, seed_line, secret_line, next_line}
use Rattle.lms_keep.specs.declared.key_state.KeyState.{KeyState}
use Rattle.lms_keep.proofs.KindLaws.{none_some}
use Rattle.lms_keep.proofs.KeyLaws.{from_user, from_kinds, from_id, from_seed, from_secret, from_next, is_nil, joined, next_within, no_key, one_key, rest_is, text_parts}
use Rattle.lms_keep.proofs.key_state.KeyState.read.Goals as goal

pub returns-in_err-user : goal.returns-in_err-user
returns-in_err-user c = rw c.from_residual-in_err-user.ensures (no_key c.args.text.now (λ s is e.
    let e0 : c.new-lines.result ≡ from_user s = c.new-lines.ensures ∙ rest_is c.args.text.now c.in_ok-rest.rest.now s c.in_ok-rest.ensures e in
    none_some _ _ c.in_err-user.was (c.next_user.ensures.only s.user (from_kinds s) is.user e0).0))

pub returns-in_err-lms : goal.returns-in_err-lms
returns-in_err-lms c = rw c.from_residual-in_err-lms.ensures (no_key c.args.text.now (λ s is e.
    let e0 : c.new-lines.result ≡ from_user s = c.new-lines.ensures ∙ rest_is c.args.text.now c.in_ok-rest.rest.now s c.in_ok-rest.ensures e in
    let e1 = (c.next_user.ensures.only s.user (from_kinds s) is.user e0).1 in
    none_some _ _ c.in_err-lms.was (c.next_kinds.ensures.only (s.lms, s.ots) (from_id s) is.kinds e1).0))

pub returns-in_err-id : goal.returns-in_err-id
returns-in_err-id c = rw c.from_residual-in_err-id.ensures (no_key c.args.text.now (λ s is e.
    let e0 : c.new-lines.result ≡ from_user s = c.new-lines.ensures ∙ rest_is c.args.text.now c.in_ok-rest.rest.now s c.in_ok-rest.ensures e in
    let e1 = (c.next_user.ensures.only s.user (from_kinds s) is.user e0).1 in
    let e2 = (c.next_kinds.ensures.only (s.lms, s.ots) (from_id s) is.kinds e1).1 in
    none_some _ _ c.in_err-id.was (c.next_id.ensures.only s.id (from_seed s) is.id e2).0))

pub returns-in_err-seed : goal.returns-in_err-seed
returns-in_err-seed c = rw c.from_residual-in_err-seed.ensures (no_key c.args.text.now (λ s is e.
    let e0 : c.new-lines.result ≡ from_user s = c.new-lines.ensures ∙ rest_is c.args.text.now c.in_ok-rest.rest.now s c.in_ok-rest.ensures e in
    let e1 = (c.next_user.ensures.only s.user (from_kinds s) is.user e0).1 in
    let e2 = (c.next_kinds.ensures.only (s.lms, s.ots) (from_id s) is.kinds e1).1 in
    let e3 = (c.next_id.ensures.only s.id (from_seed s) is.id e2).1 in
    none_some _ _ c.in_err-seed.was (c.next_hash.ensures.only s.seed (from_secret s) is.seed e3).0))

pub returns-in_err-secret : goal.returns-in_err-secret
returns-in_err-secret c = rw c.from_residual-in_err-secret.ensures (no_key c.args.text.now (λ s is e.
    let e0 : c.new-lines.result ≡ from_user s = c.new-lines.ensures ∙ rest_is c.args.text.now c.in_ok-rest.rest.now s c.in_ok-rest.ensures e in
    let e1 = (c.next_user.ensures.only s.user (from_kinds s) is.user e0).1 in
    let e2 = (c.next_kinds.ensures.only (s.lms, s.ots) (from_id s) is.kinds e1).1 in
    let e3 = (c.next_id.ensures.only s.id (from_seed s) is.id e2).1 in
    let e4 = (c.next_hash.ensures.only s.seed (from_secret s) is.seed e3).1 in
    none_some _ _ c.in_err-secret.was (c.next_hash-2.ensures.only s.secret (from_next s) is.secret e4).0))

pub returns-in_err-next : goal.returns-in_err-next
returns-in_err-next c = rw c.from_residual-in_err-next.ensures (no_key c.args.text.now (λ s is e.
    let e0 : c.new-lines.result ≡ from_user s = c.new-lines.ensures ∙ rest_is c.args.text.now c.in_ok-rest.rest.now s c.in_ok-rest.ensures e in
    let e1 = (c.next_user.ensures.only s.user (from_kinds s) is.user e0).1 in
    let e2 = (c.next_kinds.ensures.only (s.lms, s.ots) (from_id s) is.kinds e1).1 in
    let e3 = (c.next_id.ensures.only s.id (from_seed s) is.id e2).1 in
    let e4 = (c.next_hash.ensures.only s.seed (from_secret s) is.seed e3).1 in
    let e5 = (c.next_hash-2.ensures.only s.secret (from_next s) is.secret e4).1 in
    let within : (0 ≤ s.next) × (s.next ≤ c.leaves_of.result) = (omega arith, next_within s c.in_ok-lms.lms c.in_ok-lms.ots c.leaves_of.result (c.in_ok-lms.ensures.only (s.lms, s.ots) (from_id s) is.kinds e1).0 c.leaves_of.ensures is.next) in
    none_some _ _ c.in_err-next.was (c.next_leaf.ensures.only s.next [] within (e5 ∙ sym (append-nil (from_next s)))).0))

pub returns-then-not-is_empty : goal.returns-then-not-is_empty
returns-then-not-is_empty c = no_key c.args.text.now (λ s is e.
    let e0 : c.new-lines.result ≡ from_user s = c.new-lines.ensures ∙ rest_is c.args.text.now c.in_ok-rest.rest.now s c.in_ok-rest.ensures e in
    let e1 = (c.next_user.ensures.only s.user (from_kinds s) is.user e0).1 in
    let e2 = (c.next_kinds.ensures.only (s.lms, s.ots) (from_id s) is.kinds e1).1 in
    let e3 = (c.next_id.ensures.only s.id (from_seed s) is.id e2).1 in
    let e4 = (c.next_hash.ensures.only s.seed (from_secret s) is.seed e3).1 in
    let e5 = (c.next_hash-2.ensures.only s.secret (from_next s) is.secret e4).1 in
    let within : (0 ≤ s.next) × (s.next ≤ c.leaves_of.result) = (omega arith, next_within s c.in_ok-lms.lms c.in_ok-lms.ots c.leaves_of.result (c.in_ok-lms.ensures.only (s.lms, s.ots) (from_id s) is.kinds e1).0 c.leaves_of.ensures is.next) in
    let e6 = (c.next_leaf.ensures.only s.next [] within (e5 ∙ sym (append-nil (from_next s)))).1 in
    let empty : c.rest.result.now ≡ [] = c.rest.ensures ∙ e6 in
    true≢false (ap (λ (t : List ℕ). length t == 0) (sym empty) ∙ sym c.is_empty.ensures ∙ c.if-not-is_empty.true))

pub returns : goal.returns
returns c =
    let key : KeyState = record {
      user = c.in_ok-user.user;
      lms = c.in_ok-lms.lms;
      ots = c.in_ok-lms.ots;
      id = c.in_ok-id.id;
      seed = c.in_ok-seed.seed;
      secret = c.in_ok-secret.secret;
      next = c.in_ok-next.next;
    } in
    let nil : c.next_leaf.new.lines ≡ [] = sym c.rest.ensures ∙ is_nil c.rest.result.now (sym c.is_empty.ensures ∙ c.if-not-is_empty.false) in
    one_key c.args.text.now key (record {
      user = c.in_ok-user.ensures.found.0;
      kinds = c.in_ok-lms.ensures.found.0;
      id = c.in_ok-id.ensures.found.0;
      seed = c.in_ok-seed.ensures.found.0;
      secret = c.in_ok-secret.ensures.found.0;
      next = subst (λ n. c.in_ok-next.next ≤ n) c.leaves_of.ensures c.in_ok-next.ensures.found.0.1;
    }) (joined c.args.text.now (line_of first_line) (user_line key.user) (kinds_line key.lms key.ots) (id_line key.id) (seed_line key.seed) (secret_line key.secret) (next_line key.next)
    c.new-lines.result c.next_user.new.lines c.next_kinds.new.lines c.next_id.new.lines c.next_hash.new.lines c.next_hash-2.new.lines c.next_leaf.new.lines
    (c.in_ok-rest.ensures ∙ ap (λ (t : List ℕ). line_of first_line ++ t) (sym c.new-lines.ensures)) c.in_ok-user.ensures.found.1 c.in_ok-lms.ensures.found.1 c.in_ok-id.ensures.found.1
    c.in_ok-seed.ensures.found.1 c.in_ok-secret.ensures.found.1 c.in_ok-next.ensures.found.1 nil
    ∙ sym (text_parts key))
