use Rattle.std.proofs.Common.{◌≡◌, ◌<◌, true≢false, ◌++◌, ◌∷◌, [], length, Err, List, sym, ap, append-nil, subst, rules, ◌∙◌}
use Rattle.std.proofs.lemmas.List.{nil_from_length}
use Rattle.team_model.specs.declared.terms.Link.{Link}
use Rattle.link_text.specs.LinkText.{text, IsValid}
use Rattle.team_files.specs.Frames.{frames, MayFollow}
use Rattle.team_files.proofs.Runs.{short, not_bad, left_bad}
use Rattle.team_files.proofs.Places.{at_front, front, next_of, none_read, read_more, stands-read}
use Rattle.team_files.proofs.reading.read_frames.Goals as goal

pub returns-in_default-clause-bad : goal.returns-in_default-clause-bad
returns-in_default-clause-bad c = λ same all are e.
    let read = c.loop-rest.invariant.1 in
    let some : 0 < length c.loop-rest.rest.now = search rules in
    let next = next_of c.args.team.now c.args.bytes.now c.requires.0 c.args.at_end.now c.loop-rest.rest.now c.loop-rest.places c.loop-rest.last c.loop-rest.invariant.0 c.requires.1 read all are e some in
    c.in_default.ensures.only (text next.0) (frames next.1) (short _ _ next.4) next.3

pub returns-in_err-link-clause-bad : goal.returns-in_err-link-clause-bad
returns-in_err-link-clause-bad c = λ same all are e.
    let read = c.loop-rest.invariant.1 in
    let some : 0 < length c.loop-rest.rest.now = search rules in
    let next = next_of c.args.team.now c.args.bytes.now c.requires.0 c.args.at_end.now c.loop-rest.rest.now c.loop-rest.places c.loop-rest.last c.loop-rest.invariant.0 c.requires.1 read all are e some in
    let split = c.in-Some.ensures.only (text next.0) (frames next.1) (short _ _ next.4) next.3 in
    let told = c.in_err-link.ensures.only next.0 (subst (λ b. IsValid c.args.team.now b next.0) (sym split.0) next.4) in
    not_bad next.0 c.in_err-link.field-0.0 (left_bad c.from_residual.result c.in_err-link.field-0.0 c.from_residual.ensures.1 same) told

pub returns-then-not-may_stand-clause-bad : goal.returns-then-not-may_stand-clause-bad
returns-then-not-may_stand-clause-bad c = λ same all are e.
    let read = c.loop-rest.invariant.1 in
    let links = c.loop-rest.invariant.0 in
    let some : 0 < length c.loop-rest.rest.now = search rules in
    let next = next_of c.args.team.now c.args.bytes.now c.requires.0 c.args.at_end.now c.loop-rest.rest.now c.loop-rest.places c.loop-rest.last links c.requires.1 read all are e some in
    let split = c.in-Some.ensures.only (text next.0) (frames next.1) (short _ _ next.4) next.3 in
    let told : c.in_ok-link.link ≡ next.0 = c.in_ok-link.ensures.only next.0 (subst (λ b. IsValid c.args.team.now b next.0) (sym split.0) next.4) in
    let stands = stands-read c.args.team.now c.args.bytes.now c.requires.0 c.args.at_end.now c.loop-rest.rest.now c.loop-rest.places c.loop-rest.last links c.requires.1 read
    c.len.result c.in_ok-link.link c.may_stand.result c.len.ensures c.may_stand.ensures in
    true≢false (sym (stands.1 (subst (λ (k : Link). MayFollow links k) (sym told) next.5)) ∙ c.if-not-may_stand.true)

pub loop-rest-init : goal.loop-rest-init
loop-rest-init c = ([], rw c.new-places.ensures (none_read c.args.team.now c.args.bytes.now c.args.at_end.now))

pub place_of-requires : goal.place_of-requires
place_of-requires c =
    let read = c.loop-rest.invariant.1 in
    let links = c.loop-rest.invariant.0 in (
      front c.args.team.now c.args.bytes.now c.requires.0 c.args.at_end.now c.loop-rest.rest.now c.loop-rest.places c.loop-rest.last links c.requires.1 read
          c.in-Some.inner.now c.in-Some.after.now c.in_ok-link.link c.in-Some.ensures.found c.in_ok-link.ensures.found,
      at_front c.args.team.now c.args.bytes.now c.requires.0 c.args.at_end.now c.loop-rest.rest.now c.loop-rest.places c.loop-rest.last links c.requires.1 read
          c.in-Some.inner.now c.in-Some.after.now c.in_ok-link.link c.in-Some.ensures.found c.in_ok-link.ensures.found,
    )

pub loop-rest-preserved : goal.loop-rest-preserved
loop-rest-preserved c =
    let read = c.loop-rest.invariant.1 in
    let links = c.loop-rest.invariant.0 in
    let some : 0 < length c.loop-rest.rest.now = search rules in
    let link = c.in_ok-link.link in
    let stands = stands-read c.args.team.now c.args.bytes.now c.requires.0 c.args.at_end.now c.loop-rest.rest.now c.loop-rest.places c.loop-rest.last links c.requires.1 read
    c.len.result link c.may_stand.result c.len.ensures c.may_stand.ensures in
    let may : MayFollow links link = stands.0 c.if-not-may_stand.false in (
      links ++ link ∷ [],
      rw c.in_ok-push.ensures.ok
          (read_more c.args.team.now c.args.bytes.now c.requires.0 c.args.at_end.now c.loop-rest.rest.now c.loop-rest.places c.loop-rest.last links c.requires.1 read
          c.in-Some.inner.now c.in-Some.after.now link c.in-Some.ensures.found c.in_ok-link.ensures.found may some c.place_of.result c.place_of.ensures
          (λ l others e valid.
          let split = c.in-Some.ensures.only (text l) (frames others) (short _ _ valid) e in
          (c.in_ok-link.ensures.only l (subst (λ b. IsValid c.args.team.now b l) (sym split.0) valid), split.1))),
    )

pub returns-clause-found : goal.returns-clause-found
returns-clause-found c =
    let read = c.loop-rest.invariant.1 in
    let links = c.loop-rest.invariant.0 in
    let none : c.loop-rest.rest.now ≡ [] = let zero : length c.loop-rest.rest.now ≡ 0 = search rules in nil_from_length c.loop-rest.rest.now zero in
    (links, read.order, read.spelled ∙ ap (λ (r : List _). frames links ++ r) none ∙ append-nil (frames links), read.texts)
