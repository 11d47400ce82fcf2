use Rattle.std.proofs.Common.{◌≡◌, ◌<◌, ◌++◌, ◌∷◌, [], length, List, Err, sym, ap, subst, ◌∙◌, rules}
use Rattle.link_graph.specs.Held.{Held}
use Rattle.team_model.specs.declared.terms.Link.{Link}
use Rattle.link_text.specs.LinkText.{text, IsValid}
use Rattle.team_files.specs.Frames.{frames, MayFollow}
use Rattle.team_files.proofs.Runs.{next_link, short, order_more, not_bad, left_bad, spelled_more, all_more_is}
use Rattle.team_files.proofs.holding.hold_frames.Goals as goal

pub returns-in_default-clause-bad : goal.returns-in_default-clause-bad
returns-in_default-clause-bad c = λ same all are e.
    let was = c.loop-rest.invariant.only all are e in
    let some : 0 < length c.loop-rest.rest.now = search rules in
    let next = next_link c.args.team all c.loop-rest.graph.links c.loop-rest.rest.now was.0 are was.1 was.2 some in
    c.in_default.ensures.only (text next.0) (frames next.1) (short _ _ next.4) next.3

pub returns-in_err-link-clause-bad : goal.returns-in_err-link-clause-bad
returns-in_err-link-clause-bad c = λ same all are e.
    let was = c.loop-rest.invariant.only all are e in
    let some : 0 < length c.loop-rest.rest.now = search rules in
    let next = next_link c.args.team all c.loop-rest.graph.links c.loop-rest.rest.now was.0 are was.1 was.2 some in
    let split = c.in-Some.ensures.only (text next.0) (frames next.1) (short _ _ next.4) next.3 in
    let read = c.in_err-link.ensures.only next.0 (subst (λ b. IsValid c.args.team b next.0) (sym split.0) next.4) in
    not_bad next.0 c.in_err-link.field-0.0 (left_bad c.from_residual.result c.in_err-link.field-0.0 c.from_residual.ensures.1 same) read

pub returns-in_err-hold_next-clause-bad : goal.returns-in_err-hold_next-clause-bad
returns-in_err-hold_next-clause-bad c = λ same all are e.
    let was = c.loop-rest.invariant.only all are e in
    let some : 0 < length c.loop-rest.rest.now = search rules in
    let next = next_link c.args.team all c.loop-rest.graph.links c.loop-rest.rest.now was.0 are was.1 was.2 some in
    let split = c.in-Some.ensures.only (text next.0) (frames next.1) (short _ _ next.4) next.3 in
    let read : c.in_ok-link.link ≡ next.0 = c.in_ok-link.ensures.only next.0 (subst (λ b. IsValid c.args.team b next.0) (sym split.0) next.4) in
    c.in_err-hold_next.ensures.bad (ap Err (left_bad c.from_residual-in_err-hold_next.result c.in_err-hold_next.field-0.0 c.from_residual-in_err-hold_next.ensures.1 same))
    (subst (MayFollow c.loop-rest.graph.links) (sym read) next.5)

pub loop-rest-preserved : goal.loop-rest-preserved
loop-rest-preserved c =
    let some : 0 < length c.loop-rest.rest.now = search rules in
    let links = c.loop-rest.graph.links in
    let link = c.in_ok-link.link in
    let valid = c.in_ok-link.ensures.found in
    let inner : c.in-Some.inner.now ≡ text link = valid.reads.is_text in
    let new : c.hold_next.new.graph.links ≡ links ++ link ∷ [] = ap (λ (h : Held). h.links) c.in_ok-hold_next.ensures.ok in
    record {
      team = ap (λ (h : Held). h.team) c.in_ok-hold_next.ensures.ok ∙ c.loop-rest.invariant.team;
      order = rw new (order_more c.args.team links link c.loop-rest.invariant.order (subst (λ b. IsValid c.args.team b link) inner valid) c.in_ok-hold_next.ensures.may);
      spelled = rw new (spelled_more _ _ _ _ links link c.loop-rest.invariant.spelled c.in-Some.ensures.found inner);
      only = λ all are e.
          let was = c.loop-rest.invariant.only all are e in
          let next = next_link c.args.team all links c.loop-rest.rest.now was.0 are was.1 was.2 some in
          let split = c.in-Some.ensures.only (text next.0) (frames next.1) (short _ _ next.4) next.3 in
          let read : link ≡ next.0 = c.in_ok-link.ensures.only next.0 (subst (λ b. IsValid c.args.team b next.0) (sym split.0) next.4) in
          (next.1, all_more_is _ _ _ _ _ _ next.2 new read, split.1);
    }
