use Rattle.std.proofs.Common.{◌∙◌, ◌++◌, ◌∷◌, [], sym, ap, subst, length}
use Rattle.std.specs.List.{AllByRecursion}
use Rattle.std.proofs.lemmas.Bool.{false≢true}
use Rattle.link_text.specs.LinkText.{IsValid, text}
use Rattle.link_graph.specs.Held.{Held, answer_of, arrived_of}
use Rattle.link_graph.specs.Taking.{HasText}
use Rattle.link_graph.specs.declared.take_fault.TakeFault.TheVariants.{TooLong, Memory}
use Rattle.link_graph.proofs.Answering.{failed, held, long_is_new, refused, taken}
use Rattle.link_graph.proofs.Exactly.{taken_so}
use Rattle.link_graph.proofs.Facts.{all_named}
use Rattle.link_graph.proofs.graph.Graph.take.Goals as goal

pub returns-then-bytes-gt-MOST_LINK_BYTES : goal.returns-then-bytes-gt-MOST_LINK_BYTES
returns-then-bytes-gt-MOST_LINK_BYTES c =
    let long = c.if-bytes-gt-MOST_LINK_BYTES.true in
    refused c.args.self.now c.args.bytes.now TooLong long (long_is_new c.args.self.now c.args.bytes.now c.is_held.ensures.valid long)

pub has_text-requires-clause-texts : goal.has_text-requires-clause-texts
has_text-requires-clause-texts c = all_named c.self.inside.team c.self.inside.web.holding c.self.invariant.valid

pub returns-then-has_text : goal.returns-then-has_text
returns-then-has_text c =
    let valid = subst (λ (h : Held). AllByRecursion (λ l. IsValid h.team (text l) l) h.links) c.self.view_is c.self.invariant.valid in
    let has = subst (λ (h : Held). HasText h.links c.args.bytes.now) c.self.view_is (c.has_text.ensures.0 c.if-has_text.true) in
    held c.args.self.now c.args.bytes.now valid has

pub returns-in_err-link : goal.returns-in_err-link
returns-in_err-link c =
    let new : ¬ (HasText c.args.self.now.links c.args.bytes.now) = λ has. false≢true (sym c.if-has_text.false ∙ c.has_text.ensures.1 (subst (λ (h : Held). HasText h.links c.args.bytes.now) (sym c.self.view_is) has)) in
    rw (failed c.from_residual.result c.in_err-link.field-0.0 c.from_residual.ensures.1) (refused c.args.self.now c.args.bytes.now c.in_err-link.field-0.0 c.in_err-link.ensures.fault new)

pub returns-in_err-took : goal.returns-in_err-took
returns-in_err-took c =
    let new : ¬ (HasText c.args.self.now.links c.args.bytes.now) = λ has. false≢true (sym c.if-has_text.false ∙ c.has_text.ensures.1 (subst (λ (h : Held). HasText h.links c.args.bytes.now) (sym c.self.view_is) has)) in
    rw (failed c.from_residual-in_err-took.result Memory c.from_residual-in_err-took.ensures.1, c.in_err-took.ensures.err)
    (refused c.args.self.now c.args.bytes.now Memory c.if-bytes-gt-MOST_LINK_BYTES.false new)

pub returns : goal.returns
returns c =
    let new : ¬ (HasText c.args.self.now.links c.args.bytes.now) = λ has. false≢true (sym c.if-has_text.false ∙ c.has_text.ensures.1 (subst (λ (h : Held). HasText h.links c.args.bytes.now) (sym c.self.view_is) has)) in
    let old = c.args.self.now in
    let link = c.in_ok-link.link in
    let read = c.in_ok-link.ensures in
    let done = c.in_ok-took.ensures in
    let so = taken_so old c.hold.new.self c.args.bytes.now c.in_ok-took.took (length (arrived_of old.links)) (length (arrived_of (old.links ++ link ∷ [])))
    (record {
      link = link;
      valid = read.valid;
      fresh = read.fresh;
      space = read.space;
      held = done.ok;
      answer = done.answer ∙ ap (λ (h : Held). answer_of old.links h.links) (sym done.ok);
    })
    done.answer in
    taken old c.args.bytes.now link read.valid read.fresh read.space new c.hold.new.self c.in_ok-took.took so
