use Rattle.std.proofs.Common.{◌≡◌, ◌∙◌, [], ◌∷◌, ◌++◌, Bool, true, false, Option, Some, None, refl, sym, ap}
use Rattle.team_sets.specs.Names.{Name}
use Rattle.link_graph.specs.Held.{Held}
use Rattle.outcomes.specs.Steps.{saying}
use Rattle.author_commands.specs.Authoring.{by_found_text, found_text, posted, posting}
use Rattle.author_commands.specs.Refusals.{refusal_line}
use Rattle.author_commands.specs.declared.refusal.Refusal.TheVariants.{NameClash}
use Rattle.author_commands.proofs.Authored.{found_is, posts_as, refused_among, refuses_so}
use Rattle.author_commands.proofs.posting.post_link.Goals as goal

pub returns-in_ok-insert_new-in-None-clause-body : goal.returns-in_ok-insert_new-in-None-clause-body
returns-in_ok-insert_new-in-None-clause-body g c = λ link valid.
    let held : Held = c.args.replica.now in
    let file = c.args.file.now in
    let next : Held = record held { links = held.links ++ link ∷ [] } in
    let named : c.name_of-name.result ≡ link.name = c.name_of-name.ensures ∙ sym valid.reads.name in
    let found = rw (c.graph.ensures, c.name_of-name.ensures, c.in-None.is) at c.find_text.ensures in
    let same : posted file c.graph-in-None.result.now c.name_of-name.result ≡ posted file next link.name =
    ap (λ (h : Held). posted file h c.name_of-name.result) (c.graph-in-None.ensures ∙ c.in_ok-insert_new-in-None.ensures.ok link valid) ∙ ap (λ (n : Name). posted file next n) named in
    posts_as file held link None (posted file c.graph-in-None.result.now c.name_of-name.result) _ _ _ (sym (found_is held link c.args.text.now valid) ∙ sym found) same c.post.ensures.body

pub returns-in-Some-true-clause-body : goal.returns-in-Some-true-clause-body
returns-in-Some-true-clause-body g c = λ link valid.
    let held : Held = c.args.replica.now in
    let file = c.args.file.now in
    let named : c.name_of-name.result ≡ link.name = c.name_of-name.ensures ∙ sym valid.reads.name in
    let found = rw (c.graph.ensures, c.name_of-name.ensures, c.in-Some-true.is, c.in-Some-true.field-0-test) at c.find_text.ensures in
    let same : posted file c.graph-in-Some-true.result.now c.name_of-name.result ≡ posted file held link.name =
    ap (λ (h : Held). posted file h c.name_of-name.result) c.graph-in-Some-true.ensures ∙ ap (λ (n : Name). posted file held n) named in
    posts_as file held link (Some true) (posted file c.graph-in-Some-true.result.now c.name_of-name.result) _ _ _ (sym (found_is held link c.args.text.now valid) ∙ sym found) same c.post-in-Some-true.ensures.body

pub returns-in-Some-false-clause-body : goal.returns-in-Some-false-clause-body
returns-in-Some-false-clause-body g c = λ link valid.
    let held : Held = c.args.replica.now in
    let file = c.args.file.now in
    let name : Name = c.name_of-name.result in
    let named : name ≡ link.name = c.name_of-name.ensures ∙ sym valid.reads.name in
    let found = rw (c.graph.ensures, c.name_of-name.ensures, c.in-Some-false.is, c.in-Some-false.field-0-test) at c.find_text.ensures in
    let is : found_text held link ≡ Some false = sym (found_is held link c.args.text.now valid) ∙ sym found in
    refuses_so (posting file held link) _ _ (NameClash name) c.refuse.result c.refuse.ensures refl
    (λ w. ap (λ (n : Name). saying 4 (refusal_line (NameClash n))) named ∙ ap (λ (f : Option Bool). by_found_text file held link f) (sym is))

pub returns-in-Some-false-clause-status : goal.returns-in-Some-false-clause-status
returns-in-Some-false-clause-status g c = refused_among (NameClash c.name_of-name.result) c.refuse.result c.refuse.ensures
