use Rattle.std.proofs.Common.{◌≡◌, Err, sym, ◌∙◌, ap, subst, List}
use Rattle.team_sets.specs.Names.{Name}
use Rattle.link_text.specs.TeamFile.{by_name, IsFileOf}
use Rattle.team_files.specs.Frames.{frames, AreInOrder}
use Rattle.team_files.proofs.Lines.{some_none, some_some}
use Rattle.team_files.proofs.Runs.{left_bad}
use Rattle.team_files.proofs.Files.{in_order, by_name-stays, file_of}
use Rattle.team_files.proofs.holding.read_graph.Goals as goal

pub returns-in_default-clause-bad : goal.returns-in_default-clause-bad
returns-in_default-clause-bad c = λ same t links file.
    let only = c.next_header.ensures.only t (frames (by_name links)) file.held.team (c.new-lines.ensures ∙ file.is_text) in
    some_none _ _ only.0 c.in_default.is

pub returns-in_err-graph-clause-bad : goal.returns-in_err-graph-clause-bad
returns-in_err-graph-clause-bad c = λ same t links file.
    let only = c.next_header.ensures.only t (frames (by_name links)) file.held.team (c.new-lines.ensures ∙ file.is_text) in
    let team = some_some _ _ _ only.0 c.in-Some.is in
    c.in_err-graph.ensures.bad (ap Err (left_bad c.from_residual.result c.in_err-graph.field-0.0 c.from_residual.ensures.1 same)) (by_name links)
    (subst (λ (u : Name). AreInOrder u (by_name links)) (sym team) (in_order t links file.held)) (c.rest.ensures ∙ only.1)

pub returns-clause-found : goal.returns-clause-found
returns-clause-found c =
    let file = file_of c.args.bytes.now c.in-Some.team c.next_header.new.lines c.in_ok-graph.graph.links c.in-Some.ensures.found.0 (sym c.new-lines.ensures ∙ c.in-Some.ensures.found.1)
    (sym c.rest.ensures ∙ c.in_ok-graph.ensures.spelled) c.in_ok-graph.ensures.found c.if-bytes-gt-MOST_FILE_BYTES.false in
    subst (λ (t : Name). IsFileOf c.args.bytes.now t c.in_ok-graph.graph.links) (sym c.in_ok-graph.ensures.team) file

pub returns-clause-ascending : goal.returns-clause-ascending
returns-clause-ascending c = by_name-stays c.in-Some.team c.in_ok-graph.graph.links c.in_ok-graph.ensures.found
