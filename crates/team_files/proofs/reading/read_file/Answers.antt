use Rattle.std.proofs.Common.{ℕ, List, ◌++◌, Err, sym, ◌∙◌, ap, subst}
use Rattle.link_text.specs.TeamFile.{by_name, header}
use Rattle.team_files.specs.Frames.{frames, AreInOrder}
use Rattle.team_files.proofs.Lines.{some_none, some_some}
use Rattle.team_files.proofs.Runs.{left_bad}
use Rattle.team_files.proofs.Files.{in_order, by_name-stays, file_of}
use Rattle.team_files.proofs.reading.read_file.Goals as goal

pub returns-in_default-clause-bad : goal.returns-in_default-clause-bad
returns-in_default-clause-bad c = λ same t links file.
    let only = c.next_header.ensures.only t (frames (by_name links)) file.held.team (c.new-lines.ensures ∙ file.is_text) in
    some_none _ _ only.0 c.in_default.is

pub read_frames-requires : goal.read_frames-requires
read_frames-requires c = (header c.in-Some.team, sym c.new-lines.ensures ∙ c.in-Some.ensures.found.1 ∙ ap (λ (r : List ℕ). header c.in-Some.team ++ r) (sym c.rest.ensures))

pub returns-in_err-frames-clause-bad : goal.returns-in_err-frames-clause-bad
returns-in_err-frames-clause-bad c = λ same t links file.
    let only = c.next_header.ensures.only t (frames (by_name links)) file.held.team (c.new-lines.ensures ∙ file.is_text) in
    let team = some_some _ _ _ only.0 c.in-Some.is in
    c.in_err-frames.ensures.bad (ap Err (left_bad c.from_residual.result c.in_err-frames.field-0.0 c.from_residual.ensures.1 same)) (by_name links)
    (subst (λ u. AreInOrder u (by_name links)) (sym team) (in_order t links file.held)) (c.rest.ensures ∙ only.1)

pub returns-clause-found : goal.returns-clause-found
returns-clause-found c =
    let found = c.in_ok-frames.ensures.found in (
      found.0,
      record {
        is_file = file_of _ _ _ _ c.in-Some.ensures.found.0 (sym c.new-lines.ensures ∙ c.in-Some.ensures.found.1) (sym c.rest.ensures ∙ found.2) found.1 c.if-bytes-gt-MOST_FILE_BYTES.false;
        ascend = by_name-stays _ _ found.1;
        texts = found.3;
      },
    )
