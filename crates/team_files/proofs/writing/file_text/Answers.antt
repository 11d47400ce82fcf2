use Rattle.std.proofs.Common.{◌≡◌, ◌++◌, ◌∙◌, [], sym, ap, subst, List, ℕ}
use Rattle.std.specs.List.Sorted.{IsPermutation}
use Rattle.team_sets.specs.Names.{Name}
use Rattle.team_sets.specs.Order.{names}
use Rattle.team_model.specs.Judging.{name_of}
use Rattle.team_model.specs.declared.terms.Link.{Link}
use Rattle.link_text.specs.TeamFile.{header}
use Rattle.team_files.specs.Frames.{frames_named}
use Rattle.team_files.proofs.Named.{file_named}
use Rattle.team_files.proofs.writing.file_text.Goals as goal

pub returns : goal.returns
returns c =
    let team = c.args.graph.now.team in
    let links = c.args.graph.now.links in
    let ns = c.in_ok-names.names.items in
    let same : IsPermutation (names name_of links) ns = subst (λ (ls : List Link). IsPermutation (names name_of ls) ns) c.links.ensures c.in_ok-names.ensures.same in
    let empty : c.from_vec-out.result ≡ [] = c.from_vec-out.ensures ∙ c.in_ok-with_capacity.ensures.items in
    let head : c.write_header.new.out ≡ header team =
    c.in_ok-write_header.ensures.ok ∙ ap (λ (o : List ℕ). o ++ header c.team.result) empty ∙ ap (λ (t : Name). header t) c.team.ensures in
    let all : c.write_frames.new.out ≡ header team ++ frames_named links ns =
    c.in_ok-write_frames.ensures ∙ ap (λ (o : List ℕ). o ++ frames_named links c.as_slice.result.now) head ∙ ap (λ (ms : List Name). header team ++ frames_named links ms) c.as_slice.ensures.value in
    all ∙ file_named team links c.is_held.ensures ns c.in_ok-names.ensures.ascend same
