use Rattle.sha2.specs.Sha256.{sha256}
use Rattle.team_sets.proofs.Distinct.{distinct-differ}
use Rattle.team_sets.proofs.Pasts.{all_at}
use Rattle.team_model.specs.Judging.{name_of, team_rules}
use Rattle.link_text.specs.LinkText.{IsValid, text}
use Rattle.replica.proofs.laws.counting_links_are_right.Goals as goal

pub returns : goal.returns
returns c = λ team links held x there counts.
    let valid = all_at (λ l. IsValid team (text l) l) links held.valid x there in
    let differ = distinct-differ name_of links held.set in
    record {
      verifies = valid.proved;
      device = valid.reads.well_formed.fields.device;
      listed = c.counting_is_right.ensures.listed sha256 links differ x there counts;
      counts = (c.counting_is_right.ensures.exactly team_rules links differ x there).0 counts;
    }
