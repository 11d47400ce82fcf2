use Rattle.team_sets.proofs.Distinct.{distinct-differ}
use Rattle.team_model.specs.Judging.{name_of, team_rules}
use Rattle.replica.proofs.laws.removals_are_right.Goals as goal

pub returns : goal.returns
returns c = λ team links held.
    let differ = distinct-differ name_of links held.set in
    record {
      struck = λ x there n is. c.struck_by_standing.ensures team_rules links differ x there n is;
      outranked = λ x there n is. c.outranked_by_standing.ensures team_rules links differ x there n is;
      seen = λ x s one two is. c.seen_is_kept.ensures team_rules links differ x s one two is;
      senior = λ x there. c.senior_stands.ensures team_rules links differ x there;
      apart = λ s t one two. c.standers_are_apart.ensures team_rules links differ s t one two;
      unlawful = λ x r is. c.unlawful_has_no_effect.ensures team_rules links x r is;
      standing = λ x there. c.resolved_unless_struck.ensures.removals team_rules links differ x there;
      others = λ x there calm. c.resolved_unless_struck.ensures.others team_rules links x there calm;
      given_back = λ part within x there calm gone old. c.gives_back.ensures team_rules part links differ within x there calm gone old;
    }
