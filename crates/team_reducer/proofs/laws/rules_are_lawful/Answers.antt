use Rattle.team_reducer.proofs.Sounding.{authors_listed, only_brought_in, refused_stays}
use Rattle.team_reducer.proofs.laws.rules_are_lawful.Goals as goal

pub returns-clause-refused : goal.returns-clause-refused
returns-clause-refused c s e reason h = refused_stays s e reason h

pub returns-clause-authors : goal.returns-clause-authors
returns-clause-authors c s e h = authors_listed s e h

pub returns-clause-users : goal.returns-clause-users
returns-clause-users c s e h u listed = only_brought_in s e h u listed
