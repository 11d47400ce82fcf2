use Rattle.link_intake.proofs.TextResults.{kept_where_none, text_becomes}
use Rattle.link_intake.proofs.giving.take_text.Goals as goal

pub returns-clause-becomes : goal.returns-clause-becomes
returns-clause-becomes c = text_becomes _ _ c.args.bytes.now c.take.result c.result_of.result c.take.ensures c.result_of.ensures.some

pub returns-clause-same : goal.returns-clause-same
returns-clause-same c = kept_where_none _ _ c.args.bytes.now c.take.result c.result_of.result c.take.ensures c.result_of.ensures.none
