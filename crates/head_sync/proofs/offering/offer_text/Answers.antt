use Rattle.link_intake.proofs.TextResults.{text_becomes}
use Rattle.head_sync.proofs.offering.offer_text.Goals as goal

pub returns-clause-becomes : goal.returns-clause-becomes
returns-clause-becomes g c = text_becomes _ _ c.args.text.now c.offer.result c.result_of.result c.offer.ensures c.result_of.ensures.some
