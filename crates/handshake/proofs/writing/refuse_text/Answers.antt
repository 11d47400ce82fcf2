use Rattle.std.proofs.Common.{rules, sym, ◌∙◌}
use Rattle.handshake.specs.declared.message.Content.TheVariants.{Claims, Proves, Refuses}
use Rattle.handshake.proofs.writing.refuse_text.Goals as goal

pub returns-clause-read_again : goal.returns-clause-read_again
returns-clause-read_again c = λ found reads. reads.only (record { team = c.args.team.now; content = Refuses c.args.fault }) (record { team = c.begin.ensures.team; content = c.requires }) (search rules)
