use Rattle.std.proofs.Common.{rules, sym, ◌∙◌}
use Rattle.handshake.specs.declared.message.Content.TheVariants.{Claims, Proves, Refuses}
use Rattle.handshake.proofs.greeting.Greeting.signed.Goals as goal

pub returns-clause-read_again : goal.returns-clause-read_again
returns-clause-read_again c = λ found reads. reads.only (record { team = c.args.self.now.team; content = Proves c.args.signature.now }) (record { team = rw (← c.self.view_is) c.proof_text.ensures.team; content = search rules }) (search rules)
