use Rattle.std.proofs.Common.{rules, sym, ◌∙◌}
use Rattle.handshake.specs.declared.message.Content.TheVariants.{Claims, Proves, Refuses}
use Rattle.handshake.proofs.greeting.Greeting.start.Goals as goal

pub returns-clause-read_again : goal.returns-clause-read_again
returns-clause-read_again c = λ key found reads. reads.only (record { team = c.args.team; content = Claims (record { user = c.args.user; key = c.args.key; nonce = c.args.nonce }) }) (record { team = search rules; content = record { user = search rules; key = key; nonce = search rules } }) (search rules)
