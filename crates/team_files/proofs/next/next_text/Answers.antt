use Rattle.team_files.proofs.ItemTexts.{short_frame}
use Rattle.team_files.proofs.next.next_text.Goals as goal

pub returns-then-length-bytes : goal.returns-then-length-bytes
returns-then-length-bytes c = λ small. short_frame c.args.length c.args.bytes.now small c.if-length-bytes.true
