use Rattle.std.proofs.lemmas.Result.{on_ok_weaker}
use Rattle.tg_text.specs.KeySpelling.{spell_key_id}
use Rattle.tg_text.specs.Spelling.{spell_hex}
use Rattle.team_report.proofs.Writing.{unreached_written}
use Rattle.team_report.proofs.debts.write_unreached.Goals as goal

pub returns : goal.returns
returns c =
    on_ok_weaker c.append-4.result
    (λ end. unreached_written c.args.out.now c.append.new.self c.append-2.new.self c.write_key_id.new.out c.append-3.new.self c.write_hex.new.out c.append-4.new.self
    (spell_key_id c.args.key.now) (spell_hex c.args.device.now)
    c.in_ok-append.ensures.ok c.in_ok-append-2.ensures.ok c.in_ok-write_key_id.ensures.ok c.in_ok-append-3.ensures.ok (rw c.as_slice.ensures.bytes at c.in_ok-write_hex.ensures.ok) end)
    c.append-4.ensures.ok
