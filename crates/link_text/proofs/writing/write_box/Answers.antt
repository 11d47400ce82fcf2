use Rattle.std.proofs.lemmas.Result.{on_ok_weaker}
use Rattle.tg_text.specs.KeySpelling.{spell_key_id}
use Rattle.tg_text.specs.Spelling.{spell_base64}
use Rattle.link_text.proofs.Written.{box_fields}
use Rattle.link_text.proofs.writing.write_box.Goals as goal

pub returns : goal.returns
returns c = on_ok_weaker c.append-4.result
    (box_fields c.args.out.now (spell_key_id c.args.line.now.to) (spell_key_id c.args.line.now.of) (spell_base64 c.args.line.now.bytes) c.append.new.self c.write_key_id.new.out c.append-2.new.self
    c.write_key_id-2.new.out c.append-3.new.self c.write_base64.new.out c.append-4.new.self c.in_ok-append.ensures.ok c.in_ok-write_key_id.ensures.ok c.in_ok-append-2.ensures.ok
    c.in_ok-write_key_id-2.ensures.ok c.in_ok-append-3.ensures.ok (rw (← c.as_slice.ensures) c.in_ok-write_base64.ensures.ok)) c.append-4.ensures.ok
