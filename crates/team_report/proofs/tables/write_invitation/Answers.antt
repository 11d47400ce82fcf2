use Rattle.std.specs.Prelude.{count_ones}
use Rattle.std.proofs.lemmas.Result.{on_ok_weaker}
use Rattle.tg_text.specs.Spelling.{spell_decimal, spell_hex}
use Rattle.acts.specs.ActText.{spell_kind}
use Rattle.team_report.proofs.Writing.{invitation_written}
use Rattle.team_report.proofs.tables.write_invitation.Goals as goal

pub returns : goal.returns
returns c =
    let i = c.args.invitation.now in
    on_ok_weaker c.append-7.result
    (λ end. invitation_written c.args.out.now c.append.new.self c.write_hex.new.out c.append-2.new.self c.append-3.new.self c.append-4.new.self c.write_decimal.new.out c.append-5.new.self
    c.write_decimal-2.new.out c.append-6.new.self c.write_decimal-3.new.out c.append-7.new.self (spell_hex i.id) (spell_kind i.kind) (spell_decimal i.uses) (spell_decimal (count_ones i.used)) (spell_decimal i.expiry)
    c.in_ok-append.ensures.ok c.in_ok-write_hex.ensures.ok c.in_ok-append-2.ensures.ok (rw c.kind_word.ensures at c.in_ok-append-3.ensures.ok) c.in_ok-append-4.ensures.ok
    (rw c.from.ensures at c.in_ok-write_decimal.ensures.ok) c.in_ok-append-5.ensures.ok (rw c.from-2.ensures at c.in_ok-write_decimal-2.ensures.ok) c.in_ok-append-6.ensures.ok
    c.in_ok-write_decimal-3.ensures.ok end)
    c.append-7.ensures.ok
