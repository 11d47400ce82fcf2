use Rattle.std.proofs.lemmas.Result.{on_ok_weaker}
use Rattle.team_report.proofs.Writing.{member_written}
use Rattle.team_report.proofs.tables.write_member.Goals as goal

pub returns : goal.returns
returns c =
    on_ok_weaker c.append-3.result
    (λ end. member_written c.args.member.now c.args.out.now c.append.new.self c.append-2.new.self c.append_roles.new.out c.append-3.new.self c.as_slice.result.now c.as_slice-2.result.now
    c.in_ok-append.ensures.ok c.in_ok-append-2.ensures.ok c.as_slice.ensures.bytes c.in_ok-append_roles.ensures c.as_slice-2.ensures end)
    c.append-3.ensures.ok
