use Rattle.std.proofs.Common.{◌≡◌, ◌++◌, ℕ, List, OnOk, subst}
use Rattle.head_sync.specs.Messages.{kind_line, team_line}
use Rattle.head_sync.proofs.NameLines.{appends}
use Rattle.head_sync.proofs.writing.write_front.Goals as goal

pub returns : goal.returns
returns c =
    subst (λ (t : List ℕ). OnOk c.write_hex_line.result (c.write_hex_line.new.out ≡ c.args.out.now ++ (kind_line c.args.kind.now ++ team_line t))) c.as_slice.ensures.bytes
    (appends c.write_hex_line.result c.args.out.now c.write_text_line.new.out c.write_hex_line.new.out (kind_line c.args.kind.now) (team_line c.as_slice.result.now) c.in_ok-write_text_line.ensures.ok
    c.write_hex_line.ensures.ok)
