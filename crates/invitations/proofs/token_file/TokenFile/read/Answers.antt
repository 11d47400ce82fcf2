use Rattle.std.proofs.Common.{◌∙◌, sym, true≢false}
use Rattle.invitations.proofs.FileLaws.{used_reads, reads_file}
use Rattle.invitations.proofs.token_file.TokenFile.read.Goals as goal

pub returns-then-is_used : goal.returns-then-is_used
returns-then-is_used c = used_reads c.args.bytes.now (c.is_used.ensures.0 c.if-is_used.true)

pub returns : goal.returns
returns c =
    rw c.file_of.ensures (reads_file c.args.bytes.now c.in_ok-found.found (λ e. true≢false (sym (c.is_used.ensures.1 e) ∙ c.if-is_used.false)) c.in_ok-found.ensures)
