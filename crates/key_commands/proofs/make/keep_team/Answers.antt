use Rattle.key_commands.proofs.make.keep_team.Goals as goal

pub returns-in_err-replace_one-clause-cut : goal.returns-in_err-replace_one-clause-cut
returns-in_err-replace_one-clause-cut g c = λ seen w is.
    rw (c.as_slice-3.ensures, c.in_ok-bytes.ensures, c.name_of-name.ensures, c.as_slice-2.ensures, c.as_slice.ensures, c.in_ok-text.ensures) at (c.in_err-replace_one.ensures.cut seen w is)

pub returns-clause-done : goal.returns-clause-done
returns-clause-done g c = λ seen w is.
    rw (c.as_slice-3.ensures, c.in_ok-bytes.ensures, c.name_of-name.ensures, c.as_slice-2.ensures, c.as_slice.ensures, c.in_ok-text.ensures) at (c.in_ok-replace_one.ensures.done seen w is)

pub returns-clause-cut : goal.returns-clause-cut
returns-clause-cut g c = λ seen w is.
    rw (c.as_slice-3.ensures, c.in_ok-bytes.ensures, c.name_of-name.ensures, c.as_slice-2.ensures, c.as_slice.ensures, c.in_ok-text.ensures) at (c.in_ok-replace_one.ensures.cut seen w is)
