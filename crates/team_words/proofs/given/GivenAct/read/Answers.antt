use Rattle.std.proofs.Common.{◌∙◌, Global, map, string_bytes, sym}
use Rattle.team_words.proofs.GivenActs.{spaced_rest}
use Rattle.team_words.proofs.given.GivenAct.read.Goals as goal

pub read_spaced-requires : goal.read_spaced-requires
read_spaced-requires c =
    spaced_rest (map (string_bytes {Z = Global}) c.args.words.now) c.in-Some.text.now (sym c.in_ok-text.ensures ∙ rw (c.as_slice.ensures, c.in-Some.is) at c.strip_front.ensures)
