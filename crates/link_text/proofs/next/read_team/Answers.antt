use Rattle.std.proofs.Common.{◌≡◌, Some, codes, sym, ap, ◌∙◌}
use Rattle.std.proofs.lemmas.Bool.Decides.{Decides-eqb}
use Rattle.std.proofs.lemmas.Slice.Eq.{slice_eq-Decides}
use Rattle.link_text.proofs.Texts.{no_hyphen}
use Rattle.link_text.proofs.next.read_team.Goals as goal

pub returns-then-eq : goal.returns-then-eq
returns-then-eq c =
    let is : c.args.field.now ≡ codes "-" = (slice_eq-Decides Decides-eqb c.args.field.now c.as_slice.result.now c.eq.result c.eq.ensures).0 c.if-eq.true ∙ c.as_slice.ensures in
    record { found = (tt, is); only = λ o range e. ap Some (sym (no_hyphen o (sym is ∙ e))) }
