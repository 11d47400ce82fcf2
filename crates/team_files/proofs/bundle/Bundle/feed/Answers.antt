use Rattle.std.proofs.Common.{◌≡◌, ◌-◌, false, not, length, take, subst, sym, ap, ◌∙◌}
use Rattle.std.proofs.Math.Seq.{take-append_seam}
use Rattle.team_files.specs.Bundles.{IsFront}
use Rattle.team_files.specs.Pieces.{Answers, Pending}
use Rattle.team_files.proofs.ComingItems.{answers_read}
use Rattle.team_files.proofs.Growing.{none_behind, some_behind}
use Rattle.team_files.proofs.bundle.Bundle.feed.Goals as goal

pub invariant_of-self-in-Err : goal.invariant_of-self-in-Err
invariant_of-self-in-Err c = λ going.
    let added = c.in-Err.ensures.err in
    subst IsFront (sym (c.truncate.ensures ∙ ap (λ n. take n c.read_piece.new.kept) c.len-before.ensures ∙ ap (take (length c.self.inside.kept)) added.1 ∙ take-append_seam c.self.inside.kept added.0))
    (c.self.invariant going)

pub returns-in-Ok-clause-ok : goal.returns-in-Ok-clause-ok
returns-in-Ok-clause-ok c =
    let s = c.self.inside in
    let judged = c.split_judged.result.0.now in
    let behind = c.split_judged.result.1.now in
    let new : Pending = record { kept = c.read_piece.new.kept; left = s.left - length judged; over = c.in-Ok.over } in
    let old : ◌≡◌ {A = Pending} (record { kept = s.kept; left = s.left; over = false }) c.args.self.now =
    ap {B = Pending} (λ b. record { kept = s.kept; left = s.left; over = b }) (sym c.if-self.false) ∙ c.self.view_is in
    let full = c.split_judged.ensures.full in
    subst (λ o. Answers o c.args.piece.now c.in-Ok.items new) old
    (answers_read s.left s.kept c.args.piece.now judged behind c.read_piece.new.kept (not c.is_empty.result) c.in-Ok.over c.in-Ok.items
    c.split_judged.ensures.whole c.split_judged.ensures.within (none_behind behind c.is_empty.result c.is_empty.ensures)
    (λ h. let some = some_behind behind c.is_empty.result c.is_empty.ensures h in (full some, some)) c.in-Ok.ensures.ok)
