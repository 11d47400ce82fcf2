use Rattle.std.proofs.Common.{◌∙◌, sym, cond, Some, ap, List, ℕ}
use Rattle.std.specs.Cmp.Lexicographic.{slice_cmp}
use Rattle.std.specs.Ordering.{is_eq, nat_cmp}
use Rattle.strikes.specs.Noted.{rank_of}
use Rattle.strikes.proofs.Noting.{noted-same, noted-smaller}
use Rattle.strikes.proofs.seniority.Seniority.note.Goals as goal

pub returns-then-not-is_smaller-clause-ok : goal.returns-then-not-is_smaller-clause-ok
returns-then-not-is_smaller-clause-ok c =
    noted-same c.args.self.now c.args.user (c.args.height, c.args.name) (sym c.is_smaller.ensures ∙ c.if-not-is_smaller.true)

pub returns-clause-ok : goal.returns-clause-ok
returns-clause-ok c =
    noted-smaller c.args.self.now c.args.user (c.args.height, c.args.name) c.insert.new.self.entries (sym c.is_smaller.ensures ∙ c.if-not-is_smaller.false)
    (λ (u : List ℕ). c.in_ok-insert.ensures.updates.0 u ∙ ap (λ (rows : List (List ℕ × (ℕ × List ℕ))). cond (is_eq (slice_cmp nat_cmp c.args.user u)) (Some (c.args.height, c.args.name)) (rank_of rows u)) c.self.view_is)
