use Rattle.std.proofs.Common.{◌∙◌, ℕ, List, ap, drop, take, ltb, leb, rules}
use Rattle.std.proofs.lemmas.List.Sorted.{IsPartitionPoint-from_clause, IsPartitionedBy-leb, IsPartitionedBy-ltb, IsNonDecreasingBy-drop}
use Rattle.key_reach.proofs.Runs.{run-is}
use Rattle.key_reach.proofs.walking.arrows_from.Goals as goal

pub returns : goal.returns
returns c =
    let arrows = c.args.arrows.now in
    let tail = c.args.tail in
    let first = c.partition_point-first.result in
    let rest = c.split_at.ensures.back in
    let rises = IsNonDecreasingBy-drop (λ (a : ℕ × ℕ). a.0) first arrows c.requires in
    let below = IsPartitionPoint-from_clause (λ (a : ℕ × ℕ). ltb a.0 tail) _ _ c.partition_point-first.ensures.partitioned (IsPartitionedBy-ltb (λ (a : ℕ × ℕ). a.0) arrows tail c.requires) (λ a r q k. search rules) in
    let clause = rw rest at c.partition_point-count.ensures.partitioned in
    let upto = IsPartitionPoint-from_clause (λ (a : ℕ × ℕ). leb a.0 tail) _ _ clause (IsPartitionedBy-leb (λ (a : ℕ × ℕ). a.0) (drop first arrows) tail rises) (λ a r q k. search rules) in
    let bound = rw rest at c.partition_point-count.ensures.bound in
    c.split_at-2.ensures.front ∙ ap (λ (l : List (ℕ × ℕ)). take c.partition_point-count.result l) rest
    ∙ run-is (λ (a : ℕ × ℕ). a.0) tail arrows first c.partition_point-count.result c.partition_point-first.ensures.bound bound below upto
