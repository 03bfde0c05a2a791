use Rattle.std.proofs.Common.{ltb, ltb-true, ltb-false, arith, rules}
use Rattle.std.proofs.lemmas.List.Sorted.{IsPartitionPoint-from_clause, IsPartitionedBy-ltb}
use Rattle.apd_clauses.proofs.marks.count_below.Goals as goal

pub returns-clause-below : goal.returns-clause-below
returns-clause-below c =
    let parted = IsPartitionedBy-ltb (λ n. n) _ c.args.least c.requires in
    λ k h. ltb-true _ _ ((IsPartitionPoint-from_clause (λ n. ltb n c.args.least) _ _ c.partition_point.ensures.partitioned parted (λ a r q k. search rules)).0 k 0 (omega arith) h)

pub returns-clause-above : goal.returns-clause-above
returns-clause-above c =
    let parted = IsPartitionedBy-ltb (λ n. n) _ c.args.least c.requires in
    λ k h l. ltb-false _ _ ((IsPartitionPoint-from_clause (λ n. ltb n c.args.least) _ _ c.partition_point.ensures.partitioned parted (λ a r q k. search rules)).1 k 0 h l)
