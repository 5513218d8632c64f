-- The binary search finds the row.
use Rattle.std.proofs.Common.{rules}
use Rattle.std.proofs.lemmas.List.Sorted.{answers_always}
use Rattle.package_judge.proofs.Lookups.{row_at-found, row_at-absent}
use Rattle.package_judge.proofs.sums.row_at.Goals as goal

pub returns-in-Ok : goal.returns-in-Ok
returns-in-Ok c =
    row_at-found c.args.rows.now c.args.id c.in-Ok.at c.index-rows-at.result c.requires c.in-Ok.ensures.bound (c.in-Ok.ensures.position (λ entry. entry.0) (answers_always _ _ _ (λ f a r g called. search rules)))

pub returns-in-Err : goal.returns-in-Err
returns-in-Err c =
    row_at-absent c.args.rows.now c.args.id c.in-Err.field-0 c.requires (c.in-Err.ensures.position (λ entry. entry.0) (answers_always _ _ _ (λ f a r g called. search rules)))
