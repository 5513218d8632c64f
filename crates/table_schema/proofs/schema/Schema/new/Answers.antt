use Rattle.std.proofs.Common.{refl}
use Rattle.table_schema.proofs.ColumnLemmas.{none_first, is_schema}
use Rattle.table_schema.proofs.schema.Schema.new.Goals as goal

pub invariant_of-result : goal.invariant_of-result
invariant_of-result c = is_schema c.args.columns c.requires (none_first _ (rw c.as_slice.ensures at c.in-None.ensures))

pub returns-in-None : goal.returns-in-None
returns-in-None c = (refl, none_first _ (rw c.as_slice.ensures at c.in-None.ensures))
