use Rattle.std.proofs.Common.{◌≡◌, drop}
use Rattle.table_schema.specs.Named.{schema_of}
use Rattle.table_schema.proofs.schemas.schema_named.Given as goal

abbrev pub invariant-loop-table : goal.invariant-loop-table
invariant-loop-table l = schema_of l.name l.schemas ≡ schema_of l.name (drop l.table-index l.schemas)
