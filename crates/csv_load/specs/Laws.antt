-- Private: the laws in `src/laws.rt`.
-- What the definition of loading comes to.
use Rattle.std.specs.Prelude.{ℕ, List, All, IsOk, Ok}
use Rattle.schema_types.specs.declared.Column.{Column}
use Rattle.schema_types.specs.declared.Lit.{Lit}
use Rattle.table_schema.specs.Rows.{row_gives}
use Rattle.csv_load.specs.Loading.{BodyGives}

-- each row that a body gives is one that the table takes
abbrev pub GivenRowsPass : Type 0
GivenRowsPass = (columns : List Column) (body : List ℕ) (rows : List (List Lit))
    → BodyGives columns body (Ok rows) → All (λ (row : List Lit). IsOk (row_gives columns row)) rows
