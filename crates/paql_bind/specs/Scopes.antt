-- Private: the functions over scopes.
-- A scope of the code as contracts see it.
use Rattle.paql_bind.specs.Names.{Scope}
use Rattle.paql_bind.specs.declared.scope.Scope.{Scope as ScopeOfCode}

abbrev pub seen : ScopeOfCode → Scope
seen scope = record { columns = scope.schema.now; prefix = scope.prefix.now }
