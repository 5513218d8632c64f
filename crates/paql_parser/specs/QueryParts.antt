-- Private: the parser's `query`: the parts of a query that it keeps.
-- The parts of a query as the grammar has them, of those that the parser keeps.
use Rattle.paql_parser.specs.declared.query.Head.{Head}
use Rattle.paql_parser.specs.declared.query.Relation.{Relation}
use Rattle.paql_parser.specs.declared.query.Constraints.{Constraints}
use Rattle.paql_parser.specs.declared.query.Ending.{Ending}
use Rattle.paql_grammar.specs.Query as grammar

abbrev pub head_of : Head → grammar.Head
head_of head = record { of = head.of; package_name = head.package_name }

abbrev pub relation_of : Relation → grammar.Relation
relation_of relation =
    record {
      table = relation.table;
      alias = relation.alias;
      version = relation.version;
      repeat = relation.repeat;
    }

abbrev pub constraints_of : Constraints → grammar.Constraints
constraints_of constraints =
    record { filter = constraints.filter; conjuncts = constraints.conjuncts }

abbrev pub ending_of : Ending → grammar.Ending
ending_of ending = record { goal = ending.goal; method = ending.method; budget = ending.budget }
