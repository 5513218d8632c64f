-- The laws of the statements: each reading is exact for its line.
use Rattle.std.proofs.Common.{◌≡◌, ℕ, Bool, true, false, ◌||◌, List, [], ◌∷◌, refl}
use Rattle.paql_lexer.specs.declared.vocabulary.Kind.{Kind}
use Rattle.paql_lexer.specs.declared.vocabulary.Kind.TheVariants as kinds
use Rattle.schema_types.specs.declared.Kind.TheVariants as column_kinds
use Rattle.paql_ast.specs.declared.statements.Statement.{Statement}
use Rattle.paql_ast.specs.declared.statements.Statement.TheVariants as statements
use Rattle.formal_grammar.specs.Lang.{Lang, ◌>>=◌, ◌>>◌, ◌or◌, gives, optional, listed}
use Rattle.formal_grammar.specs.Parse.{Parser, when, maybe, separated}
use Rattle.formal_grammar.specs.Exact.{Langs, none, IsRule, Starts, Joins}
use Rattle.formal_grammar.proofs.Contexts.{both_ways}
use Rattle.formal_grammar.proofs.Sets.{within_same, within_none}
use Rattle.formal_grammar.proofs.Sequence.{rule_then, rule_seq}
use Rattle.formal_grammar.proofs.Single.{rule_gives}
use Rattle.formal_grammar.proofs.Joins.{starts_then, starts_or, starts_wider, starts_one_of, joins_gives, joins_starts, joins_skip}
use Rattle.formal_grammar.proofs.Choice.{rule_when, rule_optional}
use Rattle.formal_grammar.proofs.Repeats.{rule_listed}
use Rattle.formal_grammar.proofs.Loops.{Shrinks, shrinks}
use Rattle.formal_grammar.proofs.Whole.{one_value}
use Rattle.paql_grammar.specs.Lexemes.{Lexeme, is, among, opens, word, name, number, whole}
use Rattle.paql_grammar.specs.Conditions.{pred}
use Rattle.paql_grammar.specs.Statements as grammar
use Rattle.paql_grammar.specs.StatementReading as read
use Rattle.paql_grammar.proofs.KindSets.{of_is, of_among, apart_word, apart_kinds, within_word, disjoint}
use Rattle.paql_grammar.proofs.Firsts.{starts_behind, joins_behind}
use Rattle.paql_grammar.proofs.LexemeRules.{word_rule, name_rule, number_rule, whole_rule}
use Rattle.paql_grammar.proofs.ConditionRules.{lit_rule, lits_rule, pred_rule, or_on}
use Rattle.paql_grammar.proofs.QueryRules.{any, within_any, exact_query}

-- what would go on with a list
abbrev comma : Lexeme → Bool
comma = is kinds.Comma

-- a list with commas
list_rule : {A : Type 0} {p : Lang Lexeme A} {P : Parser Lexeme A} {n : ℕ} → IsRule opens (λ m. p) P none n → IsRule opens (λ m. listed (word kinds.Comma) p) (separated comma P) comma n
list_rule {n = n} x = rule_listed comma comma starts_one_of (λ t _. refl) (within_same comma) (within_none comma) (word_rule kinds.Comma n) x

-- a list before a closing bracket
joins_close : {A : Type 0} {q : Langs Lexeme A} {ext : Lexeme → Bool} → Joins comma (λ m. word kinds.RightParen >> q m) ext
joins_close = joins_behind kinds.RightParen (of_is kinds.Comma) refl

-- a value before the end
joins_end : {A : Type 0} (before : Lexeme → Bool) (a : A) → Joins before (λ m. gives a) any
joins_end before a = joins_gives before a any (within_any before)

-- ---- CREATE

int_rule : (n : ℕ) → IsRule opens (λ m. grammar.int_kind) read.int_kind none n
unfolding read.int_kind
int_rule n = rule_seq (word_rule kinds.Int n) (λ _. rule_gives column_kinds.Int none n)

dec_rule : (n : ℕ) → IsRule opens (λ m. grammar.dec_kind) read.dec_kind none n
unfolding read.dec_kind
dec_rule n =
    rule_seq (word_rule kinds.Dec n) (λ _.
    rule_seq (word_rule kinds.LeftParen n) (λ _.
    rule_seq (whole_rule n) (λ scale.
    rule_seq (word_rule kinds.RightParen n) (λ _. rule_gives (column_kinds.Dec scale) none n))))

text_rule : (n : ℕ) → IsRule opens (λ m. grammar.text_kind) read.text_kind none n
unfolding read.text_kind
text_rule n = rule_seq (word_rule kinds.TextType n) (λ _. rule_gives column_kinds.Text none n)

-- DEC or TEXT begins with no INT
joins_int : Joins (is kinds.Int) (λ m. grammar.dec_kind or grammar.text_kind) none
joins_int = joins_starts (apart_kinds (kinds.Dec ∷ kinds.TextType ∷ []) (of_is kinds.Int) refl) (starts_or
    (starts_wider (within_word kinds.Dec (of_among (kinds.Dec ∷ kinds.TextType ∷ [])) refl) (starts_behind kinds.Dec))
    (starts_wider (within_word kinds.TextType (of_among (kinds.Dec ∷ kinds.TextType ∷ [])) refl) (starts_behind kinds.TextType)))

column_kind_rule : (n : ℕ) → IsRule opens (λ m. grammar.column_kind) read.column_kind none n
unfolding read.column_kind
column_kind_rule n =
    rule_when (is kinds.Int) (starts_behind kinds.Int) joins_int (int_rule n)
    (rule_when (is kinds.Dec) (starts_behind kinds.Dec) (joins_behind kinds.TextType (of_is kinds.Dec) refl) (dec_rule n) (text_rule n))

defined_column_rule : (n : ℕ) → IsRule opens (λ m. grammar.defined_column) read.defined_column none n
unfolding read.defined_column
defined_column_rule n = rule_seq (name_rule n) (λ of. rule_seq (column_kind_rule n) (λ kind. rule_gives (record { name = of; kind = kind }) none n))

columns_rule : (n : ℕ) → IsRule opens (λ m. listed (word kinds.Comma) grammar.defined_column) read.defined_columns comma n
unfolding read.defined_columns
columns_rule n = list_rule (defined_column_rule n)

create_rule : (n : ℕ) → IsRule opens (λ m. grammar.create) read.create any n
unfolding read.create
create_rule n =
    rule_seq (word_rule kinds.Create n) (λ _.
    rule_seq (word_rule kinds.Table n) (λ _.
    rule_seq (name_rule n) (λ table.
    rule_seq (word_rule kinds.LeftParen n) (λ _.
    rule_then {q = λ columns m. word kinds.RightParen >> gives (statements.Create table columns)} (λ columns. joins_close) (columns_rule n) (λ columns.
    rule_seq (word_rule kinds.RightParen n) (λ _. rule_gives (statements.Create table columns) any n))))))

-- ---- INSERT

tuple_rule : (n : ℕ) → IsRule opens (λ m. grammar.tuple) read.tuple none n
unfolding read.tuple
tuple_rule n =
    rule_seq (word_rule kinds.LeftParen n) (λ _.
    rule_then {q = λ row m. word kinds.RightParen >> gives row} (λ row. joins_close) (lits_rule n) (λ row.
    rule_seq (word_rule kinds.RightParen n) (λ _. rule_gives row none n)))

tuples_rule : (n : ℕ) → IsRule opens (λ m. listed (word kinds.Comma) grammar.tuple) read.tuples comma n
unfolding read.tuples
tuples_rule n = list_rule (tuple_rule n)

insert_rule : (n : ℕ) → IsRule opens (λ m. grammar.insert) read.insert any n
unfolding read.insert
insert_rule n =
    rule_seq (word_rule kinds.Insert n) (λ _.
    rule_seq (word_rule kinds.Into n) (λ _.
    rule_seq (name_rule n) (λ table.
    rule_seq (word_rule kinds.Values n) (λ _.
    rule_then {q = λ rows m. gives (statements.Insert table rows)} (λ rows. joins_end comma (statements.Insert table rows)) (tuples_rule n) (λ rows. rule_gives (statements.Insert table rows) any n)))))

-- ---- LOAD

load_rule : (n : ℕ) → IsRule opens (λ m. grammar.load) read.load any n
unfolding read.load
load_rule n =
    rule_seq (word_rule kinds.Load n) (λ _.
    rule_seq (name_rule n) (λ table.
    rule_seq (word_rule kinds.Bytes n) (λ _.
    rule_seq (whole_rule n) (λ bytes. rule_gives (statements.Load table bytes) any n))))

-- ---- UPDATE and DELETE

assignment_rule : (n : ℕ) → IsRule opens (λ m. grammar.assignment) read.assignment none n
unfolding read.assignment
assignment_rule n =
    rule_seq (name_rule n) (λ column.
    rule_seq (word_rule kinds.Equal n) (λ _.
    rule_seq (lit_rule n) (λ value. rule_gives (column, value) none n)))

assignments_rule : (n : ℕ) → IsRule opens (λ m. listed (word kinds.Comma) grammar.assignment) read.assignments comma n
unfolding read.assignments
assignments_rule n = list_rule (assignment_rule n)

filter_rule : (n : ℕ) → IsRule opens (λ m. grammar.filter m) (read.filter n) (among or_on) n
unfolding read.filter
filter_rule n = rule_seq {q = λ _ m. pred m} (word_rule kinds.Where n) (λ _. pred_rule n)

-- [ "WHERE" pred ]
filtered_rule : (n : ℕ) → IsRule opens (λ m. optional (grammar.filter m)) (maybe (is kinds.Where) (read.filter n)) any n
filtered_rule n = rule_optional (is kinds.Where) any (starts_behind kinds.Where) (within_any (is kinds.Where)) (within_any (among or_on)) (filter_rule n)

update_rule : (n : ℕ) → IsRule opens (λ m. grammar.update m) (read.update n) any n
unfolding read.update
update_rule n =
    rule_seq {q = λ _ m. name >>= λ table. word kinds.Set >> (listed (word kinds.Comma) grammar.assignment >>= λ sets. optional (grammar.filter m) >>= λ filtered. gives (statements.Update table sets filtered))} (word_rule kinds.Update n) (λ _.
    rule_seq {q = λ table m. word kinds.Set >> (listed (word kinds.Comma) grammar.assignment >>= λ sets. optional (grammar.filter m) >>= λ filtered. gives (statements.Update table sets filtered))} (name_rule n) (λ table.
    rule_seq {q = λ _ m. listed (word kinds.Comma) grammar.assignment >>= λ sets. optional (grammar.filter m) >>= λ filtered. gives (statements.Update table sets filtered)} (word_rule kinds.Set n) (λ _.
    rule_then {q = λ sets m. optional (grammar.filter m) >>= λ filtered. gives (statements.Update table sets filtered)}
    (λ sets. joins_skip {q = λ filtered m. gives (statements.Update table sets filtered)} (apart_word kinds.Where (of_is kinds.Comma) refl) (starts_behind kinds.Where) (λ filtered. joins_end comma (statements.Update table sets filtered)))
    (assignments_rule n) (λ sets.
    rule_then {q = λ filtered m. gives (statements.Update table sets filtered)} (λ filtered. joins_end any (statements.Update table sets filtered)) (filtered_rule n) (λ filtered. rule_gives (statements.Update table sets filtered) any n)))))

delete_rule : (n : ℕ) → IsRule opens (λ m. grammar.delete m) (read.delete n) any n
unfolding read.delete
delete_rule n =
    rule_seq {q = λ _ m. word kinds.From >> (name >>= λ table. optional (grammar.filter m) >>= λ filtered. gives (statements.Delete table filtered))} (word_rule kinds.Delete n) (λ _.
    rule_seq {q = λ _ m. name >>= λ table. optional (grammar.filter m) >>= λ filtered. gives (statements.Delete table filtered)} (word_rule kinds.From n) (λ _.
    rule_seq {q = λ table m. optional (grammar.filter m) >>= λ filtered. gives (statements.Delete table filtered)} (name_rule n) (λ table.
    rule_then {q = λ filtered m. gives (statements.Delete table filtered)} (λ filtered. joins_end any (statements.Delete table filtered)) (filtered_rule n) (λ filtered. rule_gives (statements.Delete table filtered) any n))))

-- ---- PARTITION and VACUUM

names_rule : (n : ℕ) → IsRule opens (λ m. listed (word kinds.Comma) name) read.names comma n
unfolding read.names
names_rule n = list_rule (name_rule n)

partition_rule : (n : ℕ) → IsRule opens (λ m. grammar.partition) read.partition any n
unfolding read.partition
partition_rule n =
    rule_seq (word_rule kinds.Partition n) (λ _.
    rule_seq (name_rule n) (λ table.
    rule_seq (word_rule kinds.On n) (λ _.
    rule_seq (word_rule kinds.LeftParen n) (λ _.
    rule_then {q = λ columns m. word kinds.RightParen >> (word kinds.Size >> (whole >>= λ size. word kinds.Radius >> (number false >>= λ radius. gives (statements.Partition table columns size radius))))} (λ columns. joins_close) (names_rule n) (λ columns.
    rule_seq (word_rule kinds.RightParen n) (λ _.
    rule_seq (word_rule kinds.Size n) (λ _.
    rule_seq (whole_rule n) (λ size.
    rule_seq (word_rule kinds.Radius n) (λ _.
    rule_seq (number_rule false n) (λ radius. rule_gives (statements.Partition table columns size radius) any n))))))))))

vacuum_rule : (n : ℕ) → IsRule opens (λ m. grammar.vacuum) read.vacuum any n
unfolding read.vacuum
vacuum_rule n = rule_seq (word_rule kinds.Vacuum n) (λ _. rule_seq (whole_rule n) (λ version. rule_gives (statements.Vacuum version) any n))

-- ---- statements of one word

begin_rule : (n : ℕ) → IsRule opens (λ m. grammar.begin) read.begin any n
unfolding read.begin
begin_rule n = rule_seq (word_rule kinds.Begin n) (λ _. rule_gives statements.Begin any n)

commit_rule : (n : ℕ) → IsRule opens (λ m. grammar.commit) read.commit any n
unfolding read.commit
commit_rule n = rule_seq (word_rule kinds.Commit n) (λ _. rule_gives statements.Commit any n)

rollback_rule : (n : ℕ) → IsRule opens (λ m. grammar.rollback) read.rollback any n
unfolding read.rollback
rollback_rule n = rule_seq (word_rule kinds.Rollback n) (λ _. rule_gives statements.Rollback any n)

certificate_rule : (n : ℕ) → IsRule opens (λ m. grammar.certificate) read.certificate any n
unfolding read.certificate
certificate_rule n = rule_seq (word_rule kinds.Certificate n) (λ _. rule_gives statements.Certificate any n)

-- ---- all statements

package_query_rule : (n : ℕ) → IsRule opens (λ m. grammar.package_query m) (read.package_query n) any n
unfolding read.package_query
package_query_rule n = rule_then {q = λ query m. gives (statements.Query query)} (λ query. joins_end any (statements.Query query)) (exact_query n) (λ query. rule_gives (statements.Query query) any n)

-- A rule, and the kinds with which its texts begin.
record Begun (first : List Kind) (L : Langs Lexeme Statement) (P : Parser Lexeme Statement) (n : ℕ) : Type 0 where
  starts : Starts (among first) L
  rule : IsRule opens L P any n

-- a list with an element is not empty
nil_cons : {A : Type 0} {a : A} {tail : List A} → ◌≡◌ {A = List A} [] (a ∷ tail) → ⊥
nil_cons e = cc

-- where neither test passes
neither : (a b : Bool) → (a || b) ≡ false → (a ≡ false) × (b ≡ false)
neither true b e = absurd (both_ways refl e)
neither false b e = (refl, e)

-- a further alternative, that begins with a kind of its own
further : {first : List Kind} {p q : Langs Lexeme Statement} {P Q : Parser Lexeme Statement} {n : ℕ} (kind : Kind) → disjoint first (is kind) ≡ true → Starts (is kind) p → IsRule opens p P any n → Begun first q Q n → Begun (kind ∷ first) (λ m. p m or q m) (when (is kind) P Q) n
further {first = first} kind apart starts x y = record {
  starts = starts_or (starts_wider (λ t e. (neither (is kind t) (among first t) e).0) starts) (starts_wider (λ t e. (neither (is kind t) (among first t) e).1) y.starts);
  rule = rule_when (is kind) starts (joins_starts (apart_kinds first (of_is kind) apart) y.starts) x y.rule;
}

begun_query : (n : ℕ) → Begun (kinds.Select ∷ []) (λ m. grammar.package_query m) (read.package_query n) n
begun_query n = record {
  starts = starts_wider (λ t e. (neither (is kinds.Select t) false e).0) (starts_then (starts_then (starts_behind kinds.Select)));
  rule = package_query_rule n;
}

begun_session : (n : ℕ) → Begun (kinds.Begin ∷ kinds.Commit ∷ kinds.Rollback ∷ kinds.Certificate ∷ kinds.Select ∷ []) (λ m. grammar.session m) (read.session n) n
unfolding read.session
begun_session n =
    further kinds.Begin refl (starts_behind kinds.Begin) (begin_rule n)
    (further kinds.Commit refl (starts_behind kinds.Commit) (commit_rule n)
    (further kinds.Rollback refl (starts_behind kinds.Rollback) (rollback_rule n)
    (further kinds.Certificate refl (starts_behind kinds.Certificate) (certificate_rule n) (begun_query n))))

begun_change : (n : ℕ) → Begun (kinds.Update ∷ kinds.Delete ∷ kinds.Partition ∷ kinds.Vacuum ∷ kinds.Begin ∷ kinds.Commit ∷ kinds.Rollback ∷ kinds.Certificate ∷ kinds.Select ∷ []) (λ m. grammar.change m) (read.change n) n
unfolding read.change
begun_change n =
    further kinds.Update refl (starts_behind kinds.Update) (update_rule n)
    (further kinds.Delete refl (starts_behind kinds.Delete) (delete_rule n)
    (further kinds.Partition refl (starts_behind kinds.Partition) (partition_rule n)
    (further kinds.Vacuum refl (starts_behind kinds.Vacuum) (vacuum_rule n) (begun_session n))))

-- The kinds of the first token of a statement.
abbrev statement_kinds : List Kind
statement_kinds = kinds.Create ∷ kinds.Insert ∷ kinds.Load ∷ kinds.Update ∷ kinds.Delete ∷ kinds.Partition ∷ kinds.Vacuum ∷ kinds.Begin ∷ kinds.Commit ∷ kinds.Rollback ∷ kinds.Certificate ∷ kinds.Select ∷ []

begun_statement : (n : ℕ) → Begun statement_kinds (λ m. grammar.statement m) (read.statement n) n
unfolding grammar.statement read.statement
begun_statement n =
    further kinds.Create refl (starts_behind kinds.Create) (create_rule n)
    (further kinds.Insert refl (starts_behind kinds.Insert) (insert_rule n)
    (further kinds.Load refl (starts_behind kinds.Load) (load_rule n) (begun_change n)))

-- The parser of statements is exact, whatever the depth.
pub exact_statement : (n : ℕ) → IsRule opens (λ m. grammar.statement m) (read.statement n) any n
exact_statement n = (begun_statement n).rule

-- No statement is without a token.
pub never_empty : (n : ℕ) (t : Statement) → grammar.statement n [] t → ⊥
never_empty n t spells = nil_cons ((begun_statement n).starts.first n [] t spells).cons

-- Tokens spell one statement at most.
pub one_statement : (m n : ℕ) (tokens : List Lexeme) (t u : Statement) → grammar.statement m tokens t → grammar.statement n tokens u → t ≡ u
one_statement = one_value exact_statement

-- ---- items after a comma take a token

pub column_shrinks : Shrinks read.next_column
column_shrinks = shrinks {f = is kinds.Comma} (starts_behind kinds.Comma) (rule_seq (word_rule kinds.Comma 0) (λ _. defined_column_rule 0))

pub tuple_shrinks : Shrinks read.next_tuple
tuple_shrinks = shrinks {f = is kinds.Comma} (starts_behind kinds.Comma) (rule_seq (word_rule kinds.Comma 0) (λ _. tuple_rule 0))

pub assignment_shrinks : Shrinks read.next_assignment
assignment_shrinks = shrinks {f = is kinds.Comma} (starts_behind kinds.Comma) (rule_seq (word_rule kinds.Comma 0) (λ _. assignment_rule 0))

pub name_shrinks : Shrinks read.next_name
name_shrinks = shrinks {f = is kinds.Comma} (starts_behind kinds.Comma) (rule_seq (word_rule kinds.Comma 0) (λ _. name_rule 0))
