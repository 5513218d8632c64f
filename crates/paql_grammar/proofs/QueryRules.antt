-- The laws of a query's parts, and of the whole line: the reading is exact, whatever the depth.
use Rattle.std.proofs.Common.{◌≡◌, ℕ, Bool, true, false, List, [], ◌∷◌, Option, refl}
use Rattle.paql_lexer.specs.declared.vocabulary.Kind.{Kind}
use Rattle.paql_lexer.specs.declared.vocabulary.Kind.TheVariants as kinds
use Rattle.paql_ast.specs.declared.conditions.Pred.{Pred}
use Rattle.paql_ast.specs.declared.queries.Conjunct.{Conjunct}
use Rattle.paql_ast.specs.declared.queries.Goal.{Goal}
use Rattle.paql_ast.specs.declared.queries.Method.{Method}
use Rattle.paql_ast.specs.declared.queries.Method.TheVariants.{Direct, SketchRefine}
use Rattle.paql_ast.specs.declared.queries.Query.{Query}
use Rattle.formal_grammar.specs.Lang.{Lang, ◌>>=◌, ◌>>◌, ◌or◌, gives, optional, listed}
use Rattle.formal_grammar.specs.Parse.{Parser, and_then, pure, maybe}
use Rattle.formal_grammar.specs.Exact.{Langs, none, Within, IsRule, Starts, Joins}
use Rattle.formal_grammar.proofs.Sets.{within_same, within_none}
use Rattle.formal_grammar.proofs.Sequence.{rule_then, rule_seq}
use Rattle.formal_grammar.proofs.Single.{rule_gives}
use Rattle.formal_grammar.proofs.Joins.{starts_then, starts_one_of, joins_gives, joins_starts, joins_then, joins_skip, joins_or}
use Rattle.formal_grammar.proofs.Choice.{rule_when, rule_optional}
use Rattle.formal_grammar.proofs.Repeats.{rule_listed}
use Rattle.formal_grammar.proofs.Loops.{Shrinks, shrinks}
use Rattle.paql_grammar.specs.Lexemes.{Lexeme, is, among, opens, word}
use Rattle.paql_grammar.specs.Aggregates as aggregates
use Rattle.paql_grammar.specs.AggregateReading as read_aggregates
use Rattle.paql_grammar.specs.Query as grammar
use Rattle.paql_grammar.specs.Query.{Head, Relation, Constraints, Ending, alias_kinds, query_of}
use Rattle.paql_grammar.specs.Aggregates.{sign_kinds, goal_kinds}
use Rattle.paql_grammar.specs.QueryReading as read
use Rattle.paql_grammar.proofs.KindSets.{OfKind, disjoint, of_is, of_among, apart_word, apart_kinds, within_word, within_kinds, sample}
use Rattle.paql_grammar.proofs.LexemeRules.{word_rule, name_rule, whole_rule, name_kinds, starts_name}
use Rattle.paql_grammar.proofs.Firsts.{starts_behind, joins_behind, starts_skip}
use Rattle.paql_grammar.specs.Conditions.{pred}
use Rattle.paql_grammar.specs.ConditionReading as conditions
use Rattle.paql_grammar.proofs.ConditionRules.{or_on, pred_rule}
use Rattle.paql_grammar.proofs.AggregateRules.{agg_rule, starts_agg, part_rule, starts_part, term_rule, starts_term, sum_rule, starts_sum, conj_rule, goal_rule, starts_goal, sum_ends, sum_ext, next_item_shrinks}

-- ---- "SELECT" "PACKAGE" "(" name ")" [ "AS" ] name

-- [ "AS" ] name
named_rule : (n : ℕ) → IsRule opens (λ m. grammar.named) read.named none n
unfolding read.named
named_rule n =
    rule_then (λ _. joins_starts (apart_kinds name_kinds (of_is kinds.As) refl) starts_name)
    (rule_optional (is kinds.As) (is kinds.As) starts_one_of (within_same (is kinds.As)) (within_none (is kinds.As)) (word_rule kinds.As n))
    (λ _. name_rule n)

-- a name with its AS begins with one of these
starts_named : Starts (among alias_kinds) (λ m. grammar.named)
starts_named = starts_skip (within_word kinds.As (of_among alias_kinds) refl) (within_kinds name_kinds alias_kinds refl) starts_one_of (λ _. starts_name)

-- what PACKAGE names, and the package's name
head_rule : (n : ℕ) → IsRule opens (λ m. grammar.head) read.head none n
unfolding read.head
head_rule n =
    rule_seq (word_rule kinds.Select n) (λ _.
    rule_seq (word_rule kinds.Package n) (λ _.
    rule_seq (word_rule kinds.LeftParen n) (λ _.
    rule_seq (name_rule n) (λ of.
    rule_seq (word_rule kinds.RightParen n) (λ _.
    rule_seq (named_rule n) (λ package_name.
    rule_gives (record { of = of; package_name = package_name }) none n))))))

-- ---- "FROM" name [ [ "AS" ] name ] [ "AT" "VERSION" whole ] [ "REPEAT" whole ]

-- "AT" "VERSION" whole
version_rule : (n : ℕ) → IsRule opens (λ m. grammar.version) read.version none n
unfolding read.version
version_rule n = rule_seq (word_rule kinds.At n) (λ _. rule_seq (word_rule kinds.Version n) (λ _. whole_rule n))

-- "REPEAT" whole
repeat_rule : (n : ℕ) → IsRule opens (λ m. grammar.repeat_limit) read.repeat_limit none n
unfolding read.repeat_limit
repeat_rule n = rule_seq (word_rule kinds.Repeat n) (λ _. whole_rule n)

-- the kinds that would go on with a relation
abbrev relation_ends : List Kind
relation_ends = kinds.At ∷ kinds.Repeat ∷ alias_kinds

abbrev relation_ext : Lexeme → Bool
relation_ext = among relation_ends

abbrev relation_of : List ℕ → Option (List ℕ) → Option ℕ → Option ℕ → Relation
relation_of table alias at_version repeat = record { table = table; alias = alias; version = at_version; repeat = repeat }

abbrev constraints_of : Option Pred → List Conjunct → Constraints
constraints_of passes conjuncts = record { filter = passes; conjuncts = conjuncts }

abbrev ending_of : Option Goal → Option Method → Option ℕ → Ending
ending_of best solved_by nodes = record { goal = best; method = solved_by; budget = nodes }

-- an optional part that a word begins
optional_rule : {A : Type 0} (kind : Kind) {q : Lang Lexeme A} {P : Parser Lexeme A} {n : ℕ} → IsRule opens (λ m. word kind >> q) P none n → IsRule opens (λ m. optional (word kind >> q)) (maybe (is kind) P) (is kind) n
optional_rule kind x = rule_optional (is kind) (is kind) (starts_behind kind) (within_same (is kind)) (within_none (is kind)) x

-- [ "REPEAT" whole ]
abbrev after_version : List ℕ → Option (List ℕ) → Option ℕ → Lang Lexeme Relation
after_version table alias at_version = optional grammar.repeat_limit >>= λ repeat. gives (relation_of table alias at_version repeat)

-- [ "AT" "VERSION" whole ] [ "REPEAT" whole ]
abbrev after_alias : List ℕ → Option (List ℕ) → Lang Lexeme Relation
after_alias table alias = optional grammar.version >>= λ at_version. after_version table alias at_version

-- what REPEAT may follow
joins_repeat : {before : Lexeme → Bool} → OfKind before → before (sample kinds.Repeat) ≡ false → Within before relation_ext → (table : List ℕ) (alias : Option (List ℕ)) (at_version : Option ℕ) → Joins before (λ m. after_version table alias at_version) relation_ext
joins_repeat {before = before} of no_repeat within table alias at_version =
    joins_skip {q = λ repeat m. gives (relation_of table alias at_version repeat)} (apart_word kinds.Repeat of no_repeat) (starts_behind kinds.Repeat) (λ repeat. joins_gives before (relation_of table alias at_version repeat) relation_ext within)

-- [ "REPEAT" whole ]
after_version_rule : (table : List ℕ) (alias : Option (List ℕ)) (at_version : Option ℕ) (n : ℕ) → IsRule opens (λ m. after_version table alias at_version) (λ s. and_then (maybe (is kinds.Repeat) read.repeat_limit s) (λ repeat. pure (relation_of table alias at_version repeat))) relation_ext n
after_version_rule table alias at_version n =
    rule_then {q = λ repeat m. gives (relation_of table alias at_version repeat)}
    (λ repeat. joins_gives (is kinds.Repeat) (relation_of table alias at_version repeat) relation_ext (within_word kinds.Repeat (of_among relation_ends) refl))
    (optional_rule kinds.Repeat (repeat_rule n))
    (λ repeat. rule_gives (relation_of table alias at_version repeat) relation_ext n)

-- a relation
relation_rule : (n : ℕ) → IsRule opens (λ m. grammar.relation) read.relation relation_ext n
unfolding read.relation
relation_rule n =
    rule_seq (word_rule kinds.From n) (λ _.
    rule_seq (name_rule n) (λ table.
    rule_then {q = λ alias m. after_alias table alias}
    (λ alias. joins_skip (apart_word kinds.At (of_among alias_kinds) refl) (starts_behind kinds.At) (λ at_version. joins_repeat (of_among alias_kinds) refl (within_kinds alias_kinds relation_ends refl) table alias at_version))
    (rule_optional (among alias_kinds) (among alias_kinds) starts_named (within_same (among alias_kinds)) (within_none (among alias_kinds)) (named_rule n))
    (λ alias. rule_then {q = λ at_version m. after_version table alias at_version}
    (λ at_version. joins_repeat (of_is kinds.At) refl (within_word kinds.At (of_among relation_ends) refl) table alias at_version)
    (optional_rule kinds.At (version_rule n))
    (λ at_version. after_version_rule table alias at_version n))))

-- ---- [ "WHERE" pred ] [ "SUCH" "THAT" conj { "AND" conj } ]

-- what would go on with WHERE, and with all constraints
abbrev filter_ends : List Kind
filter_ends = kinds.Where ∷ or_on

abbrev constraint_ends : List Kind
constraint_ends = kinds.Where ∷ kinds.Or ∷ kinds.And ∷ kinds.Dot ∷ kinds.Such ∷ sum_ends

abbrev constraint_ext : Lexeme → Bool
constraint_ext = among constraint_ends

-- "WHERE" pred
filter_rule : {L : Langs Lexeme Pred} {P : Parser Lexeme Pred} {ext : Lexeme → Bool} {n : ℕ} → IsRule opens L P ext n → IsRule opens (λ m. grammar.filter (L m)) (read.filter P) ext n
unfolding read.filter
filter_rule {L = L} {n = n} x = rule_seq {q = λ _. L} (word_rule kinds.Where n) (λ _. x)

-- "SUCH" "THAT" conj { "AND" conj }
such_that_rule : {L : Langs Lexeme Conjunct} {P : Parser Lexeme Conjunct} {n : ℕ} → IsRule opens L P sum_ext n → IsRule opens (λ m. grammar.such_that (L m)) (read.such_that P) constraint_ext n
unfolding read.such_that
such_that_rule {L = L} {n = n} x =
    rule_seq {q = λ _ m. word kinds.That >> listed (word kinds.And) (L m)} (word_rule kinds.Such n) (λ _.
    rule_seq {q = λ _ m. listed (word kinds.And) (L m)} (word_rule kinds.That n) (λ _.
    rule_listed (is kinds.And) constraint_ext starts_one_of (apart_word kinds.And (of_among sum_ends) refl) (within_word kinds.And (of_among constraint_ends) refl) (within_kinds sum_ends constraint_ends refl) (word_rule kinds.And n) x))

-- A constraint after AND takes a token.
pub next_constraint_shrinks : {L : Langs Lexeme Conjunct} {P : Parser Lexeme Conjunct} {n : ℕ} → IsRule opens L P sum_ext n → Shrinks (read.next_constraint P)
next_constraint_shrinks {L = L} {n = n} x = shrinks (starts_behind kinds.And {q = L}) (rule_seq {q = λ _. L} (word_rule kinds.And n) (λ _. x))

-- the constraints of SUCH THAT, or none
abbrev conjuncts_of : Lang Lexeme Conjunct → Lang Lexeme (List Conjunct)
conjuncts_of conj = grammar.such_that conj or gives []

-- these may comes after a set of tokens
joins_conjuncts : {L : Langs Lexeme Conjunct} {before ext : Lexeme → Bool} → OfKind before → before (sample kinds.Such) ≡ false → Within before ext → (passes : Option Pred) → Joins before (λ m. conjuncts_of (L m) >>= λ conjuncts. gives (constraints_of passes conjuncts)) ext
joins_conjuncts {L = L} {before = before} {ext = ext} of no_such within passes =
    joins_then {between = ext} {p = λ m. conjuncts_of (L m)}
    (joins_or {p = λ m. grammar.such_that (L m)} (joins_behind kinds.Such of no_such) (joins_gives before [] ext within))
    (λ conjuncts. joins_gives ext (constraints_of passes conjuncts) ext (within_same ext))

-- all constraints
constraints_rule : {Lp : Langs Lexeme Pred} {Pp : Parser Lexeme Pred} {Lc : Langs Lexeme Conjunct} {Pc : Parser Lexeme Conjunct} {n : ℕ} → IsRule opens Lp Pp (among or_on) n → IsRule opens Lc Pc sum_ext n → IsRule opens (λ m. grammar.constraints (Lp m) (Lc m)) (read.constraints Pp Pc) constraint_ext n
unfolding read.constraints
constraints_rule {Lp = Lp} {Lc = Lc} {n = n} x y =
    rule_then {q = λ passes m. conjuncts_of (Lc m) >>= λ conjuncts. gives (constraints_of passes conjuncts)}
    (λ passes. joins_conjuncts (of_among filter_ends) refl (within_kinds filter_ends constraint_ends refl) passes)
    (rule_optional (is kinds.Where) (among filter_ends) (starts_behind kinds.Where {q = Lp}) (within_word kinds.Where (of_among filter_ends) refl) (within_kinds or_on filter_ends refl) (filter_rule x))
    (λ passes. rule_then {q = λ conjuncts m. gives (constraints_of passes conjuncts)}
    (λ conjuncts. joins_gives constraint_ext (constraints_of passes conjuncts) constraint_ext (within_same constraint_ext))
    (rule_when {p = λ m. grammar.such_that (Lc m)} {q = λ m. gives []} (is kinds.Such) (starts_behind kinds.Such) (joins_gives (is kinds.Such) [] constraint_ext (within_word kinds.Such (of_among constraint_ends) refl)) (such_that_rule y) (rule_gives [] constraint_ext n))
    (λ conjuncts. rule_gives (constraints_of passes conjuncts) constraint_ext n))

-- ---- [ ( "MINIMIZE" | "MAXIMIZE" ) goal ] [ "USING" ( "DIRECT" | "SKETCHREFINE" ) ] [ "BUDGET" whole ]

-- Any token. After a text that any token would go on with there is nothing.
abbrev pub any : Lexeme → Bool
any t = true

-- Each set lies inside the set of all tokens.
pub within_any : (f : Lexeme → Bool) → Within f any
within_any f t outside = absurd cc

-- "USING" ( "DIRECT" | "SKETCHREFINE" )
method_rule : (n : ℕ) → IsRule opens (λ m. grammar.method) read.method none n
unfolding read.method read.direct read.sketch_refine
method_rule n =
    rule_seq (word_rule kinds.Using n) (λ _.
    rule_when (is kinds.Direct) (starts_behind kinds.Direct) (joins_behind kinds.SketchRefine (of_is kinds.Direct) refl)
    (rule_seq (word_rule kinds.Direct n) (λ _. rule_gives Direct none n))
    (rule_seq (word_rule kinds.SketchRefine n) (λ _. rule_gives SketchRefine none n)))

-- "BUDGET" whole
budget_rule : (n : ℕ) → IsRule opens (λ m. grammar.budget) read.budget none n
unfolding read.budget
budget_rule n = rule_seq (word_rule kinds.Budget n) (λ _. whole_rule n)

-- [ "BUDGET" whole ]
abbrev after_method : Option Goal → Option Method → Lang Lexeme Ending
after_method best solved_by = optional grammar.budget >>= λ nodes. gives (ending_of best solved_by nodes)

-- [ "USING" ( "DIRECT" | "SKETCHREFINE" ) ] [ "BUDGET" whole ]
abbrev after_goal : Option Goal → Lang Lexeme Ending
after_goal best = optional grammar.method >>= λ solved_by. after_method best solved_by

-- what BUDGET and USING may follow
joins_budget : {before : Lexeme → Bool} → OfKind before → before (sample kinds.Budget) ≡ false → (best : Option Goal) (solved_by : Option Method) → Joins before (λ m. after_method best solved_by) any
joins_budget {before = before} of no_budget best solved_by =
    joins_skip {q = λ nodes m. gives (ending_of best solved_by nodes)} (apart_word kinds.Budget of no_budget) (starts_behind kinds.Budget) (λ nodes. joins_gives before (ending_of best solved_by nodes) any (within_any before))

joins_method : {before : Lexeme → Bool} → OfKind before → before (sample kinds.Using) ≡ false → before (sample kinds.Budget) ≡ false → (best : Option Goal) → Joins before (λ m. after_goal best) any
joins_method of no_using no_budget best =
    joins_skip {q = λ solved_by m. after_method best solved_by} (apart_word kinds.Using of no_using) (starts_behind kinds.Using) (λ solved_by. joins_budget of no_budget best solved_by)

-- the kinds that would go on with a goal, or begin one
abbrev goal_ends : List Kind
goal_ends = kinds.Minimize ∷ kinds.Maximize ∷ sign_kinds

-- all that may are at the end
ending_rule : {L : Langs Lexeme Goal} {P : Parser Lexeme Goal} {n : ℕ} → Starts (among goal_kinds) L → IsRule opens L P (among sign_kinds) n → IsRule opens (λ m. grammar.ending (L m)) (read.ending P) any n
unfolding read.ending
ending_rule {L = L} {n = n} starts x =
    rule_then {q = λ best m. after_goal best} (λ best. joins_method (of_among goal_ends) refl refl best)
    (rule_optional (among goal_kinds) (among goal_ends) starts (within_kinds goal_kinds goal_ends refl) (within_kinds sign_kinds goal_ends refl) x)
    (λ best. rule_then {q = λ solved_by m. after_method best solved_by} (λ solved_by. joins_budget (of_is kinds.Using) refl best solved_by)
    (optional_rule kinds.Using (method_rule n))
    (λ solved_by. rule_then {q = λ nodes m. gives (ending_of best solved_by nodes)} (λ nodes. joins_gives (is kinds.Budget) (ending_of best solved_by nodes) any (within_any (is kinds.Budget)))
    (optional_rule kinds.Budget (budget_rule n))
    (λ nodes. rule_gives (ending_of best solved_by nodes) any n)))

-- what the end may follow
joins_ending : {L : Langs Lexeme Goal} {before : Lexeme → Bool} → OfKind before → disjoint (kinds.Minimize ∷ kinds.Maximize ∷ []) before ≡ true → before (sample kinds.Using) ≡ false → before (sample kinds.Budget) ≡ false → Starts (among goal_kinds) L → Joins before (λ m. grammar.ending (L m)) any
joins_ending {L = L} of no_goal no_using no_budget starts =
    joins_skip {p = L} {q = λ best m. after_goal best} (apart_kinds goal_kinds of no_goal) starts (λ best. joins_method of no_using no_budget best)

-- ---- the whole line

-- a constraint of SUCH THAT
pub constraint_rule : {L : Langs Lexeme Pred} {P : Parser Lexeme Pred} {n : ℕ} (package_name : List ℕ) → IsRule opens L P (among or_on) n → IsRule opens (λ m. aggregates.constraint package_name (L m)) (read_aggregates.constraint package_name P) sum_ext n
constraint_rule {L = L} package_name x =
    let starts = starts_agg package_name L in
    conj_rule (starts_sum (starts_term starts)) (sum_rule (starts_term starts) (apart_kinds sign_kinds (of_is kinds.Star) refl) (term_rule starts (agg_rule package_name (apart_word kinds.RightParen (of_among or_on) refl) x)))

-- a goal begins with its word
starts_objective : (package_name : List ℕ) (L : Langs Lexeme Pred) → Starts (among goal_kinds) (λ m. aggregates.objective package_name (L m))
starts_objective package_name L = starts_goal (λ m. aggregates.sum (aggregates.part (aggregates.agg package_name (L m))))

-- a goal
objective_rule : {L : Langs Lexeme Pred} {P : Parser Lexeme Pred} {n : ℕ} (package_name : List ℕ) → IsRule opens L P (among or_on) n → IsRule opens (λ m. aggregates.objective package_name (L m)) (read_aggregates.objective package_name P) (among sign_kinds) n
objective_rule {L = L} package_name x =
    let starts = starts_agg package_name L in
    goal_rule (sum_rule (starts_part starts) (λ t e. refl) (part_rule starts (agg_rule package_name (apart_word kinds.RightParen (of_among or_on) refl) x)))

module _ (L : Langs Lexeme Pred) where
  -- what comes after the constraints
  abbrev after_constraints : Head → Relation → Constraints → Langs Lexeme Query
  after_constraints first from such m = grammar.ending (aggregates.objective first.package_name (L m)) >>= λ last. gives (query_of first from such last)

  -- what comes after the relation
  abbrev after_relation : Head → Relation → Langs Lexeme Query
  after_relation first from m = grammar.constraints (L m) (aggregates.constraint first.package_name (L m)) >>= λ such. after_constraints first from such m

  -- what comes after the package
  abbrev after_head : Head → Langs Lexeme Query
  after_head first m = grammar.relation >>= λ from. after_relation first from m

  -- the end may follow what has none of its words
  joins_last : {before : Lexeme → Bool} → OfKind before → disjoint (kinds.Minimize ∷ kinds.Maximize ∷ []) before ≡ true → before (sample kinds.Using) ≡ false → before (sample kinds.Budget) ≡ false → (first : Head) (from : Relation) (such : Constraints) → Joins before (after_constraints first from such) any
  joins_last of no_goal no_using no_budget first from such =
      joins_then {between = any} {p = λ m. grammar.ending (aggregates.objective first.package_name (L m))}
      (joins_ending of no_goal no_using no_budget (starts_objective first.package_name L))
      (λ last. joins_gives any (query_of first from such last) any (within_same any))

  -- the constraints and the end may follow a relation
  joins_constraints : (first : Head) (from : Relation) → Joins relation_ext (after_relation first from) any
  joins_constraints first from =
      joins_then {between = relation_ext} {p = λ m. grammar.constraints (L m) (aggregates.constraint first.package_name (L m))}
      (joins_skip {p = λ m. grammar.filter (L m)} {q = λ passes m. conjuncts_of (aggregates.constraint first.package_name (L m)) >>= λ conjuncts. gives (constraints_of passes conjuncts)}
      (apart_word kinds.Where (of_among relation_ends) refl) (starts_behind kinds.Where {q = L})
      (λ passes. joins_conjuncts (of_among relation_ends) refl (within_same relation_ext) passes))
      (λ such. joins_last (of_among relation_ends) refl refl refl first from such)

-- The reading of a query is exact, where that of conditions is.
pub query_rule : {L : Langs Lexeme Pred} {P : Parser Lexeme Pred} {n : ℕ} → IsRule opens L P (among or_on) n → IsRule opens (λ m. grammar.query (L m)) (read.query P) any n
unfolding read.query
query_rule {L = L} {n = n} x =
    rule_seq {q = after_head L} (head_rule n) (λ first.
    rule_then {q = after_relation L first} (joins_constraints L first) (relation_rule n) (λ from.
    rule_then {q = after_constraints L first from} (joins_last L (of_among constraint_ends) refl refl refl first from) (constraints_rule x (constraint_rule first.package_name x)) (λ such.
    rule_then {q = λ last m. gives (query_of first from such last)} (λ last. joins_gives any (query_of first from such last) any (within_same any)) (ending_rule (starts_objective first.package_name L) (objective_rule first.package_name x)) (λ last.
    rule_gives (query_of first from such last) any n))))

-- A query with at most n brackets and NOTs open at one place of a condition.
pub exact_query : (n : ℕ) → IsRule opens (λ m. grammar.query (pred m)) (read.query (conditions.pred n)) any n
exact_query n = query_rule (pred_rule n)

-- A further item of a sum, and a further constraint, take a token.
pub summand_shrinks : (numbers : Bool) (package_name : List ℕ) (n : ℕ) → Shrinks (read_aggregates.next_item (read_aggregates.summand numbers package_name (conditions.pred n)))
summand_shrinks true package_name n =
    let starts = starts_agg package_name (λ m. pred m) in
    next_item_shrinks (term_rule starts (agg_rule package_name (apart_word kinds.RightParen (of_among or_on) refl) (pred_rule n)))
summand_shrinks false package_name n =
    let starts = starts_agg package_name (λ m. pred m) in
    next_item_shrinks (part_rule starts (agg_rule package_name (apart_word kinds.RightParen (of_among or_on) refl) (pred_rule n)))

pub constraint_shrinks : (package_name : List ℕ) (n : ℕ) → Shrinks (read.next_constraint (read_aggregates.constraint package_name (conditions.pred n)))
constraint_shrinks package_name n = next_constraint_shrinks (constraint_rule package_name (pred_rule n))

-- A query begins with SELECT.
pub starts_query : (L : Langs Lexeme Pred) → Starts (is kinds.Select) (λ m. grammar.query (L m))
starts_query L = starts_then {p = λ m. grammar.head} (starts_behind kinds.Select)
