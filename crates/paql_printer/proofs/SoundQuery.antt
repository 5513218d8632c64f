-- The canonical lexemes of a query are sound, where those of its conditions are.
use Rattle.std.proofs.Common.{inl, inr, ℕ, List, [], ◌∷◌, ◌++◌, refl, sym, subst, append_assoc}
use Rattle.paql_lexer.specs.Lexical.{IsWord}
use Rattle.paql_lexer.specs.declared.vocabulary.Kind.TheVariants as kinds
use Rattle.paql_ast.specs.declared.conditions.Pred.{Pred}
use Rattle.paql_ast.specs.declared.queries.Conjunct.{Conjunct}
use Rattle.paql_ast.specs.declared.queries.Goal.{Goal}
use Rattle.paql_ast.specs.declared.queries.Method.{Method}
use Rattle.paql_ast.specs.declared.queries.Method.TheVariants.{Direct, SketchRefine}
use Rattle.paql_ast.specs.declared.queries.Query.{Query}
use Rattle.formal_grammar.specs.Lang.{Lang, ◌or◌, gives, listed}
use Rattle.paql_grammar.specs.Lexemes.{Lexeme, word}
use Rattle.paql_grammar.specs.Aggregates as aggregates
use Rattle.paql_grammar.specs.Query as grammar
use Rattle.paql_grammar.specs.Query.{Head, Relation, Constraints, Ending}
use Rattle.paql_printer.specs.Print as print
use Rattle.paql_printer.specs.Print.{behind}
use Rattle.paql_printer.specs.Spellings.{spelled, name, whole}
use Rattle.paql_printer.proofs.Separable.{AreTokens}
use Rattle.paql_printer.proofs.Sound.{Plain, Sound, Sounds, sound_none, sound_append, sound_behind, sound_one, in_front, in_back, sound_optional, sound_listed}
use Rattle.paql_printer.proofs.SoundWords.{plain_word, name_plain, named_word}
use Rattle.paql_printer.proofs.SoundNumbers.{sound_whole}
use Rattle.paql_printer.proofs.SoundConditions.{word_behind}
use Rattle.paql_printer.proofs.SoundAggregates.{sound_agg, sound_part, sound_term, sound_sum}
use Rattle.paql_printer.proofs.SoundConstraints.{sound_conjunct, sound_goal}

-- ---- the package

-- the names of a query's head are words
record AreWords (first : Head) : Type 0 where
  of : IsWord first.of
  package_name : IsWord first.package_name

name_in_named : (w : List Lexeme) (of : List ℕ) → grammar.named w of → AreTokens w → IsWord of
name_in_named w of t all = named_word t.back of t.second (in_back t all)

head_words : (w : List Lexeme) (first : Head) → grammar.head w first → AreTokens w → AreWords first
head_words w first t all =
    let of = t.second.second.second in
    let named = of.second.second in
    let of_name = in_back t.second.second (in_back t.second (in_back t all)) in
    let of_named = in_back of.second (in_back of of_name) in
    subst AreWords (sym named.second.1) (record { of = named_word of.front of.value of.first (in_front of of_name); package_name = name_in_named named.front named.value named.first (in_front named of_named) })

sound_head : (first : Head) → AreWords first → Sound (print.head first.of first.package_name)
sound_head first words =
    let named = word_behind kinds.As _ (plain_word kinds.As refl) (sound_one (name first.package_name) (name_plain first.package_name words.package_name)) in
    let names = sound_behind (name first.of) _ (name_plain first.of words.of) (word_behind kinds.RightParen _ (plain_word kinds.RightParen refl) named) in
    word_behind kinds.Select _ (plain_word kinds.Select refl) (word_behind kinds.Package _ (plain_word kinds.Package refl) (word_behind kinds.LeftParen _ (plain_word kinds.LeftParen refl) names))

-- ---- the relation

sound_named : Sounds grammar.named (λ of. name of ∷ [])
sound_named w of t all = sound_one (name of) (name_plain of (name_in_named w of t all))

-- AT VERSION, REPEAT and BUDGET with their numbers
sound_version : Sounds grammar.version (λ value. behind kinds.At (behind kinds.Version (whole value ∷ [])))
sound_version w value t all = word_behind kinds.At _ (plain_word kinds.At refl) (word_behind kinds.Version _ (plain_word kinds.Version refl) (sound_whole t.second.back value t.second.second (in_back t.second (in_back t all))))

sound_repeat : Sounds grammar.repeat_limit (λ value. behind kinds.Repeat (whole value ∷ []))
sound_repeat w value t all = word_behind kinds.Repeat _ (plain_word kinds.Repeat refl) (sound_whole t.back value t.second (in_back t all))

sound_budget : Sounds grammar.budget (λ value. behind kinds.Budget (whole value ∷ []))
sound_budget w value t all = word_behind kinds.Budget _ (plain_word kinds.Budget refl) (sound_whole t.back value t.second (in_back t all))

sound_relation : Sounds grammar.relation (λ from. print.relation from.table from.alias from.version from.repeat)
sound_relation w from t all =
    let table = t.second in
    let alias = table.second in
    let version = alias.second in
    let repeat = version.second in
    let of_table = in_back t all in
    let of_alias = in_back table of_table in
    let of_version = in_back alias of_alias in
    let last = sound_optional {p = grammar.repeat_limit} (λ of. behind kinds.Repeat (whole of ∷ [])) sound_repeat repeat.front repeat.value repeat.first (in_front repeat (in_back version of_version)) in
    let middle = sound_optional {p = grammar.version} (λ of. behind kinds.At (behind kinds.Version (whole of ∷ []))) sound_version version.front version.value version.first (in_front version of_version) in
    let front = sound_optional {p = grammar.named} (λ of. name of ∷ []) sound_named alias.front alias.value alias.first (in_front alias of_alias) in
    let named = name_plain table.value (named_word table.front table.value table.first (in_front table of_table)) in
    subst (λ (z : Relation). Sound (print.relation z.table z.alias z.version z.repeat)) (sym repeat.second.1)
    (word_behind kinds.From _ (plain_word kinds.From refl) (sound_behind (name table.value) _ named (sound_append (print.optional (λ of. name of ∷ []) alias.value) _ front (sound_append (print.optional (λ of. behind kinds.At (behind kinds.Version (whole of ∷ []))) version.value) _ middle last))))

-- ---- constraints

module _ (pred : Lang Lexeme Pred) (sound_pred : Sounds pred print.pred) (conj : Lang Lexeme Conjunct) (package_name : List ℕ) (sound_conj : Sounds conj (print.conjunct package_name)) where
  sound_filter : Sounds (grammar.filter pred) (λ of. behind kinds.Where (print.pred of))
  sound_filter w of t all = word_behind kinds.Where (print.pred of) (plain_word kinds.Where refl) (sound_pred t.back of t.second (in_back t all))

  -- SUCH THAT, or nothing
  such_that : (u : List Lexeme) (conjuncts : List Conjunct) → listed (word kinds.And) conj u conjuncts → AreTokens u → Sound (print.such_that package_name conjuncts)
  such_that u [] d all = sound_none
  such_that u (first ∷ later) d all =
      word_behind kinds.Such _ (plain_word kinds.Such refl) (word_behind kinds.That _ (plain_word kinds.That refl) (sound_listed kinds.And (print.conjunct package_name) (plain_word kinds.And refl) sound_conj u (first ∷ later) d all))

  sound_conjuncts : Sounds (grammar.such_that conj or gives []) (print.such_that package_name)
  sound_conjuncts w conjuncts (inl t) all = such_that t.second.back conjuncts t.second.second (in_back t.second (in_back t all))
  sound_conjuncts w conjuncts (inr t) all = subst (λ (z : List Conjunct). Sound (print.such_that package_name z)) (sym t.1) sound_none

  sound_constraints : Sounds (grammar.constraints pred conj) (λ such. print.filter such.filter ++ print.such_that package_name such.conjuncts)
  sound_constraints w such t all =
      let conjuncts = t.second in
      let filter = sound_optional {p = grammar.filter pred} (λ of. behind kinds.Where (print.pred of)) sound_filter t.front t.value t.first (in_front t all) in
      let later = sound_conjuncts conjuncts.front conjuncts.value conjuncts.first (in_front conjuncts (in_back t all)) in
      subst (λ (z : Constraints). Sound (print.filter z.filter ++ print.such_that package_name z.conjuncts)) (sym conjuncts.second.1) (sound_append (print.filter t.value) (print.such_that package_name conjuncts.value) filter later)

-- ---- the end

method_plain : (of : Method) → Plain (spelled (print.method of))
method_plain Direct = plain_word kinds.Direct refl
method_plain SketchRefine = plain_word kinds.SketchRefine refl

sound_method : Sounds grammar.method (λ of. behind kinds.Using (spelled (print.method of) ∷ []))
sound_method w of t all = word_behind kinds.Using _ (plain_word kinds.Using refl) (sound_one (spelled (print.method of)) (method_plain of))

sound_ending : (goal : Lang Lexeme Goal) (package_name : List ℕ) → Sounds goal (print.goal package_name) → Sounds (grammar.ending goal) (λ last. print.ending package_name last.goal last.method last.budget)
sound_ending goal package_name sound_goals w last t all =
    let method = t.second in
    let budget = method.second in
    let of_method = in_back t all in
    let best = sound_optional (print.goal package_name) sound_goals t.front t.value t.first (in_front t all) in
    let solved_by = sound_optional {p = grammar.method} (λ of. behind kinds.Using (spelled (print.method of) ∷ [])) sound_method method.front method.value method.first (in_front method of_method) in
    let nodes = sound_optional {p = grammar.budget} (λ of. behind kinds.Budget (whole of ∷ [])) sound_budget budget.front budget.value budget.first (in_front budget (in_back method of_method)) in
    subst (λ (z : Ending). Sound (print.ending package_name z.goal z.method z.budget)) (sym budget.second.1)
    (sound_append (print.optional (print.goal package_name) t.value) _ best (sound_append (print.optional (λ of. behind kinds.Using (spelled (print.method of) ∷ [])) method.value) _ solved_by nodes))

-- ---- the whole line

module _ (pred : Lang Lexeme Pred) (sound_pred : Sounds pred print.pred) where
  -- a constraint, and a goal, of a query with this package
  sound_constraint : (package_name : List ℕ) → IsWord package_name → Sounds (aggregates.constraint package_name pred) (print.conjunct package_name)
  sound_constraint package_name is_word =
      let agg = aggregates.agg package_name pred in
      let of_agg = sound_agg pred sound_pred package_name is_word in
      sound_conjunct (aggregates.sum (aggregates.term agg)) package_name (sound_sum (aggregates.term agg) package_name (sound_term agg package_name of_agg))

  sound_objective : (package_name : List ℕ) → IsWord package_name → Sounds (aggregates.objective package_name pred) (print.goal package_name)
  sound_objective package_name is_word =
      let agg = aggregates.agg package_name pred in
      let of_agg = sound_agg pred sound_pred package_name is_word in
      sound_goal (aggregates.sum (aggregates.part agg)) package_name (sound_sum (aggregates.part agg) package_name (sound_part agg package_name of_agg))

  -- The canonical lexemes of a query that has a text of tokens are sound.
  pub sound_query : Sounds (grammar.query pred) print.query
  sound_query w asked t all =
      let first = t.value in
      let from = t.second in
      let such = from.second in
      let last = such.second in
      let of_from = in_back t all in
      let of_such = in_back from of_from in
      let words = head_words t.front first t.first (in_front t all) in
      let conj = aggregates.constraint first.package_name pred in
      let goal = aggregates.objective first.package_name pred in
      let relation = sound_relation from.front from.value from.first (in_front from of_from) in
      let constraints = sound_constraints pred sound_pred conj first.package_name (sound_constraint first.package_name words.package_name) such.front such.value such.first (in_front such of_such) in
      let ending = sound_ending goal first.package_name (sound_objective first.package_name words.package_name) last.front last.value last.first (in_front last (in_back such of_such)) in
      let passes = print.filter such.value.filter in
      let conjuncts = print.such_that first.package_name such.value.conjuncts in
      let end = print.ending first.package_name last.value.goal last.value.method last.value.budget in
      let later = subst Sound (append_assoc passes conjuncts end) (sound_append (passes ++ conjuncts) end constraints ending) in
      subst (λ (z : Query). Sound (print.query z)) (sym last.second.1)
      (sound_append (print.head first.of first.package_name) _ (sound_head first words) (sound_append (print.relation from.value.table from.value.alias from.value.version from.value.repeat) (passes ++ (conjuncts ++ end)) relation later))
