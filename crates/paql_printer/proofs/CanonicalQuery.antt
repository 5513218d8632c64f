-- The canonical lexemes of a query are a text of it, where those of its numbers and conditions are.
use Rattle.std.proofs.Common.{inl, inr, ℕ, false, List, [], ◌∷◌, ◌++◌, Some, None, refl, sym, subst, append_assoc}
use Rattle.paql_lexer.specs.declared.vocabulary.Kind.TheVariants as kinds
use Rattle.paql_ast.specs.declared.conditions.Pred.{Pred}
use Rattle.paql_ast.specs.declared.queries.Conjunct.{Conjunct}
use Rattle.paql_ast.specs.declared.queries.Goal.{Goal}
use Rattle.paql_ast.specs.declared.queries.Method.{Method}
use Rattle.paql_ast.specs.declared.queries.Method.TheVariants.{Direct, SketchRefine}
use Rattle.paql_ast.specs.declared.queries.Query.{Query}
use Rattle.formal_grammar.specs.Lang.{Lang, ◌or◌, gives, listed}
use Rattle.paql_grammar.specs.Lexemes.{Lexeme, word, number, whole}
use Rattle.paql_grammar.specs.Conditions.{signed}
use Rattle.paql_grammar.specs.Aggregates as aggregates
use Rattle.paql_grammar.specs.Query as grammar
use Rattle.paql_grammar.specs.Query.{Head, Relation, Constraints, Ending, query_of}
use Rattle.paql_printer.specs.Spellings.{spelled}
use Rattle.paql_printer.specs.Spellings as lexeme
use Rattle.paql_printer.specs.Print as print
use Rattle.paql_printer.specs.Canonical.{Canonical}
use Rattle.paql_printer.proofs.CanonicalLeaves.{spells_word, behind_word, spells_name, behind_name, ends_in, canonical_optional, canonical_listed}
use Rattle.paql_printer.proofs.CanonicalAggregates.{canonical_agg, canonical_part, canonical_term, canonical_sum}
use Rattle.paql_printer.proofs.CanonicalConstraints.{canonical_conjunct, canonical_goal}

-- ---- the package

-- a name without AS
spells_bare : (of : List ℕ) → grammar.named (lexeme.name of ∷ []) of
spells_bare of = record { front = []; back = lexeme.name of ∷ []; value = None; first = inr (refl, refl); second = spells_name of; whole = refl }

-- a name after AS
spells_named : (of : List ℕ) → grammar.named (spelled kinds.As ∷ (lexeme.name of ∷ [])) of
spells_named of = record {
  front = spelled kinds.As ∷ [];
  back = lexeme.name of ∷ [];
  value = Some tt;
  first = inl (ends_in (λ z. Some z) (spelled kinds.As ∷ []) tt (spells_word kinds.As));
  second = spells_name of;
  whole = refl;
}

-- what PACKAGE names, and the package's name
spells_head : (first : Head) → grammar.head (print.head first.of first.package_name) first
spells_head first =
    behind_word kinds.Select (behind_word kinds.Package (behind_word kinds.LeftParen (behind_name first.of (behind_word kinds.RightParen
    (ends_in (λ z. record { of = first.of; package_name = z }) (spelled kinds.As ∷ (lexeme.name first.package_name ∷ [])) first.package_name (spells_named first.package_name))))))

-- ---- the relation

module _ (canonical_whole : Canonical whole (λ value. lexeme.whole value ∷ [])) where
  -- AT VERSION, REPEAT and BUDGET with their numbers
  canonical_version : Canonical grammar.version (λ value. spelled kinds.At ∷ (spelled kinds.Version ∷ (lexeme.whole value ∷ [])))
  canonical_version w value t = behind_word kinds.At (behind_word kinds.Version (canonical_whole t.second.back value t.second.second))

  canonical_repeat : Canonical grammar.repeat_limit (λ value. spelled kinds.Repeat ∷ (lexeme.whole value ∷ []))
  canonical_repeat w value t = behind_word kinds.Repeat (canonical_whole t.back value t.second)

  canonical_budget : Canonical grammar.budget (λ value. spelled kinds.Budget ∷ (lexeme.whole value ∷ []))
  canonical_budget w value t = behind_word kinds.Budget (canonical_whole t.back value t.second)

  -- a relation as it is printed
  abbrev printed_relation : Relation → List Lexeme
  printed_relation from = print.relation from.table from.alias from.version from.repeat

  canonical_relation : Canonical grammar.relation printed_relation
  canonical_relation w from t =
      let a = t.second.second in
      let v = a.second in
      let r = v.second in
      subst (λ (z : Relation). grammar.relation (printed_relation z) z) (sym r.second.1) (behind_word kinds.From (behind_name t.second.value (record {
        front = print.optional (λ of. lexeme.name of ∷ []) a.value;
        back = print.optional (λ of. spelled kinds.At ∷ (spelled kinds.Version ∷ (lexeme.whole of ∷ []))) v.value ++ print.optional (λ of. spelled kinds.Repeat ∷ (lexeme.whole of ∷ [])) r.value;
        value = a.value;
        first = canonical_optional {p = grammar.named} (λ of. lexeme.name of ∷ []) (λ u of d. spells_bare of) a.front a.value a.first;
        second = record {
          front = print.optional (λ of. spelled kinds.At ∷ (spelled kinds.Version ∷ (lexeme.whole of ∷ []))) v.value;
          back = print.optional (λ of. spelled kinds.Repeat ∷ (lexeme.whole of ∷ [])) r.value;
          value = v.value;
          first = canonical_optional {p = grammar.version} (λ of. spelled kinds.At ∷ (spelled kinds.Version ∷ (lexeme.whole of ∷ []))) canonical_version v.front v.value v.first;
          second = ends_in (λ z. record { table = t.second.value; alias = a.value; version = v.value; repeat = z }) (print.optional (λ of. spelled kinds.Repeat ∷ (lexeme.whole of ∷ [])) r.value) r.value (canonical_optional {p = grammar.repeat_limit} (λ of. spelled kinds.Repeat ∷ (lexeme.whole of ∷ [])) canonical_repeat r.front r.value r.first);
          whole = refl;
        };
        whole = refl;
      })))

-- ---- constraints

module _ (pred : Lang Lexeme Pred) (canonical_pred : Canonical pred print.pred) (conj : Lang Lexeme Conjunct) (package_name : List ℕ) (canonical_conj : Canonical conj (print.conjunct package_name)) where
  -- WHERE
  canonical_filter : Canonical (grammar.filter pred) (λ of. spelled kinds.Where ∷ print.pred of)
  canonical_filter w of t = behind_word kinds.Where (canonical_pred t.back of t.second)

  -- SUCH THAT, or nothing
  spells_conjuncts : (u : List Lexeme) (conjuncts : List Conjunct) → listed (word kinds.And) conj u conjuncts → (grammar.such_that conj or gives []) (print.such_that package_name conjuncts) conjuncts
  spells_conjuncts u [] d = inr (refl, refl)
  spells_conjuncts u (first ∷ later) d = inl (behind_word kinds.Such (behind_word kinds.That (canonical_listed kinds.And (print.conjunct package_name) canonical_conj u (first ∷ later) d)))

  canonical_conjuncts : Canonical (grammar.such_that conj or gives []) (print.such_that package_name)
  canonical_conjuncts w conjuncts (inl t) = spells_conjuncts t.second.back conjuncts t.second.second
  canonical_conjuncts w conjuncts (inr t) = subst (λ (z : List Conjunct). (grammar.such_that conj or gives []) (print.such_that package_name z) z) (sym t.1) (inr (refl, refl))

  -- all constraints as they are printed
  abbrev printed_constraints : Constraints → List Lexeme
  printed_constraints such = print.filter such.filter ++ print.such_that package_name such.conjuncts

  canonical_constraints : Canonical (grammar.constraints pred conj) printed_constraints
  canonical_constraints w such t =
      let c = t.second in
      subst (λ (z : Constraints). grammar.constraints pred conj (printed_constraints z) z) (sym c.second.1) (record {
        front = print.filter t.value;
        back = print.such_that package_name c.value;
        value = t.value;
        first = canonical_optional {p = grammar.filter pred} (λ of. spelled kinds.Where ∷ print.pred of) canonical_filter t.front t.value t.first;
        second = ends_in (λ z. record { filter = t.value; conjuncts = z }) (print.such_that package_name c.value) c.value (canonical_conjuncts c.front c.value c.first);
        whole = refl;
      })

-- ---- the end

-- DIRECT or SKETCHREFINE
spells_method : (of : Method) → (grammar.direct or grammar.sketch_refine) (spelled (print.method of) ∷ []) of
spells_method Direct = inl (behind_word kinds.Direct (refl, refl))
spells_method SketchRefine = inr (behind_word kinds.SketchRefine (refl, refl))

canonical_method : Canonical grammar.method (λ of. spelled kinds.Using ∷ (spelled (print.method of) ∷ []))
canonical_method w of t = behind_word kinds.Using (spells_method of)

module _ (goal : Lang Lexeme Goal) (package_name : List ℕ) (canonical_goals : Canonical goal (print.goal package_name)) (canonical_whole : Canonical whole (λ value. lexeme.whole value ∷ [])) where
  -- the end as it is printed
  abbrev printed_ending : Ending → List Lexeme
  printed_ending last = print.ending package_name last.goal last.method last.budget

  canonical_ending : Canonical (grammar.ending goal) printed_ending
  canonical_ending w last t =
      let m = t.second in
      let b = m.second in
      subst (λ (z : Ending). grammar.ending goal (printed_ending z) z) (sym b.second.1) (record {
        front = print.optional (print.goal package_name) t.value;
        back = print.optional (λ of. spelled kinds.Using ∷ (spelled (print.method of) ∷ [])) m.value ++ print.optional (λ of. spelled kinds.Budget ∷ (lexeme.whole of ∷ [])) b.value;
        value = t.value;
        first = canonical_optional (print.goal package_name) canonical_goals t.front t.value t.first;
        second = record {
          front = print.optional (λ of. spelled kinds.Using ∷ (spelled (print.method of) ∷ [])) m.value;
          back = print.optional (λ of. spelled kinds.Budget ∷ (lexeme.whole of ∷ [])) b.value;
          value = m.value;
          first = canonical_optional {p = grammar.method} (λ of. spelled kinds.Using ∷ (spelled (print.method of) ∷ [])) canonical_method m.front m.value m.first;
          second = ends_in (λ z. record { goal = t.value; method = m.value; budget = z }) (print.optional (λ of. spelled kinds.Budget ∷ (lexeme.whole of ∷ [])) b.value) b.value (canonical_optional {p = grammar.budget} (λ of. spelled kinds.Budget ∷ (lexeme.whole of ∷ [])) (canonical_budget canonical_whole) b.front b.value b.first);
          whole = refl;
        };
        whole = refl;
      })

-- ---- the whole line

module _ (pred : Lang Lexeme Pred) (canonical_pred : Canonical pred print.pred) (canonical_number : Canonical (number false) (λ value. lexeme.number value ∷ [])) (canonical_signed : Canonical signed lexeme.signed) (canonical_whole : Canonical whole (λ value. lexeme.whole value ∷ [])) where
  -- a constraint, and a goal, of a query with this package
  canonical_constraint : (package_name : List ℕ) → Canonical (aggregates.constraint package_name pred) (print.conjunct package_name)
  canonical_constraint package_name =
      let agg = aggregates.agg package_name pred in
      let of_agg = canonical_agg pred canonical_pred package_name in
      canonical_conjunct (aggregates.sum (aggregates.term agg)) package_name (canonical_sum (aggregates.term agg) package_name (canonical_term agg package_name of_agg canonical_number)) canonical_signed

  canonical_objective : (package_name : List ℕ) → Canonical (aggregates.objective package_name pred) (print.goal package_name)
  canonical_objective package_name =
      let agg = aggregates.agg package_name pred in
      let of_agg = canonical_agg pred canonical_pred package_name in
      canonical_goal (aggregates.sum (aggregates.part agg)) package_name (canonical_sum (aggregates.part agg) package_name (canonical_part agg package_name of_agg canonical_number))

  -- A query that has a text is spelled by its canonical lexemes.
  pub canonical_query : Canonical (grammar.query pred) print.query
  canonical_query w asked t =
      let first = t.value in
      let r = t.second in
      let c = r.second in
      let e = c.second in
      let conj = aggregates.constraint first.package_name pred in
      let goal = aggregates.objective first.package_name pred in
      let end = print.ending first.package_name e.value.goal e.value.method e.value.budget in
      let such = print.such_that first.package_name c.value.conjuncts in
      let passes = print.filter c.value.filter in
      let from = print.relation r.value.table r.value.alias r.value.version r.value.repeat in
      subst (λ (z : Query). grammar.query pred (print.query z) z) (sym e.second.1) (record {
        front = print.head first.of first.package_name;
        back = from ++ (passes ++ (such ++ end));
        value = first;
        first = spells_head first;
        second = record {
          front = from;
          back = passes ++ (such ++ end);
          value = r.value;
          first = canonical_relation canonical_whole r.front r.value r.first;
          second = record {
            front = passes ++ such;
            back = end;
            value = c.value;
            first = canonical_constraints pred canonical_pred conj first.package_name (canonical_constraint first.package_name) c.front c.value c.first;
            second = ends_in (λ z. query_of first r.value c.value z) end e.value (canonical_ending goal first.package_name (canonical_objective first.package_name) canonical_whole e.front e.value e.first);
            whole = sym (append_assoc passes such end);
          };
          whole = refl;
        };
        whole = refl;
      })
