-- The canonical lexemes of constraints and goals are texts of them, where those of sums and of numbers are.
use Rattle.std.proofs.Common.{◌≡◌, inl, inr, ℕ, Bool, true, false, if◌then◌else◌, List, [], ◌∷◌, ◌++◌, Some, refl, sym, subst, append_assoc}
use Rattle.pq_base.specs.declared.scaled.Scaled.{Scaled}
use Rattle.paql_lexer.specs.declared.vocabulary.Kind.{Kind}
use Rattle.paql_lexer.specs.declared.vocabulary.Kind.TheVariants as kinds
use Rattle.paql_ast.specs.declared.conditions.ColumnName.{ColumnName}
use Rattle.paql_ast.specs.declared.conditions.CmpOp.{CmpOp}
use Rattle.paql_ast.specs.declared.conditions.CmpOp.TheVariants as ops
use Rattle.paql_ast.specs.declared.aggregates.SumItem.{SumItem}
use Rattle.paql_ast.specs.declared.queries.Conjunct.{Conjunct}
use Rattle.paql_ast.specs.declared.queries.Conjunct.TheVariants.{Compare, Between, Avg, AvgBetween}
use Rattle.paql_ast.specs.declared.queries.Goal.{Goal}
use Rattle.formal_grammar.specs.Lang.{Lang, ◌or◌}
use Rattle.paql_grammar.specs.Lexemes.{Lexeme}
use Rattle.paql_grammar.specs.Conditions.{comparison, comparison_in, comparison_of, signed}
use Rattle.paql_grammar.specs.Aggregates as grammar
use Rattle.paql_printer.specs.Spellings.{spelled}
use Rattle.paql_printer.specs.Spellings as lexeme
use Rattle.paql_printer.specs.Print as print
use Rattle.paql_printer.specs.Canonical.{Canonical}
use Rattle.paql_printer.proofs.CanonicalLeaves.{behind_word, ends_in}
use Rattle.paql_printer.proofs.CanonicalAggregates.{spells_column}

-- `<>` compares no sums
not_unequal : (kind : Kind) → comparison_in kind ≡ Some ops.Ne → ⊥
not_unequal kinds.Equal e = absurd cc
not_unequal kinds.Less e = absurd cc
not_unequal kinds.LessOrEqual e = absurd cc
not_unequal kinds.Greater e = absurd cc
not_unequal kinds.GreaterOrEqual e = absurd cc
not_unequal kind e = absurd cc

-- a comparison of sums
shows_comparison : (kind : Kind) (op : CmpOp) → comparison_in kind ≡ Some op → comparison_of (spelled (print.operator op)) ≡ Some op
shows_comparison kind ops.Eq e = refl
shows_comparison kind ops.Ne e = absurd (not_unequal kind e)
shows_comparison kind ops.Lt e = refl
shows_comparison kind ops.Le e = refl
shows_comparison kind ops.Gt e = refl
shows_comparison kind ops.Ge e = refl

canonical_comparison : Canonical comparison (λ op. spelled (print.operator op) ∷ [])
canonical_comparison w op t = (spelled (print.operator op), refl, shows_comparison t.0.kind op t.2)

module _ (sum : Lang Lexeme (List SumItem)) (package_name : List ℕ) (canonical_sum : Canonical sum (print.sum package_name)) (canonical_signed : Canonical signed lexeme.signed) where
  -- BETWEEN and its ends
  canonical_ends : Canonical grammar.ends (λ both. print.ends both.0 both.1)
  canonical_ends w both t =
      let s = t.second in
      let h = s.second.second in
      subst (λ (z : Scaled × Scaled). grammar.ends (print.ends z.0 z.1) z) (sym h.second.1) (behind_word kinds.Between (record {
        front = lexeme.signed s.value;
        back = spelled kinds.And ∷ lexeme.signed h.value;
        value = s.value;
        first = canonical_signed s.front s.value s.first;
        second = behind_word kinds.And (ends_in (λ z. (s.value, z)) (lexeme.signed h.value) h.value (canonical_signed h.front h.value h.first));
        whole = refl;
      }))

  -- what comes after an average
  abbrev average_rest : ColumnName → Lang Lexeme Conjunct
  average_rest of = grammar.average_between of or grammar.average_compared of

  -- AVG of a column, and the rest
  spells_average : (of : ColumnName) (rest : List Lexeme) (c : Conjunct) → average_rest of rest c → grammar.conj sum (print.average of ++ rest) c
  spells_average of rest c d = inl (behind_word kinds.Avg (behind_word kinds.LeftParen (record {
    front = print.column of;
    back = spelled kinds.RightParen ∷ rest;
    value = of;
    first = spells_column of;
    second = behind_word kinds.RightParen d;
    whole = append_assoc (print.column of) (spelled kinds.RightParen ∷ []) rest;
  })))

  -- a constraint on an average
  average_constraint : (of : ColumnName) (u : List Lexeme) (c : Conjunct) → average_rest of u c → grammar.conj sum (print.conjunct package_name c) c
  average_constraint of u c (inl t) =
      subst (λ (z : Conjunct). grammar.conj sum (print.conjunct package_name z) z) (sym t.second.1) (spells_average of (print.ends t.value.0 t.value.1) (AvgBetween of t.value.0 t.value.1) (inl (ends_in (λ z. AvgBetween of z.0 z.1) (print.ends t.value.0 t.value.1) t.value (canonical_ends t.front t.value t.first))))
  average_constraint of u c (inr t) =
      let x = t.second in
      subst (λ (z : Conjunct). grammar.conj sum (print.conjunct package_name z) z) (sym x.second.1) (spells_average of (spelled (print.operator t.value) ∷ lexeme.signed x.value) (Avg of t.value x.value) (inr (record {
        front = spelled (print.operator t.value) ∷ [];
        back = lexeme.signed x.value;
        value = t.value;
        first = canonical_comparison t.front t.value t.first;
        second = ends_in (λ z. Avg of t.value z) (lexeme.signed x.value) x.value (canonical_signed x.front x.value x.first);
        whole = refl;
      })))

  -- a constraint on a sum, whose left side is spelled
  sum_constraint : (left : List SumItem) → sum (print.sum package_name left) left → (u : List Lexeme) (c : Conjunct) → (grammar.between left or grammar.compared left sum) u c → grammar.conj sum (print.conjunct package_name c) c
  sum_constraint left spells u c (inl t) =
      subst (λ (z : Conjunct). grammar.conj sum (print.conjunct package_name z) z) (sym t.second.1) (inr (record {
        front = print.sum package_name left;
        back = print.ends t.value.0 t.value.1;
        value = left;
        first = spells;
        second = inl (ends_in (λ z. Between left z.0 z.1) (print.ends t.value.0 t.value.1) t.value (canonical_ends t.front t.value t.first));
        whole = refl;
      }))
  sum_constraint left spells u c (inr t) =
      let x = t.second in
      subst (λ (z : Conjunct). grammar.conj sum (print.conjunct package_name z) z) (sym x.second.1) (inr (record {
        front = print.sum package_name left;
        back = spelled (print.operator t.value) ∷ print.sum package_name x.value;
        value = left;
        first = spells;
        second = inr (record {
          front = spelled (print.operator t.value) ∷ [];
          back = print.sum package_name x.value;
          value = t.value;
          first = canonical_comparison t.front t.value t.first;
          second = ends_in (λ z. Compare left t.value z) (print.sum package_name x.value) x.value (canonical_sum x.front x.value x.first);
          whole = refl;
        });
        whole = refl;
      }))

  -- a constraint of SUCH THAT
  pub canonical_conjunct : Canonical (grammar.conj sum) (print.conjunct package_name)
  canonical_conjunct w c (inl t) = let x = t.second.second in average_constraint x.value x.second.back c x.second.second
  canonical_conjunct w c (inr t) = sum_constraint t.value (canonical_sum t.front t.value t.first) t.back c t.second

-- the word of a goal
spells_sense : (maximize : Bool) → grammar.sense (spelled (if maximize then kinds.Maximize else kinds.Minimize) ∷ []) maximize
spells_sense true = inr (behind_word kinds.Maximize (refl, refl))
spells_sense false = inl (behind_word kinds.Minimize (refl, refl))

-- A goal, over sums of parts.
pub canonical_goal : (sum : Lang Lexeme (List SumItem)) (package_name : List ℕ) → Canonical sum (print.sum package_name) → Canonical (grammar.goal sum) (print.goal package_name)
canonical_goal sum package_name canonical_sum w of t =
    let x = t.second in
    subst (λ (z : Goal). grammar.goal sum (print.goal package_name z) z) (sym x.second.1) (record {
      front = spelled (if t.value then kinds.Maximize else kinds.Minimize) ∷ [];
      back = print.sum package_name x.value;
      value = t.value;
      first = spells_sense t.value;
      second = ends_in (λ z. record { maximize = t.value; parts = z }) (print.sum package_name x.value) x.value (canonical_sum x.front x.value x.first);
      whole = refl;
    })
