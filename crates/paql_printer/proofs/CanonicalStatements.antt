-- The canonical lexemes of a statement are a text of it, where those of its conditions are.
use Rattle.std.proofs.Common.{inl, inr, ℕ, List, [], ◌∷◌, refl, sym, subst}
use Rattle.schema_types.specs.declared.Column.{Column}
use Rattle.schema_types.specs.declared.Kind.{Kind as ColumnKind}
use Rattle.schema_types.specs.declared.Kind.TheVariants as column_kinds
use Rattle.schema_types.specs.declared.Lit.{Lit}
use Rattle.schema_types.specs.declared.Lit.TheVariants as lits
use Rattle.paql_lexer.specs.declared.vocabulary.Kind.TheVariants as kinds
use Rattle.paql_ast.specs.declared.statements.Statement.{Statement}
use Rattle.paql_ast.specs.declared.statements.Statement.TheVariants as statements
use Rattle.paql_grammar.specs.Lexemes.{name}
use Rattle.paql_grammar.specs.Conditions.{lit, pred}
use Rattle.paql_grammar.specs.Statements as grammar
use Rattle.paql_printer.specs.Spellings.{spelled}
use Rattle.paql_printer.specs.Spellings as lexeme
use Rattle.paql_printer.specs.Print as print
use Rattle.paql_printer.specs.Canonical.{Canonical}
use Rattle.paql_printer.proofs.CanonicalLeaves.{behind_word, before_word, spells_name, behind_name, spells_content, ends_in, canonical_optional, canonical_listed}
use Rattle.paql_printer.proofs.CanonicalNumbers.{canonical_number, canonical_signed, canonical_whole, spells_signed}
use Rattle.paql_printer.proofs.CanonicalQuery.{canonical_query}

-- ---- literals and names

-- A literal is spelled by its lexemes, whatever it is.
pub spells_lit : (value : Lit) → lit (print.lit value) value
spells_lit (lits.Num value) = inr (ends_in (λ z. lits.Num z) (lexeme.signed value) value (spells_signed value))
spells_lit (lits.Text bytes) = inl (ends_in (λ z. lits.Text z) (lexeme.quoted bytes ∷ []) bytes (spells_content bytes))

pub canonical_lit : Canonical lit print.lit
canonical_lit w value t = spells_lit value

canonical_names : Canonical name (λ of. lexeme.name of ∷ [])
canonical_names w of t = spells_name of

-- ---- CREATE

canonical_kind : Canonical grammar.column_kind print.column_kind
canonical_kind w of (inl t) = subst (λ (z : ColumnKind). grammar.column_kind (print.column_kind z) z) (sym t.second.1) (inl (behind_word kinds.Int (refl, refl)))
canonical_kind w of (inr (inl t)) =
    let x = t.second.second in
    subst (λ (z : ColumnKind). grammar.column_kind (print.column_kind z) z) (sym x.second.second.1) (inr (inl (behind_word kinds.Dec (behind_word kinds.LeftParen (before_word (λ z. column_kinds.Dec z) kinds.RightParen (lexeme.whole x.value ∷ []) x.value (canonical_whole x.front x.value x.first))))))
canonical_kind w of (inr (inr t)) = subst (λ (z : ColumnKind). grammar.column_kind (print.column_kind z) z) (sym t.second.1) (inr (inr (behind_word kinds.TextType (refl, refl))))

canonical_column : Canonical grammar.defined_column print.defined_column
canonical_column w of t =
    let x = t.second in
    subst (λ (z : Column). grammar.defined_column (print.defined_column z) z) (sym x.second.1) (behind_name t.value (ends_in (λ z. record { name = t.value; kind = z }) (print.column_kind x.value) x.value (canonical_kind x.front x.value x.first)))

canonical_create : Canonical grammar.create print.statement
canonical_create w of t =
    let n = t.second.second in
    let x = n.second.second in
    subst (λ (z : Statement). grammar.create (print.statement z) z) (sym x.second.second.1) (behind_word kinds.Create (behind_word kinds.Table (behind_name n.value (behind_word kinds.LeftParen
    (before_word (λ z. statements.Create n.value z) kinds.RightParen (print.listed kinds.Comma print.defined_column x.value) x.value (canonical_listed kinds.Comma print.defined_column canonical_column x.front x.value x.first))))))

-- ---- INSERT and LOAD

canonical_tuple : Canonical grammar.tuple print.tuple
canonical_tuple w row t =
    let x = t.second in
    subst (λ (z : List Lit). grammar.tuple (print.tuple z) z) (sym x.second.second.1) (behind_word kinds.LeftParen (before_word (λ z. z) kinds.RightParen (print.listed kinds.Comma print.lit x.value) x.value (canonical_listed kinds.Comma print.lit canonical_lit x.front x.value x.first)))

canonical_insert : Canonical grammar.insert print.statement
canonical_insert w of t =
    let n = t.second.second in
    let x = n.second.second in
    subst (λ (z : Statement). grammar.insert (print.statement z) z) (sym x.second.1) (behind_word kinds.Insert (behind_word kinds.Into (behind_name n.value (behind_word kinds.Values
    (ends_in (λ z. statements.Insert n.value z) (print.listed kinds.Comma print.tuple x.value) x.value (canonical_listed kinds.Comma print.tuple canonical_tuple x.front x.value x.first))))))

canonical_load : Canonical grammar.load print.statement
canonical_load w of t =
    let n = t.second in
    let x = n.second.second in
    subst (λ (z : Statement). grammar.load (print.statement z) z) (sym x.second.1) (behind_word kinds.Load (behind_name n.value (behind_word kinds.Bytes
    (ends_in (λ z. statements.Load n.value z) (lexeme.whole x.value ∷ []) x.value (canonical_whole x.front x.value x.first)))))

-- ---- PARTITION and VACUUM

canonical_partition : Canonical grammar.partition print.statement
canonical_partition w of t =
    let n = t.second in
    let c = n.second.second.second in
    let s = c.second.second.second in
    let r = s.second.second in
    subst (λ (z : Statement). grammar.partition (print.statement z) z) (sym r.second.1) (behind_word kinds.Partition (behind_name n.value (behind_word kinds.On (behind_word kinds.LeftParen (record {
      front = print.listed kinds.Comma (λ word. lexeme.name word ∷ []) c.value;
      back = spelled kinds.RightParen ∷ (spelled kinds.Size ∷ (lexeme.whole s.value ∷ (spelled kinds.Radius ∷ (lexeme.number r.value ∷ []))));
      value = c.value;
      first = canonical_listed {p = name} kinds.Comma (λ word. lexeme.name word ∷ []) canonical_names c.front c.value c.first;
      second = behind_word kinds.RightParen (behind_word kinds.Size (record {
        front = lexeme.whole s.value ∷ [];
        back = spelled kinds.Radius ∷ (lexeme.number r.value ∷ []);
        value = s.value;
        first = canonical_whole s.front s.value s.first;
        second = behind_word kinds.Radius (ends_in (λ z. statements.Partition n.value c.value s.value z) (lexeme.number r.value ∷ []) r.value (canonical_number r.front r.value r.first));
        whole = refl;
      }));
      whole = refl;
    })))))

canonical_vacuum : Canonical grammar.vacuum print.statement
canonical_vacuum w of t =
    let x = t.second in
    subst (λ (z : Statement). grammar.vacuum (print.statement z) z) (sym x.second.1) (behind_word kinds.Vacuum (ends_in (λ z. statements.Vacuum z) (lexeme.whole x.value ∷ []) x.value (canonical_whole x.front x.value x.first)))

-- ---- statements of one word

canonical_begin : Canonical grammar.begin print.statement
canonical_begin w of t = subst (λ (z : Statement). grammar.begin (print.statement z) z) (sym t.second.1) (behind_word kinds.Begin (refl, refl))

canonical_commit : Canonical grammar.commit print.statement
canonical_commit w of t = subst (λ (z : Statement). grammar.commit (print.statement z) z) (sym t.second.1) (behind_word kinds.Commit (refl, refl))

canonical_rollback : Canonical grammar.rollback print.statement
canonical_rollback w of t = subst (λ (z : Statement). grammar.rollback (print.statement z) z) (sym t.second.1) (behind_word kinds.Rollback (refl, refl))

canonical_certificate : Canonical grammar.certificate print.statement
canonical_certificate w of t = subst (λ (z : Statement). grammar.certificate (print.statement z) z) (sym t.second.1) (behind_word kinds.Certificate (refl, refl))

-- ---- statements with conditions

module _ (n : ℕ) (canonical_pred : Canonical (pred n) print.pred) where
  canonical_filter : Canonical (grammar.filter n) (λ of. spelled kinds.Where ∷ print.pred of)
  canonical_filter w of t = behind_word kinds.Where (canonical_pred t.back of t.second)

  canonical_assignment : Canonical grammar.assignment print.assignment
  canonical_assignment w set t =
      let x = t.second.second in
      subst (λ (z : List ℕ × Lit). grammar.assignment (print.assignment z) z) (sym x.second.1) (behind_name t.value (behind_word kinds.Equal (ends_in (λ z. (t.value, z)) (print.lit x.value) x.value (spells_lit x.value))))

  canonical_update : Canonical (grammar.update n) print.statement
  canonical_update w of t =
      let o = t.second in
      let s = o.second.second in
      let f = s.second in
      subst (λ (z : Statement). grammar.update n (print.statement z) z) (sym f.second.1) (behind_word kinds.Update (behind_name o.value (behind_word kinds.Set (record {
        front = print.listed kinds.Comma print.assignment s.value;
        back = print.filter f.value;
        value = s.value;
        first = canonical_listed kinds.Comma print.assignment canonical_assignment s.front s.value s.first;
        second = ends_in (λ z. statements.Update o.value s.value z) (print.filter f.value) f.value (canonical_optional {p = grammar.filter n} (λ word. spelled kinds.Where ∷ print.pred word) canonical_filter f.front f.value f.first);
        whole = refl;
      }))))

  canonical_delete : Canonical (grammar.delete n) print.statement
  canonical_delete w of t =
      let o = t.second.second in
      let f = o.second in
      subst (λ (z : Statement). grammar.delete n (print.statement z) z) (sym f.second.1) (behind_word kinds.Delete (behind_word kinds.From (behind_name o.value
      (ends_in (λ z. statements.Delete o.value z) (print.filter f.value) f.value (canonical_optional {p = grammar.filter n} (λ word. spelled kinds.Where ∷ print.pred word) canonical_filter f.front f.value f.first)))))

  canonical_package_query : Canonical (grammar.package_query n) print.statement
  canonical_package_query w of t =
      subst (λ (z : Statement). grammar.package_query n (print.statement z) z) (sym t.second.1) (ends_in (λ z. statements.Query z) (print.query t.value) t.value (canonical_query (pred n) canonical_pred canonical_number canonical_signed canonical_whole t.front t.value t.first))

  -- one of the later alternatives
  canonical_session : Canonical (grammar.session n) print.statement
  canonical_session w of (inl t) = inl (canonical_begin w of t)
  canonical_session w of (inr (inl t)) = inr (inl (canonical_commit w of t))
  canonical_session w of (inr (inr (inl t))) = inr (inr (inl (canonical_rollback w of t)))
  canonical_session w of (inr (inr (inr (inl t)))) = inr (inr (inr (inl (canonical_certificate w of t))))
  canonical_session w of (inr (inr (inr (inr t)))) = inr (inr (inr (inr (canonical_package_query w of t))))

  canonical_change : Canonical (grammar.change n) print.statement
  canonical_change w of (inl t) = inl (canonical_update w of t)
  canonical_change w of (inr (inl t)) = inr (inl (canonical_delete w of t))
  canonical_change w of (inr (inr (inl t))) = inr (inr (inl (canonical_partition w of t)))
  canonical_change w of (inr (inr (inr (inl t)))) = inr (inr (inr (inl (canonical_vacuum w of t))))
  canonical_change w of (inr (inr (inr (inr t)))) = inr (inr (inr (inr (canonical_session w of t))))

  -- A statement that has a text is spelled by its canonical lexemes.
  pub canonical_statement : Canonical (grammar.statement n) print.statement
  unfolding grammar.statement
  canonical_statement w of (inl t) = inl (canonical_create w of t)
  canonical_statement w of (inr (inl t)) = inr (inl (canonical_insert w of t))
  canonical_statement w of (inr (inr (inl t))) = inr (inr (inl (canonical_load w of t)))
  canonical_statement w of (inr (inr (inr t))) = inr (inr (inr (canonical_change w of t)))
