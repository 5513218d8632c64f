-- The canonical lexemes of a statement that has a text of tokens are separable.
use Rattle.std.proofs.Common.{inl, inr, ℕ, false, List, [], ◌∷◌, refl, sym, subst}
use Rattle.schema_types.specs.declared.Column.{Column}
use Rattle.schema_types.specs.declared.Kind.{Kind as ColumnKind}
use Rattle.schema_types.specs.declared.Lit.{Lit}
use Rattle.paql_lexer.specs.declared.vocabulary.Kind.TheVariants as kinds
use Rattle.paql_ast.specs.declared.statements.Statement.{Statement}
use Rattle.paql_grammar.specs.Lexemes.{Lexeme, name as named}
use Rattle.paql_grammar.specs.Conditions.{pred}
use Rattle.paql_grammar.specs.Statements as grammar
use Rattle.paql_grammar.specs.Statements.{statement}
use Rattle.paql_printer.specs.Print as print
use Rattle.paql_printer.specs.Print.{behind}
use Rattle.paql_printer.specs.Spellings.{spelled, name, whole}
use Rattle.paql_printer.proofs.Separable.{AreTokens, Separable}
use Rattle.paql_printer.proofs.Sound.{Sound, Sounds, sound_append, sound_behind, sound_one, separable, in_front, in_back, sound_optional, sound_listed}
use Rattle.paql_printer.proofs.SoundWords.{plain_word, name_plain, named_word, sound_names}
use Rattle.paql_printer.proofs.SoundNumbers.{plain_whole, sound_whole, sound_number}
use Rattle.paql_printer.proofs.SoundConditions.{sound_lit, sound_pred, sound_brackets, word_behind}
use Rattle.paql_printer.proofs.SoundQuery.{sound_query}

-- ---- CREATE

sound_kind : Sounds grammar.column_kind print.column_kind
sound_kind w of (inl t) all = subst (λ (z : ColumnKind). Sound (print.column_kind z)) (sym t.second.1) (sound_one (spelled kinds.Int) (plain_word kinds.Int refl))
sound_kind w of (inr (inl t)) all =
    let scale = t.second.second in
    let brackets = sound_brackets (whole scale.value ∷ []) (sound_whole scale.front scale.value scale.first (in_front scale (in_back t.second (in_back t all)))) in
    subst (λ (z : ColumnKind). Sound (print.column_kind z)) (sym scale.second.second.1) (word_behind kinds.Dec _ (plain_word kinds.Dec refl) brackets)
sound_kind w of (inr (inr t)) all = subst (λ (z : ColumnKind). Sound (print.column_kind z)) (sym t.second.1) (sound_one (spelled kinds.TextType) (plain_word kinds.TextType refl))

sound_defined : Sounds grammar.defined_column print.defined_column
sound_defined w of t all =
    let kind = t.second in
    let plain = name_plain t.value (named_word t.front t.value t.first (in_front t all)) in
    subst (λ (z : Column). Sound (print.defined_column z)) (sym kind.second.1) (sound_behind (name t.value) (print.column_kind kind.value) plain (sound_kind kind.front kind.value kind.first (in_front kind (in_back t all))))

sound_create : Sounds grammar.create print.statement
sound_create w of t all =
    let table = t.second.second in
    let columns = table.second.second in
    let of_table = in_back t.second (in_back t all) in
    let list = sound_listed kinds.Comma print.defined_column (plain_word kinds.Comma refl) sound_defined columns.front columns.value columns.first (in_front columns (in_back table.second (in_back table of_table))) in
    let plain = name_plain table.value (named_word table.front table.value table.first (in_front table of_table)) in
    subst (λ (z : Statement). Sound (print.statement z)) (sym columns.second.second.1)
    (word_behind kinds.Create _ (plain_word kinds.Create refl) (word_behind kinds.Table _ (plain_word kinds.Table refl) (sound_behind (name table.value) _ plain (sound_brackets (print.listed kinds.Comma print.defined_column columns.value) list))))

-- ---- INSERT and LOAD

sound_tuple : Sounds grammar.tuple print.tuple
sound_tuple w row t all =
    let values = t.second in
    let list = sound_listed kinds.Comma print.lit (plain_word kinds.Comma refl) sound_lit values.front values.value values.first (in_front values (in_back t all)) in
    subst (λ (z : List Lit). Sound (print.tuple z)) (sym values.second.second.1) (sound_brackets (print.listed kinds.Comma print.lit values.value) list)

sound_insert : Sounds grammar.insert print.statement
sound_insert w of t all =
    let table = t.second.second in
    let rows = table.second.second in
    let of_table = in_back t.second (in_back t all) in
    let list = sound_listed kinds.Comma print.tuple (plain_word kinds.Comma refl) sound_tuple rows.front rows.value rows.first (in_front rows (in_back table.second (in_back table of_table))) in
    let plain = name_plain table.value (named_word table.front table.value table.first (in_front table of_table)) in
    subst (λ (z : Statement). Sound (print.statement z)) (sym rows.second.1)
    (word_behind kinds.Insert _ (plain_word kinds.Insert refl) (word_behind kinds.Into _ (plain_word kinds.Into refl) (sound_behind (name table.value) _ plain (word_behind kinds.Values _ (plain_word kinds.Values refl) list))))

sound_load : Sounds grammar.load print.statement
sound_load w of t all =
    let table = t.second in
    let bytes = table.second.second in
    let of_table = in_back t all in
    let count = sound_whole bytes.front bytes.value bytes.first (in_front bytes (in_back table.second (in_back table of_table))) in
    let plain = name_plain table.value (named_word table.front table.value table.first (in_front table of_table)) in
    subst (λ (z : Statement). Sound (print.statement z)) (sym bytes.second.1)
    (word_behind kinds.Load _ (plain_word kinds.Load refl) (sound_behind (name table.value) _ plain (word_behind kinds.Bytes _ (plain_word kinds.Bytes refl) count)))

-- ---- PARTITION and VACUUM

sound_partition : Sounds grammar.partition print.statement
sound_partition w of t all =
    let table = t.second in
    let columns = table.second.second.second in
    let size = columns.second.second.second in
    let radius = size.second.second in
    let of_table = in_back t all in
    let of_columns = in_back table.second.second (in_back table.second (in_back table of_table)) in
    let of_size = in_back columns.second.second (in_back columns.second (in_back columns of_columns)) in
    let list = sound_listed {p = named} kinds.Comma (λ of. name of ∷ []) (plain_word kinds.Comma refl) sound_names columns.front columns.value columns.first (in_front columns of_columns) in
    let last = sound_number false radius.front radius.value radius.first (in_front radius (in_back size.second (in_back size of_size))) in
    let limits = sound_behind (whole size.value) _ (plain_whole size.front size.value size.first) (word_behind kinds.Radius _ (plain_word kinds.Radius refl) last) in
    let closed = word_behind kinds.RightParen _ (plain_word kinds.RightParen refl) (word_behind kinds.Size _ (plain_word kinds.Size refl) limits) in
    let brackets = word_behind kinds.LeftParen _ (plain_word kinds.LeftParen refl) (sound_append (print.listed kinds.Comma (λ of. name of ∷ []) columns.value) _ list closed) in
    let plain = name_plain table.value (named_word table.front table.value table.first (in_front table of_table)) in
    subst (λ (z : Statement). Sound (print.statement z)) (sym radius.second.1)
    (word_behind kinds.Partition _ (plain_word kinds.Partition refl) (sound_behind (name table.value) _ plain (word_behind kinds.On _ (plain_word kinds.On refl) brackets)))

sound_vacuum : Sounds grammar.vacuum print.statement
sound_vacuum w of t all =
    let version = t.second in
    subst (λ (z : Statement). Sound (print.statement z)) (sym version.second.1) (word_behind kinds.Vacuum _ (plain_word kinds.Vacuum refl) (sound_whole version.front version.value version.first (in_front version (in_back t all))))

-- ---- statements of one word

sound_begin : Sounds grammar.begin print.statement
sound_begin w of t all = subst (λ (z : Statement). Sound (print.statement z)) (sym t.second.1) (sound_one (spelled kinds.Begin) (plain_word kinds.Begin refl))

sound_commit : Sounds grammar.commit print.statement
sound_commit w of t all = subst (λ (z : Statement). Sound (print.statement z)) (sym t.second.1) (sound_one (spelled kinds.Commit) (plain_word kinds.Commit refl))

sound_rollback : Sounds grammar.rollback print.statement
sound_rollback w of t all = subst (λ (z : Statement). Sound (print.statement z)) (sym t.second.1) (sound_one (spelled kinds.Rollback) (plain_word kinds.Rollback refl))

sound_certificate : Sounds grammar.certificate print.statement
sound_certificate w of t all = subst (λ (z : Statement). Sound (print.statement z)) (sym t.second.1) (sound_one (spelled kinds.Certificate) (plain_word kinds.Certificate refl))

-- ---- statements with conditions

sound_assignment : Sounds grammar.assignment print.assignment
sound_assignment w set t all =
    let value = t.second.second in
    let plain = name_plain t.value (named_word t.front t.value t.first (in_front t all)) in
    let lit = sound_lit value.front value.value value.first (in_front value (in_back t.second (in_back t all))) in
    subst (λ (z : List ℕ × Lit). Sound (print.assignment z)) (sym value.second.1) (sound_behind (name t.value) _ plain (word_behind kinds.Equal (print.lit value.value) (plain_word kinds.Equal refl) lit))

module _ (n : ℕ) where
  sound_filter : Sounds (grammar.filter n) (λ of. behind kinds.Where (print.pred of))
  sound_filter w of t all = word_behind kinds.Where (print.pred of) (plain_word kinds.Where refl) (sound_pred n t.back of t.second (in_back t all))

  sound_update : Sounds (grammar.update n) print.statement
  sound_update w of t all =
      let table = t.second in
      let sets = table.second.second in
      let filter = sets.second in
      let of_table = in_back t all in
      let of_sets = in_back table.second (in_back table of_table) in
      let list = sound_listed kinds.Comma print.assignment (plain_word kinds.Comma refl) sound_assignment sets.front sets.value sets.first (in_front sets of_sets) in
      let passes = sound_optional {p = grammar.filter n} (λ of. behind kinds.Where (print.pred of)) sound_filter filter.front filter.value filter.first (in_front filter (in_back sets of_sets)) in
      let plain = name_plain table.value (named_word table.front table.value table.first (in_front table of_table)) in
      subst (λ (z : Statement). Sound (print.statement z)) (sym filter.second.1)
      (word_behind kinds.Update _ (plain_word kinds.Update refl) (sound_behind (name table.value) _ plain (word_behind kinds.Set _ (plain_word kinds.Set refl) (sound_append (print.listed kinds.Comma print.assignment sets.value) (print.filter filter.value) list passes))))

  sound_delete : Sounds (grammar.delete n) print.statement
  sound_delete w of t all =
      let table = t.second.second in
      let filter = table.second in
      let of_table = in_back t.second (in_back t all) in
      let passes = sound_optional {p = grammar.filter n} (λ of. behind kinds.Where (print.pred of)) sound_filter filter.front filter.value filter.first (in_front filter (in_back table of_table)) in
      let plain = name_plain table.value (named_word table.front table.value table.first (in_front table of_table)) in
      subst (λ (z : Statement). Sound (print.statement z)) (sym filter.second.1)
      (word_behind kinds.Delete _ (plain_word kinds.Delete refl) (word_behind kinds.From _ (plain_word kinds.From refl) (sound_behind (name table.value) (print.filter filter.value) plain passes)))

  sound_package_query : Sounds (grammar.package_query n) print.statement
  sound_package_query w of t all = subst (λ (z : Statement). Sound (print.statement z)) (sym t.second.1) (sound_query (pred n) (sound_pred n) t.front t.value t.first (in_front t all))

  -- one of the later alternatives
  sound_session : Sounds (grammar.session n) print.statement
  sound_session w of (inl t) all = sound_begin w of t all
  sound_session w of (inr (inl t)) all = sound_commit w of t all
  sound_session w of (inr (inr (inl t))) all = sound_rollback w of t all
  sound_session w of (inr (inr (inr (inl t)))) all = sound_certificate w of t all
  sound_session w of (inr (inr (inr (inr t)))) all = sound_package_query w of t all

  sound_change : Sounds (grammar.change n) print.statement
  sound_change w of (inl t) all = sound_update w of t all
  sound_change w of (inr (inl t)) all = sound_delete w of t all
  sound_change w of (inr (inr (inl t))) all = sound_partition w of t all
  sound_change w of (inr (inr (inr (inl t)))) all = sound_vacuum w of t all
  sound_change w of (inr (inr (inr (inr t)))) all = sound_session w of t all

  sound_statement : Sounds (statement n) print.statement
  unfolding statement
  sound_statement w of (inl t) all = sound_create w of t all
  sound_statement w of (inr (inl t)) all = sound_insert w of t all
  sound_statement w of (inr (inr (inl t))) all = sound_load w of t all
  sound_statement w of (inr (inr (inr t))) all = sound_change w of t all

-- The canonical lexemes of a statement that has a text of tokens are tokens, of which no two become one.
pub statements_are_separable : (n : ℕ) (w : List Lexeme) (t : Statement) → statement n w t → AreTokens w → Separable (print.statement t)
statements_are_separable n w t d all = separable (print.statement t) (sound_statement n w t d all)
