-- The keywords of the language, each with its kind.
use Rattle.std.specs.Prelude.{ℕ, Bool, true, ◌&&◌, List, [], ◌∷◌, length, codes, if◌then◌else◌}
use Rattle.std.specs.Bool.{nat_le}
use Rattle.std.specs.Str.{str_eq_ignore_ascii_case}
use Rattle.paql_lexer.specs.declared.vocabulary.Kind.{Kind}
use Rattle.paql_lexer.specs.declared.vocabulary.Kind.TheVariants as kinds

abbrev pub keywords : List (List ℕ × Kind)
keywords =
    (codes "AS", kinds.As) ∷ (codes "AT", kinds.At) ∷
    (codes "IN", kinds.In) ∷ (codes "ON", kinds.On) ∷
    (codes "OR", kinds.Or) ∷ (codes "AND", kinds.And) ∷
    (codes "AVG", kinds.Avg) ∷ (codes "DEC", kinds.Dec) ∷
    (codes "INT", kinds.Int) ∷ (codes "NOT", kinds.Not) ∷
    (codes "SET", kinds.Set) ∷ (codes "SUM", kinds.Sum) ∷
    (codes "FROM", kinds.From) ∷ (codes "INTO", kinds.Into) ∷
    (codes "LOAD", kinds.Load) ∷ (codes "SIZE", kinds.Size) ∷
    (codes "SUCH", kinds.Such) ∷ (codes "TEXT", kinds.TextType) ∷
    (codes "THAT", kinds.That) ∷ (codes "BEGIN", kinds.Begin) ∷
    (codes "BYTES", kinds.Bytes) ∷ (codes "COUNT", kinds.Count) ∷
    (codes "TABLE", kinds.Table) ∷ (codes "USING", kinds.Using) ∷
    (codes "WHERE", kinds.Where) ∷ (codes "BUDGET", kinds.Budget) ∷
    (codes "COMMIT", kinds.Commit) ∷ (codes "CREATE", kinds.Create) ∷
    (codes "DELETE", kinds.Delete) ∷ (codes "DIRECT", kinds.Direct) ∷
    (codes "INSERT", kinds.Insert) ∷ (codes "RADIUS", kinds.Radius) ∷
    (codes "REPEAT", kinds.Repeat) ∷ (codes "SELECT", kinds.Select) ∷
    (codes "UPDATE", kinds.Update) ∷ (codes "VACUUM", kinds.Vacuum) ∷
    (codes "VALUES", kinds.Values) ∷ (codes "BETWEEN", kinds.Between) ∷
    (codes "PACKAGE", kinds.Package) ∷ (codes "VERSION", kinds.Version) ∷
    (codes "MAXIMIZE", kinds.Maximize) ∷ (codes "MINIMIZE", kinds.Minimize) ∷
    (codes "ROLLBACK", kinds.Rollback) ∷ (codes "PARTITION", kinds.Partition) ∷
    (codes "CERTIFICATE", kinds.Certificate) ∷ (codes "SKETCHREFINE", kinds.SketchRefine) ∷
    []

-- The kind of the entry that is the word without regard to case, else a name.
abbrev pub kind_in : List (List ℕ × Kind) → List ℕ → Kind
kind_in [] word = kinds.Name
kind_in (entry ∷ entries) word =
    if str_eq_ignore_ascii_case entry.0 word then entry.1 else kind_in entries word

-- No word of the table has fewer bytes than n, nor than the one before it.
abbrev pub rises : ℕ → List (List ℕ × Kind) → Bool
rises n [] = true
rises n (entry ∷ entries) = nat_le n (length entry.0) && rises (length entry.0) entries

-- What a word is.
unfoldable pub word_kind : List ℕ → Kind
word_kind = kind_in keywords
