-- The canonical lexemes of words, names and texts spell what they are made of.
use Rattle.std.proofs.Common.{◌≡◌, ℕ, suc, ◌-◌, Bool, true, false, ◌==◌, if◌then◌else◌, List, [], ◌∷◌, ◌++◌, length, flat_map, inl, inr, Option, Some, refl, sym, ap, subst, ◌∙◌, arith, append-nil, length-append}
use Rattle.std.proofs.Math.Seq.{take-append_seam}
use denote.Enum.Bare.{sameb, true_same}
use Rattle.paql_lexer.specs.Keywords.{word_kind}
use Rattle.paql_lexer.specs.Lexical.{doubled}
use Rattle.paql_lexer.specs.contracts.vocabulary.Kind.{the_type}
use Rattle.paql_lexer.specs.declared.vocabulary.Kind.{Kind}
use Rattle.paql_lexer.specs.declared.vocabulary.Kind.TheVariants as kinds
use Rattle.formal_grammar.specs.Lang.{Lang, Then, ◌>>◌, gives, optional, many, listed}
use Rattle.paql_grammar.specs.Lexemes.{Lexeme, inside, undoubled, name_of, word, name, content}
use Rattle.paql_printer.specs.Spellings as print
use Rattle.paql_printer.specs.Spellings.{spelled}
use Rattle.paql_printer.specs.Print.{optional as print_optional, listed as print_listed}
use Rattle.paql_printer.specs.Canonical.{Canonical}

-- ---- words

-- A word's spelling is the word.
pub spells_word : (kind : Kind) → word kind (spelled kind ∷ []) tt
spells_word kind = (spelled kind, refl, true_same the_type kind kind refl)

-- A word, and what comes after it.
pub behind_word : {A : Type 0} (kind : Kind) {q : Lang Lexeme A} {rest : List Lexeme} {a : A} → q rest a → Then (word kind) (λ _. q) (spelled kind ∷ rest) a
behind_word kind {rest = rest} second = record { front = spelled kind ∷ []; back = rest; value = tt; first = spells_word kind; second = second; whole = refl }

-- A part, and a closing word after it.
pub before_word : {A B : Type 0} (make : A → B) (kind : Kind) {p : Lang Lexeme A} (front : List Lexeme) (a : A) → p front a → Then p (λ x. word kind >> gives (make x)) (front ++ spelled kind ∷ []) (make a)
before_word make kind front a first = record { front = front; back = spelled kind ∷ []; value = a; first = first; second = behind_word kind (refl, refl); whole = refl }

-- A part alone, of which a value is made.
pub ends_in : {A B : Type 0} (make : A → B) {p : Lang Lexeme A} (front : List Lexeme) (a : A) → p front a → Then p (λ x. gives (make x)) front (make a)
ends_in make front a first = record { front = front; back = []; value = a; first = first; second = (refl, refl); whole = sym (append-nil front) }

-- ---- what may be absent, and repetitions

-- An optional part is printed as it is, or not at all.
pub canonical_optional : {A : Type 0} {p : Lang Lexeme A} (print : A → List Lexeme) → Canonical p print → Canonical (optional p) (print_optional print)
canonical_optional {A = A} {p = p} print canonical w o (inl t) =
    subst (λ (z : Option A). optional p (print_optional print z) z) (sym t.second.1) (inl (ends_in (λ z. Some z) (print t.value) t.value (canonical t.front t.value t.first)))
canonical_optional {A = A} {p = p} print canonical w o (inr t) = subst (λ (z : Option A). optional p (print_optional print z) z) (sym t.1) (inr (refl, refl))

-- Parts that follow one another are printed so.
pub canonical_many : {A : Type 0} {p : Lang Lexeme A} (print : A → List Lexeme) → Canonical p print → Canonical (many p) (flat_map print)
canonical_many print canonical w [] t = refl
canonical_many print canonical w (a ∷ later) t = (print a, flat_map print later, canonical t.0 a t.2, canonical_many print canonical t.1 later t.3, refl)

-- ---- names

-- what is between quotes
inside_quotes : (first last : ℕ) (bytes : List ℕ) → inside (first ∷ (bytes ++ last ∷ [])) ≡ bytes
inside_quotes first last bytes =
    let e : suc (length (bytes ++ last ∷ [])) - 2 ≡ length bytes = omega (arith, length-append bytes (last ∷ [])) in
    rw e (take-append_seam bytes (last ∷ []))

-- a name, in quotes or not
shown_either : (b : Bool) (word : List ℕ) → name_of (if b then record { kind = kinds.Name; bytes = word } else record { kind = kinds.QuotedName; bytes = 34 ∷ (word ++ 34 ∷ []) }) ≡ Some word
shown_either true word = refl
shown_either false word = ap (λ (z : List ℕ). Some z) (inside_quotes 34 34 word)

-- A name is shown by its lexeme.
pub name_shown : (word : List ℕ) → name_of (print.name word) ≡ Some word
name_shown word = shown_either (sameb the_type (word_kind word) kinds.Name) word

-- A name is spelled by its lexeme.
pub spells_name : (word : List ℕ) → name (print.name word ∷ []) word
spells_name word = (print.name word, refl, name_shown word)

-- A name, and what comes after it.
pub behind_name : {A : Type 0} (word : List ℕ) {q : List ℕ → Lang Lexeme A} {rest : List Lexeme} {a : A} → q word rest a → Then name q (print.name word ∷ rest) a
behind_name word {rest = rest} second = record { front = print.name word ∷ []; back = rest; value = word; first = spells_name word; second = second; whole = refl }

-- ---- texts

-- quotes that were doubled are single again
single_again : (bytes : List ℕ) → undoubled false (doubled bytes) ≡ bytes
single_again [] = refl
single_again (byte ∷ bytes) = again (byte == 39) refl (single_again bytes)
  where
    again : (b : Bool) → (byte == 39) ≡ b → undoubled false (doubled bytes) ≡ bytes → undoubled false (byte ∷ (if byte == 39 then 39 ∷ doubled bytes else doubled bytes)) ≡ byte ∷ bytes
    again true e later = rw e (ap (λ (z : List ℕ). byte ∷ z) later)
    again false e later = rw e (ap (λ (z : List ℕ). byte ∷ z) later)

-- A text is spelled by its lexeme.
pub spells_content : (bytes : List ℕ) → content (print.quoted bytes ∷ []) bytes
spells_content bytes = (print.quoted bytes, refl, ap (λ (z : List ℕ). Some z) (ap (undoubled false) (inside_quotes 39 39 (doubled bytes)) ∙ single_again bytes))

-- A list is printed with its word between the parts.
pub canonical_listed : {A : Type 0} {p : Lang Lexeme A} (kind : Kind) (print : A → List Lexeme) → Canonical p print → Canonical (listed (word kind) p) (print_listed kind print)
canonical_listed {A = A} {p = p} kind print canonical w items t =
    let x = t.second in
    subst (λ (z : List A). listed (word kind) p (print_listed kind print z) z) (sym x.second.1) (record {
      front = print t.value;
      back = flat_map (λ item. spelled kind ∷ print item) x.value;
      value = t.value;
      first = canonical t.front t.value t.first;
      second = ends_in (λ z. t.value ∷ z) (flat_map (λ item. spelled kind ∷ print item) x.value) x.value (canonical_many (λ item. spelled kind ∷ print item) (λ u a d. behind_word kind (canonical d.back a d.second)) x.front x.value x.first);
      whole = refl;
    })
