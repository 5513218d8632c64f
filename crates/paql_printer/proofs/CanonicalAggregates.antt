-- The canonical lexemes of aggregates, sums, constraints and goals are texts of them, where those of numbers and of
-- conditions are.
use Rattle.std.proofs.Common.{◌≡◌, inl, inr, ℕ, Bool, true, false, if◌then◌else◌, List, [], ◌∷◌, ◌++◌, flat_map, Option, Some, None, is_some, refl, sym, ap, subst, ◌∙◌, append-nil}
use Rattle.std.specs.Str.{bytes_eq}
use Rattle.std.proofs.lemmas.Slice.Eq.{bytes_eq-Decides}
use Rattle.pq_base.specs.declared.scaled.Scaled.{Scaled}
use Rattle.paql_lexer.specs.declared.vocabulary.Kind.TheVariants as kinds
use Rattle.paql_ast.specs.declared.conditions.Pred.{Pred}
use Rattle.paql_ast.specs.declared.conditions.ColumnName.{ColumnName}
use Rattle.paql_ast.specs.declared.aggregates.Plain.{Plain}
use Rattle.paql_ast.specs.declared.aggregates.Plain.TheVariants.{Count, Sum}
use Rattle.paql_ast.specs.declared.aggregates.Agg.{Agg}
use Rattle.paql_ast.specs.declared.aggregates.Term.{Term}
use Rattle.paql_ast.specs.declared.aggregates.Term.TheVariants as terms
use Rattle.paql_ast.specs.declared.aggregates.SumItem.{SumItem}
use Rattle.formal_grammar.proofs.Contexts.{some_is, not_none}
use Rattle.formal_grammar.specs.Lang.{Lang, ◌or◌}
use Rattle.paql_grammar.specs.Lexemes.{Lexeme, word, number}
use Rattle.paql_grammar.specs.Conditions.{column}
use Rattle.paql_grammar.specs.Aggregates as grammar
use Rattle.paql_printer.specs.Spellings.{spelled}
use Rattle.paql_printer.specs.Spellings as lexeme
use Rattle.paql_printer.specs.Print as print
use Rattle.paql_printer.specs.Canonical.{Canonical}
use Rattle.paql_printer.proofs.CanonicalLeaves.{spells_word, behind_word, before_word, spells_name, behind_name, ends_in, canonical_optional, canonical_many}

-- ---- columns

-- A column is spelled by its lexemes, whatever it is.
pub spells_column : (of : ColumnName) → column (print.column of) of
spells_column of = spells of.prefix of.name
  where
    spells : (prefix : Option (List ℕ)) (word : List ℕ) → column (print.column (record { prefix = prefix; name = word })) (record { prefix = prefix; name = word })
    spells None word = behind_name word (record { front = []; back = []; value = None; first = inr (refl, refl); second = (refl, refl); whole = refl })
    spells (Some first) word = behind_name first (record {
      front = spelled kinds.Dot ∷ (lexeme.name word ∷ []);
      back = [];
      value = Some word;
      first = inl (record { front = spelled kinds.Dot ∷ (lexeme.name word ∷ []); back = []; value = word; first = behind_word kinds.Dot (spells_name word); second = (refl, refl); whole = refl });
      second = (refl, refl);
      whole = refl;
    })

-- ---- COUNT and SUM

-- what a COUNT keeps of a name it keeps again
kept_again : (package_name word kept : List ℕ) → grammar.counted package_name word ≡ Some kept → grammar.counted package_name kept ≡ Some kept
kept_again package_name word kept e = again (bytes_eq word package_name) refl e
  where
    again : (b : Bool) → bytes_eq word package_name ≡ b → (if b then None else Some word) ≡ Some kept → grammar.counted package_name kept ≡ Some kept
    again true is e = absurd (not_none (sym e))
    again false is e = subst (λ (z : List ℕ). grammar.counted package_name z ≡ Some z) (some_is e) (ap (λ (z : Bool). if z then None else Some word) is)

-- the package's own name isn't kept
own_name : (package_name : List ℕ) → grammar.counted package_name package_name ≡ None
own_name package_name = ap (λ (z : Bool). if z then None else Some package_name) ((bytes_eq-Decides package_name package_name).1 refl)

-- the name that a COUNT keeps, if any, is one that it keeps again
abbrev IsKept : List ℕ → Option (List ℕ) → Type 0
IsKept package_name of = (word : List ℕ) → of ≡ Some word → grammar.counted package_name word ≡ Some word

-- the rows of a COUNT, in a conditional aggregate or outside
spells_rows : (inside : Bool) (package_name : List ℕ) (of : Option (List ℕ)) → IsKept package_name of → (grammar.all_rows or grammar.rows_of package_name) (print.rows inside package_name of) (Count of)
spells_rows true package_name None kept = inl (behind_word kinds.Star (refl, refl))
spells_rows false package_name None kept = inr (behind_name package_name (behind_word kinds.Dot (behind_word kinds.Star (refl, ap Count (sym (own_name package_name))))))
spells_rows true package_name (Some word) kept = inr (behind_name word (behind_word kinds.Dot (behind_word kinds.Star (refl, ap Count (sym (kept word refl))))))
spells_rows false package_name (Some word) kept = inr (behind_name word (behind_word kinds.Dot (behind_word kinds.Star (refl, ap Count (sym (kept word refl))))))

-- a COUNT that has a text keeps a name that it keeps again
is_kept : (package_name : List ℕ) (w : List Lexeme) (of : Plain) → (grammar.all_rows or grammar.rows_of package_name) w of → (o : Option (List ℕ)) × (of ≡ Count o) × IsKept package_name o
is_kept package_name w of (inl t) = (None, t.second.1, λ word e. absurd (not_none (sym e)))
is_kept package_name w of (inr t) = (grammar.counted package_name t.value, t.second.second.second.1, λ word e. kept_again package_name t.value word e)

-- COUNT or SUM
pub canonical_plain : (inside : Bool) (package_name : List ℕ) → Canonical (grammar.plain package_name) (print.plain inside package_name)
canonical_plain inside package_name w of (inl t) =
    let r = t.second.second in
    let k = is_kept package_name r.front r.value r.first in
    subst (λ (z : Plain). grammar.plain package_name (print.plain inside package_name z) z) (sym (r.second.second.1 ∙ k.1)) (inl (behind_word kinds.Count (behind_word kinds.LeftParen (before_word (λ z. z) kinds.RightParen (print.rows inside package_name k.0) (Count k.0) (spells_rows inside package_name k.0 k.2)))))
canonical_plain inside package_name w of (inr t) =
    let r = t.second.second in
    subst (λ (z : Plain). grammar.plain package_name (print.plain inside package_name z) z) (sym r.second.second.1) (inr (behind_word kinds.Sum (behind_word kinds.LeftParen (before_word (λ z. Sum z) kinds.RightParen (print.column r.value) r.value (spells_column r.value)))))

-- ---- aggregates

module _ (pred : Lang Lexeme Pred) (canonical_pred : Canonical pred print.pred) (package_name : List ℕ) where
  -- an aggregate, over all copies or some
  pub canonical_agg : Canonical (grammar.agg package_name pred) (print.agg package_name)
  canonical_agg w of (inl t) =
      let s = t.second.second in
      let f = s.second.second in
      let g = f.second.second in
      subst (λ (z : Agg). grammar.agg package_name pred (print.agg package_name z) z) (sym g.second.second.1) (inl (behind_word kinds.LeftParen (behind_word kinds.Select (record {
        front = print.plain true package_name s.value;
        back = spelled kinds.From ∷ (lexeme.name f.value ∷ (spelled kinds.Where ∷ (print.pred g.value ++ spelled kinds.RightParen ∷ [])));
        value = s.value;
        first = canonical_plain true package_name s.front s.value s.first;
        second = behind_word kinds.From (behind_name f.value (behind_word kinds.Where (before_word (λ filter. record { plain = s.value; only = Some (f.value, filter) }) kinds.RightParen (print.pred g.value) g.value (canonical_pred g.front g.value g.first))));
        whole = refl;
      }))))
  canonical_agg w of (inr t) =
      subst (λ (z : Agg). grammar.agg package_name pred (print.agg package_name z) z) (sym t.second.1) (inr (record {
        front = print.plain false package_name t.value;
        back = [];
        value = t.value;
        first = canonical_plain false package_name t.front t.value t.first;
        second = (refl, refl);
        whole = sym (append-nil (print.plain false package_name t.value));
      }))

-- ---- terms and sums

module _ (agg : Lang Lexeme Agg) (package_name : List ℕ) (canonical_agg : Canonical agg (print.agg package_name)) (canonical_number : Canonical (number false) (λ value. lexeme.number value ∷ [])) where
  -- a factor and its sign
  canonical_factor : Canonical grammar.factor print.factor
  canonical_factor w times t =
      subst (λ (z : Scaled). grammar.factor (print.factor z) z) (sym t.second.second.1) (before_word (λ z. z) kinds.Star (lexeme.number t.value ∷ []) t.value (canonical_number t.front t.value t.first))

  -- a part
  pub canonical_part : Canonical (grammar.part agg) (print.term package_name)
  canonical_part w of t =
      let x = t.second in
      subst (λ (z : Term). grammar.part agg (print.term package_name z) z) (sym x.second.1) (record {
        front = print.optional print.factor t.value;
        back = print.agg package_name x.value;
        value = t.value;
        first = canonical_optional print.factor canonical_factor t.front t.value t.first;
        second = ends_in (λ z. terms.Agg t.value z) (print.agg package_name x.value) x.value (canonical_agg x.front x.value x.first);
        whole = refl;
      })

  -- a term
  pub canonical_term : Canonical (grammar.term agg) (print.term package_name)
  canonical_term w of (inl t) =
      subst (λ (z : Term). grammar.term agg (print.term package_name z) z) (sym t.second.1) (inl (ends_in (λ z. terms.Number z) (lexeme.number t.value ∷ []) t.value (canonical_number t.front t.value t.first)))
  canonical_term w of (inr t) = inr (canonical_part w of t)

-- an item of a sum
abbrev item : Bool → Term → SumItem
item minus of = record { minus = minus; term = of }

module _ (term : Lang Lexeme Term) (package_name : List ℕ) (canonical_term : Canonical term (print.term package_name)) where
  -- the first item, after a minus or not
  spells_first : (minus : Bool) (of : Term) → term (print.term package_name of) of → grammar.first_item term (print.first_item package_name (item minus of)) (item minus of)
  spells_first true of d = record {
    front = spelled kinds.Minus ∷ [];
    back = print.term package_name of;
    value = true;
    first = ends_in is_some (spelled kinds.Minus ∷ []) (Some tt) (inl (ends_in (λ z. Some z) (spelled kinds.Minus ∷ []) tt (spells_word kinds.Minus)));
    second = ends_in (λ z. item true z) (print.term package_name of) of d;
    whole = refl;
  }
  spells_first false of d = record {
    front = [];
    back = print.term package_name of;
    value = false;
    first = ends_in is_some [] None (inr (refl, refl));
    second = ends_in (λ z. item false z) (print.term package_name of) of d;
    whole = refl;
  }

  canonical_first : Canonical (grammar.first_item term) (print.first_item package_name)
  canonical_first w of t =
      let x = t.second in
      subst (λ (z : SumItem). grammar.first_item term (print.first_item package_name z) z) (sym x.second.1) (spells_first t.value x.value (canonical_term x.front x.value x.first))

  -- a further item, after its sign
  spells_next : (minus : Bool) (of : Term) → term (print.term package_name of) of → grammar.next_item term (print.next_item package_name (item minus of)) (item minus of)
  spells_next true of d = record {
    front = spelled kinds.Minus ∷ [];
    back = print.term package_name of;
    value = true;
    first = inr (behind_word kinds.Minus (refl, refl));
    second = ends_in (λ z. item true z) (print.term package_name of) of d;
    whole = refl;
  }
  spells_next false of d = record {
    front = spelled kinds.Plus ∷ [];
    back = print.term package_name of;
    value = false;
    first = inl (behind_word kinds.Plus (refl, refl));
    second = ends_in (λ z. item false z) (print.term package_name of) of d;
    whole = refl;
  }

  canonical_next : Canonical (grammar.next_item term) (print.next_item package_name)
  canonical_next w of t =
      let x = t.second in
      subst (λ (z : SumItem). grammar.next_item term (print.next_item package_name z) z) (sym x.second.1) (spells_next t.value x.value (canonical_term x.front x.value x.first))

  -- a sum
  pub canonical_sum : Canonical (grammar.sum term) (print.sum package_name)
  canonical_sum w items t =
      let x = t.second in
      subst (λ (z : List SumItem). grammar.sum term (print.sum package_name z) z) (sym x.second.1) (record {
        front = print.first_item package_name t.value;
        back = flat_map (print.next_item package_name) x.value;
        value = t.value;
        first = canonical_first t.front t.value t.first;
        second = ends_in (λ z. t.value ∷ z) (flat_map (print.next_item package_name) x.value) x.value (canonical_many (print.next_item package_name) canonical_next x.front x.value x.first);
        whole = refl;
      })
