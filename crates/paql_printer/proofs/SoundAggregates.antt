-- The canonical lexemes of aggregates and sums are sound, where those of conditions are and the package's name is a word.
use Rattle.std.proofs.Common.{◌≡◌, inl, inr, ℕ, Bool, true, false, if◌then◌else◌, List, [], ◌∷◌, flat_map, Option, Some, None, refl, sym, subst, ◌∙◌}
use Rattle.std.specs.Str.{bytes_eq}
use Rattle.pq_base.specs.declared.scaled.Scaled.{Scaled}
use Rattle.paql_lexer.specs.Lexical.{IsWord}
use Rattle.paql_lexer.specs.declared.vocabulary.Kind.TheVariants as kinds
use Rattle.paql_ast.specs.declared.conditions.Pred.{Pred}
use Rattle.paql_ast.specs.declared.aggregates.Plain.{Plain as PlainAggregate}
use Rattle.paql_ast.specs.declared.aggregates.Plain.TheVariants.{Count, Sum}
use Rattle.paql_ast.specs.declared.aggregates.Agg.{Agg}
use Rattle.paql_ast.specs.declared.aggregates.Term.{Term}
use Rattle.paql_ast.specs.declared.aggregates.Term.TheVariants as terms
use Rattle.paql_ast.specs.declared.aggregates.SumItem.{SumItem}
use Rattle.formal_grammar.specs.Lang.{Lang, ◌or◌}
use Rattle.formal_grammar.proofs.Contexts.{some_is, not_none}
use Rattle.paql_grammar.specs.Lexemes.{Lexeme}
use Rattle.paql_grammar.specs.Aggregates as grammar
use Rattle.paql_printer.specs.Print as print
use Rattle.paql_printer.specs.Print.{behind}
use Rattle.paql_printer.specs.Spellings.{spelled, name, number}
use Rattle.paql_printer.proofs.Separable.{AreTokens}
use Rattle.paql_printer.proofs.Sound.{Precedes, Sound, Sounds, sound_append, sound_behind, sound_one, sound_before, in_front, in_back, sound_optional, sound_many}
use Rattle.paql_printer.proofs.SoundWords.{plain_word, name_plain, named_word}
use Rattle.paql_printer.proofs.SoundNumbers.{plain_number, sound_number, minus_token}
use Rattle.paql_printer.proofs.SoundConditions.{sound_column, sound_prefixed, sound_brackets, word_behind}

-- ---- COUNT and SUM

-- the name that a COUNT keeps, if any, is a word
abbrev IsKept : Option (List ℕ) → Type 0
IsKept of = (word : List ℕ) → of ≡ Some word → IsWord word

sound_rows : (inside : Bool) (package_name : List ℕ) (of : Option (List ℕ)) → IsWord package_name → IsKept of → Sound (print.rows inside package_name of)
sound_rows true package_name None is_word kept = sound_one (spelled kinds.Star) (plain_word kinds.Star refl)
sound_rows false package_name None is_word kept = sound_prefixed package_name (spelled kinds.Star) is_word (plain_word kinds.Star refl)
sound_rows true package_name (Some word) is_word kept = sound_prefixed word (spelled kinds.Star) (kept word refl) (plain_word kinds.Star refl)
sound_rows false package_name (Some word) is_word kept = sound_prefixed word (spelled kinds.Star) (kept word refl) (plain_word kinds.Star refl)

kept_word : (package_name of : List ℕ) → IsWord of → IsKept (grammar.counted package_name of)
kept_word package_name of is_word word e = kept (bytes_eq of package_name) e
  where
    kept : (b : Bool) → (if b then None else Some of) ≡ Some word → IsWord word
    kept true same = absurd (not_none (sym same))
    kept false same = subst IsWord (some_is same) is_word

-- what a COUNT that has a text keeps
is_kept : (package_name : List ℕ) (w : List Lexeme) (of : PlainAggregate) → (grammar.all_rows or grammar.rows_of package_name) w of → AreTokens w → (o : Option (List ℕ)) × (of ≡ Count o) × IsKept o
is_kept package_name w of (inl t) all = (None, t.second.1, λ word e. absurd (not_none (sym e)))
is_kept package_name w of (inr t) all = (grammar.counted package_name t.value, t.second.second.second.1, kept_word package_name t.value (named_word t.front t.value t.first (in_front t all)))

pub sound_plain : (inside : Bool) (package_name : List ℕ) → IsWord package_name → Sounds (grammar.plain package_name) (print.plain inside package_name)
sound_plain inside package_name is_word w of (inl t) all =
    let rows = t.second.second in
    let kept = is_kept package_name rows.front rows.value rows.first (in_front rows (in_back t.second (in_back t all))) in
    let brackets = sound_brackets (print.rows inside package_name kept.0) (sound_rows inside package_name kept.0 is_word kept.2) in
    subst (λ (z : PlainAggregate). Sound (print.plain inside package_name z)) (sym (rows.second.second.1 ∙ kept.1)) (word_behind kinds.Count _ (plain_word kinds.Count refl) brackets)
sound_plain inside package_name is_word w of (inr t) all =
    let column = t.second.second in
    let brackets = sound_brackets (print.column column.value) (sound_column column.front column.value column.first (in_front column (in_back t.second (in_back t all)))) in
    subst (λ (z : PlainAggregate). Sound (print.plain inside package_name z)) (sym column.second.second.1) (word_behind kinds.Sum _ (plain_word kinds.Sum refl) brackets)

-- ---- aggregates

-- an aggregate of some copies
sound_only : (package_name from : List ℕ) (of : PlainAggregate) (filter : Pred) → Sound (print.plain true package_name of) → IsWord from → Sound (print.pred filter) → Sound (print.only package_name of (Some (from, filter)))
sound_only package_name from of filter plain is_word pred =
    let closed = sound_before (print.pred filter) (spelled kinds.RightParen) pred (plain_word kinds.RightParen refl) in
    let source = sound_behind (name from) _ (name_plain from is_word) (word_behind kinds.Where _ (plain_word kinds.Where refl) closed) in
    let query = sound_append (print.plain true package_name of) _ plain (word_behind kinds.From _ (plain_word kinds.From refl) source) in
    word_behind kinds.LeftParen _ (plain_word kinds.LeftParen refl) (word_behind kinds.Select _ (plain_word kinds.Select refl) query)

module _ (pred : Lang Lexeme Pred) (sound_pred : Sounds pred print.pred) (package_name : List ℕ) (is_word : IsWord package_name) where
  pub sound_agg : Sounds (grammar.agg package_name pred) (print.agg package_name)
  sound_agg w of (inl t) all =
      let plain = t.second.second in
      let from = plain.second.second in
      let filter = from.second.second in
      let of_plain = in_back t.second (in_back t all) in
      let of_from = in_back plain.second (in_back plain of_plain) in
      let of_filter = in_back from.second (in_back from of_from) in
      subst (λ (z : Agg). Sound (print.agg package_name z)) (sym filter.second.second.1)
      (sound_only package_name from.value plain.value filter.value (sound_plain true package_name is_word plain.front plain.value plain.first (in_front plain of_plain)) (named_word from.front from.value from.first (in_front from of_from)) (sound_pred filter.front filter.value filter.first (in_front filter of_filter)))
  sound_agg w of (inr t) all = subst (λ (z : Agg). Sound (print.agg package_name z)) (sym t.second.1) (sound_plain false package_name is_word t.front t.value t.first (in_front t all))

-- ---- terms and sums

sound_factor : Sounds grammar.factor print.factor
sound_factor w times t all =
    subst (λ (z : Scaled). Sound (print.factor z)) (sym t.second.second.1) (sound_behind (number t.value) (spelled kinds.Star ∷ []) (plain_number false t.front t.value t.first (in_front t all)) (sound_one (spelled kinds.Star) (plain_word kinds.Star refl)))

module _ (agg : Lang Lexeme Agg) (package_name : List ℕ) (sound_agg : Sounds agg (print.agg package_name)) where
  pub sound_part : Sounds (grammar.part agg) (print.term package_name)
  sound_part w of t all =
      let of_agg = t.second in
      let front = sound_optional print.factor sound_factor t.front t.value t.first (in_front t all) in
      subst (λ (z : Term). Sound (print.term package_name z)) (sym of_agg.second.1) (sound_append (print.optional print.factor t.value) (print.agg package_name of_agg.value) front (sound_agg of_agg.front of_agg.value of_agg.first (in_front of_agg (in_back t all))))

  pub sound_term : Sounds (grammar.term agg) (print.term package_name)
  sound_term w of (inl t) all = subst (λ (z : Term). Sound (print.term package_name z)) (sym t.second.1) (sound_number false t.front t.value t.first (in_front t all))
  sound_term w of (inr t) all = sound_part w of t all

-- a minus doesn't become one with the first lexeme of an aggregate
behind_minus : (package_name : List ℕ) (of : PlainAggregate) (only : Option (List ℕ × Pred)) → Precedes (spelled kinds.Minus) (print.only package_name of only)
behind_minus package_name (Count of) None = record { number = refl; minus = refl }
behind_minus package_name (Sum of) None = record { number = refl; minus = refl }
behind_minus package_name of (Some from) = record { number = refl; minus = refl }

-- nor with that of a term
minus_precedes : (package_name : List ℕ) (of : Term) → Precedes (spelled kinds.Minus) (print.term package_name of)
minus_precedes package_name (terms.Number value) = record { number = refl; minus = refl }
minus_precedes package_name (terms.Agg (Some times) of) = record { number = refl; minus = refl }
minus_precedes package_name (terms.Agg None of) = behind_minus package_name of.plain of.only

-- a minus before a term
behind_a_minus : (package_name : List ℕ) (of : Term) → Sound (print.term package_name of) → Sound (spelled kinds.Minus ∷ print.term package_name of)
behind_a_minus package_name of p = record { first = refl; chained = (minus_token, minus_precedes package_name of, p.chained) }

-- an item of a sum
abbrev item : Bool → Term → SumItem
item minus of = record { minus = minus; term = of }

sound_first_item : (package_name : List ℕ) (minus : Bool) (of : Term) → Sound (print.term package_name of) → Sound (print.first_item package_name (item minus of))
sound_first_item package_name true of p = behind_a_minus package_name of p
sound_first_item package_name false of p = p

sound_next_item : (package_name : List ℕ) (minus : Bool) (of : Term) → Sound (print.term package_name of) → Sound (print.next_item package_name (item minus of))
sound_next_item package_name true of p = behind_a_minus package_name of p
sound_next_item package_name false of p = word_behind kinds.Plus (print.term package_name of) (plain_word kinds.Plus refl) p

module _ (term : Lang Lexeme Term) (package_name : List ℕ) (sound_term : Sounds term (print.term package_name)) where
  sound_first : Sounds (grammar.first_item term) (print.first_item package_name)
  sound_first w of t all =
      let x = t.second in
      subst (λ (z : SumItem). Sound (print.first_item package_name z)) (sym x.second.1) (sound_first_item package_name t.value x.value (sound_term x.front x.value x.first (in_front x (in_back t all))))

  sound_next : Sounds (grammar.next_item term) (print.next_item package_name)
  sound_next w of t all =
      let x = t.second in
      subst (λ (z : SumItem). Sound (print.next_item package_name z)) (sym x.second.1) (sound_next_item package_name t.value x.value (sound_term x.front x.value x.first (in_front x (in_back t all))))

  -- A sum.
  pub sound_sum : Sounds (grammar.sum term) (print.sum package_name)
  sound_sum w items t all =
      let x = t.second in
      let first = sound_first t.front t.value t.first (in_front t all) in
      let later = sound_many (print.next_item package_name) sound_next x.front x.value x.first (in_front x (in_back t all)) in
      subst (λ (z : List SumItem). Sound (print.sum package_name z)) (sym x.second.1) (sound_append (print.first_item package_name t.value) (flat_map (print.next_item package_name) x.value) first later)
