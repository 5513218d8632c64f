-- What comes first in a sequence: a word, or an optional part.
use Rattle.std.proofs.Common.{◌≡◌, ℕ, Bool, false, inl, inr, List, ◌++◌, Option, sym, ap, subst, ◌∙◌}
use Rattle.paql_lexer.specs.declared.vocabulary.Kind.{Kind}
use Rattle.formal_grammar.specs.Lang.{◌>>=◌, ◌>>◌, optional}
use Rattle.formal_grammar.specs.Exact.{Langs, Within, StartsIn, Starts, Joins}
use Rattle.formal_grammar.proofs.Joins.{starts_first, starts_then, starts_one_of, starts_wider, joins_starts}
use Rattle.paql_grammar.specs.Lexemes.{Lexeme, is, word}
use Rattle.paql_grammar.proofs.KindSets.{OfKind, sample, apart_word}

-- What begins with a word begins so.
pub starts_behind : {A : Type 0} (kind : Kind) {q : Langs Lexeme A} → Starts (is kind) (λ m. word kind >> q m)
starts_behind kind = starts_then starts_one_of

-- It begins with no token of a set that doesn't have the word.
pub joins_behind : {A : Type 0} (kind : Kind) {before ext : Lexeme → Bool} {q : Langs Lexeme A} → OfKind before → before (sample kind) ≡ false → Joins before (λ m. word kind >> q m) ext
joins_behind kind of outside = joins_starts (apart_word kind of outside) (starts_behind kind)

-- A sequence in which an optional part comes first begins as that part does, or as what follows.
pub starts_skip : {A B : Type 0} {f g set : Lexeme → Bool} {p : Langs Lexeme A} {q : Option A → Langs Lexeme B} → Within f set → Within g set → Starts f p → ((o : Option A) → Starts g (q o)) → Starts set (λ m. optional (p m) >>= λ o. q o m)
starts_skip {A = A} {B = B} {set = set} {p = p} {q = q} within_f within_g x y = record { first = λ m w b t. begins m w b t.front t.back t.value t.first t.second t.whole }
  where
    begins : (m : ℕ) (w : List Lexeme) (b : B) (front back : List Lexeme) (o : Option A) → optional (p m) front o → q o m back b → w ≡ front ++ back → StartsIn set w
    begins m w b front back o (inl t) u whole = starts_first w front back whole (starts_first front t.front t.back t.whole ((starts_wider {g = set} within_f x).first m t.front t.value t.first))
    begins m w b front back o (inr t) u whole = subst (λ (z : List Lexeme). StartsIn set z) (sym (whole ∙ ap (λ (z : List Lexeme). z ++ back) t.0)) ((starts_wider {g = set} within_g (y o)).first m back b u)
