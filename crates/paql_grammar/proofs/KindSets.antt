-- Sets of tokens by their kinds: which lie inside which, which are apart, and what begins with them.
use Rattle.std.proofs.Common.{◌≡◌, Bool, true, false, ◌||◌, ◌&&◌, not, List, [], ◌∷◌, refl, ap, ◌∙◌}
use denote.Enum.Bare.{sameb, same_true, true_same}
use Rattle.paql_lexer.specs.contracts.vocabulary.Kind.{the_type}
use Rattle.paql_lexer.specs.declared.vocabulary.Kind.{Kind}
use Rattle.formal_grammar.specs.Exact.{Within, Apart, Starts, Joins}
use Rattle.formal_grammar.proofs.Contexts.{both_ways}
use Rattle.formal_grammar.proofs.Joins.{starts_one_of, starts_wider, joins_starts}
use Rattle.paql_grammar.specs.Lexemes.{Lexeme, is, among, word}

-- a lexeme of this kind
abbrev pub sample : Kind → Lexeme
sample kind = record { kind = kind; bytes = [] }

-- a lexeme of this kind passes the test of the kind
pub passes : (kind : Kind) → is kind (sample kind) ≡ true
passes kind = true_same the_type kind kind refl

-- and no other kind passes it
pub only : (kind : Kind) (t : Lexeme) → is kind t ≡ true → t.kind ≡ kind
only kind t e = same_true the_type tt t.kind kind e

-- The test sees the kind alone.
abbrev pub OfKind : (Lexeme → Bool) → Type 0
OfKind f = (t u : Lexeme) → t.kind ≡ u.kind → f t ≡ f u

pub of_is : (kind : Kind) → OfKind (is kind)
of_is kind t u e = ap (λ k. sameb the_type k kind) e

pub of_among : (kinds : List Kind) → OfKind (among kinds)
of_among [] t u e = refl
of_among (kind ∷ kinds) t u e = ap (λ b. b || among kinds t) (of_is kind t u e) ∙ ap (λ b. is kind u || b) (of_among kinds t u e)

-- A kind that fails a test is apart from it.
pub apart_word : (kind : Kind) {f : Lexeme → Bool} → OfKind f → f (sample kind) ≡ false → Apart (is kind) f
apart_word kind of outside t e = of t (sample kind) (only kind t e) ∙ outside

-- a kind that passes a test lies inside it
inside_test : (b c : Bool) → (b ≡ true → c ≡ true) → c ≡ false → b ≡ false
inside_test true c passes fails = absurd (both_ways (passes refl) fails)
inside_test false c passes fails = refl

pub within_word : (kind : Kind) {f : Lexeme → Bool} → OfKind f → f (sample kind) ≡ true → Within (is kind) f
within_word kind {f = f} of within t = inside_test (is kind t) (f t) (λ e. of t (sample kind) (only kind t e) ∙ within)

-- where both of two tests pass
both : (a b : Bool) → (a && b) ≡ true → (a ≡ true) × (b ≡ true)
both true b e = (refl, e)
both false b e = absurd (both_ways e refl)

either : (a b c : Bool) → (a ≡ true → c ≡ true) → (b ≡ true → c ≡ true) → (a || b) ≡ true → c ≡ true
either true b c left right e = left refl
either false b c left right e = right e

-- Each kind of the one list is in the other.
abbrev pub subset : List Kind → List Kind → Bool
subset [] large = true
subset (kind ∷ kinds) large = among large (sample kind) && subset kinds large

among_more : (small large : List Kind) → subset small large ≡ true → (t : Lexeme) → among small t ≡ true → among large t ≡ true
among_more [] large e t passes = absurd (both_ways passes refl)
among_more (kind ∷ kinds) large e t passes =
    let h = both (among large (sample kind)) (subset kinds large) e in
    either (is kind t) (among kinds t) (among large t) (λ u. of_among large t (sample kind) (only kind t u) ∙ h.0) (among_more kinds large h.1 t) passes

pub within_kinds : (small large : List Kind) → subset small large ≡ true → Within (among small) (among large)
within_kinds small large e t = inside_test (among small t) (among large t) (among_more small large e t)

-- No kind of the list passes the test.
abbrev pub disjoint : List Kind → (Lexeme → Bool) → Bool
disjoint [] f = true
disjoint (kind ∷ kinds) f = not (f (sample kind)) && disjoint kinds f

fails_test : (b : Bool) → not b ≡ true → b ≡ false
fails_test true e = absurd (both_ways e refl)
fails_test false e = refl

either_fails : (a b c : Bool) → (a ≡ true → c ≡ false) → (b ≡ true → c ≡ false) → (a || b) ≡ true → c ≡ false
either_fails true b c left right e = left refl
either_fails false b c left right e = right e

pub apart_kinds : (kinds : List Kind) {f : Lexeme → Bool} → OfKind f → disjoint kinds f ≡ true → Apart (among kinds) f
apart_kinds [] of e t passes = absurd (both_ways passes refl)
apart_kinds (kind ∷ kinds) {f = f} of e t passes =
    let h = both (not (f (sample kind))) (disjoint kinds f) e in
    either_fails (is kind t) (among kinds t) (f t) (λ u. of t (sample kind) (only kind t u) ∙ fails_test (f (sample kind)) h.0) (apart_kinds kinds of h.1 t) passes

-- ---- one token of a kind

-- It begins with a token of each set that has the kind.
pub starts_word : (kind : Kind) {f : Lexeme → Bool} → OfKind f → f (sample kind) ≡ true → Starts f (λ m. word kind)
starts_word kind of within = starts_wider (within_word kind of within) starts_one_of

-- It begins with no token of a set that doesn't have it.
pub joins_word : (kind : Kind) {f ext : Lexeme → Bool} → OfKind f → f (sample kind) ≡ false → Joins f (λ m. word kind) ext
joins_word kind of outside = joins_starts (apart_word kind of outside) starts_one_of
