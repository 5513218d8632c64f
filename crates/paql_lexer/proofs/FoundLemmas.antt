-- Lemmas on what the cutting functions find.
use Rattle.std.proofs.Common.{◌≡◌, ℕ, ◌+◌, ◌-◌, ◌<◌, ◌≤◌, true, false, List, [], ◌∷◌, ◌++◌, length, take, get_or, Some, None, IsTrue, IsUtf8, refl, sym, ap, ◌∙◌, subst, arith, append_assoc, length-append}
use Rattle.std.specs.Str.Parse.{AllDigits}
use Rattle.std.proofs.lemmas.List.{take_at}
use Rattle.pq_base.specs.Decimal.{BeginsWithDigit, point_and}
use Rattle.pq_base.proofs.Numerals.{split_once}
use Rattle.paql_lexer.specs.Lexical.{NoneAt, AllIn, EndsRun, BeginsWith, IsWord, IsWordToken, IsQuotedName, IsNumber, IsText, IsSign, EndsSign, BeginsWithPlace, ClosesBehind, Finds, short_sign, long_sign, long_sign_at, in_run, doubled}
use Rattle.paql_lexer.specs.declared.gaps.Run.TheVariants as run
use Rattle.paql_lexer.specs.declared.vocabulary.Kind.{Kind}
use Rattle.paql_lexer.specs.declared.vocabulary.Kind.TheVariants as kinds
use Rattle.paql_lexer.proofs.Runs.{run_once, same_tail}
use Rattle.paql_lexer.proofs.Quotes.{one_content, begins_is}
use Rattle.paql_lexer.proofs.TokenLemmas.{no_digit_behind, fraction_once}

-- a run that is too long is no word
pub word_too_long : (text front behind : List ℕ) → text ≡ front ++ behind → AllIn (in_run run.Word) front → EndsRun (in_run run.Word) behind → 64 < length front → (kind : Kind) → NoneAt (IsWordToken kind) text
word_too_long text front behind whole all ends long kind word rest e is =
    let same = run_once (in_run run.Word) word front rest behind is.is_word.all all is.ends ends (sym e ∙ whole) in
    omega (arith, is.is_word.short, ap (λ (w : List ℕ). length w) same, long)

-- a quoted name is the run after the quote, and a quote
pub quoted_name_is : (body front behind : List ℕ) → body ≡ front ++ behind → AllIn (in_run run.Word) front → EndsRun (in_run run.Word) behind → (kind : Kind) (word rest : List ℕ) → 34 ∷ body ≡ word ++ rest → IsQuotedName kind word rest → IsWord front × (behind ≡ 34 ∷ rest)
quoted_name_is body front behind whole all ends kind word rest e is =
    let quotes : 34 ∷ body ≡ 34 ∷ ((is.name ++ 34 ∷ []) ++ rest) = e ∙ ap (λ (w : List ℕ). w ++ rest) is.quotes in
    let body_is : body ≡ (is.name ++ 34 ∷ []) ++ rest = cc in
    let names : is.name ++ 34 ∷ rest ≡ front ++ behind = sym (append_assoc is.name (34 ∷ []) rest) ∙ (sym body_is ∙ whole) in
    let same = run_once (in_run run.Word) is.name front (34 ∷ rest) behind is.is_word.all all refl ends names in
    (subst (λ (w : List ℕ). IsWord w) same is.is_word, sym (same_tail is.name front (34 ∷ rest) behind same names))

-- a run that is a word, and a quote after it, are a quoted name
pub quoted_name_found : (body front behind : List ℕ) → body ≡ front ++ behind → IsWord front → BeginsWith 34 behind → Finds IsQuotedName (34 ∷ body) (Some (kinds.QuotedName, length front + 2))
quoted_name_found body front behind whole is_word quote =
    let rest = begins_is 34 behind quote in
    let text : 34 ∷ body ≡ (34 ∷ (front ++ 34 ∷ [])) ++ rest.0 = ap (λ (w : List ℕ). 34 ∷ w) (whole ∙ (ap (λ (w : List ℕ). front ++ w) rest.1 ∙ sym (append_assoc front (34 ∷ []) rest.0))) in
    (34 ∷ (front ++ 34 ∷ []), rest.0, record { name = front; is_word = is_word; quotes = refl; meaning = refl }, text, omega (arith, length-append front (34 ∷ [])))

-- the digits of a number are those at the start of the text
pub number_is : (text whole behind fraction rest : List ℕ) → text ≡ whole ++ behind → AllDigits 10 whole → (BeginsWithDigit behind → ⊥) → behind ≡ point_and fraction ++ rest → AllDigits 10 fraction → (BeginsWithDigit rest → ⊥) → (fraction ≡ [] → BeginsWithPlace rest → ⊥) → (kind : Kind) (word after : List ℕ) → text ≡ word ++ after → IsNumber kind word after → (is_whole : List ℕ) × (is_fraction : List ℕ) × (is_whole ≡ whole) × (is_fraction ≡ fraction) × (length is_whole + length is_fraction ≤ 30)
number_is text whole behind fraction rest front digits no_more back places no_place longest kind word after e is =
    let own = point_and is.fraction in
    let halves : is.whole ++ (own ++ after) ≡ whole ++ behind = sym (append_assoc is.whole own after) ∙ (ap (λ (w : List ℕ). w ++ after) (sym is.spelled) ∙ (sym e ∙ front)) in
    let both = split_once is.whole whole (own ++ after) behind is.digits digits (no_digit_behind is.fraction after is.ends) no_more halves in
    let fractions = fraction_once is.fraction fraction after rest is.places places is.ends no_place is.longest longest (both.1 ∙ back) in
    (is.whole, is.fraction, both.0, fractions, is.short)

-- a number with too many digits is no token
pub number_too_long : (text whole behind fraction rest : List ℕ) → text ≡ whole ++ behind → AllDigits 10 whole → (BeginsWithDigit behind → ⊥) → behind ≡ point_and fraction ++ rest → AllDigits 10 fraction → (BeginsWithDigit rest → ⊥) → (fraction ≡ [] → BeginsWithPlace rest → ⊥) → 30 < length whole + length fraction → (kind : Kind) → NoneAt (IsNumber kind) text
number_too_long text whole behind fraction rest front digits no_more back places no_place longest long kind word after e is =
    let found = number_is text whole behind fraction rest front digits no_more back places no_place longest kind word after e is in
    omega (arith, found.4, ap (λ (w : List ℕ). length w) found.2, ap (λ (w : List ℕ). length w) found.3, long)

-- digits begin with one
some_digit : (text whole behind : List ℕ) → BeginsWithDigit text → text ≡ whole ++ behind → (BeginsWithDigit behind → ⊥) → 0 < length whole
some_digit text [] behind first e none = absurd (none (subst BeginsWithDigit e first))
some_digit text (digit ∷ whole) behind first e none = omega arith

-- the digits at the start are a number
pub number_found : (text whole behind fraction rest : List ℕ) → BeginsWithDigit text → text ≡ whole ++ behind → AllDigits 10 whole → (BeginsWithDigit behind → ⊥) → behind ≡ point_and fraction ++ rest → AllDigits 10 fraction → (BeginsWithDigit rest → ⊥) → (fraction ≡ [] → BeginsWithPlace rest → ⊥) → length whole + length fraction ≤ 30 → Finds IsNumber text (Some (kinds.Number, length text - length rest))
number_found text whole behind fraction rest first front digits no_more back places no_place longest short =
    let word = whole ++ point_and fraction in
    let e : text ≡ word ++ rest = front ∙ (ap (λ (w : List ℕ). whole ++ w) back ∙ sym (append_assoc whole (point_and fraction) rest)) in
    (word, rest, record { whole = whole; fraction = fraction; spelled = refl; some = some_digit text whole behind first front no_more; digits = digits; places = places; short = short; ends = no_place; longest = longest; meaning = refl }, e, omega (arith, ap (λ (w : List ℕ). length w) e, length-append word rest))

-- what a text's content is
pub text_closes : (body word rest : List ℕ) (kind : Kind) → 39 ∷ body ≡ word ++ rest → (is : IsText kind word rest) → body ≡ doubled is.content ++ 39 ∷ rest
text_closes body word rest kind e is =
    let quotes : 39 ∷ body ≡ 39 ∷ ((doubled is.content ++ 39 ∷ []) ++ rest) = e ∙ ap (λ (w : List ℕ). w ++ rest) is.quotes in
    let body_is : body ≡ (doubled is.content ++ 39 ∷ []) ++ rest = cc in
    body_is ∙ append_assoc (doubled is.content) (39 ∷ []) rest

-- an unclosed text is no token
pub text_unclosed : (body : List ℕ) → ((content : List ℕ) → ClosesBehind body content → ⊥) → (kind : Kind) → NoneAt (IsText kind) (39 ∷ body)
text_unclosed body none kind word rest e is = none is.content (rest, text_closes body word rest kind e is, is.ends)

-- the content of a closed body
content_is : (body content : List ℕ) (len : ℕ) (closes : ClosesBehind body content) → length (doubled content) ≡ len → take len body ≡ doubled content
content_is body content len closes l =
    ap (λ (w : List ℕ). take len w) closes.1 ∙ take_at (doubled content) (39 ∷ closes.0) len l

-- a text that is no UTF-8 is no token
pub text_ill_formed : (body content : List ℕ) (len : ℕ) → ClosesBehind body content → length (doubled content) ≡ len → (IsUtf8 (take len body) → ⊥) → (kind : Kind) → NoneAt (IsText kind) (39 ∷ body)
text_ill_formed body content len closes l ill kind word rest e is =
    let same = one_content content is.content closes.0 rest closes.2 is.ends (sym closes.1 ∙ text_closes body word rest kind e is) in
    ill (subst (λ (w : List ℕ). IsUtf8 w) (sym (content_is body content len closes l ∙ same)) is.utf8)

-- a closed text of UTF-8 is a token
pub text_found : (body content : List ℕ) (len : ℕ) → ClosesBehind body content → length (doubled content) ≡ len → IsUtf8 (take len body) → Finds IsText (39 ∷ body) (Some (kinds.Text, len + 2))
text_found body content len closes l utf8 =
    let whole : 39 ∷ body ≡ (39 ∷ (doubled content ++ 39 ∷ [])) ++ closes.0 = ap (λ (w : List ℕ). 39 ∷ w) (closes.1 ∙ sym (append_assoc (doubled content) (39 ∷ []) closes.0)) in
    (39 ∷ (doubled content ++ 39 ∷ []), closes.0, record { content = content; quotes = refl; utf8 = subst (λ (w : List ℕ). IsUtf8 w) (content_is body content len closes l) utf8; ends = closes.2; meaning = refl }, whole, omega (arith, length-append (doubled content) (39 ∷ []), l))

-- two bytes that are a sign
pub long_sign_found : (text : List ℕ) (kind : Kind) → long_sign_at text ≡ Some kind → Finds IsSign text (Some (kind, 2))
long_sign_found [] kind e = cc e
long_sign_found (a ∷ []) kind e = cc e
long_sign_found (a ∷ (b ∷ rest)) kind e = (a ∷ (b ∷ []), rest, record { sign = e; longest = ends rest }, refl, refl)
  where
    ends : (s : List ℕ) → EndsSign (a ∷ (b ∷ [])) s
    ends [] = tt
    ends (c ∷ s) = refl

-- one byte that is a sign, where it begins no longer one
pub short_sign_found : (text : List ℕ) (kind : Kind) → long_sign_at text ≡ None → 0 < length text → short_sign (get_or text 0 0) ≡ Some kind → Finds IsSign text (Some (kind, 1))
short_sign_found [] kind none some e = absurd (omega arith)
short_sign_found (a ∷ rest) kind none some e = (a ∷ [], rest, record { sign = e; longest = ends rest none }, refl, refl)
  where
    ends : (s : List ℕ) → long_sign_at (a ∷ s) ≡ None → EndsSign (a ∷ []) s
    ends [] h = tt
    ends (b ∷ s) h = h

-- there is no sign where neither one byte nor two are one
pub no_sign_found : (text : List ℕ) → long_sign_at text ≡ None → short_sign (get_or text 0 0) ≡ None → (kind : Kind) → NoneAt (IsSign kind) text
no_sign_found text none none_short kind [] rest e is = let h : None ≡ Some kind = is.sign in cc h
no_sign_found text none none_short kind (a ∷ []) rest e is =
    let first : get_or text 0 0 ≡ a = ap (λ (w : List ℕ). get_or w 0 0) e in
    cc (is.sign, first, none_short)
no_sign_found text none none_short kind (a ∷ (b ∷ [])) rest e is = let both : long_sign_at text ≡ long_sign a b = ap long_sign_at e in cc (is.sign, both, none)
no_sign_found text none none_short kind (a ∷ (b ∷ (c ∷ word))) rest e is = let h : None ≡ Some kind = is.sign in cc h

-- what a byte at the head says
pub begins_with_head : (byte : ℕ) (text rest : List ℕ) → text ≡ byte ∷ rest → BeginsWith byte text
begins_with_head byte text rest e = subst (λ (w : List ℕ). BeginsWith byte w) (sym e) refl

-- what a failed test says
pub not_from_test : {P : Type 0} → (P → IsTrue false) → P → ⊥
not_from_test says p = let h : false ≡ true = says p in cc h
