-- Lemmas on the token at the start of a text.
use Rattle.std.proofs.Common.{◌≡◌, ℕ, ◌<◌, ◌≤◌, List, [], ◌∷◌, ◌++◌, length, get_or, Option, Some, None, refl, sym, ap, ◌∙◌, subst, arith, append_assoc, length-append}
use Rattle.std.specs.Str.Parse.{AllDigits}
use Rattle.pq_base.specs.Decimal.{BeginsWithDigit, point_and}
use Rattle.pq_base.proofs.Numerals.{split_once}
use Rattle.paql_lexer.specs.Keywords.{word_kind}
use Rattle.paql_lexer.specs.Lexical.{IsWordToken, IsQuotedName, IsNumber, IsText, IsSign, EndsSign, BeginsWithPlace, IsOfClass, Is, Finds, class_of, sign_of, in_run, doubled}
use Rattle.paql_lexer.specs.declared.cuts.Class.{Class}
use Rattle.paql_lexer.specs.declared.cuts.Class.TheVariants as class
use Rattle.paql_lexer.specs.declared.gaps.Run.TheVariants as run
use Rattle.paql_lexer.specs.declared.vocabulary.Kind.{Kind}
use Rattle.paql_lexer.proofs.Runs.{run_once}
use Rattle.paql_lexer.proofs.Quotes.{one_content}

-- one word
word_once : (k l : Kind) (w v r s : List ℕ) → IsWordToken k w r → IsWordToken l v s → w ++ r ≡ v ++ s → (w ≡ v) × (k ≡ l)
word_once k l w v r s p q e =
    let same = run_once (in_run run.Word) w v r s p.is_word.all q.is_word.all p.ends q.ends e in
    (same, p.meaning ∙ (ap word_kind same ∙ sym q.meaning))

-- one quoted name
quoted_name_once : (k l : Kind) (w v r s : List ℕ) → IsQuotedName k w r → IsQuotedName l v s → w ++ r ≡ v ++ s → (w ≡ v) × (k ≡ l)
quoted_name_once k l w v r s p q e =
    let front : 34 ∷ ((p.name ++ 34 ∷ []) ++ r) ≡ 34 ∷ ((q.name ++ 34 ∷ []) ++ s) = ap (λ (x : List ℕ). x ++ r) (sym p.quotes) ∙ (e ∙ ap (λ (x : List ℕ). x ++ s) q.quotes) in
    let behind : (p.name ++ 34 ∷ []) ++ r ≡ (q.name ++ 34 ∷ []) ++ s = cc in
    let names : p.name ++ 34 ∷ r ≡ q.name ++ 34 ∷ s = sym (append_assoc p.name (34 ∷ []) r) ∙ (behind ∙ append_assoc q.name (34 ∷ []) s) in
    let same = run_once (in_run run.Word) p.name q.name (34 ∷ r) (34 ∷ s) p.is_word.all q.is_word.all refl refl names in
    (p.quotes ∙ (ap (λ (x : List ℕ). 34 ∷ (x ++ 34 ∷ [])) same ∙ sym q.quotes), p.meaning ∙ sym q.meaning)

-- one text
text_once : (k l : Kind) (w v r s : List ℕ) → IsText k w r → IsText l v s → w ++ r ≡ v ++ s → (w ≡ v) × (k ≡ l)
text_once k l w v r s p q e =
    let front : 39 ∷ ((doubled p.content ++ 39 ∷ []) ++ r) ≡ 39 ∷ ((doubled q.content ++ 39 ∷ []) ++ s) = ap (λ (x : List ℕ). x ++ r) (sym p.quotes) ∙ (e ∙ ap (λ (x : List ℕ). x ++ s) q.quotes) in
    let behind : (doubled p.content ++ 39 ∷ []) ++ r ≡ (doubled q.content ++ 39 ∷ []) ++ s = cc in
    let contents : doubled p.content ++ 39 ∷ r ≡ doubled q.content ++ 39 ∷ s = sym (append_assoc (doubled p.content) (39 ∷ []) r) ∙ (behind ∙ append_assoc (doubled q.content) (39 ∷ []) s) in
    let same = one_content p.content q.content r s p.ends q.ends contents in
    (p.quotes ∙ (ap (λ (x : List ℕ). 39 ∷ (x ++ 39 ∷ [])) same ∙ sym q.quotes), p.meaning ∙ sym q.meaning)

-- no digit is at a point or at the end of a number
pub no_digit_behind : (fraction rest : List ℕ) → (BeginsWithDigit rest → ⊥) → BeginsWithDigit (point_and fraction ++ rest) → ⊥
no_digit_behind [] rest none h = none h
no_digit_behind (digit ∷ fraction) rest none h = omega arith

-- one fraction after the whole digits
pub fraction_once : (f g r s : List ℕ) → AllDigits 10 f → AllDigits 10 g → (BeginsWithDigit r → ⊥) → (BeginsWithDigit s → ⊥) → (f ≡ [] → BeginsWithPlace r → ⊥) → (g ≡ [] → BeginsWithPlace s → ⊥) → point_and f ++ r ≡ point_and g ++ s → f ≡ g
fraction_once [] [] r s p q no_r no_s long_r long_s e = refl
fraction_once [] (d ∷ g) r s p q no_r no_s long_r long_s e =
    absurd (long_r refl (subst (λ (x : List ℕ). BeginsWithPlace x) (sym e) (refl, q.0)))
fraction_once (c ∷ f) [] r s p q no_r no_s long_r long_s e =
    absurd (long_s refl (subst (λ (x : List ℕ). BeginsWithPlace x) e (refl, p.0)))
fraction_once (c ∷ f) (d ∷ g) r s p q no_r no_s long_r long_s e =
    let digits : (c ∷ f) ++ r ≡ (d ∷ g) ++ s = cc in
    (split_once (c ∷ f) (d ∷ g) r s p q no_r no_s digits).0

-- one number
number_once : (k l : Kind) (w v r s : List ℕ) → IsNumber k w r → IsNumber l v s → w ++ r ≡ v ++ s → (w ≡ v) × (k ≡ l)
number_once k l w v r s p q e =
    let one = point_and p.fraction in
    let other = point_and q.fraction in
    let whole : p.whole ++ (one ++ r) ≡ q.whole ++ (other ++ s) = sym (append_assoc p.whole one r) ∙ (ap (λ (x : List ℕ). x ++ r) (sym p.spelled) ∙ (e ∙ (ap (λ (x : List ℕ). x ++ s) q.spelled ∙ append_assoc q.whole other s))) in
    let both = split_once p.whole q.whole (one ++ r) (other ++ s) p.digits q.digits (no_digit_behind p.fraction r p.ends) (no_digit_behind q.fraction s q.ends) whole in
    let fractions = fraction_once p.fraction q.fraction r s p.places q.places p.ends q.ends p.longest q.longest both.1 in
    (p.spelled ∙ (ap (λ (x : List ℕ). x ++ one) both.0 ∙ (ap (λ (x : List ℕ). q.whole ++ point_and x) fractions ∙ sym q.spelled)), p.meaning ∙ sym q.meaning)

-- there is a longer sign where a shorter one doesn't end
longer_sign : (k l : Kind) (a b c : ℕ) (r s : List ℕ) → IsSign k (a ∷ []) r → IsSign l (b ∷ (c ∷ [])) s → a ∷ r ≡ b ∷ (c ∷ s) → ⊥
longer_sign k l a b c r s p q e =
    let first : a ≡ b = cc in
    let rest : r ≡ c ∷ s = cc in
    let ends : sign_of (a ∷ (c ∷ [])) ≡ None = subst (λ (x : List ℕ). EndsSign (a ∷ []) x) rest p.longest in
    let sign : sign_of (a ∷ (c ∷ [])) ≡ Some l = subst (λ (n : ℕ). sign_of (n ∷ (c ∷ [])) ≡ Some l) (sym first) q.sign in
    cc (ends, sign)

-- one sign
sign_once : (k l : Kind) (w v r s : List ℕ) → IsSign k w r → IsSign l v s → w ++ r ≡ v ++ s → (w ≡ v) × (k ≡ l)
sign_once k l w v r s p q e =
    let same = words w v p q e in
    let kinds : Some k ≡ Some l = sym p.sign ∙ (ap sign_of same ∙ q.sign) in
    (same, cc kinds)
  where
    words : (x y : List ℕ) → IsSign k x r → IsSign l y s → x ++ r ≡ y ++ s → x ≡ y
    words [] y i j f = let h : None ≡ Some k = i.sign in cc h
    words (a ∷ x) [] i j f = let h : None ≡ Some l = j.sign in cc h
    words (a ∷ []) (b ∷ []) i j f = let h : a ≡ b = cc in ap (λ (n : ℕ). n ∷ []) h
    words (a ∷ []) (b ∷ (c ∷ [])) i j f = absurd (longer_sign k l a b c r s i j f)
    words (a ∷ []) (b ∷ (c ∷ (d ∷ y))) i j f = let h : None ≡ Some l = j.sign in cc h
    words (a ∷ (b ∷ [])) (c ∷ []) i j f = absurd (longer_sign l k c a b s r j i (sym f))
    words (a ∷ (b ∷ [])) (c ∷ (d ∷ [])) i j f = let h : a ≡ c = cc in let g : b ≡ d = cc in cc (h, g)
    words (a ∷ (b ∷ [])) (c ∷ (d ∷ (n ∷ y))) i j f = let h : None ≡ Some l = j.sign in cc h
    words (a ∷ (b ∷ (n ∷ x))) (c ∷ y) i j f = let h : None ≡ Some k = i.sign in cc h

-- one token of a class
of_class_once : (c : Class) (k l : Kind) (w v r s : List ℕ) → IsOfClass c k w r → IsOfClass c l v s → w ++ r ≡ v ++ s → (w ≡ v) × (k ≡ l)
of_class_once class.Letter = word_once
of_class_once class.Digit = number_once
of_class_once class.Quote = text_once
of_class_once class.NameQuote = quoted_name_once
of_class_once class.Mark = sign_once

-- there is one token at the start of a text
pub one_token : (k l : Kind) (w v r s : List ℕ) → Is k w r → Is l v s → w ++ r ≡ v ++ s → (w ≡ v) × (k ≡ l)
one_token k l [] v r s p q e = absurd p
one_token k l (a ∷ w) [] r s p q e = absurd q
one_token k l (a ∷ w) (b ∷ v) r s p q e =
    let first : b ≡ a = cc in
    of_class_once (class_of a) k l (a ∷ w) (b ∷ v) r s p (subst (λ (n : ℕ). IsOfClass (class_of n) l (b ∷ v) s) first q) e

-- no token of a class is empty
of_class_some : (c : Class) (k : Kind) (w r : List ℕ) → IsOfClass c k w r → 0 < length w
of_class_some class.Letter k [] r p = absurd p.is_word.first
of_class_some class.Letter k (a ∷ w) r p = omega arith
of_class_some class.Digit k w r p = omega (arith, p.some, ap (λ (x : List ℕ). length x) p.spelled, length-append p.whole (point_and p.fraction))
of_class_some class.Quote k w r p = omega (arith, ap (λ (x : List ℕ). length x) p.quotes)
of_class_some class.NameQuote k w r p = omega (arith, ap (λ (x : List ℕ). length x) p.quotes)
of_class_some class.Mark k [] r p = let h : None ≡ Some k = p.sign in cc h
of_class_some class.Mark k (a ∷ w) r p = omega arith

-- no token is empty
pub token_some : (k : Kind) (w r : List ℕ) → Is k w r → 0 < length w
token_some k [] r p = absurd p
token_some k (a ∷ w) r p = omega arith

-- what is found of the class of the first byte is the token
pub found_of_class : (first : ℕ) (body : List ℕ) (found : Option (Kind × ℕ)) → Finds (IsOfClass (class_of first)) (first ∷ body) found → Finds Is (first ∷ body) found
found_of_class first body None none = λ kind word rest e is. at_word kind word rest e is
  where
    at_word : (kind : Kind) (word rest : List ℕ) → first ∷ body ≡ word ++ rest → Is kind word rest → ⊥
    at_word kind [] rest e is = is
    at_word kind (a ∷ word) rest e is = let same : a ≡ first = cc in none kind (a ∷ word) rest e (subst (λ (n : ℕ). IsOfClass (class_of n) kind (a ∷ word) rest) same is)
found_of_class first body (Some found) of_class = at_word of_class.0 of_class.1 of_class.2 of_class.3 of_class.4
  where
    at_word : (word rest : List ℕ) → IsOfClass (class_of first) found.0 word rest → first ∷ body ≡ word ++ rest → length word ≡ found.1 → Finds Is (first ∷ body) (Some found)
    at_word [] rest is e len = absurd (omega (arith, of_class_some (class_of first) found.0 [] rest is))
    at_word (a ∷ word) rest is e len = let same : first ≡ a = cc in (a ∷ word, rest, subst (λ (n : ℕ). IsOfClass (class_of n) found.0 (a ∷ word) rest) same is, e, len)

-- the same of a text by its first byte
pub found_by_first : (c : Class) (text : List ℕ) (found : Option (Kind × ℕ)) → 1 ≤ length text → c ≡ class_of (get_or text 0 0) → Finds (IsOfClass c) text found → Finds Is text found
found_by_first c [] found some e finds = absurd (omega arith)
found_by_first c (first ∷ body) found some e finds = found_of_class first body found (subst (λ (d : Class). Finds (IsOfClass d) (first ∷ body) found) e finds)

-- no token is in nothing
pub nothing_found : (text : List ℕ) → length text ≡ 0 → Finds Is text None
nothing_found [] e kind [] rest whole is = is
nothing_found [] e kind (a ∷ word) rest whole is = cc whole
nothing_found (first ∷ body) e kind word rest whole is = omega arith
