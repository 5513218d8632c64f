-- Numbers and lines one after another.
use Rattle.std.proofs.Common.{◌≡◌, ℕ, zero, suc, ◌+◌, ◌<◌, List, [], ◌∷◌, ◌++◌, length, take, get_or, map, refl, sym, ◌∙◌, ap, append_assoc, arith}
use Rattle.std.specs.Fmt.{decimal}
use Rattle.std.proofs.lemmas.List.{append-nil, take_more, take_all, map-append}
use Rattle.cert_text.specs.Numbers.{blanked, listed}
use Rattle.cert_text.specs.Lines.{Row, row, line_of, text_of, word}
use Rattle.cert_text.specs.Rules.{Puts}
use Rattle.cert_text.specs.declared.kinds.Kind.{Kind}

pub blanked-append : (numbers more : List ℕ) → blanked (numbers ++ more) ≡ blanked numbers ++ blanked more
blanked-append [] more = refl
blanked-append (number ∷ numbers) more =
    ap (λ (bytes : List ℕ). 32 ∷ (decimal number ++ bytes)) (blanked-append numbers more)
    ∙ ap (λ (bytes : List ℕ). 32 ∷ bytes) (sym (append_assoc (decimal number) (blanked numbers) (blanked more)))

-- one more number
pub blanked_more : (numbers : List ℕ) (i : ℕ) → i < length numbers → blanked (take (i + 1) numbers) ≡ blanked (take i numbers) ++ (32 ∷ decimal (get_or numbers i 0))
blanked_more numbers i within =
    ap blanked (take_more numbers i 0 within)
    ∙ (blanked-append (take i numbers) (get_or numbers i 0 ∷ [])
    ∙ ap (λ (bytes : List ℕ). blanked (take i numbers) ++ (32 ∷ bytes)) (append-nil (decimal (get_or numbers i 0))))

pub put_on : (old now new : List ℕ) (numbers : List ℕ) (i : ℕ) → i < length numbers
    → now ≡ old ++ blanked (take i numbers) → new ≡ now ++ (32 ∷ decimal (get_or numbers i 0)) → new ≡ old ++ blanked (take (i + 1) numbers)
put_on old now new numbers i within now_is new_is =
    let more : List ℕ = 32 ∷ decimal (get_or numbers i 0) in
    new_is ∙ (ap (λ (bytes : List ℕ). bytes ++ more) now_is
    ∙ (append_assoc old (blanked (take i numbers)) more
    ∙ ap (λ (bytes : List ℕ). old ++ bytes) (sym (blanked_more numbers i within))))

-- what holds while numbers are put after a first one
pub put_more : (old now new : List ℕ) (first : ℕ) (numbers : List ℕ) (i : ℕ) → i < length numbers
    → now ≡ old ++ (decimal first ++ blanked (take i numbers)) → new ≡ now ++ (32 ∷ decimal (get_or numbers i 0))
    → new ≡ old ++ (decimal first ++ blanked (take (i + 1) numbers))
put_more old now new first numbers i within now_is new_is =
    let more : List ℕ = 32 ∷ decimal (get_or numbers i 0) in
    new_is ∙ (ap (λ (bytes : List ℕ). bytes ++ more) now_is
    ∙ (append_assoc old (decimal first ++ blanked (take i numbers)) more
    ∙ ap (λ (bytes : List ℕ). old ++ bytes) (append_assoc (decimal first) (blanked (take i numbers)) more
    ∙ ap (λ (bytes : List ℕ). decimal first ++ bytes) (sym (blanked_more numbers i within)))))

pub put_all : (old now : List ℕ) (first : ℕ) (numbers : List ℕ) (i : ℕ) → length numbers ≡ i
    → now ≡ old ++ (decimal first ++ blanked (take i numbers)) → now ≡ old ++ listed (first ∷ numbers)
put_all old now first numbers i end now_is =
    now_is ∙ ap (λ (bytes : List ℕ). old ++ (decimal first ++ blanked bytes)) (take_all i numbers (omega arith))

-- the text of lines one after another
pub text-append : (rows more : List Row) → text_of (rows ++ more) ≡ text_of rows ++ text_of more
text-append [] more = refl
text-append (one ∷ rows) more =
    ap (λ (bytes : List ℕ). line_of one.kind one.numbers ++ (10 ∷ bytes)) (text-append rows more)
    ∙ sym (append_assoc (line_of one.kind one.numbers) (10 ∷ text_of rows) (text_of more))

pub puts_both : (old now new : List ℕ) (rows more : List Row) → Puts old now rows → Puts now new more → Puts old new (rows ++ more)
puts_both old now new rows more first second =
    second ∙ (ap (λ (bytes : List ℕ). bytes ++ text_of more) first
    ∙ (append_assoc old (text_of rows) (text_of more)
    ∙ ap (λ (bytes : List ℕ). old ++ bytes) (sym (text-append rows more))))

pub puts_none : (old : List ℕ) → Puts old old []
puts_none old = sym (append-nil old)

-- one more of the rows of a list, which come after others
pub puts_more : {A : Type 0} (of : A → Row) (old now new : List ℕ) (head : List Row) (items : List A) (i : ℕ) (d : A) → i < length items
    → Puts old now (head ++ map of (take i items)) → Puts now new (of (get_or items i d) ∷ []) → Puts old new (head ++ map of (take (i + 1) items))
puts_more of old now new head items i d within first second =
    puts_both old now new (head ++ map of (take i items)) (of (get_or items i d) ∷ []) first second
    ∙ ap (λ (rows : List Row). old ++ text_of rows)
    (append_assoc head (map of (take i items)) (of (get_or items i d) ∷ [])
    ∙ ap (λ (rows : List Row). head ++ rows)
    (sym (ap (map of) (take_more items i d within) ∙ map-append of (take i items) (get_or items i d ∷ []))))

pub puts_all : {A : Type 0} (of : A → Row) (old now : List ℕ) (items : List A) (i : ℕ) → length items ≡ i
    → Puts old now (map of (take i items)) → Puts old now (map of items)
puts_all {A} of old now items i end puts =
    puts ∙ ap (λ (some : List A). old ++ text_of (map of some)) (take_all i items (omega arith))

-- a line by its parts
pub put_parts : (old one two new : List ℕ) (kind : Kind) (numbers : List ℕ) → one ≡ old ++ word kind → two ≡ one ++ listed numbers → new ≡ two ++ 10 ∷ [] → Puts old new (row kind numbers ∷ [])
put_parts old one two new kind numbers first second third =
    let line : List ℕ = word kind ++ listed numbers in
    third ∙ (ap (λ (bytes : List ℕ). bytes ++ 10 ∷ []) (second ∙ (ap (λ (bytes : List ℕ). bytes ++ listed numbers) first ∙ append_assoc old (word kind) (listed numbers)))
    ∙ append_assoc old line (10 ∷ []))
