-- A list that is written part by part.
use Rattle.std.proofs.Common.{◌≡◌, ℕ, zero, suc, ◌+◌, ◌<◌, length, take, get_or, Bool, true, false, ◌==◌, if◌then◌else◌, List, [], ◌∷◌, ◌++◌, flat_map, refl, sym, ap, ◌∙◌, append_assoc, append-nil, add-one, arith}
use Rattle.std.proofs.lemmas.List.{take_more}
use Rattle.std.proofs.lemmas.Grind.{fold-append, flat_map-append}
use Rattle.std.proofs.lemmas.Bool.Decides.{nat_tests}
use Rattle.paql_lexer.specs.declared.vocabulary.Kind.{Kind}
use Rattle.paql_lexer.specs.declared.vocabulary.Kind.TheVariants as kinds
use Rattle.paql_ast.specs.declared.aggregates.SumItem.{SumItem}
use Rattle.paql_grammar.specs.Lexemes.{Lexeme}
use Rattle.paql_printer.specs.Spellings.{spelled}
use Rattle.paql_printer.specs.Print.{behind, listed, term, sum, first_item, next_item}
use Rattle.paql_printer.specs.Fronts.{Front, put, written}
use Rattle.paql_printer.specs.Parts.{separator, sign}

-- two runs of lexemes, one after the other
pub written_append : (front : Front) (lexemes later : List Lexeme) → written (written front lexemes) later ≡ written front (lexemes ++ later)
written_append front lexemes later = sym (fold-append put front lexemes later)

-- one part more of those that go on alike
flat_more : {A : Type 0} (print : A → List Lexeme) (parts : List A) (at : ℕ) (d : A) → at < length parts → flat_map print (take (suc at) parts) ≡ flat_map print (take at parts) ++ print (get_or parts at d)
flat_more print parts at d within =
    ap (λ (n : ℕ). flat_map print (take n parts)) (sym (add-one at)) ∙ (ap (flat_map print) (take_more parts at d within)
    ∙ (flat_map-append print (take at parts) (get_or parts at d ∷ []) ∙ ap (λ (lexemes : List Lexeme). flat_map print (take at parts) ++ lexemes) (append-nil (print (get_or parts at d)))))

not_zero : (n : ℕ) → (suc n == 0) ≡ false
not_zero n = grind (arith, nat_tests)

-- the word comes before each part but the first
separator_later : (kind : Kind) (at : ℕ) → separator kind (suc at) ≡ spelled kind ∷ []
separator_later kind at = ap (λ (first : Bool). if first then [] else spelled kind ∷ []) (not_zero at)

-- one part more, after the word that separates it
pub listed_more : {A : Type 0} (kind : Kind) (print : A → List Lexeme) (parts : List A) (at : ℕ) (d : A) → at < length parts → listed kind print (take (suc at) parts) ≡ listed kind print (take at parts) ++ (separator kind at ++ print (get_or parts at d))
listed_more kind print [] at d within = absurd (omega arith)
listed_more kind print (first ∷ later) zero d within = append-nil (print first)
listed_more kind print (first ∷ later) (suc at) d within =
    ap (λ (lexemes : List Lexeme). print first ++ lexemes) (flat_more (λ item. behind kind (print item)) later at d (omega arith))
    ∙ (sym (append_assoc (print first) (flat_map (λ item. behind kind (print item)) (take at later)) (behind kind (print (get_or later at d))))
    ∙ ap (λ (word : List Lexeme). (print first ++ flat_map (λ item. behind kind (print item)) (take at later)) ++ (word ++ print (get_or later at d))) (sym (separator_later kind at)))

-- two parts more
pub written_two : (front now between after : Front) (lexemes one other : List Lexeme) → now ≡ written front lexemes → between ≡ written now one → after ≡ written between other → after ≡ written front (lexemes ++ (one ++ other))
written_two front now between after lexemes one other is_now is_between is_after =
    is_after ∙ (ap (λ (at : Front). written at other) (is_between ∙ ap (λ (at : Front). written at one) is_now)
    ∙ (ap (λ (at : Front). written at other) (written_append front lexemes one) ∙ (written_append front (lexemes ++ one) other ∙ ap (written front) (append_assoc lexemes one other))))

-- the loop that writes a list takes a step
pub listed_step : {A : Type 0} (kind : Kind) (print : A → List Lexeme) (front now separated after : Front) (parts : List A) (at : ℕ) (d : A) → at < length parts → now ≡ written front (listed kind print (take at parts)) → separated ≡ written now (separator kind at) → after ≡ written separated (print (get_or parts at d)) → after ≡ written front (listed kind print (take (at + 1) parts))
listed_step kind print front now separated after parts at d within before gap one =
    written_two front now separated after (listed kind print (take at parts)) (separator kind at) (print (get_or parts at d)) before gap one
    ∙ (ap (written front) (sym (listed_more kind print parts at d within)) ∙ ap (λ (n : ℕ). written front (listed kind print (take n parts))) (sym (add-one at)))

-- the sign of a term makes it the first item or a next one
first_is : (package_name : List ℕ) (item : SumItem) (minus : Bool) → (if minus then behind kinds.Minus (term package_name item.term) else term package_name item.term) ≡ sign 0 minus ++ term package_name item.term
first_is package_name item true = refl
first_is package_name item false = refl

next_is : (package_name : List ℕ) (item : SumItem) (minus : Bool) (at : ℕ) → behind (if minus then kinds.Minus else kinds.Plus) (term package_name item.term) ≡ sign (suc at) minus ++ term package_name item.term
next_is package_name item true at = refl
next_is package_name item false at = ap (λ (word : List Lexeme). word ++ term package_name item.term) (sym (separator_later kinds.Plus at))

-- one term more, after its sign
sum_more : (package_name : List ℕ) (items : List SumItem) (at : ℕ) (d : SumItem) → at < length items → sum package_name (take (suc at) items) ≡ sum package_name (take at items) ++ (sign at (get_or items at d).minus ++ term package_name (get_or items at d).term)
sum_more package_name [] at d within = absurd (omega arith)
sum_more package_name (first ∷ later) zero d within = append-nil (first_item package_name first) ∙ first_is package_name first first.minus
sum_more package_name (first ∷ later) (suc at) d within =
    let item = get_or later at d in
    ap (λ (lexemes : List Lexeme). first_item package_name first ++ lexemes) (flat_more (next_item package_name) later at d (omega arith))
    ∙ (sym (append_assoc (first_item package_name first) (flat_map (next_item package_name) (take at later)) (next_item package_name item))
    ∙ ap (λ (lexemes : List Lexeme). (first_item package_name first ++ flat_map (next_item package_name) (take at later)) ++ lexemes) (next_is package_name item item.minus at))

-- the loop that writes a sum takes a step
pub sum_step : (package_name : List ℕ) (front now signed after : Front) (items : List SumItem) (at : ℕ) (item : SumItem) → at < length items → now ≡ written front (sum package_name (take at items)) → item ≡ get_or items at item → signed ≡ written now (sign at item.minus) → after ≡ written signed (term package_name item.term) → after ≡ written front (sum package_name (take (at + 1) items))
sum_step package_name front now signed after items at item within before is gap one =
    written_two front now signed after (sum package_name (take at items)) (sign at item.minus) (term package_name item.term) before gap one
    ∙ (ap (λ (of : SumItem). written front (sum package_name (take at items) ++ (sign at of.minus ++ term package_name of.term))) is
    ∙ (ap (written front) (sym (sum_more package_name items at item within)) ∙ ap (λ (n : ℕ). written front (sum package_name (take n items))) (sym (add-one at))))
