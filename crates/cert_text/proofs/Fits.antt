-- How texts fit words and numbers.
use Rattle.std.proofs.Common.{◌≡◌, ◌≢◌, ◌⊎◌, ℕ, zero, suc, ◌+◌, ◌-◌, ◌^◌, ◌<◌, ◌≤◌, Bool, true, false, List, [], ◌∷◌, ◌++◌, length, take, drop, get_or, refl, sym, ◌∙◌, ap, subst, arith, inl, inr, append_assoc}
use Rattle.std.specs.Prelude.{Option, None, Some}
use Rattle.std.specs.Fmt.{decimal}
use Rattle.std.specs.Char.{digit_value}
use Rattle.std.specs.Str.Parse.{AllDigits}
use Rattle.std.proofs.lemmas.List.{append-nil, append_cancel_left, drop_all, drop_more, length-drop}
use Rattle.std.proofs.lemmas.Fmt.{decimal_injective}
use Rattle.pq_base.specs.Decimal.{BeginsWithDigit}
use Rattle.pq_base.proofs.Numerals.{split_once}
use Rattle.cert_text.specs.declared.numbers.Range.{Range}
use Rattle.cert_text.specs.declared.numbers.Fit.{Fit}
use Rattle.cert_text.specs.declared.numbers.Fit.TheVariants.{Whole, Begun, Bad}
use Rattle.cert_text.specs.Numbers.{blanked, listed, IsWithin, AllWithin, CanBegin, IsNumber, FitsAs, AddsFit, IsLast, IsNext}
use Rattle.cert_text.specs.Expected.{AreGood}
use Rattle.cert_text.proofs.Decimals.{cut_twice, wide, all_digits}

-- ranges hold numbers, and no large ones
pub good_from : (place : ℕ) (rs : List Range) → AreGood rs → AreGood (drop place rs)
good_from zero rs good = good
good_from (suc place) [] good = tt
good_from (suc place) (r ∷ rs) good = good_from place rs good.2

pub good_at : (place : ℕ) (rs : List Range) (r : Range) (rest : List Range) → AreGood rs → drop place rs ≡ r ∷ rest → AreGood (r ∷ rest)
good_at place rs r rest good is = subst AreGood is (good_from place rs good)

least : List Range → List ℕ
least [] = []
least (r ∷ rs) = r.low ∷ least rs

least_within : (rs : List Range) → AreGood rs → AllWithin rs (least rs)
unfolding least
least_within [] good = tt
least_within (r ∷ rs) good = (record { low = omega arith; high = good.0 }, least_within rs good.2)

-- a text that isn't longer than the word
pub word_begun : (word text rest : List ℕ) (rs : List Range) (numbers : List ℕ) → AreGood rs → word ≡ text ++ rest → ((more : List ℕ) → text ≡ word ++ more → ⊥) → FitsAs word rs text numbers Begun
word_begun word text rest rs numbers good is apart =
    let made : List ℕ = listed (least rs) in (
      (least rs, rest ++ made, least_within rs good, ap (λ (bytes : List ℕ). bytes ++ made) is ∙ append_assoc text rest made),
      λ others within same. apart (listed others) same,
    )

pub word_bad : (word text : List ℕ) (rs : List Range) (numbers : List ℕ) → ((more : List ℕ) → text ≡ word ++ more → ⊥) → ((more : List ℕ) → word ≡ text ++ more → ⊥) → FitsAs word rs text numbers Bad
word_bad word text rs numbers apart before others more within e =
    elim (cut_twice word (listed others) text more e) [
      | inl cut ↦ before cut.0 cut.1
      | inr cut ↦ apart cut.0 cut.1
    ]

-- a word with no numbers
alone : (others : List ℕ) → AllWithin [] others → others ≡ []
alone [] within = refl
alone (number ∷ others) within = absurd within

pub alone_begun : (word text rest : List ℕ) → word ≡ text ++ rest → text ≢ word → FitsAs word [] text [] Begun
alone_begun word text rest is apart = (
  ([], rest, tt, append-nil word ∙ is),
  λ others within same. apart (same ∙ (ap (λ (some : List ℕ). word ++ listed some) (alone others within) ∙ append-nil word)),
)

pub alone_bad : (word text : List ℕ) → ((more : List ℕ) → word ≡ text ++ more → ⊥) → FitsAs word [] text [] Bad
alone_bad word text before others more within e =
    before more (sym (append-nil word) ∙ (ap (λ (some : List ℕ). word ++ listed some) (sym (alone others within)) ∙ e))

-- a word before what fits
pub word_fits : (word text rest : List ℕ) (rs : List Range) (numbers : List ℕ) (fit : Fit) → text ≡ word ++ rest → FitsAs [] rs rest numbers fit → FitsAs word rs text numbers fit
word_fits word text rest rs numbers Whole is fits = (fits.0, is ∙ ap (λ (bytes : List ℕ). word ++ bytes) fits.1)
word_fits word text rest rs numbers Begun is fits = (
  (fits.0.0, fits.0.1, fits.0.2, ap (λ (bytes : List ℕ). word ++ bytes) fits.0.3 ∙ (sym (append_assoc word rest fits.0.1) ∙ ap (λ (bytes : List ℕ). bytes ++ fits.0.1) (sym is))),
  λ others within same. fits.1 others within (append_cancel_left word rest (listed others) (sym is ∙ same)),
)
word_fits word text rest rs numbers Bad is fits = λ others more within e.
    fits others more within (append_cancel_left word (listed others) (rest ++ more) (e ∙ (ap (λ (bytes : List ℕ). bytes ++ more) is ∙ append_assoc word rest more)))

-- digits hold no blank
no_blank : (a b : List ℕ) → AllDigits 10 (a ++ (32 ∷ b)) → ⊥
no_blank [] b all = omega (arith, all.0)
no_blank (digit ∷ a) b all = no_blank a b all.1

all_suffix : (a b : List ℕ) → AllDigits 10 (a ++ b) → AllDigits 10 b
all_suffix [] b all = all
all_suffix (digit ∷ a) b all = all_suffix a b all.1

no_digit_blanked : (numbers : List ℕ) → BeginsWithDigit (blanked numbers) → ⊥
no_digit_blanked [] begins = begins
no_digit_blanked (number ∷ numbers) begins = omega (arith, begins)

-- digits alone are no two numbers
pub last_not : (rs : List Range) (digits : List ℕ) → AllDigits 10 digits → 1 < length rs → (others : List ℕ) → AllWithin rs others → digits ≡ listed others → ⊥
last_not [] digits all many others within is = omega (arith, many)
last_not (r ∷ []) digits all many others within is = omega (arith, many)
last_not (r ∷ (s ∷ rs)) digits all many [] within is = within
last_not (r ∷ (s ∷ rs)) digits all many (number ∷ []) within is = within.1
last_not (r ∷ (s ∷ rs)) digits all many (number ∷ (another ∷ others)) within is =
    no_blank (decimal number) (decimal another ++ blanked others) (subst (AllDigits 10) is all)

pub last_is : (rs : List Range) (r : Range) (digits : List ℕ) (found : Option ℕ) → rs ≡ r ∷ [] → IsNumber r digits found → IsLast rs digits found
last_is rs r digits found is number = subst (λ (some : List Range). IsLast some digits found) (sym is) (by found number)
  where
    by : (some : Option ℕ) → IsNumber r digits some → IsLast (r ∷ []) digits some
    by (Some n) number = ((number.0, tt), number.1 ∙ sym (append-nil (decimal n)))
    by None none = each
      where
        each : (others : List ℕ) → AllWithin (r ∷ []) others → digits ≡ listed others → ⊥
        each [] within same = within
        each (n ∷ []) within same = none n within.0 (same ∙ append-nil (decimal n))
        each (n ∷ (another ∷ others)) within same = within.1

-- digits with nothing after them
pub last_begun : (rs rest : List Range) (r : Range) (digits : List ℕ) → rs ≡ r ∷ rest → AreGood (r ∷ rest) → CanBegin r digits → ((others : List ℕ) → AllWithin rs others → digits ≡ listed others → ⊥) → FitsAs [] rs digits [] Begun
last_begun rs rest r digits is good can none =
    let more : List ℕ = can.1 ++ blanked (least rest) in
    let begun : (others : List ℕ) × (some : List ℕ) × AllWithin (r ∷ rest) others × (listed others ≡ digits ++ some) =
    (can.0 ∷ least rest, more, (can.2, least_within rest good.2), ap (λ (bytes : List ℕ). bytes ++ blanked (least rest)) can.3 ∙ append_assoc digits can.1 (blanked (least rest))) in
    (subst (λ (some : List Range). (others : List ℕ) × (after : List ℕ) × AllWithin some others × (listed others ≡ digits ++ after)) (sym is) begun, none)

digits_left : (numbers digits more : List ℕ) → AllDigits 10 digits → blanked numbers ≡ digits ++ more → digits ≡ []
digits_left numbers [] more all e = refl
digits_left numbers (digit ∷ digits) more all e =
    absurd (no_digit_blanked numbers (subst BeginsWithDigit (sym e) all.0))

pub last_bad : (rs rest : List Range) (r : Range) (digits : List ℕ) → rs ≡ r ∷ rest → AllDigits 10 digits → (CanBegin r digits → ⊥) → FitsAs [] rs digits [] Bad
last_bad rs rest r digits is all cannot = subst (λ (some : List Range). FitsAs [] some digits [] Bad) (sym is) each
  where
    each : (others more : List ℕ) → AllWithin (r ∷ rest) others → listed others ≡ digits ++ more → ⊥
    each [] more within e = within
    each (n ∷ others) more within e =
        elim (cut_twice (decimal n) (blanked others) digits more e) [
          | inl cut ↦ cannot (n, cut.0, within.0, cut.1)
          | inr cut ↦
              (let none : cut.0 ≡ [] = digits_left others cut.0 more (all_suffix (decimal n) cut.0 (subst (AllDigits 10) cut.1 all)) cut.2 in
              cannot (n, [], within.0, sym (append-nil digits ∙ (cut.1 ∙ (ap (λ (bytes : List ℕ). decimal n ++ bytes) none ∙ append-nil (decimal n))))))
        ]

-- a number with something after it that is no digit
record Cut (n : ℕ) (others digits more : List ℕ) : Type 0 where
  number : decimal n ≡ digits
  rest : blanked others ≡ more

begins_more : (more other : List ℕ) → 0 < length more → BeginsWithDigit (more ++ other) → BeginsWithDigit more
begins_more [] other some begins = absurd (omega (arith, some))
begins_more (byte ∷ more) other some begins = begins

next_cut : (n : ℕ) (others digits more other : List ℕ) → n < 10 ^ 19 → AllDigits 10 digits → (BeginsWithDigit more → ⊥) → 0 < length more → decimal n ++ blanked others ≡ (digits ++ more) ++ other → Cut n others digits (more ++ other)
next_cut n others digits more other small all none some e =
    let both = split_once (decimal n) digits (blanked others) (more ++ other) (all_digits n small) all (no_digit_blanked others) (λ begins. none (begins_more more other some begins)) (e ∙ append_assoc digits more other) in
    record { number = both.0; rest = both.1 }

pub next_end : (r : Range) (rest : List Range) (digits more : List ℕ) → r.high < 10 ^ 19 → rest ≡ [] → AllDigits 10 digits → (BeginsWithDigit more → ⊥) → 0 < length more → FitsAs [] (r ∷ rest) (digits ++ more) [] Bad
next_end r rest digits more high is all none some = subst (λ (rs : List Range). FitsAs [] (r ∷ rs) (digits ++ more) [] Bad) (sym is) each
  where
    each : (others other : List ℕ) → AllWithin (r ∷ []) others → listed others ≡ (digits ++ more) ++ other → ⊥
    each [] other within e = within
    each (n ∷ (another ∷ others)) other within e = within.1
    each (n ∷ []) other within e =
        let cut = next_cut n [] digits more other (omega (arith, high, within.0.high)) all none some e in
        nothing more other some cut.rest
      where
        nothing : (bytes after : List ℕ) → 0 < length bytes → [] ≡ bytes ++ after → ⊥
        nothing [] after some is = omega (arith, some)
        nothing (byte ∷ bytes) after some is = cc

blank_first : (others more other : List ℕ) → 0 < length more → blanked others ≡ more ++ other → get_or more 0 0 ≡ 32
blank_first [] [] other some e = absurd (omega (arith, some))
blank_first [] (byte ∷ more) other some e = absurd (let no : ⊥ = cc in no)
blank_first (n ∷ others) [] other some e = absurd (omega (arith, some))
blank_first (n ∷ others) (byte ∷ more) other some e = cc

pub next_no_blank : (r : Range) (rest : List Range) (digits more : List ℕ) → r.high < 10 ^ 19 → AllDigits 10 digits → (BeginsWithDigit more → ⊥) → 0 < length more → get_or more 0 0 ≢ 32 → FitsAs [] (r ∷ rest) (digits ++ more) [] Bad
next_no_blank r rest digits more high all none some apart = each
  where
    each : (others other : List ℕ) → AllWithin (r ∷ rest) others → listed others ≡ (digits ++ more) ++ other → ⊥
    each [] other within e = within
    each (n ∷ others) other within e =
        let cut = next_cut n others digits more other (omega (arith, high, within.0.high)) all none some e in
        apart (blank_first others more other some cut.rest)

pub next_no_number : (r : Range) (rest : List Range) (digits more : List ℕ) → r.high < 10 ^ 19 → AllDigits 10 digits → (BeginsWithDigit more → ⊥) → 0 < length more → IsNumber r digits None → FitsAs [] (r ∷ rest) (digits ++ more) [] Bad
next_no_number r rest digits more high all none some no_number = each
  where
    each : (others other : List ℕ) → AllWithin (r ∷ rest) others → listed others ≡ (digits ++ more) ++ other → ⊥
    each [] other within e = within
    each (n ∷ others) other within e =
        let cut = next_cut n others digits more other (omega (arith, high, within.0.high)) all none some e in
        no_number n within.0 (sym cut.number)

first_and_rest : (more : List ℕ) → 0 < length more → get_or more 0 0 ≡ 32 → more ≡ 32 ∷ drop 1 more
first_and_rest [] some is = absurd (omega (arith, some))
first_and_rest (byte ∷ more) some is = ap (λ (b : ℕ). b ∷ more) is

pub next_is : (r : Range) (rest : List Range) (digits more : List ℕ) (found : Option ℕ) → r.high < 10 ^ 19 → AllDigits 10 digits → (BeginsWithDigit more → ⊥) → 0 < length more → get_or more 0 0 ≡ 32 → 0 < length rest → IsNumber r digits found → IsNext r rest digits more found
next_is r [] digits more found high all none some blank many number = absurd (omega (arith, many))
next_is r (s ∷ rest) digits more (Some n) high all none some blank many number = (number.0, number.1, first_and_rest more some blank)
next_is r (s ∷ rest) digits more None high all none some blank many number = next_no_number r (s ∷ rest) digits more high all none some number

-- the ranges from a place on
pub drop_last : (rs : List Range) (place : ℕ) → length rs ≤ place + 1 → drop (place + 1) rs ≡ []
drop_last rs place h = drop_all (place + 1) rs h

-- a number and a blank before what fits
next_fits : (r : Range) (rs : List Range) (n : ℕ) (text rest numbers : List ℕ) (fit : Fit) → 0 < length rs → IsWithin r n → r.high < 10 ^ 19 → text ≡ decimal n ++ (32 ∷ rest) → FitsAs [] rs rest numbers fit → FitsAs [] (r ∷ rs) text (n ∷ numbers) fit
next_fits r rs n text rest numbers Whole some within high is fits =
    ((within, fits.0), is ∙ ap (λ (bytes : List ℕ). decimal n ++ bytes) (ap (λ (bytes : List ℕ). 32 ∷ bytes) fits.1 ∙ blank_listed rs numbers some fits.0))
  where
    blank_listed : (some_rs : List Range) (ns : List ℕ) → 0 < length some_rs → AllWithin some_rs ns → 32 ∷ listed ns ≡ blanked ns
    blank_listed [] ns many within = absurd (omega (arith, many))
    blank_listed (s ∷ some_rs) [] many within = absurd within
    blank_listed (s ∷ some_rs) (m ∷ ns) many within = refl
next_fits r rs n text rest numbers Begun some within high is fits = (
  begun rs fits.0.0 fits.0.1 some fits.0.2 fits.0.3,
  not,
)
  where
    begun : (some_rs : List Range) (ns more : List ℕ) → 0 < length some_rs → AllWithin some_rs ns → listed ns ≡ rest ++ more → (others : List ℕ) × (after : List ℕ) × AllWithin (r ∷ some_rs) others × (listed others ≡ text ++ after)
    begun [] ns more many in_ns e = absurd (omega (arith, many))
    begun (s ∷ some_rs) [] more many in_ns e = absurd in_ns
    begun (s ∷ some_rs) (m ∷ ns) more many in_ns e =
        (n ∷ (m ∷ ns), more, (within, in_ns), ap (λ (bytes : List ℕ). decimal n ++ (32 ∷ bytes)) e ∙ (sym (append_assoc (decimal n) (32 ∷ rest) more) ∙ ap (λ (bytes : List ℕ). bytes ++ more) (sym is)))

    not : (others : List ℕ) → AllWithin (r ∷ rs) others → text ≡ listed others → ⊥
    not [] in_others e = in_others
    not (m ∷ others) in_others e =
        let small : n < 10 ^ 19 = omega (arith, high, within.high) in
        let less : m < 10 ^ 19 = omega (arith, high, in_others.0.high) in
        let both = split_once (decimal m) (decimal n) (blanked others) (32 ∷ rest) (all_digits m less) (all_digits n small) (no_digit_blanked others) (λ begins. omega (arith, begins)) (sym e ∙ is) in
        fits.1 others in_others.1 (rest_is others both.1)
      where
        rest_is : (ns : List ℕ) → blanked ns ≡ 32 ∷ rest → rest ≡ listed ns
        rest_is [] same = absurd (let no : ⊥ = cc in no)
        rest_is (k ∷ ns) same = cc
next_fits r rs n text rest numbers Bad some within high is fits = each
  where
    each : (others more : List ℕ) → AllWithin (r ∷ rs) others → listed others ≡ text ++ more → ⊥
    each [] more in_others e = in_others
    each (m ∷ others) more in_others e =
        let small : n < 10 ^ 19 = omega (arith, high, within.high) in
        let less : m < 10 ^ 19 = omega (arith, high, in_others.0.high) in
        let cut_text : decimal m ++ blanked others ≡ decimal n ++ (32 ∷ (rest ++ more)) = e ∙ (ap (λ (bytes : List ℕ). bytes ++ more) is ∙ append_assoc (decimal n) (32 ∷ rest) more) in
        let both = split_once (decimal m) (decimal n) (blanked others) (32 ∷ (rest ++ more)) (all_digits m less) (all_digits n small) (no_digit_blanked others) (λ begins. omega (arith, begins)) cut_text in
        left others more in_others.1 both.1
      where
        left : (ns after : List ℕ) → AllWithin rs ns → blanked ns ≡ 32 ∷ (rest ++ after) → ⊥
        left [] after in_ns same = cc
        left (k ∷ ns) after in_ns same = fits (k ∷ ns) after in_ns (let tails : listed (k ∷ ns) ≡ rest ++ after = cc in tails)

-- what is at a place of a line
pub record IsFitting (rs : List Range) (text old : List ℕ) (place : ℕ) (rest now : List ℕ) : Type 0 where
  pub some : 0 < length (drop place rs)
  pub onward : (new : List ℕ) (fit : Fit) → AddsFit (drop place rs) rest now new fit → AddsFit rs text old new fit

pub fitting_start : (rs : List Range) (text old : List ℕ) → 0 < length rs → IsFitting rs text old 0 text old
fitting_start rs text old some = record { some = some; onward = λ new fit adds. adds }

pub fitting_end : (rs : List Range) (text old : List ℕ) (place : ℕ) (rest now : List ℕ) → length rs ≤ place → IsFitting rs text old place rest now → ⊥
fitting_end rs text old place rest now past fitting = omega (arith, fitting.some, length-drop place rs, past)

pub fitting_bad : (rs : List Range) (r : Range) (text old : List ℕ) (place : ℕ) (rest now digits more : List ℕ) → drop place rs ≡ r ∷ drop (place + 1) rs → rest ≡ digits ++ more → IsNext r (drop (place + 1) rs) digits more None → IsFitting rs text old place rest now → AddsFit rs text old now Bad
fitting_bad rs r text old place rest now digits more rs_is rest_is next fitting =
    let bad : FitsAs [] (r ∷ drop (place + 1) rs) (digits ++ more) [] Bad = bad_of (drop (place + 1) rs) next in
    let here : FitsAs [] (drop place rs) rest [] Bad = subst (λ (some : List Range). FitsAs [] some rest [] Bad) (sym rs_is) (subst (λ (bytes : List ℕ). FitsAs [] (r ∷ drop (place + 1) rs) bytes [] Bad) (sym rest_is) bad) in
    fitting.onward now Bad ([], sym (append-nil now), here)
  where
    bad_of : (some : List Range) → IsNext r some digits more None → FitsAs [] (r ∷ some) (digits ++ more) [] Bad
    bad_of [] is = is
    bad_of (s ∷ some) is = is

pub fitting_next : (rs : List Range) (r : Range) (text old : List ℕ) (place n : ℕ) (rest now new digits more : List ℕ) → drop place rs ≡ r ∷ drop (place + 1) rs → r.high < 10 ^ 19 → rest ≡ digits ++ more → new ≡ now ++ n ∷ [] → IsNext r (drop (place + 1) rs) digits more (Some n) → IsFitting rs text old place rest now → IsFitting rs text old (place + 1) (drop 1 more) new
fitting_next rs r text old place n rest now new digits more rs_is high rest_is new_is next fitting =
    let got = parts (drop (place + 1) rs) next in
    record {
      some = got.0;
      onward = λ after fit adds. fitting.onward after fit (adds_before (drop (place + 1) rs) got.0 got.1 after fit adds);
    }
  where
    parts : (some : List Range) → IsNext r some digits more (Some n) → (0 < length some) × (IsWithin r n × (digits ≡ decimal n) × (more ≡ 32 ∷ drop 1 more))
    parts [] is = absurd is
    parts (s ∷ some) is = (omega arith, is)

    adds_before : (some : List Range) → 0 < length some → IsWithin r n × (digits ≡ decimal n) × (more ≡ 32 ∷ drop 1 more) → (after : List ℕ) (fit : Fit) → AddsFit (drop (place + 1) rs) (drop 1 more) new after fit → AddsFit (drop place rs) rest now after fit
    adds_before some many got after fit adds =
        let text_is : rest ≡ decimal n ++ (32 ∷ drop 1 more) = rest_is ∙ (ap (λ (front : List ℕ). front ++ more) got.1 ∙ ap (λ (tail : List ℕ). decimal n ++ tail) got.2) in
        let left : 0 < length (drop (place + 1) rs) = (parts (drop (place + 1) rs) next).0 in
        let fits = next_fits r (drop (place + 1) rs) n rest (drop 1 more) adds.0 fit left got.0 high text_is adds.2 in (
          n ∷ adds.0,
          adds.1 ∙ (ap (λ (bytes : List ℕ). bytes ++ adds.0) new_is ∙ append_assoc now (n ∷ []) adds.0),
          subst (λ (rs_from : List Range). FitsAs [] rs_from rest (n ∷ adds.0) fit) (sym rs_is) fits,
        )
