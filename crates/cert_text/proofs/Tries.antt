-- Trying one kind of line after another.
use Rattle.std.proofs.Common.{◌≡◌, ◌⊎◌, ℕ, zero, suc, ◌+◌, ◌<◌, Bool, true, false, List, [], ◌∷◌, ◌++◌, length, take, get_or, refl, sym, ◌∙◌, ap, subst, arith, inl, inr}
use Rattle.std.specs.Prelude.{Option, None, Some}
use Rattle.std.proofs.lemmas.List.{append-nil, take_all}
use Rattle.cert_text.specs.declared.kinds.Kind.{Kind}
use Rattle.cert_text.specs.declared.kinds.Expect.{Expect}
use Rattle.cert_text.specs.declared.numbers.Fit.{Fit}
use Rattle.cert_text.specs.declared.numbers.Fit.TheVariants.{Whole, Begun, Bad}
use Rattle.cert_text.specs.Numbers.{AllWithin, FitsAs}
use Rattle.cert_text.specs.Lines.{word, line_of}
use Rattle.cert_text.specs.Expected.{ranges, kinds, IsOneOf}
use Rattle.cert_text.specs.Rules.{Follows, IsRow, BeginsRow, BeginsAny, RowIs, RowBegins}

pub bad_is : (expect : Expect) (kind : Kind) (text numbers : List ℕ) → FitsAs (word kind) (ranges expect kind) text numbers Bad → RowIs expect kind text numbers false
bad_is expect kind text numbers fits others within same = fits others [] within (sym (append-nil text ∙ same))

pub whole_begins : (expect : Expect) (kind : Kind) (text numbers : List ℕ) → FitsAs (word kind) (ranges expect kind) text numbers Whole → RowBegins expect kind text true
whole_begins expect kind text numbers fits = (numbers, [], fits.0, sym (append-nil text ∙ fits.1))

-- the kinds up to one more
one_of_at : (list : List Kind) (i : ℕ) (d : Kind) → i < length list → IsOneOf list (get_or list i d)
one_of_at [] i d within = absurd (omega (arith, within))
one_of_at (one ∷ list) zero d within = inl refl
one_of_at (one ∷ list) (suc i) d within = inr (one_of_at list i d (omega (arith, within)))

one_of_more : (list : List Kind) (i : ℕ) (d kind : Kind) → IsOneOf (take (suc i) list) kind → IsOneOf (take i list) kind ⊎ (kind ≡ get_or list i d)
one_of_more [] i d kind is = absurd is
one_of_more (one ∷ list) zero d kind (inl is) = inr is
one_of_more (one ∷ list) zero d kind (inr is) = absurd is
one_of_more (one ∷ list) (suc i) d kind (inl is) = inl (inl is)
one_of_more (one ∷ list) (suc i) d kind (inr is) =
    elim (one_of_more list i d kind is) [
      | inl before ↦ inl (inr before)
      | inr here ↦ inr here
    ]

-- none of the first kinds is the line's
abbrev pub IsTrying : Expect → List ℕ → ℕ → Type 0
IsTrying expect line i = (kind : Kind) → IsOneOf (take i (kinds expect)) kind → RowIs expect kind line [] false

pub tries : (expect : Expect) (line numbers : List ℕ) (i : ℕ) (kind d : Kind) → kind ≡ get_or (kinds expect) i d → RowIs expect kind line numbers false → IsTrying expect line i → IsTrying expect line (i + 1)
tries expect line numbers i kind d is none trying other one others within =
    let more : IsOneOf (take (suc i) (kinds expect)) other = subst (λ (n : ℕ). IsOneOf (take n (kinds expect)) other) (let e : i + 1 ≡ suc i = omega arith in e) one in
    elim (one_of_more (kinds expect) i d other more) [
      | inl before ↦ trying other before others within
      | inr here ↦
          (let same : other ≡ kind = here ∙ sym is in
          subst (λ (k : Kind). (ns : List ℕ) → AllWithin (ranges expect k) ns → line ≡ line_of k ns → ⊥) (sym same) none others within)
    ]

-- none of the first kinds begins so
abbrev pub IsSeeking : Expect → List ℕ → ℕ → Type 0
IsSeeking expect text i = (kind : Kind) → IsOneOf (take i (kinds expect)) kind → RowBegins expect kind text false

pub seeks : (expect : Expect) (text : List ℕ) (i : ℕ) (kind d : Kind) → kind ≡ get_or (kinds expect) i d → RowBegins expect kind text false → IsSeeking expect text i → IsSeeking expect text (i + 1)
seeks expect text i kind d is none seeking other one =
    let more : IsOneOf (take (suc i) (kinds expect)) other = subst (λ (n : ℕ). IsOneOf (take n (kinds expect)) other) (let e : i + 1 ≡ suc i = omega arith in e) one in
    elim (one_of_more (kinds expect) i d other more) [
      | inl before ↦ seeking other before
      | inr here ↦ subst (λ (k : Kind). RowBegins expect k text false) (sym (here ∙ sym is)) none
    ]
