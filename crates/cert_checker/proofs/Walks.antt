-- The walk: a cut is undone, and going into a half or to the next place keeps what is still to come.
use Rattle.std.proofs.Common.{◌≡◌, ℕ, ◌+◌, ◌<◌, List, [], ◌∷◌, ◌++◌, map, reverse, length, refl, sym, ◌∙◌, ap, subst, Bool, true, false, not, length-set}
use Rattle.std.specs.Prelude.{slice_set}
use Rattle.std.proofs.lemmas.List.{reverse-append, map-append, set-set, set-get_or}
use Rattle.lin_bound.specs.Sums.{nat_at}
use Rattle.lin_bound.specs.Box.{half, Splits, lower, upper}
use Rattle.lin_bound.specs.declared.region.Region.{Region}
use Rattle.cert_checker.specs.declared.walk.Cut.{Cut}
use Rattle.cert_checker.specs.Faults.{Place, below}
use Rattle.cert_checker.specs.Walk.{cut_of, undone, path_of, place_of, waiting, others_of, AllUndo, Undoes, here, others, NextIs}

-- a cut is undone
pub undone_lower : (var at : ℕ) (box : Region) → undone (cut_of (lower var at) box) (half (lower var at) box) ≡ box
undone_lower var at box =
    ap (λ (high : List ℕ). let made : Region = record { low = box.low; high = high } in made)
    (set-set box.high var at (nat_at box.high var) ∙ set-get_or box.high var 0)

pub undone_upper : (var at : ℕ) (box : Region) → undone (cut_of (upper var at) box) (half (upper var at) box) ≡ box
undone_upper var at box =
    ap (λ (low : List ℕ). let made : Region = record { low = low; high = box.high } in made)
    (set-set box.low var (at + 1) (nat_at box.low var) ∙ set-get_or box.low var 0)

-- the ends of a box stay as many
abbrev with_end : Bool → ℕ → ℕ → Region → Region
with_end true var kept box = record { low = slice_set box.low var kept; high = box.high }
with_end false var kept box = record { low = box.low; high = slice_set box.high var kept }

low_length : (high : Bool) (var kept : ℕ) (box : Region) → length (with_end high var kept box).low ≡ length box.low
low_length true var kept box = length-set box.low var kept
low_length false var kept box = refl

undone_is : (cut : Cut) (box : Region) → undone cut box ≡ with_end cut.branch.high cut.branch.var cut.kept box
undone_is cut box = by cut.branch.high
  where
    by : (high : Bool) → undone (record { branch = record { var = cut.branch.var; at = cut.branch.at; high = high }; kept = cut.kept }) box ≡ with_end high cut.branch.var cut.kept box
    by true = refl
    by false = refl

pub undone_low : (cut : Cut) (box : Region) → length (undone cut box).low ≡ length box.low
undone_low cut box = ap (λ (made : Region). length made.low) (undone_is cut box) ∙ low_length cut.branch.high cut.branch.var cut.kept box

-- what a walk can undo has as many lows as highs
pub undo_same : (cuts : List Cut) (box : Region) → AllUndo cuts box → length box.low ≡ length box.high
undo_same [] box all = all
undo_same (cut ∷ cuts) box all = all.1

-- the variable of the last cut is one of the box
pub cut_within : (cut : Cut) (cuts : List Cut) (box : Region) → AllUndo (cut ∷ cuts) box → cut.branch.var < length box.low
cut_within cut cuts box all = subst (λ (n : ℕ). cut.branch.var < n) (undone_low cut box) all.0.var

pub cut_within_high : (cut : Cut) (cuts : List Cut) (box : Region) → AllUndo (cut ∷ cuts) box → cut.branch.var < length box.high
cut_within_high cut cuts box all = subst (λ (n : ℕ). cut.branch.var < n) all.1 (cut_within cut cuts box all)

-- the last of some cuts
pub pushed : (cuts : List Cut) (cut : Cut) → reverse (cuts ++ cut ∷ []) ≡ cut ∷ reverse cuts
pushed cuts cut = reverse-append cuts (cut ∷ [])

path_more : (cut : Cut) (cuts : List Cut) → path_of (cut ∷ cuts) ≡ path_of cuts ++ cut.branch.high ∷ []
path_more cut cuts =
    ap (map (λ (some : Cut). some.branch.high)) (reverse-append (cut ∷ []) cuts)
    ∙ map-append (λ (some : Cut). some.branch.high) (reverse cuts) (cut ∷ [])

-- after going into the lower half, its upper half is still to come
lower_here : (var at : ℕ) (cuts : List Cut) (box : Region) → place_of (cut_of (lower var at) box ∷ cuts) (half (lower var at) box) ≡ below false var at (place_of cuts box)
lower_here var at cuts box =
    ap (λ (path : List Bool). let place : Place = record { path = path; box = half (lower var at) box } in place) (path_more (cut_of (lower var at) box) cuts)

lower_others : (var at : ℕ) (cuts : List Cut) (box : Region) → others_of (cut_of (lower var at) box ∷ cuts) (half (lower var at) box) ≡ below true var at (place_of cuts box) ∷ others_of cuts box
lower_others var at cuts box =
    ap (λ (old : Region). below true var at (place_of cuts old) ∷ others_of cuts old) (undone_lower var at box)

lower_undoes : (var at : ℕ) (cuts : List Cut) (box : Region) → Splits (lower var at) box → AllUndo cuts box → AllUndo (cut_of (lower var at) box ∷ cuts) (half (lower var at) box)
lower_undoes var at cuts box splits all =
    let same = sym (undone_lower var at box) in (
      subst (λ (old : Region). Splits (lower var at) old) same splits,
      undo_same cuts box all ∙ sym (length-set box.high var at),
      subst (λ (old : Region). AllUndo cuts old) same all,
    )

-- after going into the upper half, nothing more of the box is to come
upper_here : (var at : ℕ) (cuts : List Cut) (box : Region) → place_of (cut_of (upper var at) box ∷ cuts) (half (upper var at) box) ≡ below true var at (place_of cuts box)
upper_here var at cuts box =
    ap (λ (path : List Bool). let place : Place = record { path = path; box = half (upper var at) box } in place) (path_more (cut_of (upper var at) box) cuts)

upper_others : (var at : ℕ) (cuts : List Cut) (box : Region) → others_of (cut_of (upper var at) box ∷ cuts) (half (upper var at) box) ≡ others_of cuts box
upper_others var at cuts box = ap (others_of cuts) (undone_upper var at box)

upper_undoes : (var at : ℕ) (cuts : List Cut) (box : Region) → Splits (lower var at) box → AllUndo cuts box → AllUndo (cut_of (upper var at) box ∷ cuts) (half (upper var at) box)
upper_undoes var at cuts box splits all =
    let same = sym (undone_upper var at box) in (
      subst (λ (old : Region). Splits (lower var at) old) same splits,
      length-set box.low var (at + 1) ∙ undo_same cuts box all,
      subst (λ (old : Region). AllUndo cuts old) same all,
    )

-- the walk went into the lower half
pub into_lower : (var at : ℕ) (cuts new_cuts : List Cut) (box new_box : Region)
    → new_box ≡ half (lower var at) box → new_cuts ≡ cuts ++ cut_of (lower var at) box ∷ []
    → Splits (lower var at) box → Undoes cuts box
    → NextIs true (below false var at (here cuts box) ∷ (below true var at (here cuts box) ∷ others cuts box)) new_cuts new_box
into_lower var at cuts new_cuts box new_box box_is cuts_is splits all =
    let made : List Cut = cut_of (lower var at) box ∷ reverse cuts in
    let rev : reverse new_cuts ≡ made = ap reverse cuts_is ∙ pushed cuts (cut_of (lower var at) box) in
    let places : List Place = below false var at (here cuts box) ∷ (below true var at (here cuts box) ∷ others cuts box) in
    let is : places ≡ place_of made (half (lower var at) box) ∷ others_of made (half (lower var at) box) =
    ap (λ (place : Place). place ∷ (below true var at (here cuts box) ∷ others cuts box)) (sym (lower_here var at (reverse cuts) box))
    ∙ ap (λ (more : List Place). place_of made (half (lower var at) box) ∷ more) (sym (lower_others var at (reverse cuts) box)) in
    let holds : (places ≡ place_of made (half (lower var at) box) ∷ others_of made (half (lower var at) box)) × AllUndo made (half (lower var at) box) =
    (is, lower_undoes var at (reverse cuts) box splits all) in
    let at_box : (places ≡ place_of made new_box ∷ others_of made new_box) × AllUndo made new_box =
    subst (λ (some : Region). (places ≡ place_of made some ∷ others_of made some) × AllUndo made some) (sym box_is) holds in
    subst (λ (some : List Cut). (places ≡ place_of some new_box ∷ others_of some new_box) × AllUndo some new_box) (sym rev) at_box

-- the walk went into the upper half, after it mended the box after the lower one
pub into_upper : (var at : ℕ) (cuts new_cuts : List Cut) (box new_box : Region)
    → new_box ≡ half (upper var at) box → new_cuts ≡ cuts ++ cut_of (upper var at) box ∷ []
    → Splits (lower var at) box → Undoes cuts box
    → NextIs true (below true var at (here cuts box) ∷ others cuts box) new_cuts new_box
into_upper var at cuts new_cuts box new_box box_is cuts_is splits all =
    let made : List Cut = cut_of (upper var at) box ∷ reverse cuts in
    let rev : reverse new_cuts ≡ made = ap reverse cuts_is ∙ pushed cuts (cut_of (upper var at) box) in
    let places : List Place = below true var at (here cuts box) ∷ others cuts box in
    let is : places ≡ place_of made (half (upper var at) box) ∷ others_of made (half (upper var at) box) =
    ap (λ (place : Place). place ∷ others cuts box) (sym (upper_here var at (reverse cuts) box))
    ∙ ap (λ (more : List Place). place_of made (half (upper var at) box) ∷ more) (sym (upper_others var at (reverse cuts) box)) in
    let holds : (places ≡ place_of made (half (upper var at) box) ∷ others_of made (half (upper var at) box)) × AllUndo made (half (upper var at) box) =
    (is, upper_undoes var at (reverse cuts) box splits all) in
    let at_box : (places ≡ place_of made new_box ∷ others_of made new_box) × AllUndo made new_box =
    subst (λ (some : Region). (places ≡ place_of made some ∷ others_of made some) × AllUndo made some) (sym box_is) holds in
    subst (λ (some : List Cut). (places ≡ place_of some new_box ∷ others_of some new_box) × AllUndo some new_box) (sym rev) at_box

-- what holds while the walk mends the box
pub record IsMending (places : List Place) (cuts : List Cut) (box : Region) : Type 0 where
  pub places_are : places ≡ others cuts box
  pub undoes : Undoes cuts box

-- the last cut taken off
pub record IsTaken (places : List Place) (cut : Cut) (cuts : List Cut) (box : Region) : Type 0 where
  pub places_are : places ≡ others_of (cut ∷ reverse cuts) box
  pub undoes : AllUndo (cut ∷ reverse cuts) box

pub taken : (places : List Place) (old cuts : List Cut) (cut : Cut) (box : Region) → old ≡ cuts ++ cut ∷ [] → IsMending places old box → IsTaken places cut cuts box
taken places old cuts cut box is mending =
    let rev : reverse old ≡ cut ∷ reverse cuts = ap reverse is ∙ pushed cuts cut in
    record {
      places_are = mending.places_are ∙ ap (λ (some : List Cut). others_of some box) rev;
      undoes = subst (λ (some : List Cut). AllUndo some box) rev mending.undoes;
    }

waiting_is : (high : Bool) (place : Place) (places : List Place) → high ≡ true → waiting high place places ≡ places
waiting_is high place places is = ap (λ (one : Bool). waiting one place places) is

waiting_for : (high : Bool) (place : Place) (places : List Place) → high ≡ false → waiting high place places ≡ place ∷ places
waiting_for high place places is = ap (λ (one : Bool). waiting one place places) is

-- after an upper half it mends on
pub mends : (places : List Place) (cut : Cut) (cuts : List Cut) (box new_box : Region) → cut.branch.high ≡ true → new_box ≡ undone cut box → IsTaken places cut cuts box → IsMending places cuts new_box
mends places cut cuts box new_box high is one =
    let at_old : IsMending places cuts (undone cut box) = record {
      places_are = one.places_are ∙ waiting_is cut.branch.high _ (others_of (reverse cuts) (undone cut box)) high;
      undoes = one.undoes.2;
    } in
    subst (λ (some : Region). IsMending places cuts some) (sym is) at_old

-- after a lower half it goes into the upper one
pub turns : (places : List Place) (cut : Cut) (cuts new_cuts : List Cut) (box mended new_box : Region) → cut.branch.high ≡ false
    → mended ≡ undone cut box → IsTaken places cut cuts box
    → new_box ≡ half (upper cut.branch.var cut.branch.at) mended → new_cuts ≡ cuts ++ cut_of (upper cut.branch.var cut.branch.at) mended ∷ []
    → NextIs true places new_cuts new_box
turns places cut cuts new_cuts box mended new_box high mended_is one box_is cuts_is =
    let var = cut.branch.var in
    let at = cut.branch.at in
    let at_mended : Undoes cuts mended = subst (λ (some : Region). Undoes cuts some) (sym mended_is) one.undoes.2 in
    let splits : Splits (lower var at) mended = subst (λ (some : Region). Splits (lower var at) some) (sym mended_is) one.undoes.0 in
    let went = into_upper var at cuts new_cuts mended new_box box_is cuts_is splits at_mended in
    let places_are : places ≡ below true var at (here cuts mended) ∷ others cuts mended =
    one.places_are
    ∙ (waiting_for cut.branch.high _ (others_of (reverse cuts) (undone cut box)) high
    ∙ ap (λ (some : Region). below true var at (here cuts some) ∷ others cuts some) (sym mended_is)) in
    (places_are ∙ went.0, went.1)

pub not_is_true : (high : Bool) → not high ≡ true → high ≡ false
not_is_true true is = sym is
not_is_true false is = refl
