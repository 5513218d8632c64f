-- Lemmas on lists of points that are halved, and on the places that are moved for it.
use Rattle.std.proofs.Common.{◌≡◌, ℕ, ◌+◌, ◌-◌, ◌<◌, ◌≤◌, List, [], ◌∷◌, ◌++◌, length, get_or, take, drop, map, All, Bool, true, false, not, cond, eqb, if◌then◌else◌, ◌==◌, refl, sym, ap, ◌∙◌, arith, append_assoc, append-nil, length-append, length-drop}
use Rattle.std.specs.List.{filter, flat_map}
use Rattle.std.proofs.lemmas.Bool.{cond-false, ne_eqb}
use Rattle.std.proofs.lemmas.List.{take_at, drop_at, take_more, drop_more, take-map, drop-map, map-append, take_all, drop_all, length-map, get_or-map}
use Rattle.std.proofs.lemmas.List.Concat.{flat_map-append}
use Rattle.std.proofs.lemmas.List.Elements.{All-append, All-filter, All-take, All-drop}
use Rattle.std.proofs.lemmas.List.Filters.{length-filter_both}
use borrow.Rule.Slice.PartMut.{put_mid}
use Rattle.quadtree.specs.Points.{Point}
use Rattle.quadtree.specs.Groups.{halves, has_points}
use Rattle.quadtree.specs.Places.{ArePlaces, IsParted, IsCut, HasCut, joined, point_at, points_at}

abbrev pub other : (Point → Bool) → Point → Bool
other above point = not (above point)

abbrev pub at_place : List Point → (Point → Bool) → ℕ → Bool
at_place points test place = test (point_at points place)

joined-kept : (lists : List (List Point)) → joined (filter has_points lists) ≡ joined lists
joined-kept [] = refl
joined-kept ([] ∷ lists) = joined-kept lists
joined-kept ((point ∷ points) ∷ lists) = ap (λ (xs : List Point). point ∷ (points ++ xs)) (joined-kept lists)

pub joined-halves : (above : Point → Bool) (points : List Point) → joined (halves above points) ≡ filter (other above) points ++ filter above points
joined-halves above points =
    joined-kept (filter (other above) points ∷ filter above points ∷ []) ∙ ap (λ (xs : List Point). filter (other above) points ++ xs) (append-nil (filter above points))

-- the length of a list, unless it is 0
abbrev pub some_length : ℕ → List ℕ
some_length n = if n == 0 then [] else n ∷ []

lengths-kept : (points : List Point) (lists : List (List Point)) → map length (filter has_points (points ∷ lists)) ≡ some_length (length points) ++ map length (filter has_points lists)
lengths-kept [] lists = refl
lengths-kept (point ∷ points) lists =
    let some : eqb (length (point ∷ points)) 0 ≡ false = ne_eqb (length (point ∷ points)) 0 (λ e. absurd (omega (arith, e))) in
    ap (λ (xs : List ℕ). xs ++ map length (filter has_points lists)) (sym (cond-false (eqb (length (point ∷ points)) 0) [] (length (point ∷ points) ∷ []) some))

pub lengths-halves : (above : Point → Bool) (points : List Point) → map length (halves above points) ≡ some_length (length (filter (other above) points)) ++ some_length (length (filter above points))
lengths-halves above points =
    lengths-kept (filter (other above) points) (filter above points ∷ [])
    ∙ ap (λ (xs : List ℕ). some_length (length (filter (other above) points)) ++ xs) (lengths-kept (filter above points) [] ∙ append-nil (some_length (length (filter above points))))

-- both halves have all points
pub length-halves : (above : Point → Bool) (points : List Point) → length (filter (other above) points) + length (filter above points) ≡ length points
length-halves above points = length-filter_both (other above) above (λ (point : Point). turned (above point)) points
  where
    turned : (b : Bool) → b ≡ not (not b)
    turned true = refl
    turned false = refl

-- a test of points is a test of their places
pub filter-points : (points : List Point) (test : Point → Bool) (places : List ℕ) → points_at points (filter (at_place points test) places) ≡ filter test (points_at points places)
filter-points points test [] = refl
filter-points points test (place ∷ places) =
    one (at_place points test place) (filter (at_place points test) places)
    ∙ ap (λ (xs : List Point). cond (test (point_at points place)) (point_at points place ∷ xs) xs) (filter-points points test places)
  where
    one : (b : Bool) (rest : List ℕ) → points_at points (cond b (place ∷ rest) rest) ≡ cond b (point_at points place ∷ points_at points rest) (points_at points rest)
    one true rest = refl
    one false rest = refl

-- places that are parted are those of the halves
module _ (points : List Point) (above : Point → Bool) (before : List ℕ) (middle : ℕ) (now : List ℕ) (parted : IsParted (at_place points above) before middle now) where
  pub parted-points : points_at points now ≡ joined (halves above (points_at points before))
  parted-points =
      ap (points_at points) parted.order
      ∙ map-append (point_at points) (filter (at_place points (other above)) before) (filter (at_place points above) before)
      ∙ ap (λ (xs : List Point). xs ++ points_at points (filter (at_place points above) before)) (filter-points points (other above) before)
      ∙ ap (λ (xs : List Point). filter (other above) (points_at points before) ++ xs) (filter-points points above before)
      ∙ sym (joined-halves above (points_at points before))

  pub parted-middle : middle ≡ length (filter (other above) (points_at points before))
  parted-middle =
      parted.others ∙ sym (length-map (filter (at_place points (other above)) before) (point_at points)) ∙ ap length (filter-points points (other above) before)

  pub parted-places : ArePlaces points before → ArePlaces points now
  parted-places all = rw parted.order (All-append (λ (place : ℕ). place < length points) (filter (at_place points (other above)) before) (filter (at_place points above) before)
      (All-filter (at_place points (other above)) (λ (place : ℕ). place < length points) before all) (All-filter (at_place points above) (λ (place : ℕ). place < length points) before all))

-- after the first k lists
pub record Halved (points : List Point) (above : Point → Bool) (lists : List (List Point)) (places next : List ℕ) (start k : ℕ) : Type 0 where
  pub whole : points_at points places ≡ joined (flat_map (halves above) (take k lists)) ++ joined (drop k lists)
  pub start_is : start ≡ length (joined (flat_map (halves above) (take k lists)))
  pub next_is : next ≡ map length (flat_map (halves above) (take k lists))

pub halved-none : (points : List Point) (above : Point → Bool) (lists : List (List Point)) (places : List ℕ) → points_at points places ≡ joined lists → Halved points above lists places [] 0 0
halved-none points above lists places whole = record { whole = whole; start_is = refl; next_is = refl }

joined-append : (some more : List (List Point)) → joined (some ++ more) ≡ joined some ++ joined more
joined-append some more = flat_map-append (λ (list : List Point). list) some more

-- one list more
flat_map-one : (above : Point → Bool) (lists : List (List Point)) (k : ℕ) → k < length lists → flat_map (halves above) (take (k + 1) lists) ≡ flat_map (halves above) (take k lists) ++ halves above (get_or lists k [])
flat_map-one above lists k within =
    ap (flat_map (halves above)) (take_more lists k [] within)
    ∙ flat_map-append (halves above) (take k lists) (get_or lists k [] ∷ [])
    ∙ ap (λ (xs : List (List Point)). flat_map (halves above) (take k lists) ++ xs) (append-nil (halves above (get_or lists k [])))

module _ (points : List Point) (above : Point → Bool) (lists : List (List Point)) (places next : List ℕ) (start k : ℕ) (halved : Halved points above lists places next start k) (within : k < length lists) where
  abbrev pub done : List (List Point)
  done = flat_map (halves above) (take k lists)

  abbrev pub here : List Point
  here = get_or lists k []

  abbrev pub rest : List Point
  rest = joined (drop (k + 1) lists)

  view : points_at points places ≡ joined done ++ (here ++ rest)
  view = halved.whole ∙ ap (λ (xs : List (List Point)). joined done ++ joined xs) (drop_more lists k [] within)

  pub halved-room : start + length here ≤ length places
  halved-room = omega (arith, halved.start_is, sym (length-map places (point_at points)), ap length view, length-append (joined done) (here ++ rest), length-append here rest)

  dropped : points_at points (drop start places) ≡ here ++ rest
  dropped = sym (drop-map (point_at points) start places) ∙ ap (drop start) view ∙ drop_at (joined done) (here ++ rest) start (sym halved.start_is)

  pub halved-here : (count : ℕ) → count ≡ length here → points_at points (take count (drop start places)) ≡ here
  halved-here count is = sym (take-map (point_at points) count (drop start places)) ∙ ap (take count) dropped ∙ take_at here rest count (sym is)

  firsts : points_at points (take start places) ≡ joined done
  firsts = sym (take-map (point_at points) start places) ∙ ap (take start) view ∙ take_at (joined done) (here ++ rest) start (sym halved.start_is)

  lasts : (count : ℕ) → count ≡ length here → points_at points (drop count (drop start places)) ≡ rest
  lasts count is = sym (drop-map (point_at points) count (drop start places)) ∙ ap (drop count) dropped ∙ drop_at here rest count (sym is)

  after : (count : ℕ) (part : List ℕ) → count ≡ length here → points_at points part ≡ joined (halves above here) → points_at points (put_mid start count places part) ≡ (joined done ++ joined (halves above here)) ++ rest
  after count part is halved_part =
      map-append (point_at points) (take start places) (part ++ drop count (drop start places))
      ∙ ap (λ (xs : List Point). xs ++ points_at points (part ++ drop count (drop start places))) firsts
      ∙ ap (λ (xs : List Point). joined done ++ xs) (map-append (point_at points) part (drop count (drop start places))
      ∙ ap (λ (xs : List Point). xs ++ points_at points (drop count (drop start places))) halved_part
      ∙ ap (λ (xs : List Point). joined (halves above here) ++ xs) (lasts count is))
      ∙ sym (append_assoc (joined done) (joined (halves above here)) rest)

  more : flat_map (halves above) (take (k + 1) lists) ≡ done ++ halves above here
  more = flat_map-one above lists k within

  count_of_halves : length (joined (halves above here)) ≡ length here
  count_of_halves = ap length (joined-halves above here) ∙ length-append (filter (other above) here) (filter above here) ∙ length-halves above here

  pub halved-more : (len count middle : ℕ) (part next1 next2 : List ℕ) → len ≡ length here → count ≡ len → IsParted (at_place points above) (take count (drop start places)) middle part → next1 ≡ next ++ some_length middle → next2 ≡ next1 ++ some_length (len - middle) → Halved points above lists (put_mid start count places part) next2 (start + len) (k + 1)
  halved-more len count middle part next1 next2 len_is count_is parted first second =
      let count_here : count ≡ length here = count_is ∙ len_is in
      let same : points_at points (take count (drop start places)) ≡ here = halved-here count count_here in
      let halved_part : points_at points part ≡ joined (halves above here) = parted-points points above (take count (drop start places)) middle part parted ∙ ap (λ (xs : List Point). joined (halves above xs)) same in
      let low : middle ≡ length (filter (other above) here) = parted-middle points above (take count (drop start places)) middle part parted ∙ ap (λ (xs : List Point). length (filter (other above) xs)) same in
      let high : len - middle ≡ length (filter above here) = omega (arith, low, len_is, length-halves above here) in
      record {
        whole = after count part count_here halved_part ∙ ap (λ (xs : List Point). xs ++ rest) (sym (joined-append done (halves above here)) ∙ ap joined (sym more));
        start_is = omega (arith, halved.start_is, len_is, count_of_halves, length-append (joined done) (joined (halves above here)), ap length (joined-append done (halves above here)), ap (λ (xs : List (List Point)). length (joined xs)) more);
        next_is =
            second ∙ ap (λ (xs : List ℕ). xs ++ some_length (len - middle)) (first ∙ ap (λ (xs : List ℕ). xs ++ some_length middle) halved.next_is)
            ∙ append_assoc (map length done) (some_length middle) (some_length (len - middle))
            ∙ ap (λ (n : ℕ). map length done ++ (some_length n ++ some_length (len - middle))) low
            ∙ ap (λ (n : ℕ). map length done ++ (some_length (length (filter (other above) here)) ++ some_length n)) high
            ∙ ap (λ (xs : List ℕ). map length done ++ xs) (sym (lengths-halves above here))
            ∙ sym (map-append length done (halves above here))
            ∙ ap (map length) (sym more);
      }

-- what is parted are places still
pub places-more : (points : List Point) (above : Point → Bool) (places : List ℕ) (start count middle : ℕ) (part : List ℕ) → ArePlaces points places → IsParted (at_place points above) (take count (drop start places)) middle part → ArePlaces points (put_mid start count places part)
places-more points above places start count middle part all parted =
    let rest = All-drop (λ (place : ℕ). place < length points) start places all in
    let old = All-take (λ (place : ℕ). place < length points) count (drop start places) rest in
    All-append (λ (place : ℕ). place < length points) (take start places) (part ++ drop count (drop start places)) (All-take (λ (place : ℕ). place < length points) start places all)
    (All-append (λ (place : ℕ). place < length points) part (drop count (drop start places)) (parted-places points above (take count (drop start places)) middle part parted old) (All-drop (λ (place : ℕ). place < length points) count (drop start places) rest))

-- after all of them
pub halved-all : (points : List Point) (above : Point → Bool) (lists : List (List Point)) (places next : List ℕ) (start k : ℕ) → Halved points above lists places next start k → length lists ≤ k → IsCut (points_at points places) next (flat_map (halves above) lists)
halved-all points above lists places next start k halved all =
    let taken : take k lists ≡ lists = take_all k lists all in
    let none : drop k lists ≡ [] = drop_all k lists all in
    record {
      whole = halved.whole ∙ ap (λ (xs : List (List Point)). joined (flat_map (halves above) (take k lists)) ++ joined xs) none ∙ append-nil (joined (flat_map (halves above) (take k lists))) ∙ ap (λ (xs : List (List Point)). joined (flat_map (halves above) xs)) taken;
      each = halved.next_is ∙ ap (λ (xs : List (List Point)). map length (flat_map (halves above) xs)) taken;
    }

pub length-cut : (points : List Point) (lengths : List ℕ) (lists : List (List Point)) → IsCut points lengths lists → length lengths ≡ length lists
length-cut points lengths lists cut = ap length cut.each ∙ length-map lists length

pub cut-at : (points : List Point) (lengths : List ℕ) (lists : List (List Point)) (k : ℕ) → IsCut points lengths lists → k < length lists → get_or lengths k 0 ≡ length (get_or lists k [])
cut-at points lengths lists k cut within = ap (λ (xs : List ℕ). get_or xs k 0) cut.each ∙ get_or-map length lists k [] 0 within

-- the next list stands within the places
pub room-of : (points : List Point) (above : Point → Bool) (before lengths places next : List ℕ) (start k : ℕ) → HasCut (points_at points before) lengths → ((lists : List (List Point)) → IsCut (points_at points before) lengths lists → Halved points above lists places next start k) → k < length lengths → start + get_or lengths k 0 ≤ length places
room-of points above before lengths places next start k has halved within =
    let lists = has.0 in
    let cut = has.1 in
    let inside : k < length lists = omega (arith, length-cut (points_at points before) lengths lists cut) in
    omega (arith, halved-room points above lists places next start k (halved lists cut) inside, cut-at (points_at points before) lengths lists k cut inside)
