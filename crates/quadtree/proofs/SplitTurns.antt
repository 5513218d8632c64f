-- Lemmas on the loop that splits points: what is done, and the lists that are still to come.
use Rattle.std.proofs.Common.{◌≡◌, ℕ, zero, suc, ◌+◌, ◌-◌, ◌*◌, ◌<◌, ◌≤◌, List, [], ◌∷◌, ◌++◌, length, get_or, take, drop, map, reverse, All, Bool, true, false, ℤ, refl, sym, ap, ◌∙◌, arith, append_assoc, append-nil, length-append, length-drop, eqb, cond}
use Rattle.std.specs.List.{flat_map, range_with_len}
use Rattle.std.proofs.lemmas.Bool.{cond-false, ne_eqb}
use Rattle.std.proofs.lemmas.List.{take_at, drop_at, take-map, drop-map, map-append, reverse-append, length-map, length-reverse, same_from_push, drop-drop, nil_from_length, length-take-le}
use Rattle.std.proofs.lemmas.List.Concat.{flat_map-append}
use Rattle.std.proofs.lemmas.List.FromFn.{fill_by_all, length-range_with_len, get_or-range_with_len}
use Rattle.std.proofs.lemmas.List.Elements.{All-nil, All-cons, All-head, All-tail, All-append, All-take, All-drop, All-from_get_or}
use borrow.Rule.Slice.PartMut.{put_mid}
use Rattle.quadtree.specs.declared.group.Group.{Group}
use Rattle.quadtree.specs.Points.{Point, are_equal}
use Rattle.quadtree.specs.Groups.{groups_of, is_group, parts}
use Rattle.quadtree.specs.Places.{ArePlaces, IsAdded, IsCut, joined, point_at, points_at}
use Rattle.quadtree.proofs.Halving.{some_length}
use Rattle.quadtree.proofs.Shrinking.{HasPoints, parts-some, parts-shorter, two-lists, few-lists}
use Rattle.quadtree.proofs.Rounds.{groups-parts}

-- what holds at each turn
pub record Splits (size : ℕ) (radius : List ℤ) (points : List Point) (places pending : List ℕ) (groups : List Group) (start : ℕ) : Type 0 where
  pub lists : List (List Point)
  pub view : points_at points (drop start places) ≡ joined lists
  pub lengths : pending ≡ reverse (map length lists)
  pub some : All HasPoints lists
  pub done : groups ++ flat_map (groups_of size radius) lists ≡ groups_of size radius points
  pub all : ArePlaces points places
  pub within : start ≤ length places
  pub long : length places ≡ length points

-- how much is left to do
abbrev pub left_of : ℕ → ℕ → ℕ → ℕ
left_of count start pending = 2 * (count - start) - pending

-- places of which some are others have as many
pub put_mid-long : (start count : ℕ) (places part : List ℕ) → start + count ≤ length places → length part ≡ length (take count (drop start places)) → length (put_mid start count places part) ≡ length places
put_mid-long start count places part within same =
    omega (arith, length-append (take start places) (part ++ drop count (drop start places)), length-append part (drop count (drop start places)), length-take-le start places (omega (arith, within)), same, length-take-le count (drop start places) (omega (arith, within, length-drop start places)), length-drop count (drop start places), length-drop start places)

pub long-as : (points : List Point) (before places : List ℕ) → before ≡ range_with_len 0 (length points) → length places ≡ length points → length places ≡ length before
long-as points before places is long = long ∙ sym (length-range_with_len 0 (length points)) ∙ sym (ap length is)

-- the start
all-points : (points : List Point) → points_at points (range_with_len 0 (length points)) ≡ points
all-points points = sym (fill_by_all (point_at points) points (length points) (0, []) refl (λ k within. refl))

first_lists : List Point → List (List Point)
first_lists [] = []
first_lists (point ∷ points) = (point ∷ points) ∷ []

pub splits-none : (size : ℕ) (radius : List ℤ) (points : List Point) (places pending : List ℕ) → places ≡ range_with_len 0 (length points) → pending ≡ [] ++ some_length (length points) → Splits size radius points places pending [] 0
splits-none size radius [] places pending is lengths = record {
  lists = [];
  view = ap (points_at []) is;
  lengths = lengths;
  some = All-nil HasPoints;
  done = refl;
  all = rw is (λ k d h. absurd (omega (arith, h)));
  within = omega arith;
  long = ap length is;
}
splits-none size radius (point ∷ points) places pending is lengths =
    let one : eqb (length (point ∷ points)) 0 ≡ false = ne_eqb (length (point ∷ points)) 0 (λ e. absurd (omega (arith, e))) in
    record {
      lists = (point ∷ points) ∷ [];
      view = ap (points_at (point ∷ points)) is ∙ all-points (point ∷ points) ∙ sym (append-nil (point ∷ points));
      lengths = lengths ∙ cond-false (eqb (length (point ∷ points)) 0) [] (length (point ∷ points) ∷ []) one;
      some = All-cons HasPoints (point ∷ points) [] refl (All-nil HasPoints);
      done = append-nil (groups_of size radius (point ∷ points));
      all = rw is (λ k d h. rw (get_or-range_with_len 0 (length (point ∷ points)) k d (rw (length-range_with_len 0 (length (point ∷ points))) at h)) (omega (arith, h, length-range_with_len 0 (length (point ∷ points)))));
      within = omega arith;
      long = ap length is ∙ length-range_with_len 0 (length (point ∷ points));
    }

pub some-length : (points : List Point) → HasPoints points → 0 < length points
some-length [] some = absurd (cc)
some-length (point ∷ points) some = omega arith

-- the next list
pub record Next (lists : List (List Point)) (left : List ℕ) (len : ℕ) : Type 0 where
  pub here : List Point
  pub later : List (List Point)
  pub is : lists ≡ here ∷ later
  pub long : len ≡ length here
  pub left_is : left ≡ reverse (map length later)

pub next-list : (lists : List (List Point)) (pending left : List ℕ) (len : ℕ) → pending ≡ reverse (map length lists) → pending ≡ left ++ len ∷ [] → Next lists left len
next-list [] pending left len lengths popped =
    let none : left ++ len ∷ [] ≡ [] = sym popped ∙ lengths in
    absurd (omega (arith, ap length none, length-append left (len ∷ [])))
next-list (here ∷ later) pending left len lengths popped =
    let turned : reverse (length here ∷ map length later) ≡ reverse (map length later) ++ length here ∷ [] = reverse-append (length here ∷ []) (map length later) in
    let both = same_from_push left (reverse (map length later)) len (length here) (sym popped ∙ lengths ∙ turned) in
    record { here = here; later = later; is = refl; long = both.1; left_is = both.0 }

-- the end
pub splits-all : (size : ℕ) (radius : List ℤ) (points : List Point) (places pending : List ℕ) (groups : List Group) (start : ℕ) → Splits size radius points places pending groups start → pending ≡ [] → groups ≡ groups_of size radius points
splits-all size radius points places pending groups start splits none = end splits.lists splits.lengths splits.done
  where
    end : (lists : List (List Point)) → pending ≡ reverse (map length lists) → groups ++ flat_map (groups_of size radius) lists ≡ groups_of size radius points → groups ≡ groups_of size radius points
    end [] lengths done = sym (append-nil groups) ∙ done
    end (list ∷ lists) lengths done =
        let long : 0 ≡ length (map length (list ∷ lists)) = ap length (sym none ∙ lengths) ∙ length-reverse (map length (list ∷ lists)) in
        absurd (omega (arith, long))

module _ (size : ℕ) (radius : List ℤ) (points : List Point) (places pending left : List ℕ) (groups : List Group) (start len : ℕ) (splits : Splits size radius points places pending groups start) (popped : pending ≡ left ++ len ∷ []) where
  abbrev pub next : Next splits.lists left len
  next = next-list splits.lists pending left len splits.lengths popped

  view-next : points_at points (drop start places) ≡ next.here ++ joined next.later
  view-next = splits.view ∙ ap joined next.is

  pub some-here : HasPoints next.here
  some-here = All-head HasPoints next.here next.later (rw next.is at splits.some)

  some-later : All HasPoints next.later
  some-later = All-tail HasPoints next.here next.later (rw next.is at splits.some)

  rest-long : length (next.here ++ joined next.later) ≡ length places - start
  rest-long = sym (ap length view-next) ∙ length-map (drop start places) (point_at points) ∙ length-drop start places

  pub splits-room : start + len ≤ length places
  splits-room = omega (arith, rest-long, next.long, length-append next.here (joined next.later), splits.within)

  pub here-is : (count : ℕ) → count ≡ len → points_at points (take count (drop start places)) ≡ next.here
  here-is count is = sym (take-map (point_at points) count (drop start places)) ∙ ap (take count) view-next ∙ take_at next.here (joined next.later) count (sym next.long ∙ sym is)

  later-is : (count : ℕ) → count ≡ len → points_at points (drop count (drop start places)) ≡ joined next.later
  later-is count is = sym (drop-map (point_at points) count (drop start places)) ∙ ap (drop count) view-next ∙ drop_at next.here (joined next.later) count (sym next.long ∙ sym is)

  pub part-places : (count : ℕ) → ArePlaces points (take count (drop start places))
  part-places count = All-take (λ (place : ℕ). place < length points) count (drop start places) (All-drop (λ (place : ℕ). place < length points) start places splits.all)

  pub part-length : (count : ℕ) → count ≡ len → length (take count (drop start places)) ≡ len
  part-length count is = length-take-le count (drop start places) (omega (arith, splits-room, is, length-drop start places)) ∙ is

  pub some-len : 0 < len
  some-len = omega (arith, next.long, some-length next.here some-here)

  few-left : length left + start + len ≤ length places
  few-left = omega (arith, few-lists next.later some-later, rest-long, splits-room, next.long, length-append next.here (joined next.later), ap length next.left_is, length-reverse (map length next.later), length-map next.later length)

  one-less : length pending ≡ length left + 1
  one-less = omega (arith, ap length popped, length-append left (len ∷ []))

  rest-done : groups ++ (groups_of size radius next.here ++ flat_map (groups_of size radius) next.later) ≡ groups_of size radius points
  rest-done = ap (λ (lists : List (List Point)). groups ++ flat_map (groups_of size radius) lists) (sym next.is) ∙ splits.done

  -- the groups of the next list are added
  pub splits-added : (count : ℕ) (now : List Group) → count ≡ len → now ≡ groups ++ groups_of size radius (points_at points (take count (drop start places))) → Splits size radius points places left now (start + len)
  splits-added count now is added = record {
    lists = next.later;
    view = ap (points_at points) (sym (drop-drop len start places)) ∙ later-is len refl;
    lengths = next.left_is;
    some = some-later;
    done =
        ap (λ (xs : List Group). xs ++ flat_map (groups_of size radius) next.later) (added ∙ ap (λ (xs : List Point). groups ++ groups_of size radius xs) (here-is count is))
        ∙ append_assoc groups (groups_of size radius next.here) (flat_map (groups_of size radius) next.later) ∙ rest-done;
    all = splits.all;
    within = splits-room;
    long = splits.long;
  }

  pub less-added : left_of (length points) (start + len) (length left) < left_of (length points) start (length pending)
  less-added = omega (arith, few-left, one-less, some-len, splits.long)

  -- the next list is divided
  module _ (count : ℕ) (part more now : List ℕ) (is : count ≡ len) (far : is_group size radius (points_at points (take count (drop start places))) ≡ false) (apart : are_equal (length radius) (points_at points (take count (drop start places))) ≡ false) (same : length part ≡ length (take count (drop start places))) (cut : IsCut (points_at points part) more (parts (length radius) (points_at points (take count (drop start places))))) (pushed : now ≡ left ++ reverse more) where
    abbrev pub made : List (List Point)
    made = parts (length radius) next.here

    far-here : is_group size radius next.here ≡ false
    far-here = sym (ap (is_group size radius) (here-is count is)) ∙ far

    apart-here : are_equal (length radius) next.here ≡ false
    apart-here = sym (ap (are_equal (length radius)) (here-is count is)) ∙ apart

    made-view : points_at points part ≡ joined made
    made-view = cut.whole ∙ ap (λ (xs : List Point). joined (parts (length radius) xs)) (here-is count is)

    made-lengths : more ≡ map length made
    made-lengths = cut.each ∙ ap (λ (xs : List Point). map length (parts (length radius) xs)) (here-is count is)

    made-some : All HasPoints made
    made-some = parts-some (length radius) next.here some-here

    part-long : length part ≡ len
    part-long = same ∙ part-length count is

    made-long : length (joined made) ≡ length next.here
    made-long = sym (ap length made-view) ∙ length-map part (point_at points) ∙ part-long ∙ next.long

    now-lengths : now ≡ reverse (map length (made ++ next.later))
    now-lengths =
        pushed ∙ ap (λ (xs : List ℕ). xs ++ reverse more) next.left_is ∙ ap (λ (xs : List ℕ). reverse (map length next.later) ++ reverse xs) made-lengths
        ∙ sym (reverse-append (map length made) (map length next.later)) ∙ ap reverse (sym (map-append length made next.later))

    now-view : points_at points (drop start (put_mid start count places part)) ≡ joined (made ++ next.later)
    now-view =
        ap (points_at points) (drop_at (take start places) (part ++ drop count (drop start places)) start (length-take-le start places splits.within))
        ∙ map-append (point_at points) part (drop count (drop start places))
        ∙ ap (λ (xs : List Point). xs ++ points_at points (drop count (drop start places))) made-view
        ∙ ap (λ (xs : List Point). joined made ++ xs) (later-is count is)
        ∙ sym (flat_map-append (λ (list : List Point). list) made next.later)

    now-long : length (put_mid start count places part) ≡ length places
    now-long = omega (arith, length-append (take start places) (part ++ drop count (drop start places)), length-append part (drop count (drop start places)), length-take-le start places splits.within, part-long, is, splits-room, length-drop count (drop start places), length-drop start places)

    pub splits-parted : ArePlaces points part → Splits size radius points (put_mid start count places part) now groups start
    splits-parted all_new = record {
      lists = made ++ next.later;
      view = now-view;
      lengths = now-lengths;
      some = All-append HasPoints made next.later made-some some-later;
      done =
          ap (λ (xs : List Group). groups ++ xs) (flat_map-append (groups_of size radius) made next.later)
          ∙ ap (λ (xs : List Group). groups ++ (xs ++ flat_map (groups_of size radius) next.later)) (sym (groups-parts size radius next.here some-here far-here apart-here))
          ∙ rest-done;
      all = All-append (λ (place : ℕ). place < length points) (take start places) (part ++ drop count (drop start places)) (All-take (λ (place : ℕ). place < length points) start places splits.all)
          (All-append (λ (place : ℕ). place < length points) part (drop count (drop start places)) all_new (All-drop (λ (place : ℕ). place < length points) count (drop start places) (All-drop (λ (place : ℕ). place < length points) start places splits.all)));
      within = omega (arith, now-long, splits.within);
      long = now-long ∙ splits.long;
    }

    pub less-parted : left_of (length points) start (length now) < left_of (length points) start (length pending)
    less-parted =
        let two = two-lists (length next.here) made (parts-shorter (length radius) next.here apart-here) made-long (some-length next.here some-here) in
        let few = few-lists made made-some in
        let fewer = few-lists next.later some-later in
        let counted : length now ≡ length left + length made = ap length pushed ∙ length-append left (reverse more) ∙ ap (λ (n : ℕ). length left + n) (length-reverse more ∙ ap length made-lengths ∙ length-map made length) in
        let later : length left ≡ length next.later = ap length next.left_is ∙ length-reverse (map length next.later) ∙ length-map next.later length in
        omega (arith, two, few, fewer, counted, later, made-long, one-less, rest-long, length-append next.here (joined next.later), splits.long, splits.within)
