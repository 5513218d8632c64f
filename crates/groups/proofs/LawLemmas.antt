-- The laws of groups and of caches.
use Rattle.std.proofs.Common.{◌≡◌, ◌⊎◌, inl, inr, ℕ, ◌≤◌, List, [], ◌∷◌, ◌++◌, length, map, All, ℤ, pos, negsuc, ◌*ℤ◌, ◌≤ℤ◌, ◌^◌, Some, None, Result, Ok, Err, refl, sym, ap, subst, ◌∙◌, arith}
use Rattle.std.specs.Int.{int_div_euclid}
use Rattle.std.specs.List.{AllByRecursion, AllZip}
use Rattle.std.specs.List.Sorted.{IsPermutation}
use Rattle.std.proofs.lemmas.Int.{ints}
use Rattle.std.proofs.lemmas.List.{map-append}
use Rattle.std.proofs.lemmas.List.Elements.{All-nil, All-cons}
use Rattle.std.proofs.lemmas.List.Sorted.{IsPermutation-map}
use Rattle.pq_base.specs.declared.scaled.Scaled.{Scaled}
use Rattle.schema_types.specs.declared.Column.{Column}
use Rattle.table_schema.specs.declared.cells.Cell.{Cell}
use Rattle.table_schema.specs.Columns.{scale_of}
use Rattle.quadtree.specs.Points.{Point}
use Rattle.quadtree.specs.Groups.{ids}
use Rattle.quadtree.specs.Places.{joined}
use Rattle.quadtree.specs.Laws.{IsGroupOf}
use Rattle.quadtree.specs.declared.group.Group.{Group}
use Rattle.quadtree.proofs.Grouped.{points-grouped}
use Rattle.snapshots.specs.States.{rows_of}
use Rattle.snapshots.specs.declared.snapshot.Snapshot.{Snapshot}
use Rattle.groups.specs.Points.{kind_at, point_of, radius_at}
use Rattle.groups.specs.Groups.{groups_by, groups_named, points, radii}
use Rattle.groups.specs.Kept.{Kept}
use Rattle.groups.specs.Caches.{IsCacheOf, IsRight, KeepsAfter, kept_of}
use Rattle.groups.specs.Laws.{Answers, AreAnswered, CachesStayRight, Ensures, Follow, Get, GetsFromScratch, IsAsked, IsLonger, TablesAreGrouped, members_of}
use Rattle.groups.specs.declared.fault.GroupFault.{GroupFault}
use Rattle.groups.specs.declared.limits.TheConstants.{MAX_KEPT}
use Rattle.groups.proofs.KeptLemmas.{few_after}

-- ---- tables

radius_positive : (radius : Scaled) (columns : List Column) (place : ℕ) → pos 0 ≤ℤ radius.mant → pos 0 ≤ℤ radius_at columns radius place
radius_positive radius columns place h = by radius.mant h
  where
    by : (mant : ℤ) → pos 0 ≤ℤ mant → pos 0 ≤ℤ int_div_euclid (mant *ℤ pos (10 ^ scale_of (kind_at columns place))) (pos (10 ^ radius.scale))
    by (pos n) h = omega (arith, ints)
    by (negsuc n) h = absurd (omega (arith, ints, h))

radii_positive : (radius : Scaled) (columns : List Column) (places : List ℕ) → pos 0 ≤ℤ radius.mant → All (λ (r : ℤ). pos 0 ≤ℤ r) (map (radius_at columns radius) places)
radii_positive radius columns [] h = All-nil (λ (r : ℤ). pos 0 ≤ℤ r)
radii_positive radius columns (place ∷ places) h =
    All-cons (λ (r : ℤ). pos 0 ≤ℤ r) (radius_at columns radius place) (map (radius_at columns radius) places) (radius_positive radius columns place h) (radii_positive radius columns places h)

ids_are : (columns : List ℕ) (rows : List (ℕ × List Cell)) → ids (map (point_of columns) rows) ≡ map (λ (row : ℕ × List Cell). row.0) rows
ids_are columns [] = refl
ids_are columns (row ∷ rows) = ap (λ (some : List ℕ). row.0 ∷ some) (ids_are columns rows)

members_are : (size : ℕ) (radius : List ℤ) (groups : List Group) (lists : List (List Point)) → AllZip (IsGroupOf size radius) groups lists → members_of groups ≡ ids (joined lists)
members_are size radius [] [] each = refl
members_are size radius [] (list ∷ lists) each = absurd each
members_are size radius (group ∷ groups) [] each = absurd each
members_are size radius (group ∷ groups) (list ∷ lists) each =
    ap (λ (some : List ℕ). some ++ members_of groups) each.0.members
    ∙ ap (λ (some : List ℕ). ids list ++ some) (members_are size radius groups lists each.1)
    ∙ sym (map-append (λ (point : Point). point.0) list (joined lists))

pub tables_grouped : TablesAreGrouped
tables_grouped table cut some positive =
    let grouped = points-grouped cut.size (radii table cut) (points table cut) some (radii_positive cut.radius table.columns cut.columns positive) in
    let once : IsPermutation (ids (points table cut)) (ids (joined grouped.lists)) = IsPermutation-map (λ (point : Point). point.0) (points table cut) (joined grouped.lists) grouped.once in
    record {
      groups = grouped;
      members = rw (sym (ids_are cut.columns (rows_of table)), members_are cut.size (radii table cut) (groups_by table cut) grouped.lists grouped.each) once;
    }

-- ---- histories

one_longer : (longer shown : ℕ → Snapshot) (kept : Kept) → IsLonger longer shown → IsRight shown kept → IsRight longer kept
one_longer longer shown kept is right = by (is kept.version)
  where
    by : ((shown kept.version).tables ≡ []) ⊎ (longer kept.version ≡ shown kept.version) → IsRight longer kept
    by (inl none) = let e : None ≡ Some kept.groups = sym (ap (groups_named kept.table) none) ∙ right in cc
    by (inr same) = ap (λ (s : Snapshot). groups_named kept.table s.tables) same ∙ right

pub caches_right : CachesStayRight
caches_right longer shown [] is right = tt
caches_right longer shown (kept ∷ cache) is right = (one_longer longer shown kept is right.0, caches_right longer shown cache is right.1)

-- ---- gets one after another

few_kept : (before : List Kept) (table : List ℕ) (snapshot : Snapshot) (answer : Result (List Group) GroupFault) (after : List Kept) → length before ≤ MAX_KEPT → KeepsAfter before table snapshot answer after → length after ≤ MAX_KEPT
few_kept before table snapshot (Ok groups) after few is = rw is (few_after before (kept_of table snapshot groups) few)
few_kept before table snapshot (Err fault) after few is = rw is few

answered : (shown : ℕ → Snapshot) (before : List Kept) (gets : List Get) (after : List Kept) → IsCacheOf shown before → length before ≤ MAX_KEPT → AllByRecursion (IsAsked shown) gets → Follow before gets after → AreAnswered shown gets after
answered shown before [] after right few asked follow = record { each = tt; right = subst (IsCacheOf shown) (sym follow) right; few = rw follow few }
answered shown before (get ∷ gets) after right few asked follow =
    let ask = asked.0 in
    let kept : Ensures before get follow.0 = follow.1 (record { shown = shown; right = right; current = ask.current }) ask.cut in
    let rest = answered shown follow.0 gets after (kept.right shown right ask.current) (few_kept before get.table get.snapshot get.answer follow.0 few kept.kept) asked.1 follow.2 in
    record {
      each = (subst (λ (s : Snapshot). Answers s.tables get) ask.current kept.same, rest.each);
      right = rest.right;
      few = rest.few;
    }

pub gets_right : GetsFromScratch
gets_right shown gets after asked follow = answered shown [] gets after tt (omega arith) asked follow
