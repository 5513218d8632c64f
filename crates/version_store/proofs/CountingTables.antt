-- Lemmas on the entries of tables, counted table by table.
use Rattle.std.proofs.Common.{◌≡◌, ℕ, ◌+◌, ◌<◌, ◌≤◌, take, get_or, Bool, true, false, cond, List, [], ◌∷◌, ◌++◌, length, length-append, refl, sym, ap, ◌∙◌, arith}
use Rattle.std.specs.Int.{from_bool}
use Rattle.std.specs.Prelude.{flat_map, filter, ◌==◌}
use Rattle.std.proofs.lemmas.List.{length-map}
use Rattle.std.proofs.lemmas.List.Elements.{filter-append}
use Rattle.std.proofs.lemmas.List.Filters.{length-filter_more}
use Rattle.snapshots.specs.Entries.{Entry, entry_versions}
use Rattle.snapshots.specs.declared.tables.Table.{Table}
use Rattle.version_store.specs.Counts.{entries_in, written_in}
use Rattle.version_store.specs.Histories.{Mark, marks_of_table}
use Rattle.version_store.proofs.Marks.{entry_marks}

pub entries_are : (tables : List Table) → entries_in tables ≡ length (flat_map marks_of_table tables)
entries_are [] = refl
entries_are (table ∷ tables) =
    let own : length (marks_of_table table) ≡ length table.entries = length-map table.entries _ in
    omega (arith, own, entries_are tables, length-append (marks_of_table table) (flat_map marks_of_table tables))

own_written : (version : ℕ) (name : List ℕ) (entries : List Entry) → length (filter (λ (born : ℕ). born == version) (entry_versions entries)) ≡ length (filter (λ (mark : Mark). mark.born == version) (entry_marks name entries))
own_written version name [] = refl
own_written version name (entry ∷ entries) = by_test (entry.born == version) (own_written version name entries)
  where
    by_test : (b : Bool) → length (filter (λ (born : ℕ). born == version) (entry_versions entries)) ≡ length (filter (λ (mark : Mark). mark.born == version) (entry_marks name entries)) → length (cond b (entry.born ∷ filter (λ (born : ℕ). born == version) (entry_versions entries)) (filter (λ (born : ℕ). born == version) (entry_versions entries))) ≡ length (cond b (record { table = name; id = entry.id; born = entry.born } ∷ filter (λ (mark : Mark). mark.born == version) (entry_marks name entries)) (filter (λ (mark : Mark). mark.born == version) (entry_marks name entries)))
    by_test true rest = omega (arith, rest)
    by_test false rest = rest

pub written_are : (version : ℕ) (tables : List Table) → written_in version tables ≡ length (filter (λ (mark : Mark). mark.born == version) (flat_map marks_of_table tables))
written_are version [] = refl
written_are version (table ∷ tables) =
    let is_fresh : Mark → Bool = λ mark. mark.born == version in
    let both : length (filter is_fresh (marks_of_table table ++ flat_map marks_of_table tables)) ≡ length (filter is_fresh (marks_of_table table) ++ filter is_fresh (flat_map marks_of_table tables)) =
    ap length (filter-append is_fresh (marks_of_table table) (flat_map marks_of_table tables)) in
    omega (arith, both, own_written version table.name table.entries, written_are version tables, length-append (filter is_fresh (marks_of_table table)) (filter is_fresh (flat_map marks_of_table tables)))

-- ---- the loop

pub record IsCounting (version : ℕ) (versions : List ℕ) (now place : ℕ) : Type 0 where
  pub count : now ≡ length (filter (λ (born : ℕ). born == version) (take place versions))
  pub few : now ≤ place

pub counting_more : (version : ℕ) (versions : List ℕ) (now more place born e : ℕ) → IsCounting version versions now place → place < length versions → born ≡ get_or versions place e → more ≡ from_bool (born == version) → IsCounting version versions (now + more) (place + 1)
counting_more version versions now more place born e so within is one =
    let step = length-filter_more (λ (some : ℕ). some == version) versions place e within in
    let same : cond (get_or versions place e == version) 1 0 ≡ from_bool (born == version) = ap (λ (some : ℕ). cond (some == version) 1 0) (sym is) ∙ one_or_none (born == version) in
    record {
      count = omega (arith, so.count, one, same, step);
      few = omega (arith, so.few, one, at_most_one (born == version));
    }
  where
    one_or_none : (b : Bool) → cond b 1 0 ≡ from_bool b
    one_or_none true = refl
    one_or_none false = refl

    at_most_one : (b : Bool) → from_bool b ≤ 1
    at_most_one true = omega arith
    at_most_one false = omega arith
