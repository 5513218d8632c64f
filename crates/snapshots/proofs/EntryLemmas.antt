-- Lemmas on entries, made of rows and versions.
use Rattle.std.proofs.Common.{◌≡◌, ℕ, suc, List, [], ◌∷◌, ◌++◌, length, refl, sym, ap, ◌∙◌, arith}
use Rattle.table_schema.specs.declared.cells.Cell.{Cell}
use Rattle.snapshots.specs.Entries.{Entry, entry_rows, entry_versions, entries_of}

pub rows_back : (rows : List (ℕ × List Cell)) (versions : List ℕ) → length versions ≡ length rows → entry_rows (entries_of rows versions) ≡ rows
rows_back [] versions same = refl
rows_back (row ∷ rows) [] same = absurd (omega (arith, same))
rows_back (row ∷ rows) (version ∷ versions) same =
    let rest : length versions ≡ length rows = omega (arith, same) in
    ap (λ (some : List (ℕ × List Cell)). row ∷ some) (rows_back rows versions rest)

pub versions_back : (rows : List (ℕ × List Cell)) (versions : List ℕ) → length versions ≡ length rows → entry_versions (entries_of rows versions) ≡ versions
versions_back [] [] same = refl
versions_back [] (version ∷ versions) same = absurd (omega (arith, same))
versions_back (row ∷ rows) [] same = absurd (omega (arith, same))
versions_back (row ∷ rows) (version ∷ versions) same =
    let rest : length versions ≡ length rows = omega (arith, same) in
    ap (λ (some : List ℕ). version ∷ some) (versions_back rows versions rest)

pub entries_length : (rows : List (ℕ × List Cell)) (versions : List ℕ) → length versions ≡ length rows → length (entries_of rows versions) ≡ length rows
entries_length [] versions same = refl
entries_length (row ∷ rows) [] same = absurd (omega (arith, same))
entries_length (row ∷ rows) (version ∷ versions) same =
    let rest : length versions ≡ length rows = omega (arith, same) in
    ap suc (entries_length rows versions rest)

abbrev pub an_entry : ℕ → List Cell → ℕ → Entry
an_entry id row born = record { id = id; row = row; born = born }

pub entries_more : (rows : List (ℕ × List Cell)) (versions : List ℕ) (id : ℕ) (row : List Cell) (born : ℕ) → length versions ≡ length rows → entries_of (rows ++ (id, row) ∷ []) (versions ++ born ∷ []) ≡ entries_of rows versions ++ an_entry id row born ∷ []
entries_more [] [] id row born same = refl
entries_more [] (version ∷ versions) id row born same = absurd (omega (arith, same))
entries_more (first ∷ rows) [] id row born same = absurd (omega (arith, same))
entries_more (first ∷ rows) (version ∷ versions) id row born same =
    let rest : length versions ≡ length rows = omega (arith, same) in
    ap (λ (some : List Entry). an_entry first.0 first.1 version ∷ some) (entries_more rows versions id row born rest)

-- ---- as the code has it

pub count_shown : (rows : List (ℕ × List Cell)) (versions : List ℕ) (value : List Entry) (result : ℕ) → length versions ≡ length rows → entries_of rows versions ≡ value → result ≡ length rows → result ≡ length value
count_shown rows versions value result same view is = is ∙ sym (entries_length rows versions same) ∙ ap length view

pub rows_shown : (rows : List (ℕ × List Cell)) (versions : List ℕ) (value : List Entry) (result : List (ℕ × List Cell)) → length versions ≡ length rows → entries_of rows versions ≡ value → result ≡ rows → result ≡ entry_rows value
rows_shown rows versions value result same view is = is ∙ sym (rows_back rows versions same) ∙ ap entry_rows view

pub versions_shown : (rows : List (ℕ × List Cell)) (versions : List ℕ) (value : List Entry) (result : List ℕ) → length versions ≡ length rows → entries_of rows versions ≡ value → result ≡ versions → result ≡ entry_versions value
versions_shown rows versions value result same view is = is ∙ sym (versions_back rows versions same) ∙ ap entry_versions view

pub pushed : (rows room more : List (ℕ × List Cell)) (versions space later : List ℕ) (value : List Entry) (id : ℕ) (row : List Cell) (born : ℕ) → length versions ≡ length rows → entries_of rows versions ≡ value → room ≡ rows → space ≡ versions → more ≡ room ++ (id, row) ∷ [] → later ≡ space ++ born ∷ [] → entries_of more later ≡ value ++ an_entry id row born ∷ []
pushed rows room more versions space later value id row born same view room_is space_is more_is later_is =
    ap (λ (some : List (ℕ × List Cell)). entries_of some later) (more_is ∙ ap (λ (some : List (ℕ × List Cell)). some ++ (id, row) ∷ []) room_is)
    ∙ ap (λ (some : List ℕ). entries_of (rows ++ (id, row) ∷ []) some) (later_is ∙ ap (λ (some : List ℕ). some ++ born ∷ []) space_is)
    ∙ entries_more rows versions id row born same
    ∙ ap (λ (some : List Entry). some ++ an_entry id row born ∷ []) view
