-- Lemmas on entries that are deleted or written anew.
use Rattle.std.proofs.Common.{◌≡◌, ℕ, zero, suc, ◌+◌, ◌<◌, ◌≤◌, Bool, true, false, cond, List, [], ◌∷◌, ◌++◌, length, take, get_or, Option, Some, None, refl, sym, ap, ◌∙◌, subst, arith}
use Rattle.std.specs.Int.{from_bool}
use Rattle.std.specs.Prelude.{map, not, IsTrue}
use Rattle.std.specs.List.{AllByRecursion}
use Rattle.std.proofs.lemmas.List.{map_more, length-map}
use Rattle.std.proofs.lemmas.List.Elements.{filter_more, filter_agree}
use Rattle.std.proofs.lemmas.List.Filters.{length-filter_more}
use Rattle.schema_types.specs.declared.Column.{Column}
use Rattle.schema_types.specs.declared.Lit.{Lit}
use Rattle.table_schema.specs.Columns.{IsSchema}
use Rattle.table_schema.specs.Rows.{FitsSchema}
use Rattle.table_schema.specs.declared.cells.Cell.{Cell}
use Rattle.paql_ast.specs.declared.conditions.Pred.{Pred}
use Rattle.bound_query.specs.Fits.{fits, is_bound, fitting_parts, bound_parts}
use Rattle.bound_query.specs.Rows.{true_on, truth}
use Rattle.bound_query.specs.declared.conditions.RowPred.{RowPred}
use Rattle.bound_query.specs.declared.conditions.RowPred.TheVariants as preds
use Rattle.bound_query.specs.declared.conditions.RowPred.TheOpen.{RowPred-F}
use Rattle.bound_query.specs.declared.conditions.RowPred.TheFolds.{fold-roll-RowPred}
use Rattle.paql_bind.specs.Conditions.{bound_filter, bound_pred, pred_faults}
use Rattle.paql_bind.specs.Names.{scope}
use Rattle.paql_bind.proofs.SoundRows.{condition_fits}
use Rattle.paql_bind.proofs.SoundConditions.{kept}
use Rattle.paql_bind.proofs.SoundSums.{small_scales}
use Rattle.snapshots.specs.Entries.{Entry, entry_rows, entry_versions}
use Rattle.snapshots.specs.declared.tables.Table.{Table}
use Rattle.version_store.specs.Changes.{is_met, updated, put_all, with_entries, count_met}
use Rattle.version_store.specs.Performing.{RowsFit, CanBeAsked, meets, met, left, anew, all_anew, deleted, rewritten}

abbrev pub entry_of : ℕ × List Cell → ℕ → Entry
entry_of row born = record { id = row.0; row = row.1; born = born }

-- the entry whose row and version the code has read
pub entry_at : (entries : List Entry) (place : ℕ) (row : ℕ × List Cell) (born e : ℕ) (d : Entry) → place < length entries → row ≡ get_or (entry_rows entries) place row → born ≡ get_or (entry_versions entries) place e → get_or entries place d ≡ entry_of row born
entry_at [] place row born e d within is was = absurd (omega (arith, within))
entry_at (entry ∷ entries) zero row born e d within is was =
    sym (ap (λ (some : ℕ × List Cell). entry_of some born) is ∙ ap (λ (some : ℕ). entry_of (entry.id, entry.row) some) was)
entry_at (entry ∷ entries) (suc place) row born e d within is was =
    entry_at entries place row born e d (omega (arith, within)) is was

all_get : {A : Type 0} (P : A → Type 0) (xs : List A) (place : ℕ) (d : A) → place < length xs → AllByRecursion P xs → P (get_or xs place d)
all_get P [] place d within all = absurd (omega (arith, within))
all_get P (x ∷ xs) zero d within all = all.0
all_get P (x ∷ xs) (suc place) d within all = all_get P xs place d (omega (arith, within)) all.1

row_at : (entries : List Entry) (place : ℕ) (row : ℕ × List Cell) (d : Entry) → place < length entries → row ≡ get_or (entry_rows entries) place row → (get_or entries place d).row ≡ row.1
row_at [] place row d within is = absurd (omega (arith, within))
row_at (entry ∷ entries) zero row d within is = sym (ap (λ (some : ℕ × List Cell). some.1) is)
row_at (entry ∷ entries) (suc place) row d within is = row_at entries place row d (omega (arith, within)) is

pub row_fits_at : (table : Table) (place : ℕ) (row : ℕ × List Cell) → RowsFit table → place < length table.entries → row ≡ get_or (entry_rows table.entries) place row → FitsSchema table.columns row.1
row_fits_at table place row fit within is =
    let d : Entry = entry_of row 0 in
    subst (FitsSchema table.columns) (row_at table.entries place row d within is)
    (all_get (λ (entry : Entry). FitsSchema table.columns entry.row) table.entries place d within fit)

-- ---- one entry more

pub left_more : (pred : RowPred) (entries : List Entry) (place : ℕ) (row : ℕ × List Cell) (born e : ℕ) → place < length entries → row ≡ get_or (entry_rows entries) place row → born ≡ get_or (entry_versions entries) place e → left pred (take (place + 1) entries) ≡ left pred (take place entries) ++ cond (true_on pred row.1) [] (entry_of row born ∷ [])
left_more pred entries place row born e within is was =
    let d : Entry = entry_of row born in
    let here = entry_at entries place row born e d within is was in
    filter_more (λ (entry : Entry). not (meets pred entry)) entries place d within
    ∙ ap (λ (entry : Entry). left pred (take place entries) ++ cond (not (meets pred entry)) (entry ∷ []) []) here
    ∙ ap (λ (some : List Entry). left pred (take place entries) ++ some) (turned (true_on pred row.1))
  where
    turned : (b : Bool) → cond (not b) (entry_of row born ∷ []) [] ≡ cond b [] (entry_of row born ∷ [])
    turned true = refl
    turned false = refl

pub met_more : (pred : RowPred) (entries : List Entry) (place : ℕ) (row : ℕ × List Cell) → place < length entries → row ≡ get_or (entry_rows entries) place row → length (met pred (take (place + 1) entries)) ≡ length (met pred (take place entries)) + cond (true_on pred row.1) 1 0
met_more pred entries place row within is =
    let d : Entry = entry_of row 0 in
    length-filter_more (meets pred) entries place d within
    ∙ ap (λ (cells : List Cell). length (met pred (take place entries)) + cond (true_on pred cells) 1 0) (row_at entries place row d within is)

pub anew_more : (columns : List Column) (version : ℕ) (sets : List (List ℕ × Lit)) (pred : RowPred) (entries : List Entry) (place : ℕ) (row : ℕ × List Cell) (born e : ℕ) → place < length entries → row ≡ get_or (entry_rows entries) place row → born ≡ get_or (entry_versions entries) place e → all_anew columns version sets pred (take (place + 1) entries) ≡ all_anew columns version sets pred (take place entries) ++ anew columns version sets (true_on pred row.1) (entry_of row born) ∷ []
anew_more columns version sets pred entries place row born e within is was =
    let d : Entry = entry_of row born in
    map_more (λ (entry : Entry). anew columns version sets (meets pred entry) entry) entries place d within
    ∙ ap (λ (entry : Entry). all_anew columns version sets pred (take place entries) ++ anew columns version sets (meets pred entry) entry ∷ []) (entry_at entries place row born e d within is was)

-- ---- conditions

true_on_all : (row : List Cell) → true_on preds.All row ≡ true
true_on_all row = ap (λ (pred : RowPred). true_on pred row) (sym preds.rolls-All) ∙ fold-roll-RowPred Bool (truth row) RowPred-F.All

pub met_is : (table : Table) (written : Option Pred) (bound : RowPred) → bound ≡ bound_filter (scope table.columns table.name) written → (entry : Entry) → meets bound entry ≡ is_met table written entry
met_is table None bound is entry = ap (λ (pred : RowPred). true_on pred entry.row) is ∙ true_on_all entry.row
met_is table (Some pred) bound is entry = ap (λ (pred : RowPred). true_on pred entry.row) is

pub deleted_is : (table : Table) (written : Option Pred) (bound : RowPred) → bound ≡ bound_filter (scope table.columns table.name) written → with_entries table (left bound table.entries) ≡ deleted table written
deleted_is table written bound is =
    ap (with_entries table) (filter_agree (λ (entry : Entry). not (meets bound entry)) (λ (entry : Entry). not (is_met table written entry)) (λ (entry : Entry). ap not (met_is table written bound is entry)) table.entries)

pub count_is : (table : Table) (written : Option Pred) (bound : RowPred) → bound ≡ bound_filter (scope table.columns table.name) written → length (met bound table.entries) ≡ count_met written (Some table)
count_is table written bound is = ap length (filter_agree (meets bound) (is_met table written) (met_is table written bound is) table.entries)

map_agree : (f g : Entry → Entry) → ((entry : Entry) → f entry ≡ g entry) → (entries : List Entry) → map f entries ≡ map g entries
map_agree f g same [] = refl
map_agree f g same (entry ∷ entries) = ap (λ (some : Entry). some ∷ map f entries) (same entry) ∙ ap (λ (some : List Entry). g entry ∷ some) (map_agree f g same entries)

pub rewritten_is : (table : Table) (version : ℕ) (sets : List (List ℕ × Lit)) (written : Option Pred) (bound : RowPred) → bound ≡ bound_filter (scope table.columns table.name) written → with_entries table (all_anew table.columns version sets bound table.entries) ≡ rewritten table version sets written
rewritten_is table version sets written bound is =
    ap (with_entries table) (map_agree (λ (entry : Entry). anew table.columns version sets (meets bound entry) entry) (updated table version sets written)
    (λ (entry : Entry). ap (λ (b : Bool). anew table.columns version sets b entry) (met_is table written bound is entry)) table.entries)

pub all_asked : (columns : List Column) → CanBeAsked columns preds.All
all_asked columns = record {
  fits = λ row fit. ap (fits row) (sym preds.rolls-All) ∙ fold-roll-RowPred Bool (fitting_parts row) RowPred-F.All;
  bound = ap is_bound (sym preds.rolls-All) ∙ fold-roll-RowPred Bool bound_parts RowPred-F.All;
}

pub pred_asked : (columns : List Column) (name : List ℕ) (pred : Pred) (bound : RowPred) → IsSchema columns → pred_faults (scope columns name) pred ≡ [] → bound ≡ bound_pred (scope columns name) pred → CanBeAsked columns bound
pred_asked columns name pred bound schema none is = record {
  fits = λ row fit. ap (fits row) is ∙ condition_fits (scope columns name) row fit pred none;
  bound = ap is_bound is ∙ kept (scope columns name) (small_scales (scope columns name) schema.scales) pred none;
}

-- ---- the loops

pub row_asked : (table : Table) (pred : RowPred) (rows : List (ℕ × List Cell)) (place : ℕ) (row : ℕ × List Cell) (cells : List Cell) → RowsFit table → CanBeAsked table.columns pred → rows ≡ entry_rows table.entries → place < length rows → row ≡ get_or rows place row → cells ≡ row.1 → IsTrue (fits cells pred)
row_asked table pred rows place row cells fit asked are within is same =
    let count : length rows ≡ length table.entries = ap length are ∙ length-map table.entries _ in
    let at : row ≡ get_or (entry_rows table.entries) place row = is ∙ ap (λ (some : List (ℕ × List Cell)). get_or some place row) are in
    let given : IsTrue (fits row.1 pred) = asked.fits row.1 (row_fits_at table place row fit (omega (arith, within, count)) at) in
    subst (λ (some : List Cell). IsTrue (fits some pred)) (sym same) given

pub record IsLeaving (table : Table) (pred : RowPred) (now : List Entry) (gone place : ℕ) : Type 0 where
  pub entries : now ≡ left pred (take place table.entries)
  pub count : gone ≡ length (met pred (take place table.entries))
  pub few : gone ≤ place

one_or_none : (b : Bool) → from_bool b ≡ cond b 1 0
one_or_none true = refl
one_or_none false = refl

at_most_one : (b : Bool) → cond b 1 0 ≤ 1
at_most_one true = omega arith
at_most_one false = omega arith

pub leaving_more : (table : Table) (pred : RowPred) (rows : List (ℕ × List Cell)) (versions : List ℕ) (now new : List Entry) (gone more place : ℕ) (row : ℕ × List Cell) (cells : List Cell) (goes : Bool) (born e : ℕ) → IsLeaving table pred now gone place → rows ≡ entry_rows table.entries → versions ≡ entry_versions table.entries → place < length rows → row ≡ get_or rows place row → born ≡ get_or versions place e → cells ≡ row.1 → goes ≡ true_on pred cells → new ≡ now ++ cond goes [] (entry_of row born ∷ []) → more ≡ from_bool goes → IsLeaving table pred new (gone + more) (place + 1)
leaving_more table pred rows versions now new gone more place row cells goes born e so are were within is was same test made more_is =
    let count : length rows ≡ length table.entries = ap length are ∙ length-map table.entries _ in
    let inside : place < length table.entries = omega (arith, within, count) in
    let at : row ≡ get_or (entry_rows table.entries) place row = is ∙ ap (λ (some : List (ℕ × List Cell)). get_or some place row) are in
    let written : born ≡ get_or (entry_versions table.entries) place e = was ∙ ap (λ (some : List ℕ). get_or some place e) were in
    let meets_it : goes ≡ true_on pred row.1 = test ∙ ap (true_on pred) same in
    let one : more ≡ cond (true_on pred row.1) 1 0 = more_is ∙ one_or_none goes ∙ ap (λ (b : Bool). cond b 1 0) meets_it in
    record {
      entries = made ∙ ap (λ (some : List Entry). some ++ cond goes [] (entry_of row born ∷ [])) so.entries
          ∙ ap (λ (b : Bool). left pred (take place table.entries) ++ cond b [] (entry_of row born ∷ [])) meets_it
          ∙ sym (left_more pred table.entries place row born e inside at written);
      count = omega (arith, so.count, one, met_more pred table.entries place row inside at);
      few = omega (arith, so.few, one, at_most_one (true_on pred row.1));
    }

pub record IsWriting (version : ℕ) (table : Table) (sets : List (List ℕ × Lit)) (pred : RowPred) (now : List Entry) (written place : ℕ) : Type 0 where
  pub entries : now ≡ all_anew table.columns version sets pred (take place table.entries)
  pub count : written ≡ length (met pred (take place table.entries))
  pub few : written ≤ place

-- an entry in parts, as the code makes it
made_anew : (columns : List Column) (version : ℕ) (sets : List (List ℕ × Lit)) (b : Bool) (row : ℕ × List Cell) (born : ℕ) → entry_of (row.0, cond b (put_all columns sets row.1) row.1) (cond b version born) ≡ anew columns version sets b (entry_of row born)
made_anew columns version sets true row born = refl
made_anew columns version sets false row born = refl

pub writing_more : (version : ℕ) (table : Table) (sets : List (List ℕ × Lit)) (pred : RowPred) (rows : List (ℕ × List Cell)) (versions : List ℕ) (now new : List Entry) (written more place : ℕ) (row : ℕ × List Cell) (cells made_cells : List Cell) (meets_it : Bool) (born made_born e : ℕ) → IsWriting version table sets pred now written place → rows ≡ entry_rows table.entries → versions ≡ entry_versions table.entries → place < length rows → row ≡ get_or rows place row → born ≡ get_or versions place e → cells ≡ row.1 → meets_it ≡ true_on pred cells → made_cells ≡ cond meets_it (put_all table.columns sets row.1) row.1 → made_born ≡ cond meets_it version born → new ≡ now ++ record { id = row.0; row = made_cells; born = made_born } ∷ [] → more ≡ from_bool meets_it → IsWriting version table sets pred new (written + more) (place + 1)
writing_more version table sets pred rows versions now new written more place row cells made_cells meets_it born made_born e so are were within is was same test cells_are born_is made more_is =
    let count : length rows ≡ length table.entries = ap length are ∙ length-map table.entries _ in
    let inside : place < length table.entries = omega (arith, within, count) in
    let at : row ≡ get_or (entry_rows table.entries) place row = is ∙ ap (λ (some : List (ℕ × List Cell)). get_or some place row) are in
    let was_here : born ≡ get_or (entry_versions table.entries) place e = was ∙ ap (λ (some : List ℕ). get_or some place e) were in
    let test_is : meets_it ≡ true_on pred row.1 = test ∙ ap (true_on pred) same in
    let one : more ≡ cond (true_on pred row.1) 1 0 = more_is ∙ one_or_none meets_it ∙ ap (λ (b : Bool). cond b 1 0) test_is in
    let entry : entry_of (row.0, made_cells) made_born ≡ anew table.columns version sets (true_on pred row.1) (entry_of row born) =
    ap (λ (some : List Cell). entry_of (row.0, some) made_born) cells_are
    ∙ ap (λ (n : ℕ). entry_of (row.0, cond meets_it (put_all table.columns sets row.1) row.1) n) born_is
    ∙ made_anew table.columns version sets meets_it row born
    ∙ ap (λ (b : Bool). anew table.columns version sets b (entry_of row born)) test_is in
    record {
      entries = made ∙ ap (λ (some : List Entry). some ++ entry_of (row.0, made_cells) made_born ∷ []) so.entries
          ∙ ap (λ (some : Entry). all_anew table.columns version sets pred (take place table.entries) ++ some ∷ []) entry
          ∙ sym (anew_more table.columns version sets pred table.entries place row born e inside at was_here);
      count = omega (arith, so.count, one, met_more pred table.entries place row inside at);
      few = omega (arith, so.few, one, at_most_one (true_on pred row.1));
    }
