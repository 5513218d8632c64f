-- Lemmas on the rows of a body, record by record.
use Rattle.std.proofs.Common.{◌≡◌, ℕ, ◌+◌, ◌⊎◌, inl, inr, List, [], ◌∷◌, ◌++◌, length, Some, Result, Ok, Err, refl, sym, subst, ◌∙◌, append-nil, length-append, arith}
use Rattle.schema_types.specs.declared.Column.{Column}
use Rattle.schema_types.specs.declared.Lit.{Lit}
use Rattle.csv_load.specs.Fields.{with_first}
use Rattle.csv_load.specs.Loading.{GivesLoaded, IsLoaded, OrMemory, RecordGives, RecordsGive, TableGives, names_of}
use Rattle.csv_load.specs.Loading.RecordGives.{bad_record}
use Rattle.csv_load.specs.Loading.RecordsGive.{no_more_records, refused_record, before_records}
use Rattle.csv_load.specs.Loading.TableGives.{bad_header}
use Rattle.csv_load.specs.Between.{GivesFirst, IsBetween, IsTorn, Takes}
use Rattle.csv_load.specs.declared.records.Next.{Next}
use Rattle.csv_load.specs.declared.records.Next.TheVariants.{End, Bad}
use Rattle.csv_load.specs.declared.loading.Loaded.{Loaded}
use Rattle.csv_load.specs.declared.loading.Loaded.TheVariants.{Rows}
use Rattle.csv_load.specs.declared.loading.LoadFault.{LoadFault}
use Rattle.csv_load.specs.declared.loading.LoadFault.TheVariants.{BadRecord, BadCell, Header, LimitBytes, Memory}
use Rattle.csv_load.proofs.BetweenLemmas.{Body}
use Rattle.csv_load.proofs.FieldLemmas.{after, after-with_first}

-- what holds of each answer that is due holds of each, memory aside
pub or_each : {A : Type 0} (P Q : Result A LoadFault → Type 0) (result : Result A LoadFault) → ((r : Result A LoadFault) → P r → Q r) → OrMemory P result → OrMemory Q result
or_each P Q (Ok rows) each given = each (Ok rows) given
or_each P Q (Err (Memory error)) each given = tt
or_each P Q (Err LimitBytes) each given = each (Err LimitBytes) given
or_each P Q (Err Header) each given = each (Err Header) given
or_each P Q (Err (BadRecord number)) each given = each (Err (BadRecord number)) given
or_each P Q (Err (BadCell number place)) each given = each (Err (BadCell number place)) given

-- a refusal of one thing is that of another, memory aside
pub or_refused : {A B : Type 0} (P : Result A LoadFault → Type 0) (Q : Result B LoadFault → Type 0) (fault : LoadFault) → ((f : LoadFault) → P (Err f) → Q (Err f)) → OrMemory P (Err fault) → OrMemory Q (Err fault)
or_refused P Q (Memory error) each given = tt
or_refused P Q LimitBytes each given = each LimitBytes given
or_refused P Q Header each given = each Header given
or_refused P Q (BadRecord number) each given = each (BadRecord number) given
or_refused P Q (BadCell number place) each given = each (BadCell number place) given

loaded_each : (most : ℕ) (P Q : Result (List (List Lit)) LoadFault → Type 0) → ((r : Result (List (List Lit)) LoadFault) → P r → Q r) → (result : Result Loaded LoadFault) → GivesLoaded most P result → GivesLoaded most Q result
loaded_each most P Q each (Ok loaded) given = (given.0, each (Ok given.0) given.1, given.2)
loaded_each most P Q each (Err fault) given = each (Err fault) given

-- what is given by each answer that is due is loaded, memory aside
pub load_each : (most : ℕ) (P Q : Result (List (List Lit)) LoadFault → Type 0) (result : Result Loaded LoadFault) → ((r : Result (List (List Lit)) LoadFault) → P r → Q r) → OrMemory (GivesLoaded most P) result → OrMemory (GivesLoaded most Q) result
load_each most P Q result each given = or_each (GivesLoaded most P) (GivesLoaded most Q) result (loaded_each most P Q each) given

-- what the records that are left give decides what all of them give
pub record Goes (columns : List Column) (rest : List (List (List ℕ))) (reader : Body) (done : List (List Lit)) (number : ℕ) : Type 0 where
  pub later : List (List (List ℕ))
  pub between : IsBetween reader (Some (length columns)) later
  pub decides : (result : Result (List (List Lit)) LoadFault) → RecordsGive columns number later result → RecordsGive columns 1 rest (after done result)

pub goes_from_start : (columns : List Column) (rest : List (List (List ℕ))) (reader : Body) → IsBetween reader (Some (length columns)) rest → Goes columns rest reader [] 1
goes_from_start columns rest reader b = record { later = rest; between = b; decides = same }
  where
    same : (result : Result (List (List Lit)) LoadFault) → RecordsGive columns 1 rest result → RecordsGive columns 1 rest (after [] result)
    same (Ok rows) gives = gives
    same (Err fault) gives = gives

-- one more row
pub one_more_row : (columns : List Column) (rest : List (List (List ℕ))) (old new : Body) (done : List (List Lit)) (number : ℕ) (fields : List (List ℕ)) (row : List Lit) (go : Goes columns rest old done number) → Takes (length columns) go.later fields new → RecordGives columns number fields (Ok row) → Goes columns rest new (done ++ row ∷ []) (number + 1)
one_more_row columns rest old new done number fields row go takes gives = record {
  later = takes.later;
  between = takes.between;
  decides = λ result more. subst (RecordsGive columns 1 rest) (after-with_first done row result) (go.decides (with_first row result) (rw takes.next (before_records number fields takes.later row result gives more)));
}

-- a record that is refused
pub row_refused : (columns : List Column) (rest : List (List (List ℕ))) (old new : Body) (done : List (List Lit)) (number : ℕ) (fields : List (List ℕ)) (fault : LoadFault) (go : Goes columns rest old done number) → Takes (length columns) go.later fields new → RecordGives columns number fields (Err fault) → RecordsGive columns 1 rest (Err fault)
row_refused columns rest old new done number fields fault go takes gives =
    go.decides (Err fault) (rw takes.next (refused_record number fields takes.later fault gives))

pub record_torn : (columns : List Column) (rest : List (List (List ℕ))) (old : Body) (done : List (List Lit)) (number : ℕ) (go : Goes columns rest old done number) → IsTorn (length columns) go.later → RecordsGive columns 1 rest (Err (BadRecord number))
record_torn columns rest old done number go torn =
    go.decides (Err (BadRecord number)) (rw torn.next (refused_record number torn.fields torn.later (BadRecord number) (bad_record torn.torn)))

pub all_rows : (columns : List Column) (rest : List (List (List ℕ))) (old : Body) (done : List (List Lit)) (number : ℕ) (go : Goes columns rest old done number) → go.later ≡ [] → RecordsGive columns 1 rest (Ok done)
all_rows columns rest old done number go none =
    subst (λ (rows : List (List Lit)). RecordsGive columns 1 rest (Ok rows)) (append-nil done) (go.decides (Ok []) (rw none (no_more_records number)))

-- ---- what is kept of the rows

-- the rows of the records before this number, of which this is loaded
pub record Loads (columns : List Column) (rest : List (List (List ℕ))) (reader : Body) (most : ℕ) (loaded : Loaded) (number : ℕ) : Type 0 where
  pub done : List (List Lit)
  pub goes : Goes columns rest reader done number
  pub keeps : IsLoaded most done loaded
  pub count : length done + 1 ≡ number

pub nothing_loaded : (columns : List Column) (rest : List (List (List ℕ))) (reader : Body) (most : ℕ) → IsBetween reader (Some (length columns)) rest → Loads columns rest reader most (Rows []) 1
nothing_loaded columns rest reader most b = record { done = []; goes = goes_from_start columns rest reader b; keeps = (omega arith, refl); count = refl }

pub one_more_loaded : (columns : List Column) (rest : List (List (List ℕ))) (old new : Body) (most : ℕ) (loaded more : Loaded) (number : ℕ) (fields : List (List ℕ)) (row : List Lit) (l : Loads columns rest old most loaded number)
    → Takes (length columns) l.goes.later fields new → RecordGives columns number fields (Ok row) → IsLoaded most (l.done ++ row ∷ []) more → Loads columns rest new most more (number + 1)
one_more_loaded columns rest old new most loaded more number fields row l takes gives keeps = record {
  done = l.done ++ row ∷ [];
  goes = one_more_row columns rest old new l.done number fields row l.goes takes gives;
  keeps = keeps;
  count = omega (arith, length-append l.done (row ∷ []), l.count);
}

pub all_loaded : (columns : List Column) (rest : List (List (List ℕ))) (old : Body) (most : ℕ) (loaded : Loaded) (number : ℕ) (l : Loads columns rest old most loaded number) → l.goes.later ≡ [] → GivesLoaded most (RecordsGive columns 1 rest) (Ok loaded)
all_loaded columns rest old most loaded number l none = (l.done, all_rows columns rest old l.done number l.goes none, l.keeps)

-- ---- the header

pub no_header : (columns : List Column) (all : List (List (List ℕ))) → all ≡ [] → TableGives columns all (Err Header)
no_header columns all none = bad_header (λ rest e. let clash = sym none ∙ e in absurd (cc))

pub other_header : (columns : List Column) (all later : List (List (List ℕ))) (fields : List (List ℕ)) → all ≡ fields ∷ later → ¬ (fields ≡ names_of columns) → TableGives columns all (Err Header)
other_header columns all later fields first apart = bad_header (λ rest e. let both = sym first ∙ e in apart (cc))

-- no first record was read
pub no_first : (all : List (List (List ℕ))) (fields : List (List ℕ)) (reader : Body) (next : Next) → (next ≡ End) ⊎ (next ≡ Bad) → GivesFirst all fields reader next → all ≡ []
no_first all fields reader next (inl e) gives = rw e at gives
no_first all fields reader next (inr e) gives = absurd (rw e at gives)
