-- Lemmas on the marks of entries.
use Rattle.std.proofs.Common.{◌≡◌, ◌≢◌, ℕ, suc, ◌<◌, Bool, true, false, List, [], ◌∷◌, ◌++◌, refl, ap, subst, append_assoc, arith, eq-eqb}
use Rattle.std.specs.Prelude.{map, flat_map, ◌&&◌, ◌||◌}
use Rattle.std.specs.List.{AllByRecursion}
use borrow.Author.Tests.{ne_eqb}
use Rattle.snapshots.specs.Entries.{Entry}
use Rattle.snapshots.specs.States.{State}
use Rattle.snapshots.specs.declared.tables.Table.{Table}
use Rattle.version_store.specs.Legal.{AscendsTo, AreApart}
use Rattle.version_store.specs.Histories.{Mark, is_mark, is_marked, distinct, marks, marks_of_table, last_of}
use Rattle.version_store.proofs.Lists.{names_same, names_differ}

-- ---- marks in lists

or_right : (a b : Bool) → b ≡ true → (a || b) ≡ true
or_right true b e = refl
or_right false b e = e

pub or_wider : (a b c : Bool) → (b ≡ true → c ≡ true) → (a || b) ≡ true → (a || c) ≡ true
or_wider true b c f e = refl
or_wider false b c f e = f e

or_none : (a b c : Bool) → (b ≡ false → c ≡ false) → (a || b) ≡ false → (a || c) ≡ false
or_none true b c f e = e
or_none false b c f e = f e

pub marked_right : (mark : Mark) (xs ys : List Mark) → is_marked mark ys ≡ true → is_marked mark (xs ++ ys) ≡ true
marked_right mark [] ys e = e
marked_right mark (x ∷ xs) ys e = or_right (is_mark mark x) (is_marked mark (xs ++ ys)) (marked_right mark xs ys e)

pub neither : (mark : Mark) (xs ys : List Mark) → is_marked mark xs ≡ false → is_marked mark ys ≡ false → is_marked mark (xs ++ ys) ≡ false
neither mark [] ys e f = f
neither mark (x ∷ xs) ys e f = or_none (is_mark mark x) (is_marked mark xs) (is_marked mark (xs ++ ys)) (λ given. neither mark xs ys given f) e

pub is_mark_self : (mark : Mark) → is_mark mark mark ≡ true
is_mark_self mark = rw (names_same mark.table mark.table refl, eq-eqb mark.id mark.id refl, eq-eqb mark.born mark.born refl) refl

-- ---- lists within lists

-- each mark of the second list is one of the third
abbrev pub Includes : List Mark → List Mark → Type 0
Includes ys zs = (mark : Mark) → is_marked mark ys ≡ true → is_marked mark zs ≡ true

abbrev pub AreWithin : List Mark → List Mark → Type 0
AreWithin xs ys = AllByRecursion (λ (mark : Mark). is_marked mark ys ≡ true) xs

within_after : (before xs : List Mark) → AreWithin xs (before ++ xs)
within_after before [] = tt
within_after before (x ∷ xs) =
    let self : is_marked x (x ∷ xs) ≡ true = rw (is_mark_self x) refl in
    (marked_right x before (x ∷ xs) self, subst (AreWithin xs) (append_assoc before (x ∷ []) xs) (within_after (before ++ x ∷ []) xs))

pub within_self : (xs : List Mark) → AreWithin xs xs
within_self xs = within_after [] xs

-- ---- lists that have each mark once

abbrev pub Fresh : List Mark → Type 0
Fresh [] = Unit {0}
Fresh (mark ∷ marks) = (is_marked mark marks ≡ false) × Fresh marks

pub distinct_fresh : (xs : List Mark) → Fresh xs → distinct xs ≡ xs
distinct_fresh [] fresh = refl
distinct_fresh (x ∷ xs) fresh = rw fresh.0 (ap (λ (rest : List Mark). x ∷ rest) (distinct_fresh xs fresh.1))

fresh_append : (xs ys : List Mark) → Fresh xs → Fresh ys → AllByRecursion (λ (mark : Mark). is_marked mark ys ≡ false) xs → Fresh (xs ++ ys)
fresh_append [] ys one other apart = other
fresh_append (x ∷ xs) ys one other apart = (neither x xs ys one.0 apart.0, fresh_append xs ys one.1 other apart.1)

-- ---- the marks of tables

abbrev pub mark_of : List ℕ → Entry → Mark
mark_of name entry = record { table = name; id = entry.id; born = entry.born }

abbrev pub entry_marks : List ℕ → List Entry → List Mark
entry_marks name entries = map (λ (entry : Entry). record { table = name; id = entry.id; born = entry.born }) entries

abbrev pub HasIds : Table → Type 0
HasIds table = AscendsTo 1 table.entries table.next

not_both : (a b c : Bool) → b ≡ false → (a && (b && c)) ≡ false
not_both true b c e = rw e refl
not_both false b c e = refl

not_either : (a b : Bool) → a ≡ false → b ≡ false → (a || b) ≡ false
not_either a b e f = rw (e, f) refl

ids_apart : (name : List ℕ) (mark : Mark) (low : ℕ) (entries : List Entry) (next : ℕ) → AscendsTo low entries next → mark.id < low → is_marked mark (entry_marks name entries) ≡ false
ids_apart name mark low [] next ids below = refl
ids_apart name mark low (entry ∷ entries) next ids below =
    let apart : mark.id ≢ entry.id = omega (arith, ids.0, below) in
    not_either (is_mark mark (mark_of name entry)) (is_marked mark (entry_marks name entries))
    (not_both _ _ _ (ne_eqb mark.id entry.id apart))
    (ids_apart name mark (suc entry.id) entries next ids.1 (omega (arith, ids.0, below)))

other_table : (mark : Mark) (name : List ℕ) (entries : List Entry) → mark.table ≢ name → is_marked mark (entry_marks name entries) ≡ false
other_table mark name [] apart = refl
other_table mark name (entry ∷ entries) apart = rw (names_differ mark.table name apart) (other_table mark name entries apart)

abbrev pub name_of_table : Table → List ℕ
name_of_table table = table.name

names_apart : (mark : Mark) (tables : List Table) → AllByRecursion (λ (other : List ℕ). mark.table ≢ other) (map name_of_table tables) → is_marked mark (flat_map marks_of_table tables) ≡ false
names_apart mark [] apart = refl
names_apart mark (table ∷ tables) apart = neither mark (marks_of_table table) (flat_map marks_of_table tables) (other_table mark table.name table.entries apart.0) (names_apart mark tables apart.1)

each_apart : (name : List ℕ) (entries : List Entry) (tables : List Table) → AllByRecursion (λ (other : List ℕ). name ≢ other) (map name_of_table tables) → AllByRecursion (λ (mark : Mark). is_marked mark (flat_map marks_of_table tables) ≡ false) (entry_marks name entries)
each_apart name [] tables apart = tt
each_apart name (entry ∷ entries) tables apart = (names_apart (mark_of name entry) tables apart, each_apart name entries tables apart)

fresh_entries : (name : List ℕ) (low : ℕ) (entries : List Entry) (next : ℕ) → AscendsTo low entries next → Fresh (entry_marks name entries)
fresh_entries name low [] next ids = tt
fresh_entries name low (entry ∷ entries) next ids =
    (ids_apart name (mark_of name entry) (suc entry.id) entries next ids.1 (omega arith), fresh_entries name (suc entry.id) entries next ids.1)

pub fresh_tables : (tables : List Table) → AllByRecursion HasIds tables → AreApart (map name_of_table tables) → Fresh (flat_map marks_of_table tables)
fresh_tables [] ids names = tt
fresh_tables (table ∷ tables) ids names =
    fresh_append (marks_of_table table) (flat_map marks_of_table tables)
    (fresh_entries table.name 1 table.entries table.next ids.0)
    (fresh_tables tables ids.1 names.1)
    (each_apart table.name table.entries tables names.0)

-- ---- the last state

pub last_more : (first : State) (states : List State) (new : State) → last_of first (states ++ new ∷ []) ≡ new
last_more first [] new = refl
last_more first (state ∷ states) new = last_more state states new
