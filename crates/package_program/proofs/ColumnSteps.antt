-- Steps of the columns that are kept.
use Rattle.std.proofs.Common.{◌≡◌, ◌⊎◌, ℕ, zero, suc, ◌<◌, List, [], ◌∷◌, ◌++◌, length, get_or, ℤ, Option, None, Some, slice_get, refl, sym, ap, ◌∙◌, inl, inr, ⊎_elim}
use Rattle.std.specs.Option.{option_map}
use Rattle.std.proofs.lemmas.Option.{none-some, same_Some, slice_get-map, slice_get-get_or}
use Rattle.table_schema.specs.declared.cells.Cell.{Cell}
use Rattle.bound_query.specs.Terms.{number_in}
use Rattle.package_program.specs.Columns.{numbers_in, AreColumnsOf, number_of, AreNumbersOf}

last_or_before : {X : Type 0} (xs : List X) (x : X) (i : ℕ) (found : X) → slice_get (xs ++ x ∷ []) i ≡ Some found → (slice_get xs i ≡ Some found) ⊎ ((i ≡ length xs) × (found ≡ x))
last_or_before [] x zero found is = inr (refl, sym (same_Some x found is))
last_or_before [] x (suc i) found is = absurd (none-some found is)
last_or_before (y ∷ xs) x zero found is = inl is
last_or_before (y ∷ xs) x (suc i) found is = ⊎_elim inl (λ p. inr (ap suc p.0, p.1)) (last_or_before xs x i found is)

-- one more column is kept or isn't
pub columns_more : (rows : List (ℕ × List Cell)) (columns : List (List ℤ)) (numbers : List ℤ) (place : ℕ) → length columns ≡ place → (numbers ≡ []) ⊎ (numbers ≡ numbers_in place rows)
    → AreColumnsOf rows columns → AreColumnsOf rows (columns ++ numbers ∷ [])
columns_more rows columns numbers place count each kept column found is = ⊎_elim
    (λ before. kept column found before)
    (λ last. let same : column ≡ place = last.0 ∙ count in rw (last.1, same) each)
    (last_or_before columns numbers column found is)

found_number : (rows : List (ℕ × List Cell)) (column i : ℕ) (row : ℕ × List Cell) (found : Option (List ℤ)) (number : ℤ)
    → ((numbers : List ℤ) → found ≡ Some numbers → (numbers ≡ []) ⊎ (numbers ≡ numbers_in column rows))
    → slice_get rows i ≡ Some row → number_of found i ≡ Some number → number ≡ number_in column row.1
found_number rows column i row None number kept at is = absurd (none-some number is)
found_number rows column i row (Some numbers) number kept at is = ⊎_elim
    (λ empty. absurd (none-some number (ap (λ (l : List ℤ). slice_get l i) (sym empty) ∙ is)))
    (λ whole.
    let number_of_row : ℕ × List Cell → ℤ = λ entry. number_in column entry.1 in
    let here : option_map number_of_row (slice_get rows i) ≡ Some number = sym (slice_get-map number_of_row rows i) ∙ ap (λ (l : List ℤ). slice_get l i) (sym whole) ∙ is in
    sym (same_Some (number_in column row.1) number (ap (option_map number_of_row) (sym at) ∙ here)))
    (kept numbers refl)

-- what is kept of the row at a place is what the row has
pub numbers_at : (rows : List (ℕ × List Cell)) (columns : List (List ℤ)) (i : ℕ) (d : ℕ × List Cell) → i < length rows → AreColumnsOf rows columns → AreNumbersOf columns i (get_or rows i d).1
numbers_at rows columns i d inside kept column number is =
    found_number rows column i (get_or rows i d) (slice_get columns column) number (kept column) (slice_get-get_or rows i d inside) is
