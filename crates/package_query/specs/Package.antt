-- Packages, and the tables that they take rows from.
use Rattle.std.specs.Prelude.{ℕ, suc, ◌≤◌, List, [], ◌∷◌, Option, None, Some, ◌==◌, if◌then◌else◌}

-- pairs of an id and a count: the ids ascend from `low` on and each count is at least 1
abbrev pub RisesFrom : ℕ → List (ℕ × ℕ) → Type 0
RisesFrom low [] = Unit {0}
RisesFrom low (pair ∷ pairs) = (low ≤ pair.0) × (1 ≤ pair.1) × RisesFrom (suc pair.0) pairs

-- a multiset of rows: how often each id occurs
abbrev pub IsPackage : List (ℕ × ℕ) → Type 0
IsPackage pairs = RisesFrom 0 pairs

-- a table lists its rows, each after its id; this is the row with an id
abbrev pub row_at : {R : Type 0} → ℕ → List (ℕ × R) → Option R
row_at id [] = None
row_at id (entry ∷ entries) = if entry.0 == id then Some entry.1 else row_at id entries

-- ids that ascend from `low` on, as those of every table do
abbrev pub AscendsFrom : {R : Type 0} → ℕ → List (ℕ × R) → Type 0
AscendsFrom low [] = Unit {0}
AscendsFrom low (entry ∷ entries) = (low ≤ entry.0) × AscendsFrom (suc entry.0) entries
