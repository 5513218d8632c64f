-- The replies to the statements that are performed: the keys of each, in the order of their bytes.
use Rattle.std.specs.Prelude.{ℕ, List, [], ◌∷◌, length, codes, string_bytes, Option, None, Some}
use Rattle.session_proto.specs.Replies.{ReplyData, MemberData, num, text, pairs}
use Rattle.session_proto.specs.declared.answers.Worth.{Worth}

-- a line with these keys, and no bytes after it
abbrev pub line : List MemberData → ReplyData
line members = record { members = members; tail = [] }

-- ---- keys with their values

abbrev pub status : List ℕ → MemberData
status name = (codes "status", text name)

abbrev pub version : ℕ → MemberData
version number = (codes "version", num number)

abbrev pub rows : ℕ → MemberData
rows count = (codes "rows", num count)

abbrev pub changes : ℕ → MemberData
changes count = (codes "changes", num count)

abbrev pub nodes : ℕ → MemberData
nodes count = (codes "nodes", num count)

-- what a package is worth, as it is printed
abbrev pub objective : List ℕ → MemberData
objective worth = (codes "objective", text worth)

-- what no package is worth more than, as it is printed
abbrev pub bound : List ℕ → MemberData
bound most = (codes "bound", text most)

abbrev pub chosen : List (ℕ × ℕ) → MemberData
chosen list = (codes "package", pairs list)

-- ---- changes

-- CREATE TABLE, with the version that it made
abbrev pub created : ℕ → ReplyData
created number = line (status (codes "created") ∷ version number ∷ [])

-- INSERT, LOAD, UPDATE and DELETE, with the number of rows and the version
abbrev pub inserted : ℕ → ℕ → ReplyData
inserted count number = line (rows count ∷ status (codes "inserted") ∷ version number ∷ [])

abbrev pub loaded : ℕ → ℕ → ReplyData
loaded count number = line (rows count ∷ status (codes "loaded") ∷ version number ∷ [])

abbrev pub updated : ℕ → ℕ → ReplyData
updated count number = line (rows count ∷ status (codes "updated") ∷ version number ∷ [])

abbrev pub deleted : ℕ → ℕ → ReplyData
deleted count number = line (rows count ∷ status (codes "deleted") ∷ version number ∷ [])

-- PARTITION
abbrev pub partitioned : ℕ → ReplyData
partitioned number = line (status (codes "partitioned") ∷ version number ∷ [])

-- VACUUM, with the lowest version that is kept
abbrev pub vacuumed : ℕ → ℕ → ReplyData
vacuumed low number =
    line ((codes "low", num low) ∷ status (codes "vacuumed") ∷ version number ∷ [])

-- ---- transactions

-- BEGIN
abbrev pub begun : ReplyData
begun = line (status (codes "begun") ∷ [])

-- ROLLBACK
abbrev pub rolled_back : ReplyData
rolled_back = line (status (codes "rolledback") ∷ [])

-- a change in a transaction, with the number of changes in its queue
abbrev pub queued : ℕ → ReplyData
queued count = line (changes count ∷ status (codes "queued") ∷ [])

-- COMMIT, with the number of its changes, of their rows, and the version
abbrev pub committed : ℕ → ℕ → ℕ → ReplyData
committed count many number =
    line (changes count ∷ rows many ∷ status (codes "committed") ∷ version number ∷ [])

-- ---- queries; without a goal there are no objective and no bound

-- DIRECT, with a package that is best
abbrev pub optimal : Option (List ℕ) → List (ℕ × ℕ) → ℕ → ReplyData
optimal None list number =
    line (chosen list ∷ status (codes "optimal") ∷ version number ∷ [])
optimal (Some worth) list number =
    line (objective worth ∷ chosen list ∷ status (codes "optimal") ∷ version number ∷ [])

-- DIRECT, with no package that meets the query
abbrev pub infeasible : ℕ → ReplyData
infeasible number = line (status (codes "infeasible") ∷ version number ∷ [])

-- DIRECT, cut off after so many nodes before a package was found
abbrev pub undecided : Option (List ℕ) → ℕ → ℕ → ReplyData
undecided None count number =
    line (nodes count ∷ status (codes "undecided") ∷ version number ∷ [])
undecided (Some most) count number =
    line (bound most ∷ nodes count ∷ status (codes "undecided") ∷ version number ∷ [])

-- what a search says of the goal
abbrev pub worth_of : Worth → List ℕ × List ℕ
worth_of worth = (string_bytes worth.bound, string_bytes worth.objective)

-- DIRECT, cut off with a package; a goal has its bound and then its objective
abbrev pub undecided_best : Option (List ℕ × List ℕ) → ℕ → List (ℕ × ℕ) → ℕ → ReplyData
undecided_best None count list number =
    line (nodes count ∷ chosen list ∷ status (codes "undecided") ∷ version number ∷ [])
undecided_best (Some goal) count list number =
    line (bound goal.0 ∷ nodes count ∷ objective goal.1 ∷ chosen list
    ∷ status (codes "undecided") ∷ version number ∷ [])

-- SKETCHREFINE, with a package
abbrev pub found : Option (List ℕ) → List (ℕ × ℕ) → ℕ → ReplyData
found None list number = line (chosen list ∷ status (codes "found") ∷ version number ∷ [])
found (Some worth) list number =
    line (objective worth ∷ chosen list ∷ status (codes "found") ∷ version number ∷ [])

-- SKETCHREFINE, with none
abbrev pub not_found : ℕ → ReplyData
not_found number = line (status (codes "notfound") ∷ version number ∷ [])

-- CERTIFICATE, with its bytes after the line
abbrev pub certificate : List ℕ → ReplyData
certificate bytes = record {
  members = (codes "bytes", num (length bytes)) ∷ status (codes "certificate") ∷ [];
  tail = bytes;
}
