-- Private: a lane of open paths, which the program does not use yet: the account of one thread.
-- What one thread of a search takes in and gives out, by its own lists and by the views of the two
-- ends that it has: the owner's of its own lane and the thief's of another one.
use Rattle.std.specs.Prelude.{◌≡◌, ℕ, ◌+◌, List, [], ◌∷◌, ◌++◌, map, sum_by, Option, None, Some}
use Rattle.std.specs.List.{flat_map}
use Rattle.lin_bound.specs.Box.{lower, upper}
use Rattle.lin_bound.specs.declared.path.Branch.{Branch}
use Rattle.sub_deque.specs.Views.{Paths}
use Rattle.sub_deque.specs.Handles.{OwnerEnd, ThiefEnd}

-- a node that was done: its path, and the place at which its box was split, or none
abbrev pub DoneNode : Type 0
DoneNode = List Branch × Option (ℕ × ℕ)

-- the paths that it leaves to do
abbrev pub children_at : List Branch → Option (ℕ × ℕ) → Paths
children_at path None = []
children_at path (Some cut) =
    (path ++ lower cut.0 cut.1 ∷ []) ∷ ((path ++ upper cut.0 cut.1 ∷ []) ∷ [])

abbrev pub children : DoneNode → Paths
children node = children_at node.0 node.1

abbrev pub path_in : DoneNode → List Branch
path_in node = node.0

-- the nodes that a thread has done, the paths that it keeps, and its two ends
pub record Station : Type 0 where
  pub done : List DoneNode
  pub left : Paths
  pub owner : OwnerEnd
  pub thief : ThiefEnd

abbrev pub station : List DoneNode → Paths → OwnerEnd → ThiefEnd → Station
station done left owner thief = record {
  done = done;
  left = left;
  owner = owner;
  thief = thief;
}

-- what it gave out, whatever each path weighs: the nodes done, the paths kept, and those pushed
abbrev pub given : (List Branch → ℕ) → Station → ℕ
given weigh s = sum_by weigh (map path_in s.done) + (sum_by weigh s.left + sum_by weigh s.owner.put)

-- what it took in: the children of the nodes done, and what it popped and stole
abbrev pub taken_in : (List Branch → ℕ) → Station → ℕ
taken_in weigh s = sum_by weigh (flat_map children s.done)
    + (sum_by weigh s.owner.popped + sum_by weigh s.thief.stolen)

-- from one moment to a later one, what comes in is what goes out, each path as often
abbrev pub IsAccounted : Station → Station → Type 0
IsAccounted old new = (weigh : List Branch → ℕ)
    → given weigh new + taken_in weigh old ≡ given weigh old + taken_in weigh new

-- the same, but a path came in and is in hand
abbrev pub IsTaken : Station → List Branch → Station → Type 0
IsTaken old path new = (weigh : List Branch → ℕ)
    → given weigh new + (weigh path + taken_in weigh old) ≡ given weigh old + taken_in weigh new

-- the same, but a path that was in hand went out
abbrev pub IsPlaced : Station → List Branch → Station → Type 0
IsPlaced old path new = (weigh : List Branch → ℕ)
    → given weigh new + taken_in weigh old ≡ weigh path + (given weigh old + taken_in weigh new)
