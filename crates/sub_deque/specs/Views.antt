-- Private: a lane of open paths, which the program does not use yet: views.
-- What an end of a lane knows, and what it knows after each kind of step.
use Rattle.std.specs.Prelude.{Bool, true, false, List, [], ◌++◌}
use Rattle.lin_bound.specs.declared.path.Branch.{Branch}
use Rattle.sub_deque.specs.declared.view.LaneView.{LaneView}

-- paths, the first one first
abbrev pub Paths : Type 0
Paths = List (List Branch)

abbrev pub view : Bool → Bool → Paths → Paths → Paths → LaneView
view owns steals put popped stolen = record {
  owns = owns;
  steals = steals;
  put = put;
  popped = popped;
  stolen = stolen;
}

-- both ends in one
abbrev pub whole_view : Paths → Paths → Paths → LaneView
whole_view put popped stolen = view true true put popped stolen

abbrev pub first_view : LaneView
first_view = whole_view [] [] []

abbrev pub owner_view : Paths → Paths → LaneView
owner_view put popped = view true false put popped []

abbrev pub thief_view : Paths → LaneView
thief_view stolen = view false true [] [] stolen

-- neither end
abbrev pub guest_view : LaneView
guest_view = view false false [] [] []

abbrev pub pushing : Paths → LaneView → LaneView
pushing paths v = view v.owns v.steals (v.put ++ paths) v.popped v.stolen

abbrev pub popping : Paths → LaneView → LaneView
popping paths v = view v.owns v.steals v.put (v.popped ++ paths) v.stolen

abbrev pub stealing : Paths → LaneView → LaneView
stealing paths v = view v.owns v.steals v.put v.popped (v.stolen ++ paths)
