-- Private: a lane of open paths, which the program does not use yet: its ends as values.
-- The two ends of a lane as contracts see them.
use Rattle.std.specs.Prelude.{ℕ}
use Rattle.std.specs.declared.alloc.Global.{Global}
use Rattle.sub_deque.specs.Views.{Paths}

-- which lane it is
abbrev pub LaneId : Type 0
LaneId = (ℕ × ℕ) × Global

-- what the owner pushed and popped
pub record OwnerEnd : Type 0 where
  pub lane : LaneId
  pub put : Paths
  pub popped : Paths

abbrev pub owner_end : LaneId → Paths → Paths → OwnerEnd
owner_end lane put popped = record { lane = lane; put = put; popped = popped }

-- what the thief stole, and how many paths it knows to have left at the front
pub record ThiefEnd : Type 0 where
  pub lane : LaneId
  pub stolen : Paths
  pub taken : ℕ

abbrev pub thief_end : LaneId → Paths → ℕ → ThiefEnd
thief_end lane stolen taken = record { lane = lane; stolen = stolen; taken = taken }
