-- What a call of a source or a sink did to its bytes, and why it failed.
use Rattle.std.specs.Prelude.{◌≡◌, ℕ, ◌+◌, ◌-◌, ◌^◌, ◌<◌, ◌≤◌, min, List, length, take, Option}
use Rattle.std.specs.Io.KnownBytes.{Consumes, Appends, Keeps, IsAtEnd}
use Rattle.pq_base.specs.declared.outside.Pull.{Pull}
use Rattle.pq_base.specs.declared.outside.Pull.TheVariants as pulls
use Rattle.pq_base.specs.declared.outside.Push.{Push}
use Rattle.pq_base.specs.declared.outside.Push.TheVariants as pushes

-- A count of faults rose, or it was at the greatest value of its type, where it stays.
abbrev pub Rose : ℕ → ℕ → Type 0
Rose before now = min (before + 1) (2 ^ 64 - 1) ≤ now

-- `Got n` has n bytes of the buffer.
abbrev pub PullsAtMost : Pull → List ℕ → Type 0
PullsAtMost (pulls.Got n) buf = n ≤ length buf
PullsAtMost pulls.Failed buf = Unit {0}

-- `Got n` moves the first n known bytes into the buffer. Into a buffer that has room none come only
-- at the end.
abbrev pub PullConsumes : Option (List ℕ) → Option (List ℕ) → Pull → List ℕ → Type 0
PullConsumes old new (pulls.Got n) buf = Consumes old new (take n buf)
    × (n ≡ 0 → 0 < length buf → IsAtEnd new)
PullConsumes old new pulls.Failed buf = Keeps old new

-- `Took n` has at least one byte of a piece that has any.
abbrev pub PushesSome : Push → List ℕ → Type 0
PushesSome (pushes.Took n) piece = (n ≤ length piece) × (0 < length piece → 0 < n)
PushesSome pushes.Failed piece = Unit {0}

-- `Took n` appends the first n bytes of the piece.
abbrev pub PushAppends : Option (List ℕ) → Option (List ℕ) → Push → List ℕ → Type 0
PushAppends old new (pushes.Took n) piece = Appends old new (take n piece)
PushAppends old new pushes.Failed piece = Keeps old new

-- A read that fails makes the count rise, and any other leaves it as it was.
abbrev pub PullCounts : ℕ → ℕ → Pull → Type 0
PullCounts before now (pulls.Got n) = now ≡ before
PullCounts before now pulls.Failed = Rose before now

-- The count never falls, and it rises only at a read that fails.
pub record PullHasCause (before now : ℕ) (result : Pull) : Type 0 where
  pub later : before ≤ now
  pub counts : PullCounts before now result

-- A write that fails makes the count rise, and any other leaves it as it was.
abbrev pub PushCounts : ℕ → ℕ → Push → Type 0
PushCounts before now (pushes.Took n) = now ≡ before
PushCounts before now pushes.Failed = Rose before now

-- The count never falls, and it rises only at a write that fails.
pub record PushHasCause (before now : ℕ) (result : Push) : Type 0 where
  pub later : before ≤ now
  pub counts : PushCounts before now result
