-- Private: `GroupCache` in `src/cache.rt`.
-- The groups of a table of a version, as a cache keeps them.
use Rattle.std.specs.Prelude.{ℕ, List}
use Rattle.std.specs.declared.vec.Vec.{Vec}
use Rattle.quadtree.specs.declared.group.Group.{Group}

pub record Kept : Type 0 where
  pub table : List ℕ
  pub version : ℕ
  pub groups : List Group

-- by the table's name and the version
abbrev pub entry_kept : {A : Type 0} → (Vec ℕ A × ℕ) × Vec Group A → Kept
entry_kept entry = record { table = entry.0.0.items; version = entry.0.1; groups = entry.1.items }
