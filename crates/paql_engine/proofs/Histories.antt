-- Steps over longer histories.
use Rattle.std.proofs.Common.{◌≡◌, List, ◌++◌, Option, Some, ◌∙◌, length-append, arith}
use Rattle.std.proofs.lemmas.List.{take-append-le}
use Rattle.query_answer.specs.declared.kept.Kept.{Kept}
use Rattle.version_store.specs.Histories.{History}
use Rattle.version_store.specs.declared.changes.Change.{Change}
use Rattle.paql_engine.specs.Laws.{LongerHistory}
use Rattle.paql_engine.specs.Loading.{insert_of}
use Rattle.paql_engine.specs.State.{SessionState, seen_of}
use Rattle.paql_engine.specs.Steps.{Queue, Sees, Commits, Becomes, accepts, turns, asks, certifies, refuses, is_not_built, loads, refuses_load}

seen_longer : (history more : History) (old new : SessionState) → Sees history old new → seen_of (history ++ more) new ≡ seen_of history new
seen_longer history more old new sees = take-append-le new.seen history more sees.within

sees_longer : (history more : History) (old new : SessionState) → Sees history old new → Sees (history ++ more) old new
sees_longer history more old new sees = record {
  within = omega (arith, sees.within, length-append history more);
  later = sees.later;
}

pub becomes_longer : (history more : History) (old : SessionState) (queue : Queue) (kept : Option Kept) (new : SessionState) → Becomes history old queue kept new → Becomes (history ++ more) old queue kept new
becomes_longer history more old queue kept new becomes = record {
  sees = sees_longer history more old new becomes.sees;
  own = becomes.own;
  queue = becomes.queue;
  kept = becomes.kept;
}

commits_longer : (history before more : History) (old : SessionState) (commit : List Change) (new : SessionState)
    → Commits history before old commit new → Commits (history ++ more) before old commit new
commits_longer history before more old commit new commits = record {
  sees = sees_longer history more old new commits.sees;
  last = seen_longer history more old new commits.sees ∙ commits.last;
  number = commits.number;
  rose = commits.rose;
  own = commits.own;
  queue = commits.queue;
  kept = commits.kept;
}

pub longer : LongerHistory
longer history more old new t body reply (accepts row) = accepts (record {
  commit = row.commit;
  shows = row.shows;
  makes = row.makes;
  before = row.before;
  commits = commits_longer history row.before more old row.commit new row.commits;
  good = row.good;
  shown = row.shown;
})
longer history more old new t body reply (turns row) = turns (record {
  queue = row.queue;
  moves = row.moves;
  becomes = becomes_longer history more old row.queue old.kept new row.becomes;
})
longer history more old new t body reply (asks row) =
    let same = seen_longer history more old new row.becomes.sees in
    asks (record {
      query = row.query;
      is = row.is;
      kept = row.kept;
      becomes = becomes_longer history more old old.queue (Some row.kept) new row.becomes;
      there = rw same row.there;
      solves = rw same row.solves;
    })
longer history more old new t body reply (certifies row) = certifies (record {
  is = row.is;
  stays = becomes_longer history more old old.queue old.kept new row.stays;
  shown = row.shown;
})
longer history more old new t body reply (refuses row) =
    let same = seen_longer history more old new row.stays.sees in
    refuses (record {
      stays = becomes_longer history more old old.queue old.kept new row.stays;
      cause = row.cause;
      why = rw same row.why;
      shown = row.shown;
    })
longer history more old new t body reply (is_not_built row) =
    let same = seen_longer history more old new row.stays.sees in
    is_not_built (record {
      stays = becomes_longer history more old old.queue old.kept new row.stays;
      is = rw same row.is;
      shown = row.shown;
    })
longer history more old new t body reply (loads row) = loads (record {
  name = row.name;
  bytes = row.bytes;
  is = row.is;
  free = row.free;
  before = row.before;
  columns = row.columns;
  there = row.there;
  rows = row.rows;
  gives = row.gives;
  commits = commits_longer history row.before more old (insert_of row.name row.rows) new row.commits;
  good = row.good;
  shown = row.shown;
})
longer history more old new t body reply (refuses_load row) =
    let same = seen_longer history more old new row.stays.sees in
    refuses_load (record {
      name = row.name;
      bytes = row.bytes;
      is = row.is;
      stays = becomes_longer history more old old.queue old.kept new row.stays;
      cause = row.cause;
      why = rw same row.why;
      tells = row.tells;
    })
