-- Private: `src/session.rt`: the reply that an answer is.
-- The reply that an answer stands for.
use Rattle.std.specs.Prelude.{ℕ}
use Rattle.session_proto.specs.Answers as answers
use Rattle.session_proto.specs.Refusals.{refusal_of, not_built}
use Rattle.session_proto.specs.Replies.{ReplyData}
use Rattle.paql_engine.specs.declared.accepted.Accepted.{Accepted}
use Rattle.paql_engine.specs.declared.accepted.Accepted.TheVariants as kinds
use Rattle.paql_engine.specs.declared.session.Answer.{Answer}
use Rattle.paql_engine.specs.declared.session.Answer.TheVariants as of

-- the reply to an accepted commit, with the rows that it changed and the version that it made
abbrev pub shown_as : Accepted → ℕ → ℕ → ReplyData
shown_as kinds.Created rows version = answers.created version
shown_as kinds.Inserted rows version = answers.inserted rows version
shown_as kinds.Loaded rows version = answers.loaded rows version
shown_as kinds.Updated rows version = answers.updated rows version
shown_as kinds.Deleted rows version = answers.deleted rows version
shown_as kinds.Partitioned rows version = answers.partitioned version
shown_as (kinds.Vacuumed low) rows version = answers.vacuumed low version
shown_as (kinds.Transaction count) rows version = answers.committed count rows version

abbrev pub reply_of : Answer → ReplyData
reply_of (of.Made reply) = reply
reply_of (of.Accepted accepted committed) = shown_as accepted committed.rows committed.version
reply_of of.NotBuilt = refusal_of not_built
