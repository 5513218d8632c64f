-- Private: `src/owed.rt`: the line of a reply, whose bytes are owed.
-- The line of a reply.
use Rattle.std.specs.Prelude.{ℕ, List}
use Rattle.session_proto.specs.Refusals.{refusal_of, not_built, memory}
use Rattle.session_proto.specs.Replies.{reply_text}
use Rattle.paql_engine.specs.declared.owed.Line.{Line}
use Rattle.paql_engine.specs.declared.owed.Line.TheVariants as lines

abbrev pub line_of : Line → List ℕ
line_of (lines.Made bytes) = bytes.items
line_of lines.NotBuilt = reply_text (refusal_of not_built)
line_of lines.Memory = reply_text (refusal_of memory)
