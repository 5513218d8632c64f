-- Private: the model of a machine: its stage as contracts see it.
-- The stage of a machine, as contracts see it.
use Rattle.paql_engine.specs.Conversation.{Stage as StageData, framing, parsing, reading, ended}
use Rattle.paql_engine.specs.declared.machine.Stage.{Stage}
use Rattle.paql_engine.specs.declared.machine.Stage.TheVariants.{Framing, Parsing, Reading, Ended}

abbrev pub stage_of : Stage → StageData
stage_of Framing = framing
stage_of (Parsing text) = parsing text.items
stage_of Reading = reading
stage_of (Ended end) = ended end
