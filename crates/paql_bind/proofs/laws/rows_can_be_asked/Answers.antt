use Rattle.paql_bind.proofs.SoundRows.{asked_of}
use Rattle.paql_bind.proofs.laws.rows_can_be_asked.Goals as goal

pub returns : goal.returns
returns c = asked_of
