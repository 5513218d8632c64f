use Rattle.paql_engine.proofs.Blank.{blank_is_no_tokens}
use Rattle.paql_engine.proofs.laws.blank_is_tokenless.Goals as goal

pub returns : goal.returns
returns c = blank_is_no_tokens
