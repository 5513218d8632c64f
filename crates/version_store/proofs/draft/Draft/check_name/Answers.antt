use Rattle.std.proofs.Common.{sym}
use Rattle.version_store.proofs.Drafting.{name_free, name_taken}
use Rattle.version_store.proofs.draft.Draft.check_name.Goals as goal

pub returns-in-Some : goal.returns-in-Some
returns-in-Some c = name_taken c.args.table.now c.args.self.now.tables c.in-Some.field-0 c.table_exists.result (sym c.in-Some.ensures) c.table_exists.ensures

pub returns-in-None : goal.returns-in-None
returns-in-None c = name_free c.args.table.now c.args.self.now.tables (sym c.in-None.ensures)
