use Rattle.std.proofs.Common.{sym}
use Rattle.version_store.proofs.Drafting.{place_is, none_is}
use Rattle.version_store.proofs.draft.Draft.find.Goals as goal

pub returns-in-Some : goal.returns-in-Some
returns-in-Some c = place_is c.args.table.now c.args.self.now.tables c.in-Some.place (sym c.in-Some.ensures)

pub returns-in-None : goal.returns-in-None
returns-in-None c = (none_is c.args.table.now c.args.self.now.tables (sym c.in-None.ensures), c.no_table.ensures)
