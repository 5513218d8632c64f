use Rattle.version_store.proofs.Drafting.{legal_rows}
use Rattle.version_store.proofs.draft.Draft.perform.Goals as goal

pub update-requires : goal.update-requires
update-requires c = legal_rows c.args.version c.args.self.now.tables c.requires.legal

pub delete-requires : goal.delete-requires
delete-requires c = legal_rows c.args.version c.args.self.now.tables c.requires.legal

pub returns-in-Create : goal.returns-in-Create
returns-in-Create c = rw c.in-Create.is (rw c.as_slice.ensures at (c.create.ensures c.args.high c.args.version))

pub returns-in-Insert : goal.returns-in-Insert
returns-in-Insert c = rw c.in-Insert.is (rw c.as_slice-in-Insert.ensures at (c.insert.ensures c.args.high))

pub returns-in-Update : goal.returns-in-Update
returns-in-Update c = rw c.in-Update.is (rw c.as_slice-in-Update.ensures at (c.update.ensures c.args.high))

pub returns-in-Delete : goal.returns-in-Delete
returns-in-Delete c = rw c.in-Delete.is (c.delete.ensures c.args.high c.args.version)

pub returns-in-Partition : goal.returns-in-Partition
returns-in-Partition c = rw c.in-Partition.is (rw c.as_slice-in-Partition.ensures at (c.partition.ensures c.args.high c.args.version))

pub returns-in-Vacuum : goal.returns-in-Vacuum
returns-in-Vacuum c = rw c.in-Vacuum.is (c.vacuum.ensures c.args.version)
