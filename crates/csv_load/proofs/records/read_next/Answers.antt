use Rattle.std.proofs.Common.{Some}
use Rattle.csv.specs.Records.{fields_of}
use Rattle.csv_load.proofs.BetweenLemmas.{next_taken, next_refused, none_after}
use Rattle.csv_load.proofs.records.read_next.Goals as goal

pub returns-in-Ok-true : goal.returns-in-Ok-true
returns-in-Ok-true c = λ count rest b.
    let read = rw c.in-Ok-true.field-0-test at (c.in-Ok-true.ensures.reads b.untrimmed b.ready) in
    next_taken c.args.reader.now c.read_record.new.self count rest (fields_of c.read_record.new.row) b read (c.in-Ok-true.ensures.text b.untrimmed) (c.in-Ok-true.ensures.ready b.untrimmed) c.in-Ok-true.ensures.flexible

pub returns-in-Ok-false : goal.returns-in-Ok-false
returns-in-Ok-false c = λ count rest b.
    let read = rw c.in-Ok-false.field-0-test at (c.in-Ok-false.ensures.reads b.untrimmed b.ready) in
    none_after c.args.reader.now c.read_record.new.self (Some count) rest (fields_of c.read_record.new.row) b read

pub returns-in-Err : goal.returns-in-Err
returns-in-Err c = λ count rest b.
    rw c.next_after.ensures (next_refused c.args.reader.now c.read_record.new.self count rest (fields_of c.read_record.new.row) c.in-Err.error.kind b (c.in-Err.ensures.why b.untrimmed b.ready))
