use Rattle.csv_load.specs.Loading.{BodyGives, TableGives, records_of}
use Rattle.csv_load.specs.Loading.BodyGives.{too_long, short_enough}
use Rattle.csv_load.proofs.LoadLemmas.{load_each}
use Rattle.csv_load.proofs.loading.load.Goals as goal

pub returns-then-bytes-gt-MAX_LOAD_BYTES : goal.returns-then-bytes-gt-MAX_LOAD_BYTES
returns-then-bytes-gt-MAX_LOAD_BYTES c = too_long c.if-bytes-gt-MAX_LOAD_BYTES.true

pub returns : goal.returns
returns c =
    let columns = c.args.schema.now in
    let body = c.args.bytes.now in
    load_each c.args.most (TableGives columns (records_of body)) (BodyGives columns body) c.load_table.result (λ result gives. short_enough result c.if-bytes-gt-MAX_LOAD_BYTES.false gives) (c.load_table.ensures (records_of body) c.reader_of-reader.ensures)
