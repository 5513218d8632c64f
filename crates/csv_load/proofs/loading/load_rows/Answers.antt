use Rattle.std.proofs.lemmas.Result.{err_from_is_err_and}
use Rattle.csv.specs.Records.{fields_of}
use Rattle.csv_load.specs.Loading.{GivesLoaded, RecordsGive, RecordGives}
use Rattle.csv_load.proofs.LoadLemmas.{all_loaded, one_more_loaded, or_refused, record_torn, row_refused}
use Rattle.csv_load.proofs.loading.load_rows.Goals as goal

pub returns-in-End : goal.returns-in-End
returns-in-End c = λ rest b.
    let l = c.loop-number.invariant rest b in
    all_loaded c.args.schema.now rest c.loop-number.reader c.args.most c.loop-number.loaded c.loop-number.number l (c.in-End.ensures _ _ l.goes.between)

pub returns-in-Bad : goal.returns-in-Bad
returns-in-Bad c = λ rest b.
    let l = c.loop-number.invariant rest b in
    record_torn c.args.schema.now rest c.loop-number.reader l.done c.loop-number.number l.goes (c.in-Bad.ensures _ _ l.goes.between)

pub returns-in_err-row : goal.returns-in_err-row
returns-in_err-row c = λ rest b.
    let columns = c.args.schema.now in
    let number = c.loop-number.number in
    let fields = fields_of c.read_next.new.fields in
    let l = c.loop-number.invariant rest b in
    let next = c.in-Fields.ensures _ _ l.goes.between in
    let p = err_from_is_err_and c.from_residual.result c.from_residual.ensures.1 in
    rw (p.1, p.2) (or_refused (RecordGives columns number fields) (GivesLoaded c.args.most (RecordsGive columns 1 rest)) _ (λ fault gives. row_refused columns rest c.loop-number.reader c.read_next.new.reader l.done number fields fault l.goes next.0 gives) (c.in_err-row.ensures next.1))

pub loop-number-preserved : goal.loop-number-preserved
loop-number-preserved c = λ rest b.
    let columns = c.args.schema.now in
    let number = c.loop-number.number in
    let l = c.loop-number.invariant rest b in
    let next = c.in-Fields.ensures _ _ l.goes.between in
    one_more_loaded columns rest c.loop-number.reader c.read_next.new.reader c.args.most c.loop-number.loaded c.in-Ok.more number (fields_of c.read_next.new.fields) c.in_ok-row.row l next.0 (c.in_ok-row.ensures next.1) (c.in-Ok.ensures l.done l.keeps l.count)
