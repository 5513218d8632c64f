use Rattle.std.proofs.Common.{ℕ, Some, subst}
use Rattle.csv.specs.Records.{fields_of}
use Rattle.csv_load.specs.Loading.{RecordsGive, TableGives}
use Rattle.csv_load.specs.Loading.TableGives.{good_header}
use Rattle.csv_load.specs.Between.{IsBetween}
use Rattle.csv_load.proofs.FieldLemmas.{same_count}
use Rattle.csv_load.proofs.LoadLemmas.{load_each, other_header}
use Rattle.csv_load.proofs.loading.load_under.Goals as goal

pub returns-then-not-is_header : goal.returns-then-not-is_header
returns-then-not-is_header c = λ all takes.
    other_header c.args.schema.now all takes.later (fields_of c.args.header.now) takes.next (λ same.
    let is = c.is_header.ensures.1 (rw c.columns.ensures.value same) in
    absurd (cc))

pub returns : goal.returns
returns c = λ all takes.
    let columns = c.args.schema.now in
    let fields = fields_of c.args.header.now in
    let same = rw c.columns.ensures.value at (c.is_header.ensures.0 c.if-not-is_header.false) in
    let between = subst (λ (count : ℕ). IsBetween c.args.reader.now (Some count) takes.later) (same_count fields columns same) takes.between in
    load_each c.args.most (RecordsGive columns 1 takes.later) (TableGives columns all) c.load_rows.result (λ result gives. good_header takes.later result (rw same at takes.next) gives) (c.load_rows.ensures takes.later between)
