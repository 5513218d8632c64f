use Rattle.std.proofs.Common.{◌≡◌, ◌<◌, ◌≤◌, ◌+◌, List, length, Ok, Err, true, subst, sym, rules, arith}
use Rattle.std.specs.Result.{is_ok}
use Rattle.csv.specs.Records.{fields_of}
use Rattle.schema_types.specs.declared.Column.{Column}
use Rattle.schema_types.specs.declared.Lit.{Lit}
use Rattle.csv_load.specs.Fields.{FieldsGive}
use Rattle.csv_load.proofs.FieldLemmas.{Goes, all_lits, bad_lit, no_field, one_more_lit}
use Rattle.csv_load.proofs.fields.lits_of.Goals as goal

pub returns-in_default-get : goal.returns-in_default-get
returns-in_default-get c = λ lengths.
    let same : length c.columns-columns.result.now ≡ length c.args.schema.now = search rules in
    let within : c.loop-place.place < length (fields_of c.args.fields.now) = omega (arith, same, lengths) in
    absurd (no_field (fields_of c.args.fields.now) c.loop-place.place within c.in_default-get.ensures.value)

pub returns-in-Ok-None : goal.returns-in-Ok-None
returns-in-Ok-None c = λ lengths.
    let place = c.loop-place.place in
    let columns = c.columns-columns.result.now in
    let fields = fields_of c.args.fields.now in
    let within : place < length columns = omega arith in
    let gives = rw c.in-Ok-None.field-0-is at c.in-Ok-None.ensures in
    subst (λ (cs : List Column). FieldsGive 0 cs fields (Err place)) c.columns-columns.ensures.value
    (bad_lit columns fields c.loop-place.lits.items place c.index-columns-place.result c.in-Some.field.now within c.index-columns-place.is c.in-Some.ensures.value gives c.loop-place.invariant)

pub loop-place-preserved : goal.loop-place-preserved
loop-place-preserved c =
    let place = c.loop-place.place in
    let columns = c.columns-columns.result.now in
    let fields = fields_of c.args.fields.now in
    let within : place < length columns = omega arith in
    let good : is_ok c.push.result ≡ true = search rules in
    let items = rw good at c.push.ensures.items in
    let gives = rw c.in-Ok-Some.field-0-is at c.in-Ok-Some.ensures in
    subst (λ (lits : List Lit). Goes columns fields lits (place + 1)) (sym items)
    (one_more_lit columns fields c.loop-place.lits.items place c.index-columns-place.result c.in-Some.field.now c.in-Ok-Some.lit within c.index-columns-place.is c.in-Some.ensures.value gives c.loop-place.invariant)

pub returns : goal.returns
returns c = λ lengths.
    let place = c.loop-place.place in
    let columns = c.columns-columns.result.now in
    let fields = fields_of c.args.fields.now in
    let end : length columns ≤ place = omega arith in
    let same : length columns ≡ length c.args.schema.now = search rules in
    let other : length fields ≤ place = omega (arith, end, same, lengths) in
    rw c.from_vec.ensures (subst (λ (cs : List Column). FieldsGive 0 cs fields (Ok c.loop-place.lits.items)) c.columns-columns.ensures.value (all_lits columns fields c.loop-place.lits.items place end other c.loop-place.invariant))
