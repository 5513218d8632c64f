use Rattle.std.proofs.Common.{◌≡◌, ◌<◌, length, true, Some, ap, sym, ◌∙◌, arith}
use Rattle.csv.specs.Records.{fields_of}
use Rattle.csv_load.proofs.FieldLemmas.{header_field, one_more_name}
use Rattle.csv_load.proofs.records.is_header.Goals as goal

pub returns-then-not-is_field : goal.returns-then-not-is_field
returns-then-not-is_field c = (
  λ never. absurd (cc),
  λ same.
      let within : c.loop-place.place < length c.args.columns.now = omega arith in
      let there = header_field (fields_of c.args.fields.now) c.args.columns.now c.loop-place.place c.index-columns-place.result same within c.index-columns-place.is in
      let is : c.is_field.result ≡ true = c.is_field.ensures.1 (there ∙ ap Some (sym c.as_slice.ensures)) in
      cc,
)

pub loop-place-preserved : goal.loop-place-preserved
loop-place-preserved c =
    let within : c.loop-place.place < length c.args.columns.now = omega arith in
    let lengths : length (fields_of c.args.fields.now) ≡ length c.args.columns.now = omega arith in
    let there = c.is_field.ensures.0 c.if-not-is_field.false ∙ ap Some c.as_slice.ensures in
    one_more_name (fields_of c.args.fields.now) c.args.columns.now c.loop-place.place c.index-columns-place.result lengths within c.index-columns-place.is there c.loop-place.invariant
