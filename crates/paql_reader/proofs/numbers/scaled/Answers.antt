use Rattle.std.proofs.Common.{◌∙◌, refl, arith, rules, SFits}
use Rattle.std.specs.Int.{w128}
use Rattle.std.proofs.lemmas.Int.{to_z-of_z}
use Rattle.pq_base.specs.Decimal.{signed}
use Rattle.pq_base.proofs.SameNumbers.{unsigned_abs-signed}
use Rattle.paql_grammar.proofs.NumeralLemmas.{scaled_is, scaled_none, scaled_large}
use Rattle.paql_reader.proofs.numbers.scaled.Goals as goal

pub returns-then-magnitude-ge-LIMIT : goal.returns-then-magnitude-ge-LIMIT
returns-then-magnitude-ge-LIMIT c = scaled_large c.args.minus c.args.magnitude c.args.places (omega arith)

pub returns-then-places-gt-MOST_PLACES : goal.returns-then-places-gt-MOST_PLACES
returns-then-places-gt-MOST_PLACES c = scaled_none (signed c.args.minus c.args.magnitude) c.args.places (λ small shallow shortest. omega (arith, shallow))

pub returns-then-ends_with_zero : goal.returns-then-ends_with_zero
returns-then-ends_with_zero c =
    let ends = c.if-ends_with_zero.ensures.0 refl in
    scaled_none (signed c.args.minus c.args.magnitude) c.args.places (λ small shallow shortest. shortest ends.0 (omega (arith, ends.1, unsigned_abs-signed c.args.minus c.args.magnitude)))

pub returns : goal.returns
returns c =
    let fits : SFits w128 c.with_sign.result = search rules in
    scaled_is c.new.result (signed c.args.minus c.args.magnitude) c.args.places (c.new.ensures.digits ∙ (to_z-of_z w128 c.with_sign.result fits ∙ c.with_sign.ensures)) c.new.ensures.places
