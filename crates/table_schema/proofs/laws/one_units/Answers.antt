use Rattle.table_schema.proofs.UnitLemmas.{units_give, units_are_one}
use Rattle.table_schema.proofs.laws.one_units.Goals as goal

pub returns : goal.returns
returns c = λ mant places scale. record { gives = units_give mant places scale; one = units_are_one mant places scale }
