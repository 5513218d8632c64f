-- Private: `src/decimal.rt`: a spelling that borrows its text.
-- The parts that a borrowed spelling holds.
use Rattle.pq_base.specs.Decimal.{Parts}
use Rattle.pq_base.specs.declared.decimal.Spelling.{Spelling}

abbrev pub parts_of : Spelling → Parts
parts_of spelling =
    record { minus = spelling.minus; whole = spelling.whole.now; fraction = spelling.fraction.now }
