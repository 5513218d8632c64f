use Rattle.std.proofs.Common.{map, take, length, ◌∷◌, []}
use Rattle.cert_text.specs.Lines.{row}
use Rattle.cert_text.specs.Certs.{pair_row}
use Rattle.cert_text.specs.Rules.{Puts}
use Rattle.cert_text.specs.declared.kinds.Kind.TheVariants.{Package}
use Rattle.cert_text.proofs.writing.put_pairs.Given as goal

abbrev pub invariant-loop-pair : goal.invariant-loop-pair
invariant-loop-pair l = Puts l.fn.out.items l.out.items (row Package (length l.pairs ∷ []) ∷ map pair_row (take l.pair-index l.pairs))
