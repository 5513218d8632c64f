use Rattle.std.proofs.Common.{◌≡◌, ◌+◌, ◌*◌, length}
use Rattle.std.specs.List.{push}
use Rattle.formal_grammar.specs.declared.sample.Sign.TheVariants.{Plus}
use Rattle.formal_grammar.specs.Parse.{repeat, separated}
use Rattle.formal_grammar.specs.SampleReading.{is, next_item, item}
use Rattle.formal_grammar.proofs.Loops.{fold_front}
use Rattle.formal_grammar.proofs.sample.+sums.Given as goal

abbrev pub decreases-bracketed : goal.decreases-bracketed
decreases-bracketed l = 5 * l.depth + 4

abbrev pub decreases-sum : goal.decreases-sum
decreases-sum l = 5 * l.depth + 3

abbrev pub decreases-items : goal.decreases-items
decreases-items l = 5 * l.depth + 2

abbrev pub decreases-next_item : goal.decreases-next_item
decreases-next_item l = 5 * l.depth + 1

abbrev pub decreases-item : goal.decreases-item
decreases-item l = 5 * l.depth

abbrev pub invariant-items-parts : goal.invariant-items-parts
invariant-items-parts l = fold_front push l.items (repeat (is Plus) (next_item (item l.depth)) l.rest) ≡ separated (is Plus) (item l.depth) l.fn.tokens

abbrev pub decreases-items-parts : goal.decreases-items-parts
decreases-items-parts l = length l.rest
