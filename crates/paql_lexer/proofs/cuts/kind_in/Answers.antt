use Rattle.std.proofs.Common.{◌≡◌, ℕ, ◌<◌, true, Bor, List, [], ◌∷◌, length, map, get_or, refl, sym, ◌∙◌}
use Rattle.paql_lexer.specs.Keywords.{kind_in, rises}
use Rattle.paql_lexer.specs.declared.vocabulary.Kind.{Kind}
use Rattle.paql_lexer.specs.declared.vocabulary.Kind.TheVariants.{Name}
use Rattle.paql_lexer.proofs.Words.{stops}
use Rattle.paql_lexer.proofs.cuts.kind_in.Goals as goal

-- what the table is as a list of words
abbrev seen : List (Bor (List ℕ) × Kind) → List (List ℕ × Kind)
seen table = map (λ entry. (entry.0.now, entry.1)) table

-- a word that is shorter than the first is a name
stops_at : (table : List (Bor (List ℕ) × Kind)) (none : Bor (List ℕ) × Kind) (word : List ℕ) → rises 0 (seen table) ≡ true → length word < length (get_or table 0 none).0.now → Name ≡ kind_in (seen table) word
stops_at [] none word r less = refl
stops_at (entry ∷ table) none word r less = sym (stops (entry.0.now, entry.1) (seen table) word r less)

pub returns-then-entry-word : goal.returns-then-entry-word
returns-then-entry-word c =
    stops_at c.loop-table.table.now _ c.args.word.now c.loop-table.invariant.1 c.if-entry-word.true ∙ c.loop-table.invariant.0
