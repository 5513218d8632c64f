-- How the loop over the items of a sum begins.
use Rattle.std.proofs.Common.{◌≡◌, List, [], ◌∷◌, ◌++◌, fold, Ok, Err, refl, sym, ap, ◌∙◌, append-nil, append_assoc}
use Rattle.std.specs.List.{push}
use Rattle.formal_grammar.specs.Parse.{Outcome, Parser, and_then, pure, repeat}
use Rattle.formal_grammar.proofs.Loops.{fold_front}
use Rattle.paql_ast.specs.declared.aggregates.SumItem.{SumItem}
use Rattle.paql_ast.specs.declared.aggregates.Term.{Term}
use Rattle.paql_grammar.specs.Lexemes.{Lexeme, among}
use Rattle.paql_grammar.specs.Aggregates.{sign_kinds}
use Rattle.paql_grammar.specs.AggregateReading as read

-- to push each item is to append them
fold_push : {A : Type 0} (v xs : List A) → fold push v xs ≡ v ++ xs
fold_push v [] = sym (append-nil v)
fold_push v (a ∷ xs) = fold_push (push v a) xs ∙ append_assoc v (a ∷ []) xs

-- the first item, and those that are still to come
first_of : {T A : Type 0} (a : A) (o : Outcome T (List A)) → fold_front push (a ∷ []) o ≡ and_then o (λ later. pure (a ∷ later))
first_of a (Ok x) = ap (λ z. Ok (z, x.1)) (fold_push (a ∷ []) x.0)
first_of a (Err e) = refl

-- After the first item comes the rest of the sum.
pub begins_sum : (a : SumItem) (term : Parser Lexeme Term) (s : List Lexeme) → fold_front push (a ∷ []) (repeat (among sign_kinds) (read.next_item term) s) ≡ read.more_items a term s
unfolding read.more_items
begins_sum a term s = first_of a (repeat (among sign_kinds) (read.next_item term) s)
