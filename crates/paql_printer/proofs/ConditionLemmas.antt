-- How the conditions with parts are printed.
use Rattle.std.proofs.Common.{◌≡◌, ℕ, List, [], ◌∷◌, ◌++◌, map, refl, sym, ap, ◌∙◌}
use Rattle.std.proofs.lemmas.List.Folds.{flat_map-map}
use Rattle.paql_lexer.specs.declared.vocabulary.Kind.{Kind}
use Rattle.paql_lexer.specs.declared.vocabulary.Kind.TheVariants as kinds
use Rattle.paql_ast.specs.declared.conditions.Pred.{Pred}
use Rattle.paql_ast.specs.declared.conditions.Pred.TheVariants as preds
use Rattle.paql_ast.specs.declared.conditions.Pred.TheOpen.{Pred-F}
use Rattle.paql_ast.specs.declared.conditions.Pred.TheFolds.{fold-roll-Pred}
use Rattle.paql_grammar.specs.Lexemes.{Lexeme}
use Rattle.paql_printer.specs.Print as print
use Rattle.paql_printer.specs.Print.{Held, held, at_least, behind, listed}
use Rattle.paql_printer.specs.Parts.{held_of, part}

listed_map : (kind : Kind) (level : ℕ) (parts : List Pred) → listed kind (at_least level) (map held_of parts) ≡ listed kind (part level) parts
listed_map kind level [] = refl
listed_map kind level (first ∷ later) =
    ap (λ (lexemes : List Lexeme). part level first ++ lexemes) (flat_map-map (λ item. behind kind (at_least level item)) held_of later)

pub pred_or : (parts : List Pred) → print.pred (preds.Or parts) ≡ listed kinds.Or (part 1) parts
pred_or parts =
    ap print.pred (sym (preds.rolls-Or parts)) ∙ (ap (λ (of : Held). of.lexemes) (fold-roll-Pred Held held (Pred-F.Or parts)) ∙ listed_map kinds.Or 1 parts)

pub pred_and : (parts : List Pred) → print.pred (preds.And parts) ≡ listed kinds.And (part 2) parts
pred_and parts =
    ap print.pred (sym (preds.rolls-And parts)) ∙ (ap (λ (of : Held). of.lexemes) (fold-roll-Pred Held held (Pred-F.And parts)) ∙ listed_map kinds.And 2 parts)
