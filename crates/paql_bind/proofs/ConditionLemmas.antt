-- The faults of conditions with parts, and what such conditions are bound to.
use Rattle.std.proofs.Common.{◌≡◌, List, [], ◌∷◌, ◌++◌, flat_map, map, refl, sym, ap, ◌∙◌}
use Rattle.paql_ast.specs.declared.conditions.Pred.{Pred}
use Rattle.paql_ast.specs.declared.conditions.Pred.TheVariants as written
use Rattle.paql_ast.specs.declared.conditions.Pred.TheOpen.{Pred-F}
use Rattle.paql_ast.specs.declared.conditions.Pred.TheFolds.{fold-Pred, fold-roll-Pred}
use Rattle.paql_bind.specs.Names.{Scope}
use Rattle.paql_bind.specs.Conditions.{all_faults, faults_of_parts, pred_faults}
use Rattle.paql_bind.specs.declared.faults.Refusal.{Refusal}

pub all_of_parts : (scope : Scope) (parts : List Pred) → all_faults (map (fold-Pred (List Refusal) (faults_of_parts scope)) parts) ≡ flat_map (pred_faults scope) parts
all_of_parts scope [] = refl
all_of_parts scope (part ∷ parts) = ap (λ (faults : List Refusal). pred_faults scope part ++ faults) (all_of_parts scope parts)

pub faults_or : (scope : Scope) (parts : List Pred) → pred_faults scope (written.Or parts) ≡ flat_map (pred_faults scope) parts
faults_or scope parts =
    ap (pred_faults scope) (sym (written.rolls-Or parts)) ∙ (fold-roll-Pred (List Refusal) (faults_of_parts scope) (Pred-F.Or parts) ∙ all_of_parts scope parts)

pub faults_and : (scope : Scope) (parts : List Pred) → pred_faults scope (written.And parts) ≡ flat_map (pred_faults scope) parts
faults_and scope parts =
    ap (pred_faults scope) (sym (written.rolls-And parts)) ∙ (fold-roll-Pred (List Refusal) (faults_of_parts scope) (Pred-F.And parts) ∙ all_of_parts scope parts)
