-- The canonical lexemes of constraints and goals are sound, where those of sums are.
use Rattle.std.proofs.Common.{inl, inr, ℕ, Bool, true, false, if◌then◌else◌, List, refl, sym, subst}
use Rattle.pq_base.specs.declared.scaled.Scaled.{Scaled}
use Rattle.paql_lexer.specs.declared.vocabulary.Kind.TheVariants as kinds
use Rattle.paql_ast.specs.declared.conditions.ColumnName.{ColumnName}
use Rattle.paql_ast.specs.declared.conditions.CmpOp.{CmpOp}
use Rattle.paql_ast.specs.declared.aggregates.SumItem.{SumItem}
use Rattle.paql_ast.specs.declared.queries.Conjunct.{Conjunct}
use Rattle.paql_ast.specs.declared.queries.Goal.{Goal}
use Rattle.formal_grammar.specs.Lang.{Lang, ◌or◌}
use Rattle.paql_grammar.specs.Lexemes.{Lexeme}
use Rattle.paql_grammar.specs.Aggregates as grammar
use Rattle.paql_printer.specs.Print as print
use Rattle.paql_printer.specs.Print.{behind}
use Rattle.paql_printer.specs.Spellings.{spelled, signed}
use Rattle.paql_printer.proofs.Sound.{Plain, Sound, Sounds, sound_append, sound_behind, in_front, in_back}
use Rattle.paql_printer.proofs.SoundWords.{plain_word}
use Rattle.paql_printer.proofs.SoundNumbers.{sound_signed}
use Rattle.paql_printer.proofs.SoundConditions.{sound_column, sound_brackets, operator_plain, word_behind}

-- BETWEEN and its ends
sound_between : (low high : Scaled) → Sound (signed low) → Sound (signed high) → Sound (print.ends low high)
sound_between low high from to =
    word_behind kinds.Between _ (plain_word kinds.Between refl) (sound_append (signed low) (behind kinds.And (signed high)) from (word_behind kinds.And (signed high) (plain_word kinds.And refl) to))

sound_ends : Sounds grammar.ends (λ both. print.ends both.0 both.1)
sound_ends w both t all =
    let low = t.second in
    let high = low.second.second in
    let of_low = in_back t all in
    subst (λ (z : Scaled × Scaled). Sound (print.ends z.0 z.1)) (sym high.second.1) (sound_between low.value high.value (sound_signed low.front low.value low.first (in_front low of_low)) (sound_signed high.front high.value high.first (in_front high (in_back low.second (in_back low of_low)))))

-- an operator, and what comes after it
behind_operator : (op : CmpOp) (rest : List Lexeme) → Sound rest → Sound (behind (print.operator op) rest)
behind_operator op rest p = sound_behind (spelled (print.operator op)) rest (operator_plain op) p

-- AVG of a column
sound_average : (of : ColumnName) → Sound (print.column of) → Sound (print.average of)
sound_average of p = word_behind kinds.Avg _ (plain_word kinds.Avg refl) (sound_brackets (print.column of) p)

module _ (sum : Lang Lexeme (List SumItem)) (package_name : List ℕ) (sound_sum : Sounds sum (print.sum package_name)) where
  -- a constraint on an average
  average_constraint : (of : ColumnName) → Sound (print.average of) → Sounds (grammar.average_between of or grammar.average_compared of) (print.conjunct package_name)
  average_constraint of average u c (inl t) all =
      subst (λ (z : Conjunct). Sound (print.conjunct package_name z)) (sym t.second.1) (sound_append (print.average of) (print.ends t.value.0 t.value.1) average (sound_ends t.front t.value t.first (in_front t all)))
  average_constraint of average u c (inr t) all =
      let limit = t.second in
      let test = behind_operator t.value (signed limit.value) (sound_signed limit.front limit.value limit.first (in_front limit (in_back t all))) in
      subst (λ (z : Conjunct). Sound (print.conjunct package_name z)) (sym limit.second.1) (sound_append (print.average of) (behind (print.operator t.value) (signed limit.value)) average test)

  -- a constraint on a sum
  sum_constraint : (left : List SumItem) → Sound (print.sum package_name left) → Sounds (grammar.between left or grammar.compared left sum) (print.conjunct package_name)
  sum_constraint left items u c (inl t) all =
      subst (λ (z : Conjunct). Sound (print.conjunct package_name z)) (sym t.second.1) (sound_append (print.sum package_name left) (print.ends t.value.0 t.value.1) items (sound_ends t.front t.value t.first (in_front t all)))
  sum_constraint left items u c (inr t) all =
      let right = t.second in
      let test = behind_operator t.value (print.sum package_name right.value) (sound_sum right.front right.value right.first (in_front right (in_back t all))) in
      subst (λ (z : Conjunct). Sound (print.conjunct package_name z)) (sym right.second.1) (sound_append (print.sum package_name left) (behind (print.operator t.value) (print.sum package_name right.value)) items test)

  -- A constraint of SUCH THAT.
  pub sound_conjunct : Sounds (grammar.conj sum) (print.conjunct package_name)
  sound_conjunct w c (inl t) all =
      let column = t.second.second in
      let of_column = in_back t.second (in_back t all) in
      let average = sound_average column.value (sound_column column.front column.value column.first (in_front column of_column)) in
      average_constraint column.value average column.second.back c column.second.second (in_back column.second (in_back column of_column))
  sound_conjunct w c (inr t) all = sum_constraint t.value (sound_sum t.front t.value t.first (in_front t all)) t.back c t.second (in_back t all)

sense_plain : (maximize : Bool) → Plain (spelled (if maximize then kinds.Maximize else kinds.Minimize))
sense_plain true = plain_word kinds.Maximize refl
sense_plain false = plain_word kinds.Minimize refl

-- A goal, over sums of parts.
pub sound_goal : (sum : Lang Lexeme (List SumItem)) (package_name : List ℕ) → Sounds sum (print.sum package_name) → Sounds (grammar.goal sum) (print.goal package_name)
sound_goal sum package_name sound_sum w of t all =
    let parts = t.second in
    subst (λ (z : Goal). Sound (print.goal package_name z)) (sym parts.second.1) (sound_behind (spelled (if t.value then kinds.Maximize else kinds.Minimize)) (print.sum package_name parts.value) (sense_plain t.value) (sound_sum parts.front parts.value parts.first (in_front parts (in_back t all))))
