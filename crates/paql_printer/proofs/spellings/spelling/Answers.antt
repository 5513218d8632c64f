-- The two tables, one after the other, are the table of the definition.
use Rattle.std.proofs.Common.{◌==◌, length, ◌∙◌, sym, ap, ℕ, List}
use Rattle.paql_printer.proofs.SpellingLemmas.{behind_signs, among_signs}
use Rattle.paql_printer.proofs.spellings.spelling.Goals as goal

pub returns-then-not-is_empty : goal.returns-then-not-is_empty
returns-then-not-is_empty c =
    let none = sym (ap (λ (bytes : List ℕ). length bytes == 0) c.spelling_in-sign.ensures) ∙ (sym c.is_empty.ensures ∙ c.if-not-is_empty.true) in
    c.spelling_in-sign.ensures ∙ sym (among_signs c.args.kind none)

pub returns : goal.returns
returns c =
    let none = sym (ap (λ (bytes : List ℕ). length bytes == 0) c.spelling_in-sign.ensures) ∙ (sym c.is_empty.ensures ∙ c.if-not-is_empty.false) in
    c.spelling_in.ensures ∙ sym (behind_signs c.args.kind none)
