-- Lemmas on lists after a push.
use Rattle.std.proofs.Common.{◌≡◌, List, [], ◌∷◌, ◌++◌, reverse, sym, ap, ◌∙◌, append_assoc}
use Rattle.std.proofs.lemmas.List.{reverse-append}

-- an item is added at the end of a list that some part of it was
pub pushed-after : {X : Type 0} (now was before done more : List X) (x y : X) → now ≡ was ++ x ∷ [] → was ≡ before ++ done → x ≡ y → more ≡ done ++ y ∷ [] → now ≡ before ++ more
pushed-after {X} now was before done more x y items is same step =
    items ∙ ap (λ (xs : List X). xs ++ x ∷ []) is ∙ append_assoc before done (x ∷ []) ∙ ap (λ (z : X). before ++ (done ++ z ∷ [])) same ∙ ap (λ (xs : List X). before ++ xs) (sym step)

-- the last item of one list is the next one of another
pub moved-one : {X : Type 0} (more less now was whole : List X) (x : X) → more ≡ less ++ x ∷ [] → now ≡ was ++ x ∷ [] → was ++ reverse more ≡ whole → now ++ reverse less ≡ whole
moved-one {X} more less now was whole x last items is =
    let turned : reverse more ≡ x ∷ reverse less = ap reverse last ∙ reverse-append less (x ∷ []) in
    ap (λ (xs : List X). xs ++ reverse less) items ∙ append_assoc was (x ∷ []) (reverse less) ∙ ap (λ (xs : List X). was ++ xs) (sym turned) ∙ is
