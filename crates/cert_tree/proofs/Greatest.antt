-- What a tree that is not done leaves possible is the greatest of the value and the tops of its open leaves.
use Rattle.std.proofs.Common.{◌≡◌, ◌⊎◌, List, [], ◌∷◌, ◌++◌, refl, arith, inl, inr}
use Rattle.std.specs.Prelude.{ℤ, ◌≤ℤ◌, Option, None}
use Rattle.std.specs.Int.{int_max}
use Rattle.std.proofs.lemmas.Int.{ints, clamps, by_lt_z}
use Rattle.std.proofs.lemmas.List.Elements.{All-cons, All-nil, Contains-append_right}
use Rattle.lin_bound.specs.Problem.{ProblemData}
use Rattle.lin_bound.specs.Box.{whole_box}
use Rattle.lin_bound.specs.declared.region.Region.{Region}
use Rattle.lin_bound.specs.declared.mult.Mult.{Mult}
use Rattle.cert_tree.specs.declared.nodes.TreeNode.{TreeNode}
use Rattle.cert_tree.specs.declared.nodes.TreeNode.TheVariants.{Leaf, Split, Open}
use Rattle.cert_tree.specs.Partial.{top, halves_with, tops_of, greatest_top, value_or_floor}
use Rattle.cert_tree.specs.Laws.{IsGreatestOf, MostLeftIsGreatest}

-- the greater of two numbers is one of them
max_is_one : (a b : ℤ) → (int_max a b ≡ a) ⊎ (int_max a b ≡ b)
max_is_one a b =
    by_lt_z a b (λ lt. inr (omega (arith, ints, clamps, lt))) (λ le. inl (omega (arith, ints, clamps, le)))

-- the greatest of the greater of two numbers and the rest is that of all of them
one_more : (value first : ℤ) (tops : List ℤ) (most : ℤ) → IsGreatestOf (int_max value first) tops most → IsGreatestOf value (first ∷ tops) most
one_more value first tops most greatest =
    let above : int_max value first ≤ℤ most = greatest.at_least in
    record {
      one_of = elim greatest.one_of [
        | inl is ↦ elim (max_is_one value first) [
          | inl old ↦ inl (omega (arith, ints, is, old))
          | inr new ↦ inr (0, omega arith, omega (arith, ints, is, new))
        ]
        | inr there ↦ inr (Contains-append_right (first ∷ []) tops most there)
      ];
      at_least = omega (arith, ints, clamps, above);
      over_each = All-cons (λ (top : ℤ). top ≤ℤ most) first tops (omega (arith, ints, clamps, above)) greatest.over_each;
    }

none_left : (value : ℤ) → IsGreatestOf value [] value
none_left value = record { one_of = inl refl; at_least = omega (arith, ints); over_each = All-nil (λ (top : ℤ). top ≤ℤ value) }

greatest_of_all : (p : ProblemData) (value : ℤ) (places : List (Region × Option Mult)) (nodes : List TreeNode) → IsGreatestOf value (tops_of p places nodes) (greatest_top p value places nodes)
greatest_of_all p value [] nodes = none_left value
greatest_of_all p value (place ∷ places) [] = none_left value
greatest_of_all p value (place ∷ places) (Leaf mult ∷ nodes) = greatest_of_all p value places nodes
greatest_of_all p value (place ∷ places) (Split var at mult ∷ nodes) = greatest_of_all p value (halves_with var at mult place.0 ++ places) nodes
greatest_of_all p value (place ∷ places) (Open ∷ nodes) =
    one_more value (top p place.0 place.1) (tops_of p places nodes) (greatest_top p (int_max value (top p place.0 place.1)) places nodes)
    (greatest_of_all p (int_max value (top p place.0 place.1)) places nodes)

pub most_left_is_greatest : MostLeftIsGreatest
most_left_is_greatest p nodes best = greatest_of_all p (value_or_floor best) ((whole_box p, None) ∷ []) nodes
