-- Lemmas on lists of points that are divided by one column after another.
use Rattle.std.proofs.Common.{◌≡◌, ℕ, ◌+◌, ◌<◌, List, [], ◌∷◌, ◌++◌, length, map, Bool, refl, sym, ap, ◌∙◌, arith}
use Rattle.std.specs.List.{flat_map, range_with_len}
use Rattle.std.proofs.lemmas.List.FromFn.{map-range_with_len_more}
use Rattle.quadtree.specs.Points.{Point, is_above, floored_mean}
use Rattle.quadtree.specs.Groups.{halves, divided, tests_of}

divided-push : (tests : List (Point → Bool)) (above : Point → Bool) (lists : List (List Point)) → divided (tests ++ above ∷ []) lists ≡ flat_map (halves above) (divided tests lists)
divided-push [] above lists = refl
divided-push (test ∷ tests) above lists = divided-push tests above (flat_map (halves test) lists)

-- one column more
pub divided-more : (column : ℕ) (points : List Point) (lists : List (List Point)) → divided (tests_of (column + 1) points) lists ≡ flat_map (halves (is_above (floored_mean column points) column)) (divided (tests_of column points) lists)
divided-more column points lists =
    ap (λ (tests : List (Point → Bool)). divided tests lists) (map-range_with_len_more (λ (n : ℕ). is_above (floored_mean n points) n) 0 column column (omega arith))
    ∙ divided-push (tests_of column points) (is_above (floored_mean column points) column) lists
