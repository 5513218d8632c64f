-- Lemmas on runs of points.
use Rattle.std.proofs.Common.{◌≡◌, ℕ, ◌+◌, ◌-◌, ◌*◌, ◌<◌, ◌≤◌, min, List, [], ◌∷◌, ◌++◌, length, get_or, take, drop, map, refl, sym, ap, ◌∙◌, arith}
use Rattle.std.specs.List.{range_with_len}
use Rattle.std.proofs.lemmas.List.{take-map, drop-map, map-append, take_min, length-drop}
use Rattle.quadtree.specs.Points.{Point}
use Rattle.quadtree.specs.Groups.{run_of}
use Rattle.quadtree.specs.Places.{point_at, points_at}
use Rattle.quadtree.proofs.Lists.{range-more}

pub run-is : (points : List Point) (places : List ℕ) (size number start end : ℕ) → start ≡ number * size → end ≡ min (length places) (start + size) → points_at points (take (end - start) (drop start places)) ≡ run_of size (points_at points places) number
run-is points places size number start end first last =
    let rest = drop start places in
    let count : end - start ≡ min size (length rest) = omega (arith, length-drop start places) in
    let one : take (end - start) rest ≡ take size rest = ap (λ (n : ℕ). take n rest) count ∙ take_min size rest in
    ap (points_at points) one
    ∙ sym (take-map (point_at points) size rest)
    ∙ ap (take size) (sym (drop-map (point_at points) start places))
    ∙ ap (λ (n : ℕ). take size (drop n (points_at points places))) first

-- one number more
pub mapped-more : {X Y : Type 0} (f : X → Y) (g : ℕ → X) (n : ℕ) → map f (map g (range_with_len 0 (n + 1))) ≡ map f (map g (range_with_len 0 n)) ++ f (g n) ∷ []
mapped-more f g n =
    ap (λ (xs : List ℕ). map f (map g xs)) (range-more n)
    ∙ ap (map f) (map-append g (range_with_len 0 n) (n ∷ []))
    ∙ map-append f (map g (range_with_len 0 n)) (g n ∷ [])
