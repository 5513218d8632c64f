use Rattle.std.proofs.Common.{◌≡◌, ◌<◌, ◌≤◌, ◌^◌, ◌∙◌, ap, length, List, ℤ, neg_ℤ, ◌-ℤ◌, rules, w64, to_z, of_z, get_or, pos, slice_set, arith}
use Rattle.std.proofs.lemmas.Int.{ints, to_z-of_z, fits_signed_from_abs}
use Rattle.std.specs.Int.RustNames.{unsigned_abs}
use Rattle.package_program.proofs.RowSteps.{turned_more, small_left}
use Rattle.package_program.proofs.rows.negated.Goals as goal
use mir.Val.{SFits}

pub loop-place-preserved : goal.loop-place-preserved
loop-place-preserved c =
    let place = c.loop-place.place in
    let number = get_or c.as_slice.result.now place (pos 0) in
    let fits : SFits w64 number = search rules in
    let kept = to_z-of_z w64 number fits in
    let inside : place < length c.args.numbers = omega (arith, c.loop-place-test.true, c.len-place-end.ensures) in
    let same : number ≡ get_or c.loop-place.numbers place (pos 0) = ap (λ (l : List ℤ). get_or l place (pos 0)) c.as_slice.ensures in
    let small : unsigned_abs number ≤ 2 ^ 60 = rw same (small_left c.args.numbers c.loop-place.numbers place (pos 0) inside c.loop-place.invariant c.requires) in
    let minus_small : unsigned_abs (pos 0 -ℤ to_z w64 (of_z w64 number)) < 2 ^ 63 = omega (arith, ints, kept, small) in
    let minus_fits = fits_signed_from_abs w64 (pos 0 -ℤ to_z w64 (of_z w64 number)) minus_small in
    let minus : to_z w64 (of_z w64 (pos 0 -ℤ to_z w64 (of_z w64 number))) ≡ neg_ℤ number =
    to_z-of_z w64 (pos 0 -ℤ to_z w64 (of_z w64 number)) minus_fits ∙ omega (arith, ints, kept) in
    turned_more c.args.numbers c.loop-place.numbers c.set.new.self place number (pos 0) inside c.loop-place.invariant
    same
    (c.set.ensures ∙ ap (λ (z : ℤ). slice_set c.loop-place.numbers place z) minus)
