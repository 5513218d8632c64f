-- A count that bounds fails for every greater number of copies.
use Rattle.std.proofs.Common.{◌≡◌, ℕ, zero, suc, ◌+◌, ◌-◌, ◌*◌, ◌/◌, ◌%◌, ◌<◌, ◌≤◌, ◌^◌, min, max, Bool, true, false, List, [], ◌∷◌, refl, sym, ap, ◌∙◌, subst, arith}
use Rattle.std.specs.Prelude.{ℤ, pos, negsuc, ◌+ℤ◌, ◌-ℤ◌, ◌*ℤ◌, ◌≤ℤ◌, Option, Some, None}
use Rattle.std.specs.Int.{div_ceil}
use lib.IntN.{neg_ℤ}
use lib.Signed.{◌<ℤ◌}
use borrow.Author.Differences.{up, down}
use Rattle.std.proofs.lemmas.Int.{ints}
use Rattle.std.proofs.lemmas.Nat.{pow-add}
use Rattle.std.proofs.Math.Nat.{mul_assoc, div-lt_iff_lt-mul, mul-le-mul_right}
use Rattle.pq_base.specs.declared.scaled.Scaled.{Scaled}
use Rattle.paql_ast.specs.declared.conditions.CmpOp.{CmpOp}
use Rattle.paql_ast.specs.declared.conditions.CmpOp.TheVariants as ops
use Rattle.paql_ast.specs.declared.aggregates.Plain.TheVariants as plains
use Rattle.paql_ast.specs.declared.aggregates.Term.TheVariants as terms
use Rattle.paql_ast.specs.declared.aggregates.SumItem.{SumItem}
use Rattle.package_query.specs.Query.{Holds}
use Rattle.bound_query.specs.Terms.{compared}
use Rattle.paql_bind.specs.Constraints.{bound_op, bound_sums, bound_range}
use Rattle.paql_bind.specs.Names.{Scope}
use Rattle.paql_bind.specs.RowBounds.{at_least_zero, floor_of, whole_below, mirrored, number_bound}
use Rattle.paql_bind.specs.Sound.{KeepsCount}
use Rattle.paql_bind.specs.Sums.{in_units, with_sign, scaled_units, sum_scale}
use Rattle.paql_bind.proofs.NumberLemmas.{ten_to_some}

-- ---- numbers and their whole parts

floor_passed : (number : ℤ) (unit copies : ℕ) → 1 ≤ unit → at_least_zero number / unit < copies → number <ℤ pos (copies * unit)
floor_passed (pos digits) unit copies some h =
    let below : digits < copies * unit = (div-lt_iff_lt-mul {k = unit} {x = digits} {y = copies} some).0 h in
    omega (arith, ints, below)
floor_passed (negsuc before) unit copies some h = omega (arith, ints)

ceil_above : (digits unit whole rest : ℕ) → unit * whole + rest ≡ digits → rest < unit → digits ≤ (whole + min 1 rest) * unit
ceil_above digits unit whole zero is within = omega arith
ceil_above digits unit whole (suc rest) is within =
    let one : min 1 (suc rest) ≡ 1 = omega arith in
    rw one (omega arith)

ceil_passed : (number : ℤ) (unit copies : ℕ) → 1 ≤ unit → div_ceil (at_least_zero number) unit - 1 < copies → number ≤ℤ pos (copies * unit)
ceil_passed (pos digits) unit copies some h =
    let whole = digits / unit in
    let rest = digits % unit in
    let above : digits ≤ (whole + min 1 rest) * unit = ceil_above digits unit whole rest (omega arith) (omega arith) in
    let within : whole + min 1 rest ≤ copies = omega arith in
    let below = mul-le-mul_right unit within in
    omega (arith, ints, above, below)
ceil_passed (negsuc before) unit copies some h = omega (arith, ints)

-- ---- in units of a finer scale

times_less : (one other : ℤ) (n : ℕ) → 1 ≤ n → one <ℤ other → (one *ℤ pos n) <ℤ (other *ℤ pos n)
times_less one other n some h =
    let e : (up one + down other) + 1 ≤ up other + down one = omega (arith, ints, h) in
    omega (arith, ints, mul-le-mul_right n e)

times_most : (one other : ℤ) (n : ℕ) → one ≤ℤ other → (one *ℤ pos n) ≤ℤ (other *ℤ pos n)
times_most one other n h =
    let e : up one + down other ≤ up other + down one = omega (arith, ints, h) in
    omega (arith, ints, mul-le-mul_right n e)

sign_times : (minus : Bool) (number : ℤ) (n : ℕ) → with_sign minus (number *ℤ pos n) ≡ with_sign minus number *ℤ pos n
sign_times true number n =
    let e : up (neg_ℤ number) + up number ≡ down (neg_ℤ number) + down number = omega (arith, ints) in
    omega (arith, ints, ap (λ (k : ℕ). k * up (pos n)) e, ap (λ (k : ℕ). k * down (pos n)) e)
sign_times false number n = refl

ten_parts : (scale places : ℕ) → places ≤ scale → 10 ^ scale ≡ 10 ^ places * 10 ^ (scale - places)
ten_parts scale places h =
    let e : scale ≡ places + (scale - places) = omega arith in
    ap (λ (n : ℕ). 10 ^ n) e ∙ pow-add 10 places (scale - places)

total_is : (scale copies : ℕ) → in_units scale 0 (pos 1) *ℤ pos copies ≡ pos (copies * 10 ^ scale)
total_is scale copies =
    let same : scale - 0 ≡ scale = omega arith in
    rw same (ap pos (omega arith))

units_parts : (scale places copies : ℕ) → places ≤ scale → (copies * 10 ^ places) * 10 ^ (scale - places) ≡ copies * 10 ^ scale
units_parts scale places copies h = mul_assoc copies (10 ^ places) (10 ^ (scale - places)) ∙ ap (λ (n : ℕ). copies * n) (sym (ten_parts scale places h))

floor_scaled : (number : ℤ) (scale places copies : ℕ) → places ≤ scale → floor_of (at_least_zero number) places < copies → in_units scale places number <ℤ pos (copies * 10 ^ scale)
floor_scaled number scale places copies within h =
    let passed = times_less number (pos (copies * 10 ^ places)) (10 ^ (scale - places)) (ten_to_some (scale - places)) (floor_passed number (10 ^ places) copies (ten_to_some places) h) in
    subst (λ (n : ℕ). in_units scale places number <ℤ pos n) (units_parts scale places copies within) passed

ceil_scaled : (number : ℤ) (scale places copies : ℕ) → places ≤ scale → whole_below (at_least_zero number) places < copies → in_units scale places number ≤ℤ pos (copies * 10 ^ scale)
ceil_scaled number scale places copies within h =
    let passed = times_most number (pos (copies * 10 ^ places)) (10 ^ (scale - places)) (ceil_passed number (10 ^ places) copies (ten_to_some places) h) in
    subst (λ (n : ℕ). in_units scale places number ≤ℤ pos n) (units_parts scale places copies within) passed

-- ---- constraints that bound

some_same : {one other : ℕ} → Some one ≡ Some other → one ≡ other
some_same h = cc h

-- the count of all copies, and a number
abbrev pub counting : Option (List ℕ) → SumItem
counting name = record { minus = false; term = terms.Agg None (record { plain = plains.Count name; only = None }) }

abbrev pub numbered : Bool → Scaled → SumItem
numbered minus number = record { minus = minus; term = terms.Number number }

high_right : (a : ℤ) → (a +ℤ pos 0) -ℤ pos 0 ≡ a
high_right a = omega (arith, ints)

high_left : (a : ℤ) → pos 0 -ℤ (a +ℤ pos 0) ≡ neg_ℤ a
high_left a = omega (arith, ints)

total_left : (scale copies : ℕ) → neg_ℤ (in_units scale 0 (pos 1)) *ℤ pos copies ≡ neg_ℤ (pos (copies * 10 ^ scale))
total_left scale copies = sym (sign_times true (in_units scale 0 (pos 1)) copies) ∙ ap neg_ℤ (total_is scale copies)

most_fails : (total high product : ℤ) (limit : ℕ) → total ≡ pos limit → high ≡ product → product <ℤ pos limit → total ≤ℤ high → ⊥
most_fails total high product limit is same passed holds = omega (arith, ints, is, same, passed, holds)

below_fails : (total high product : ℤ) (limit : ℕ) → total ≡ pos limit → high ≡ product → product ≤ℤ pos limit → total <ℤ high → ⊥
below_fails total high product limit is same passed holds = omega (arith, ints, is, same, passed, holds)

equal_fails : (total high product : ℤ) (limit : ℕ) → total ≡ pos limit → high ≡ product → product <ℤ pos limit → total ≡ high → ⊥
equal_fails total high product limit is same passed holds = omega (arith, ints, is, same, passed, holds)

least_fails : (total high product : ℤ) (limit : ℕ) → total ≡ neg_ℤ (pos limit) → high ≡ neg_ℤ product → product <ℤ pos limit → high ≤ℤ total → ⊥
least_fails total high product limit is same passed holds = omega (arith, ints, is, same, passed, holds)

above_fails : (total high product : ℤ) (limit : ℕ) → total ≡ neg_ℤ (pos limit) → high ≡ neg_ℤ product → product ≤ℤ pos limit → high <ℤ total → ⊥
above_fails total high product limit is same passed holds = omega (arith, ints, is, same, passed, holds)

opposite_fails : (total high product : ℤ) (limit : ℕ) → total ≡ neg_ℤ (pos limit) → high ≡ neg_ℤ product → product <ℤ pos limit → total ≡ high → ⊥
opposite_fails total high product limit is same passed holds = omega (arith, ints, is, same, passed, holds)

-- `count op number` fails for more copies than the bound
left_fails : (scale : ℕ) (op : CmpOp) (minus : Bool) (number : Scaled) (most copies : ℕ) → number.scale ≤ scale → number_bound op minus number ≡ Some most → most < copies
    → Holds (compared (bound_op op) (pos 0) ((with_sign minus (scaled_units scale number) +ℤ pos 0) -ℤ pos 0)) (in_units scale 0 (pos 1) *ℤ pos copies) → ⊥
left_fails scale ops.Le minus number most copies within is above holds =
    let signed = with_sign minus number.mant in
    most_fails (in_units scale 0 (pos 1) *ℤ pos copies) ((with_sign minus (scaled_units scale number) +ℤ pos 0) -ℤ pos 0) (in_units scale number.scale signed) (copies * 10 ^ scale)
    (total_is scale copies) (high_right (with_sign minus (scaled_units scale number)) ∙ sign_times minus number.mant (10 ^ (scale - number.scale)))
    (floor_scaled signed scale number.scale copies within (subst (λ (n : ℕ). n < copies) (sym (some_same is)) above)) holds
left_fails scale ops.Eq minus number most copies within is above holds =
    let signed = with_sign minus number.mant in
    equal_fails (in_units scale 0 (pos 1) *ℤ pos copies) ((with_sign minus (scaled_units scale number) +ℤ pos 0) -ℤ pos 0) (in_units scale number.scale signed) (copies * 10 ^ scale)
    (total_is scale copies) (high_right (with_sign minus (scaled_units scale number)) ∙ sign_times minus number.mant (10 ^ (scale - number.scale)))
    (floor_scaled signed scale number.scale copies within (subst (λ (n : ℕ). n < copies) (sym (some_same is)) above)) holds
left_fails scale ops.Lt minus number most copies within is above holds =
    let signed = with_sign minus number.mant in
    below_fails (in_units scale 0 (pos 1) *ℤ pos copies) ((with_sign minus (scaled_units scale number) +ℤ pos 0) -ℤ pos 0) (in_units scale number.scale signed) (copies * 10 ^ scale)
    (total_is scale copies) (high_right (with_sign minus (scaled_units scale number)) ∙ sign_times minus number.mant (10 ^ (scale - number.scale)))
    (ceil_scaled signed scale number.scale copies within (subst (λ (n : ℕ). n < copies) (sym (some_same is)) above)) holds
left_fails scale ops.Ge minus number most copies within is above holds = absurd (cc is)
left_fails scale ops.Gt minus number most copies within is above holds = absurd (cc is)
left_fails scale ops.Ne minus number most copies within is above holds = absurd (cc is)

-- so does `number op count`
right_fails : (scale : ℕ) (op : CmpOp) (minus : Bool) (number : Scaled) (most copies : ℕ) → number.scale ≤ scale → number_bound (mirrored op) minus number ≡ Some most → most < copies
    → Holds (compared (bound_op op) (pos 0) (pos 0 -ℤ (with_sign minus (scaled_units scale number) +ℤ pos 0))) (neg_ℤ (in_units scale 0 (pos 1)) *ℤ pos copies) → ⊥
right_fails scale ops.Ge minus number most copies within is above holds =
    let signed = with_sign minus number.mant in
    least_fails (neg_ℤ (in_units scale 0 (pos 1)) *ℤ pos copies) (pos 0 -ℤ (with_sign minus (scaled_units scale number) +ℤ pos 0)) (in_units scale number.scale signed) (copies * 10 ^ scale)
    (total_left scale copies) (high_left (with_sign minus (scaled_units scale number)) ∙ ap neg_ℤ (sign_times minus number.mant (10 ^ (scale - number.scale))))
    (floor_scaled signed scale number.scale copies within (subst (λ (n : ℕ). n < copies) (sym (some_same is)) above)) holds
right_fails scale ops.Eq minus number most copies within is above holds =
    let signed = with_sign minus number.mant in
    opposite_fails (neg_ℤ (in_units scale 0 (pos 1)) *ℤ pos copies) (pos 0 -ℤ (with_sign minus (scaled_units scale number) +ℤ pos 0)) (in_units scale number.scale signed) (copies * 10 ^ scale)
    (total_left scale copies) (high_left (with_sign minus (scaled_units scale number)) ∙ ap neg_ℤ (sign_times minus number.mant (10 ^ (scale - number.scale))))
    (floor_scaled signed scale number.scale copies within (subst (λ (n : ℕ). n < copies) (sym (some_same is)) above)) holds
right_fails scale ops.Gt minus number most copies within is above holds =
    let signed = with_sign minus number.mant in
    above_fails (neg_ℤ (in_units scale 0 (pos 1)) *ℤ pos copies) (pos 0 -ℤ (with_sign minus (scaled_units scale number) +ℤ pos 0)) (in_units scale number.scale signed) (copies * 10 ^ scale)
    (total_left scale copies) (high_left (with_sign minus (scaled_units scale number)) ∙ ap neg_ℤ (sign_times minus number.mant (10 ^ (scale - number.scale))))
    (ceil_scaled signed scale number.scale copies within (subst (λ (n : ℕ). n < copies) (sym (some_same is)) above)) holds
right_fails scale ops.Le minus number most copies within is above holds = absurd (cc is)
right_fails scale ops.Lt minus number most copies within is above holds = absurd (cc is)
right_fails scale ops.Ne minus number most copies within is above holds = absurd (cc is)

pub left_keeps : (scope : Scope) (name : Option (List ℕ)) (op : CmpOp) (minus : Bool) (number : Scaled) (most : ℕ) → number_bound op minus number ≡ Some most → KeepsCount most (bound_sums scope (counting name ∷ []) (bound_op op) (numbered minus number ∷ []))
left_keeps scope name op minus number most is =
    let scale = max (sum_scale scope (counting name ∷ [])) (sum_scale scope (numbered minus number ∷ [])) in
    record {
      factor = in_units scale 0 (pos 1);
      count = refl;
      fails = λ copies above. left_fails scale op minus number most copies (omega arith) is above;
    }

pub right_keeps : (scope : Scope) (name : Option (List ℕ)) (op : CmpOp) (minus : Bool) (number : Scaled) (most : ℕ) → number_bound (mirrored op) minus number ≡ Some most → KeepsCount most (bound_sums scope (numbered minus number ∷ []) (bound_op op) (counting name ∷ []))
right_keeps scope name op minus number most is =
    let scale = max (sum_scale scope (numbered minus number ∷ [])) (sum_scale scope (counting name ∷ [])) in
    record {
      factor = neg_ℤ (in_units scale 0 (pos 1));
      count = refl;
      fails = λ copies above. right_fails scale op minus number most copies (omega arith) is above;
    }

-- BETWEEN fails by its upper end
pub range_keeps : (scope : Scope) (name : Option (List ℕ)) (low high : Scaled) (most : ℕ) → number_bound ops.Le false high ≡ Some most → KeepsCount most (bound_range scope (counting name ∷ []) low high)
range_keeps scope name low high most is =
    let scale = max (sum_scale scope (counting name ∷ [])) (max low.scale high.scale) in
    record {
      factor = in_units scale 0 (pos 1);
      count = refl;
      fails = λ copies above holds.
          most_fails (in_units scale 0 (pos 1) *ℤ pos copies) (scaled_units scale high -ℤ pos 0) (scaled_units scale high) (copies * 10 ^ scale)
          (total_is scale copies) (omega (arith, ints))
          (floor_scaled high.mant scale high.scale copies (omega arith) (subst (λ (n : ℕ). n < copies) (sym (some_same is)) above)) holds.1;
    }
