-- What a part gives, and how large it is.
use Rattle.std.proofs.Common.{◌≡◌, ℕ, ◌+◌, ◌*◌, ◌^◌, ◌<◌, ◌≤◌, List, length, arith, mul-le-mul_right}
use Rattle.std.specs.Prelude.{ℤ, pos, ◌+ℤ◌, ◌*ℤ◌, unsigned_abs, FitsSigned}
use Rattle.std.proofs.lemmas.Int.{unsigned_abs-mul, fits_signed_from_abs}
use mir.Syntax.{w128}
use mir.Val.{SFits, to_z, of_z}
use Rattle.lin_bound.specs.Sums.{sum_below, int_at, nat_at}
use Rattle.lin_bound.specs.Problem.{ProblemData, variables, load, IsLegal}
use Rattle.lin_bound.proofs.Sums.{count-more}
use Rattle.lin_bound.proofs.Sizes.{abs-sum_below, stored}
use Rattle.sketch.specs.Parts.{mean, upper_sum, IsEven, IsPartOf}
use Rattle.sketch.specs.Lines.{numbers_of, IsLineOf}
use Rattle.sketch.specs.Held.{given, IsHeldOf, IsRealOf}
use Rattle.sketch.specs.declared.held.HeldPart.{HeldPart}
use Rattle.sketch.specs.declared.held.HeldPart.TheVariants.{Sketch, Real}
use Rattle.sketch.specs.declared.lines.Line.{Line}
use Rattle.sketch.specs.declared.lines.Line.TheVariants.{Cost, Row}
use Rattle.sketch.proofs.Cuts.{part-le}
use Rattle.sketch.proofs.Means.{part_load, sum_more}

-- a line of a legal problem is light
pub line_load : (p : ProblemData) (line : Line) → IsLegal p → IsLineOf p line → load p.upper (numbers_of p line) (variables p) ≤ 2 ^ 60
line_load p Cost legal has = legal.cost_load
line_load p (Row j) legal has = legal.row_loads j has

-- what a member gives
abbrev pub gift : List ℤ → List ℕ → List ℕ → ℕ → ℤ
gift numbers part counts k = int_at numbers (nat_at part k) *ℤ pos (nat_at counts k)

module _ (p : ProblemData) (numbers : List ℤ) (part : List ℕ) (is : IsPartOf p part) where
  weigh : ℕ → ℕ
  weigh i = nat_at p.upper i * unsigned_abs (int_at numbers i)

  -- the first members give no more than the load
  pub gifts_size : (counts : List ℕ) → IsRealOf p part counts → (n : ℕ) → n ≤ length part → unsigned_abs (sum_below (gift numbers part counts) n) ≤ load p.upper numbers (variables p)
  unfolding weigh
  gifts_size counts real n h =
      let size = abs-sum_below (gift numbers part counts) (λ (k : ℕ). weigh (nat_at part k)) n
      (λ k l. omega (arith, unsigned_abs-mul (int_at numbers (nat_at part k)) (pos (nat_at counts k)), mul-le-mul_right (unsigned_abs (int_at numbers (nat_at part k))) (real.within k (omega (arith, l, h))))) in
      omega (arith, size, count-more (λ (k : ℕ). weigh (nat_at part k)) n (length part) h, part-le weigh p part is)

  sketch_size : IsEven p → (count : ℕ) → count ≤ upper_sum p.upper part → unsigned_abs (mean numbers part *ℤ pos count) ≤ load p.upper numbers (variables p)
  unfolding weigh
  sketch_size even count h =
      let whole = part_load p.upper part numbers (nat_at p.upper 0) (λ k l. even.same (nat_at part k) (is.each k l)) in
      let less = mul-le-mul_right (unsigned_abs (mean numbers part)) h in
      omega (arith, whole, less, part-le weigh p part is, unsigned_abs-mul (mean numbers part) (pos count))

  pub given_size : IsEven p → (held : HeldPart) → IsHeldOf p part held → unsigned_abs (given numbers part held) ≤ load p.upper numbers (variables p)
  given_size even (Sketch count) within = sketch_size even count within
  given_size even (Real counts) real = gifts_size counts real (length part) (omega arith)

-- one member's gift more fits, and is what the machine adds
module _ (p : ProblemData) (line : Line) (part counts : List ℕ) (legal : IsLegal p) (has : IsLineOf p line) (is : IsPartOf p part) (real : IsRealOf p part counts) (i : ℕ) (total one : ℤ) (h : i < length part) (total_is : total ≡ sum_below (gift (numbers_of p line) part counts) i) (one_is : one ≡ gift (numbers_of p line) part counts i) where
  gift_more : total +ℤ one ≡ sum_below (gift (numbers_of p line) part counts) (i + 1)
  gift_more = sum_more (gift (numbers_of p line) part counts) i total one total_is one_is

  pub gift_fits : FitsSigned w128 (total +ℤ one)
  gift_fits =
      let small = gifts_size p (numbers_of p line) part is counts real (i + 1) (omega (arith, h)) in
      let size : unsigned_abs (total +ℤ one) ≤ 2 ^ 60 = rw gift_more (omega (arith, small, line_load p line legal has)) in
      fits_signed_from_abs w128 (total +ℤ one) (omega (arith, size))

  pub stored_gift : SFits w128 one → to_z w128 (of_z w128 (total +ℤ to_z w128 (of_z w128 one))) ≡ sum_below (gift (numbers_of p line) part counts) (i + 1)
  stored_gift fits =
      stored total one (sum_below (gift (numbers_of p line) part counts) (i + 1)) fits gift_fits gift_more

-- what is given to a line of a legal problem is small
pub line_small : (p : ProblemData) (line : Line) (part : List ℕ) (held : HeldPart) (number : ℤ) → IsLegal p → IsLineOf p line → IsEven p → IsPartOf p part → IsHeldOf p part held → number ≡ given (numbers_of p line) part held → unsigned_abs number ≤ 2 ^ 60
line_small p line part held number legal has even is within number_is =
    rw number_is (omega (arith, given_size p (numbers_of p line) part is even held within, line_load p line legal has))
