-- What is closed or open for one value, and so for others.
use Rattle.std.proofs.Common.{ℕ, List, ap, arith}
use Rattle.std.specs.Prelude.{ℤ, pos, ◌+ℤ◌, ◌*ℤ◌, Option, None, Some}
use Rattle.std.proofs.lemmas.Int.{ints}
use Rattle.std.proofs.Math.IntN.{zero-*ℤ}
use Rattle.lin_bound.specs.Problem.{ProblemData}
use Rattle.lin_bound.specs.Bound.{Closes, plain}
use Rattle.lin_bound.specs.declared.region.Region.{Region}
use Rattle.lin_bound.specs.declared.mult.Mult.{Mult}
use Rattle.lin_bound.specs.declared.path.Branch.{Branch}
use Rattle.lin_bound.proofs.Products.{mul-mono}
use Rattle.cert_tree.specs.declared.records.Act.{Act}
use Rattle.cert_tree.specs.declared.records.Act.TheVariants.{Closed, Split}
use Rattle.cert_tree.specs.Values.{IsAtMost}
use Rattle.cert_tree.specs.Partial.{PlainlyOpen}
use Rattle.cert_tree.specs.declared.records.Record.{Record}
use Rattle.cert_tree.specs.Laws.{IsRight, IsPlainlyRight, WasPlainlyRight}

-- what closes a box for one value closes it for each greater one
pub closes_more : (p : ProblemData) (box : Region) (mult : Mult) (value most : Option ℤ) → IsAtMost value most → Closes p box mult value → Closes p box mult most
closes_more p box mult None None below closed = closed
closes_more p box mult None (Some most) below closed =
    omega (arith, ints, closed.1, ap (λ (d : ℕ). pos d *ℤ (most +ℤ pos 1)) closed.0, zero-*ℤ (most +ℤ pos 1))
closes_more p box mult (Some value) None below closed = absurd below
closes_more p box mult (Some value) (Some most) below closed =
    omega (arith, ints, closed, mul-mono mult.d (value +ℤ pos 1) (most +ℤ pos 1) (omega (arith, ints, below)))

-- what is plainly open for one value is so for each less one, and for none
pub plainly_open_less : (p : ProblemData) (box : Region) (value most : Option ℤ) → IsAtMost value most → PlainlyOpen p box most → PlainlyOpen p box value
plainly_open_less p box value most below plainly =
    record {
      more = plainly.more;
      unclosed = λ number h closed. plainly.unclosed number h (closes_more p box (plain p number) value most below closed);
    }

pub plainly_open_none : (p : ProblemData) (box : Region) (best : Option ℤ) → PlainlyOpen p box best → PlainlyOpen p box None
plainly_open_none p box best plainly = plainly_open_less p box None best tt plainly

-- a record that is right for one value is right for each greater one
pub right_more : (p : ProblemData) (value most : Option ℤ) (path : List Branch) (act : Act) → IsAtMost value most → IsRight p value path act → IsRight p most path act
right_more p value most path (Closed mult) below right = closes_more p _ mult value most below right
right_more p value most path (Split var at mult) below right = right

pub plainly_right_more : (p : ProblemData) (value most seen : Option ℤ) (path : List Branch) (act : Act)
    → IsAtMost value most → IsPlainlyRight p value seen path act → IsPlainlyRight p most seen path act
plainly_right_more p value most seen path (Closed mult) below right = closes_more p _ mult value most below right
plainly_right_more p value most seen path (Split var at mult) below right = right

-- one that is plainly right, whatever value was seen for it, is so for no value seen
pub plainly_right_none : (p : ProblemData) (best seen : Option ℤ) (path : List Branch) (act : Act)
    → IsPlainlyRight p best seen path act → IsPlainlyRight p best None path act
plainly_right_none p best seen path (Closed mult) right = right
plainly_right_none p best seen path (Split var at mult) right = (right.0, plainly_open_none p _ seen right.1)

pub was_plainly_right : (p : ProblemData) (best : Option ℤ) (done : Record) → WasPlainlyRight p best done → IsPlainlyRight p best None done.path done.act
was_plainly_right p best done right = plainly_right_none p best right.0 done.path done.act right.1

-- a record that is plainly right is right
pub right_of_plainly : (p : ProblemData) (best seen : Option ℤ) (path : List Branch) (act : Act)
    → IsPlainlyRight p best seen path act → IsRight p best path act
right_of_plainly p best seen path (Closed mult) right = right
right_of_plainly p best seen path (Split var at mult) right = right.0
