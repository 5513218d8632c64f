-- One call gives one thing.
use Rattle.std.proofs.Common.{◌≡◌, ℕ, Option, None, Some, List, length, inl, inr, refl, sym, ap, ◌∙◌, subst, length-append, arith}
use Rattle.session_proto.specs.Input.{Input, Content, absent, held, skipped, GivesStatement, GivesContent, IsContent, IsPartial, Needs, IsTooLong, statement, content, need, too_long}
use Rattle.session_proto.specs.Sessions.{OneNext}
use Rattle.session_proto.specs.declared.framer.Awaited.{Awaited}
use Rattle.session_proto.proofs.Framing.{no_frame_open, no_frame_too_long, statement_once, no_statement, rest_once}
use Rattle.session_proto.proofs.SessionSteps.{parts_once, some_once}

none_some : {A : Type 0} (o : Option A) (x : A) → o ≡ None → o ≡ Some x → ⊥
none_some o x none some = cc

input_same : (i j : Input) → i.left ≡ j.left → i.awaited ≡ j.awaited → i ≡ j
input_same i j left awaited =
    let middle : Input = record { left = j.left; awaited = i.awaited } in
    let one : i ≡ middle = ap (λ (w : List ℕ). record { left = w; awaited = i.awaited }) left in
    let two : middle ≡ j = ap (λ (a : Option Awaited). record { left = j.left; awaited = a }) awaited in
    one ∙ two

statement_need : (input x y : Input) (text : List ℕ) → GivesStatement input text x → Needs input.awaited input y → ⊥
statement_need input x y text gives needs =
    let at_none = subst (λ (a : Option Awaited). Needs a input y) gives.before needs in
    no_statement input.left y.left text x.left at_none.1 (no_frame_open y.left at_none.2) gives.is_statement gives.first

statement_too_long : (input x y : Input) (text : List ℕ) → GivesStatement input text x → IsTooLong input y → ⊥
statement_too_long input x y text gives long =
    no_statement input.left y.left text x.left long.skips (no_frame_too_long y.left long.long long.is_open) gives.is_statement gives.first

content_need : (input x y : Input) (given : Content) → GivesContent input given x → Needs input.awaited input y → ⊥
content_need input x y given gives needs =
    let at_body = subst (λ (a : Option Awaited). Needs a input y) gives.before needs in
    partial given gives.body input.left x.left gives.is_content at_body.1
  where
    partial : (given : Content) (body : Awaited) (left rest : List ℕ) → IsContent body left given rest → IsPartial body left → ⊥
    partial absent body left rest is some = is
    partial (held bytes) body left rest is (inl large) = omega (arith, is.0, large.0)
    partial (held bytes) body left rest is (inr small) =
        omega (arith, is.1, small.1, ap (λ (w : List ℕ). length w) is.2, length-append bytes rest)
    partial (skipped count) body left rest is (inl large) = omega (arith, is.1, large.1)
    partial (skipped count) body left rest is (inr small) = omega (arith, is.0, small.0)

need_too_long : (input x y : Input) → Needs input.awaited input x → IsTooLong input y → ⊥
need_too_long input x y needs long =
    let at_none = subst (λ (a : Option Awaited). Needs a input x) long.before needs in
    let same : x.left ≡ y.left = rest_once input.left x.left y.left at_none.1 long.skips (no_frame_open x.left at_none.2) (no_frame_too_long y.left long.long long.is_open) in
    omega (arith, at_none.3, long.long, ap (λ (w : List ℕ). length w) same)

needs_once : (awaited : Option Awaited) (input x y : Input) → Needs awaited input x → Needs awaited input y → x ≡ y
needs_once None input x y one other =
    input_same x y (rest_once input.left x.left y.left one.1 other.1 (no_frame_open x.left one.2) (no_frame_open y.left other.2)) (one.0 ∙ sym other.0)
needs_once (Some body) input x y one other = one.0 ∙ sym other.0

content_once : (body : Awaited) (left x y : List ℕ) (c d : Content) → IsContent body left c x → IsContent body left d y → (c ≡ d) × (x ≡ y)
content_once body left x y absent d one other = absurd one
content_once body left x y (held bytes) absent one other = absurd other
content_once body left x y (held bytes) (held others) one other =
    let same = parts_once bytes others x y (one.1 ∙ sym other.1) (sym one.2 ∙ other.2) in
    (ap (λ (w : List ℕ). held w) same.0, same.1)
content_once body left x y (held bytes) (skipped count) one other = absurd (omega (arith, one.0, other.0))
content_once body left x y (skipped count) absent one other = absurd other
content_once body left x y (skipped count) (held bytes) one other = absurd (omega (arith, one.0, other.0))
content_once body left x y (skipped count) (skipped more) one other =
    (ap (λ (n : ℕ). skipped n) (one.2 ∙ sym other.2), one.3 ∙ sym other.3)

pub one_next : OneNext
one_next input (statement t) (statement u) x y one other =
    let same = statement_once input.left t u x.left y.left one.is_statement other.is_statement one.first other.first in
    (ap (λ (w : List ℕ). statement w) same.0, input_same x y same.1 (one.behind ∙ sym other.behind))
one_next input (statement t) (content d) x y one other = absurd (none_some input.awaited other.body one.before other.before)
one_next input (statement t) need x y one other = absurd (statement_need input x y t one other)
one_next input (statement t) too_long x y one other = absurd (statement_too_long input x y t one other)
one_next input (content c) (statement u) x y one other = absurd (none_some input.awaited one.body other.before one.before)
one_next input (content c) (content d) x y one other =
    let body : other.body ≡ one.body = some_once other.body one.body (sym other.before ∙ one.before) in
    let second = subst (λ (b : Awaited). IsContent b input.left d y.left) body other.is_content in
    let same = content_once one.body input.left x.left y.left c d one.is_content second in
    (ap (λ (w : Content). content w) same.0, input_same x y same.1 (one.behind ∙ sym other.behind))
one_next input (content c) need x y one other = absurd (content_need input x y c one other)
one_next input (content c) too_long x y one other = absurd (none_some input.awaited one.body other.before one.before)
one_next input need (statement u) x y one other = absurd (statement_need input y x u other one)
one_next input need (content d) x y one other = absurd (content_need input y x d other one)
one_next input need need x y one other = (refl, needs_once input.awaited input x y one other)
one_next input need too_long x y one other = absurd (need_too_long input x y one other)
one_next input too_long (statement u) x y one other = absurd (statement_too_long input y x u other one)
one_next input too_long (content d) x y one other = absurd (none_some input.awaited other.body one.before other.before)
one_next input too_long need x y one other = absurd (need_too_long input y x other one)
one_next input too_long too_long x y one other =
    (refl, input_same x y (rest_once input.left x.left y.left one.skips other.skips (no_frame_too_long x.left one.long one.is_open) (no_frame_too_long y.left other.long other.is_open)) (one.behind ∙ sym other.behind))
