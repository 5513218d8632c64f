-- Reading a text line by line.
use Rattle.std.proofs.Common.{◌≡◌, ◌≢◌, ◌⊎◌, ℕ, zero, suc, ◌+◌, ◌-◌, ◌^◌, ◌<◌, ◌≤◌, List, [], ◌∷◌, ◌++◌, length, map, take, drop, replicate, refl, sym, ◌∙◌, ap, subst, arith, inl, inr, append_assoc}
use Rattle.std.specs.Prelude.{Result, Ok, Err}
use Rattle.std.specs.List.{AllByRecursion}
use Rattle.std.proofs.lemmas.List.{append-nil, append_cancel_right, take-append-drop, drop-drop, drop_at, length-drop, length-append, length-map, length_push}
use Rattle.cert_text.specs.declared.value.CertText.{CertText}
use Rattle.cert_text.specs.declared.value.Part.{Part}
use Rattle.cert_text.specs.declared.value.CertFault.{CertFault}
use Rattle.cert_text.specs.declared.value.CertFault.TheVariants.{BadHeader, BadLine, Truncated, Trailing, Memory}
use Rattle.cert_text.specs.declared.numbers.Range.{Range}
use Rattle.cert_text.specs.declared.kinds.Kind.{Kind}
use Rattle.cert_text.specs.declared.kinds.Kind.TheVariants.{Header, Vars, Rows, Optimal, OptimalMinus, Infeasible, Undecided, UndecidedMinus, UndecidedNone, Package, Pair, Close, Split, Open, End}
use Rattle.cert_text.specs.declared.kinds.Expect.{Expect}
use Rattle.cert_text.specs.declared.kinds.Expect.TheVariants.{AtHeader, AtVars, AtRows, AtClaim, AtPackage, AtPairs, AtNodes, AtEnd, Done}
use Rattle.cert_text.specs.Numbers.{IsWithin, AllWithin}
use Rattle.cert_text.specs.Lines.{Row, row, line_of, text_of}
use Rattle.cert_text.specs.Expected.{range, weight_range, ranges, rows_in, after, first, nodes_or_end, pairs_or_nodes, trees_in, IsSound}
use Rattle.cert_text.specs.Certs.{IsCert, cert_text, rows_of, line_count}
use Rattle.cert_text.specs.Rules.{Follows, Leads, BeginsRow, HasNoFeed, tail, taken, rows_until, Carries, AreWeights}
use Rattle.cert_text.specs.Answers.{BeginsWith, GoesOn, IsTruncated, HasTrailing, lines_text, IsBadLine, IsFault, IsPart, IsBadNext, IsNextFault, IsNextRow}
use Rattle.cert_text.proofs.Texts.{text-append}
use Rattle.cert_text.proofs.Decimals.{cut_twice}
use Rattle.cert_text.proofs.Apart.{no_feed_line, cut_line, follow, rows_lead, GoOn}
use Rattle.cert_text.proofs.Steps.{IsStage, Stepped, step, sound, Completes, complete, start, done_rows}

-- the numbers of a line that may come fit what they are kept in
first_within : (r : Range) (rs : List Range) (numbers : List ℕ) → AllWithin (r ∷ rs) numbers → IsWithin r (first numbers)
first_within r rs [] within = absurd within
first_within r rs (n ∷ numbers) within = within.0

tail_within : (r : Range) (rs : List Range) (numbers : List ℕ) → AllWithin (r ∷ rs) numbers → AllWithin rs (tail numbers)
tail_within r rs [] within = absurd within
tail_within r rs (n ∷ numbers) within = within.1

weights : (m : ℕ) (numbers : List ℕ) → AllWithin (replicate m weight_range) numbers → AreWeights numbers
weights zero [] within = tt
weights zero (n ∷ numbers) within = absurd within
weights (suc m) [] within = absurd within
weights (suc m) (n ∷ numbers) within = (within.0.high, weights m numbers within.1)

carried : (expect : Expect) (kind : Kind) (numbers : List ℕ) → AllWithin (ranges expect kind) numbers → Carries kind numbers
carried expect Header numbers within = tt
carried expect Vars numbers within = omega (arith, (first_within (range 0 (2 ^ 32 - 1)) [] numbers within).high)
carried expect Rows numbers within = omega (arith, (first_within (range 0 64) [] numbers within).high)
carried expect Optimal numbers within = (first_within (range 0 (2 ^ 60)) [] numbers within).high
carried expect OptimalMinus numbers within = (first_within (range 1 (2 ^ 60)) [] numbers within).high
carried expect Infeasible numbers within = tt
carried expect Undecided numbers within = (first_within (range 0 (2 ^ 60)) [] numbers within).high
carried expect UndecidedMinus numbers within = (first_within (range 1 (2 ^ 60)) [] numbers within).high
carried expect UndecidedNone numbers within = tt
carried expect Package numbers within = tt
carried expect Pair numbers within = tt
carried expect Close numbers within =
    let others : List Range = replicate (rows_in expect) weight_range in
    ((first_within weight_range others numbers within).high, weights (rows_in expect) (tail numbers) (tail_within weight_range others numbers within))
carried expect Split numbers within =
    let others : List Range = replicate (rows_in expect) weight_range in
    let rest = tail_within (range 1 (2 ^ 32 - 1)) (range 0 (10 ^ 12) ∷ (weight_range ∷ others)) numbers within in
    let mult = tail_within (range 0 (10 ^ 12)) (weight_range ∷ others) (tail numbers) rest in
    let var = first_within (range 1 (2 ^ 32 - 1)) (range 0 (10 ^ 12) ∷ (weight_range ∷ others)) numbers within in
    (var.low, omega (arith, var.high), (first_within weight_range others (tail (tail numbers)) mult).high, weights (rows_in expect) (tail (tail (tail numbers))) (tail_within weight_range others (tail (tail numbers)) mult))
carried expect Open numbers within = tt
carried expect End numbers within = tt

pub carries : (expect : Expect) (kind : Kind) (numbers : List ℕ) → Follows expect kind numbers → Carries kind numbers
carries expect kind numbers follows = carried expect kind numbers follows.1

-- a line adds one tree at most
trees_pairs : (m low n : ℕ) → trees_in (pairs_or_nodes m low n) ≡ 0
trees_pairs m low zero = refl
trees_pairs m low (suc n) = refl

trees_nodes : (m n : ℕ) → trees_in (nodes_or_end m n) ≤ n
trees_nodes m zero = omega arith
trees_nodes m (suc n) = omega arith

trees_more : (expect : Expect) (kind : Kind) (numbers : List ℕ) → trees_in (after expect kind numbers) ≤ trees_in expect + 1
trees_more expect Header numbers = omega arith
trees_more expect Vars numbers = omega arith
trees_more expect Rows numbers = omega arith
trees_more expect Optimal numbers = omega arith
trees_more expect OptimalMinus numbers = omega arith
trees_more expect Infeasible numbers = omega arith
trees_more expect Undecided numbers = omega arith
trees_more expect UndecidedMinus numbers = omega arith
trees_more expect UndecidedNone numbers = omega arith
trees_more expect Package numbers = omega (arith, trees_pairs (rows_in expect) 0 (first numbers))
trees_more (AtPairs rows low left) Pair numbers = omega (arith, trees_pairs rows (first numbers + 1) left)
trees_more (AtNodes rows trees) Close numbers = omega (arith, trees_nodes rows trees)
trees_more (AtNodes rows trees) Split numbers = omega arith
trees_more (AtNodes rows trees) Open numbers = omega (arith, trees_nodes rows trees)
trees_more expect Pair numbers = omega arith
trees_more expect Close numbers = omega arith
trees_more expect Split numbers = omega arith
trees_more expect Open numbers = omega arith
trees_more expect End numbers = omega arith

leads_push : (from to : Expect) (rows : List Row) (kind : Kind) (numbers : List ℕ) → Leads from rows to → Follows to kind numbers → Leads from (rows ++ row kind numbers ∷ []) (after to kind numbers)
leads_push from to [] kind numbers leads follows =
    subst (λ (some : Expect). Follows some kind numbers × (after some kind numbers ≡ after to kind numbers)) (sym leads) (follows, refl)
leads_push from to (one ∷ rows) kind numbers leads follows = (leads.0, leads_push (after from one.kind one.numbers) to rows kind numbers leads.1 follows)

-- what comes after some lines
pub record IsReading (text : List ℕ) (expect : Expect) (cert : CertText) (end count : ℕ) : Type 0 where
  pub stage : IsStage expect cert
  pub leads : Leads AtHeader (rows_until expect cert) expect
  pub text_is : text ≡ text_of (rows_until expect cert) ++ drop end text
  pub within : end ≤ length text
  pub count_is : count ≡ length (rows_until expect cert)
  pub trees : trees_in expect ≤ count
  pub lines : count ≤ end

pub begins : (text : List ℕ) (cert : CertText) → cert.pairs ≡ [] → cert.nodes ≡ [] → IsReading text AtHeader cert 0 0
begins text cert pairs nodes =
    record { stage = start cert pairs nodes; leads = refl; text_is = refl; within = omega arith; count_is = refl; trees = omega arith; lines = omega arith }

pub is_sound : (text : List ℕ) (expect : Expect) (cert : CertText) (end count : ℕ) → IsReading text expect cert end count → IsSound expect
is_sound text expect cert end count reading = sound expect cert reading.stage

-- the bytes of a line
size_left : (text line more : List ℕ) (end : ℕ) → end ≤ length text → drop end text ≡ line ++ (10 ∷ more) → end + (length line + 1) ≤ length text
size_left text line more end within is =
    let size : length (drop end text) ≡ length line + suc (length more) = ap length is ∙ length-append line (10 ∷ more) in
    omega (arith, length-drop end text, size)

pub size_fits : (text : List ℕ) (expect : Expect) (numbers : List ℕ) (kind : Kind) (end size : ℕ) → end ≤ length text → IsNextRow expect (drop end text) numbers kind size → end + size ≤ length text
size_fits text expect numbers kind end size within next =
    omega (arith, size_left text (line_of kind numbers) next.0 end within next.2, next.3)

pub size_some : (expect : Expect) (rest numbers : List ℕ) (kind : Kind) (size : ℕ) → IsNextRow expect rest numbers kind size → 1 ≤ size
size_some expect rest numbers kind size next = omega (arith, next.3)

left_after : (text line more : List ℕ) (end : ℕ) → drop end text ≡ line ++ (10 ∷ more) → drop (end + (length line + 1)) text ≡ more
left_after text line more end is =
    sym (drop-drop (length line + 1) end text)
    ∙ (ap (drop (length line + 1)) (is ∙ sym (append_assoc line (10 ∷ []) more))
    ∙ drop_at (line ++ 10 ∷ []) more (length line + 1) (length_push line 10))

-- one line more
pub reads_on : (text numbers : List ℕ) (expect : Expect) (cert : CertText) (kind : Kind) (end count size : ℕ) → IsReading text expect cert end count → IsNextRow expect (drop end text) numbers kind size
    → IsReading text (after expect kind numbers) (taken cert kind numbers) (end + size) (count + 1)
reads_on text numbers expect cert kind end count size reading next =
    let line : List ℕ = line_of kind numbers in
    let rows : List Row = rows_until expect cert in
    let rows_new : List Row = rows_until (after expect kind numbers) (taken cert kind numbers) in
    let stepped = step expect kind numbers cert next.1 reading.stage in
    let rest_is : drop (end + size) text ≡ next.0 = ap (λ (n : ℕ). drop (end + n) text) next.3 ∙ left_after text line next.0 end next.2 in
    let new_text : text_of rows_new ≡ text_of rows ++ (line ++ (10 ∷ [])) = ap text_of stepped.rows_are ∙ text-append rows (row kind numbers ∷ []) in
    let whole : text ≡ text_of rows ++ (line ++ (10 ∷ next.0)) = reading.text_is ∙ ap (λ (bytes : List ℕ). text_of rows ++ bytes) next.2 in
    let joined : (text_of rows ++ (line ++ (10 ∷ []))) ++ next.0 ≡ text_of rows ++ (line ++ (10 ∷ next.0)) =
    append_assoc (text_of rows) (line ++ (10 ∷ [])) next.0 ∙ ap (λ (bytes : List ℕ). text_of rows ++ bytes) (append_assoc line (10 ∷ []) next.0) in
    record {
      stage = stepped.stage;
      leads = subst (λ (some : List Row). Leads AtHeader some (after expect kind numbers)) (sym stepped.rows_are) (leads_push AtHeader expect rows kind numbers reading.leads next.1);
      text_is = whole ∙ (sym joined ∙ (ap (λ (front : List ℕ). front ++ next.0) (sym new_text) ∙ ap (λ (bytes : List ℕ). text_of rows_new ++ bytes) (sym rest_is)));
      within = size_fits text expect numbers kind end size reading.within next;
      count_is = omega (arith, reading.count_is, ap length stepped.rows_are, length_push rows (row kind numbers));
      trees = omega (arith, reading.trees, trees_more expect kind numbers);
      lines = omega (arith, reading.lines, next.3);
    }

-- all lines
pub reads_all : (text : List ℕ) (expect : Expect) (cert : CertText) (end count line : ℕ) → expect ≡ Done → IsReading text expect cert end count
    → IsCert cert × (end ≤ length text) × (take end text ≡ cert_text cert) × (line + count ≡ line + line_count cert)
reads_all text expect cert end count line is reading =
    let done : IsReading text Done cert end count = subst (λ (some : Expect). IsReading text some cert end count) is reading in
    let rows_are = done_rows cert in
    let whole : take end text ++ drop end text ≡ cert_text cert ++ drop end text =
    take-append-drop end text ∙ (done.text_is ∙ ap (λ (rows : List Row). text_of rows ++ drop end text) rows_are) in
    (done.stage, done.within, append_cancel_right (take end text) (cert_text cert) (drop end text) whole, ap (λ (n : ℕ). line + n) (done.count_is ∙ ap length rows_are))

-- bytes after a certificate
pub trails : (text : List ℕ) (cert : CertText) (end line : ℕ) → end < length text → IsCert cert × (end ≤ length text) × (take end text ≡ cert_text cert) × (line ≡ 1 + line_count cert) → HasTrailing text 1 line
trails text cert end line less part =
    (cert, drop end text, (part.0, sym (take-append-drop end text) ∙ ap (λ (front : List ℕ). front ++ drop end text) part.2), (λ none. omega (arith, ap length none, length-drop end text, less)), part.3)

-- the lines of rows
lines_of : List Row → List (List ℕ)
lines_of rows = map (λ (one : Row). line_of one.kind one.numbers) rows

lines_are : (rows : List Row) → lines_text (lines_of rows) ≡ text_of rows
unfolding lines_of
lines_are [] = refl
lines_are (one ∷ rows) = ap (λ (bytes : List ℕ). line_of one.kind one.numbers ++ (10 ∷ bytes)) (lines_are rows)

lines_count : (rows : List Row) → length (lines_of rows) ≡ length rows
unfolding lines_of
lines_count rows = length-map rows (λ (one : Row). line_of one.kind one.numbers)

lines_fed : (from to : Expect) (rows : List Row) → Leads from rows to → AllByRecursion HasNoFeed (lines_of rows)
unfolding lines_of
lines_fed from to [] leads = tt
lines_fed from to (one ∷ rows) leads = (no_feed_line from one.kind one.numbers leads.0, lines_fed (after from one.kind one.numbers) to rows leads.1)

-- the next line of a certificate whose text has the same lines so far
record NextOf (expect : Expect) (rest more : List ℕ) : Type 0 where
  kind : Kind
  numbers : List ℕ
  left : List Row
  follows : Follows expect kind numbers
  text_is : line_of kind numbers ++ (10 ∷ (text_of left ++ more)) ≡ rest

next_of : (expect : Expect) (cert whole : CertText) (rest more : List ℕ) → expect ≢ Done → Leads AtHeader (rows_until expect cert) expect → IsCert whole → cert_text whole ++ more ≡ text_of (rows_until expect cert) ++ rest → NextOf expect rest more
next_of expect cert whole rest more unended leads is e =
    let found = follow AtHeader expect (rows_until expect cert) (rows_of whole) rest more leads (rows_lead whole is) e in
    by found.left found.leads found.text_is
  where
    by : (left : List Row) → Leads expect left Done → text_of left ++ more ≡ rest → NextOf expect rest more
    by [] there same = absurd (unended there)
    by (one ∷ left) there same =
        record { kind = one.kind; numbers = one.numbers; left = left; follows = there.0; text_is = sym (append_assoc (line_of one.kind one.numbers) (10 ∷ text_of left) more) ∙ same }

-- a certificate's text goes on after the lines so far
going : (text : List ℕ) (expect : Expect) (cert : CertText) (end count : ℕ) → IsReading text expect cert end count → (whole : CertText) × (more : List ℕ) × GoesOn (lines_text (lines_of (rows_until expect cert))) whole more
going text expect cert end count reading =
    let c = complete expect cert reading.stage in
    let rows : List Row = rows_until expect cert in
    (c.whole, text_of c.more, (c.is, ap text_of (sym (done_rows c.whole) ∙ c.rows_are) ∙ (text-append rows c.more ∙ ap (λ (front : List ℕ). front ++ text_of c.more) (sym (lines_are rows)))))

feed_inside : (a b : List ℕ) → HasNoFeed (a ++ (10 ∷ b)) → ⊥
feed_inside [] b none = none.0 refl
feed_inside (byte ∷ a) b none = feed_inside a b none.1

-- a text that goes on with a line that begins none
not_begun : (expect : Expect) (rest more : List ℕ) (next : List ℕ) (kind : Kind) (numbers : List ℕ) → HasNoFeed rest → (BeginsRow expect rest → ⊥) → Follows expect kind numbers → line_of kind numbers ++ (10 ∷ next) ≡ rest ++ more → ⊥
not_begun expect rest more next kind numbers fed none follows e =
    elim (cut_twice (line_of kind numbers) (10 ∷ next) rest more e) [
      | inl cut ↦ none (kind, numbers, cut.0, follows, cut.1)
      | inr cut ↦ other cut.0 cut.1 cut.2
    ]
  where
    other : (between : List ℕ) → rest ≡ line_of kind numbers ++ between → 10 ∷ next ≡ between ++ more → ⊥
    other [] is same = none (kind, numbers, [], follows, sym (append-nil rest ∙ (is ∙ append-nil (line_of kind numbers))))
    other (byte ∷ between) is same =
        let feed : 10 ≡ byte = cc in
        feed_inside (line_of kind numbers) between (subst HasNoFeed (is ∙ ap (λ (b : ℕ). line_of kind numbers ++ (b ∷ between)) (sym feed)) fed)

bad_unended : (text : List ℕ) (expect : Expect) (cert : CertText) (end count : ℕ) → expect ≢ Done → IsReading text expect cert end count → HasNoFeed (drop end text) → (BeginsRow expect (drop end text) → ⊥) → IsBadLine text count
bad_unended text expect cert end count unended reading fed none =
    let rows : List Row = rows_until expect cert in
    let rest : List ℕ = drop end text in
    record {
      lines = lines_of rows;
      line = rest;
      rest = [];
      split = reading.text_is ∙ (ap (λ (front : List ℕ). front ++ rest) (sym (lines_are rows)) ∙ ap (λ (bytes : List ℕ). lines_text (lines_of rows) ++ bytes) (sym (append-nil rest)));
      number = lines_count rows ∙ sym reading.count_is;
      fed = lines_fed AtHeader expect rows reading.leads;
      is_line = (rest, fed, inr (refl, refl));
      not_whole = λ whole others begins. (let n = next_of expect cert whole rest others unended reading.leads begins.0 (sym begins.1 ∙ reading.text_is) in
          not_begun expect rest [] (text_of n.left ++ others) n.kind n.numbers fed none n.follows (n.text_is ∙ sym (append-nil rest)));
      before = going text expect cert end count reading;
      none = λ whole more goes. (let n = next_of expect cert whole (rest ++ more) [] unended reading.leads goes.0 (append-nil (cert_text whole) ∙ (goes.1 ∙ (append_assoc (lines_text (lines_of rows)) rest more ∙ ap (λ (front : List ℕ). front ++ (rest ++ more)) (lines_are rows)))) in
          not_begun expect rest more (text_of n.left ++ []) n.kind n.numbers fed none n.follows n.text_is);
    }

bad_ended : (text : List ℕ) (expect : Expect) (cert : CertText) (end count : ℕ) (now more : List ℕ) → expect ≢ Done → IsReading text expect cert end count → HasNoFeed now → drop end text ≡ now ++ (10 ∷ more) → ((kind : Kind) (numbers : List ℕ) → Follows expect kind numbers → now ≡ line_of kind numbers → ⊥) → IsBadLine text count
bad_ended text expect cert end count now more unended reading fed is none =
    let rows : List Row = rows_until expect cert in
    let line : List ℕ = now ++ 10 ∷ [] in
    let whole_is : text ≡ text_of rows ++ (now ++ (10 ∷ more)) = reading.text_is ∙ ap (λ (bytes : List ℕ). text_of rows ++ bytes) is in
    record {
      lines = lines_of rows;
      line = line;
      rest = more;
      split = whole_is ∙ (ap (λ (front : List ℕ). front ++ (now ++ (10 ∷ more))) (sym (lines_are rows)) ∙ ap (λ (bytes : List ℕ). lines_text (lines_of rows) ++ bytes) (sym (append_assoc now (10 ∷ []) more)));
      number = lines_count rows ∙ sym reading.count_is;
      fed = lines_fed AtHeader expect rows reading.leads;
      is_line = (now, fed, inl refl);
      not_whole = λ whole others begins. (let n = next_of expect cert whole (now ++ (10 ∷ more)) others unended reading.leads begins.0 (sym begins.1 ∙ whole_is) in
          none n.kind n.numbers n.follows (sym (cut_line (line_of n.kind n.numbers) now (text_of n.left ++ others) more (no_feed_line expect n.kind n.numbers n.follows) fed n.text_is).0));
      before = going text expect cert end count reading;
      none = λ whole after_line goes. (let n = next_of expect cert whole (now ++ (10 ∷ after_line)) [] unended reading.leads goes.0 (append-nil (cert_text whole) ∙ (goes.1 ∙ (append_assoc (lines_text (lines_of rows)) line after_line ∙ (ap (λ (bytes : List ℕ). lines_text (lines_of rows) ++ bytes) (append_assoc now (10 ∷ []) after_line) ∙ ap (λ (front : List ℕ). front ++ (now ++ (10 ∷ after_line))) (lines_are rows))))) in
          none n.kind n.numbers n.follows (sym (cut_line (line_of n.kind n.numbers) now (text_of n.left ++ []) after_line (no_feed_line expect n.kind n.numbers n.follows) fed n.text_is).0));
    }

bad_line_is : (text : List ℕ) (expect : Expect) (cert : CertText) (end count : ℕ) → expect ≢ Done → IsReading text expect cert end count → IsBadNext expect (drop end text) → IsBadLine text count
bad_line_is text expect cert end count unended reading (inl bad) = bad_unended text expect cert end count unended reading bad.0 bad.1
bad_line_is text expect cert end count unended reading (inr bad) = bad_ended text expect cert end count bad.0 bad.1 unended reading bad.2 bad.3 bad.4

cut_short : (text : List ℕ) (expect : Expect) (cert : CertText) (end count : ℕ) → IsReading text expect cert end count → BeginsRow expect (drop end text) → IsTruncated text
cut_short text expect cert end count reading begun =
    let kind : Kind = begun.0 in
    let numbers : List ℕ = begun.1 in
    let rows : List Row = rows_until expect cert in
    let rest : List ℕ = drop end text in
    let line : List ℕ = line_of kind numbers in
    let stepped = step expect kind numbers cert begun.3 reading.stage in
    let c = complete (after expect kind numbers) (taken cert kind numbers) stepped.stage in
    let more : List ℕ = begun.2 ++ (10 ∷ text_of c.more) in
    let rows_are : rows_of c.whole ≡ (rows ++ row kind numbers ∷ []) ++ c.more = sym (done_rows c.whole) ∙ (c.rows_are ∙ ap (λ (some : List Row). some ++ c.more) stepped.rows_are) in
    let first_text : text_of (rows ++ row kind numbers ∷ []) ≡ text_of rows ++ (line ++ (10 ∷ [])) = text-append rows (row kind numbers ∷ []) in
    let whole_text : cert_text c.whole ≡ text_of rows ++ (line ++ (10 ∷ text_of c.more)) =
    ap text_of rows_are ∙ (text-append (rows ++ row kind numbers ∷ []) c.more ∙ (ap (λ (front : List ℕ). front ++ text_of c.more) first_text
    ∙ (append_assoc (text_of rows) (line ++ (10 ∷ [])) (text_of c.more) ∙ ap (λ (bytes : List ℕ). text_of rows ++ bytes) (append_assoc line (10 ∷ []) (text_of c.more))))) in
    let parts : text_of rows ++ (line ++ (10 ∷ text_of c.more)) ≡ (text_of rows ++ rest) ++ more =
    ap (λ (bytes : List ℕ). text_of rows ++ (bytes ++ (10 ∷ text_of c.more))) begun.4
    ∙ (ap (λ (bytes : List ℕ). text_of rows ++ bytes) (append_assoc rest begun.2 (10 ∷ text_of c.more)) ∙ sym (append_assoc (text_of rows) rest more)) in
    (c.whole, more, (c.is, whole_text ∙ (parts ∙ ap (λ (front : List ℕ). front ++ more) (sym reading.text_is))), (λ none. omega (arith, ap length none, length-append begun.2 (10 ∷ text_of c.more))))

-- why there is no next line is why there is no certificate
pub faults : (text : List ℕ) (expect : Expect) (cert : CertText) (end count line : ℕ) (fault : CertFault) → expect ≢ Done → IsReading text expect cert end count → IsNextFault expect (drop end text) line count fault → IsFault text line fault
faults text expect cert end count line BadHeader unended reading bad = subst (IsBadLine text) bad.0 (bad_line_is text expect cert end count unended reading bad.1)
faults text expect cert end count line (BadLine at) unended reading bad = (count, bad.0, bad.1, bad_line_is text expect cert end count unended reading bad.2)
faults text expect cert end count line Truncated unended reading begun = cut_short text expect cert end count reading begun
faults text expect cert end count line (Trailing at) unended reading bad = bad
faults text expect cert end count line (Memory fault) unended reading bad = tt
