-- Lemmas on the records of a text: one read gives the first of them.
use Rattle.std.proofs.Common.{◌≡◌, ℕ, zero, suc, ◌-◌, ◌<◌, ◌≤◌, Bool, true, false, ◌==◌, ◌&&◌, if◌then◌else◌, List, [], ◌∷◌, length, Option, Some, None, refl, ap, subst, arith}
use Rattle.csv.specs.Machine.{Read, step, in_field, start_field, start_record, after_end, ends_with, is_byte, carriage_return, line_feed, is_end, ends_at_end, next_record, fields_after, field_after}
use Rattle.csv.specs.Reading.{ReadsNext, NextIs, records_from, records_next}
use Rattle.csv.specs.declared.parser.Config.{Config}
use Rattle.csv.specs.declared.parser.Terminator.{Terminator}
use Rattle.csv.specs.declared.parser.Terminator.TheVariants as term
use Rattle.csv.specs.declared.parser.State.{State}
use Rattle.csv.specs.declared.parser.State.TheVariants as st
use Rattle.csv.specs.declared.parser.Action.{Action}
use Rattle.csv.specs.declared.parser.Action.TheVariants as act

-- a step that ends a record leaves none begun
abbrev pub Stands : State × Action → Type 0
Stands p = is_end p.1 ≡ true → ends_at_end p.0 ≡ false

stands_if : (b : Bool) (p q : State × Action) → Stands p → Stands q → Stands (if b then p else q)
stands_if true p q one other = one
stands_if false p q one other = other

goes_on : (s : State) (a : Action) → is_end a ≡ false → Stands (s, a)
goes_on s a on e = absurd (cc)

at_bool : (b : Bool) (p q : State) → ends_at_end p ≡ false → ends_at_end q ≡ false → ends_at_end (if b then p else q) ≡ false
at_bool true p q one other = one
at_bool false p q one other = other

after_end_stands : (t : Terminator) (c : ℕ) → ends_at_end (after_end t c) ≡ false
after_end_stands term.CRLF c = at_bool (c == carriage_return) st.AfterCr st.StartRecord refl refl
after_end_stands (term.Any t) c = refl

in_field_stands : (cfg : Config) (c : ℕ) → Stands (in_field cfg c)
in_field_stands cfg c =
    let on = stands_if (ends_with cfg.terminator c) (after_end cfg.terminator c, act.EndRecord) (st.InField, act.Copy) (λ e. after_end_stands cfg.terminator c) (goes_on st.InField act.Copy refl) in
    stands_if (c == cfg.delimiter) (st.StartField, act.EndField) (if ends_with cfg.terminator c then (after_end cfg.terminator c, act.EndRecord) else (st.InField, act.Copy)) (goes_on st.StartField act.EndField refl) on

start_field_stands : (cfg : Config) (c : ℕ) → Stands (start_field cfg c)
start_field_stands cfg c = stands_if (cfg.quoting && (c == cfg.quote)) (st.InQuoted, act.Skip) (in_field cfg c) (goes_on st.InQuoted act.Skip refl) (in_field_stands cfg c)

start_record_stands : (cfg : Config) (c : ℕ) → Stands (start_record cfg c)
start_record_stands cfg c =
    let on = stands_if (is_byte cfg.comment c) (st.InComment, act.Skip) (start_field cfg c) (goes_on st.InComment act.Skip refl) (start_field_stands cfg c) in
    stands_if (ends_with cfg.terminator c) (st.StartRecord, act.Skip) (if is_byte cfg.comment c then (st.InComment, act.Skip) else start_field cfg c) (goes_on st.StartRecord act.Skip refl) on

in_quoted_stands : (cfg : Config) (c : ℕ) → Stands (step cfg st.InQuoted c)
in_quoted_stands cfg c =
    let on = stands_if (cfg.quoting && is_byte cfg.escape c) (st.InEscape, act.Skip) (st.InQuoted, act.Copy) (goes_on st.InEscape act.Skip refl) (goes_on st.InQuoted act.Copy refl) in
    stands_if (cfg.quoting && (c == cfg.quote)) (st.AfterQuote, act.Skip) (if cfg.quoting && is_byte cfg.escape c then (st.InEscape, act.Skip) else (st.InQuoted, act.Copy)) (goes_on st.AfterQuote act.Skip refl) on

step_stands : (cfg : Config) (s : State) (c : ℕ) → Stands (step cfg s c)
step_stands cfg st.StartRecord c = start_record_stands cfg c
step_stands cfg st.StartField c = start_field_stands cfg c
step_stands cfg st.InField c = in_field_stands cfg c
step_stands cfg st.InQuoted c = in_quoted_stands cfg c
step_stands cfg st.InEscape c = goes_on st.InQuoted act.Copy refl
step_stands cfg st.AfterQuote c = stands_if (cfg.quoting && cfg.double_quote && (c == cfg.quote)) (st.InQuoted, act.Copy) (in_field cfg c) (goes_on st.InQuoted act.Copy refl) (in_field_stands cfg c)
step_stands cfg st.InComment c = stands_if (c == line_feed) (st.StartRecord, act.Skip) (st.InComment, act.Skip) (goes_on st.StartRecord act.Skip refl) (goes_on st.InComment act.Skip refl)
step_stands cfg st.AfterCr c = stands_if (c == line_feed) (st.StartRecord, act.Skip) (start_record cfg c) (goes_on st.StartRecord act.Skip refl) (start_record_stands cfg c)

-- a record that is read takes a byte, if there is one, and leaves none begun
abbrev pub Shortens : List ℕ → Read → Type 0
Shortens xs p = (length p.2 ≤ length xs - 1) × (ends_at_end p.1 ≡ false)

last_ends : (b : Bool) (xs : List ℕ) (q p : Read) → Shortens xs q → (if b then Some q else None) ≡ Some p → Shortens xs p
last_ends true xs q p short e = let same : q ≡ p = cc in subst (Shortens xs) same short
last_ends false xs q p short e = absurd (cc)

byte_ends : (b : Bool) (c : ℕ) (rest : List ℕ) (q p : Read) (more : Option Read) → (b ≡ true → Shortens (c ∷ rest) q) → (more ≡ Some p → Shortens rest p) → (if b then Some q else more) ≡ Some p → Shortens (c ∷ rest) p
byte_ends true c rest q p more here later e = let same : q ≡ p = cc in subst (Shortens (c ∷ rest)) same (here refl)
byte_ends false c rest q p more here later e = let short = later e in (omega (arith, short.0), short.1)

next_ends : (cfg : Config) (s : State) (fields : List (List ℕ)) (field xs : List ℕ) (p : Read) → next_record cfg s fields field xs ≡ Some p → Shortens xs p
unfolding next_record
next_ends cfg s fields field [] p e = last_ends (ends_at_end s) [] _ p (omega arith, refl) e
next_ends cfg s fields field (c ∷ rest) p e =
    byte_ends (is_end (step cfg s c).1) c rest (fields_after (step cfg s c).1 fields field, (step cfg s c).0, rest) p
    (next_record cfg (step cfg s c).0 (fields_after (step cfg s c).1 fields field) (field_after (step cfg s c).1 c field) rest)
    (λ ends. (omega arith, step_stands cfg s c ends))
    (next_ends cfg (step cfg s c).0 (fields_after (step cfg s c).1 fields field) (field_after (step cfg s c).1 c field) rest p)
    e

-- no record is left where none is begun
none_begun : (cfg : Config) (s : State) (p : Read) → ends_at_end s ≡ false → next_record cfg s [] [] [] ≡ Some p → ⊥
unfolding next_record
none_begun cfg s p idle e = let given = rw idle at e in absurd (cc)

-- what is left after one read
abbrev pub LeavesRest : Config → ℕ → State → List ℕ → List (List ℕ) → State → List ℕ → Type 0
LeavesRest cfg fuel s y fields s2 z = (fuel2 : ℕ) × (length z < fuel2) × (ends_at_end s2 ≡ false) × (records_from cfg fuel s y ≡ fields ∷ records_from cfg fuel2 s2 z)

some_left : (cfg : Config) (s : State) (y : List ℕ) (p : Read) → ends_at_end s ≡ false → next_record cfg s [] [] y ≡ Some p → 0 < length y
some_left cfg s [] p idle e = absurd (none_begun cfg s p idle e)
some_left cfg s (c ∷ rest) p idle e = omega arith

first_read : (cfg : Config) (fuel : ℕ) (s : State) (y : List ℕ) (p : Read) → ends_at_end s ≡ false → length y < fuel → next_record cfg s [] [] y ≡ Some p → LeavesRest cfg fuel s y p.0 p.1 p.2
unfolding records_from
first_read cfg zero s y p idle enough e = absurd (omega (arith, enough))
first_read cfg (suc n) s y p idle enough e =
    let short = next_ends cfg s [] [] y p e in
    let some = some_left cfg s y p idle e in
    (n, omega (arith, short.0, some, enough), short.1, ap (records_next (records_from cfg n)) e)

pub one_read : (cfg : Config) (fuel : ℕ) (s s2 : State) (y : List ℕ) (k : Option (List ℕ)) (fields : List (List ℕ)) → ends_at_end s ≡ false → length y < fuel → ReadsNext cfg s (Some y) k true fields s2 → (z : List ℕ) × (k ≡ Some z) × LeavesRest cfg fuel s y fields s2 z
one_read cfg fuel s s2 y None fields idle enough reads = absurd reads
one_read cfg fuel s s2 y (Some z) fields idle enough reads = by_read (next_record cfg s [] [] y) refl reads
  where
    by_read : (next : Option Read) → next_record cfg s [] [] y ≡ next → NextIs next true fields s2 z → (w : List ℕ) × (Some z ≡ Some w) × LeavesRest cfg fuel s y fields s2 w
    by_read None is reads = absurd (cc)
    by_read (Some p) is reads =
        let leaves = first_read cfg fuel s y p idle enough is in
        (z, refl, rw (reads.1, reads.2, reads.3) leaves)

no_records : (cfg : Config) (n : ℕ) (s : State) (y : List ℕ) → next_record cfg s [] [] y ≡ None → records_from cfg n s y ≡ []
unfolding records_from
no_records cfg zero s y is = refl
no_records cfg (suc n) s y is = ap (records_next (records_from cfg n)) is

pub none_read : (cfg : Config) (fuel : ℕ) (s s2 : State) (y : List ℕ) (k : Option (List ℕ)) (fields : List (List ℕ)) → ReadsNext cfg s (Some y) k false fields s2 → records_from cfg fuel s y ≡ []
none_read cfg fuel s s2 y None fields reads = absurd reads
none_read cfg fuel s s2 y (Some z) fields reads = by_read (next_record cfg s [] [] y) refl reads fuel
  where
    by_read : (next : Option Read) → next_record cfg s [] [] y ≡ next → NextIs next false fields s2 z → (n : ℕ) → records_from cfg n s y ≡ []
    by_read None is reads n = no_records cfg n s y is
    by_read (Some p) is reads n = absurd (cc)
