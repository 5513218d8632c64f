-- Lemmas on a reader as the list of the records that it has still to give.
use Rattle.std.proofs.Common.{◌≡◌, ℕ, true, false, List, [], ◌∷◌, length, Option, Some, None, Bor, inl, refl, sym, ◌∙◌}
use Rattle.csv.specs.Records.{AllText}
use Rattle.csv.specs.Reading.{ExplainsRead, ReadRecord, TookRecord, default_config, expected_len, is_flexible, pending_of, records_from, source_of, took_first}
use Rattle.csv.specs.declared.error.ErrorKind.{ErrorKind}
use Rattle.csv.specs.declared.error.ErrorKind.TheVariants as kinds
use Rattle.csv.specs.declared.reader.Reader.{Reader}
use Rattle.csv_load.specs.Loading.{IsWhole}
use Rattle.csv_load.specs.Between.{GivesFirst, GivesNext, IsBetween, IsTorn, Takes, next_after}
use Rattle.csv_load.proofs.FuelLemmas.{LeavesRest, none_read, one_read}

abbrev pub Body : Type 0
Body = Reader (Bor (List ℕ))

abbrev pub shown : Bor (List ℕ) → Option (List ℕ)
shown s = Some s.now

-- the first of the records that are left, and what is left then
taken : (old new : Body) (wanted : Option ℕ) (rest : List (List (List ℕ))) (fields : List (List ℕ)) (b : IsBetween old wanted rest) → TookRecord shown old new fields → (z : List ℕ) × (pending_of (Some new.rdr.now) new ≡ Some z) × LeavesRest default_config b.left.fuel old.state b.left.bytes fields new.state z
taken old new wanted rest fields b took =
    one_read default_config b.left.fuel old.state new.state b.left.bytes (pending_of (Some new.rdr.now) new) fields b.left.between b.left.enough (rw (b.config, b.left.source) at took)

-- after a read what is pending is what the next read reads from
source_after : (new : Body) (z : List ℕ) → new.bom_checked ≡ true → pending_of (Some new.rdr.now) new ≡ Some z → source_of shown new ≡ Some z
source_after new z checked pending = rw checked pending

-- a record was read
pub after_read : (old new : Body) (wanted next : Option ℕ) (rest : List (List (List ℕ))) (fields : List (List ℕ)) → IsBetween old wanted rest → ReadRecord shown old new true fields → took_first new ≡ true → is_flexible new ≡ is_flexible old → expected_len new ≡ next → (later : List (List (List ℕ))) × (rest ≡ fields ∷ later) × IsBetween new next later
after_read old new wanted next rest fields b read first flexible expects =
    let go = taken old new wanted rest fields b read.0 in (
      records_from default_config go.2.0 new.state go.0,
      b.left.records ∙ go.2.3,
      record {
        untrimmed = read.3 ∙ b.untrimmed;
        strict = flexible ∙ b.strict;
        ready = inl first;
        config = read.2 ∙ b.config;
        expects = expects;
        left = record {
          fuel = go.2.0;
          bytes = go.0;
          source = source_after new go.0 read.1 go.1;
          enough = go.2.1;
          between = go.2.2;
          records = refl;
        };
      },
    )

-- no record was left
pub none_after : (old new : Body) (wanted : Option ℕ) (rest : List (List (List ℕ))) (fields : List (List ℕ)) → IsBetween old wanted rest → ReadRecord shown old new false fields → rest ≡ []
none_after old new wanted rest fields b read =
    b.left.records ∙ none_read default_config b.left.fuel old.state new.state b.left.bytes (pending_of (Some new.rdr.now) new) fields (rw (b.config, b.left.source) at read.0)

-- the first record, and the length that the next ones need
pub first_taken : (old new : Body) (rest : List (List (List ℕ))) (fields : List (List ℕ)) → IsBetween old None rest → ReadRecord shown old new true fields → took_first new ≡ true → is_flexible new ≡ is_flexible old → Takes (length fields) rest fields new
first_taken old new rest fields b read first flexible =
    let go = after_read old new None (Some (length fields)) rest fields b read first flexible (read.5 refl b.strict).1 in
    record { later = go.0; next = go.1; between = go.2 }

some_same : (one other : ℕ) → Some one ≡ Some other → one ≡ other
some_same one other e = cc

-- a later record of the length that is needed
pub next_taken : (old new : Body) (count : ℕ) (rest : List (List (List ℕ))) (fields : List (List ℕ)) → IsBetween old (Some count) rest → ReadRecord shown old new true fields → AllText fields → took_first new ≡ true → is_flexible new ≡ is_flexible old → Takes count rest fields new × IsWhole count fields
next_taken old new count rest fields b read texts first flexible =
    let lengths = rw b.expects at (read.5 refl b.strict) in
    let go = after_read old new (Some count) (Some count) rest fields b read first flexible lengths.0 in
    let each : length fields ≡ count = some_same (length fields) count (sym lengths.1 ∙ lengths.0) in
    (record { later = go.0; next = go.1; between = go.2 }, record { each = each; texts = texts })

-- a later record that isn't whole
torn : (old new : Body) (count : ℕ) (rest : List (List (List ℕ))) (fields : List (List ℕ)) → IsBetween old (Some count) rest → TookRecord shown old new fields → ¬ IsWhole count fields → IsTorn count rest
torn old new count rest fields b took apart =
    let go = taken old new (Some count) rest fields b took in
    record { fields = fields; later = records_from default_config go.2.0 new.state go.0; next = b.left.records ∙ go.2.3; torn = apart }

-- what an error tells of a later record
pub next_refused : (old new : Body) (count : ℕ) (rest : List (List (List ℕ))) (fields : List (List ℕ)) (kind : ErrorKind) → IsBetween old (Some count) rest → ExplainsRead shown old new true kind → GivesNext count rest fields new (next_after kind)
next_refused old new count rest fields (kinds.Io e) b why = tt
next_refused old new count rest fields kinds.OutOfMemory b why = tt
next_refused old new count rest fields (kinds.UnequalLengths start expected len) b why =
    let same : expected ≡ count = some_same expected count (sym why.1 ∙ b.expects) in
    torn old new count rest why.3 b why.4 (λ whole. why.2 (same ∙ (sym whole.each ∙ why.5)))
next_refused old new count rest fields (kinds.Utf8 start error) b why = torn old new count rest why.1 b why.2 (λ whole. why.3 whole.texts)
next_refused old new count rest fields (kinds.Serialize text) b why = absurd why
next_refused old new count rest fields (kinds.Deserialize start error) b why = absurd why

-- what an error tells of the first record, which may have any length and any bytes
pub first_refused : (old new : Body) (rest : List (List (List ℕ))) (fields : List (List ℕ)) (kind : ErrorKind) → IsBetween old None rest → ExplainsRead shown old new false kind → GivesFirst rest fields new (next_after kind)
first_refused old new rest fields (kinds.Io e) b why = tt
first_refused old new rest fields kinds.OutOfMemory b why = tt
first_refused old new rest fields (kinds.UnequalLengths start expected len) b why =
    let none = sym b.expects ∙ why.1 in absurd (cc)
first_refused old new rest fields (kinds.Utf8 start error) b why = let none = why.0 in absurd (cc)
first_refused old new rest fields (kinds.Serialize text) b why = absurd why
first_refused old new rest fields (kinds.Deserialize start error) b why = absurd why
