-- What the loops of reading on keep.
use Rattle.std.proofs.Common.{◌≡◌, ℕ, ◌+◌, ◌≤◌, List, [], ◌++◌, length, take, Result, Ok, Err, None, Some, refl, sym, ap, subst, ◌∙◌, append-nil, append_assoc, length-append, length-take-le, arith}
use Rattle.std.proofs.KnownBytes.{Consumes-trans, Consumes-nil}
use Rattle.paql_engine.specs.declared.ending.TheConstants.{MAX_BYTES}
use Rattle.pq_base.specs.Shown.{Shown, GivesBytes, HasNoFault, HasEnded}
use Rattle.session_server.specs.Checking.{StopsReading, ReadsPiece, Exhausts}
use Rattle.session_server.specs.declared.checking.CheckEnd.{CheckEnd}
use Rattle.session_server.specs.declared.checking.CheckEnd.TheVariants as ends
use Rattle.session_server.proofs.Running.{fails_later, fine_later}

-- this piece was read, and so many bytes are taken
pub record IsReadingOn (source now : Shown) (first taken : ℕ) (piece : List ℕ) : Type 0 where
  pub read : GivesBytes source now piece
  pub fine : HasNoFault source now
  pub counted : taken ≡ first + length piece
  pub few : first ≤ MAX_BYTES → taken ≤ MAX_BYTES

-- and it is collected after these bytes
abbrev pub IsCollecting : Shown → Shown → ℕ → ℕ → List ℕ → List ℕ → Type 0
IsCollecting source now first taken before all =
    (piece : List ℕ) × IsReadingOn source now first taken piece × (all ≡ before ++ piece)

abbrev pub IsThrowing : Shown → Shown → ℕ → ℕ → Type 0
IsThrowing source now first taken = (piece : List ℕ) × IsReadingOn source now first taken piece

pub reading_begins : (source : Shown) (taken : ℕ) → IsReadingOn source source taken taken []
reading_begins source taken = record { read = Consumes-nil source.bytes; fine = refl; counted = omega arith; few = λ few. few }

pub collecting_begins : (source : Shown) (taken : ℕ) (before : List ℕ) → IsCollecting source source taken taken before before
collecting_begins source taken before = ([], reading_begins source taken, sym (append-nil before))

pub throwing_begins : (source : Shown) (taken : ℕ) → IsThrowing source source taken taken
throwing_begins source taken = ([], reading_begins source taken)

-- one more piece
pub reads_more : (source now next : Shown) (first taken count : ℕ) (piece buf : List ℕ) → IsReadingOn source now first taken piece → ReadsPiece now next taken buf (Ok count)
    → IsReadingOn source next first (taken + count) (piece ++ take count buf)
reads_more source now next first taken count piece buf on (within, few, gave, fine, out) = record {
  read = Consumes-trans source.bytes now.bytes next.bytes piece (take count buf) on.read gave;
  fine = fine_later source now next on.fine fine;
  counted = omega (arith, on.counted, length-append piece (take count buf), length-take-le count buf within);
  few = λ most. few;
}

pub collects_more : (source now next : Shown) (first taken count : ℕ) (before all buf : List ℕ) → IsCollecting source now first taken before all → ReadsPiece now next taken buf (Ok count)
    → IsCollecting source next first (taken + count) before (all ++ take count buf)
collects_more source now next first taken count before all buf (piece, on, is) reads =
    (piece ++ take count buf, reads_more source now next first taken count piece buf on reads, ap (λ (l : List ℕ). l ++ take count buf) is ∙ append_assoc before piece (take count buf))

pub throws_more : (source now next : Shown) (first taken count : ℕ) (buf : List ℕ) → IsThrowing source now first taken → ReadsPiece now next taken buf (Ok count)
    → IsThrowing source next first (taken + count)
throws_more source now next first taken count buf (piece, on) reads = (piece ++ take count buf, reads_more source now next first taken count piece buf on reads)

-- nothing more comes
pub reads_out : (source now next : Shown) (first taken count : ℕ) (piece buf : List ℕ) → IsReadingOn source now first taken piece → ReadsPiece now next taken buf (Ok count) → count ≡ 0
    → Exhausts source next first piece None
reads_out source now next first taken count piece buf on (within, few, gave, fine, out) none =
    let nothing : GivesBytes now next [] = subst (λ (n : ℕ). GivesBytes now next (take n buf)) none gave in
    record {
      read = subst (λ (l : List ℕ). GivesBytes source next l) (append-nil piece) (Consumes-trans source.bytes now.bytes next.bytes piece [] on.read nothing);
      few = λ most. omega (arith, on.few most, on.counted);
      rest = (fine_later source now next on.fine fine, out none);
    }

-- no more is read
stops_later : (source now next : Shown) (taken all : ℕ) (end : CheckEnd) → HasNoFault source now → taken ≡ all → StopsReading now next taken end → StopsReading source next all end
stops_later source now next taken all ends.ReadFault fine same stops = fails_later source now next fine stops
stops_later source now next taken all ends.SessionLimit fine same stops = (fine_later source now next fine stops.0, subst (λ (n : ℕ). MAX_BYTES ≤ n) same stops.1)
stops_later source now next taken all ends.Memory fine same stops = fine_later source now next fine stops
stops_later source now next taken all ends.Valid fine same stops = absurd stops
stops_later source now next taken all ends.Invalid fine same stops = absurd stops
stops_later source now next taken all ends.Unjudged fine same stops = absurd stops
stops_later source now next taken all ends.Truncated fine same stops = absurd stops
stops_later source now next taken all ends.WriteFault fine same stops = absurd stops
stops_later source now next taken all ends.TooLong fine same stops = absurd stops

pub reads_no_more : (source now next : Shown) (first taken : ℕ) (piece buf : List ℕ) (end : CheckEnd) → IsReadingOn source now first taken piece → ReadsPiece now next taken buf (Err end)
    → Exhausts source next first piece (Some end)
reads_no_more source now next first taken piece buf end on (gave, stops) = record {
  read = subst (λ (l : List ℕ). GivesBytes source next l) (append-nil piece) (Consumes-trans source.bytes now.bytes next.bytes piece [] on.read gave);
  few = λ most. omega (arith, on.few most, on.counted);
  rest = stops_later source now next taken (first + length piece) end on.fine on.counted stops;
}

-- memory runs out for what was read
pub reads_in_vain : (source now : Shown) (first taken : ℕ) (piece : List ℕ) → IsReadingOn source now first taken piece → Exhausts source now first piece (Some ends.Memory)
reads_in_vain source now first taken piece on = record {
  read = on.read;
  few = λ most. omega (arith, on.few most, on.counted);
  rest = on.fine;
}
