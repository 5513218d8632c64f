-- What the loop of writing keeps.
use Rattle.std.proofs.Common.{ℕ, ◌+◌, ◌≤◌, List, length, take, drop, sym, subst, ◌∙◌, arith, length-drop}
use Rattle.std.proofs.KnownBytes.{Appends-trans}
use Rattle.std.proofs.Math.Seq.{take-add}
use Rattle.pq_base.specs.Shown.{Shown, TakesBytes, HasNoFault}

-- so many bytes were written
pub record IsWriting (sink now : Shown) (text : List ℕ) (at : ℕ) : Type 0 where
  pub within : at ≤ length text
  pub written : TakesBytes sink now (take at text)
  pub fine : HasNoFault sink now

pub writes_more : (sink now next : Shown) (text : List ℕ) (at count : ℕ) → IsWriting sink now text at → count ≤ length (drop at text) → TakesBytes now next (take count (drop at text)) → HasNoFault now next
    → IsWriting sink next text (at + count)
writes_more sink now next text at count writing few more fine = record {
  within = omega (arith, writing.within, few, length-drop at text);
  written = subst (λ (l : List ℕ). TakesBytes sink next l) (sym (take-add at count text))
      (Appends-trans sink.bytes now.bytes next.bytes (take at text) (take count (drop at text)) writing.written more);
  fine = fine ∙ writing.fine;
}
