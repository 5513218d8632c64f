-- Lemmas on what a change is answered.
use Rattle.std.proofs.Common.{◌≡◌, inl, inr, List, [], ◌∷◌, ◌++◌, Some, sym, ap, ◌∙◌, slice_get}
use Rattle.version_store.specs.Performing.{Says, IsDue}
use Rattle.version_store.specs.declared.faults.CommitKind.{CommitKind}

-- ---- the first fault

pub due_first : (faults rest : List CommitKind) (due kind : CommitKind) → faults ≡ due ∷ rest → Says due kind → IsDue faults kind
due_first faults rest due kind is (inl e) = inl (ap (λ (some : List CommitKind). slice_get some 0) is ∙ ap Some (sym e))
due_first faults rest due kind is (inr e) = inr e

pub due_left : (first later : List CommitKind) (kind : CommitKind) → IsDue first kind → IsDue (first ++ later) kind
due_left [] later kind (inl e) = absurd (cc)
due_left (fault ∷ first) later kind (inl e) = inl e
due_left first later kind (inr e) = inr e

pub due_right : (first later : List CommitKind) (kind : CommitKind) → first ≡ [] → IsDue later kind → IsDue (first ++ later) kind
due_right first later kind none given = rw none given

-- ---- the entries of new rows
