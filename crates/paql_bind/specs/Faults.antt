-- What an answer has to do with a computed list of faults.
use Rattle.std.specs.Prelude.{◌≡◌, List, [], ◌∷◌, Result, Ok, Err}
use Rattle.paql_bind.specs.declared.faults.BindFault.{BindFault}
use Rattle.paql_bind.specs.declared.faults.BindFault.TheVariants as answers
use Rattle.paql_bind.specs.declared.faults.Refusal.{Refusal}

-- the first of a list of faults
abbrev pub IsFirst : List Refusal → Refusal → Type 0
IsFirst [] refusal = ⊥
IsFirst (first ∷ later) refusal = first ≡ refusal

-- the refusal, unless memory runs out
abbrev pub Says : Refusal → BindFault → Type 0
Says due (answers.Refused refusal) = due ≡ refusal
Says due (answers.Memory error) = Unit {0}

-- the first of the faults, unless memory runs out
abbrev pub IsFault : List Refusal → BindFault → Type 0
IsFault faults (answers.Refused refusal) = IsFirst faults refusal
IsFault faults (answers.Memory error) = Unit {0}

-- the first of the faults is answered, and no error if there are none
abbrev pub Refuses : {A : Type 0} → List Refusal → Result A BindFault → Type 0
Refuses faults (Ok value) = faults ≡ []
Refuses faults (Err fault) = IsFault faults fault
