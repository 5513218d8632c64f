-- How answers follow from lists of faults that come one after another.
use Rattle.std.proofs.Common.{◌≡◌, ℕ, zero, suc, ◌+◌, ◌<◌, length, take, get_or, List, [], ◌∷◌, ◌++◌, flat_map, Result, subst, refl, sym, ap, ◌∙◌, append-nil, arith}
use Rattle.std.proofs.lemmas.List.{take_more}
use Rattle.std.proofs.lemmas.Grind.{flat_map-append}
use Rattle.paql_bind.specs.Faults.{IsFirst, IsFault, Refuses}
use Rattle.paql_bind.specs.declared.faults.BindFault.{BindFault}
use Rattle.paql_bind.specs.declared.faults.BindFault.TheVariants as answers
use Rattle.paql_bind.specs.declared.faults.Refusal.{Refusal}

pub nil_of_append : {X : Type 0} (xs ys : List X) → xs ++ ys ≡ [] → (xs ≡ []) × (ys ≡ [])
nil_of_append [] ys h = (refl, h)
nil_of_append (x ∷ xs) ys h = absurd (cc h)

first_of_first : (first later : List Refusal) (refusal : Refusal) → IsFirst first refusal → IsFirst (first ++ later) refusal
first_of_first [] later refusal h = absurd h
first_of_first (fault ∷ faults) later refusal h = h

-- the first part has a fault
pub fault_first : (first later : List Refusal) (fault : BindFault) → IsFault first fault → IsFault (first ++ later) fault
fault_first first later (answers.Refused refusal) h = first_of_first first later refusal h
fault_first first later (answers.Memory error) h = tt

-- the first part has none
pub fault_next : (first later : List Refusal) (fault : BindFault) → first ≡ [] → IsFault later fault → IsFault (first ++ later) fault
fault_next first later fault e h = rw e h

pub refuses_next : {A : Type 0} (first later : List Refusal) (result : Result A BindFault) → first ≡ [] → Refuses later result → Refuses (first ++ later) result
refuses_next first later result e h = rw e h

-- an element has a fault, and those before it have none
pub fault_at : {X : Type 0} (faults_of : X → List Refusal) (xs : List X) (at : ℕ) (x : X) (fault : BindFault) → at < length xs → x ≡ get_or xs at x → flat_map faults_of (take at xs) ≡ [] → IsFault (faults_of x) fault → IsFault (flat_map faults_of xs) fault
fault_at faults_of [] at x fault within is before h = absurd (omega arith)
fault_at faults_of (y ∷ ys) zero x fault within is before h =
    fault_first (faults_of y) (flat_map faults_of ys) fault (subst (λ (z : _). IsFault (faults_of z) fault) is h)
fault_at faults_of (y ∷ ys) (suc at) x fault within is before h =
    let parts = nil_of_append (faults_of y) (flat_map faults_of (take at ys)) before in
    fault_next (faults_of y) (flat_map faults_of ys) fault parts.0 (fault_at faults_of ys at x fault (omega arith) is parts.1 h)

-- one element more has none
pub none_more : {X : Type 0} (faults_of : X → List Refusal) (xs : List X) (at : ℕ) (x : X) → at < length xs → x ≡ get_or xs at x → flat_map faults_of (take at xs) ≡ [] → faults_of x ≡ [] → flat_map faults_of (take (at + 1) xs) ≡ []
none_more faults_of xs at x within is before none =
    ap (flat_map faults_of) (take_more xs at x within)
    ∙ (flat_map-append faults_of (take at xs) (get_or xs at x ∷ [])
    ∙ (ap (λ (faults : List Refusal). faults ++ (faults_of (get_or xs at x) ++ [])) before
    ∙ (append-nil (faults_of (get_or xs at x)) ∙ (ap faults_of (sym is) ∙ none))))

-- no element has a fault
pub none_at : {X : Type 0} (faults_of : X → List Refusal) (xs : List X) (at : ℕ) (x : X) → at < length xs → x ≡ get_or xs at x → flat_map faults_of xs ≡ [] → faults_of x ≡ []
none_at faults_of [] at x within is none = absurd (omega arith)
none_at faults_of (y ∷ ys) zero x within is none = ap faults_of is ∙ (nil_of_append (faults_of y) (flat_map faults_of ys) none).0
none_at faults_of (y ∷ ys) (suc at) x within is none = none_at faults_of ys at x (omega arith) is (nil_of_append (faults_of y) (flat_map faults_of ys) none).1

pub ruleset in_order = (fault_first, fault_next)
