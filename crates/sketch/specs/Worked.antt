-- Private: `worked_parts` in `src/laws.rt`.
-- A problem with three parts, worked by hand.
use Rattle.std.specs.Prelude.{◌≡◌, ℕ, ◌-◌, ◌^◌, List, [], ◌∷◌, ℤ, pos, negsuc}
use Rattle.lin_bound.specs.Problem.{ProblemData}
use Rattle.sketch.specs.Parts.{IsEven, ArePartsOf}
use Rattle.sketch.specs.Sketched.{sketch_of}
use Rattle.sketch.specs.Held.{given, others_of}
use Rattle.sketch.specs.Refined.{refine_of}
use Rattle.sketch.specs.Joined.{IsJoined}
use Rattle.sketch.specs.declared.held.HeldPart.{HeldPart}
use Rattle.sketch.specs.declared.held.HeldPart.TheVariants.{Sketch, Real}

-- six variables of at most 2, of cost 4, -1, -2, 7, 0 and -3, and one row of 1 to 6
abbrev pub whole : ProblemData
whole = record {
  cost = pos 4 ∷ (negsuc 0 ∷ (negsuc 1 ∷ (pos 7 ∷ (pos 0 ∷ (negsuc 2 ∷ [])))));
  rows = (pos 1 ∷ (pos 2 ∷ (pos 3 ∷ (pos 4 ∷ (pos 5 ∷ (pos 6 ∷ [])))))) ∷ [];
  rhs = pos 10 ∷ [];
  upper = 2 ∷ (2 ∷ (2 ∷ (2 ∷ (2 ∷ (2 ∷ [])))));
}

abbrev pub three : List (List ℕ)
three = (1 ∷ (2 ∷ [])) ∷ ((0 ∷ []) ∷ ((5 ∷ (3 ∷ (4 ∷ []))) ∷ []))

-- the mean of -1 and -2 is -1
abbrev pub sketched : ProblemData
sketched = record {
  cost = negsuc 0 ∷ (pos 4 ∷ (pos 1 ∷ []));
  rows = (pos 2 ∷ (pos 1 ∷ (pos 5 ∷ []))) ∷ [];
  rhs = pos 10 ∷ [];
  upper = 4 ∷ (2 ∷ (6 ∷ []));
}

-- 3 of the first part's sketch, 2 of the one variable, 1, 0 and 2 of the last three
abbrev pub held : List HeldPart
held = Sketch 3 ∷ (Real (2 ∷ []) ∷ (Real (1 ∷ (0 ∷ (2 ∷ []))) ∷ []))

-- the last part's problem, where the other two give 3 * 2 and 2 * 1
abbrev pub refined : ProblemData
refined = record {
  cost = negsuc 2 ∷ (pos 7 ∷ (pos 0 ∷ []));
  rows = (pos 6 ∷ (pos 4 ∷ (pos 5 ∷ []))) ∷ [];
  rhs = pos 2 ∷ [];
  upper = 2 ∷ (2 ∷ (2 ∷ []));
}

-- a right-hand side of which so much is taken is held, and so is one that so much is given to
abbrev pub much : List ℤ
much = pos (2 ^ 70) ∷ []

abbrev pub little : List ℤ
little = negsuc (2 ^ 70 - 1) ∷ []

-- 0 and 1 of the first part, 2 of the second, and as above of the last
abbrev pub counts : List (List ℕ)
counts = (0 ∷ (1 ∷ [])) ∷ ((2 ∷ []) ∷ ((1 ∷ (0 ∷ (2 ∷ []))) ∷ []))

abbrev pub together : List ℕ
together = 2 ∷ (0 ∷ (1 ∷ (0 ∷ (2 ∷ (1 ∷ [])))))

-- one variable of at most 3, one part, and no row: the sketch is the problem
abbrev pub lone : ProblemData
lone = record { cost = pos 5 ∷ []; rows = []; rhs = []; upper = 3 ∷ [] }

abbrev pub one_part : List (List ℕ)
one_part = (0 ∷ []) ∷ []

pub record AreWorked : Type 0 where
  pub even : IsEven whole
  pub parts : ArePartsOf whole three
  pub sketch : sketch_of whole three ≡ sketched
  pub real : given whole.cost (5 ∷ (3 ∷ (4 ∷ []))) (Real (1 ∷ (0 ∷ (2 ∷ [])))) ≡ negsuc 2
  pub others : others_of whole three held 2 ≡ pos 8 ∷ []
  pub refine : refine_of whole (5 ∷ (3 ∷ (4 ∷ []))) (others_of whole three held 2) ≡ refined
  pub most_taken : (refine_of whole (0 ∷ []) much).rhs ≡ negsuc (2 ^ 61 - 1) ∷ []
  pub most_given : (refine_of whole (0 ∷ []) little).rhs ≡ pos (2 ^ 61) ∷ []
  pub join : IsJoined whole three counts together
  pub no_rows : sketch_of lone one_part ≡ lone
