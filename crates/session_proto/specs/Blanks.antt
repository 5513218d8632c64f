-- Private: the law that says which texts are blank.
-- Which texts are blank.
use Rattle.std.specs.Prelude.{◌↔◌, ℕ, IsTrue, List, []}
use Rattle.pq_base.specs.Gaps.{IsGap}
use Rattle.session_proto.specs.Frames.{is_blank}

-- A text is blank exactly if all of it is space and comments, as between the tokens of a statement.
abbrev pub BlankIsGap : Type 0
BlankIsGap = (text : List ℕ) → IsTrue (is_blank text) ↔ IsGap text []
