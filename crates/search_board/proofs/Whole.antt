-- What a seat with all parts learns at a moment of the rule.
use Rattle.std.proofs.Common.{◌≡◌, ℕ, min, sym, ap, ◌∙◌, arith, subst}
use Rattle.std.specs.Prelude.{ℤ, Option}
use Rattle.search_board.specs.Values.{rank, named, top}
use Rattle.search_board.specs.Views.{seeing}
use Rattle.search_board.proofs.Values.{rank_named}
use Rattle.search_board.specs.Rule.{times, parts_of, top_of, times_of}
use Rattle.search_board.specs.Steps.{Moment, IsAllDrawn}
use Rattle.search_board.specs.declared.view.BoardView.{BoardView}
use Rattle.search_board.proofs.Sums.{alone_total, alone_most}

-- the best word is the best of its own offers
pub best_alone : (v : BoardView) (best drawn : ℕ) → parts_of v ≡ 64 → Moment v best drawn → best ≡ top_of v
best_alone v best drawn all m =
    let h = m.3 in
    h.best_is ∙ alone_most top_of m.0 m.1 v m.2 (λ id u at none. ap top (((h.each id u at).idle none).0)) (h.parts ∙ sym all)

-- and its draws are all draws
pub drawn_alone : (v : BoardView) (best drawn : ℕ) → parts_of v ≡ 64 → Moment v best drawn → IsAllDrawn v.budget v.drawn
drawn_alone v best drawn all m =
    let h = m.3 in (
      min drawn v.budget,
      omega arith,
      λ x. sym (alone_total (times_of x) m.0 m.1 v m.2 (λ id u at none. ap (times x) (((h.each id u at).idle none).1)) (h.parts ∙ sym all)) ∙ h.once x,
    )

-- the same in the words of `look`
pub look_best : (v w : BoardView) (word : ℕ) (result : Option ℤ) → w ≡ seeing (named word) v → result ≡ named word → ((drawn : ℕ) × Moment w word drawn) → v.parts ≡ 64 → rank result ≡ top v.offered
look_best v w word result sees is m all = ap rank is ∙ rank_named word ∙ best_alone w word m.0 (ap parts_of sees ∙ all) m.1 ∙ ap top_of sees

pub look_drawn : (budget : ℕ) (v w : BoardView) (word : ℕ) → w ≡ seeing (named word) v → v.budget ≡ budget → ((drawn : ℕ) × Moment w word drawn) → v.parts ≡ 64 → IsAllDrawn budget v.drawn
look_drawn budget v w word sees is m all = subst (λ (b : BoardView). IsAllDrawn b.budget b.drawn → IsAllDrawn budget v.drawn) (sym sees) (subst (λ b. IsAllDrawn b v.drawn → IsAllDrawn budget v.drawn) (sym is) (λ d. d)) (drawn_alone w word m.0 (ap parts_of sees ∙ all) m.1)
