use Rattle.std.proofs.Common.{refl, sym, ap, ◌∙◌, ◌++◌, ◌∷◌, [], List}
use Rattle.std.proofs.lemmas.Option.{slice_get_read}
use Rattle.lin_bound.specs.declared.path.Branch.{Branch}
use Rattle.lin_bound.specs.declared.mult.Mult.{Mult}
use Rattle.cert_tree.specs.declared.records.Record.{Record}
use Rattle.cert_tree.specs.declared.records.Act.TheVariants.{Split}
use Rattle.search_core.proofs.Table.{both_open}
use Rattle.search_core.proofs.state.State.split.Goals as goal

pub returns-clause-ok : goal.returns-clause-ok
returns-clause-ok c =
    let within = rw (sym c.self.view_is) at c.requires in
    let old = c.self.inside.records.items in
    let above = rw c.path.ensures at c.in_ok-lower.ensures.upper in
    let below = rw c.path.ensures at c.in_ok-lower.ensures.lower in
    let turn = rw (sym c.new.ensures, sym c.new-2.ensures) at c.in_turn-first.ensures in
    rw (sym c.self.view_is) (record {
      hand = c.remove.result;
      moves = record {
        there = slice_get_read c.self.inside.hands.items _ c.args.place c.remove.result refl within c.remove.ensures.value;
        hands = c.remove.ensures.items;
        records = c.push_reserved-3.ensures.items
            ∙ (ap (λ (records : List Record). records ++ record { path = c.into_path-path.result; act = Split c.args.var c.args.at c.in_ok-mult.mult } ∷ []) c.in_ok-reserve-2.ensures.items
            ∙ (ap (λ (mult : Mult). old ++ record { path = c.into_path-path.result; act = Split c.args.var c.args.at mult } ∷ []) c.in_ok-mult.ensures
            ∙ ap (λ (path : List Branch). old ++ record { path = path; act = Split c.args.var c.args.at c.args.mult.now } ∷ []) c.into_path-path.ensures));
        budget = refl;
        best = refl;
      };
      left = both_open c.self.inside.left.items _ _ _ c.self.inside.hands.items c.args.place c.remove.result c.index.result.now _ _ _ _ c.args.is_upper_next c.args.var c.args.at within c.remove.ensures.value c.index.ensures below above turn c.in_ok-reserve.ensures.items c.push_reserved.ensures.items c.push_reserved-2.ensures.items;
    })
