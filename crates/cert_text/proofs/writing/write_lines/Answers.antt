use Rattle.std.proofs.Common.{List, ℕ, [], ◌∷◌, ◌++◌, map, subst}
use Rattle.cert_tree.specs.declared.nodes.TreeNode.{TreeNode}
use Rattle.cert_text.specs.declared.kinds.Kind.TheVariants.{Header, Vars, Rows, End}
use Rattle.cert_text.specs.Lines.{Row, row}
use Rattle.cert_text.specs.Certs.{claim_row, package_rows, node_row}
use Rattle.cert_text.specs.Rules.{Puts}
use Rattle.cert_text.proofs.Texts.{puts_both}
use Rattle.cert_text.proofs.writing.write_lines.Goals as goal

pub returns : goal.returns
returns c =
    let old = c.args.out.now.items in
    let one = c.put_line.new.out.items in
    let two = c.put_line-2.new.out.items in
    let three = c.put_line-3.new.out.items in
    let four = c.put_claim.new.out.items in
    let five = c.put_package.new.out.items in
    let six = c.put_nodes.new.out.items in
    let new = c.put_line-4.new.out.items in
    let second : Puts one two (row Vars (c.args.vars ∷ []) ∷ []) =
    subst (λ (number : ℕ). Puts one two (row Vars (number ∷ []) ∷ [])) c.from.ensures c.in_ok-put_line-2.ensures in
    let third : Puts two three (row Rows (c.args.rows ∷ []) ∷ []) =
    subst (λ (number : ℕ). Puts two three (row Rows (number ∷ []) ∷ [])) c.from-2.ensures c.in_ok-put_line-3.ensures in
    let last : List Row = row End [] ∷ [] in
    let nodes : List Row = map node_row c.args.nodes.now ++ last in
    let packed : List Row = package_rows c.args.claim c.args.pairs.now ++ nodes in
    let claimed : List Row = claim_row c.args.claim ∷ packed in
    let counted : List Row = row Rows (c.args.rows ∷ []) ∷ claimed in
    let sized : List Row = row Vars (c.args.vars ∷ []) ∷ counted in
    puts_both old one new (row Header [] ∷ []) sized c.in_ok-put_line.ensures
    (puts_both one two new (row Vars (c.args.vars ∷ []) ∷ []) counted second
    (puts_both two three new (row Rows (c.args.rows ∷ []) ∷ []) claimed third
    (puts_both three four new (claim_row c.args.claim ∷ []) packed c.in_ok-put_claim.ensures
    (puts_both four five new (package_rows c.args.claim c.args.pairs.now) nodes c.in_ok-put_package.ensures
    (puts_both five six new (map node_row c.args.nodes.now) last c.in_ok-put_nodes.ensures c.in_ok-put_line-4.ensures)))))
