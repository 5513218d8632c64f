use Rattle.std.proofs.Common.{◌<◌, length, arith}
use Rattle.cert_tree.proofs.Balance.{split_stays}
use Rattle.bound_tests.proofs.trees.split.Goals as goal

pub returns : goal.returns
returns c =
    let within : c.args.place < length c.args.left.now.items = omega (arith, c.requires.place, c.args.left.now.ok.0) in
    split_stays c.args.records.now.items c.push-3.new.self.items c.args.left.now.items c.remove-path.new.self.items c.push.new.self.items c.push-2.new.self.items c.args.place c.remove-path.result c.in_ok-child.field-0 c.in_ok-child-2.field-0 c.args.var c.args.at c.args.mult within c.remove-path.ensures.value c.remove-path.ensures.items c.in_ok-child.ensures c.in_ok-child-2.ensures c.in_ok-push.ensures.items c.in_ok-push-2.ensures.items c.in_ok-push-3.ensures.items c.requires.balanced
