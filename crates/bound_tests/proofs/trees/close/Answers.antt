use Rattle.std.proofs.Common.{◌<◌, length, arith}
use Rattle.cert_tree.proofs.Balance.{closed_stays}
use Rattle.bound_tests.proofs.trees.close.Goals as goal

pub returns : goal.returns
returns c =
    let within : c.args.place < length c.args.left.now.items = omega (arith, c.requires.place, c.args.left.now.ok.0) in
    closed_stays c.args.records.now.items c.push.new.self.items c.args.left.now.items c.remove-path.new.self.items c.args.place c.remove-path.result c.args.mult within c.remove-path.ensures.value c.remove-path.ensures.items c.in_ok-push.ensures.items c.requires.balanced
