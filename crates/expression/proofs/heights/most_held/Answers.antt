use Rattle.std.proofs.Common.{get_or, arith}
use Rattle.std.proofs.lemmas.Bool.Decides.{nat_tests}
use Rattle.expression.proofs.Counts.{blank, one_more, peak_more}
use Rattle.expression.proofs.heights.most_held.Goals as goal

pub loop-node-preserved : goal.loop-node-preserved
loop-node-preserved c =
    let nodes = c.args.nodes.now in
    let k = c.loop-node in
    let o = one_more (get_or nodes k.node-index blank) k.held in
    let p = peak_more blank nodes k.node-index k.held k.most (omega arith) (omega arith) in
    grind (arith, nat_tests)
