use Rattle.std.proofs.Common.{sym, ◌∙◌, ap, nat_cmp}
use Rattle.std.specs.Cmp.Lexicographic.{slice_cmp}
use Rattle.session_proto.proofs.Puts.{put_less, put_equal, put_greater}
use Rattle.session_proto.proofs.replies.place_of.Goals as goal

pub returns-in-Less : goal.returns-in-Less
returns-in-Less c =
    put_less c.args.key.now c.args.members.now c.loop-at.at c.index-members-at.result c.loop-at-test.true c.index-members-at.is (sym (ap (slice_cmp nat_cmp c.args.key.now) c.as_str.ensures.value) ∙ (sym c.cmp.ensures ∙ c.in-Less.is)) c.loop-at.invariant

pub returns-in-Equal : goal.returns-in-Equal
returns-in-Equal c =
    put_equal c.args.key.now c.args.members.now c.loop-at.at c.index-members-at.result c.loop-at-test.true c.index-members-at.is (sym (ap (slice_cmp nat_cmp c.args.key.now) c.as_str.ensures.value) ∙ (sym c.cmp.ensures ∙ c.in-Equal.is)) c.loop-at.invariant

pub loop-at-preserved : goal.loop-at-preserved
loop-at-preserved c =
    put_greater c.args.key.now c.args.members.now c.loop-at.at c.index-members-at.result c.loop-at-test.true c.index-members-at.is (sym (ap (slice_cmp nat_cmp c.args.key.now) c.as_str.ensures.value) ∙ (sym c.cmp.ensures ∙ c.in-Greater.is)) c.loop-at.invariant
