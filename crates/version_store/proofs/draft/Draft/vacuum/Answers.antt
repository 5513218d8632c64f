use Rattle.std.proofs.Common.{refl}
use Rattle.version_store.proofs.Drafting.{unkept_above, unkept_below, vacuum_performed}
use Rattle.version_store.proofs.draft.Draft.vacuum.Goals as goal

pub returns-then-least-low : goal.returns-then-least-low
returns-then-least-low c = λ version. rw (← c.self.view_is) (unkept_below c.args.high c.args.least _ c.if-least-low.true)

pub returns-then-high-least : goal.returns-then-high-least
returns-then-high-least c = λ version. rw (← c.self.view_is) (unkept_above c.args.high c.args.least _ c.if-least-low.false c.if-high-least.true)

pub returns : goal.returns
returns c = λ version. rw (← c.self.view_is) (vacuum_performed c.args.high version c.args.least _ _ c.if-least-low.false c.if-high-least.false refl)
