use Rattle.session_server.proofs.checking.script.Script.run.Goals as goal

pub returns-in-Some : goal.returns-in-Some
returns-in-Some g c = λ vault source on.
    rw c.in-Some.is at (c.in_ok-stop.ensures.turns vault source (c.loop-stop.invariant vault source on))
