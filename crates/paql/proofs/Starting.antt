-- A session or a check for whose store there is no memory.
use Rattle.std.proofs.Common.{List, [], inr, refl}
use Rattle.std.specs.Prelude.{String, Some}
use Rattle.std.specs.declared.alloc.Global.{Global}
use Rattle.pq_base.specs.Shown.{Shown}
use Rattle.paql_engine.specs.declared.ending.SessionEnd.TheVariants as ends
use Rattle.session_server.proofs.Running.{begins_without}
use Rattle.session_server.specs.declared.checking.CheckEnd.TheVariants as checking
use Rattle.session_server.proofs.Heard.{checks_without}
use Rattle.paql.specs.Commands.{IsCommand}
use Rattle.paql.specs.Status.{IsRun, IsCheck, Does, runs, checks, all_own}
use Rattle.paql.specs.declared.top.commands.Command.{Command}
use Rattle.paql.specs.declared.top.commands.Command.TheVariants.{Run, Check}

session_without : (words : List (String Global)) (source sink : Shown) → IsRun words → Does words source source sink sink 5
session_without words source sink run = runs run (record {
  history = [];
  end = ends.Memory;
  is = refl;
  ends = begins_without (all_own []) source sink;
  cause = (refl, refl);
  complete = λ whole. inr (inr (inr refl));
})

check_without : (words : List (String Global)) (source sink : Shown) → IsCheck words → Does words source source sink sink 5
check_without words source sink check = checks check (record {
  history = [];
  end = checking.Memory;
  is = refl;
  ends = checks_without (all_own []) source sink;
  cause = (refl, refl);
  complete = λ has. tt;
})

pub without_memory : (command : Command) (words : List (String Global)) (source sink : Shown) → IsCommand words (Some command) → Does words source source sink sink 5
without_memory Run words source sink is = session_without words source sink is
without_memory Check words source sink is = check_without words source sink is
