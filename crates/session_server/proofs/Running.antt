-- What the loop of a session keeps, and how it ends.
use Rattle.std.proofs.Common.{◌≡◌, ℕ, ◌<◌, ◌≤◌, List, [], ◌++◌, length, Option, append-nil, append_assoc, refl, sym, ap, subst, ◌∙◌, arith}
use Rattle.std.specs.Io.KnownBytes.{Consumes, Keeps}
use Rattle.std.proofs.KnownBytes.{Appends-trans, Consumes-trans, Consumes-kept, Appends-nil, Consumes-nil}
use Rattle.pq_base.specs.Outside.{Rose}
use Rattle.pq_base.specs.Shown.{Shown, HasEnded, HasFailed, HasNoFault}
use Rattle.paql_engine.specs.Conversation.{Stage, OwnMachine, Outside, over, IsAtStage, IsServing, framing, reading, ended, told, told_at, turns_left, none, input_ended, read_failed, write_failed}
use Rattle.paql_engine.specs.Ends.{Account, EndsSo}
use Rattle.version_store.specs.Histories.{History}
use Rattle.version_store.specs.Vaults.{Holding, IsPrefix}
use Rattle.paql_engine.specs.Machine.{Continues, ContinuesOver}
use Rattle.paql_engine.specs.declared.ending.SessionEnd.{SessionEnd}
use Rattle.paql_engine.specs.declared.ending.SessionEnd.TheVariants as ends
use Rattle.paql_engine.specs.declared.ending.TheConstants.{MAX_BYTES}
use Rattle.paql_engine.specs.State.{SessionState, Grows, opening}
use Rattle.paql_engine.proofs.Serving.{account_of, begun_without}
use Rattle.session_server.specs.Driving.{PutCause, PutsOwed, PullCause, ReadsMore, IsTold, IsRunning}
use Rattle.session_server.specs.Ends.{EndsWith, HasCause, IsReadOut}

-- ---- faults

pub fails_later : (old between now : Shown) → HasNoFault old between → HasFailed between now → HasFailed old now
fails_later old between now fine failed = subst (λ (n : ℕ). Rose n now.faults) fine failed

pub fine_later : (old between now : Shown) → HasNoFault old between → HasNoFault between now → HasNoFault old now
fine_later old between now fine more = more ∙ fine

-- ---- the loop

pub prefix_more : (old between now : History) → IsPrefix old between → IsPrefix between now → IsPrefix old now
prefix_more old between now (more, is) (later, comes) =
    (more ++ later, comes ∙ ap (λ (h : History). h ++ later) is ∙ append_assoc old more later)

pub grows_on : (old between now : Holding) → Grows old between → Grows between now → Grows old now
grows_on old between now grew grows =
    record { held = prefix_more old.held between.held now.held grew.held grows.held; stake = grows.stake ∙ grew.stake }

pub grows_none : (vault : Holding) → Grows vault vault
grows_none vault = record { held = ([], sym (append-nil vault.held)); stake = refl }

pub begins : (vault : Holding) (source sink : Shown) (machine : OwnMachine) → ((held : Holding) → IsServing (opening held) [] [] (over held machine)) → told machine.talk ≡ none
    → IsRunning vault vault source source sink sink machine
begins vault source sink machine serves is = record {
  bytes = [];
  written = [];
  read = Consumes-nil source.bytes;
  wrote = Appends-nil sink.bytes;
  serving = serves vault;
  grows = grows_none vault;
  cause = subst (λ (o : Outside). IsTold source source sink sink o) (sym is) (refl, refl);
}

-- memory is out before anything is read or written
pub begins_without : (vault : Holding) (source sink : Shown) → EndsWith vault vault source source sink sink ends.Memory
begins_without vault source sink = record {
  account = account_of [] [] [] [];
  state = opening vault;
  grows = grows_none vault;
  own = refl;
  seen = refl;
  read = Consumes-nil source.bytes;
  most = omega arith;
  transcript = refl;
  wrote = Appends-nil sink.bytes;
  ends = begun_without;
  read_out = λ out. absurd out;
}

-- neither the source nor the sink was asked
pub goes_on : (vault vault_now after : Holding) (source source_now sink sink_now : Shown) (old new : OwnMachine) → Continues (over vault_now old) (over after new) → Grows vault_now after → told new.talk ≡ told old.talk
    → IsRunning vault vault_now source source_now sink sink_now old → IsRunning vault after source source_now sink sink_now new
goes_on vault vault_now after source source_now sink sink_now old new continues grows same run = record {
  bytes = run.bytes;
  written = run.written;
  read = run.read;
  wrote = run.wrote;
  serving = continues (opening vault) run.bytes run.written run.serving;
  grows = grows_on vault vault_now after run.grows grows;
  cause = subst (λ (o : Outside). IsTold source source_now sink sink_now o) (sym same) run.cause;
}

-- while nothing was told, neither failed
fine_so_far : (vault vault_now : Holding) (source source_now sink sink_now : Shown) (machine : OwnMachine) → told machine.talk ≡ none → IsRunning vault vault_now source source_now sink sink_now machine
    → HasNoFault source source_now × HasNoFault sink sink_now
fine_so_far vault vault_now source source_now sink sink_now machine is run = subst (λ (o : Outside). IsTold source source_now sink sink_now o) is run.cause

told_by_sink : (source source_now sink sink_now next : Shown) (outside : Outside) → HasNoFault source source_now × HasNoFault sink sink_now → PutCause sink_now next outside
    → IsTold source source_now sink next outside
told_by_sink source source_now sink sink_now next none fine cause = (fine.0, fine_later sink sink_now next fine.1 cause)
told_by_sink source source_now sink sink_now next write_failed fine cause = (fine.0, fails_later sink sink_now next fine.1 cause)
told_by_sink source source_now sink sink_now next input_ended fine cause = absurd cause
told_by_sink source source_now sink sink_now next read_failed fine cause = absurd cause

pub puts : (vault vault_now : Holding) (source source_now sink sink_now next : Shown) (old new : OwnMachine) → old.talk.stage ≡ framing → PutsOwed sink_now next old new
    → IsRunning vault vault_now source source_now sink sink_now old → IsRunning vault vault_now source source_now sink next new
puts vault vault_now source source_now sink sink_now next old new is did run = record {
  bytes = run.bytes;
  written = run.written ++ did.piece;
  read = run.read;
  wrote = Appends-trans sink.bytes sink_now.bytes next.bytes run.written did.piece run.wrote did.wrote;
  serving = did.writes vault_now (opening vault) run.bytes run.written run.serving;
  grows = run.grows;
  cause = told_by_sink source source_now sink sink_now next (told new.talk) (fine_so_far vault vault_now source source_now sink sink_now old (ap (λ (s : Stage). told_at s) is) run) did.cause;
}

told_by_source : (source source_now next sink sink_now : Shown) (outside : Outside) → HasNoFault source source_now × HasNoFault sink sink_now → PullCause source_now next outside
    → IsTold source next sink sink_now outside
told_by_source source source_now next sink sink_now none fine cause = (fine_later source source_now next fine.0 cause, fine.1)
told_by_source source source_now next sink sink_now input_ended fine cause = (fine_later source source_now next fine.0 cause.0, fine.1, cause.1)
told_by_source source source_now next sink sink_now read_failed fine cause = (fails_later source source_now next fine.0 cause, fine.1)
told_by_source source source_now next sink sink_now write_failed fine cause = absurd cause

pub pulls : (vault vault_now : Holding) (source source_now next sink sink_now : Shown) (old new : OwnMachine) → old.talk.stage ≡ reading → ReadsMore source_now next old new
    → IsRunning vault vault_now source source_now sink sink_now old → IsRunning vault vault_now source next sink sink_now new
pulls vault vault_now source source_now next sink sink_now old new is reads run = record {
  bytes = run.bytes ++ reads.piece;
  written = run.written;
  read = Consumes-trans source.bytes source_now.bytes next.bytes run.bytes reads.piece run.read reads.read;
  wrote = run.wrote;
  serving = reads.feeds vault_now (opening vault) run.bytes run.written run.serving;
  grows = run.grows;
  cause = told_by_source source source_now next sink sink_now (told new.talk) (fine_so_far vault vault_now source source_now sink sink_now old (ap (λ (s : Stage). told_at s) is) run) reads.cause;
}

-- a read that gave nothing
pub reads_nothing : (source now : Shown) (old new : OwnMachine) (outside : Outside) → Consumes source.bytes now.bytes [] → ContinuesOver old new → told new.talk ≡ outside → PullCause source now outside
    → turns_left new.talk < turns_left old.talk → ReadsMore source now old new
reads_nothing source now old new outside read continues is cause turns = record {
  piece = [];
  read = read;
  feeds = λ (vault : Holding) (first : SessionState) (bytes written : List ℕ). λ serving.
      subst (λ (l : List ℕ). IsServing first l written (over vault new)) (sym (append-nil bytes)) (continues vault first bytes written serving);
  cause = subst (λ (o : Outside). PullCause source now o) (sym is) cause;
  turns = turns;
}

pub consumes_nothing : (old now : Option (List ℕ)) → Keeps old now → Consumes old now []
consumes_nothing old now keeps = Consumes-kept old old now [] (Consumes-nil old) keeps

-- ---- the end

ended_by : (source source_now sink sink_now : Shown) (end : SessionEnd) → IsTold source source_now sink sink_now (told_at (ended end))
    → HasCause source source_now sink sink_now end × (IsReadOut end → HasEnded source_now)
ended_by source source_now sink sink_now ends.Done cause = ((cause.0, cause.1), λ out. cause.2)
ended_by source source_now sink sink_now ends.Truncated cause = ((cause.0, cause.1), λ out. cause.2)
ended_by source source_now sink sink_now ends.ReadFault cause = (cause, λ out. absurd out)
ended_by source source_now sink sink_now ends.WriteFault cause = (cause, λ out. absurd out)
ended_by source source_now sink sink_now ends.Memory cause = (cause, λ out. absurd out)
ended_by source source_now sink sink_now ends.TooLong cause = (cause, λ out. absurd out)
ended_by source source_now sink sink_now ends.SessionLimit cause = (cause, λ out. absurd out)

cause_at : (vault vault_now : Holding) (source source_now sink sink_now : Shown) (machine : OwnMachine) (end : SessionEnd) → machine.talk.stage ≡ ended end → IsRunning vault vault_now source source_now sink sink_now machine
    → IsTold source source_now sink sink_now (told_at (ended end))
cause_at vault vault_now source source_now sink sink_now machine end is run = subst (λ (s : Stage). IsTold source source_now sink sink_now (told_at s)) is run.cause

pub has_cause : (vault vault_now : Holding) (source source_now sink sink_now : Shown) (machine : OwnMachine) (end : SessionEnd) → machine.talk.stage ≡ ended end → IsRunning vault vault_now source source_now sink sink_now machine
    → HasCause source source_now sink sink_now end
has_cause vault vault_now source source_now sink sink_now machine end is run =
    (ended_by source source_now sink sink_now end (cause_at vault vault_now source source_now sink sink_now machine end is run)).0

few_taken : (n taken : ℕ) → n ≡ taken → taken ≤ MAX_BYTES → n ≤ MAX_BYTES
few_taken n taken same few = subst (λ (m : ℕ). m ≤ MAX_BYTES) (sym same) few

pub ends_with : (vault vault_now : Holding) (source source_now sink sink_now : Shown) (machine : OwnMachine) (end : SessionEnd) → machine.talk.stage ≡ ended end → IsRunning vault vault_now source source_now sink sink_now machine
    → EndsWith vault vault_now source source_now sink sink_now end
ends_with vault vault_now source source_now sink sink_now machine end is run =
    let account : Account = account_of run.bytes run.serving.frames run.serving.replies run.written in
    let so : EndsSo account end = subst (λ (s : Stage). IsAtStage account machine.talk s) is run.serving.serves.stage in
    record {
      account = account;
      state = (over vault_now machine).session.state;
      grows = run.grows;
      own = refl;
      seen = refl;
      read = run.read;
      most = few_taken (length run.bytes) machine.talk.taken run.serving.serves.counted run.serving.serves.few;
      transcript = run.serving.serves.transcript;
      wrote = run.wrote;
      ends = so;
      read_out = (ended_by source source_now sink sink_now end (cause_at vault vault_now source source_now sink sink_now machine end is run)).1;
    }
