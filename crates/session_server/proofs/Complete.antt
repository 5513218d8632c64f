-- A whole script is answered to its end.
use Rattle.std.proofs.Common.{◌≡◌, inl, inr, ℕ, ◌+◌, List, [], ◌++◌, length, Option, Some, None, refl, sym, ap, subst, ◌∙◌, append-nil, length-append, arith}
use Rattle.std.specs.Io.KnownBytes.{Consumes, IsAtEnd}
use Rattle.pq_base.specs.Shown.{Shown}
use Rattle.session_proto.specs.Input.{Input}
use Rattle.session_proto.specs.Sessions.{Frame, AreFrames, EndsClean, IsOverlong}
use Rattle.session_proto.proofs.SessionSteps.{one_framing, too_long_at_end}
use Rattle.paql_engine.specs.Ends.{Account, EndsSo}
use Rattle.paql_engine.specs.Texts.{IsLoad}
use Rattle.paql_engine.specs.declared.ending.SessionEnd.{SessionEnd}
use Rattle.paql_engine.specs.declared.ending.SessionEnd.TheVariants as ends
use Rattle.paql_engine.proofs.TextOnce.{load_once}
use Rattle.version_store.specs.Vaults.{Holding}
use Rattle.session_server.specs.Ends.{EndsWith, IsReadOut, IsWholeScript, IsDoneOrFault}

-- what was read to the end is all that was left
pub all_read : (bytes taken : List ℕ) (left_new : Option (List ℕ)) → Consumes (Some bytes) left_new taken → IsAtEnd left_new → taken ≡ bytes
all_read bytes taken None read out = absurd read
all_read bytes taken (Some rest) read out = sym (append-nil taken) ∙ ap (λ (l : List ℕ). taken ++ l) (sym out) ∙ sym read

-- what was read is a prefix of what was left
pub prefix_read : (bytes taken : List ℕ) (left_new : Option (List ℕ)) → Consumes (Some bytes) left_new taken → (more : List ℕ) × (bytes ≡ taken ++ more)
prefix_read bytes taken None read = absurd read
prefix_read bytes taken (Some rest) read = (rest, read)

-- a frame that is too long stays so, and no further frame comes
pub long_stays : (bytes more rest : List ℕ) (frames : List Frame) → AreFrames IsLoad bytes frames rest → IsOverlong rest
    → (after : List ℕ) × AreFrames IsLoad (bytes ++ more) frames after × IsOverlong after
long_stays bytes more rest frames are long =
    let input : Input = record { left = long.left; awaited = None } in
    let stopped = too_long_at_end IsLoad bytes more frames input input
    (record { rest = rest; begins = are.begins; skips = long.skips; awaits = refl })
    (record { before = refl; behind = refl; skips = ([], tt, refl); long = long.long; is_open = long.is_open }) in
    (stopped.0 ++ more, stopped.1, stopped.2)

module _ (source source_now : Shown) (script : IsWholeScript source.bytes) (account : Account) (read : Consumes source.bytes source_now.bytes account.bytes) where
  -- what was read, where all that was left is known
  known : Consumes (Some script.bytes) source_now.bytes account.bytes
  known = subst (λ (l : Option (List ℕ)). Consumes l source_now.bytes account.bytes) script.told read

  -- so no end inside a statement, no frame that is too long, and no limit of the session can be met
  whole_by : (end : SessionEnd) → EndsSo account end → (IsReadOut end → IsAtEnd source_now.bytes) → IsDoneOrFault end
  unfolding known
  whole_by ends.Done so out = inl refl
  whole_by ends.ReadFault so out = inr (inl refl)
  whole_by ends.WriteFault so out = inr (inr (inl refl))
  whole_by ends.Memory so out = inr (inr (inr refl))
  whole_by ends.Truncated (rest, answered, not_long, unclean) out =
      let all : account.bytes ≡ script.bytes = all_read script.bytes account.bytes source_now.bytes known (out tt) in
      let are = subst (λ (bytes : List ℕ). AreFrames IsLoad bytes account.frames rest) all answered.frames in
      let same = one_framing IsLoad load_once script.bytes account.frames script.frames rest script.rest are script.are in
      absurd (unclean (subst EndsClean (sym same.1) script.clean))
  whole_by ends.TooLong (rest, answered, long) out =
      let prefix_is = prefix_read script.bytes account.bytes source_now.bytes known in
      let stays = long_stays account.bytes prefix_is.0 rest account.frames answered.frames long in
      let are = subst (λ (bytes : List ℕ). AreFrames IsLoad bytes account.frames stays.0) (sym prefix_is.1) stays.1 in
      let same = one_framing IsLoad load_once script.bytes account.frames script.frames stays.0 script.rest are script.are in
      absurd (script.not_long (subst IsOverlong same.1 stays.2))
  whole_by ends.SessionLimit (rest, answered, not_long, many) out =
      let prefix_is = prefix_read script.bytes account.bytes source_now.bytes known in
      let size : length script.bytes ≡ length account.bytes + length prefix_is.0 = ap length prefix_is.1 ∙ length-append account.bytes prefix_is.0 in
      absurd (omega (arith, size, many, script.few))

pub is_whole : (vault vault_now : Holding) (source source_now sink sink_now : Shown) (end : SessionEnd) → EndsWith vault vault_now source source_now sink sink_now end → IsWholeScript source.bytes → IsDoneOrFault end
is_whole vault vault_now source source_now sink sink_now end ended script = whole_by source source_now script ended.account ended.read end ended.ends ended.read_out
