-- A query that comes is told of.
use Rattle.std.proofs.Common.{◌≡◌, ℕ, ◌+◌, inl, inr, Option, Some, List, [], ◌∷◌, ◌++◌, length, refl, sym, ap, subst, ◌∙◌, length-append, arith}
use Rattle.std.specs.Io.KnownBytes.{Consumes, IsAtEnd}
use Rattle.paql_ast.specs.declared.queries.Query.{Query}
use Rattle.paql_ast.specs.declared.statements.Statement.TheVariants as statements
use Rattle.paql_engine.specs.State.{SessionState}
use Rattle.paql_engine.specs.Texts.{IsLoad}
use Rattle.paql_engine.specs.Transcript.{Transcript}
use Rattle.paql_engine.specs.declared.ending.TheConstants.{MAX_BYTES}
use Rattle.paql_engine.proofs.TextOnce.{load_once, statement_once as one_statement}
use Rattle.paql_grammar.specs.Texts.{IsStatement}
use Rattle.pq_base.specs.Shown.{Shown}
use Rattle.session_proto.specs.Frames.{Skips, closed}
use Rattle.session_proto.specs.Input.{Content, absent}
use Rattle.session_proto.specs.Replies.{ReplyData}
use Rattle.session_proto.specs.Sessions.{Frame, Takes, IsFirst, Begins, NoneWhole, AreFrames}
use Rattle.session_proto.proofs.Framing.{statement_once}
use Rattle.session_proto.proofs.SessionSteps.{parts_once}
use Rattle.version_store.specs.Histories.{History}
use Rattle.version_store.specs.Vaults.{Holding}
use Rattle.session_server.specs.Checks.{PerformsWell, ComesQuery, ChecksWith, EndsCheck, IsCheckedOut, HasQuery, IsToldOrFault}
use Rattle.session_server.specs.declared.checking.CheckEnd.{CheckEnd}
use Rattle.session_server.specs.declared.checking.CheckEnd.TheVariants as ends
use Rattle.session_server.proofs.Complete.{all_read, prefix_read, long_stays}

-- ---- the first frame of bytes

takes_once : (words bytes : List ℕ) (given other : Content) (x y : List ℕ) → Takes (IsLoad words) bytes given x → Takes (IsLoad words) bytes other y → x ≡ y
takes_once words bytes given other x y (inl one) (inl two) = one.all ∙ sym two.all
takes_once words bytes given other x y (inl one) (inr two) = absurd (one.unwanted two.count two.wanted)
takes_once words bytes given other x y (inr one) (inl two) = absurd (two.unwanted one.count one.wanted)
takes_once words bytes given other x y (inr one) (inr two) =
    (parts_once one.body two.body x y (one.size ∙ load_once words one.count two.count one.wanted two.wanted ∙ sym two.size) (sym one.first ∙ two.first)).1

-- it has one text, and one rest comes after it
first_once : (bytes : List ℕ) (one two : Frame) (x y : List ℕ) → IsFirst IsLoad bytes one x → IsFirst IsLoad bytes two y → (one.text ≡ two.text) × (x ≡ y)
first_once bytes one two x y first other =
    let same = statement_once bytes one.text two.text first.behind other.behind first.is_statement other.is_statement first.first other.first in
    let takes : Takes (IsLoad one.text) first.behind two.content y =
    subst (λ (l : List ℕ). Takes (IsLoad one.text) l two.content y) (sym same.1) (subst (λ (words : List ℕ). Takes (IsLoad words) other.behind two.content y) (sym same.0) other.takes) in
    (same.0, takes_once one.text first.behind one.content two.content x y first.takes takes)

-- ---- a script that is all of the bytes

not_query : (history : History) (old : SessionState) (frame : Frame) (reply : ReplyData) (new : SessionState) (words : List ℕ) (asked : Query) → PerformsWell history old frame reply new → frame.text ≡ words → IsStatement words (statements.Query asked) → ⊥
not_query history old frame reply new words asked row same is =
    row.other asked (one_statement frame.text row.statement (statements.Query asked) row.is (subst (λ (l : List ℕ). IsStatement l (statements.Query asked)) (sym same) is))

-- the frame of a query
abbrev frame_of : List ℕ → Frame
frame_of words = record { text = words; content = absent }

-- has no query among its frames
never_query : (history : History) (old new : SessionState) (bytes rest between after : List ℕ) (fs gs : List Frame) (replies : List ReplyData) (asked : Query) → Begins IsLoad bytes fs rest → NoneWhole IsLoad rest → Transcript (PerformsWell history) old fs replies new
    → Begins IsLoad bytes gs between → ComesQuery between asked after → ⊥
never_query history old new bytes rest between after [] [] replies asked begins none transcript other comes =
    none (frame_of comes.words) after (subst (λ (l : List ℕ). IsFirst IsLoad l (frame_of comes.words) after) (other ∙ sym begins) comes.first)
never_query history old new bytes rest between after [] (g ∷ gs) replies asked begins none transcript other comes =
    none g other.0 (subst (λ (l : List ℕ). IsFirst IsLoad l g other.0) (sym begins) other.1)
never_query history old new bytes rest between after (f ∷ fs) gs [] asked begins none transcript other comes = absurd transcript
never_query history old new bytes rest between after (f ∷ fs) [] (reply ∷ replies) asked begins none transcript other comes =
    let same = first_once bytes f (frame_of comes.words) begins.0 after begins.1 (subst (λ (l : List ℕ). IsFirst IsLoad l (frame_of comes.words) after) other comes.first) in
    not_query history old f reply transcript.0 comes.words asked transcript.1 same.0 comes.is
never_query history old new bytes rest between after (f ∷ fs) (g ∷ gs) (reply ∷ replies) asked begins none transcript other comes =
    let same = first_once bytes f g begins.0 other.0 begins.1 other.1 in
    never_query history transcript.0 new begins.0 rest between after fs gs replies asked begins.2 none transcript.2 (subst (λ (l : List ℕ). Begins IsLoad l gs between) (sym same.1) other.2) comes

-- ---- the ends

module _ (vault vault_now : Holding) (source source_now sink sink_now : Shown) (end : CheckEnd) (checks : ChecksWith vault vault_now source source_now sink sink_now end) (has : HasQuery source.bytes) where
  -- what was read, where all that was left is known
  known : Consumes (Some has.bytes) source_now.bytes checks.bytes
  known = subst (λ (l : Option (List ℕ)). Consumes l source_now.bytes checks.bytes) has.told checks.read

  not_all : (frames : List Frame) (rest : List ℕ) → Begins IsLoad has.bytes frames rest → NoneWhole IsLoad rest → frames ≡ checks.script.frames → ⊥
  not_all frames rest begins none same =
      never_query vault_now.held _ checks.state has.bytes rest has.between has.after checks.script.frames has.frames checks.script.replies has.query
      (subst (λ (fs : List Frame). Begins IsLoad has.bytes fs rest) same begins) none checks.script.transcript has.begins has.comes

  -- so a check doesn't end before a query is met
  told_by : (at : CheckEnd) → EndsCheck vault_now.held checks.state checks.rest checks.written (length checks.bytes) at → (IsCheckedOut at → IsAtEnd source_now.bytes) → IsToldOrFault at
  unfolding known
  told_by ends.Valid so out = tt
  told_by ends.Invalid so out = tt
  told_by ends.Unjudged so out = tt
  told_by ends.ReadFault so out = tt
  told_by ends.WriteFault so out = tt
  told_by ends.Memory so out = tt
  told_by ends.Truncated so out =
      let all : checks.bytes ≡ has.bytes = all_read has.bytes checks.bytes source_now.bytes known (out tt) in
      not_all checks.script.frames checks.rest (subst (λ (l : List ℕ). Begins IsLoad l checks.script.frames checks.rest) all checks.script.begins) so.1.none refl
  told_by ends.TooLong so out =
      let prefix_is = prefix_read has.bytes checks.bytes source_now.bytes known in
      let stays = long_stays checks.bytes prefix_is.0 checks.rest checks.script.frames (record { begins = checks.script.begins; none = so.1 }) so.2 in
      let are = subst (λ (l : List ℕ). AreFrames IsLoad l checks.script.frames stays.0) (sym prefix_is.1) stays.1 in
      not_all checks.script.frames stays.0 are.begins are.none refl
  told_by ends.SessionLimit so out =
      let prefix_is = prefix_read has.bytes checks.bytes source_now.bytes known in
      let size : length has.bytes ≡ length checks.bytes + length prefix_is.0 = ap length prefix_is.1 ∙ length-append checks.bytes prefix_is.0 in
      absurd (omega (arith, size, so.2, has.few))

pub is_told : (vault vault_now : Holding) (source source_now sink sink_now : Shown) (end : CheckEnd) → ChecksWith vault vault_now source source_now sink sink_now end → HasQuery source.bytes → IsToldOrFault end
is_told vault vault_now source source_now sink sink_now end checks has = told_by vault vault_now source source_now sink sink_now end checks has end checks.ends checks.read_out
