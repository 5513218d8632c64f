-- Transcripts with one more frame, and over longer histories.
use Rattle.std.proofs.Common.{◌≡◌, ℕ, List, [], ◌∷◌, ◌++◌, refl, ap, subst, ◌∙◌, append-nil}
use Rattle.std.proofs.lemmas.Grind.{flat_map-append}
use Rattle.session_proto.specs.Replies.{ReplyData, reply_text}
use Rattle.session_proto.specs.Sessions.{Frame}
use Rattle.version_store.specs.Histories.{History}
use Rattle.paql_engine.specs.State.{SessionState}
use Rattle.paql_engine.specs.Transcript.{Transcript, Answers, refuses, performs, lacks, texts}
use Rattle.paql_engine.proofs.Histories.{longer, becomes_longer}

-- one more frame is answered
pub transcript_more : {S : Type 0} (OneFrame : S → Frame → ReplyData → S → Type 0) (old mid new : S) (frames : List Frame) (replies : List ReplyData) (frame : Frame) (reply : ReplyData)
    → Transcript OneFrame old frames replies mid → OneFrame mid frame reply new → Transcript OneFrame old (frames ++ frame ∷ []) (replies ++ reply ∷ []) new
transcript_more {S} OneFrame old mid new [] [] frame reply none answers =
    (new, subst (λ (s : S). OneFrame s frame reply new) none answers, refl)
transcript_more OneFrame old mid new [] (first ∷ replies) frame reply none answers = absurd none
transcript_more OneFrame old mid new (first ∷ frames) [] frame reply none answers = absurd none
transcript_more OneFrame old mid new (first ∷ frames) (one ∷ replies) frame reply some answers =
    (some.0, some.1, transcript_more OneFrame some.0 mid new frames replies frame reply some.2 answers)

-- what is true of each frame is so by a weaker relation
pub transcript_weaker : {S : Type 0} (One Other : S → Frame → ReplyData → S → Type 0) → ((s : S) (frame : Frame) (reply : ReplyData) (t : S) → One s frame reply t → Other s frame reply t)
    → (old new : S) (frames : List Frame) (replies : List ReplyData) → Transcript One old frames replies new → Transcript Other old frames replies new
transcript_weaker One Other weaker old new [] [] same = same
transcript_weaker One Other weaker old new [] (reply ∷ replies) none = absurd none
transcript_weaker One Other weaker old new (frame ∷ frames) [] none = absurd none
transcript_weaker One Other weaker old new (frame ∷ frames) (reply ∷ replies) some =
    (some.0, weaker old frame reply some.0 some.1, transcript_weaker One Other weaker some.0 new frames replies some.2)

-- a frame's answer over a history is one over each longer history
answers_longer : (history more : History) (old : SessionState) (frame : Frame) (reply : ReplyData) (new : SessionState) → Answers history old frame reply new → Answers (history ++ more) old frame reply new
answers_longer history more old frame reply new (refuses row) = refuses row
answers_longer history more old frame reply new (performs row) = performs (record {
  statement = row.statement;
  is = row.is;
  steps = longer history more old new row.statement frame.content reply row.steps;
})
answers_longer history more old frame reply new (lacks row) = lacks (record {
  shown = row.shown;
  stays = becomes_longer history more old old.queue old.kept new row.stays;
})

pub transcript_longer : (history more : History) (old new : SessionState) (frames : List Frame) (replies : List ReplyData)
    → Transcript (Answers history) old frames replies new → Transcript (Answers (history ++ more)) old frames replies new
transcript_longer history more old new frames replies =
    transcript_weaker (Answers history) (Answers (history ++ more)) (answers_longer history more) old new frames replies

-- the bytes of one more reply
pub texts_more : (replies : List ReplyData) (reply : ReplyData) → texts (replies ++ reply ∷ []) ≡ texts replies ++ reply_text reply
texts_more replies reply = flat_map-append reply_text replies (reply ∷ []) ∙ ap (λ (l : List ℕ). texts replies ++ l) (append-nil (reply_text reply))
