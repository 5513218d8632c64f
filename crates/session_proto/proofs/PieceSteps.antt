-- A frame's text is pieces, and pieces are a frame's text.
use Rattle.std.proofs.Common.{◌≡◌, ◌≢◌, ◌==◌, ℕ, cond, IsTrue, IsFalse, List, [], ◌∷◌, ◌++◌, inl, inr, refl, sym, ap, ◌∙◌, subst, append_assoc, arith}
use Rattle.std.specs.List.{concat}
use Rattle.std.proofs.lemmas.Bool.{cases_eq, eq-eqb, ne_eqb, eqb-false, cond-true, cond-false}
use Rattle.session_proto.specs.Frames.{opens, after, ends, is_code, place_behind, IsOpen}
use Rattle.session_proto.specs.Pieces.{Lacks, BeginsWith, IsPiece, ArePieces, IsOfPieces, FramesAreOfPieces}
use Rattle.session_proto.specs.declared.scan.Place.{Place}
use Rattle.session_proto.specs.declared.scan.Place.TheVariants as places

-- ---- where a byte leads

opens_quote : (byte : ℕ) (dash : Place) → byte ≡ 39 → opens byte dash ≡ places.Text
opens_quote byte dash e = subst (λ (n : ℕ). opens n dash ≡ places.Text) (sym e) refl

opens_dash : (byte : ℕ) (dash : Place) → byte ≡ 45 → opens byte dash ≡ dash
opens_dash byte dash e = subst (λ (n : ℕ). opens n dash ≡ dash) (sym e) refl

opens_other : (byte : ℕ) (dash : Place) → byte ≢ 39 → byte ≢ 45 → opens byte dash ≡ places.Plain
opens_other byte dash no_quote no_dash =
    cond-false (byte == 39) places.Text (cond (byte == 45) dash places.Plain) (ne_eqb byte 39 no_quote)
    ∙ cond-false (byte == 45) dash places.Plain (ne_eqb byte 45 no_dash)

opens_same : (byte : ℕ) (dash other : Place) → byte ≢ 45 → opens byte dash ≡ opens byte other
opens_same byte dash other no_dash =
    ap (λ (p : Place). cond (byte == 39) places.Text p)
    (cond-false (byte == 45) dash places.Plain (ne_eqb byte 45 no_dash)
    ∙ sym (cond-false (byte == 45) other places.Plain (ne_eqb byte 45 no_dash)))

leaves_at : (byte code : ℕ) (here : Place) → byte ≡ code → cond (byte == code) places.Plain here ≡ places.Plain
leaves_at byte code here e = cond-true (byte == code) places.Plain here (eq-eqb byte code e)

stays_at : (byte code : ℕ) (here : Place) → byte ≢ code → cond (byte == code) places.Plain here ≡ here
stays_at byte code here other = cond-false (byte == code) places.Plain here (ne_eqb byte code other)

-- ---- from places to pieces

-- no frame ends in the text, and a `;` after it ends one
abbrev pub Runs : Place → List ℕ → Type 0
Runs place text = IsOpen place text × IsTrue (is_code (place_behind place text))

-- what the text consists of, where it begins at this place
abbrev pub Reads : Place → List ℕ → Type 0
Reads places.Plain text = IsOfPieces text
Reads places.Dash text = IsOfPieces (45 ∷ text)
Reads places.Text text = (inside rest : List ℕ) × Lacks 39 inside × (text ≡ inside ++ 39 ∷ rest) × IsOfPieces rest
Reads places.Comment text = (line rest : List ℕ) × Lacks 10 line × (text ≡ line ++ 10 ∷ rest) × IsOfPieces rest

text_piece : (text inside rest : List ℕ) → Lacks 39 inside → text ≡ inside ++ 39 ∷ rest → IsOfPieces rest → IsOfPieces (39 ∷ text)
text_piece text inside rest lacks e of = (
  (39 ∷ (inside ++ 39 ∷ [])) ∷ of.0,
  (inl (inside, lacks, refl), of.1),
  ap (λ (w : List ℕ). 39 ∷ w) (e ∙ (ap (λ (w : List ℕ). inside ++ 39 ∷ w) of.2 ∙ sym (append_assoc inside (39 ∷ []) (concat of.0)))),
)

comment_piece : (text line rest : List ℕ) → Lacks 10 line → text ≡ line ++ 10 ∷ rest → IsOfPieces rest → IsOfPieces (45 ∷ (45 ∷ text))
comment_piece text line rest lacks e of = (
  (45 ∷ (45 ∷ (line ++ 10 ∷ []))) ∷ of.0,
  (inr (inl (line, lacks, refl)), of.1),
  ap (λ (w : List ℕ). 45 ∷ (45 ∷ w)) (e ∙ (ap (λ (w : List ℕ). line ++ 10 ∷ w) of.2 ∙ sym (append_assoc line (10 ∷ []) (concat of.0)))),
)

byte_piece : (byte : ℕ) (text : List ℕ) → byte ≢ 39 → byte ≢ 59 → (byte ≡ 45 → ¬ BeginsWith 45 (text ++ 59 ∷ [])) → IsOfPieces text → IsOfPieces (byte ∷ text)
byte_piece byte text no_quote no_end alone of = (
  (byte ∷ []) ∷ of.0,
  (inr (inr (byte, no_quote, no_end, (λ (e : byte ≡ 45). subst (λ (w : List ℕ). ¬ BeginsWith 45 (w ++ 59 ∷ [])) of.2 (alone e)), refl)), of.1),
  ap (λ (w : List ℕ). byte ∷ w) of.2,
)

plain_step : (byte : ℕ) (text : List ℕ) → byte ≢ 59 → Reads (opens byte places.Dash) text → IsOfPieces (byte ∷ text)
plain_step byte text no_end reads = elim (cases_eq byte 39) [
  | inl quote ↦
      let inner = subst (λ (p : Place). Reads p text) (opens_quote byte places.Dash quote) reads in
      subst (λ (n : ℕ). IsOfPieces (n ∷ text)) (sym quote) (text_piece text inner.0 inner.1 inner.2 inner.3 inner.4)
  | inr no_quote ↦ elim (cases_eq byte 45) [
    | inl dash ↦
        let inner = subst (λ (p : Place). Reads p text) (opens_dash byte places.Dash dash) reads in
        subst (λ (n : ℕ). IsOfPieces (n ∷ text)) (sym dash) inner
    | inr no_dash ↦
        let inner = subst (λ (p : Place). Reads p text) (opens_other byte places.Dash no_quote no_dash) reads in
        byte_piece byte text no_quote no_end (λ (e : byte ≡ 45). absurd (no_dash e)) inner
  ]
]

dash_step : (byte : ℕ) (text : List ℕ) → byte ≢ 59 → Reads (opens byte places.Comment) text → IsOfPieces (45 ∷ (byte ∷ text))
dash_step byte text no_end reads = elim (cases_eq byte 45) [
  | inl dash ↦
      let inner = subst (λ (p : Place). Reads p text) (opens_dash byte places.Comment dash) reads in
      subst (λ (n : ℕ). IsOfPieces (45 ∷ (n ∷ text))) (sym dash) (comment_piece text inner.0 inner.1 inner.2 inner.3 inner.4)
  | inr no_dash ↦
      let inner = subst (λ (p : Place). Reads p text) (opens_same byte places.Comment places.Dash no_dash) reads in
      byte_piece 45 (byte ∷ text) (omega arith) (omega arith) (λ (e : 45 ≡ 45) (begins : BeginsWith 45 ((byte ∷ text) ++ 59 ∷ [])). no_dash begins) (plain_step byte text no_end inner)
]

reads_of : (place : Place) (text : List ℕ) → Runs place text → Reads place text
reads_of places.Plain [] runs = ([], tt, refl)
reads_of places.Dash [] runs =
    byte_piece 45 [] (omega arith) (omega arith) (λ (e : 45 ≡ 45) (begins : BeginsWith 45 (59 ∷ [])). omega (arith, begins)) ([], tt, refl)
reads_of places.Text [] runs = let no = runs.1 in cc
reads_of places.Comment [] runs = let no = runs.1 in cc
reads_of places.Plain (byte ∷ text) runs =
    plain_step byte text (eqb-false byte 59 runs.0.0) (reads_of (opens byte places.Dash) text (runs.0.1, runs.1))
reads_of places.Dash (byte ∷ text) runs =
    dash_step byte text (eqb-false byte 59 runs.0.0) (reads_of (opens byte places.Comment) text (runs.0.1, runs.1))
reads_of places.Text (byte ∷ text) runs =
    let next = reads_of (after places.Text byte) text (runs.0.1, runs.1) in
    elim (cases_eq byte 39) [
      | inl quote ↦
          let inner = subst (λ (p : Place). Reads p text) (leaves_at byte 39 places.Text quote) next in
          ([], text, tt, ap (λ (n : ℕ). n ∷ text) quote, inner)
      | inr other ↦
          let inner = subst (λ (p : Place). Reads p text) (stays_at byte 39 places.Text other) next in
          (byte ∷ inner.0, inner.1, (other, inner.2), ap (λ (w : List ℕ). byte ∷ w) inner.3, inner.4)
    ]
reads_of places.Comment (byte ∷ text) runs =
    let next = reads_of (after places.Comment byte) text (runs.0.1, runs.1) in
    elim (cases_eq byte 10) [
      | inl feed ↦
          let inner = subst (λ (p : Place). Reads p text) (leaves_at byte 10 places.Comment feed) next in
          ([], text, tt, ap (λ (n : ℕ). n ∷ text) feed, inner)
      | inr other ↦
          let inner = subst (λ (p : Place). Reads p text) (stays_at byte 10 places.Comment other) next in
          (byte ∷ inner.0, inner.1, (other, inner.2), ap (λ (w : List ℕ). byte ∷ w) inner.3, inner.4)
    ]

-- ---- from pieces to places

runs_step : (place target : Place) (byte : ℕ) (text : List ℕ) → IsFalse (ends place byte) → after place byte ≡ target → Runs target text → Runs place (byte ∷ text)
runs_step place target byte text goes_on leads runs =
    ((goes_on, subst (λ (p : Place). IsOpen p text) (sym leads) runs.0), subst (λ (p : Place). IsTrue (is_code (place_behind p text))) (sym leads) runs.1)

runs_text : (inside rest : List ℕ) → Lacks 39 inside → Runs places.Plain rest → Runs places.Text (inside ++ 39 ∷ rest)
runs_text [] rest lacks runs = runs_step places.Text places.Plain 39 rest refl refl runs
runs_text (byte ∷ inside) rest lacks runs =
    runs_step places.Text places.Text byte (inside ++ 39 ∷ rest) refl (stays_at byte 39 places.Text lacks.0) (runs_text inside rest lacks.1 runs)

runs_comment : (line rest : List ℕ) → Lacks 10 line → Runs places.Plain rest → Runs places.Comment (line ++ 10 ∷ rest)
runs_comment [] rest lacks runs = runs_step places.Comment places.Plain 10 rest refl refl runs
runs_comment (byte ∷ line) rest lacks runs =
    runs_step places.Comment places.Comment byte (line ++ 10 ∷ rest) refl (stays_at byte 10 places.Comment lacks.0) (runs_comment line rest lacks.1 runs)

-- after a `-` alone it goes on as elsewhere
runs_dash : (rest : List ℕ) → (¬ BeginsWith 45 (rest ++ 59 ∷ [])) → Runs places.Plain rest → Runs places.Dash rest
runs_dash [] alone runs = (tt, refl)
runs_dash (byte ∷ rest) alone runs =
    runs_step places.Dash (opens byte places.Dash) byte rest runs.0.0 (opens_same byte places.Comment places.Dash alone) (runs.0.1, runs.1)

runs_piece : (piece rest : List ℕ) → IsPiece piece (rest ++ 59 ∷ []) → Runs places.Plain rest → Runs places.Plain (piece ++ rest)
runs_piece piece rest (inl is) runs =
    let inner : Runs places.Text ((is.0 ++ 39 ∷ []) ++ rest) =
    subst (λ (w : List ℕ). Runs places.Text w) (sym (append_assoc is.0 (39 ∷ []) rest)) (runs_text is.0 rest is.1 runs) in
    subst (λ (w : List ℕ). Runs places.Plain (w ++ rest)) (sym is.2) (runs_step places.Plain places.Text 39 ((is.0 ++ 39 ∷ []) ++ rest) refl refl inner)
runs_piece piece rest (inr (inl is)) runs =
    let inner : Runs places.Comment ((is.0 ++ 10 ∷ []) ++ rest) =
    subst (λ (w : List ℕ). Runs places.Comment w) (sym (append_assoc is.0 (10 ∷ []) rest)) (runs_comment is.0 rest is.1 runs) in
    let dash = runs_step places.Dash places.Comment 45 ((is.0 ++ 10 ∷ []) ++ rest) refl refl inner in
    subst (λ (w : List ℕ). Runs places.Plain (w ++ rest)) (sym is.2) (runs_step places.Plain places.Dash 45 (45 ∷ ((is.0 ++ 10 ∷ []) ++ rest)) refl refl dash)
runs_piece piece rest (inr (inr is)) runs =
    let whole : Runs places.Plain (is.0 ∷ rest) = elim (cases_eq is.0 45) [
      | inl dash ↦ runs_step places.Plain places.Dash is.0 rest (ne_eqb is.0 59 is.2) (opens_dash is.0 places.Dash dash) (runs_dash rest (is.3 dash) runs)
      | inr no_dash ↦ runs_step places.Plain places.Plain is.0 rest (ne_eqb is.0 59 is.2) (opens_other is.0 places.Dash is.1 no_dash) runs
    ] in
    subst (λ (w : List ℕ). Runs places.Plain (w ++ rest)) (sym is.4) whole

runs_of : (pieces : List (List ℕ)) → ArePieces pieces (59 ∷ []) → Runs places.Plain (concat pieces)
runs_of [] are = (tt, refl)
runs_of (piece ∷ pieces) are = runs_piece piece (concat pieces) are.0 (runs_of pieces are.1)

pub frames_are_of_pieces : FramesAreOfPieces
frames_are_of_pieces text = (
  λ (runs : Runs places.Plain text). reads_of places.Plain text runs,
  λ (of : IsOfPieces text). subst (λ (w : List ℕ). Runs places.Plain w) (sym of.2) (runs_of of.0 of.1),
)
