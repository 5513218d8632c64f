-- A text is blank exactly if it is space and comments.
use Rattle.std.proofs.Common.{◌≡◌, ℕ, Bool, true, false, not, ◌&&◌, ◌||◌, List, [], ◌∷◌, ◌++◌, inl, inr, IsTrue, IsFalse, refl, sym, ap, ◌∙◌, subst}
use Rattle.std.specs.Prelude.{◌==◌, ◌⊎◌, if◌then◌else◌}
use Rattle.std.specs.List.{concat}
use Rattle.std.proofs.lemmas.Bool.{cases_eq, eqb-true, ne_eqb}
use Rattle.std.proofs.lemmas.List.{append-nil}
use Rattle.pq_base.specs.Gaps.{AllIn, EndsRun, is_space, in_line, IsPiece, ArePieces, IsGap}
use Rattle.session_proto.specs.Frames.{after, shows, place_behind, shows_token, is_dash, is_blank}
use Rattle.session_proto.specs.Blanks.{BlankIsGap}
use Rattle.session_proto.specs.declared.scan.Place.{Place}
use Rattle.session_proto.specs.declared.scan.Place.TheVariants as places

-- the bytes tell of no token, and don't end with a `-`
abbrev IsSilent : Place → List ℕ → Type 0
IsSilent place bytes = (shows_token place bytes ≡ false) × (is_dash (place_behind place bytes) ≡ false)

-- one byte more before it
silent_more : (place later : Place) (byte : ℕ) (bytes : List ℕ) → shows place byte ≡ false → after place byte ≡ later → IsSilent later bytes → IsSilent place (byte ∷ bytes)
silent_more place later byte bytes silent leads rest = (
  ap (λ (b : Bool). b || shows_token (after place byte) bytes) silent ∙ (ap (λ (p : Place). shows_token p bytes) leads ∙ rest.0),
  ap (λ (p : Place). is_dash (place_behind p bytes)) leads ∙ rest.1,
)

not_true : (b : Bool) → not b ≡ true → b ≡ false
not_true true both = cc
not_true false both = refl

not_false : (b : Bool) → not b ≡ false → b ≡ true
not_false true both = refl
not_false false both = cc

-- ---- from space and comments to blank

not_equal : (byte other : ℕ) → IsTrue (is_space byte) → is_space other ≡ false → (byte == other) ≡ false
not_equal byte other space apart = elim (cases_eq byte other) [
  | inl same ↦
      let clash : true ≡ false = sym space ∙ (ap (λ (n : ℕ). is_space n) same ∙ apart) in
      cc
  | inr differ ↦ ne_eqb byte other differ
]

space_stays : (byte : ℕ) → IsTrue (is_space byte) → after places.Plain byte ≡ places.Plain
space_stays byte space =
    let no_quote : after places.Plain byte ≡ (if byte == 45 then places.Dash else places.Plain) =
    ap (λ (b : Bool). if b then places.Text else (if byte == 45 then places.Dash else places.Plain)) (not_equal byte 39 space refl) in
    let no_dash : (if byte == 45 then places.Dash else places.Plain) ≡ places.Plain =
    ap (λ (b : Bool). if b then places.Dash else places.Plain) (not_equal byte 45 space refl) in
    no_quote ∙ no_dash

silent_space : (byte : ℕ) (bytes : List ℕ) → IsTrue (is_space byte) → IsSilent places.Plain bytes → IsSilent places.Plain (byte ∷ bytes)
silent_space byte bytes space rest =
    let silent : shows places.Plain byte ≡ false = ap (λ (b : Bool). not b && not (byte == 45)) space in
    silent_more places.Plain places.Plain byte bytes silent (space_stays byte space) rest

-- a line goes on to its end
silent_line : (line rest : List ℕ) → AllIn in_line line → IsSilent places.Comment rest → IsSilent places.Comment (line ++ rest)
silent_line [] rest all silent = silent
silent_line (byte ∷ line) rest all silent =
    let stays : after places.Comment byte ≡ places.Comment =
    ap (λ (b : Bool). if b then places.Plain else places.Comment) (not_true (byte == 10) all.0) in
    silent_more places.Comment places.Comment byte (line ++ rest) refl stays (silent_line line rest all.1 silent)

-- after a line nothing is left, or a line feed comes
silent_after : (rest : List ℕ) → EndsRun in_line rest → IsSilent places.Plain rest → IsSilent places.Comment rest
silent_after [] ends silent = (refl, refl)
silent_after (byte ∷ rest) ends silent =
    let feed : byte ≡ 10 = eqb-true byte 10 (not_false (byte == 10) ends) in
    let on : IsSilent places.Plain (10 ∷ rest) = subst (λ (n : ℕ). IsSilent places.Plain (n ∷ rest)) feed silent in
    let leads : after places.Comment byte ≡ places.Plain = ap (λ (n : ℕ). after places.Comment n) feed in
    silent_more places.Comment places.Plain byte rest refl leads on

silent_comment : (line rest : List ℕ) → AllIn in_line line → EndsRun in_line rest → IsSilent places.Plain rest → IsSilent places.Plain (45 ∷ (45 ∷ (line ++ rest)))
silent_comment line rest all ends silent = silent_line line rest all (silent_after rest ends silent)

silent_piece : (piece rest : List ℕ) → IsPiece piece rest → IsSilent places.Plain rest → IsSilent places.Plain (piece ++ rest)
silent_piece piece rest (inl space) silent =
    subst (λ (w : List ℕ). IsSilent places.Plain (w ++ rest)) (sym space.2) (silent_space space.0 rest space.1 silent)
silent_piece piece rest (inr comment) silent =
    subst (λ (w : List ℕ). IsSilent places.Plain (w ++ rest)) (sym comment.2) (silent_comment comment.0 rest comment.1 comment.3 silent)

silent_pieces : (pieces : List (List ℕ)) → ArePieces pieces [] → IsSilent places.Plain (concat pieces)
silent_pieces [] are = (refl, refl)
silent_pieces (piece ∷ pieces) are =
    let first = subst (λ (w : List ℕ). IsPiece piece w) (append-nil (concat pieces)) are.0 in
    silent_piece piece (concat pieces) first (silent_pieces pieces are.1)

silent_blank : (text : List ℕ) → IsSilent places.Plain text → IsTrue (is_blank text)
silent_blank text silent =
    ap (λ (b : Bool). not b && not (is_dash (place_behind places.Plain text))) silent.0 ∙ ap (λ (b : Bool). not b) silent.1

-- ---- from blank to space and comments

none_left : (word rest : List ℕ) → [] ≡ word ++ rest → ¬ IsPiece word rest
none_left [] rest same (inl space) = cc
none_left [] rest same (inr comment) = cc
none_left (byte ∷ word) rest same is = cc

gap_nil : IsGap [] []
gap_nil = ([], none_left, refl)

gap_more : (piece rest : List ℕ) → IsPiece piece rest → IsGap rest [] → IsGap (piece ++ rest) []
gap_more piece rest is gap =
    let same : rest ≡ concat gap.0 ++ [] = gap.2 ∙ sym (append-nil (concat gap.0)) in
    (piece ∷ gap.0, (subst (λ (w : List ℕ). IsPiece piece w) same is, gap.1), ap (λ (w : List ℕ). piece ++ w) gap.2)

-- the rest of a line, and then space and comments
abbrev IsLine : List ℕ → Type 0
IsLine bytes = (line rest : List ℕ) × AllIn in_line line × EndsRun in_line rest × (bytes ≡ line ++ rest) × IsGap rest []

-- what silent bytes are, by their place
abbrev IsMade : Place → List ℕ → Type 0
IsMade places.Plain bytes = IsGap bytes []
IsMade places.Dash bytes = (rest : List ℕ) × (bytes ≡ 45 ∷ rest) × IsLine rest
IsMade places.Comment bytes = IsLine bytes
IsMade places.Text bytes = Unit {0}

or_first : (a b : Bool) → (a || b) ≡ false → a ≡ false
or_first true b none = none
or_first false b none = refl

or_second : (a b : Bool) → (a || b) ≡ false → b ≡ false
or_second true b none = cc
or_second false b none = none

-- one byte less before it
silent_less : (place later : Place) (byte : ℕ) (bytes : List ℕ) → after place byte ≡ later → IsSilent place (byte ∷ bytes) → IsSilent later bytes
silent_less place later byte bytes leads silent =
    let rest : IsSilent (after place byte) bytes =
    (or_second (shows place byte) (shows_token (after place byte) bytes) silent.0, silent.1) in
    subst (λ (p : Place). IsSilent p bytes) leads rest

shows_none : (place : Place) (byte : ℕ) (bytes : List ℕ) → IsSilent place (byte ∷ bytes) → shows place byte ≡ false
shows_none place byte bytes silent =
    or_first (shows place byte) (shows_token (after place byte) bytes) silent.0

-- outside a text and a comment a silent byte is space, or a `-`
space_or_dash : (space dash : Bool) → (not space && not dash) ≡ false → (space ≡ true) ⊎ (dash ≡ true)
space_or_dash true dash none = inl refl
space_or_dash false true none = inr refl
space_or_dash false false none = cc

-- `--` begins a comment
comment_more : (bytes : List ℕ) → IsMade places.Dash bytes → IsGap (45 ∷ bytes) []
comment_more bytes made =
    let line = made.2 in
    let whole : 45 ∷ bytes ≡ (45 ∷ (45 ∷ line.0)) ++ line.1 =
    ap (λ (w : List ℕ). 45 ∷ w) (made.1 ∙ ap (λ (w : List ℕ). 45 ∷ w) line.4) in
    let piece : IsPiece (45 ∷ (45 ∷ line.0)) line.1 = inr (line.0, line.2, refl, line.3) in
    subst (λ (w : List ℕ). IsGap w []) (sym whole) (gap_more (45 ∷ (45 ∷ line.0)) line.1 piece line.5)

made_of : (place : Place) (bytes : List ℕ) → IsSilent place bytes → IsMade place bytes
made_of places.Plain [] silent = gap_nil
made_of places.Plain (byte ∷ bytes) silent =
    elim (space_or_dash (is_space byte) (byte == 45) (shows_none places.Plain byte bytes silent)) [
      | inl space ↦
          let rest = silent_less places.Plain places.Plain byte bytes (space_stays byte space) silent in
          gap_more (byte ∷ []) bytes (inl (byte, space, refl)) (made_of places.Plain bytes rest)
      | inr dash ↦
          let is : byte ≡ 45 = eqb-true byte 45 dash in
          let leads : after places.Plain byte ≡ places.Dash = ap (λ (n : ℕ). after places.Plain n) is in
          let rest = silent_less places.Plain places.Dash byte bytes leads silent in
          subst (λ (n : ℕ). IsGap (n ∷ bytes) []) (sym is) (comment_more bytes (made_of places.Dash bytes rest))
    ]
made_of places.Dash [] silent = cc
made_of places.Dash (byte ∷ bytes) silent =
    let is : byte ≡ 45 = eqb-true byte 45 (not_false (byte == 45) (shows_none places.Dash byte bytes silent)) in
    let leads : after places.Dash byte ≡ places.Comment = ap (λ (n : ℕ). after places.Dash n) is in
    let rest = silent_less places.Dash places.Comment byte bytes leads silent in
    (bytes, ap (λ (n : ℕ). n ∷ bytes) is, made_of places.Comment bytes rest)
made_of places.Comment [] silent = ([], [], tt, tt, refl, gap_nil)
made_of places.Comment (byte ∷ bytes) silent = elim (cases_eq byte 10) [
  | inl feed ↦
      let leads : after places.Comment byte ≡ places.Plain = ap (λ (n : ℕ). after places.Comment n) feed in
      let rest = silent_less places.Comment places.Plain byte bytes leads silent in
      let space : IsTrue (is_space byte) = ap (λ (n : ℕ). is_space n) feed in
      let ends : IsFalse (in_line byte) = ap (λ (n : ℕ). in_line n) feed in
      let gap : IsGap (byte ∷ bytes) [] = gap_more (byte ∷ []) bytes (inl (byte, space, refl)) (made_of places.Plain bytes rest) in
      ([], byte ∷ bytes, tt, ends, refl, gap)
  | inr other ↦
      let no_feed : (byte == 10) ≡ false = ne_eqb byte 10 other in
      let stays : after places.Comment byte ≡ places.Comment =
      ap (λ (b : Bool). if b then places.Plain else places.Comment) no_feed in
      let line = made_of places.Comment bytes (silent_less places.Comment places.Comment byte bytes stays silent) in
      let goes_on : IsTrue (in_line byte) = ap (λ (b : Bool). not b) no_feed in
      (byte ∷ line.0, line.1, (goes_on, line.2), line.3, ap (λ (w : List ℕ). byte ∷ w) line.4, line.5)
]
made_of places.Text bytes silent = tt

and_first : (a b : Bool) → (not a && not b) ≡ true → a ≡ false
and_first true b both = cc
and_first false b both = refl

and_second : (a b : Bool) → (not a && not b) ≡ true → b ≡ false
and_second true b both = cc
and_second false b both = not_true b both

blank_silent : (text : List ℕ) → IsTrue (is_blank text) → IsSilent places.Plain text
blank_silent text blank = (
  and_first (shows_token places.Plain text) (is_dash (place_behind places.Plain text)) blank,
  and_second (shows_token places.Plain text) (is_dash (place_behind places.Plain text)) blank,
)

pub blank_is_gap : BlankIsGap
blank_is_gap text = (
  λ (blank : IsTrue (is_blank text)). made_of places.Plain text (blank_silent text blank),
  λ (gap : IsGap text []). silent_blank text (subst (λ (w : List ℕ). IsSilent places.Plain w) (sym gap.2) (silent_pieces gap.0 gap.1)),
)
