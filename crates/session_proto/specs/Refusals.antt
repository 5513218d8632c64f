-- Why a statement is refused, and the line that says so.
use Rattle.std.specs.Prelude.{ℕ, List, [], ◌∷◌, codes, Option, None, Some}
use Rattle.session_proto.specs.Replies.{ReplyData, MemberData, num, text, put}
use Rattle.session_proto.specs.Answers.{line}

-- Each cause with the values of its keys. An `Option ℕ` is the number of the change, from 1, inside
-- a commit.
pub data Refusal : Type 0 where
  -- the text is no statement, from this byte on
  lex : ℕ → Refusal
  syntax : ℕ → Refusal
  deep : ℕ → Refusal
  -- the session isn't ready for the statement
  in_transaction : Refusal
  not_in_transaction : Refusal
  no_certificate : Refusal
  not_built : Refusal
  -- a version (asked, highest and lowest), a name, or a number, of a query or of a change
  unkept : Option ℕ → ℕ → ℕ → ℕ → Refusal
  no_table : Option ℕ → List ℕ → Refusal
  no_column : Option ℕ → List ℕ → Refusal
  wrong_kind : Option ℕ → List ℕ → Refusal
  too_fine : Option ℕ → Refusal
  literal_range : Option ℕ → Refusal
  -- a query; the conjunct goes before the number given, or the total
  factor : Refusal
  limit_budget : ℕ → Refusal
  limit_conjuncts : ℕ → Refusal
  limit_terms : ℕ → ℕ → Refusal
  unbounded : Refusal
  limit_repeat : ℕ → Refusal
  limit_candidates : ℕ → Refusal
  too_large : ℕ → List ℕ → Refusal
  no_partition : List ℕ → Refusal
  -- a change, by its number
  table_exists : ℕ → List ℕ → Refusal
  duplicate_column : ℕ → List ℕ → Refusal
  bad_scale : ℕ → List ℕ → Refusal
  too_many_columns : ℕ → ℕ → Refusal
  limit_partition : ℕ → ℕ → Refusal
  -- a tuple: the change, how many values it has, its row, and how many it should have
  arity : ℕ → ℕ → ℕ → ℕ → Refusal
  -- a value: the change, the column and the row
  bad_cell : ℕ → List ℕ → ℕ → Refusal
  out_of_range : ℕ → List ℕ → ℕ → Refusal
  text_too_long : ℕ → List ℕ → ℕ → Refusal
  -- a commit, by the number that it would reach
  limit_tables : ℕ → Refusal
  limit_rows : ℕ → Refusal
  limit_commit : ℕ → Refusal
  limit_versions : ℕ → Refusal
  -- the body of LOAD; the column goes before the record
  limit_bytes : Refusal
  header : Refusal
  bad_record : ℕ → Refusal
  bad_field : List ℕ → ℕ → Refusal
  -- memory was out
  memory : Refusal

-- ---- the line

-- a refusal of this name: `error` and `status` go among its further keys
abbrev pub refused : List ℕ → List MemberData → ReplyData
refused error keys =
    line (put (codes "status") (text (codes "refused")) (put (codes "error") (text error) keys))

-- the number of the change, if there is one, goes among the keys
abbrev pub in_change : Option ℕ → List MemberData → List MemberData
in_change None keys = keys
in_change (Some change) keys = put (codes "change") (num change) keys

abbrev pub key_num : List ℕ → ℕ → MemberData
key_num key number = (key, num number)

abbrev pub of_change : ℕ → MemberData
of_change number = (codes "change", num number)

abbrev pub named : List ℕ → MemberData
named name = (codes "name", text name)

abbrev pub given : ℕ → MemberData
given number = (codes "given", num number)

-- the keys of a value of a row
abbrev pub cell : ℕ → List ℕ → ℕ → List MemberData
cell change column row =
    of_change change ∷ (codes "column", text column) ∷ key_num (codes "row") row ∷ []

abbrev pub refusal_of : Refusal → ReplyData
refusal_of (lex at) = refused (codes "lex") (key_num (codes "at") at ∷ [])
refusal_of (syntax at) = refused (codes "syntax") (key_num (codes "at") at ∷ [])
refusal_of (deep at) = refused (codes "deep") (key_num (codes "at") at ∷ [])
refusal_of in_transaction = refused (codes "intransaction") []
refusal_of not_in_transaction = refused (codes "notintransaction") []
refusal_of no_certificate = refused (codes "nocertificate") []
refusal_of not_built = refused (codes "notbuilt") []
refusal_of (unkept change asked high low) = refused (codes "unkept") (in_change change
    (key_num (codes "asked") asked ∷ key_num (codes "high") high ∷ key_num (codes "low") low ∷ []))
refusal_of (no_table change name) = refused (codes "notable") (in_change change (named name ∷ []))
refusal_of (no_column change name) =
    refused (codes "nocolumn") (in_change change (named name ∷ []))
refusal_of (wrong_kind change name) =
    refused (codes "wrongkind") (in_change change (named name ∷ []))
refusal_of (too_fine change) = refused (codes "toofine") (in_change change [])
refusal_of (literal_range change) = refused (codes "literalrange") (in_change change [])
refusal_of factor = refused (codes "factor") []
refusal_of (limit_budget number) = refused (codes "limitbudget") (given number ∷ [])
refusal_of (limit_conjuncts number) = refused (codes "limitconjuncts") (given number ∷ [])
refusal_of (limit_terms conjunct number) =
    refused (codes "limitterms") (key_num (codes "conjunct") conjunct ∷ given number ∷ [])
refusal_of unbounded = refused (codes "unbounded") []
refusal_of (limit_repeat number) = refused (codes "limitrepeat") (given number ∷ [])
refusal_of (limit_candidates number) = refused (codes "limitcandidates") (given number ∷ [])
refusal_of (too_large conjunct total) = refused (codes "toolarge")
    (key_num (codes "conjunct") conjunct ∷ (codes "total", text total) ∷ [])
refusal_of (no_partition name) = refused (codes "nopartition") (named name ∷ [])
refusal_of (table_exists change name) =
    refused (codes "tableexists") (of_change change ∷ named name ∷ [])
refusal_of (duplicate_column change name) =
    refused (codes "duplicatecolumn") (of_change change ∷ named name ∷ [])
refusal_of (bad_scale change name) =
    refused (codes "badscale") (of_change change ∷ named name ∷ [])
refusal_of (too_many_columns change number) =
    refused (codes "toomanycolumns") (of_change change ∷ given number ∷ [])
refusal_of (limit_partition change number) =
    refused (codes "limitpartition") (of_change change ∷ given number ∷ [])
refusal_of (arity change have row want) = refused (codes "arity")
    (of_change change ∷ key_num (codes "have") have
    ∷ key_num (codes "row") row ∷ key_num (codes "want") want ∷ [])
refusal_of (bad_cell change column row) = refused (codes "badcell") (cell change column row)
refusal_of (out_of_range change column row) =
    refused (codes "outofrange") (cell change column row)
refusal_of (text_too_long change column row) =
    refused (codes "texttoolong") (cell change column row)
refusal_of (limit_tables number) = refused (codes "limittables") (given number ∷ [])
refusal_of (limit_rows number) = refused (codes "limitrows") (given number ∷ [])
refusal_of (limit_commit number) = refused (codes "limitcommit") (given number ∷ [])
refusal_of (limit_versions number) = refused (codes "limitversions") (given number ∷ [])
refusal_of limit_bytes = refused (codes "limitbytes") []
refusal_of header = refused (codes "header") []
refusal_of (bad_record record_number) =
    refused (codes "badrecord") (key_num (codes "record") record_number ∷ [])
refusal_of (bad_field column record_number) = refused (codes "badcell")
    ((codes "column", text column) ∷ key_num (codes "record") record_number ∷ [])
refusal_of memory = refused (codes "memory") []
